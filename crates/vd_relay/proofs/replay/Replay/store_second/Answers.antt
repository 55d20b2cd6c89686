use Rattle.std.proofs.Common.{ℕ, ◌+◌, List, length, sym, ◌∙◌, ap, subst, arith}
use Rattle.vd_model.specs.Chains.{IsChain}
use Rattle.vd_layout.specs.Begun.{DriverOp}
use Rattle.vd_layout.specs.Driver.{MayOffer}
use Rattle.vd_relay.proofs.ReplayChains.{spelled_few}
use Rattle.vd_relay.proofs.ReplayWords.{may_store}
use Rattle.vd_relay.proofs.ReplayControl.{next_second, may_offer_here, store_second, word_of, count_of}
use Rattle.vd_relay.proofs.replay.Replay.store_second.Goals as goal

pub access-requires : goal.access-requires
access-requires g c =
    let o = c.requires.own in
    let l = g.L.Layout.layout in
    let d = g.L.Driver.DriverEnd.driver in
    let e = g.L.Device.DeviceEnd.device in
    let lay = g.met.L.Layout.lawful in
    let n = next_second g.Q.Port.port l d e lay c.args.port.now c.args.port.now c.args.self.now c.args.shadow.now o.0 o.1 c.requires.at in
    o.2.may _ _ (may_store l d e lay c.args.shadow.now o.0 n 1 (c.command_place-place.result + 1) c.words_of-words.result.second
    (omega arith) (omega (arith, c.command_place-place.ensures.value o.0 n)))

pub begin_offer-requires-clause-may : goal.begin_offer-requires-clause-may
begin_offer-requires-clause-may g c =
    let o = c.requires.own in
    let l = g.L.Layout.layout in
    let d = g.L.Driver.DriverEnd.driver in
    let e = g.L.Device.DeviceEnd.device in
    let lay = g.met.L.Layout.lawful in
    let n = next_second g.Q.Port.port l d e lay c.args.port.now c.args.port.now c.args.self.now c.args.shadow.now o.0 o.1 c.requires.at in
    let is = c.next_chain-chain.ensures.value o.0 n in
    let few = spelled_few c.replay_at.result c.replay_at.ensures.lawful in
    let len = c.len.ensures.value ∙ ap (λ (z : List ℕ). length z) c.write-bytes.ensures.bytes in (
      o.0,
      o.1.drives,
      subst (λ z. MayOffer d.words o.0 z) (sym is)
          (may_offer_here g.Q.Port.port l d e lay c.args.port.now c.args.port.now c.args.self.now c.args.shadow.now o.0 o.1 c.len.result
          c.requires.at (omega (arith, few.0, len)) (omega (arith, few.1, len)) (subst
          (λ z. IsChain z) is c.next_chain-chain.ensures.lawful)),
    )

pub returns-clause-turn : goal.returns-clause-turn
returns-clause-turn g c = λ v h own.
    let l = g.L.Layout.layout in
    let d = g.L.Driver.DriverEnd.driver in
    let e = g.L.Device.DeviceEnd.device in
    let lay = g.met.L.Layout.lawful in
    let n = next_second g.Q.Port.port l d e lay c.args.port.now c.args.port.now c.args.self.now c.args.shadow.now v h c.requires.at in
    let is = c.next_chain-chain.ensures.value v n in
    let few = spelled_few c.replay_at.result c.replay_at.ensures.lawful in
    let len = c.len.ensures.value ∙ ap (λ (z : List ℕ). length z) c.write-bytes.ensures.bytes in
    store_second g.Q.Port.port l d e lay c.args.port.now c.access.new.self c.args.self.now c.args.shadow.now v h
    (c.command_place-place.result + 1) c.words_of-words.result.second c.access.result c.len.result c.begin_offer.new.self c.requires.at
    (omega (arith, c.command_place-place.ensures.value v n))
    (λ a at. word_of c.args.self.now 1 c.replay_at.result a c.write-bytes.result.items c.as_slice.result.now c.words_of-words.result.second
    c.replay_at.ensures.value at c.write-bytes.ensures.bytes c.as_slice.ensures.value c.words_of-words.ensures.second) c.access.ensures
    (omega (arith, few.0, len)) (omega (arith, few.1, len))
    (λ a at. count_of c.args.self.now c.replay_at.result a c.len.result c.replay_at.ensures.value at len)
    (subst (λ z. IsChain z) is c.next_chain-chain.ensures.lawful) (c.begin_offer.ensures.begun ∙ ap DriverOp.offer is)
    (λ u stands may. c.begin_offer.ensures.stands u stands (subst (λ z. MayOffer d.words u z) (sym is) may)) c.begin_offer.ensures.left
