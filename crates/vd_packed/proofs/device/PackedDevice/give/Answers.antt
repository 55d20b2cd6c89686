use Rattle.std.proofs.Common.{ℕ, slice_index_or, ◌+◌, ◌*◌, None, sym, ◌∙◌, subst, arith}
use Rattle.std.specs.Vec.{with_item}
use Rattle.vd_words.specs.declared.access.Access.TheVariants.{Store}
use Rattle.vd_words.specs.declared.access.Op.TheVariants as op
use Rattle.vd_ring.specs.declared.act.DeviceAct.TheVariants as act
use Rattle.vd_ring.specs.declared.device.DeviceView.{DeviceView}
use Rattle.vd_packed.specs.declared.device.DeviceStep.TheVariants as step
use Rattle.vd_packed.specs.declared.device.PackedDevice.{PackedDevice}
use Rattle.vd_packed.specs.declared.ring_position.RingPosition.{RingPosition}
use Rattle.vd_packed.specs.DeviceEnd.{IsCount}
use Rattle.vd_packed.specs.laws.DeviceGiving.{Goes, made, give_facts, give_goes, given_fits}
use Rattle.vd_packed.proofs.device.PackedDevice.give.Goals as goal

pub access-requires : goal.access-requires
access-requires g c =
    let e : PackedDevice = c.args.self.now in let x : ℕ = c.used_word-word.result in let v : DeviceView = c.requires.own.0 in
    let facts = give_facts e v c.args.number c.args.head c.args.len c.requires.now c.requires.own.1 in
    c.requires.own.2.may op.Give (Store (2 * e.used.place + 1) x)
    (give_goes e v 0 c.args.number c.args.head c.args.len x (slice_index_or e.counts.items c.args.head 0) c.requires.now
    c.requires.own.1 c.used_word-word.ensures (facts.3 0)).next

pub overflow_add-self-3 : goal.overflow_add-self-3
overflow_add-self-3 g c =
    let e : PackedDevice = c.args.self.now in let v : DeviceView = c.requires.own.0 in let n : ℕ = c.index-count.result.now in
    let counted = (give_facts e v c.args.number c.args.head c.args.len c.requires.now c.requires.own.1).3 n in
    omega (arith, given_fits e v c.args.number n c.requires.own.1 (c.index-count.ensures ∙ counted.0) (omega (arith, c.fits-self)))

pub returns-clause-did : goal.returns-clause-did
returns-clause-did g c = λ v st own.
    let e : PackedDevice = c.args.self.now in let x : ℕ = c.used_word-word.result in let n : ℕ = c.index-count.result.now in
    made g.P.Port.port c.args.port.now c.access.new.self e
    (record e {
      given = e.given + 1;
      used = c.forward-ring_position.result;
      used_position = e.used_position + n;
      running =
          with_item e.running c.args.head None;
      doing = step.Check n;
    }) v op.Give (Store (2 * e.used.place + 1) x) c.access.result
    (act.Given c.args.number)
    (subst (λ (s : RingPosition). Goes e (record e {
      given = e.given + 1;
      used = s;
      used_position = e.used_position + n;
      running =
          with_item e.running c.args.head None;
      doing = step.Check n;
    }) v op.Give (Store (2 * e.used.place + 1) x) c.access.result
    (act.Given c.args.number)) (sym c.forward-ring_position.ensures)
    (give_goes e v c.access.result c.args.number c.args.head c.args.len x n c.requires.now st c.used_word-word.ensures
    (subst (λ (k : ℕ). IsCount k v.frame v.done c.args.number) (sym c.index-count.ensures)
    ((give_facts e v c.args.number c.args.head c.args.len c.requires.now st).3 n))))
    c.access.ensures
