use Rattle.std.proofs.Common.{◌≡◌, true, false, refl, sym, ◌∙◌, subst}
use Rattle.vd_relay.specs.Ways.{Way, moving, Pairs, Carries}
use Rattle.vd_relay.proofs.GuestChains.{all_covered}
use Rattle.vd_relay.proofs.carrier.MoverCarrier.carry.Goals as goal

pub translate-requires : goal.translate-requires
translate-requires g c =
    let h = c.requires.3 in
    let w = c.requires.1 in
    let v = c.requires.2 in
    let ms = c.args.self.now.tree.now.mappings in
    all_covered ms w.frame v.frame c.args.chain.now (subst (λ (y : Way). Pairs y w.frame v.frame) h.goes h.paired) h.taken.fits

pub returns-clause-carried : goal.returns-clause-carried
returns-clause-carried g c = λ way w v h.
    let ms = c.args.self.now.tree.now.mappings in
    let paired : Pairs (moving ms) w.frame v.frame = subst (λ (y : Way). Pairs y w.frame v.frame) h.goes h.paired in
    record {
      carries = subst (λ (y : Way). Carries y c.args.chain.now c.translate.new.chain) (sym h.goes) c.translate.ensures.moved;
      control = λ on. let no : true ≡ false = sym on ∙ paired.shadow_plain in absurd (cc);
      goes = h.goes;
      took = refl;
    }
