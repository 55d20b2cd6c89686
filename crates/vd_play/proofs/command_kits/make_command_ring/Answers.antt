use Rattle.std.proofs.Common.{ℕ, refl, ap, ◌∙◌, replicate}
use Rattle.vd_ring.specs.declared.frame.Frame.{Frame}
use Rattle.vd_machine.specs.File.{view}
use Rattle.vd_play.specs.ControlRings.{control_shadow_frame}
use Rattle.vd_play.proofs.command_kits.make_command_ring.Goals as goal

pub returns : goal.returns
returns g c =
    let f : Frame = control_shadow_frame g.L.Layout.layout (view c.args.m.now) c.args.epoch in
    record {
      numbered = c.in_ok-words.ensures.0;
      words = c.in_ok-words.ensures.1 ∙ ap (λ (n : ℕ). replicate n 0)
          (c.words-words.ensures f (record { packed = refl; size = refl; features = refl; control = refl }));
      kit = c.in_ok-kit.ensures;
    }
