use Rattle.std.proofs.Common.{◌≡◌, refl, sym, ap, ◌∙◌, subst, List}
use Rattle.vd_model.specs.declared.record.Run.{Run}
use Rattle.vd_model.specs.declared.record.Script.{Script}
use Rattle.vd_bus.specs.Guest.{CanBoot}
use Rattle.vd_models.specs.declared.driving.Loaded.{Loaded}
use Rattle.vd_models.specs.declared.pending.Pending.TheVariants as hand
use Rattle.vd_models.specs.Cursors.{left_at, IsSettled}
use Rattle.vd_models.specs.Driving.{drive, script_of, offered_of, returned_of, loaded_of}
use Rattle.vd_models.proofs.GuestParties.{boots, first_paid, loaded_is, quiet, same_script}
use Rattle.vd_models.proofs.guest.ModelGuestGuest.boot.Goals as goal

pub returns : goal.returns
returns g c =
    let d = g.L.Driver.DriverEnd.driver in
    let m = c.args.self.now in
    let y = c.in-Loaded.loaded in
    let is_y = sym c.replace.ensures.value ∙ c.in-Loaded.is in
    let plan = loaded_is m.phase y is_y c.requires.loaded in
    let none = sym (ap (λ p. offered_of (loaded_of p)) is_y) ∙ c.requires.unused.0 in
    let empty = sym (ap (λ p. returned_of (loaded_of p)) is_y) ∙ c.requires.unused.1 in
    let quiet = quiet m.phase y m.counts is_y m.fresh in
    let l : Loaded = record {
      script = y.script;
      total = y.total;
      at = c.settle-at.result;
      offered = y.offered;
      returned = y.returned;
      stage = c.first_stage-stage.result;
      hand = hand.Free;
    } in
    record {
      holds = λ v s is stands can. record {
        plan = record { total = plan.total; few = plan.few; room = plan.room };
        drives = boots d g.L.Layout.layout c.args.end y c.settle-at.result c.first_stage-stage.result v c.requires.idle plan none empty
            (subst (λ (rs : List Run). left_at rs c.settle-at.result ≡ left_at rs
            (record { run = 0; used = 0 })) c.as_slice.ensures c.settle-at.ensures.left)
            (subst (λ
            (rs : List Run). IsSettled rs c.settle-at.result) c.as_slice.ensures c.settle-at.ensures.settled)
            c.first_stage-stage.ensures stands
            (subst (λ (z : Script). CanBoot g.L.Layout.layout z v) (sym (same_script y.script s (sym (ap (λ p. script_of
            (loaded_of p)) is_y) ∙ is))) can);
        paid = first_paid d (drive c.args.end l) v m.counts _ refl c.requires.idle quiet;
      };
      script = sym (ap (λ p. script_of (loaded_of p)) is_y);
      offered = sym (ap (λ p. offered_of (loaded_of p)) is_y);
      returned = sym (ap (λ p. returned_of (loaded_of p)) is_y);
      counts = (refl, refl);
    }
