use Rattle.std.proofs.Common.{◌∙◌, ℕ, List, Some, None, replicate, subst, ap, refl, sym, false, arith, inr}
use Rattle.vd_model.specs.declared.map.Mapping.{Mapping}
use Rattle.vd_ring.specs.declared.frame.Frame.{Frame}
use Rattle.vd_ring.specs.declared.device.DeviceView.{DeviceView}
use Rattle.vd_ring.specs.declared.driver.DriverView.{DriverView}
use Rattle.vd_ring.specs.Fresh.{fresh_driver, fresh_device}
use Rattle.vd_layout.specs.Layout.{IsMadeWith}
use Rattle.vd_layout.specs.Both.{plain_frame}
use Rattle.vd_models.specs.laws.Pairs.{can_boot}
use Rattle.vd_relay.specs.Moving.{start}
use Rattle.vd_relayed.specs.Bridges.{guest_frame, shadow_frame}
use Rattle.vd_relayed.proofs.Covering.{covers_own, may_stand_in}
use Rattle.vd_relayed.proofs.Opening.{words_are}
use Rattle.vd_relayed.proofs.bridge.Bridge.new.Goals as goal

pub new-relay-requires-clause-unarmed : goal.new-relay-requires-clause-unarmed
new-relay-requires-clause-unarmed g c =
    let l = g.L.Layout.layout in
    let f : Frame = plain_frame l 0 c.args.size c.args.f false None in
    let with : IsMadeWith l c.args.size c.args.f false f = record { packed = refl; size = refl; features = refl; control = refl } in
    let fresh = c.in_ok-driver.ensures in
    g.met.L.Layout.lawful.device_end.unarmed_still c.in_ok-driver.end (fresh_device f (l.width f)) (fresh.serves f with) (inr fresh.unused)

pub returns : goal.returns
returns g c =
    let l = g.L.Layout.layout in
    let ms : List Mapping = c.args.tree.mappings in
    let f : Frame = guest_frame l c.args.size c.args.f ms in
    let h : Frame = shadow_frame l c.args.size c.args.f in
    let with : IsMadeWith l c.args.size c.args.f false f = record { packed = refl; size = refl; features = refl; control = refl } in
    let other : IsMadeWith l c.args.size c.args.f false h = record { packed = refl; size = refl; features = refl; control = refl } in
    let fresh = c.in_ok-driver.ensures in
    let shadow = c.in_ok-shadow_driver.ensures in
    let view : DriverView = fresh_driver f (l.width f) in
    let device_view : DeviceView = fresh_device f (l.width f) in
    let shadow_view : DriverView = fresh_driver h (l.width h) in
    let shadow_device_view : DeviceView = fresh_device h (l.width h) in
    let small = c.if-not-is_small.ensures refl in
    let made = c.new-relay.ensures in
    record {
      words = words_are _ 0 _ c.in_ok-words.ensures.0 (c.in_ok-words.ensures.1 ∙ ap (λ n. replicate n 0) (c.words.ensures f with));
      shadow = words_are _ 16 _ c.in_ok-shadow_words.ensures.0
          (c.in_ok-shadow_words.ensures.1 ∙ ap (λ n. replicate n 0) (c.words-3.ensures h other));
      drives = c.boot.ensures.holds view c.in_ok-script.script (c.in_ok-load.ensures.ok.1) (fresh.drives f with) (can_boot l f
          (l.width f) c.in_ok-script.script c.args.count c.args.chain.now c.in_ok-script.ensures
          (may_stand_in f ms c.args.chain.now small.0 small.1 small.2 small.3 refl (c.if-not-is_mapped.ensures.all refl)) refl);
      serves = c.if-not-attach.ensures.holds refl shadow_device_view (shadow.serves h other) refl;
      relays = made.holds refl ms device_view shadow_view (record {
        serves = fresh.serves f with;
        drives = shadow.drives h other;
        paired = record {
          bounds = ms;
          bounded = refl;
          covers = covers_own c.args.tree c.is_mapped.ensures.kept;
          free = refl;
          size = refl;
          features = refl;
          guest_plain = refl;
          shadow_plain = refl;
          guest = omega arith;
          shadow = omega arith;
        };
        outstanding = refl;
        fresh = refl;
        empty = ap (λ t. t.origins) c.in_ok-table.ensures;
      });
      script = c.boot.ensures.script ∙ c.in_ok-load.ensures.ok.1 ∙ ap Some c.in_ok-script.ensures;
      offered = c.boot.ensures.offered ∙ c.load.ensures.offered ∙ c.requires.guest.1;
      returned = c.boot.ensures.returned ∙ c.load.ensures.returned ∙ c.requires.guest.2;
      attached = c.if-not-attach.ensures.attached refl shadow_device_view (shadow.serves h other) refl;
      begun = c.if-not-attach.ensures.begun refl;
      live = made.live;
      winding = made.winding;
      counts = made.counts;
      map = refl;
    }

pub invariant_of-result : goal.invariant_of-result
invariant_of-result g c =
    let l = g.L.Layout.layout in
    let law = g.met.L.Layout.lawful in
    let ms : List Mapping = c.args.tree.mappings in
    let f : Frame = plain_frame l 0 c.args.size c.args.f false (Some ms) in
    let h : Frame = plain_frame l 16 c.args.size c.args.f false None in
    let with : IsMadeWith l c.args.size c.args.f false f = record { packed = refl; size = refl; features = refl; control = refl } in
    let other : IsMadeWith l c.args.size c.args.f false h = record { packed = refl; size = refl; features = refl; control = refl } in
    let fresh = c.in_ok-driver.ensures in
    let shadow = c.in_ok-shadow_driver.ensures in
    let words = c.in_ok-words.ensures.1 ∙ ap (λ n. replicate n 0) (c.words.ensures f with) in
    let shadow_words = c.in_ok-shadow_words.ensures.1 ∙ ap (λ n. replicate n 0) (c.words-3.ensures h other) in
    let view : DriverView = fresh_driver f (l.width f) in
    let device_view : DeviceView = fresh_device f (l.width f) in
    let shadow_view : DriverView = fresh_driver h (l.width h) in
    let shadow_device_view : DeviceView = fresh_device h (l.width h) in
    let small = c.if-not-is_small.ensures refl in (
      record {
        start = start ms device_view;
        view = view;
        device_view = device_view;
        shadow_view = shadow_view;
        shadow_device_view = shadow_device_view;
        ring = subst (λ (us : List ℕ). l.ring us view device_view) (sym words) (law.opens c.args.size c.args.f false f c.requires.can with);
        shadow_ring = subst (λ (us : List ℕ). l.ring us shadow_view shadow_device_view) (sym shadow_words)
            (law.opens c.args.size c.args.f false h c.requires.can other);
        drives = c.boot.ensures.holds view c.in_ok-script.script (c.in_ok-load.ensures.ok.1) (fresh.drives f with) (can_boot l f
            (l.width f) c.in_ok-script.script c.args.count c.args.chain.now c.in_ok-script.ensures
            (may_stand_in f ms c.args.chain.now small.0 small.1 small.2 small.3 refl (c.if-not-is_mapped.ensures.all refl)) refl);
        serves = c.if-not-attach.ensures.holds refl shadow_device_view (shadow.serves h other) refl;
        relays = c.new-relay.ensures.holds refl ms device_view shadow_view (record {
          serves = fresh.serves f with;
          drives = shadow.drives h other;
          paired = record {
            bounds = ms;
            bounded = refl;
            covers = covers_own c.args.tree c.is_mapped.ensures.kept;
            free = refl;
            size = refl;
            features = refl;
            guest_plain = refl;
            shadow_plain = refl;
            guest = omega arith;
            shadow = omega arith;
          };
          outstanding = refl;
          fresh = refl;
          empty = ap (λ t. t.origins) c.in_ok-table.ensures;
        });
        map = refl;
      },
      c.new-relay.ensures.plain refl,
    )
