use Rattle.std.proofs.Common.{◌≡◌, ◌+◌, ◌≤◌, ℕ, false, List, length, map, arith, sym, ap, refl, subst, ◌∙◌}
use Rattle.vd_machine.specs.File.{view, Plan}
use Rattle.vd_machine.proofs.Facts.{few_queues}
use Rattle.vd_play.specs.declared.epoch.PlayFault.{PlayFault}
use Rattle.vd_play.specs.Epochs.{mode_at}
use Rattle.vd_play.specs.Each.{HasLanes}
use Rattle.vd_play.specs.Played.{KeepsBench, IsFaultOf, IsPlayed, IsCut, AllCut, faulty}
use Rattle.vd_play.specs.Progress.{AllStopped, all_made, most_steps}
use Rattle.vd_play.specs.Rounds.{AllDone}
use Rattle.vd_play.specs.declared.floor.Lane.{Lane}
use Rattle.vd_play.specs.Setting.{setting_of, IsLawful}
use Rattle.vd_play.specs.Setup.{AllServe, HasSizes, IsUp}
use Rattle.vd_play.specs.Tree.{IsLaid}
use Rattle.vd_play.proofs.Setups.{still_serve}
use Rattle.vd_play.proofs.Benches.{keeps_none, keeps_through, lanes_kept, fault_later, same_many}
use Rattle.vd_play.proofs.Chained.{few_switches}
use Rattle.vd_play.proofs.ControlSettings.{settings_none}
use Rattle.vd_play.proofs.Cut.{if_err_by, if_err_any}
use Rattle.vd_play.proofs.Each.{each_queue}
use Rattle.vd_play.proofs.Lasting.{all_closed, all_low, last_epoch}
use Rattle.vd_play.proofs.Renewals.{all_can_reset, all_renewed, made_renewed}
use Rattle.vd_play.proofs.Sums.{sum_none}
use Rattle.vd_play.proofs.playing.play_machine.Goals as goal

pub loop-epoch-init : goal.loop-epoch-init
loop-epoch-init g c = record {
  many = c.requires.prepared.many;
  tree = c.requires.tree;
  parties = c.requires.prepared.parties;
  few = omega arith;
  keeps = keeps_none g.V.Device.party _ c.args.bench.now;
  faults = refl;
  counted = omega (
    arith,
    sum_none g.G.Guest.party.accesses c.args.bench.now.guests.items c.requires.prepared.idle.guests,
    sum_none g.V.Device.party.accesses c.args.bench.now.devices.items c.requires.prepared.idle.devices,
    sum_none (λ (l : Lane _ _ _). l.relayed) c.args.floor.lanes.items c.requires.prepared.none,
  );
  before = record {
    first = λ e. c.new_bus-bus.ensures;
    later = λ j is. absurd (omega (arith, is));
  };
  each = c.requires.prepared.each;
}

pub renew-requires-clause-devices : goal.renew-requires-clause-devices
renew-requires-clause-devices g c = λ is.
    all_can_reset (setting_of g.L.Driver.DriverEnd.driver g.L.Device.DeviceEnd.device g.L.Layout.layout g.G.Guest.party g.V.Device.party)
    (view c.args.m.now) c.loop-epoch.epoch (length c.args.m.now.queues) c.loop-epoch.floor.lanes.items c.loop-epoch.bench
    c.loop-epoch.bench c.loop-epoch.invariant.many c.loop-epoch.invariant.each c.loop-epoch.invariant.parties
    (omega (arith, c.loop-epoch-test.true, c.len-epoch-end.ensures)) is

pub attach_all-requires-clause-settings : goal.attach_all-requires-clause-settings
attach_all-requires-clause-settings g c = sym (settings_none (view c.args.m.now) c.loop-epoch.epoch c.requires.uncontrolled)

pub attach_all-requires-clause-parties : goal.attach_all-requires-clause-parties
attach_all-requires-clause-parties g c =
    let n : ℕ = length c.args.m.now.queues in
    lanes_kept g.V.Device.party n c.loop-epoch.bench c.renew.new.bench n c.renew.ensures.keeps c.loop-epoch.invariant.parties

pub attach_all-requires-clause-lanes : goal.attach_all-requires-clause-lanes
attach_all-requires-clause-lanes g c =
    all_renewed (setting_of g.L.Driver.DriverEnd.driver g.L.Device.DeviceEnd.device g.L.Layout.layout g.G.Guest.party g.V.Device.party)
    (view c.args.m.now) c.loop-epoch.epoch (length c.args.m.now.queues) c.loop-epoch.floor.lanes.items c.loop-epoch.bench
    c.renew.new.bench c.loop-epoch.invariant.many c.loop-epoch.invariant.each c.renew.ensures.guests c.renew.ensures.keeps
    c.renew.ensures.renewed

pub set_up-requires-clause-ends : goal.set_up-requires-clause-ends
set_up-requires-clause-ends g c =
    subst (λ (lanes : List (Lane _ _ _)). AllServe g.L.Device.DeviceEnd.device (view c.args.m.now) lanes) (sym c.as_slice.ensures.value)
    (still_serve (setting_of g.L.Driver.DriverEnd.driver g.L.Device.DeviceEnd.device g.L.Layout.layout g.G.Guest.party g.V.Device.party)
    (record { layout = g.met.L.Layout.lawful; guest = g.met.G.Guest.lawful; party = g.met.V.Device.lawful })
    (view c.args.m.now) c.loop-epoch.epoch (length c.args.m.now.queues) c.loop-epoch.floor.lanes.items c.loop-epoch.bench
    c.requires.prepared.layout c.loop-epoch.invariant.many c.loop-epoch.invariant.parties c.loop-epoch.invariant.each)

pub returns-in_err-attach_all-clause-keeps : goal.returns-in_err-attach_all-clause-keeps
returns-in_err-attach_all-clause-keeps g c =
    let m = g.V.Device.party in
    let n : ℕ = length c.args.m.now.queues in
    let renewed = keeps_through m n c.args.bench.now c.loop-epoch.bench c.renew.new.bench c.loop-epoch.invariant.keeps
    c.renew.ensures.keeps in
    keeps_through m n c.args.bench.now c.renew.new.bench c.attach_all.new.bench renewed c.attach_all.ensures.keeps

pub returns-in_err-attach_all-clause-fault : goal.returns-in_err-attach_all-clause-fault
returns-in_err-attach_all-clause-fault g c =
    let m = g.V.Device.party in
    let n : ℕ = length c.args.m.now.queues in
    let new = c.attach_all.new.bench in
    let renewed = keeps_through m n c.args.bench.now c.loop-epoch.bench c.renew.new.bench c.loop-epoch.invariant.keeps
    c.renew.ensures.keeps in
    let many = same_many m n c.args.bench.now c.renew.new.bench renewed in
    let fault = fault_later m n (faulty c.in_err-attach_all.field-0.0) c.args.bench.now c.renew.new.bench new many
    (c.renew.ensures.faults ∙ c.loop-epoch.invariant.faults) c.in_err-attach_all.ensures.fault in
    if_err_by c.from_residual.result (λ (z : PlayFault). z ≡ c.in_err-attach_all.field-0.0)
    (λ (z : PlayFault). IsFaultOf m n (faulty z) c.args.bench.now new) c.from_residual.ensures.1
    (λ (z : PlayFault) is. subst (λ (x : PlayFault). IsFaultOf m n (faulty x) c.args.bench.now new) (sym is) fault)

pub returns-in_err-attach_all-clause-cut : goal.returns-in_err-attach_all-clause-cut
returns-in_err-attach_all-clause-cut g c =
    let s = setting_of g.L.Driver.DriverEnd.driver g.L.Device.DeviceEnd.device g.L.Layout.layout g.G.Guest.party g.V.Device.party in
    if_err_any c.from_residual.result (λ (z : PlayFault). AllCut s (view c.args.m.now) c.attach_all.new.bench)
    (λ z. each_queue (IsCut s (view c.args.m.now)) (length c.args.m.now.queues) _ _ _
    (c.attach_all.ensures.many ∙ c.loop-epoch.invariant.many) c.in_err-attach_all.ensures.cut)

pub run_epoch-made-requires-clause-parties : goal.run_epoch-made-requires-clause-parties
run_epoch-made-requires-clause-parties g c =
    let n : ℕ = length c.args.m.now.queues in
    let many : length c.attach_all.new.floor.lanes.items ≡ n = c.attach_all.ensures.many ∙ c.loop-epoch.invariant.many in
    subst (λ j. HasLanes j c.attach_all.new.bench) (sym many)
    (lanes_kept g.V.Device.party n c.loop-epoch.bench c.attach_all.new.bench n
    (keeps_through g.V.Device.party n c.loop-epoch.bench c.renew.new.bench c.attach_all.new.bench c.renew.ensures.keeps
    c.attach_all.ensures.keeps) c.loop-epoch.invariant.parties)

pub run_epoch-made-requires-clause-few : goal.run_epoch-made-requires-clause-few
run_epoch-made-requires-clause-few g c =
    let many : length c.attach_all.new.floor.lanes.items ≡ length c.args.m.now.queues =
    c.attach_all.ensures.many ∙ c.loop-epoch.invariant.many in
    omega (arith, many, few_queues c.args.m.now.queues c.args.m.now.counted)

pub run_epoch-made-requires-clause-lanes : goal.run_epoch-made-requires-clause-lanes
run_epoch-made-requires-clause-lanes g c = (
  view c.args.m.now,
  c.loop-epoch.epoch,
  ap (λ t. t.mappings) c.attach_all.ensures.tree ∙ c.loop-epoch.invariant.tree.mapped,
  c.in_ok-attach_all.ensures.lanes,
)

pub loop-epoch-preserved : goal.loop-epoch-preserved
loop-epoch-preserved g c =
    let m = g.V.Device.party in
    let n : ℕ = length c.args.m.now.queues in
    let many : length c.attach_all.new.floor.lanes.items ≡ n = c.attach_all.ensures.many ∙ c.loop-epoch.invariant.many in
    let later : KeepsBench m n c.attach_all.new.bench c.run_epoch-made.new.bench =
    subst (λ j. KeepsBench m j c.attach_all.new.bench c.run_epoch-made.new.bench) many c.run_epoch-made.ensures.keeps in
    let attached = keeps_through m n c.loop-epoch.bench c.renew.new.bench c.attach_all.new.bench c.renew.ensures.keeps
    c.attach_all.ensures.keeps in
    let both = keeps_through m n c.loop-epoch.bench c.attach_all.new.bench c.run_epoch-made.new.bench attached later in
    let made = made_renewed
    (setting_of g.L.Driver.DriverEnd.driver g.L.Device.DeviceEnd.device g.L.Layout.layout g.G.Guest.party g.V.Device.party)
    (view c.args.m.now) c.loop-epoch.epoch n c.loop-epoch.floor.lanes.items c.loop-epoch.bench c.renew.new.bench
    c.loop-epoch.invariant.many c.loop-epoch.invariant.each c.renew.ensures.guests c.renew.ensures.counted in
    let laid = ap (λ t. t.mappings) c.attach_all.ensures.tree ∙ c.loop-epoch.invariant.tree.mapped in
    let ran = c.run_epoch-made.ensures.goes (view c.args.m.now) laid c.loop-epoch.epoch c.in_ok-attach_all.ensures.lanes in
    record {
      many = c.run_epoch-made.ensures.many ∙ many;
      tree = subst (λ t. IsLaid (view c.args.m.now) t.mappings) (sym (c.run_epoch-made.ensures.tree ∙ c.attach_all.ensures.tree))
          c.loop-epoch.invariant.tree;
      parties = lanes_kept m n c.loop-epoch.bench c.run_epoch-made.new.bench n both c.loop-epoch.invariant.parties;
      few = omega (arith, c.loop-epoch.invariant.few, c.run_epoch-made.ensures.few);
      keeps = keeps_through m n c.args.bench.now c.loop-epoch.bench c.run_epoch-made.new.bench c.loop-epoch.invariant.keeps both;
      faults = c.run_epoch-made.ensures.faults ∙ c.in_ok-attach_all.ensures.faults ∙ c.renew.ensures.faults
          ∙ c.loop-epoch.invariant.faults;
      counted = omega (arith, ran.1, c.in_ok-attach_all.ensures.counted, made, c.loop-epoch.invariant.counted);
      before = record {
        first = λ e. absurd (omega (arith, e));
        later = λ j is. subst (λ i. IsUp (view c.args.m.now) (mode_at (view c.args.m.now) i) c.attach_all.new.bus
            × HasSizes (view c.args.m.now) c.attach_all.new.bus) (omega (arith, is)) c.in_ok-attach_all.ensures.up;
      };
      each = ran.0;
    }

pub drain-made-requires-clause-parties : goal.drain-made-requires-clause-parties
drain-made-requires-clause-parties g c =
    subst (λ j. HasLanes j c.loop-epoch.bench) (sym c.loop-epoch.invariant.many) c.loop-epoch.invariant.parties

pub drain-made-requires-clause-few : goal.drain-made-requires-clause-few
drain-made-requires-clause-few g c = omega (arith, c.loop-epoch.invariant.many, few_queues c.args.m.now.queues c.args.m.now.counted)

pub drain-made-requires-clause-lanes : goal.drain-made-requires-clause-lanes
drain-made-requires-clause-lanes g c =
    let s = setting_of g.L.Driver.DriverEnd.driver g.L.Device.DeviceEnd.device g.L.Layout.layout g.G.Guest.party g.V.Device.party in
    let plan : Plan = view c.args.m.now in
    let k : ℕ = length plan.switches + 1 in
    let end : c.loop-epoch.epoch ≡ k + 1 = omega arith in (
      plan,
      k,
      c.loop-epoch.invariant.tree.mapped,
      last_epoch plan,
      all_closed s plan k c.loop-epoch.floor.lanes.items c.loop-epoch.bench
          (subst (λ (j : ℕ). AllStopped s plan j c.loop-epoch.floor.lanes.items c.loop-epoch.bench) end c.loop-epoch.invariant.each),
    )

pub halt_all-requires-clause-parties : goal.halt_all-requires-clause-parties
halt_all-requires-clause-parties g c =
    let m = g.V.Device.party in
    let n : ℕ = length c.loop-epoch.floor.lanes.items in
    let before : HasLanes n c.loop-epoch.bench =
    subst (λ j. HasLanes j c.loop-epoch.bench) (sym c.loop-epoch.invariant.many) c.loop-epoch.invariant.parties in
    subst (λ j. HasLanes j c.drain-made.new.bench) (sym c.drain-made.ensures.many)
    (lanes_kept m n c.loop-epoch.bench c.drain-made.new.bench n c.drain-made.ensures.keeps before)

pub halt_all-requires-clause-done : goal.halt_all-requires-clause-done
halt_all-requires-clause-done g c =
    subst (λ (j : ℕ). AllDone g.G.Guest.party j c.drain-made.new.bench) (sym c.drain-made.ensures.many) c.drain-made.ensures.done

pub halt_all-requires-clause-lanes : goal.halt_all-requires-clause-lanes
halt_all-requires-clause-lanes g c =
    let s = setting_of g.L.Driver.DriverEnd.driver g.L.Device.DeviceEnd.device g.L.Layout.layout g.G.Guest.party g.V.Device.party in
    let plan : Plan = view c.args.m.now in
    let k : ℕ = length plan.switches + 1 in
    let end : c.loop-epoch.epoch ≡ k + 1 = omega arith in
    let start = all_closed s plan k c.loop-epoch.floor.lanes.items c.loop-epoch.bench
    (subst (λ (j : ℕ). AllStopped s plan j c.loop-epoch.floor.lanes.items c.loop-epoch.bench) end c.loop-epoch.invariant.each) in
    let drained = c.drain-made.ensures.goes plan c.loop-epoch.invariant.tree.mapped k start in
    (plan, k, drained.0.0, last_epoch plan, drained.0.1)

pub returns-clause-keeps : goal.returns-clause-keeps
returns-clause-keeps g c =
    let m = g.V.Device.party in
    let n : ℕ = length c.args.m.now.queues in
    let many : length c.loop-epoch.floor.lanes.items ≡ n = c.loop-epoch.invariant.many in
    let one : KeepsBench m n c.loop-epoch.bench c.drain-made.new.bench =
    subst (λ j. KeepsBench m j c.loop-epoch.bench c.drain-made.new.bench) many c.drain-made.ensures.keeps in
    let two : KeepsBench m n c.drain-made.new.bench c.halt_all.new.bench =
    subst (λ j. KeepsBench m j c.drain-made.new.bench c.halt_all.new.bench)
    (c.drain-made.ensures.many ∙ many) c.halt_all.ensures.keeps in
    keeps_through m n c.args.bench.now c.loop-epoch.bench c.halt_all.new.bench c.loop-epoch.invariant.keeps
    (keeps_through m n c.loop-epoch.bench c.drain-made.new.bench c.halt_all.new.bench one two)

pub returns-clause-played : goal.returns-clause-played
returns-clause-played g c =
    let s = setting_of g.L.Driver.DriverEnd.driver g.L.Device.DeviceEnd.device g.L.Layout.layout g.G.Guest.party g.V.Device.party in
    let plan : Plan = view c.args.m.now in
    let k : ℕ = length plan.switches + 1 in
    let end : c.loop-epoch.epoch ≡ k + 1 = omega arith in
    let start = all_closed s plan k c.loop-epoch.floor.lanes.items c.loop-epoch.bench
    (subst (λ (j : ℕ). AllStopped s plan j c.loop-epoch.floor.lanes.items c.loop-epoch.bench) end c.loop-epoch.invariant.each) in
    let drained = c.drain-made.ensures.goes plan c.loop-epoch.invariant.tree.mapped k start in
    each_queue (IsPlayed s plan) (length c.args.m.now.queues) _ _ _ (c.drain-made.ensures.many ∙ c.loop-epoch.invariant.many)
    (c.halt_all.ensures.halted plan k drained.0.0 (last_epoch plan) drained.0.1)

pub returns-clause-counted : goal.returns-clause-counted
returns-clause-counted g c =
    let s = setting_of g.L.Driver.DriverEnd.driver g.L.Device.DeviceEnd.device g.L.Layout.layout g.G.Guest.party g.V.Device.party in
    let plan : Plan = view c.args.m.now in
    let k : ℕ = length plan.switches + 1 in
    let end : c.loop-epoch.epoch ≡ k + 1 = omega arith in
    let start = all_closed s plan k c.loop-epoch.floor.lanes.items c.loop-epoch.bench
    (subst (λ (j : ℕ). AllStopped s plan j c.loop-epoch.floor.lanes.items c.loop-epoch.bench) end c.loop-epoch.invariant.each) in
    let drained = c.drain-made.ensures.goes plan c.loop-epoch.invariant.tree.mapped k start in
    omega (arith, c.halt_all.ensures.counted, drained.1, c.loop-epoch.invariant.counted)

pub returns-clause-bound : goal.returns-clause-bound
returns-clause-bound g c =
    let s = setting_of g.L.Driver.DriverEnd.driver g.L.Device.DeviceEnd.device g.L.Layout.layout g.G.Guest.party g.V.Device.party in
    let m = g.V.Device.party in
    let plan : Plan = view c.args.m.now in
    let n : ℕ = length c.args.m.now.queues in
    let k : ℕ = length plan.switches + 1 in
    let end : c.loop-epoch.epoch ≡ k + 1 = omega arith in
    let start = all_closed s plan k c.loop-epoch.floor.lanes.items c.loop-epoch.bench
    (subst (λ (j : ℕ). AllStopped s plan j c.loop-epoch.floor.lanes.items c.loop-epoch.bench) end c.loop-epoch.invariant.each) in
    let drained = c.drain-made.ensures.goes plan c.loop-epoch.invariant.tree.mapped k start in
    let many : length c.loop-epoch.floor.lanes.items ≡ n = c.loop-epoch.invariant.many in
    let one : KeepsBench m n c.loop-epoch.bench c.drain-made.new.bench =
    subst (λ j. KeepsBench m j c.loop-epoch.bench c.drain-made.new.bench) many c.drain-made.ensures.keeps in
    let keeps = keeps_through m n c.args.bench.now c.loop-epoch.bench c.drain-made.new.bench c.loop-epoch.invariant.keeps one in
    let law : IsLawful s = record { layout = g.met.L.Layout.lawful; guest = g.met.G.Guest.lawful; party = g.met.V.Device.lawful } in
    let low : all_made s c.drain-made.new.floor.lanes.items c.drain-made.new.bench ≤ most_steps plan =
    all_low s plan law false k drained.0.0 c.drain-made.new.floor.lanes.items c.args.bench.now c.drain-made.new.bench
    (c.drain-made.ensures.many ∙ many) (lanes_kept m n c.args.bench.now c.drain-made.new.bench n keeps c.requires.prepared.parties)
    c.requires.prepared.idle keeps drained.0.1 in
    omega (arith, low, drained.1, c.loop-epoch.invariant.counted)

pub returns-clause-faults : goal.returns-clause-faults
returns-clause-faults g c =
    let m = g.V.Device.party in
    ap (λ xs. map m.faults xs.items) c.halt_all.ensures.devices ∙ c.drain-made.ensures.faults ∙ c.loop-epoch.invariant.faults

pub overflow_add-epoch-end : goal.overflow_add-epoch-end
overflow_add-epoch-end g c = omega (arith, c.len-epoch-end.ensures, few_switches c.args.m.now.switches c.args.m.now.switched)

pub overflow_add-made : goal.overflow_add-made
overflow_add-made g c = omega (
  arith,
  c.loop-epoch.invariant.few,
  c.run_epoch-made.ensures.few,
  c.loop-epoch-test.true,
  c.len-epoch-end.ensures,
  few_switches c.args.m.now.switches c.args.m.now.switched,
)

pub overflow_add-made-2 : goal.overflow_add-made-2
overflow_add-made-2 g c = omega (
  arith,
  c.loop-epoch.invariant.few,
  c.drain-made.ensures.few,
  c.loop-epoch.auto.epoch-end,
  c.len-epoch-end.ensures,
  few_switches c.args.m.now.switches c.args.m.now.switched,
)
