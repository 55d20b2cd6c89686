-- What a model device holds, whatever queue it is attached to, and its pace.
use Rattle.std.specs.Prelude.{◌≡◌, ℕ, ◌+◌, ◌*◌, ◌<◌, ◌≤◌, ◌==◌, Bool, true, false, if◌then◌else◌, Option, Some, None, List, length}
use Rattle.vd_model.specs.declared.record.Begun.{Begun}
use Rattle.vd_ring.specs.declared.device.DeviceView.{DeviceView}
use Rattle.vd_layout.specs.Device.{DeviceModel}
use Rattle.vd_control.specs.declared.settings.Settings.{Settings}
use Rattle.vd_bus.specs.declared.device.Attached.{Attached}
use Rattle.vd_bus.specs.declared.event.Event.{Event}
use Rattle.vd_bus.specs.declared.journal.Journal.{Journal}
use Rattle.vd_bus.specs.Device.{gave}
use Rattle.vd_bus.specs.DeviceCommands.{set_since}
use Rattle.vd_bus.specs.Orders.{IsData, IsControl}
use Rattle.vd_bus.specs.Pace.{last_count, KeepsPace, attaches}
use Rattle.vd_models.specs.declared.commanding.Commanding.{Commanding}
use Rattle.vd_models.specs.declared.counts.Counts.{Counts}
use Rattle.vd_models.specs.declared.hand.Hand.TheVariants.{Free}
use Rattle.vd_models.specs.declared.serving.Phase.{Phase}
use Rattle.vd_models.specs.declared.serving.Phase.TheVariants as phase
use Rattle.vd_models.specs.declared.serving.Session.{Session}
use Rattle.vd_models.specs.Commanding.{Commands, command_owes}
use Rattle.vd_models.specs.Serving.{state, Serves, owes_at}
use Rattle.vd_models.specs.Stages.{is_done}

-- the accesses made and those owed are within the pace, for counts below the last
abbrev pub IsPaid : Counts → ℕ → ℕ → Type 0
IsPaid c owed did = c.accesses < last_count → c.heard < last_count → c.accesses + owed ≤ 64 * (did + c.heard)

-- it is attached, and its end stands for the view
pub record IsAttached {E : Type 0} (e : DeviceModel E) (s : Session E) (journal : Journal) (counts : Counts) (w : DeviceView)
    : Type 0 where
  pub serves : Serves e (state s journal.begun) w
  pub paid : IsPaid counts (owes_at e (state s journal.begun) w)
      (length journal.begun.items + gave s.by w + attaches journal.events.items)
  pub event : 0 < journal.events.room
  pub for_data : IsData s.by.queue

-- the same of the control queue's device
pub record IsCommanding {E : Type 0} (e : DeviceModel E) (c : Commanding E) (journal : Journal) (counts : Counts) (now : Settings)
    (w : DeviceView) : Type 0 where
  pub commands : Commands e c.session c.hand journal.begun w
  pub paid : IsPaid counts (command_owes e c.session c.hand journal.begun w)
      (length journal.begun.items + gave c.session.by w + attaches journal.events.items)
  pub event : 0 < journal.events.room
  pub for_control : IsControl c.session.by.queue
  -- the settings are those at the attach, changed by each command that it began
  pub set : now ≡ set_since c.session.by.at journal.begun.items c.at_attach

abbrev pub Holds : {E : Type 0} → DeviceModel E → Phase E → Journal → Counts → Settings → DeviceView → Type 0
Holds e (phase.Serving s) journal counts now w = IsAttached e s journal counts w
Holds e (phase.Commanding c) journal counts now w = IsCommanding e c journal counts now w
Holds e _ journal counts now w = ⊥

abbrev pub attached_of : {E : Type 0} → Phase E → Option Attached
attached_of (phase.Serving s) = Some s.by
attached_of (phase.Commanding c) = Some c.session.by
attached_of _ = None

abbrev pub is_done_of : {E : Type 0} → Phase E → Bool
is_done_of (phase.Serving s) = is_done s.stage
is_done_of (phase.Commanding c) = is_done c.session.stage
is_done_of _ = false

abbrev pub session_of : {E : Type 0} → Phase E → Option (Session E)
session_of (phase.Serving s) = Some s
session_of (phase.Commanding c) = Some c.session
session_of _ = None

-- what is held from an attach on
abbrev pub phase_at : {E : Type 0} → Session E → Settings → Phase E
phase_at s settings = if s.by.queue == 15 then phase.Commanding (record { session = s; hand = Free; at_attach = settings })
    else phase.Serving s

-- the settings at its attach: on a data queue they stay as they are
abbrev pub settings_of : {E : Type 0} → Phase E → Settings → Settings
settings_of (phase.Commanding c) now = c.at_attach
settings_of _ now = now

-- while it isn't attached it keeps the pace: all that it began it gave
abbrev pub PacesFree : {E : Type 0} → Phase E → Counts → List Begun → List Event → Type 0
PacesFree p c bs es = attached_of p ≡ None → KeepsPace c.accesses c.heard (length bs + length bs + c.heard + attaches es)
