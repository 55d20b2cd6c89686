-- Where a command's words and its ack stand, and what is stored and offered for it.
use Rattle.std.specs.Prelude.{◌≡◌, ℕ, ◌+◌, ◌<◌, ◌≤◌, Bool, true, false, List, length}
use Rattle.vd_model.specs.declared.chain.Piece.{Piece}
use Rattle.vd_words.specs.declared.access.Access.{Access}
use Rattle.vd_words.specs.declared.access.Access.TheVariants.{Store}
use Rattle.vd_ring.specs.declared.driver.DriverNow.TheVariants as now
use Rattle.vd_ring.specs.declared.driver.DriverView.{DriverView}
use Rattle.vd_ring.specs.declared.frame.Frame.{Frame}
use Rattle.vd_ring.specs.History.{free, next_head}
use Rattle.vd_layout.specs.Driver.{DriverModel}
use Rattle.vd_layout.specs.Layout.{LayoutModel}
use Rattle.vd_commands.specs.Words.{command_word}
use Rattle.vd_bus.specs.GuestCommands.{control_chain}

-- the end of a control ring, and one of its heads
pub record HasPlaces {D : Type 0} (d : DriverModel D) (l : LayoutModel) (e : D) (h : ℕ) (v : DriverView) : Type 0 where
  pub stands : d.stands e v
  pub control : v.frame.control ≡ true
  pub sized : l.lawful_size v.frame.size ≡ true
  pub inside : h < v.frame.size

-- the idle end of a control ring with a free place
pub record IsReady {D : Type 0} (d : DriverModel D) (l : LayoutModel) (e : D) (v : DriverView) : Type 0 where
  pub stands : d.stands e v
  pub control : v.frame.control ≡ true
  pub sized : l.lawful_size v.frame.size ≡ true
  pub idle : v.doing ≡ now.Idle
  pub some : 0 < length (free v.frame v.done)

abbrev pub command_is : {D : Type 0} → DriverModel D → DriverView → ℕ → ℕ → Type 0
command_is d v h place = place ≡ d.words.command v.frame h

abbrev pub ack_is : {D : Type 0} → DriverModel D → DriverView → ℕ → ℕ → Type 0
ack_is d v h place = place ≡ d.words.ack v.frame h

-- the control chain of the next head
abbrev pub chain_is : {D : Type 0} → DriverModel D → DriverView → ℕ → List Piece → Type 0
chain_is d v len c =
    c ≡ control_chain (d.words.command v.frame (next_head v.frame v.done)) (d.words.ack v.frame (next_head v.frame v.done)) len

-- the store of the first or the second word of these bytes for the next head
abbrev pub next_store : {D : Type 0} → DriverModel D → DriverView → List ℕ → Bool → Access
next_store d v bytes false = Store (d.words.command v.frame (next_head v.frame v.done)) (command_word bytes 0)
next_store d v bytes true = Store (d.words.command v.frame (next_head v.frame v.done) + 1) (command_word bytes 1)

abbrev pub store_is : {D : Type 0} → DriverModel D → DriverView → List ℕ → Bool → Access → Type 0
store_is d v bytes second a = a ≡ next_store d v bytes second
