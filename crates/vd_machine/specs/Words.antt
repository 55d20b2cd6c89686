-- How many words of 64 bits all rings have.
use Rattle.std.specs.Prelude.{ℕ, ◌+◌, ◌*◌, ◌/◌, Bool, true, false, nat_le, if◌then◌else◌, List, [], ◌∷◌, length}
use Rattle.vd_model.specs.declared.base.Mode.{Mode}
use Rattle.vd_model.specs.declared.base.Mode.TheVariants as mode
use Rattle.vd_model.specs.declared.features.Features.{Features}
use Rattle.vd_machine.specs.declared.machine.Switch.{Switch}
use Rattle.vd_machine.specs.declared.machine.To.{To}
use Rattle.vd_machine.specs.declared.machine.To.TheVariants as to
use Rattle.vd_machine.specs.declared.words.TheConstants.{MOST_WORDS}

-- the words of a ring of n places between its descriptors and its tables: the driver area and the device area (VIRTIO 1.2, 2.7 and 2.8)
abbrev pub areas : Bool → ℕ → ℕ
areas true n = 2
areas false n = (n + 6) / 4 + (n + 1)

-- the words of its tables, 32 for each place
abbrev pub tables : Bool → ℕ → ℕ
tables indirect n = if indirect then 32 * n else 0

-- the words of a data ring: two of each descriptor, the areas, the tables and a bell of each side
abbrev pub ring_words : Bool → ℕ → Features → ℕ
ring_words packed n f = 2 * n + areas packed n + tables f.indirect n + 2

-- a control ring has two words more of each place for its command, and one for its ack
abbrev pub control_words : Bool → ℕ → Features → ℕ
control_words packed n f = ring_words packed n f + 3 * n

-- a renewal keeps the mode
abbrev pub mode_after : Mode → To → Mode
mode_after m to.Pass = mode.Pass
mode_after m to.Shadow = mode.Shadow
mode_after m to.Renew = m

-- an epoch of the mode shadow
abbrev pub if_shadow : Mode → ℕ
if_shadow mode.Pass = 0
if_shadow mode.Shadow = 1

-- how many epochs are of the mode shadow: one begins in the mode m, and one with each switch
abbrev pub shadow_epochs : Mode → List Switch → ℕ
shadow_epochs m [] = if_shadow m
shadow_epochs m (s ∷ ss) = if_shadow m + shadow_epochs (mode_after m s.to) ss

-- how many rings so many data queues have: each has its guest's, and one more for each of these epochs
abbrev pub ring_count : Mode → List Switch → ℕ → ℕ
ring_count start ss queues = queues * (1 + shadow_epochs start ss)

-- how many epochs there are: one begins at the start, one with each switch, and one closes
abbrev pub epochs : List Switch → ℕ
epochs ss = 1 + length ss + 1

-- how many rings the control queue has, where there is one: its guest's, and one more for each epoch
abbrev pub control_count : Bool → List Switch → ℕ
control_count on ss = if on then 1 + epochs ss else 0

-- the words of so many data rings and so many control rings
abbrev pub all_words : Bool → ℕ → Features → ℕ → ℕ → ℕ
all_words packed n f rings controls = ring_words packed n f * rings + control_words packed n f * controls

-- no more words than there may be
abbrev pub are_few_words : ℕ → Bool
are_few_words words = nat_le words MOST_WORDS
