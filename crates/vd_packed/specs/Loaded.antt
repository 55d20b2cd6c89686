-- What the device's end is after a word of a take was loaded, by what it was before.
use Rattle.std.specs.Prelude.{◌≡◌, ℕ, ◌+◌, ◌<◌, ◌++◌, ◌∷◌, ◌&&◌, ◌==◌, [], Bool, length, Some}
use Rattle.std.specs.Vec.{with_item}
use Rattle.vd_model.specs.declared.chain.Piece.{Piece}
use Rattle.vd_packed_ring.specs.PackedWords.{id_of, names_table}
use Rattle.vd_packed_ring.specs.PackedChains.{piece_of}
use Rattle.vd_packed.specs.declared.device.PackedDevice.{PackedDevice}
use Rattle.vd_packed.specs.declared.device.DeviceStep.TheVariants as step
use Rattle.vd_packed.specs.declared.ring_position.RingPosition.{RingPosition}
use Rattle.vd_packed.specs.RingPositions.{forward}

-- a second word that shows a chain
pub record HasSeen (word : ℕ) (e e' : PackedDevice) : Type 0 where
  pub empty : e'.pieces.items ≡ []
  pub kept : e' ≡ record e { pieces = e'.pieces; second = word; at = e.next; doing = step.Address }

-- the second word loaded last is that of the first descriptor, and names a table
abbrev pub names_its_table : PackedDevice → Bool
names_its_table e = (e.features.indirect && (length e.pieces.items == 0)) && names_table e.second

-- the address of a descriptor that another follows
pub record HasMore (addr : ℕ) (e e' : PackedDevice) : Type 0 where
  pub pushed : e'.pieces.items ≡ e.pieces.items ++ piece_of addr e.second ∷ []
  pub kept : e' ≡ record e { pieces = e'.pieces; at = forward e.at 1 e.size; doing = step.Second }

-- a piece of a table that another follows
pub record HasPiece (x : Piece) (e e' : PackedDevice) : Type 0 where
  pub pushed : e'.pieces.items ≡ e.pieces.items ++ x ∷ []
  pub kept : e' ≡ record e { pieces = e'.pieces; doing = step.TableAddress }

-- a chain with this id may be counted
pub record MayTake (e : PackedDevice) (id : ℕ) : Type 0 where
  pub running : id < length e.running.items
  pub counts : id < length e.counts.items
  pub guesses : 0 < length e.guesses.items
  pub number : e.taken < 4294967295
  pub position : e.next_position < 1000000000000

-- the end that counted a chain of n descriptors, which runs with the id of the second word loaded last
pub record HasCounted (n : ℕ) (e e' : PackedDevice) : Type 0 where
  pub guesses : length e'.guesses.items ≡ length e.guesses.items
  pub kept :
      e' ≡ record e {
        taken = e.taken + 1;
        next = e.at;
        next_position = e.next_position + n;
        running = with_item e.running (id_of e.second) (Some e.taken);
        counts = with_item e.counts (id_of e.second) n;
        guesses = e'.guesses;
        doing = step.Idle;
      }

-- the same after its last piece was loaded, where its descriptors end at this ring_position
pub record HasTaken (x : Piece) (ring_position : RingPosition) (n : ℕ) (e e' : PackedDevice) : Type 0 where
  pub pushed : e'.pieces.items ≡ e.pieces.items ++ x ∷ []
  pub guesses : length e'.guesses.items ≡ length e.guesses.items
  pub kept :
      e' ≡ record e {
        taken = e.taken + 1;
        next = ring_position;
        next_position = e.next_position + n;
        running = with_item e.running (id_of e.second) (Some e.taken);
        counts = with_item e.counts (id_of e.second) n;
        guesses = e'.guesses;
        pieces = e'.pieces;
        at = ring_position;
        doing = step.Idle;
      }
