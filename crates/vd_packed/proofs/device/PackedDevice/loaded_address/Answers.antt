use Rattle.std.proofs.Common.{◌≡◌, ℕ, ◌+◌, ◌++◌, ◌∷◌, [], Some, List, length, sym, ap, ◌∙◌}
use Rattle.std.proofs.lemmas.List.{length_push}
use Rattle.std.specs.Vec.{with_item}
use Rattle.vd_model.specs.declared.chain.Piece.{Piece}
use Rattle.vd_packed_ring.specs.PackedWords.{id_of}
use Rattle.vd_packed_ring.specs.PackedChains.{piece_of}
use Rattle.vd_packed.specs.declared.device.PackedDevice.{PackedDevice}
use Rattle.vd_packed.specs.declared.device.DeviceStep.TheVariants as step
use Rattle.vd_packed.specs.declared.ring_position.RingPosition.{RingPosition}
use Rattle.vd_packed.specs.RingPositions.{forward}
use Rattle.vd_packed.proofs.device.PackedDevice.loaded_address.Goals as goal

-- the end after a chain was taken in: where its descriptors end, and how many they are
abbrev taken : PackedDevice → PackedDevice → RingPosition → ℕ → PackedDevice
taken e e2 ring_position n =
    record e {
      taken = e.taken + 1;
      next = ring_position;
      next_position = e.next_position + n;
      running =
          with_item e.running (id_of e.second) (Some e.taken);
      counts = with_item e.counts (id_of e.second) n;
      guesses = e2.guesses;
      pieces = e2.pieces;
      at = ring_position;
      doing = step.Idle;
    }

pub returns-clause-whole : goal.returns-clause-whole
returns-clause-whole c = λ off.
    let e : PackedDevice = c.args.self.now in let e' : PackedDevice = c.take_in.new.self in let e2 : PackedDevice =
    record e' { pieces = c.push.new.self } in
    let ring_position : RingPosition = c.forward-ring_position.result in let n : ℕ = c.len-count.result in
    let pushed = c.push.ensures.items ∙ ap (λ (q : Piece). e.pieces.items ++ q ∷ []) c.piece_from.ensures in
    let many : n ≡ length e.pieces.items + 1 =
    c.len-count.ensures.value ∙ (ap (λ (ps : List Piece). length ps) pushed
    ∙ length_push e.pieces.items (piece_of c.args.addr e.second)) in
    let kept = c.take_in.ensures.counted.kept in
    let same = ap (λ (z : PackedDevice). z.pieces) kept in (
      c.take_in.ensures.told,
      record {
        pushed = ap (λ (z : PackedDevice). z.pieces.items) kept ∙ pushed;
        guesses = c.take_in.ensures.counted.guesses;
        kept = kept ∙ (ap (λ ps. taken e (record e' { pieces = ps }) ring_position n) (sym same)
            ∙ (ap (λ s. taken e e' s n) c.forward-ring_position.ensures ∙ ap (taken e e' (forward e.at 1 e.size)) many));
      },
    )
