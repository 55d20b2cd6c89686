use Rattle.std.proofs.Common.{◌+◌, ◌++◌, ◌∷◌, [], Some, sym, ap, ◌∙◌}
use Rattle.std.specs.Vec.{with_item}
use Rattle.vd_model.specs.declared.chain.Piece.{Piece}
use Rattle.vd_packed_ring.specs.PackedWords.{id_of}
use Rattle.vd_packed.specs.declared.device.PackedDevice.{PackedDevice}
use Rattle.vd_packed.specs.declared.device.DeviceStep.TheVariants as step
use Rattle.vd_packed.proofs.device.PackedDevice.loaded_table_second.Goals as goal

-- the end after a chain was taken in, whose one descriptor ends where it stands
abbrev taken : PackedDevice → PackedDevice → PackedDevice
taken e e2 =
    record e {
      taken = e.taken + 1;
      next = e.at;
      next_position = e.next_position + 1;
      running =
          with_item e.running (id_of e.second) (Some e.taken);
      counts = with_item e.counts (id_of e.second) 1;
      guesses = e2.guesses;
      pieces = e2.pieces;
      doing = step.Idle;
    }

pub returns-clause-whole : goal.returns-clause-whole
returns-clause-whole c = λ last.
    let e : PackedDevice = c.args.self.now in let e' : PackedDevice = c.take_in.new.self in
    let pushed = c.push.ensures.items ∙ ap (λ (q : Piece). e.pieces.items ++ q ∷ []) c.piece_from.ensures in
    let kept = c.take_in.ensures.counted.kept in
    let same = ap (λ (z : PackedDevice). z.pieces) kept in (
      c.take_in.ensures.told,
      record {
        pushed = ap (λ (z : PackedDevice). z.pieces.items) kept ∙ pushed;
        guesses = c.take_in.ensures.counted.guesses;
        kept = kept ∙ ap (λ ps. taken e (record e' { pieces = ps })) (sym same);
      },
    )
