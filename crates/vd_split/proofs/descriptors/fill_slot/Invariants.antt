use Rattle.std.proofs.Common.{◌≡◌, take, drop}
use Rattle.vd_split.proofs.descriptors.fill_slot.Given as goal

abbrev pub invariant-loop : goal.invariant-loop
invariant-loop l = record {
  numbered : l.slot.number ≡ l.number;
  placed : l.slot.places.items ≡ take l.counter l.initial.free.items;
  left : l.free.items ≡ drop l.counter l.initial.free.items;
  room : l.free.capacity ≡ l.initial.free.capacity;
}
