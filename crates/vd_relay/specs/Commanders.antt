-- A control queue's carrier: by which way it carries, and what it has in hand after a take, an offer and a collect.
use Rattle.std.specs.Prelude.{◌≡◌, ℕ, ◌<◌, true, Some, None, IsSome, length, slice_set}
use Rattle.vd_model.specs.Chains.{readable}
use Rattle.vd_layout.specs.Layout.{LayoutModel}
use Rattle.vd_table.specs.declared.Command.{Command}
use Rattle.vd_table.specs.Rows.{row}
use Rattle.vd_relay.specs.declared.carry.Carry.TheVariants.{First, Offer, LoadAck}
use Rattle.vd_relay.specs.declared.carry.Carry.TheVariants as carry
use Rattle.vd_relay.specs.declared.commander.Commander.{Commander}
use Rattle.vd_relay.specs.Carriers.{CarrierModel}
use Rattle.vd_relay.specs.Carrying.{IsCommandAt}
use Rattle.vd_relay.specs.Ways.{carrying}

-- to a ring of a lawful size; the command just taken, with its places on the guest's ring, isn't loaded yet. The command in hand is
-- kept at its head once it is offered, and in hand again where it came back
abbrev pub commander : LayoutModel → CarrierModel Commander
commander l = record {
  by = λ x way g. (n : ℕ) × (way ≡ carrying n) × (l.lawful_size g.size ≡ true);
  took = λ x number c x'. (x'.commands ≡ x.commands) × ((a b : ℕ) → IsCommandAt a b c
      → x'.hand ≡ First (record { number = number; place = a; ack_place = b; count = readable c }));
  may_offer = λ x h. (c : Command) × (x.hand ≡ Offer c) × (h < length x.commands) × (row x.commands h ≡ None);
  offered = λ x h x'. (c : Command) → x.hand ≡ Offer c
      → (x'.hand ≡ carry.None) × (x'.commands ≡ slice_set x.commands h (Some c));
  may_collect = λ x h. (h < length x.commands) × IsSome (row x.commands h);
  collected = λ x h x'. (c : Command) → row x.commands h ≡ Some c
      → (x'.hand ≡ LoadAck h c) × (x'.commands ≡ slice_set x.commands h None);
}
