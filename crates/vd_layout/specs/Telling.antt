-- What a step of a device's end answers.
use Rattle.std.specs.Prelude.{List}
use Rattle.vd_model.specs.declared.chain.Piece.{Piece}
use Rattle.vd_ring.specs.declared.act.DeviceAct.{DeviceAct}
use Rattle.vd_ring.specs.declared.act.DeviceAct.TheVariants as act
use Rattle.vd_layout.specs.declared.device.Told.{Told}
use Rattle.vd_layout.specs.declared.device.Told.TheVariants as told

-- the answer of a step that told this, where the end has loaded these pieces
abbrev pub act_of : Told → List Piece → DeviceAct
act_of told.Moved ps = act.Moved
act_of (told.Taken k) ps = act.Taken k ps
act_of (told.Given k) ps = act.Given k
act_of told.Nothing ps = act.Nothing
act_of told.Armed ps = act.Armed
act_of told.Awake ps = act.Awake
act_of told.Asleep ps = act.Asleep
act_of told.Rested ps = act.Rested
