-- The operation that an end has begun, with its arguments.
use Rattle.std.specs.Prelude.{◌≡◌, ◌⊎◌, ℕ, List}
use Rattle.vd_model.specs.declared.chain.Piece.{Piece}
use Rattle.vd_words.specs.declared.access.Op.{Op}
use Rattle.vd_words.specs.declared.access.Op.TheVariants as op

-- of a driver's end; `signal` comes after the publishing store: the check of what was published, and its bell
pub data DriverOp : Type 0 where
  idle : DriverOp
  offer : List Piece → DriverOp
  collect : DriverOp
  arm : DriverOp
  hear : DriverOp
  disarm : DriverOp
  signal : DriverOp

-- of a device's end; a give has the chain's number and the length in bytes
pub data DeviceOp : Type 0 where
  idle : DeviceOp
  take : DeviceOp
  give : ℕ → ℕ → DeviceOp
  rest : DeviceOp
  arm : DeviceOp
  hear : DeviceOp
  disarm : DeviceOp
  signal : DeviceOp

-- after a publishing store the end is idle, or goes on with its check and bell
abbrev pub DriverPublished : DriverOp → Type 0
DriverPublished b = (b ≡ DriverOp.idle) ⊎ (b ≡ DriverOp.signal)

abbrev pub DevicePublished : DeviceOp → Type 0
DevicePublished b = (b ≡ DeviceOp.idle) ⊎ (b ≡ DeviceOp.signal)

-- an operation that may end with Awake
abbrev pub MayWake : DriverOp → Type 0
MayWake DriverOp.arm = Unit {0}
MayWake DriverOp.hear = Unit {0}
MayWake DriverOp.disarm = Unit {0}
MayWake _ = ⊥

abbrev pub DeviceMayWake : DeviceOp → Type 0
DeviceMayWake DeviceOp.arm = Unit {0}
DeviceMayWake DeviceOp.hear = Unit {0}
DeviceMayWake DeviceOp.disarm = Unit {0}
DeviceMayWake _ = ⊥

-- the operation after an access that ends none but a signal
abbrev pub DriverGoesOn : DriverOp → DriverOp → Type 0
DriverGoesOn DriverOp.signal b = DriverPublished b
DriverGoesOn a b = b ≡ a

abbrev pub DeviceGoesOn : DeviceOp → DeviceOp → Type 0
DeviceGoesOn DeviceOp.signal b = DevicePublished b
DeviceGoesOn a b = b ≡ a

-- an access of the operation begun; a signal's belong to the operation that published
abbrev pub IsDriverOp : DriverOp → Op → Type 0
IsDriverOp DriverOp.idle o = ⊥
IsDriverOp (DriverOp.offer c) o = o ≡ op.Offer
IsDriverOp DriverOp.collect o = o ≡ op.Collect
IsDriverOp DriverOp.arm o = o ≡ op.Arm
IsDriverOp DriverOp.hear o = o ≡ op.Hear
IsDriverOp DriverOp.disarm o = o ≡ op.Disarm
IsDriverOp DriverOp.signal o = o ≡ op.Offer

abbrev pub IsDeviceOp : DeviceOp → Op → Type 0
IsDeviceOp DeviceOp.idle o = ⊥
IsDeviceOp DeviceOp.take o = o ≡ op.Take
IsDeviceOp (DeviceOp.give k n) o = o ≡ op.Give
IsDeviceOp DeviceOp.rest o = o ≡ op.Rest
IsDeviceOp DeviceOp.arm o = o ≡ op.Arm
IsDeviceOp DeviceOp.hear o = o ≡ op.Hear
IsDeviceOp DeviceOp.disarm o = o ≡ op.Disarm
IsDeviceOp DeviceOp.signal o = o ≡ op.Give
