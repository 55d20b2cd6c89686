-- The bytes of each structure, every number lowest byte first.
use Rattle.std.specs.Prelude.{◌≡◌, ℕ, ◌<◌, ◌≤◌, ◌^◌, List, ◌++◌, [], ◌∷◌, drop, replicate}
use Rattle.byteorder.specs.Endian.{little_bytes, little_number}
use Rattle.vd_uapi.specs.declared.vring_state.VringState.{VringState}
use Rattle.vd_uapi.specs.declared.vring_addr.VringAddr.{VringAddr}
use Rattle.vd_uapi.specs.declared.message.Msg.{Msg}

-- the n bytes of a number, lowest first
unfoldable pub bytes_of : ℕ → ℕ → List ℕ
bytes_of n x = little_bytes n x

-- the number in the n bytes from a place on
unfoldable pub number_at : ℕ → ℕ → List ℕ → ℕ
number_at n at bytes = little_number n (drop at bytes)

-- struct vhost_vring_state of vhost.h: index, num
abbrev pub vring_state_bytes : VringState → List ℕ
vring_state_bytes v = bytes_of 4 v.index ++ bytes_of 4 v.num

-- struct vhost_vring_addr of vhost.h: index, flags, desc_user_addr, used_user_addr, avail_user_addr, log_guest_addr
abbrev pub vring_addr_bytes : VringAddr → List ℕ
vring_addr_bytes v =
    bytes_of 4 v.index ++ bytes_of 4 v.flags ++ bytes_of 8 v.desc ++ bytes_of 8 v.used ++ bytes_of 8 v.avail
    ++ bytes_of 8 v.log

-- the fields of struct vhost_msg_v2 and of the struct vhost_iotlb_msg in it, of vhost_types.h: type (VHOST_IOTLB_MSG_V2), asid,
-- iova, size, uaddr, perm, type
abbrev pub msg_fields : Msg → List ℕ
msg_fields m =
    bytes_of 4 2 ++ bytes_of 4 m.asid ++ bytes_of 8 m.iova ++ bytes_of 8 m.size ++ bytes_of 8 m.uaddr
    ++ m.perm ∷ m.kind ∷ []

-- the fields, and zeros up to the length of vhost_msg_v2
abbrev pub msg_bytes : Msg → List ℕ
msg_bytes m = msg_fields m ++ replicate 38 0

-- each field fits its type
pub record VringStateFits (v : VringState) : Type 0 where
  pub index : v.index < 2 ^ 32
  pub num : v.num < 2 ^ 32

pub record VringAddrFits (v : VringAddr) : Type 0 where
  pub index : v.index < 2 ^ 32
  pub flags : v.flags < 2 ^ 32
  pub desc : v.desc < 2 ^ 64
  pub used : v.used < 2 ^ 64
  pub avail : v.avail < 2 ^ 64
  pub log : v.log < 2 ^ 64

-- each field fits its type, the kind is known, and an update has a permission
pub record IsMsg (m : Msg) : Type 0 where
  pub asid : m.asid < 2 ^ 32
  pub iova : m.iova < 2 ^ 64
  pub size : m.size < 2 ^ 64
  pub uaddr : m.uaddr < 2 ^ 64
  pub perm : m.perm < 2 ^ 8
  pub kind : (1 ≤ m.kind) × (m.kind ≤ 6)
  pub update : m.kind ≡ 2 → (1 ≤ m.perm) × (m.perm ≤ 3)
