-- The fields that are read where a structure's bytes stand are the structure's.
use Rattle.std.proofs.Common.{◌≡◌, List, [], ℕ, refl, arith, ◌++◌, length, length-append}
use Rattle.vd_uapi.specs.Bytes.{bytes_of, number_at, vring_state_bytes, VringStateFits, vring_addr_bytes, VringAddrFits}
use Rattle.vd_uapi.specs.declared.vring_state.VringState.{VringState}
use Rattle.vd_uapi.specs.declared.vring_addr.VringAddr.{VringAddr}
use Rattle.vd_uapi.proofs.ByteLaws.{Front, peel, read_next, length-bytes_of}

pub length-vring_state : (v : VringState) → length (vring_state_bytes v) ≡ 8
length-vring_state v =
    omega (arith, length-append (bytes_of 4 v.index) (bytes_of 4 v.num), length-bytes_of 4 v.index, length-bytes_of 4 v.num)

pub state_is : (v : VringState) (bs rest : List ℕ) (index num : ℕ) → VringStateFits v → bs ≡ vring_state_bytes v ++ rest
    → index ≡ number_at 4 0 bs → num ≡ number_at 4 4 bs → (let w : VringState = record { index = index; num = num } in w) ≡ v
state_is v bs rest index num fits e a b =
    let f2 : Front bs (vring_state_bytes v) rest 8 = record { is = e; len = length-vring_state v } in
    let f1 = peel (bytes_of 4 v.index) (bytes_of 4 v.num) 4 4 (length-bytes_of 4 v.num) f2 in
    let f0 = peel [] (bytes_of 4 v.index) 0 4 (length-bytes_of 4 v.index) f1 in
    let index_is : index ≡ v.index = read_next 4 v.index _ f0 fits.index a in
    let num_is : num ≡ v.num = read_next 4 v.num _ f1 fits.num b in
    rw (index_is, num_is) refl

-- the bytes of an address structure up to each field
pub length-vring_addr : (v : VringAddr) → length (vring_addr_bytes v) ≡ 40
length-vring_addr v =
    let f = bytes_of 4 v.index in
    let g = f ++ bytes_of 4 v.flags in
    let h = g ++ bytes_of 8 v.desc in
    let i = h ++ bytes_of 8 v.used in
    let j = i ++ bytes_of 8 v.avail in
    omega (
      arith,
      length-append f (bytes_of 4 v.flags),
      length-append g (bytes_of 8 v.desc),
      length-append h (bytes_of 8 v.used),
      length-append i (bytes_of 8 v.avail),
      length-append j (bytes_of 8 v.log),
      length-bytes_of 4 v.index,
      length-bytes_of 4 v.flags,
      length-bytes_of 8 v.desc,
      length-bytes_of 8 v.used,
      length-bytes_of 8 v.avail,
      length-bytes_of 8 v.log,
    )

pub addr_is : (v : VringAddr) (bs rest : List ℕ) (index flags desc used avail log : ℕ) → VringAddrFits v → bs ≡ vring_addr_bytes v ++ rest
    → index ≡ number_at 4 0 bs → flags ≡ number_at 4 4 bs → desc ≡ number_at 8 8 bs → used ≡ number_at 8 16 bs → avail ≡ number_at 8 24 bs
    → log ≡ number_at 8 32 bs
    → (let w : VringAddr = record { index = index; flags = flags; desc = desc; used = used; avail = avail; log = log } in w) ≡ v
addr_is v bs rest index flags desc used avail log fits e a b c d g h =
    let f6 : Front bs (vring_addr_bytes v) rest 40 = record { is = e; len = length-vring_addr v } in
    let f5 = peel (bytes_of 4 v.index ++ bytes_of 4 v.flags ++ bytes_of 8 v.desc ++ bytes_of 8 v.used ++ bytes_of 8 v.avail)
    (bytes_of 8 v.log) 32 8 (length-bytes_of 8 v.log) f6 in
    let f4 = peel (bytes_of 4 v.index ++ bytes_of 4 v.flags ++ bytes_of 8 v.desc ++ bytes_of 8 v.used) (bytes_of 8 v.avail) 24 8
    (length-bytes_of 8 v.avail) f5 in
    let f3 = peel (bytes_of 4 v.index ++ bytes_of 4 v.flags ++ bytes_of 8 v.desc) (bytes_of 8 v.used) 16 8 (length-bytes_of 8 v.used) f4 in
    let f2 = peel (bytes_of 4 v.index ++ bytes_of 4 v.flags) (bytes_of 8 v.desc) 8 8 (length-bytes_of 8 v.desc) f3 in
    let f1 = peel (bytes_of 4 v.index) (bytes_of 4 v.flags) 4 4 (length-bytes_of 4 v.flags) f2 in
    let f0 = peel [] (bytes_of 4 v.index) 0 4 (length-bytes_of 4 v.index) f1 in
    let index_is : index ≡ v.index = read_next 4 v.index _ f0 fits.index a in
    let flags_is : flags ≡ v.flags = read_next 4 v.flags _ f1 fits.flags b in
    let desc_is : desc ≡ v.desc = read_next 8 v.desc _ f2 fits.desc c in
    let used_is : used ≡ v.used = read_next 8 v.used _ f3 fits.used d in
    let avail_is : avail ≡ v.avail = read_next 8 v.avail _ f4 fits.avail g in
    let log_is : log ≡ v.log = read_next 8 v.log _ f5 fits.log h in
    rw (index_is, flags_is, desc_is, used_is, avail_is, log_is) refl
