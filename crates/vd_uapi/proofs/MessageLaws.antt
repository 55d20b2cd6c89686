-- The fields that are read where a message's bytes stand are the message's, and what is read spells the bytes.
use Rattle.std.proofs.Common.{◌≡◌, ◌<◌, ◌≤◌, ◌∙◌, ap, sym, List, [], ◌∷◌, ℕ, refl, arith, ◌++◌, length, length-append, get_or, drop, drop-cons, append_assoc}
use Rattle.std.proofs.lemmas.List.{get_or-append_right}
use Rattle.vd_uapi.specs.Bytes.{bytes_of, number_at, msg_fields, IsMsg}
use Rattle.vd_uapi.specs.declared.message.Msg.{Msg}
use Rattle.vd_uapi.proofs.ByteLaws.{Front, peel, read_next, length-bytes_of, spelled}

numbers_of : Msg → List ℕ
numbers_of m = bytes_of 4 2 ++ bytes_of 4 m.asid ++ bytes_of 8 m.iova ++ bytes_of 8 m.size ++ bytes_of 8 m.uaddr

length-numbers : (m : Msg) → length (numbers_of m) ≡ 32
unfolding numbers_of
length-numbers m =
    let f = bytes_of 4 2 in
    let g = f ++ bytes_of 4 m.asid in
    let h = g ++ bytes_of 8 m.iova in
    let i = h ++ bytes_of 8 m.size in
    omega (
      arith,
      length-append f (bytes_of 4 m.asid),
      length-append g (bytes_of 8 m.iova),
      length-append h (bytes_of 8 m.size),
      length-append i (bytes_of 8 m.uaddr),
      length-bytes_of 4 2,
      length-bytes_of 4 m.asid,
      length-bytes_of 8 m.iova,
      length-bytes_of 8 m.size,
      length-bytes_of 8 m.uaddr,
    )

-- the numbers of a message stand in front of its two last fields
numbers_front : (m : Msg) (bs rest : List ℕ) → bs ≡ msg_fields m ++ rest → Front bs (numbers_of m) (m.perm ∷ m.kind ∷ rest) 32
unfolding numbers_of
numbers_front m bs rest e = record { is = e ∙ append_assoc _ (m.perm ∷ m.kind ∷ []) rest; len = length-numbers m }

pub perm_is : (m : Msg) (bs rest : List ℕ) → bs ≡ msg_fields m ++ rest → get_or bs 32 0 ≡ m.perm
perm_is m bs rest e = let f = numbers_front m bs rest e in
    ap (λ (q : List ℕ). get_or q 32 0) f.is ∙ get_or-append_right (numbers_of m) (m.perm ∷ m.kind ∷ rest) 32 32 0 f.len (omega arith)

pub kind_is : (m : Msg) (bs rest : List ℕ) → bs ≡ msg_fields m ++ rest → get_or bs 33 0 ≡ m.kind
kind_is m bs rest e = let f = numbers_front m bs rest e in
    ap (λ (q : List ℕ). get_or q 33 0) f.is ∙ get_or-append_right (numbers_of m) (m.perm ∷ m.kind ∷ rest) 32 33 0 f.len (omega arith)

-- each number of a message is the one that is read at its place
pub record NumbersAre (m : Msg) (bs : List ℕ) : Type 0 where
  pub version : number_at 4 0 bs ≡ 2
  pub asid : number_at 4 4 bs ≡ m.asid
  pub iova : number_at 8 8 bs ≡ m.iova
  pub size : number_at 8 16 bs ≡ m.size
  pub uaddr : number_at 8 24 bs ≡ m.uaddr

pub numbers_are : (m : Msg) (bs rest : List ℕ) → IsMsg m → bs ≡ msg_fields m ++ rest → NumbersAre m bs
unfolding numbers_of
numbers_are m bs rest known e =
    let f5 = numbers_front m bs rest e in
    let f4 = peel (bytes_of 4 2 ++ bytes_of 4 m.asid ++ bytes_of 8 m.iova ++ bytes_of 8 m.size) (bytes_of 8 m.uaddr) 24 8
    (length-bytes_of 8 m.uaddr) f5 in
    let f3 = peel (bytes_of 4 2 ++ bytes_of 4 m.asid ++ bytes_of 8 m.iova) (bytes_of 8 m.size) 16 8 (length-bytes_of 8 m.size) f4 in
    let f2 = peel (bytes_of 4 2 ++ bytes_of 4 m.asid) (bytes_of 8 m.iova) 8 8 (length-bytes_of 8 m.iova) f3 in
    let f1 = peel (bytes_of 4 2) (bytes_of 4 m.asid) 4 4 (length-bytes_of 4 m.asid) f2 in
    let f0 = peel [] (bytes_of 4 2) 0 4 (length-bytes_of 4 2) f1 in
    record {
      version = read_next 4 2 _ f0 (omega arith) refl;
      asid = read_next 4 m.asid _ f1 known.asid refl;
      iova = read_next 8 m.iova _ f2 known.iova refl;
      size = read_next 8 m.size _ f3 known.size refl;
      uaddr = read_next 8 m.uaddr _ f4 known.uaddr refl;
    }

-- one field more stands spelled
more : (bs front mid field rest : List ℕ) → bs ≡ front ++ mid → mid ≡ field ++ rest → bs ≡ front ++ field ++ rest
more bs front mid field rest e g = e ∙ ap (λ (q : List ℕ). front ++ q) g ∙ sym (append_assoc front field rest)

-- what is read spells the bytes
pub spells : (m : Msg) (bs : List ℕ) → ((k : ℕ) → get_or bs k 0 < 256) → 72 ≤ length bs → number_at 4 0 bs ≡ 2
    → drop 4 bs ≡ bytes_of 4 m.asid ++ drop 8 bs → drop 8 bs ≡ bytes_of 8 m.iova ++ drop 16 bs
    → drop 16 bs ≡ bytes_of 8 m.size ++ drop 24 bs
    → drop 24 bs ≡ bytes_of 8 m.uaddr ++ drop 32 bs → m.perm ≡ get_or bs 32 0 → m.kind ≡ get_or bs 33 0 → bs ≡ msg_fields m ++ drop 34 bs
spells m bs b l v s1 s2 s3 s4 p k =
    let s0 : bs ≡ bytes_of 4 2 ++ drop 4 bs = spelled 4 0 bs b (omega arith) ∙ ap (λ (y : ℕ). bytes_of 4 y ++ drop 4 bs) v in
    let s5 : drop 32 bs ≡ m.perm ∷ m.kind ∷ drop 34 bs =
    drop-cons bs 32 0 (omega arith) ∙ ap (λ (q : List ℕ). get_or bs 32 0 ∷ q) (drop-cons bs 33 0 (omega arith))
    ∙ ap (λ (y : ℕ). y ∷ get_or bs 33 0 ∷ drop 34 bs) (sym p) ∙ ap (λ (y : ℕ). m.perm ∷ y ∷ drop 34 bs) (sym k) in
    let e1 = more bs (bytes_of 4 2) _ (bytes_of 4 m.asid) (drop 8 bs) s0 s1 in
    let e2 = more bs _ _ (bytes_of 8 m.iova) (drop 16 bs) e1 s2 in
    let e3 = more bs _ _ (bytes_of 8 m.size) (drop 24 bs) e2 s3 in
    let e4 = more bs _ _ (bytes_of 8 m.uaddr) (drop 32 bs) e3 s4 in
    more bs _ _ (m.perm ∷ m.kind ∷ []) (drop 34 bs) e4 s5
