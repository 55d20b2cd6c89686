-- What a chain text means: an optional count and `*`, and then pieces with one space between.
use Rattle.std.specs.Prelude.{ℕ, Bool, true, false, ◌&&◌, ◌==◌, nat_le, if◌then◌else◌, List, [], ◌∷◌, length, map, Option, Some, None, option_map, option_and_then}
use Rattle.std.specs.Char.{is_ascii_digit}
use Rattle.std.specs.List.{list_all}
use Rattle.std.specs.Str.Parse.{digits_value}
use Rattle.vd_model.specs.Chains.{total}
use Rattle.vd_model.specs.declared.chain.Piece.{Piece}
use Rattle.vd_model.specs.declared.record.Run.{Run}
use Rattle.vd_text.specs.declared.chains.TheConstants.{MOST_PIECES}

-- what stands before and after the first such byte
abbrev pub cut : ℕ → List ℕ → Option (List ℕ × List ℕ)
cut c [] = None
cut c (x ∷ xs) = if x == c then Some ([], xs) else option_map (λ p. (x ∷ p.0, p.1)) (cut c xs)

-- the first part with one byte more in front
abbrev pub grown : ℕ → List (List ℕ) → List (List ℕ)
grown x [] = (x ∷ []) ∷ []
grown x (w ∷ ws) = (x ∷ w) ∷ ws

-- the parts between the bytes c, one more than there are of these
abbrev pub split : ℕ → List ℕ → List (List ℕ)
split c [] = [] ∷ []
split c (x ∷ xs) = if x == c then [] ∷ split c xs else grown x (split c xs)

-- each of them, or None where one is None
abbrev pub all_some : {A : Type 0} → List (Option A) → Option (List A)
all_some [] = Some []
all_some (None ∷ os) = None
all_some (Some x ∷ os) = option_map (λ xs. x ∷ xs) (all_some os)

-- 1 to 20 decimal digits, with or without leading zeros
abbrev pub is_number : List ℕ → Bool
is_number ds = (nat_le 1 (length ds) && nat_le (length ds) 20) && list_all is_ascii_digit ds

-- the number that digits write, where it lies in these bounds
abbrev pub number : ℕ → ℕ → List ℕ → Option ℕ
number low most ds =
    if is_number ds && (nat_le low (digits_value 10 ds) && nat_le (digits_value 10 ds) most)
    then Some (digits_value 10 ds) else None

-- an address, below 2 ^ 63
abbrev pub address : List ℕ → Option ℕ
address = number 0 0x7fff_ffff_ffff_ffff

-- a length or a count, from 1 to 4,294,967,295
abbrev pub positive : List ℕ → Option ℕ
positive = number 1 0xffff_ffff

-- an address, `+`, a length
abbrev pub range : Bool → Option (List ℕ × List ℕ) → Option Piece
range write None = None
range write (Some p) = option_and_then (λ a. option_map (λ l. record { addr = a; len = l; write = write }) (positive p.1)) (address p.0)

-- `r` for a piece that the device reads or `w` for one that it writes, and a range
abbrev pub piece : List ℕ → Option Piece
piece [] = None
piece (c ∷ rest) = if c == 114 then range false (cut 43 rest) else if c == 119 then range true (cut 43 rest) else None

-- the pieces, with one space between
abbrev pub pieces : List ℕ → Option (List Piece)
pieces text = all_some (map piece (split 32 text))

-- behind a writable piece all are writable (VIRTIO 1.2, 2.7.4.2)
abbrev pub is_readable_first : List Piece → Bool
is_readable_first [] = true
is_readable_first (p ∷ ps) = if p.write then list_all (λ (q : Piece). q.write) ps else is_readable_first ps

-- the pieces, where the readable ones come first
abbrev pub if_readable_first : List Piece → Option (List Piece)
if_readable_first ps = if is_readable_first ps then Some ps else None

-- the pieces of a chain
abbrev pub chain : List ℕ → Option (List Piece)
chain text = option_and_then if_readable_first (pieces text)

-- a count and what stands after its `*`; without a `*` the count is 1
abbrev pub counted : List ℕ → Option (List ℕ × List ℕ) → Option (ℕ × List ℕ)
counted text None = Some (1, text)
counted text (Some p) = option_map (λ n. (n, p.1)) (positive p.0)

-- the count that a text begins with
abbrev pub count : List ℕ → Option (ℕ × List ℕ)
count text = counted text (cut 42 text)

-- the same chain, so many times
abbrev pub times : ℕ → List Piece → Run
times n ps = record { count = n; chain = ps }

-- what a chain text means: the same chain, so many times
unfoldable pub run : List ℕ → Option Run
run text = option_and_then (λ p. option_map (times p.0) (chain p.1)) (count text)

-- no more pieces than any chain may have, at most so many, and a total length below 2 ^ 32
abbrev pub is_within : ℕ → List Piece → Bool
is_within most ps = nat_le (length ps) MOST_PIECES && (nat_le (length ps) most && nat_le (total ps) 0xffff_ffff)

-- the run, where its chain is within the bounds
abbrev pub if_within : ℕ → Run → Option Run
if_within most r = if is_within most r.chain then Some r else None

-- what a chain text means, where its chain is within these bounds
unfoldable pub run_within : ℕ → List ℕ → Option Run
run_within most text = option_and_then (if_within most) (run text)

-- a byte at least
abbrev pub has_bytes : Piece → Bool
has_bytes p = nat_le 1 p.len

-- a piece at least, the readable ones first
abbrev pub is_ordered : List Piece → Bool
is_ordered ps = nat_le 1 (length ps) && is_readable_first ps

-- one chain or more of pieces with bytes, the readable ones first, within these bounds
abbrev pub is_lawful : ℕ → Run → Bool
is_lawful most r = nat_le 1 r.count && (list_all has_bytes r.chain && (is_ordered r.chain && is_within most r.chain))
