-- Settings that commands can leave, and commands that bytes can spell.
use Rattle.std.proofs.Common.{◌≡◌, ℕ, ◌+◌, ◌*◌, ◌<◌, ◌^◌, ◌==◌, nat_lt, nat_le, List, [], ◌∷◌, length, drop, fold, refl, Bool, true, false, not, ◌&&◌, ◌||◌, ◌∙◌, Option, Some, None, arith, All, get_or, slice_index, replicate, length-set, length-drop, IfSome, inl, inr, if◌then◌else◌}
use Rattle.std.specs.List.{filter_map, cons_option}
use Rattle.std.proofs.lemmas.List.{length-replicate, get_or-replicate, get_or-drop, get_or_past}
use Rattle.std.proofs.lemmas.List.Elements.{All-head, All-tail}
use Rattle.std.proofs.lemmas.Bool.{and_parts, eqb-true, leb-true, ltb-true, cases_lt}
use Rattle.vd_control.specs.declared.command.Command.{Command}
use Rattle.vd_control.specs.declared.command.TheConstants.{MOST_PAIRS}
use Rattle.vd_control.specs.declared.command.Command.TheVariants.{Rx, Mac, VlanAdd, VlanDel, Pairs, Offloads}
use Rattle.vd_control.specs.declared.settings.Settings.{Settings}
use Rattle.vd_control.specs.Commands.{IsCommand, command, is_row, le16, le64}
use Rattle.vd_control.specs.Settings.{HasPairs, applied, default, folded, has_vlan, words_of}
use Rattle.vd_control.proofs.Bits.{number_of-small}
use Rattle.vd_control.proofs.Words.{IsWords, get_or-words_of, length-words_of, words_of_same, has_vlan-words_of}

-- settings that commands can leave
pub record IsSettings (s : Settings) : Type 0 where
  pub flags : length s.rx ≡ 6
  pub mac : length s.mac ≡ 6
  pub vlans : IsWords s.vlans
  pub pairs : HasPairs s
  pub offloads : s.offloads < 2 ^ 64

pub IsWords-words_of : (p : ℕ → Bool) → IsWords (words_of p)
IsWords-words_of p = record {
  many = length-words_of p;
  small = λ k h. rw (get_or-words_of p k h) (number_of-small 64 (λ place. p (64 * k + place)));
}

pub IsWords-zeros : IsWords (replicate 64 0)
IsWords-zeros = record {
  many = length-replicate {A = ℕ} 64 0;
  small = λ k h. rw (get_or-replicate {A = ℕ} 64 k 0 0 h) (omega arith);
}

-- sets that agree have the same words
pub words_of_agree : (p q : ℕ → Bool) → ((v : ℕ) → v < 4096 → p v ≡ q v) → words_of p ≡ words_of q
words_of_agree p q same = words_of_same (words_of p) q (IsWords-words_of p) (λ v h. has_vlan-words_of p v h ∙ same v h)

default_lawful : IsSettings default
unfolding default
default_lawful = record {
  flags = refl;
  mac = refl;
  vlans = IsWords-zeros;
  pairs = (omega arith, omega arith);
  offloads = omega arith;
}

applied_lawful : (s : Settings) (c : Command) → IsSettings s → IsCommand c → IsSettings (applied s c)
applied_lawful s (Rx flag on) is h = record {
  flags = length-set s.rx flag on ∙ is.flags;
  mac = is.mac;
  vlans = is.vlans;
  pairs =
      is.pairs;
  offloads = is.offloads;
}
applied_lawful s (Mac mac) is h = record { flags = is.flags; mac = h; vlans = is.vlans; pairs = is.pairs; offloads = is.offloads }
applied_lawful s (VlanAdd vlan) is h =
    record {
      flags = is.flags;
      mac = is.mac;
      vlans = IsWords-words_of (λ v. (v == vlan) || has_vlan s.vlans v);
      pairs = is.pairs;
      offloads = is.offloads;
    }
applied_lawful s (VlanDel vlan) is h =
    record {
      flags = is.flags;
      mac = is.mac;
      vlans = IsWords-words_of (λ v. not (v == vlan) && has_vlan s.vlans v);
      pairs = is.pairs;
      offloads = is.offloads;
    }
applied_lawful s (Pairs pairs) is h = record { flags = is.flags; mac = is.mac; vlans = is.vlans; pairs = h; offloads = is.offloads }
applied_lawful s (Offloads offloads) is h = record { flags = is.flags; mac = is.mac; vlans = is.vlans; pairs = is.pairs; offloads = h }

choice : (b : Bool) (c : Command) (o : Option Command) → (b ≡ true → IsCommand c) → IfSome o IsCommand
    → IfSome (if b then Some c else o) IsCommand
choice true c o h g = h refl
choice false c o h g = g

byte_at : (bytes : List ℕ) (i : ℕ) → All (λ byte. byte < 256) bytes → get_or (drop 2 bytes) i 0 < 256
byte_at bytes i small = rw (get_or-drop 2 bytes i 0) (elim (cases_lt (2 + i) (length bytes)) [
  | inl h ↦ small (2 + i) 0 h
  | inr h ↦ rw (get_or_past bytes (2 + i) 0 h) (omega arith)
])

row_length : (bytes : List ℕ) (class code size : ℕ) → is_row bytes class code size ≡ true → length bytes ≡ size + 2
row_length bytes class code size e =
    eqb-true (length bytes) (size + 2)
    (and_parts (length bytes == size + 2) (slice_index bytes 0 == class)
    (and_parts ((length bytes == size + 2) && (slice_index bytes 0 == class)) (slice_index bytes 1 == code) e).0).0

le64-small : (bytes : List ℕ) → All (λ byte. byte < 256) bytes → le64 bytes < 2 ^ 64
le64-small bytes small =
    let at = λ (i : ℕ). byte_at bytes i small in
    omega (arith, at 0, at 1, at 2, at 3, at 4, at 5, at 6, at 7)

pub command_lawful : (bytes : List ℕ) → All (λ byte. byte < 256) bytes → IfSome (command bytes) IsCommand
unfolding command
command_lawful bytes small =
    let code = slice_index bytes 1 in
    let short = le16 bytes in
    let last : Option Command = if is_row bytes 5 0 8 then Some (Offloads (le64 bytes)) else None in
    let fifth : Option Command = if is_row bytes 4 0 2 && nat_le 1 short && nat_le short MOST_PAIRS then Some (Pairs short) else last in
    let fourth : Option Command = if is_row bytes 2 1 2 && nat_le short 4095 then Some (VlanDel short) else fifth in
    let third : Option Command = if is_row bytes 2 0 2 && nat_le short 4095 then Some (VlanAdd short) else fourth in
    let second : Option Command = if is_row bytes 1 1 6 then Some (Mac (drop 2 bytes)) else third in
    choice (is_row bytes 0 code 1 && nat_lt code 6) (Rx code (not (slice_index bytes 2 == 0))) second
    (λ e. ltb-true code 6 (and_parts (is_row bytes 0 code 1) (nat_lt code 6) e).1)
    (choice (is_row bytes 1 1 6) (Mac (drop 2 bytes)) third
    (λ e. (let long = row_length bytes 1 1 6 e in omega (arith, length-drop 2 bytes)))
    (choice (is_row bytes 2 0 2 && nat_le short 4095) (VlanAdd short) fourth
    (λ e. leb-true short 4095 (and_parts (is_row bytes 2 0 2) (nat_le short 4095) e).1)
    (choice (is_row bytes 2 1 2 && nat_le short 4095) (VlanDel short) fifth
    (λ e. leb-true short 4095 (and_parts (is_row bytes 2 1 2) (nat_le short 4095) e).1)
    (choice (is_row bytes 4 0 2 && nat_le 1 short && nat_le short MOST_PAIRS) (Pairs short) last
    (λ e. (let both = and_parts (is_row bytes 4 0 2 && nat_le 1 short) (nat_le short MOST_PAIRS) e in
    (leb-true 1 short (and_parts (is_row bytes 4 0 2) (nat_le 1 short) both.0).1, leb-true short MOST_PAIRS both.1)))
    (choice (is_row bytes 5 0 8) (Offloads (le64 bytes)) None (λ e. le64-small bytes small) tt)))))

step_lawful : (o : Option Command) (s : Settings) (rest : List Command)
    → ((t : Settings) → IsSettings t → IsSettings (fold applied t rest)) → IsSettings s → IfSome o IsCommand
    → IsSettings (fold applied s (cons_option o rest))
step_lawful None s rest go is h = go s is
step_lawful (Some c) s rest go is h = go (applied s c) (applied_lawful s c is h)

steps_lawful : (strings : List (List ℕ)) (s : Settings) → IsSettings s → All (All (λ byte. byte < 256)) strings
    → IsSettings (fold applied s (filter_map command strings))
steps_lawful [] s is small = is
steps_lawful (bytes ∷ strings) s is small =
    step_lawful (command bytes) s (filter_map command strings)
    (λ t lawful. steps_lawful strings t lawful (All-tail (All (λ byte. byte < 256)) bytes strings small))
    is
    (command_lawful bytes (All-head (All (λ byte. byte < 256)) bytes strings small))

-- settings that a fold gives are lawful
pub folded_lawful : (strings : List (List ℕ)) → All (All (λ byte. byte < 256)) strings → IsSettings (folded strings)
folded_lawful strings small = steps_lawful strings default default_lawful small
