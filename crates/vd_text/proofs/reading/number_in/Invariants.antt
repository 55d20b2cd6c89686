use Rattle.std.proofs.Common.{◌≡◌, ◌≤◌, take, true}
use Rattle.std.specs.Char.{is_ascii_digit}
use Rattle.std.specs.List.{list_all}
use Rattle.std.specs.Str.Parse.{digits_value}
use Rattle.vd_text.proofs.reading.number_in.Given as goal

abbrev pub invariant-loop-digit : goal.invariant-loop-digit
invariant-loop-digit l = record {
  value : digits_value 10 (take l.digit-index l.digits) ≡ l.value;
  digits : list_all is_ascii_digit (take l.digit-index l.digits) ≡ true;
  small : l.value ≤ l.most;
}
