use Rattle.std.proofs.Common.{◌≡◌, ◌≤◌, true, take}
use Rattle.std.specs.{Str.Parse.digits_value, Str.all_ascii_digits}
use Rattle.ord_script.proofs.numbers.number_up_to.Given as goal

-- the digits so far write the number so far
abbrev pub invariant-loop-digit : goal.invariant-loop-digit
invariant-loop-digit l = record {
  digits : all_ascii_digits (take l.digit-index l.word) ≡ true;
  value : digits_value 10 (take l.digit-index l.word) ≡ l.number;
  bound : l.number ≤ l.greatest;
}
