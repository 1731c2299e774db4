use Prim.Native.Nat.{◌≤◌, ◌+◌, ◌-◌}
use mathlib.Core.Path.{◌≡◌}
use lib.ListN.{length, drop}
use Rattle.kinds.specs.Parse.{bounded, more_digits, parse_number}
use Rattle.kinds.specs.Strict.{digit_count}
use Rattle.numbers.proofs.parse_number.Given as goal

abbrev pub invariant-loop-i : goal.invariant-loop-i
invariant-loop-i l = record {
  read : parse_number l.limit (drop l.at l.text) ≡ bounded l.limit (more_digits l.acc (drop l.i l.text));
  within : l.i ≤ length l.text;
  bound : l.acc ≤ l.limit;
  counted : digit_count (drop l.at l.text) ≡ l.i - l.at + digit_count (drop l.i l.text);
}
