use mathlib.Core.Bool.{Bool}
use Prim.Native.Nat.{ℕ, ◌+◌, ◌-◌, ◌≤◌}
use mathlib.Core.Path.{◌≡◌}
use mathlib.Core.List.{List}
use lib.ListN.{length}
use Rattle.parse.specs.Agree.{Lists, lists, Reads}
use Rattle.parse.specs.Out.{After}
use Rattle.parse.proofs.put_indirections.Given as goal

abbrev pub invariant-loop-i : goal.invariant-loop-i
invariant-loop-i l = record {
  onward : l.at ≤ l.i;
  after : After l.p (l.n + (l.i - l.at));
  size : length l.words ≡ length l.initial.words;
  reads : (strict : Bool) (b : Lists) (ns : List ℕ) → Reads strict l.text l.to (l.n + (l.to - l.at)) l.m b (lists l.initial.words ns) l.initial.p
      → Reads strict l.text l.i (l.n + (l.i - l.at)) l.m b (lists l.words ns) l.p;
}
