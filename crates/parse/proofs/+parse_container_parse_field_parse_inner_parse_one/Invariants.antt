use Prim.Native.Nat.{ℕ, ◌+◌, ◌*◌, ◌-◌, ◌≤◌}
use mathlib.Core.Path.{◌≡◌}
use lib.ListN.{length}
use Rattle.parse.specs.Agree.{lists, Lists, Ready, ItemsReads}
use Rattle.std.specs.Prelude.{Result}
use Rattle.kinds.specs.declared.ParseError.{ParseError}
use Rattle.parse.proofs.+parse_container_parse_field_parse_inner_parse_one.Given as goal

abbrev pub invariant-parse_container-loop-words : goal.invariant-parse_container-loop-words
invariant-parse_container-loop-words l =
    Ready l.text l.to l.k l.l (lists l.words l.names) × ((l.initial.to ≤ l.to) × (((length l.words ≡ length l.initial.words) × (length l.names ≡ length l.initial.names))
    × ((z : Lists) (i : Result (ℕ × ℕ × ℕ) ParseError) → ItemsReads l.strict l.text l.to l.kind l.k l.l (lists l.words l.names) z i → ItemsReads l.strict l.text l.initial.to l.kind l.initial.k l.initial.l (lists l.initial.words l.initial.names) z i)))

abbrev pub decreases-parse_container-loop-words : goal.decreases-parse_container-loop-words
decreases-parse_container-loop-words l = length l.text - l.to

abbrev pub decreases-parse_container : goal.decreases-parse_container
decreases-parse_container l = 3 * (length l.text.now - l.at)

abbrev pub decreases-parse_field : goal.decreases-parse_field
decreases-parse_field l = 3 * (length l.text.now - l.at) + 3

abbrev pub decreases-parse_inner : goal.decreases-parse_inner
decreases-parse_inner l = 3 * (length l.text.now - l.at) + 2

abbrev pub decreases-parse_one : goal.decreases-parse_one
decreases-parse_one l = 3 * (length l.text.now - l.at) + 1
