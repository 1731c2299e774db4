use borrow.Author.Rules.{rules}
use mathlib.Core.Path.{◌≡◌, refl, ap, sym, ◌∙◌}
use mathlib.Core.Bool.{◌&&◌}
use mathlib.Core.List.{List, [], ◌∷◌}
use Prim.Native.Nat.{ℕ}
use lib.Dec.{leb}
use Rattle.std.proofs.Common.{tests}
use Rattle.std.specs.List.{list_all}
use Rattle.std.proofs.lemmas.Iterator.{YieldsList-from_slice}
use Rattle.std.proofs.lemmas.Iterator.Search.{all_from_yields_List}
use Rattle.layout.specs.Answer.{all_within}
use Rattle.layout.proofs.EndLaws.{limit-largest, limit-other, limit-joined}
use Rattle.layout.proofs.place.within_limit.Goals as goal
use Rattle.layout.proofs.place.within_limit.Goals.{then-limit-via-then-limit, then-limit-via-else-limit+then-joined-limit}

each_within : (limit : ℕ) (ns : List ℕ) → all_within limit ns ≡ list_all (λ n. leb n limit) ns
unfolding all_within
each_within limit [] = refl
each_within limit (n ∷ ns) = ap (λ b. leb n limit && b) (each_within limit ns)

pub returns-then-limit : goal.returns-then-limit
returns-then-limit c = elim c.then-limit.branch [
  | then-limit-via-then-limit w ↦ limit-largest _ _ w.if-limit.true
  | then-limit-via-else-limit+then-joined-limit w ↦ limit-joined _ _ w.joined.ensures w.if-joined-limit.true
]

pub returns : goal.returns
returns c =
    let a = c.args in
    let e = all_from_yields_List (λ n. leb n a.limit) _ _ c.all.result c.all.ensures.ran (YieldsList-from_slice a.numbers.now cc) (λ x b q k. search (rules, tests)) in
    limit-other a.limit a.numbers.now c.if-limit.false (each_within a.limit a.numbers.now ∙ sym e)
