use Rattle.std.proofs.Common.{ℕ, ◌≡◌, ◌∙◌, ap, refl, List, [], ◌∷◌, ◌||◌, eqb}
use Rattle.std.specs.List.{list_any}
use Rattle.kinds.specs.Byte.{among}
use Rattle.kinds.specs.Parse.{is_qualifier, qualifiers}
use Rattle.kinds.proofs.SheetLaws.{eqb_same}
use Rattle.parser.proofs.QualifierByteTest.passes.Goals as goal

-- The library's test asks each element of the list, and the definition the number asked for.
any-among : (b : ℕ) (s : List ℕ) → list_any (λ y. eqb y b) s ≡ among b s
unfolding among
any-among b [] = refl
any-among b (x ∷ s) = ap (λ y. y || list_any (λ y. eqb y b) s) (eqb_same x b b x (λ e. search) (λ e. search)) ∙ ap (λ y. eqb b x || y) (any-among b s)

pub returns : goal.returns
unfolding is_qualifier qualifiers
returns c = c.contains.ensures.value ∙ any-among _ _
