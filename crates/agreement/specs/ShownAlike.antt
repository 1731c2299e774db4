-- What two trees with equal shown parts have in common (01, "Shown part").
use Rattle.std.specs.Prelude.{ℕ, ◌≡◌, true, List}
use Rattle.kinds.specs.Compare.{equivalent_to}
use Rattle.kinds.specs.Expect.{equivalent_to_str}
use Rattle.kinds.specs.Primitive.{Widths}
use Rattle.kinds.specs.Print.{print}
use Rattle.kinds.specs.Size.{size}
use Rattle.kinds.specs.Sound.{valid}
use Rattle.kinds.specs.Tree.{Trees}
use Rattle.kinds.specs.declared.NestingLevel.TheVariants.{Top}

pub record ShownAlike (A B : Trees) : Type 0 where
  -- They print the same bytes, and have the same size or none on every machine.
  pub prints : print Top A ≡ print Top B
  pub sizes : (w : Widths) → size w A ≡ size w B
  -- A tree compared with them, as the second or as the first, gives the same answer; as the first among valid trees only,
  -- since a primitive that has the number of another kind matches that kind and has other levels.
  pub first : (C : Trees) → equivalent_to A C ≡ equivalent_to B C
  pub second : valid A ≡ true → valid B ≡ true → (C : Trees) → valid C ≡ true → equivalent_to C A ≡ equivalent_to C B
  -- They match the same texts.
  pub texts : (s : List ℕ) → equivalent_to_str A s ≡ equivalent_to_str B s
