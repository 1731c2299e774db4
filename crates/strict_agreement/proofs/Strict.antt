-- How strict reading stands to whole-text reading: the statements over the definitions of kinds (Parse.antt, Strict.antt) and of this crate.
-- Sound trees are those of agreement (Sound.antt), shown parts those of kinds (Tree.antt). The work is in the files below this one.
use Prim.Native.Nat.{ℕ}
use mathlib.Core.Path.{◌≡◌}
use mathlib.Core.Bool.{true}
use mathlib.Core.List.{List}
use mathlib.Core.Logic.{◌⊎◌, ◌↔◌}
use Rattle.kinds.specs.Parse.{refusal, from_str}
use Rattle.kinds.specs.Tree.{Trees}
use Rattle.kinds.specs.declared.ErrorKind.TheVariants.{SurplusZero}
use Rattle.agreement.specs.Sound.{sound}
use Rattle.strict_agreement.specs.Cases.{AllHold, cases}
use Rattle.strict_agreement.specs.Printed.{PrintRead}
use Rattle.strict_agreement.specs.Surplus.{NoneMet, FirstMet, SurplusMet, RefusesSurplus}
use Rattle.strict_agreement.proofs.CasesHold.{all_hold}
use Rattle.strict_agreement.proofs.NeverLaws.{never-surplus}
use Rattle.strict_agreement.proofs.PrintLaws.{print-strict}
use Rattle.strict_agreement.proofs.SurplusLaws.{one-or-other, refused-met, met-refused}

-- Of every text: either no number that reading meets has a surplus zero, and strict reading answers as whole-text reading does; or one has, and
-- strict reading refuses the first of them by 19, at its first digit.
pub strict-or-whole : (s : List ℕ) → NoneMet s ⊎ FirstMet s
strict-or-whole = one-or-other

-- Whole-text reading never refuses by 19.
pub whole-never : (s : List ℕ) (at : ℕ) → from_str s ≡ refusal SurplusZero at → ⊥
whole-never = never-surplus

-- So strict reading refuses by 19 exactly if some number that reading meets has a surplus zero.
pub refuses-exactly : (s : List ℕ) → RefusesSurplus s ↔ SurplusMet s
refuses-exactly s = (refused-met s, met-refused s)

-- The print of a sound tree is read alike by both, as the tree's shown part.
pub reads-prints : (t : Trees) → sound t ≡ true → PrintRead t
reads-prints = print-strict

-- Each case of the table holds.
pub strict-cases : AllHold cases
strict-cases = all_hold
