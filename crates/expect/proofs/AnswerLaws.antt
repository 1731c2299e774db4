-- The answer of tree against text, from the outcome of the walk and by what the check of a sheet found.
use Rattle.std.specs.Prelude.{Option}
use Prim.Native.Nat.{ℕ, ◌≤◌, ◌<◌}
use mathlib.Core.Path.{◌≡◌, ap, sym, ◌∙◌, subst}
use mathlib.Core.List.{List}
use mathlib.Core.Bool.{Bool}
use borrow.Author.Tests.{le-ltb, lt-ltb}
use lib.ListN.{length, drop}
use Rattle.kinds.specs.Expect as E
use Rattle.kinds.specs.Expect.{expect_primitive, expect_node, expect_encoding, is_empty, equivalent_to_str}
use Rattle.kinds.specs.Parse.{strip_leading_qualifiers}
use Rattle.kinds.specs.Sheet.{max_text, trees}
use Rattle.kinds.specs.Tree.{Trees, end, node, primitive}
use Rattle.std.specs.Prelude.{Ok, Err}
use Rattle.kinds.specs.declared.NestingLevel.{NestingLevel}
use Rattle.kinds.specs.declared.NestingLevel.TheVariants.{Top}
use Rattle.kinds.specs.declared.Refusal.{Refusal}
use Rattle.kinds.specs.declared.Refusal.TheVariants.{TextTooLong}
use Rattle.sheet.specs.Answer.{held, refused, holding}
use Rattle.sheet.specs.Given.{NodesAre, CodeIn}
use Rattle.sheet.proofs.GivenLaws.{answer-refused, answer-held}
use Rattle.expect.specs.Agree.{ExpectedIs}
use Rattle.expect.specs.Answer.{compared}
use Rattle.expect.proofs.TextLaws.{then-nothing, same_outcome}

-- Where the walk along a tree began after the qualifiers, its outcome decides.
pub decided : (text : List ℕ) (t : Trees) (start : ℕ) (r : Option ℕ) {d : Bool} → drop start text ≡ strip_leading_qualifiers text
    → ExpectedIs text r (expect_encoding Top t (drop start text)) → ((q : E.Expected) → ExpectedIs text r q → d ≡ is_empty q) → d ≡ equivalent_to_str t text
unfolding equivalent_to_str
decided text t start r p h f = f _ h ∙ ap (λ (x : List ℕ). is_empty (expect_encoding Top t x)) p

-- A code alone.
pub code-walk : (text : List ℕ) (k : ℕ) (s : List ℕ) (r : Option ℕ) → ExpectedIs text r (expect_primitive k s)
    → ExpectedIs text r (expect_encoding Top (node (primitive k) end end) s)
unfolding expect_encoding expect_node
code-walk text k s r h = same_outcome text r _ _ (then-nothing (expect_primitive k s)) h

pub at_top : (text s : List ℕ) (t : Trees) (r : Option ℕ) {v : NestingLevel} → v ≡ Top → ExpectedIs text r (expect_encoding v t s)
    → ExpectedIs text r (expect_encoding Top t s)
at_top text s t r e h = subst (λ (x : NestingLevel). ExpectedIs text r (expect_encoding x t s)) e h

module _ (words names text : List ℕ) where
  pub too_long : max_text < length text → Err TextTooLong ≡ compared words names text
  unfolding compared
  too_long h = sym (rw (lt-ltb max_text (length text) h))

  module _ (short : length text ≤ max_text) where
    pub compared-refused : {r : Refusal} → held words names ≡ refused r → Err r ≡ compared words names text
    unfolding compared
    compared-refused h = answer-refused Err words names (λ (t : Trees). Ok (equivalent_to_str t text)) h ∙ sym (rw (le-ltb max_text (length text) short))

    compared-held : {t : Trees} {d : Bool} → held words names ≡ holding t → d ≡ equivalent_to_str t text → Ok d ≡ compared words names text
    unfolding compared
    compared-held h e = ap Ok e ∙ (answer-held Err words names (λ (t : Trees). Ok (equivalent_to_str t text)) h
        ∙ sym (rw (le-ltb max_text (length text) short)))

    pub compared-code : {k : ℕ} → CodeIn words names k → {d : Bool} → d ≡ equivalent_to_str (node (primitive k) end end) text → Ok d
        ≡ compared words names text
    compared-code h e = compared-held h.holds e

    pub compared-nodes : (w : List ℕ) (n : ℕ) → NodesAre words names w n → {d : Bool} → d ≡ equivalent_to_str (trees names w n 0) text → Ok d
        ≡ compared words names text
    compared-nodes w n h e = compared-held h.holds e
