-- The answers: where a text fits the output and where it does not, and by what the check of a sheet found.
use Prim.Native.Nat.{ℕ, ◌+◌, ◌≤◌, ◌<◌}
use native.Mathlib.Omega.{arith}
use mathlib.Core.Path.{◌≡◌, ap, sym, ◌∙◌}
use mathlib.Core.List.{List, ◌++◌, append-nil}
use borrow.Author.Tests.{le-leb, lt-leb}
use lib.ListN.{length, drop}
use Rattle.kinds.specs.Primitive.{code}
use Rattle.kinds.specs.Print.{print_node, print}
use Rattle.kinds.specs.Sheet.{trees}
use Rattle.kinds.specs.Tree.{Trees, end, node, primitive}
use Rattle.kinds.specs.Walk.{KindsAndNames}
use Rattle.kinds.specs.declared.NestingLevel.{NestingLevel}
use Rattle.kinds.specs.declared.NestingLevel.TheVariants.{Top}
use Rattle.kinds.specs.declared.Refusal.{Refusal}
use Rattle.kinds.specs.declared.Refusal.TheVariants.{OutputTooShort}
use Rattle.sheet.specs.Answer.{held, refused, holding}
use Rattle.sheet.specs.Given.{NodesAre, CodeIn}
use Rattle.sheet.proofs.GivenLaws.{answer-refused, answer-held}
use Rattle.std.specs.Prelude.{Result, Ok, Err}
use Rattle.static_str.specs.Answer.{fitted, placed, encoding_len, encoding_array, encoding_output}
use Rattle.static_str.specs.Output.{written, Wrote}
use Rattle.static_str.specs.Parts.{TreesLength}

module _ (text : List ℕ) (out : List ℕ) where
  fitted_short : length out < length text → Err OutputTooShort ≡ fitted text (length out)
  unfolding fitted
  fitted_short h = rw (lt-leb (length text) (length out) h)

  placed-short : length out < length text → out ≡ placed text out
  unfolding placed
  placed-short h = rw (lt-leb (length text) (length out) h)

  fitted-whole : length text ≤ length out → Ok (length text) ≡ fitted text (length out)
  unfolding fitted
  fitted-whole h = rw (le-leb (length text) (length out) h)

  placed-whole : {after : List ℕ} {next : ℕ} → length text ≤ length out → Wrote out 0 text after next → after ≡ placed text out
  unfolding placed written
  placed-whole h w = rw (le-leb (length text) (length out) h) (w.text ∙ ap (λ (n : ℕ). text ++ drop n out) (plain (length text)))
    where
      plain : (n : ℕ) → 0 + n ≡ n
      plain n = omega arith

-- ---- A text of `len` bytes.

module _ (text out : List ℕ) {len : ℕ} (e : len ≡ length text) where
  pub text-short : length out < len → (Err OutputTooShort ≡ fitted text (length out)) × (out ≡ placed text out)
  text-short h = (fitted_short text out (omega arith), placed-short text out (omega arith))

  pub text-whole : len ≤ length out → {after : List ℕ} {next : ℕ} → Wrote out 0 text after next
      → (Ok len ≡ fitted text (length out)) × (after ≡ placed text out)
  text-whole h w = (ap Ok e ∙ fitted-whole text out (omega arith), placed-whole text out (omega arith) w)

-- The length that is counted for a tree is that of its text.
pub tree-len : (s w : List ℕ) (n : ℕ) → KindsAndNames w (length s) 0 n → {v : NestingLevel} → v ≡ Top → {len : ℕ} → TreesLength w 0 n v len
    → len ≡ length (print Top (trees s w n 0))
tree-len s w n named top l = l s named ∙ ap (λ (u : NestingLevel). length (print u (trees s w n 0))) top

-- ---- By what the check found.

code-text : (k : ℕ) → print Top (node (primitive k) end end) ≡ code k
unfolding print print_node
code-text k = append-nil (code k)

module _ (words names : List ℕ) where
  pub len-refused : {r : Refusal} → held words names ≡ refused r → Err r ≡ encoding_len words names
  unfolding encoding_len
  len-refused h = answer-refused Err words names (λ (t : Trees). Ok (length (print Top t))) h

  len-held : {t : Trees} {n : ℕ} → held words names ≡ holding t → n ≡ length (print Top t) → Ok n ≡ encoding_len words names
  unfolding encoding_len
  len-held h e = ap Ok e ∙ answer-held Err words names (λ (t : Trees). Ok (length (print Top t))) h

  pub len-code : {k : ℕ} → CodeIn words names k → {n : ℕ} → n ≡ length (code k) → Ok n ≡ encoding_len words names
  len-code {k} h e = len-held h.holds (e ∙ ap length (sym (code-text k)))

  pub len-nodes : (w : List ℕ) (n : ℕ) → NodesAre words names w n → {v : NestingLevel} → v ≡ Top → {len : ℕ} → TreesLength w 0 n v len → Ok len
      ≡ encoding_len words names
  len-nodes w n h top l = len-held h.holds (tree-len names w n h.lent-names top l)

  module _ (out : List ℕ) where
    pub print-refused : {r : Refusal} → held words names ≡ refused r → (Err r ≡ encoding_array words names (length out)) ×
        (out ≡ encoding_output words names out)
    unfolding encoding_array encoding_output
    print-refused h = (
      answer-refused Err words names (λ (t : Trees). fitted (print Top t) (length out)) h,
      answer-refused (λ (r : Refusal). out) words names (λ (t : Trees). placed (print Top t) out) h,
    )

    pub print-held : {t : Trees} → held words names ≡ holding t → {r : Result ℕ Refusal} {after : List ℕ} → r ≡ fitted (print Top t) (length out) → after
        ≡ placed (print Top t) out
        → (r ≡ encoding_array words names (length out)) × (after ≡ encoding_output words names out)
    unfolding encoding_array encoding_output
    print-held h e f = (
      e ∙ answer-held Err words names (λ (t : Trees). fitted (print Top t) (length out)) h,
      f ∙ answer-held (λ (r : Refusal). out) words names (λ (t : Trees). placed (print Top t) out) h,
    )

    pub print-code-held : {k : ℕ} → CodeIn words names k → {r : Result ℕ Refusal} {after : List ℕ} → r ≡ fitted (code k) (length out) → after ≡ placed (code k) out
        → (r ≡ encoding_array words names (length out)) × (after ≡ encoding_output words names out)
    print-code-held {k} h e f =
        print-held h.holds (e ∙ ap (λ (x : List ℕ). fitted x (length out)) (sym (code-text k))) (f ∙ ap (λ (x : List ℕ). placed x out) (sym (code-text k)))
