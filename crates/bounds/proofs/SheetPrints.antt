-- The print of a sheet, from the tree that it holds.
use Prim.Native.Nat.{ℕ, zero, suc, ◌+◌, ◌*◌, ◌≤◌}
use native.Mathlib.Omega.{arith}
use mathlib.Core.Path.{◌≡◌, refl, sym, ◌∙◌}
use mathlib.Core.List.{List}
use mathlib.Core.Bool.{true}
use mathlib.Core.Logic.{⊎_elim}
use borrow.Author.Tests.{le-leb}
use lib.ListN.{length}
use Rattle.kinds.specs.Print.{print}
use Rattle.kinds.specs.Sheet.{Holds, names_of, sheet_of}
use Rattle.kinds.specs.Sound.{good_names}
use Rattle.kinds.specs.Tree.{Trees, count}
use Rattle.kinds.specs.declared.NestingLevel.TheVariants.{Top}
use Rattle.kinds.specs.declared.Refusal.TheVariants.{OutputTooShort}
use Rattle.sheet.specs.Answer.{Held, refused, holding, held, of_held, of_sheet}
use Rattle.static_str.specs.Answer.{fitted, encoding_len, encoding_array}
use Rattle.std.specs.Prelude.{Ok, Err}
use Rattle.bounds.specs.Limits.{max_nodes, max_names, max_print}
use Rattle.bounds.specs.Extremes.{named, most_bit_fields, longest}
use Rattle.bounds.proofs.HeldLaws.{held-refused, held-holds, holds-held, layout-holds}
use Rattle.bounds.proofs.LongestLaws.{named-one, named-valid, named_count, named-names, named-print, named-good}
use Rattle.bounds.proofs.PrintLaws.{one-some, short}

tree-bound : (words names : List ℕ) (t : Trees) → Holds words names t → length (print Top t) ≤ max_print
tree-bound words names t h = go (length (names_of t)) refl
  where
    s : (k : ℕ) → k ≤ 1 → k ≤ length (names_of t) → length (print Top t) + 20 + k ≤ 24 * count t + length (names_of t)
    s = short Top t h.valid-tree (one-some t h.one)

    go : (m : ℕ) → length (names_of t) ≡ m → length (print Top t) ≤ max_print
    go zero e = omega (arith, s 0 (omega arith) (omega arith), h.few-nodes)
    go (suc m) e = omega (arith, s 1 (omega arith) (omega arith), h.few-nodes, h.few-names)

module _ (words names : List ℕ) where
  text-bound : (t : Trees) → held words names ≡ holding t → length (print Top t) ≤ max_print
  text-bound t e = tree-bound words names t (held-holds words names t e)

  pub most : (n : ℕ) → encoding_len words names ≡ Ok n → n ≤ max_print
  unfolding encoding_len of_sheet
  most n = go (held words names) refl
    where
      go : (h : Held) → held words names ≡ h → of_held Err (λ t. Ok (length (print Top t))) h ≡ Ok n → n ≤ max_print
      go (refused r) e q = let z : ◌≡◌ {A = ℕ} 0 1 = cc in absurd (omega arith)
      go (holding t) e q = let z : length (print Top t) ≡ n = cc in omega (arith, text-bound t e)

  pub enough : (room : ℕ) → max_print ≤ room → encoding_array words names room ≡ encoding_len words names
  unfolding encoding_len encoding_array of_sheet fitted
  enough room l = go (held words names) refl
    where
      go : (h : Held) → held words names ≡ h → of_held Err (λ t. fitted (print Top t) room) h ≡ of_held Err (λ t. Ok (length (print Top t))) h
      go (refused r) e = refl
      go (holding t) e = rw (le-leb (length (print Top t)) room (omega (arith, text-bound t e)))

  pub never-short : (room : ℕ) → max_print ≤ room → encoding_array words names room ≡ Err OutputTooShort → ⊥
  unfolding encoding_len of_sheet
  never-short room l q = go (held words names) refl (sym (enough room l) ∙ q)
    where
      go : (h : Held) → held words names ≡ h → of_held Err (λ t. Ok (length (print Top t))) h ≡ Err OutputTooShort → ⊥
      go (refused r) e p = ⊎_elim (λ q. let z : ◌≡◌ {A = ℕ} 0 1 = cc in omega arith) (λ q. let z : ◌≡◌ {A = ℕ} 0 1 = cc in omega arith) (held-refused words names e)
      go (holding t) e p = let z : ◌≡◌ {A = ℕ} 0 1 = cc in omega arith

-- ---- The tree that prints the most.

pub longest-holds : Holds (sheet_of longest) (names_of longest) longest
unfolding longest
longest-holds =
    layout-holds (named most_bit_fields 2000) (named-one most_bit_fields 2000) (named-valid most_bit_fields 2000) (omega (arith, named_count most_bit_fields 2000))
    (omega (arith, named-names most_bit_fields 2000))

pub longest-count : count longest ≡ max_nodes
unfolding longest
longest-count = named_count most_bit_fields 2000

pub longest-names : length (names_of longest) ≡ max_names
unfolding longest
longest-names = named-names most_bit_fields 2000

longest-good : good_names longest ≡ true
unfolding longest
longest-good = named-good most_bit_fields 1998

longest-print : length (print Top longest) ≡ max_print
unfolding longest
longest-print = named-print most_bit_fields 2000

pub reaches : encoding_len (sheet_of longest) (names_of longest) ≡ Ok max_print
unfolding encoding_len of_sheet
reaches = rw (holds-held (sheet_of longest) (names_of longest) longest longest-holds longest-good, longest-print)
