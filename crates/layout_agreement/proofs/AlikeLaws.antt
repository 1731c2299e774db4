-- What is told of two trees with equal shown parts.
use Prim.Native.Nat.{ℕ, zero, suc, ◌+◌}
use native.Mathlib.Omega.{arith}
use mathlib.Core.Bool.{Bool, true, false, cond, not, ◌&&◌}
use mathlib.Core.List.{List, [], ◌∷◌, ◌++◌}
use Rattle.std.specs.Prelude.{Option, Some, None}
use mathlib.Core.Path.{◌≡◌, refl, sym, ap, ap₂, ◌∙◌}
use borrow.Author.Tests.{le-leb, not-false}
use lib.Dec.{leb}
use lib.ListN.{replicate}
use Rattle.kinds.specs.Level.{shows_fields}
use Rattle.kinds.specs.Primitive.{Widths, widths}
use Rattle.kinds.specs.Tree as T
use Rattle.kinds.specs.Tree.{Label, Trees, end, node, primitive, bit_field, typed_bit_field, pointer, atomic, array, struct, union, is_end, count, inside, shows, keep, shown}
use Rattle.kinds.specs.declared.NestingLevel.{NestingLevel}
use Rattle.kinds.specs.declared.NestingLevel.TheVariants.{Top}
use Rattle.kinds.specs.declared.Refusal.TheVariants.{SizeTooLarge}
use Rattle.helper.specs.Answer.{max_size}
use Rattle.layout.specs.Answer.{offsets_in, all_within, fitted, unless_bit_field, layout_of}
use Rattle.layout.specs.Layout.{Extent, is_pointer, laid_out, first_bit_field, sizeless, any_sizeless, node_extent, extents, extent, only_extent, Side, others, in_node, begins, holds_inside, offsets}
use Rattle.std.specs.Prelude.{Result, Ok, Err}
use Rattle.kinds.specs.declared.Refusal.{Refusal}
use Rattle.layout_agreement.specs.Shown.{shown_only, shown_numbers, number_in}
use Rattle.layout_agreement.proofs.OffsetLaws.{below}
use Rattle.layout_agreement.proofs.PartLaws.{neither, sized-parts}
use Rattle.layout_agreement.proofs.ShownLaws.{sizeless-shown, node-shown, extents-shown, bits-shown, offsets-shown}

-- ---- Hidden nodes have the number 0, which is within any limit.

module _ (m : ℕ) where
  within-append : (xs ys : List ℕ) → all_within m (xs ++ ys) ≡ (all_within m xs && all_within m ys)
  unfolding all_within
  within-append [] ys = refl
  within-append (x ∷ xs) ys = go (leb x m) (within-append xs ys)
    where
      go : (b : Bool) → all_within m (xs ++ ys) ≡ (all_within m xs && all_within m ys) → (b && all_within m (xs ++ ys)) ≡ ((b && all_within m xs) && all_within m ys)
      go true e = e
      go false e = refl

  zeros_within : (n : ℕ) → all_within m (replicate n 0) ≡ true
  unfolding all_within
  zeros_within zero = refl
  zeros_within (suc n) = ap (λ b. b && all_within m (replicate n 0)) (le-leb 0 m (omega arith)) ∙ zeros_within n

  zeros-alike : (n k : ℕ) → all_within m (replicate n 0) ≡ all_within m (replicate k 0)
  zeros-alike n k = zeros_within n ∙ sym (zeros_within k)

  module _ (w : Widths) where
    below-within : (l : Label) (v : NestingLevel) (cs : Trees) → sizeless w l (shows l v) (is_end cs) ≡ false
        → ((shows l v && not (is_pointer l)) ≡ true → (k : Side) → all_within m (offsets w k 0 (shown (inside l v) cs)) ≡ all_within m (offsets w k 0 cs))
        → all_within m (below w l (keep (shows l v) (shown (inside l v) cs))) ≡ all_within m (below w l cs)
    unfolding sizeless is_pointer holds_inside keep
    below-within (primitive p) v cs z e = zeros-alike (count (shown v cs)) (count cs)
    below-within (bit_field n) v cs z e = zeros-alike (count (shown v cs)) (count cs)
    below-within (typed_bit_field o n) v cs z e = zeros-alike (count (shown v cs)) (count cs)
    below-within pointer v cs z e = zeros-alike (count (shown (inside pointer v) cs)) (count cs)
    below-within atomic v cs z e = e refl (in_node atomic)
    below-within (array n) v cs z e = e refl (in_node (array n))
    below-within (struct s) v cs z e = let h = not-false (shows_fields v) z in
        ap (λ b. all_within m (offsets w (in_node (struct s)) 0 (keep b (shown (inside (struct s) v) cs)))) h ∙ e (ap (λ b. b && true) h) (in_node (struct s))
    below-within (union s) v cs z e = let h = not-false (shows_fields v) (neither (not (shows_fields v)) (is_end cs) z).0 in
        ap (λ b. all_within m (offsets w (in_node (union s)) 0 (keep b (shown (inside (union s) v) cs)))) h ∙ e (ap (λ b. b && true) h) (in_node (union s))
    below-within T.none v cs z e = zeros-alike (count (shown v cs)) (count cs)

    within-shown : (v : NestingLevel) (i : ℕ) (k : Side) (e : ℕ) (ts : Trees) → any_sizeless w (laid_out v i ts) ≡ false
        → all_within m (offsets w k e (shown v ts)) ≡ all_within m (offsets w k e ts)
    unfolding shown offsets all_within
    within-shown v i k e end a = refl
    within-shown v i k e (node l cs ts) a =
        let s = sized-parts v i l cs ts w a in
        ap (λ (x : Extent). leb (begins k e x) m && all_within m (below w l K ++ offsets w k (begins k e x + x.bytes) (shown v ts)))
        (node-shown w l v cs s.own (λ q. extents-shown w (inside l v) (i + 1) cs (s.inner q)))
        ∙ ap (λ b. leb (begins k e X) m && b)
        (within-append (below w l K) (offsets w k (begins k e X + X.bytes) (shown v ts))
        ∙ ap₂ ◌&&◌ (below-within l v cs s.own (λ q k. within-shown (inside l v) (i + 1) k 0 cs (s.inner q)))
        (within-shown v (i + 1 + count cs) k (begins k e X + X.bytes) ts s.after)
        ∙ sym (within-append (below w l cs) (offsets w k (begins k e X + X.bytes) ts)))
      where
        K : Trees
        K = keep (shows l v) (shown (inside l v) cs)

        X : Extent
        X = node_extent w l (extents w cs)

-- ---- A tree against its shown part.

number-none : (ns : List ℕ) (x : Option ℕ) → number_in ns x ≡ None → x ≡ None
number-none ns None e = refl
number-none ns (Some k) e = let z : ◌≡◌ {A = ℕ} 0 1 = cc in absurd (omega arith)

none-shown : (t : Trees) → first_bit_field (laid_out Top 0 t) ≡ None → first_bit_field (laid_out Top 0 (shown Top t)) ≡ None
none-shown t e = number-none (shown_numbers t) (first_bit_field (laid_out Top 0 (shown Top t))) (sym (bits-shown t) ∙ e)

fit : ℕ → Extent → Bool → Result (Option (ℕ × ℕ)) Refusal
fit m x b = cond (leb x.bytes m && b) (Ok (Some (x.bytes, x.alignment))) (Err SizeTooLarge)

layout-shown : (row : ℕ) (t : Trees) → first_bit_field (laid_out Top 0 t) ≡ None → layout_of row (shown Top t) ≡ layout_of row t
unfolding layout_of fitted extent offsets_in fit
layout-shown row t o =
    ap₂ (λ x b. unless_bit_field x (cond b (Ok None) (fit (max_size row) (extent w (shown Top t)) (all_within (max_size row) (offsets w others 0 (shown Top t)))))) (none-shown t o) (sizeless-shown w Top 0 0 t)
    ∙ go (any_sizeless w (laid_out Top 0 t)) refl
    ∙ ap (λ x. unless_bit_field x (cond (any_sizeless w (laid_out Top 0 t)) (Ok None) (fit (max_size row) (extent w t) (all_within (max_size row) (offsets w others 0 t))))) (sym o)
  where
    w : Widths
    w = widths row

    go : (b : Bool) → any_sizeless w (laid_out Top 0 t) ≡ b
        → cond b (Ok None) (fit (max_size row) (extent w (shown Top t)) (all_within (max_size row) (offsets w others 0 (shown Top t))))
        ≡ cond b (Ok None) (fit (max_size row) (extent w t) (all_within (max_size row) (offsets w others 0 t)))
    go true a = refl
    go false a = ap₂ (fit (max_size row)) (ap only_extent (extents-shown w Top 0 t a)) (within-shown (max_size row) w Top 0 others 0 t a)

-- ---- Two trees.

module _ (t u : Trees) (e : shown Top t ≡ shown Top u) where
  pub bits-alike : first_bit_field (laid_out Top 0 u) ≡ number_in (shown_numbers u) (first_bit_field (laid_out Top 0 (shown Top t)))
  bits-alike = bits-shown u ∙ ap (λ s. number_in (shown_numbers u) (first_bit_field (laid_out Top 0 s))) (sym e)

  none_alike : first_bit_field (laid_out Top 0 t) ≡ None → first_bit_field (laid_out Top 0 u) ≡ None
  none_alike o = bits-alike ∙ ap (number_in (shown_numbers u)) (none-shown t o)

  pub sizeless-alike : (w : Widths) → any_sizeless w (laid_out Top 0 t) ≡ any_sizeless w (laid_out Top 0 u)
  sizeless-alike w = sym (sizeless-shown w Top 0 0 t) ∙ ap (λ s. any_sizeless w (laid_out Top 0 s)) e ∙ sizeless-shown w Top 0 0 u

  pub extent-alike : (w : Widths) → any_sizeless w (laid_out Top 0 t) ≡ false → extent w t ≡ extent w u
  unfolding extent
  extent-alike w a =
      ap only_extent (sym (extents-shown w Top 0 t a) ∙ ap (extents w) e ∙ extents-shown w Top 0 u (sym (sizeless-alike w) ∙ a))

  pub offsets-alike : (w : Widths) → any_sizeless w (laid_out Top 0 t) ≡ false → shown_only Top t (offsets w others 0 t) ≡ shown_only Top u (offsets w others 0 u)
  offsets-alike w a = offsets-shown w Top 0 others 0 t a ∙ ap (offsets w others 0) e ∙ sym (offsets-shown w Top 0 others 0 u (sym (sizeless-alike w) ∙ a))

  pub layout-alike : (row : ℕ) → first_bit_field (laid_out Top 0 t) ≡ None → layout_of row t ≡ layout_of row u
  layout-alike row o = sym (layout-shown row t o) ∙ ap (layout_of row) e ∙ layout-shown row u (none_alike o)
