-- A padded size is never below the size without padding.
use Prim.Native.Nat.{ℕ, ◌+◌, ◌*◌, ◌≤◌, max}
use native.Mathlib.Nat.{le-max_left, le-max_right, max-le, mul-le-mul_left}
use native.Mathlib.Omega.{arith}
use mathlib.Core.Bool.{Bool, true, false, cond, not, ◌&&◌, true≢false, false≢true}
use mathlib.Core.List.{List, [], ◌∷◌}
use Rattle.std.specs.Prelude.{Option, Some, None, unwrap_or}
use mathlib.Core.Path.{◌≡◌, refl, sym, ap, ap₂, ◌∙◌}
use borrow.Author.Tests.{le-leb, not-false}
use Rattle.kinds.specs.Level.{shows_fields}
use Rattle.kinds.specs.Primitive.{Widths, primitive_size, widths}
use Rattle.kinds.specs.Size.{is_none, plus, larger, times, sum, largest, only, node_size, sizes, size}
use Rattle.kinds.specs.Sound.{valid_label, valid_count, valid}
use Rattle.kinds.specs.Tree as T
use Rattle.kinds.specs.Tree.{Label, Trees, end, node, primitive, bit_field, typed_bit_field, pointer, atomic, array, struct, union, is_end, is_one, count, inside, shows}
use Rattle.kinds.specs.declared.NestingLevel.{NestingLevel}
use Rattle.kinds.specs.declared.NestingLevel.TheVariants.{Top, Within}
use Rattle.kinds.proofs.HoldsLaws.{test-holds}
use Rattle.kinds.proofs.TableLaws.{both}
use Rattle.sheet.specs.Answer.{Held, held, refused, holding}
use Rattle.sheet.proofs.GivenLaws.{held-says, answer-held}
use Rattle.helper.specs.Answer.{max_size, sized, sized_in, size_answer}
use Rattle.std.specs.Prelude.{Ok, Err}
use Rattle.layout.specs.Answer.{layout_in, layout_answer}
use Rattle.layout.specs.Layout.{Extent, is_pointer, laid_out, is_bit_field, first_bit_field, sizeless, any_sizeless, next_multiple, primitive_extent, alignments, fields_end, members_end}
use Rattle.layout.specs.Layout.{only_extent, node_extent, extents, extent}
use Rattle.layout.proofs.MultipleLaws.{at_or_after}
use Rattle.layout_agreement.specs.Fields.{Positive}
use Rattle.layout_agreement.proofs.AnswerLaws.{layout-laid}
use Rattle.layout_agreement.proofs.CallLaws.{in_bytes, held-answer, refused-answer}
use Rattle.layout.proofs.FillLaws.{alignments-positive}
use Rattle.layout_agreement.proofs.ExtentLaws.{rows-positive, Aligned, extents-aligned}
use Rattle.layout_agreement.proofs.PartLaws.{neither, sized-parts, plain-parts}

-- There is a size, and it is at most this.
abbrev pub AtMost : Option ℕ → ℕ → Type 0
AtMost s m = (n : ℕ) × (s ≡ Some n) × (n ≤ m)

-- The same of each size and extent.
abbrev Under : List (Option ℕ) → List Extent → Type 0
Under [] [] = Unit {0}
Under [] (x ∷ xs) = ⊥
Under (s ∷ ss) [] = ⊥
Under (s ∷ ss) (x ∷ xs) = AtMost s x.bytes × Under ss xs

-- ---- Sums, the largest, and what one child has.

sum-under : (e : ℕ) (ss : List (Option ℕ)) (xs : List Extent) → Aligned xs → Under ss xs → (n : ℕ) × (sum ss ≡ Some n) × (e + n ≤ fields_end e xs)
unfolding sum plus fields_end
sum-under e [] [] a u = (0, refl, omega arith)
sum-under e [] (x ∷ xs) a u = absurd u
sum-under e (s ∷ ss) [] a u = absurd u
sum-under e (s ∷ ss) (x ∷ xs) a u =
    let h = u.0 in
    let p = sum-under (next_multiple x.alignment e + x.bytes) ss xs a.1 u.1 in
    let q = at_or_after x.alignment e a.0 in
    let i = h.2 in
    let j = p.2 in
    (h.0 + p.0, ap₂ plus h.1 p.1, omega arith)

largest-under : (s : Option ℕ) (x : Extent) (ss : List (Option ℕ)) (xs : List Extent) → AtMost s x.bytes → Under ss xs → AtMost (largest (s ∷ ss)) (members_end (x ∷ xs))
unfolding largest larger members_end
largest-under s x [] [] h u = (h.0, rw h.1, omega (arith, h.2, le-max_left x.bytes 0))
largest-under s x [] (y ∷ xs) h u = absurd u
largest-under s x (r ∷ ss) [] h u = absurd u
largest-under s x (r ∷ ss) (y ∷ xs) h u =
    let p = largest-under r y ss xs u.0 u.1 in
    let m = members_end (y ∷ xs) in
    (max h.0 p.0, ap₂ larger h.1 p.1, max-le (omega (arith, h.2, le-max_left x.bytes m)) (omega (arith, p.2, le-max_right x.bytes m)))

-- A primitive's size.
known : (s : Option ℕ) → is_none s ≡ false → AtMost s (unwrap_or s 0)
unfolding is_none
known None e = absurd (true≢false e)
known (Some n) e = (n, refl, omega arith)

-- What is shown has the size of its fields.
when-shown : (b : Bool) (x : Option ℕ) {n : ℕ} → b ≡ true → x ≡ Some n → cond b x None ≡ Some n
when-shown b x h e = ap (λ c. cond c x None) h ∙ e

module _ (w : Widths) (p : Positive w) where
  only_under : (v : NestingLevel) (cs : Trees) → is_one cs ≡ true → Under (sizes w v cs) (extents w cs) → AtMost (only (sizes w v cs)) (only_extent (extents w cs)).bytes
  unfolding is_one sizes extents only only_extent
  only_under v end e u = absurd (false≢true e)
  only_under v (node l cs ts) e u = u.0

  times-under : (n : ℕ) (s : Option ℕ) (m : ℕ) → AtMost s m → AtMost (times n s) (n * m)
  unfolding times
  times-under n s m h = (n * h.0, rw h.1, mul-le-mul_left n h.2)

  members-under : (v : NestingLevel) (cs : Trees) → is_end cs ≡ false → Under (sizes w v cs) (extents w cs) → AtMost (largest (sizes w v cs)) (members_end (extents w cs))
  unfolding is_end sizes extents
  members-under v end e u = absurd (true≢false e)
  members-under v (node l cs ts) e u =
      largest-under (node_size w l v (sizes w (inside l v) cs)) (node_extent w l (extents w cs)) (sizes w v ts) (extents w ts) u.0 u.1

  node-under : (l : Label) (v : NestingLevel) (cs : Trees) → sizeless w l (shows l v) (is_end cs) ≡ false → is_bit_field l ≡ false → valid_count l cs ≡ true
      → ((shows l v && not (is_pointer l)) ≡ true → Under (sizes w (inside l v) cs) (extents w cs)) → AtMost (node_size w l v (sizes w (inside l v) cs)) (node_extent w l (extents w cs)).bytes
  unfolding sizeless is_bit_field valid_count is_pointer node_size node_extent primitive_extent
  node-under (primitive q) v cs z b c u = known (primitive_size w q) z
  node-under (bit_field n) v cs z b c u = absurd (true≢false b)
  node-under (typed_bit_field o n) v cs z b c u = absurd (true≢false b)
  node-under pointer v cs z b c u = (w.pointer, refl, omega arith)
  node-under atomic v cs z b c u = only_under (inside atomic v) cs c (u refl)
  node-under (array n) v cs z b c u = times-under n (only (sizes w v cs)) (only_extent (extents w cs)).bytes (only_under v cs c (u refl))
  node-under (struct s) v cs z b c u =
      let h : shows_fields v ≡ true = not-false (shows_fields v) z in
      let d = sum-under 0 (sizes w Within cs) (extents w cs) (extents-aligned w p cs) (u (ap (λ b. b && true) h)) in
      let i = d.2 in
      (d.0, when-shown (shows_fields v) (sum (sizes w Within cs)) h d.1, omega (arith, at_or_after (alignments (extents w cs)) (fields_end 0 (extents w cs)) (alignments-positive (extents w cs))))
  node-under (union s) v cs z b c u =
      let n = neither (not (shows_fields v)) (is_end cs) z in
      let h : shows_fields v ≡ true = not-false (shows_fields v) n.0 in
      let d = members-under Within cs n.1 (u (ap (λ b. b && true) h)) in
      let i = d.2 in
      (d.0, when-shown (shows_fields v) (largest (sizes w Within cs)) h d.1, omega (arith, at_or_after (alignments (extents w cs)) (members_end (extents w cs)) (alignments-positive (extents w cs))))
  node-under T.none v cs z b c u = absurd (true≢false z)

  trees-under : (v : NestingLevel) (i : ℕ) (ts : Trees) → any_sizeless w (laid_out v i ts) ≡ false → first_bit_field (laid_out v i ts) ≡ None → valid ts ≡ true
      → Under (sizes w v ts) (extents w ts)
  unfolding sizes extents valid
  trees-under v i end a o g = tt
  trees-under v i (node l cs ts) a o g =
      let s = sized-parts v i l cs ts w a in
      let b = plain-parts v i l cs ts o in
      let x = both (valid_label l && valid_count l cs) (valid cs && valid ts) g in
      let y = both (valid cs) (valid ts) x.1 in (
        node-under l v cs s.own b.own (both (valid_label l) (valid_count l cs) x.0).1 (λ q. trees-under (inside l v) (i + 1) cs (s.inner q) (b.inner q) y.0),
        trees-under v (i + 1 + count cs) ts s.after b.after y.1,
      )

  pub size_below : (t : Trees) → is_one t ≡ true → valid t ≡ true → first_bit_field (laid_out Top 0 t) ≡ None → any_sizeless w (laid_out Top 0 t) ≡ false → AtMost (size w t) (extent w t).bytes
  unfolding size extent
  size_below t one g o a = only_under Top t one (trees-under Top 0 t a o g)

-- ---- The call.

pub sized-below : (row room : ℕ) (t : Trees) → is_one t ≡ true → valid t ≡ true → {b a : ℕ} → layout_in row room t ≡ Ok (Some (b, a)) → (n : ℕ) × (sized_in row t ≡ Ok (Some n)) × (n ≤ b)
unfolding sized_in sized
sized-below row room t one g e =
    let p = in_bytes row room t e in
    let l = layout-laid row t p.2 in
    let s = size_below (widths row) (rows-positive row) t one g l.no_bits l.all-sized in
    let f = l.fit.0 in
    let i = s.2 in
    let q = l.bytes in
    let m : s.0 ≤ max_size row = omega arith in
    (s.0, rw (p.0, s.1, le-leb s.0 (max_size row) m), omega arith)

pub answer-below : (row : ℕ) (words names list : List ℕ) {b a : ℕ} → layout_answer row words names list ≡ Ok (Some (b, a)) → (n : ℕ) × (size_answer row words names ≡ Ok (Some n)) × (n ≤ b)
unfolding size_answer
answer-below row words names list {b} {a} e = go (held words names) refl
  where
    go : (x : Held) → held words names ≡ x → (n : ℕ) × (size_answer row words names ≡ Ok (Some n)) × (n ≤ b)
    go (refused why) h = let d = sym (refused-answer row words names list h) ∙ e in let z : ◌≡◌ {A = ℕ} 0 1 = cc in absurd (omega arith)
    go (holding t) h =
        let k = held-says words names h in
        let g = rw k.tree at (test-holds words names k.sheet) in
        let s = sized-below row _ t g.one g.valid-tree (sym (held-answer row words names list h) ∙ e) in
        (s.0, sym (answer-held Err words names (sized_in row) h) ∙ s.1, s.2)
