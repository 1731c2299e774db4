-- What the call answers for lent lists, refusal by refusal, and what it leaves in the lent list of numbers.
use Prim.Native.Nat.{ℕ, ◌≤◌, ◌<◌}
use native.Mathlib.Omega.{arith}
use mathlib.Core.Bool.{Bool, true, false, cond}
use mathlib.Core.List.{List, ◌++◌}
use mathlib.Core.Logic.{◌↔◌, ◌⊎◌, inl, inr, ⊎_elim}
use Rattle.std.specs.Prelude.{Some, None}
use mathlib.Core.Path.{◌≡◌, refl, sym, ap, ◌∙◌}
use borrow.Author.Tests.{le-leb, lt-leb, leb-true, leb-false}
use lib.Dec.{leb}
use lib.ListN.{length, take, drop, length-append, length-drop}
use lib.Seq.{take_at, drop_at}
use Rattle.kinds.specs.Primitive.{is_row, widths}
use Rattle.kinds.specs.Sheet.{is_sheet, tree_of}
use Rattle.kinds.specs.Sound.{good_names}
use Rattle.kinds.specs.Tree.{Trees, count}
use Rattle.kinds.specs.declared.NestingLevel.TheVariants.{Top}
use Rattle.kinds.specs.declared.Refusal.{Refusal}
use Rattle.kinds.specs.declared.Refusal.TheVariants as R
use Rattle.sheet.specs.Answer.{Held, held, refused, holding}
use Rattle.sheet.proofs.GivenLaws.{answer-refused, answer-held}
use Rattle.layout.specs.Answer.{offsets_in, layout_of, layout_in, layout_answer, list_after, list_in, layout_list}
use Rattle.layout.specs.Layout.{laid_out, first_bit_field, any_sizeless, extent, others, offsets}
use Rattle.std.specs.Prelude.{Option, Result, Ok, Err}
use Rattle.layout_agreement.specs.Laid.{Fits}
use Rattle.layout_agreement.proofs.AnswerLaws.{layout-not-short, layout-not-row, layout-bits, layout-nothing, layout-bytes, layout-large}
use Rattle.layout.proofs.FillLaws.{offsets-length}

-- An answer that is another tells what the other tells.
by_answer : {x y z : Result (Option (ℕ × ℕ)) Refusal} {Q : Type 0} → x ≡ y → (y ≡ z) ↔ Q → (x ≡ z) ↔ Q
by_answer e q = (λ d. q.0 (sym e ∙ d), λ d. e ∙ q.1 d)

-- Lists are refused by 3 or 4 alone.
held-why : (words names : List ℕ) {r : Refusal} → held words names ≡ refused r → (r ≡ R.BadName) ⊎ (r ≡ R.NotASheet)
unfolding held
held-why words names {r} e = go (is_sheet words names) (good_names (tree_of words names)) e
  where
    go : (x y : Bool) → cond x (cond y (holding (tree_of words names)) (refused R.BadName)) (refused R.NotASheet) ≡ refused r → (r ≡ R.BadName) ⊎ (r ≡ R.NotASheet)
    go true true e = let z : ◌≡◌ {A = ℕ} 0 1 = cc in absurd (omega arith)
    go true false e = inl (cc)
    go false y e = inr (cc)

-- ---- A tree's layout and the list after it.

module _ (row room : ℕ) (t : Trees) where
  in-no-row : layout_in row room t ≡ Err R.NoSuchRow → is_row row ≡ false
  unfolding layout_in
  in-no-row e = go (is_row row) refl (leb (count t) room) e
    where
      go : (x : Bool) → is_row row ≡ x → (y : Bool) → cond x (cond y (layout_of row t) (Err R.ListTooShort)) (Err R.NoSuchRow) ≡ Err R.NoSuchRow → is_row row ≡ false
      go true d true e = absurd (layout-not-row row t e)
      go true d false e = let z : ◌≡◌ {A = ℕ} 0 1 = cc in absurd (omega arith)
      go false d y e = d

  pub in_bytes : {n a : ℕ} → layout_in row room t ≡ Ok (Some (n, a)) → (is_row row ≡ true) × (count t ≤ room) × (layout_of row t ≡ Ok (Some (n, a)))
  unfolding layout_in
  in_bytes {n} {a} e = go (is_row row) refl (leb (count t) room) refl e
    where
      go : (x : Bool) → is_row row ≡ x → (y : Bool) → leb (count t) room ≡ y → cond x (cond y (layout_of row t) (Err R.ListTooShort)) (Err R.NoSuchRow) ≡ Ok (Some (n, a))
          → (is_row row ≡ true) × (count t ≤ room) × (layout_of row t ≡ Ok (Some (n, a)))
      go true d true c e = (d, leb-true (count t) room c, e)
      go true d false c e = let z : ◌≡◌ {A = ℕ} 0 1 = cc in absurd (omega arith)
      go false d y c e = let z : ◌≡◌ {A = ℕ} 0 1 = cc in absurd (omega arith)

module _ (row : ℕ) (t : Trees) (list : List ℕ) where
  numbers : length (offsets_in row t) ≡ count t
  unfolding offsets_in
  numbers = offsets-length (widths row) others 0 t

  list-in-length : length (list_in row t list) ≡ length list
  unfolding list_in
  list-in-length = go (layout_in row (length list) t) refl
    where
      go : (x : Result (Option (ℕ × ℕ)) Refusal) → layout_in row (length list) t ≡ x → length (list_after x (offsets_in row t) list) ≡ length list
      go (Err r) e = refl
      go (Ok None) e = refl
      go (Ok (Some (n, a))) e =
          let p = in_bytes row (length list) t e in
          omega (arith, p.1, numbers, length-append (offsets_in row t) (drop (length (offsets_in row t)) list), length-drop (length (offsets_in row t)) list)

  list-in-refused : {r : Refusal} → layout_in row (length list) t ≡ Err r → list_in row t list ≡ list
  unfolding list_in
  list-in-refused e = rw e

  list-in-nothing : layout_in row (length list) t ≡ Ok None → list_in row t list ≡ list
  unfolding list_in
  list-in-nothing e = rw e

  list-in-bytes : {n a : ℕ} → layout_in row (length list) t ≡ Ok (Some (n, a)) → list_in row t list ≡ offsets_in row t ++ drop (count t) list
  unfolding list_in
  list-in-bytes e = rw e (ap (λ k. offsets_in row t ++ drop k list) numbers)

-- ---- The call.

module _ (row : ℕ) (words names list : List ℕ) where
  pub refused-answer : {r : Refusal} → held words names ≡ refused r → layout_answer row words names list ≡ Err r
  unfolding layout_answer
  refused-answer e = sym (answer-refused Err words names (layout_in row (length list)) e)

  pub held-answer : {t : Trees} → held words names ≡ holding t → layout_answer row words names list ≡ layout_in row (length list) t
  unfolding layout_answer
  held-answer e = sym (answer-held Err words names (layout_in row (length list)) e)

  held-list : {t : Trees} → held words names ≡ holding t → layout_list row words names list ≡ list_in row t list
  unfolding layout_list
  held-list e = sym (answer-held (λ r. list) words names (λ t. list_in row t list) e)

  refused-list : {r : Refusal} → held words names ≡ refused r → layout_list row words names list ≡ list
  unfolding layout_list
  refused-list e = sym (answer-refused (λ r. list) words names (λ t. list_in row t list) e)

  pub answer-no-row : (layout_answer row words names list ≡ Err R.NoSuchRow) ↔ ((t : Trees) × (held words names ≡ holding t) × (is_row row ≡ false))
  unfolding layout_in
  answer-no-row = (λ e. go (held words names) refl e, λ e. held-answer e.1 ∙ rw e.2)
    where
      go : (x : Held) → held words names ≡ x → layout_answer row words names list ≡ Err R.NoSuchRow → (t : Trees) × (held words names ≡ holding t) × (is_row row ≡ false)
      go (refused why) h e =
          let d : ◌≡◌ {A = (Result (Option (ℕ × ℕ)) Refusal)} (Err why) (Err R.NoSuchRow) = sym (refused-answer h) ∙ e in
          ⊎_elim (λ w. let z : ◌≡◌ {A = ℕ} 0 1 = cc in absurd (omega arith)) (λ w. let z : ◌≡◌ {A = ℕ} 0 1 = cc in absurd (omega arith)) (held-why words names h)
      go (holding t) h e = (t, h, in-no-row row (length list) t (sym (held-answer h) ∙ e))

  module _ {t : Trees} (h : held words names ≡ holding t) (r : is_row row ≡ true) where
    row-answer : layout_answer row words names list ≡ cond (leb (count t) (length list)) (layout_of row t) (Err R.ListTooShort)
    unfolding layout_in
    row-answer = held-answer h ∙ rw r

    pub answer-short : (layout_answer row words names list ≡ Err R.ListTooShort) ↔ (length list < count t)
    answer-short = (λ e. go (leb (count t) (length list)) refl (sym row-answer ∙ e), λ l. row-answer ∙ rw (lt-leb (count t) (length list) l))
      where
        go : (x : Bool) → leb (count t) (length list) ≡ x → cond x (layout_of row t) (Err R.ListTooShort) ≡ Err R.ListTooShort → length list < count t
        go true d e = absurd (layout-not-short row t e)
        go false d e = leb-false (count t) (length list) d

    module _ (m : count t ≤ length list) where
      pub room-answer : layout_answer row words names list ≡ layout_of row t
      room-answer = row-answer ∙ rw (le-leb (count t) (length list) m)

      pub answer-bits : (i : ℕ) → (layout_answer row words names list ≡ Err (R.BitFieldInLayout i)) ↔ (first_bit_field (laid_out Top 0 t) ≡ Some i)
      answer-bits i = by_answer room-answer (layout-bits row t i)

      module _ (o : first_bit_field (laid_out Top 0 t) ≡ None) where
        pub answer-nothing : (layout_answer row words names list ≡ Ok None) ↔ (any_sizeless (widths row) (laid_out Top 0 t) ≡ true)
        answer-nothing = by_answer room-answer (layout-nothing row t o)

        module _ (b : any_sizeless (widths row) (laid_out Top 0 t) ≡ false) where
          pub answer-bytes : (n a : ℕ) → (layout_answer row words names list ≡ Ok (Some (n, a))) ↔ (((extent (widths row) t).bytes ≡ n) × ((extent (widths row) t).alignment ≡ a) × Fits row t)
          answer-bytes n a = by_answer room-answer (layout-bytes row t o b n a)

          pub answer-large : (layout_answer row words names list ≡ Err R.SizeTooLarge) ↔ (Fits row t → ⊥)
          answer-large = by_answer room-answer (layout-large row t o b)

  -- ---- The list.

  pub list_length : length (layout_list row words names list) ≡ length list
  list_length = go (held words names) refl
    where
      go : (x : Held) → held words names ≡ x → length (layout_list row words names list) ≡ length list
      go (refused why) h = ap length (refused-list h)
      go (holding t) h = ap length (held-list h) ∙ list-in-length row t list

  pub list-refused : {r : Refusal} → layout_answer row words names list ≡ Err r → layout_list row words names list ≡ list
  list-refused {r} e = go (held words names) refl
    where
      go : (x : Held) → held words names ≡ x → layout_list row words names list ≡ list
      go (refused why) h = refused-list h
      go (holding t) h = held-list h ∙ list-in-refused row t list (sym (held-answer h) ∙ e)

  pub list-nothing : layout_answer row words names list ≡ Ok None → layout_list row words names list ≡ list
  list-nothing e = go (held words names) refl
    where
      go : (x : Held) → held words names ≡ x → layout_list row words names list ≡ list
      go (refused why) h = refused-list h
      go (holding t) h = held-list h ∙ list-in-nothing row t list (sym (held-answer h) ∙ e)

  pub list-bytes : {n a : ℕ} → layout_answer row words names list ≡ Ok (Some (n, a))
      → (t : Trees) × (held words names ≡ holding t) × (take (count t) (layout_list row words names list) ≡ offsets (widths row) others 0 t)
      × (drop (count t) (layout_list row words names list) ≡ drop (count t) list)
  unfolding offsets_in
  list-bytes {n} {a} e = go (held words names) refl
    where
      go : (x : Held) → held words names ≡ x → (t : Trees) × (held words names ≡ holding t) × (take (count t) (layout_list row words names list) ≡ offsets (widths row) others 0 t)
          × (drop (count t) (layout_list row words names list) ≡ drop (count t) list)
      go (refused why) h = let d = sym (refused-answer h) ∙ e in let z : ◌≡◌ {A = ℕ} 0 1 = cc in absurd (omega arith)
      go (holding t) h =
          let d = held-list h ∙ list-in-bytes row t list (sym (held-answer h) ∙ e) in (
            t,
            h,
            ap (take (count t)) d ∙ take_at (offsets_in row t) (drop (count t) list) (count t) (numbers row t list),
            ap (drop (count t)) d ∙ drop_at (offsets_in row t) (drop (count t) list) (count t) (numbers row t list),
          )
