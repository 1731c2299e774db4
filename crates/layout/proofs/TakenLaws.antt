-- Laws of the list of what each node takes: one node at a time, and what the call answers.
use Prim.Native.Nat.{ℕ, zero, suc, ◌+◌, ◌-◌, ◌*◌, ◌≤◌, ◌<◌}
use native.Mathlib.Omega.{arith}
use mathlib.Core.Path.{◌≡◌, refl, ap, ap₂, sym, ◌∙◌}
use mathlib.Core.List.{List, [], ◌∷◌, ◌++◌, append_assoc}
use mathlib.Core.Bool.{Bool, true, false, cond}
use borrow.Author.Tests.{le-leb, lt-leb, leb-false}
use lib.Dec.{leb}
use lib.ListN.{length, drop, set, length-append}
use lib.Seq.{sets, sets-eq}
use Rattle.kinds.specs.Parse.{max_u64}
use Rattle.kinds.specs.Primitive.{Widths, widths}
use Rattle.kinds.specs.Sheet.{count_at, trees}
use Rattle.kinds.specs.Tree.{Trees, end, node, count}
use Rattle.kinds.specs.Walk.{TreesAt}
use Rattle.kinds.specs.declared.Refusal.{Refusal}
use Rattle.kinds.proofs.SheetLaws.{trees-step}
use Rattle.kinds.proofs.NodeLaws.{node-inner, first_some, first-within, first-node, other-trees, inner-count, inner-end, no-trees}
use Rattle.sheet.specs.Answer.{held, refused}
use Rattle.sheet.specs.Given.{NodesAre}
use Rattle.sheet.proofs.GivenLaws.{answer-refused, answer-held}
use Rattle.helper.specs.Answer.{max_size}
use Rattle.helper.specs.Measure.{fit}
use Rattle.helper.specs.declared.Measured.TheVariants.{Bytes, TooLarge}
use Rattle.layout.specs.Answer.{extent_words, extents_of, extents_fit, extents_in, extents_answer, extents_list}
use Rattle.layout.specs.Layout.{Extent}
use Rattle.layout.specs.Placing.{extent_at, placed_of, room_words}
use Rattle.layout.specs.declared.place.Placed.{Placed}

-- ---- Two words of a node, by its cut-off size.

words-fit : (limit : ℕ) → limit ≤ max_u64 → (x : Extent) → room_words limit (fit x.bytes) x.alignment ≡ extent_words limit x
unfolding fit extent_words
words-fit limit g x = go (leb x.bytes max_u64) refl
  where
    above : max_u64 < x.bytes → limit < x.bytes
    above h = omega arith

    go : (t : Bool) → leb x.bytes max_u64 ≡ t → room_words limit (cond t (Bytes x.bytes) TooLarge) x.alignment ≡ extent_words limit x
    go true h = refl
    go false h = sym (rw (lt-leb x.bytes limit (above (leb-false x.bytes max_u64 h))))

pub words_placed : (limit : ℕ) → limit ≤ max_u64 → (y : Extent) (f : Bool) {x : Placed} → x ≡ placed_of y f → {ws : List ℕ} → ws ≡ room_words limit x.bytes x.alignment
    → ws ≡ extent_words limit y
unfolding placed_of
words_placed limit g y f e d = d ∙ ap (λ (z : Placed). room_words limit z.bytes z.alignment) e ∙ words-fit limit g y

-- ---- One node at a time.

module _ (m : Widths) (limit : ℕ) (s w : List ℕ) where
  taken_step : (n at : ℕ) → 1 ≤ count_at w at → count_at w at ≤ n → extents_of m limit (trees s w n at) ≡ extent_words limit (extent_at m s w at)
      ++ (extents_of m limit (trees s w (count_at w at - 1) (at + 4)) ++ extents_of m limit (trees s w (n - count_at w at) (at + 4 * count_at w at)))
  unfolding extents_of extent_at
  taken_step n at p q = ap (extents_of m limit) (trees-step s w n at p q)

  taken_none : (n at : ℕ) → n ≤ 0 → extents_of m limit (trees s w n at) ≡ []
  unfolding extents_of
  taken_none n at p = rw (no-trees s w n at p)

  run-first : (j n at : ℕ) → n ≤ 0 → extents_of m limit (trees s w (n + j) at) ≡ extents_of m limit (trees s w n at) ++ extents_of m limit (trees s w j (at + 4 * n))
  run-first j n at p =
      ap₂ (λ (x y : ℕ). extents_of m limit (trees s w x y)) (omega arith) (omega arith)
      ∙ ap (λ (x : List ℕ). x ++ extents_of m limit (trees s w j (at + 4 * n))) (sym (taken_none n at p))

  -- Two runs of trees, one after the other, are one.
  taken-run : (j f n at : ℕ) → n ≤ f → TreesAt w at n → extents_of m limit (trees s w (n + j) at)
      ≡ extents_of m limit (trees s w n at) ++ extents_of m limit (trees s w j (at + 4 * n))
  taken-run j zero n at p h = run-first j n at p
  taken-run j (suc f) zero at p h = run-first j zero at (omega arith)
  taken-run j (suc f) (suc n) at p h =
      let a = first_some w at (suc n) h (omega arith) in
      let b = first-within w at (suc n) h (omega arith) in
      let c = count_at w at in
      let own = extent_words limit (extent_at m s w at) in
      let inner = extents_of m limit (trees s w (c - 1) (at + 4)) in
      let left = extents_of m limit (trees s w (suc n - c) (at + 4 * c)) in
      let rest = extents_of m limit (trees s w j (at + 4 * suc n)) in
      taken_step (suc n + j) at a (omega arith)
      ∙ ap (λ (x : List ℕ). own ++ (inner ++ x))
      (ap (λ (x : ℕ). extents_of m limit (trees s w x (at + 4 * c))) (omega arith)
      ∙ taken-run j f (suc n - c) (at + 4 * c) (omega arith) (other-trees w at (suc n) h (omega arith))
      ∙ ap (λ (x : ℕ). left ++ extents_of m limit (trees s w j x)) (omega arith))
      ∙ ap (λ (x : List ℕ). own ++ x) (sym (append_assoc inner left rest))
      ∙ sym (append_assoc own (inner ++ left) rest)
      ∙ ap (λ (x : List ℕ). x ++ rest) (sym (taken_step (suc n) at a b))

  taken_next : (n at : ℕ) → TreesAt w at n → 0 < n → extents_of m limit (trees s w n at)
      ≡ extent_words limit (extent_at m s w at) ++ extents_of m limit (trees s w (n - 1) (at + 4))
  taken_next n at h p =
      let c = count_at w at in
      taken_step n at (first_some w at n h p) (first-within w at n h p)
      ∙ ap (λ (x : List ℕ). extent_words limit (extent_at m s w at) ++ x)
      (sym (ap (λ (x : ℕ). extents_of m limit (trees s w x (at + 4))) (sym (inner-count w at n h p))
      ∙ taken-run (n - c) (c - 1) (c - 1) (at + 4) (omega arith) (node-inner w at (first-node w at n h p))
      ∙ ap (λ (x : ℕ). extents_of m limit (trees s w (c - 1) (at + 4)) ++ extents_of m limit (trees s w (n - c) x)) (inner-end w at n h p)))

  pub taken_start : (n : ℕ) (now : List ℕ) → sets now 0 (extents_of m limit (trees s w (n - 0) 0)) ≡ sets now 0 (extents_of m limit (trees s w n 0))
  taken_start n now = ap (λ (x : ℕ). sets now 0 (extents_of m limit (trees s w x 0))) (omega arith)

  -- The list with the words of node `i`, where those of the nodes after it are still to be put.
  pub taken-turn : (n i : ℕ) (now : List ℕ) {z : List ℕ} {b a : ℕ} → TreesAt w (4 * i) (n - i) → i < n → b ∷ a ∷ [] ≡ extent_words limit (extent_at m s w (4 * i))
      → sets now (2 * i) (extents_of m limit (trees s w (n - i) (4 * i))) ≡ z
      → sets (set (set now (2 * i) b) (2 * i + 1) a) (2 * (i + 1)) (extents_of m limit (trees s w (n - (i + 1)) (4 * (i + 1)))) ≡ z
  taken-turn n i now {z} {b} {a} h p e g =
      let rest = extents_of m limit (trees s w (n - (i + 1)) (4 * (i + 1))) in
      ap₂ (λ (x y : ℕ). sets (set (set now (2 * i) b) x a) y rest) (one i) (two i)
      ∙ ap (λ (x : List ℕ). sets now (2 * i) (x ++ rest)) e
      ∙ ap (λ (x : List ℕ). sets now (2 * i) (extent_words limit (extent_at m s w (4 * i)) ++ x))
      (ap₂ (λ (x y : ℕ). extents_of m limit (trees s w x y)) (omega arith) (omega arith))
      ∙ sym (ap (sets now (2 * i)) (taken_next (n - i) (4 * i) h (omega arith)))
      ∙ g
    where
      one : (i : ℕ) → 2 * i + 1 ≡ suc (2 * i)
      one i = omega arith

      two : (i : ℕ) → 2 * (i + 1) ≡ suc (suc (2 * i))
      two i = omega arith

  pub taken-end : (n i : ℕ) (now : List ℕ) {z : List ℕ} → n ≤ i → sets now (2 * i) (extents_of m limit (trees s w (n - i) (4 * i))) ≡ z → now ≡ z
  taken-end n i now p g = sym (ap (sets now (2 * i)) (taken_none (n - i) (4 * i) (omega arith))) ∙ g

-- ---- The answers.

words-length : (limit : ℕ) (x : Extent) → length (extent_words limit x) ≡ 2
unfolding extent_words
words-length limit x = go (leb x.bytes limit)
  where
    go : (t : Bool) → length (cond t (x.bytes ∷ x.alignment ∷ []) (0 ∷ 0 ∷ [])) ≡ 2
    go true = refl
    go false = refl

taken-length : (m : Widths) (limit : ℕ) (t : Trees) → length (extents_of m limit t) ≡ 2 * count t
unfolding extents_of count
taken-length m limit end = refl
taken-length m limit (node l cs ts) =
    let a = taken-length m limit cs in
    let b = taken-length m limit ts in
    length-append (extent_words limit _) _ ∙ ap₂ ◌+◌ (words-length limit _) (length-append (extents_of m limit cs) (extents_of m limit ts)) ∙ (omega arith)

module _ (row : ℕ) (t : Trees) (list : List ℕ) where
  unfilled : {b : Bool} → extents_fit row (length list) t ≡ b → b ≡ false → (false ≡ extents_fit row (length list) t) × (list ≡ extents_in row t list)
  unfolding extents_in
  unfilled e d = (sym (e ∙ d), sym (rw (e ∙ d)))

  pub no-row-extents : 4 ≤ row → (false ≡ extents_fit row (length list) t) × (list ≡ extents_in row t list)
  unfolding extents_fit
  no-row-extents h = unfilled (rw (lt-leb row 3 h)) refl

  pub short-extents : row < 4 → length list < 2 * count t → (false ≡ extents_fit row (length list) t) × (list ≡ extents_in row t list)
  unfolding extents_fit
  short-extents h g = unfilled (rw (le-leb row 3 (omega arith), lt-leb (2 * count t) (length list) g)) refl

  pub filled-extents : row < 4 → 2 * count t ≤ length list → {after : List ℕ} → after ≡ sets list 0 (extents_of (widths row) (max_size row) t)
      → (true ≡ extents_fit row (length list) t) × (after ≡ extents_in row t list)
  unfolding extents_in extents_fit
  filled-extents h g e =
      let l = taken-length (widths row) (max_size row) t in (
        sym fits,
        e ∙ sets-eq (extents_of (widths row) (max_size row) t) list 0 (omega arith)
            ∙ ap (λ (k : ℕ). extents_of (widths row) (max_size row) t ++ drop k list) (zero-and l) ∙ sym (rw fits),
      )
    where
      zero-and : length (extents_of (widths row) (max_size row) t) ≡ 2 * count t → 0 + length (extents_of (widths row) (max_size row) t) ≡ 2 * count t
      zero-and l = omega arith

      fits : extents_fit row (length list) t ≡ true
      fits = rw (le-leb row 3 (omega arith), le-leb (2 * count t) (length list) g)

-- The call.
module _ (row : ℕ) (words names list : List ℕ) where
  pub extents-refused : {r : Refusal} → held words names ≡ refused r → (false ≡ extents_answer row words names list) × (list ≡ extents_list row words names list)
  unfolding extents_answer extents_list
  extents-refused h = (answer-refused (λ r. false) words names (extents_fit row (length list)) h, answer-refused (λ r. list) words names (λ t. extents_in row t list) h)

  pub extents-nodes : {w : List ℕ} {n : ℕ} → NodesAre words names w n → {r : Bool} {after : List ℕ} → r ≡ extents_fit row (length list) (trees names w n 0)
      → after ≡ extents_in row (trees names w n 0) list → (r ≡ extents_answer row words names list) × (after ≡ extents_list row words names list)
  unfolding extents_answer extents_list
  extents-nodes h d e = (
    d ∙ answer-held (λ r. false) words names (extents_fit row (length list)) h.holds,
    e ∙ answer-held (λ r. list) words names (λ t. extents_in row t list) h.holds,
  )
