-- Laws of one step of reading at a place: a byte of fuel, what a byte begins, and the closers of an array and of a container.
use Prim.Native.Nat.{ℕ, zero, suc, ◌+◌, ◌≤◌, ◌<◌}
use mathlib.Core.Path.{◌≡◌, refl, sym, ap, ◌∙◌}
use mathlib.Core.List.{List, []}
use mathlib.Core.Bool.{Bool, true, false, ◌&&◌}
use native.Mathlib.Decide.{dec_lt}
use native.Mathlib.Omega.{arith}
use lib.Dec.{ltb, eqb}
use lib.ListN.{length, drop, get_or, length-drop}
use borrow.Author.Tests.{lt-ltb, ltb-true, eqb-true, eq-eqb}
use Rattle.kinds.proofs.ListLaws.{unread, unread-end}
use Rattle.kinds.proofs.TableLaws.{both}
use Rattle.kinds.specs.Container.{end_byte, same_container}
use Rattle.kinds.specs.Parse as R
use Rattle.kinds.specs.Parse.{max_u64, start, in_singles, singles, in_others, others, begin, encoding, refused, parse_inner, parse_items}
use Rattle.kinds.specs.Tree.{Label, Trees, end, node, array}
use Rattle.kinds.specs.declared.ContainerKind.{ContainerKind}
use Rattle.kinds.specs.declared.ContainerKind.TheVariants.{Struct, Union}
use Rattle.kinds.specs.declared.ErrorKind.TheVariants.{WrongEndArray}
use Rattle.codes.specs.Answer.{closed, closes_fields}

pub parse-step : (text : List ℕ) (at g : ℕ) → at < length text
    → parse_inner (suc g) (drop at text) ≡ begin (get_or text at 0) (start (get_or text at 0)) (drop (at + 1) text) (λ t. parse_inner g t) (λ k t. parse_items g k t)
unfolding parse_inner
parse-step text at g h = ap (parse_inner (suc g)) (unread text at h)

pub parse-nil : (f : ℕ) → parse_inner f [] ≡ R.empty
unfolding parse_inner
parse-nil zero = refl
parse-nil (suc f) = refl

module _ (text : List ℕ) (at : ℕ) where
  pub begins : {S : R.Start} → start (get_or text at 0) ≡ S → (inner : List ℕ → R.Parsed) (fields : ContainerKind → List ℕ → R.Items)
      → begin (get_or text at 0) (start (get_or text at 0)) (drop (at + 1) text) inner fields ≡ begin (get_or text at 0) S (drop (at + 1) text) inner fields
  begins e inner fields = ap (λ (x : R.Start). begin (get_or text at 0) x (drop (at + 1) text) inner fields) e

  -- a pointer or an atomic, from what is read of the rest
  pub held-from : {l : Label} → start (get_or text at 0) ≡ R.indirection l → (inner : List ℕ → R.Parsed) (fields : ContainerKind → List ℕ → R.Items)
      {q : R.Parsed} → inner (drop (at + 1) text) ≡ q
      → begin (get_or text at 0) (start (get_or text at 0)) (drop (at + 1) text) inner fields ≡ R.held l (drop (at + 1) text) q
  unfolding begin
  held-from {l} st inner fields e = begins st inner fields ∙ ap (R.held l (drop (at + 1) text)) e

  pub begins-held : {l : Label} → start (get_or text at 0) ≡ R.indirection l → (g : ℕ) {q : R.Parsed} → parse_inner g (drop (at + 1) text) ≡ q
      → begin (get_or text at 0) (start (get_or text at 0)) (drop (at + 1) text) (λ t. parse_inner g t) (λ k t. parse_items g k t) ≡ R.held l (drop (at + 1) text) q
  begins-held st g e = held-from st (λ t. parse_inner g t) (λ k t. parse_items g k t) e

  -- an array whose length ends at `it`, from what is read there
  module _ (len it : ℕ) (st : start (get_or text at 0) ≡ R.open_array) (num : R.parse_number max_u64 (drop (at + 1) text) ≡ R.value len (drop it text)) where
    pub item_from : (inner : List ℕ → R.Parsed) (fields : ContainerKind → List ℕ → R.Items) {q : R.Parsed} → inner (drop it text) ≡ q
        → begin (get_or text at 0) (start (get_or text at 0)) (drop (at + 1) text) inner fields ≡ R.item len q
    unfolding begin
    item_from inner fields e = begins st inner fields ∙ (rw (num, begin) refl) ∙ ap (R.item len) e

    pub begins-item : (g : ℕ) {q : R.Parsed} → parse_inner g (drop it text) ≡ q
        → begin (get_or text at 0) (start (get_or text at 0)) (drop (at + 1) text) (λ t. parse_inner g t) (λ k t. parse_items g k t) ≡ R.item len q
    begins-item g e = item_from (λ t. parse_inner g t) (λ k t. parse_items g k t) e

  -- a container's next field, from what is read there
  pub next-is : (kind : ContainerKind) (g : ℕ) {q : R.Parsed} → parse_inner g (drop at text) ≡ q
      → R.next_item kind (parse_inner g (drop at text)) (λ t. parse_items g kind t) ≡ R.next_item kind q (λ t. parse_items g kind t)
  next-is kind g e = ap (λ (x : R.Parsed). R.next_item kind x (λ t. parse_items g kind t)) e

-- The fuel that a byte leaves is enough at a later place.
pub fuel_on : (text : List ℕ) (at it g : ℕ) → at + 1 ≤ it → length (drop (at + 1) text) + length (drop (at + 1) text) < g
    → length (drop it text) + length (drop it text) ≤ g
fuel_on text at it g on l = omega (arith, length-drop it text, length-drop (at + 1) text)

-- ---- The closer of an array.

pub closed_in : (text : List ℕ) (to : ℕ) → closed text to ≡ true → to < length text
closed_in text to e = ltb-true to (length text) (both (ltb to (length text)) (eqb (get_or text to 0) 93) e).0

pub closed_is : (text : List ℕ) (to : ℕ) → closed text to ≡ true → get_or text to 0 ≡ 93
closed_is text to e = eqb-true _ _ (both (ltb to (length text)) (eqb (get_or text to 0) 93) e).1

pub not-closed : (text : List ℕ) (to : ℕ) → to < length text → closed text to ≡ false → eqb (get_or text to 0) 93 ≡ false
not-closed text to h e = sym (ap (λ (x : Bool). x && eqb (get_or text to 0) 93) (lt-ltb to (length text) h)) ∙ e

pub closes-it : (text : List ℕ) (len : ℕ) (c : Label) (cs : Trees) (to : ℕ) → to < length text → get_or text to 0 ≡ 93 → R.close_item len c cs (drop to text)
    ≡ encoding (array len) (node c cs end) (drop (to + 1) text)
unfolding R.close_item
closes-it text len c cs to l e = ap (R.close_item len c cs) (unread text to l) ∙ rw (eq-eqb _ _ e, R.close_item) refl

pub closes-not : (text : List ℕ) (len : ℕ) (c : Label) (cs : Trees) (to : ℕ) → closed text to ≡ false → R.close_item len c cs (drop to text)
    ≡ refused WrongEndArray (drop to text)
unfolding R.close_item
closes-not text len c cs to e = elim (dec_lt to (length text)) [
  | yes l ↦ ap (R.close_item len c cs) (unread text to l) ∙ (rw (not-closed text to l e, R.close_item) refl) ∙ sym (ap (refused WrongEndArray) (unread text to l))
  | no l ↦ ap (R.close_item len c cs) (unread-end text to (omega arith)) ∙ sym (ap (refused WrongEndArray) (unread-end text to (omega arith)))
]

-- ---- The closer of a container.

closer-starts : (k : ContainerKind) → start (end_byte k) ≡ R.close_container k
unfolding start in_singles singles in_others others
closer-starts Struct = refl
closer-starts Union = refl

pub same_self : (k : ContainerKind) → same_container k k ≡ true
same_self Struct = refl
same_self Union = refl

pub closes_in : (text : List ℕ) (at : ℕ) (kind : ContainerKind) → closes_fields text at kind ≡ true → at < length text
closes_in text at kind e = ltb-true at (length text) (both (ltb at (length text)) (eqb (get_or text at 0) (end_byte kind)) e).0

pub closes-starts : (text : List ℕ) (at : ℕ) (kind : ContainerKind) → closes_fields text at kind ≡ true → start (get_or text at 0) ≡ R.close_container kind
closes-starts text at kind e = ap start (eqb-true _ _ (both (ltb at (length text)) (eqb (get_or text at 0) (end_byte kind)) e).1) ∙ closer-starts kind
