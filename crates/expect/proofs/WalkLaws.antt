-- Tree against text at a node of a sheet: each kind by what its own bytes give.
use Rattle.std.specs.Prelude.{Option}
use Prim.Native.Nat.{ℕ, zero, suc, ◌+◌, ◌-◌, ◌*◌, ◌≤◌, ◌<◌}
use native.Mathlib.Omega.{arith}
use mathlib.Core.Path.{◌≡◌, refl, ap, ap₂, sym, ◌∙◌, subst}
use mathlib.Core.List.{List}
use mathlib.Core.Bool.{Bool, true, false, cond, ◌||◌, false≢true}
use borrow.Author.Tests.{leb-true, leb-false, eq-eqb, ne_eqb, eqb-true, eqb-false}
use lib.ListN.{length, take, drop}
use lib.Dec.{leb, eqb}
use native.Mathlib.Nat.{add-sub_cancel_left}
use Rattle.kinds.proofs.ListLaws.{unread, unread-end, whole}
use Rattle.kinds.proofs.SheetLaws.{trees-step}
use Rattle.kinds.proofs.KindLaws.{not-indirection}
use Rattle.kinds.proofs.NodeLaws.{child-count, node-child, label-primitive, label-bits, label-typed, label-pointer, label-atomic, label-array, label-struct, label-union, label-none, no-trees, some-trees}
use Rattle.kinds.specs.Container.{start_byte, end_byte, prefix_byte}
use Rattle.kinds.specs.Expect as E
use Rattle.kinds.specs.Expect.{remaining, mismatch, ◌then◌, or_else, expect_byte, expect_bytes, expect_number, expect_primitive, skip_items, expect_fields, expect_container, expect_node, expect_encoding, is_empty}
use Rattle.kinds.specs.Level.{indirection, container_include_fields}
use Rattle.kinds.specs.Parse.{container, max_u8}
use Rattle.kinds.specs.Sheet.{kind_at, first_at, second_at, count_at, is_container_kind, label_at, label, trees}
use Rattle.kinds.specs.Tree.{Label, Trees, is_end, inside}
use Rattle.kinds.specs.Walk.{NodeAt}
use Rattle.kinds.specs.declared.ContainerKind.{ContainerKind}
use Rattle.kinds.specs.declared.ContainerKind.TheVariants.{Struct, Union}
use Rattle.std.specs.Prelude.{Some, None}
use Rattle.kinds.specs.declared.NestingLevel.{NestingLevel}
use Rattle.kinds.specs.declared.NestingLevel.TheVariants.{Top, Within, Bottom}
use Rattle.kinds.specs.Kind.{container_of, is_indirection}
use Rattle.expect.specs.Agree.{expect_at, ExpectedIs, InText, indirection_of, expect_leaf, opening, closing, OpenedIs, ContainerOpenedAt, taken_of, fields_of, OpenedAt}
use Rattle.expect.specs.declared.Opened.{Opened}
use Rattle.expect.specs.declared.Opened.TheVariants as O
use Rattle.expect.proofs.TextLaws.{then-remaining, then-mismatch, then-nothing, closing-container}

pub then-assoc : (x : E.Expected) (f g : List ℕ → E.Expected) → ((x then f) then g) ≡ (x then (λ t. f t then g))
unfolding ◌then◌
then-assoc (remaining s) f g = refl
then-assoc mismatch f g = refl

-- The first of several trees, and the others.
module _ (names w : List ℕ) (v : NestingLevel) (s : List ℕ) where
  pub expect-trees : (n at : ℕ) → 1 ≤ count_at w at → count_at w at ≤ n
      → expect_encoding v (trees names w n at) s ≡ (expect_at names w at v s then
      (λ t. expect_encoding v (trees names w (n - count_at w at) (at + 4 * count_at w at)) t))
  unfolding expect_encoding expect_at
  expect-trees n at p q = ap (λ (x : Trees). expect_encoding v x s) (trees-step names w n at p q)

-- The only child of a node.
only_child : (names w : List ℕ) (at : ℕ) (v : NestingLevel) (s : List ℕ) → NodeAt w at → 25 ≤ kind_at w at → kind_at w at ≤ 28
    → expect_encoding v (trees names w (count_at w at - 1) (at + 4)) s ≡ expect_at names w (at + 4) v s
unfolding expect_encoding
only_child names w at v s h lo hi =
    let c = child-count w at h lo hi in
    let d = node-child w at h lo hi in
    expect-trees names w v s (count_at w at - 1) (at + 4) d.some-node (omega arith)
    ∙ ap (λ (x : Trees). expect_at names w (at + 4) v s then (λ t. expect_encoding v x t))
    (no-trees names w (count_at w at - 1 - count_at w (at + 4)) (at + 4 + 4 * count_at w (at + 4)) (omega arith))
    ∙ then-nothing (expect_at names w (at + 4) v s)

module _ (names w : List ℕ) (at : ℕ) (v : NestingLevel) (s : List ℕ) where
  pub leaf-is : kind_at w at < 25 → expect_at names w at v s ≡ cond (leb (kind_at w at) 23) (expect_primitive (kind_at w at) s)
      (expect_byte 98 s then (λ t. expect_number max_u8 (second_at w at) t))
  unfolding expect_at expect_node
  leaf-is p = go (leb (kind_at w at) 23) refl
    where
      go : (t : Bool) → leb (kind_at w at) 23 ≡ t → expect_at names w at v s ≡ cond t (expect_primitive (kind_at w at) s)
          (expect_byte 98 s then (λ t. expect_number max_u8 (second_at w at) t))
      go true e = rw (label-primitive names (kind_at w at) (first_at w at) (second_at w at) (low e))
        where
          low : leb (kind_at w at) 23 ≡ true → kind_at w at < 24
          low q = omega (arith, leb-true (kind_at w at) 23 q)
      go false e = rw (label-bits names (kind_at w at) (first_at w at) (second_at w at) (omega (arith, leb-false (kind_at w at) 23 e)))

  pub none_is : kind_at w at ≡ 31 → expect_at names w at v s ≡ remaining s
  unfolding expect_at expect_node
  none_is p = rw (label-none names (kind_at w at) (first_at w at) (second_at w at) (omega arith))

  -- Pointers and atomics.
  module _ (lo : 26 ≤ kind_at w at) (hi : kind_at w at ≤ 27) where
    behind : expect_at names w at v s ≡ (expect_byte (prefix_byte (indirection_of (kind_at w at))) s then
        (λ t. expect_encoding (indirection (indirection_of (kind_at w at)) v) (trees names w (count_at w at - 1) (at + 4)) t))
    unfolding expect_at expect_node
    behind = go (eqb (kind_at w at) 26) refl
      where
        other : (kind_at w at ≡ 26 → ⊥) → kind_at w at ≡ 27
        other r = omega arith

        go : (t : Bool) → eqb (kind_at w at) 26 ≡ t → expect_at names w at v s ≡
            (expect_byte (prefix_byte (indirection_of (kind_at w at))) s then
            (λ t. expect_encoding (indirection (indirection_of (kind_at w at)) v) (trees names w (count_at w at - 1) (at + 4)) t))
        go true e = rw (label-pointer names (kind_at w at) (first_at w at) (second_at w at) (eqb-true (kind_at w at) 26 e), e)
        go false e = rw (label-atomic names (kind_at w at) (first_at w at) (second_at w at) (other (eqb-false (kind_at w at) 26 e)), e)

    pub behind-off : expect_byte (prefix_byte (indirection_of (kind_at w at))) s ≡ mismatch → expect_at names w at v s ≡ mismatch
    behind-off e = behind ∙ then-mismatch _ _ e

    pub behind_more : NodeAt w at → (t : List ℕ) → expect_byte (prefix_byte (indirection_of (kind_at w at))) s ≡ remaining t
        → expect_at names w at v s ≡ expect_at names w (at + 4) (indirection (indirection_of (kind_at w at)) v) t
    behind_more h t e = behind ∙ then-remaining _ _ _ e ∙ only_child names w at (indirection (indirection_of (kind_at w at)) v) t h (omega arith) (omega arith)

  -- A bitfield with a type, and an array.
  module _ (lo : 25 ≤ kind_at w at) (hi : kind_at w at < 29) (m : kind_at w at ≡ 26 → ⊥) (n : kind_at w at ≡ 27 → ⊥) where
    around : expect_at names w at v s ≡ (opening (kind_at w at) (first_at w at) s then
        (λ t. expect_encoding v (trees names w (count_at w at - 1) (at + 4)) t then (λ u. closing (kind_at w at) (second_at w at) u)))
    unfolding expect_at expect_node opening closing
    around = go (eqb (kind_at w at) 25) refl
      where
        other : (kind_at w at ≡ 25 → ⊥) → kind_at w at ≡ 28
        other r = past lo
          where
            past : 25 ≤ kind_at w at → kind_at w at ≡ 28
            past l = omega arith

        go : (t : Bool) → eqb (kind_at w at) 25 ≡ t → expect_at names w at v s ≡
            (opening (kind_at w at) (first_at w at) s then
            (λ t. expect_encoding v (trees names w (count_at w at - 1) (at + 4)) t then (λ u. closing (kind_at w at) (second_at w at) u)))
        go true e = rw (label-typed names (kind_at w at) (first_at w at) (second_at w at) (eqb-true (kind_at w at) 25 e), e)
            (sym (then-assoc (expect_byte 98 s) _ _))
        go false e = rw (
          label-array names (kind_at w at) (first_at w at) (second_at w at) (other (eqb-false (kind_at w at) 25 e)),
          e,
          eq-eqb (kind_at w at) 28
              (other (eqb-false (kind_at w at) 25 e)),
        ) (sym (then-assoc (expect_byte 91 s) _ _))

-- Containers.
module _ (k : ContainerKind) (e : Bool) (inner : List ℕ → E.Expected) (s : List ℕ) where
  pub fields-skipped : e ≡ true → (t : List ℕ) → expect_byte 61 s ≡ remaining t → (expect_byte 61 s then (λ u. expect_fields k e inner u)) ≡ skip_items k t
  unfolding expect_fields
  fields-skipped q t h = then-remaining _ _ _ h ∙ rw q

  module _ (q : e ≡ false) (t : List ℕ) (h : expect_byte 61 s ≡ remaining t) where
    pub fields-closed : (u : List ℕ) → expect_byte (end_byte k) t ≡ remaining u → (expect_byte 61 s then (λ u. expect_fields k e inner u)) ≡ remaining u
    unfolding expect_fields or_else
    fields-closed u f = then-remaining _ _ _ h ∙ rw (q, f)

    pub fields-inner : expect_byte (end_byte k) t ≡ mismatch → (expect_byte 61 s then (λ u. expect_fields k e inner u))
        ≡ (inner t then (λ u. expect_byte (end_byte k) u))
    unfolding expect_fields or_else
    fields-inner f = then-remaining _ _ _ h ∙ rw (q, f)

module _ (k : ContainerKind) (m : List ℕ) (v : NestingLevel) (e : Bool) (inner : List ℕ → E.Expected) (s : List ℕ) where
  started : expect_node (container k m) v e inner s ≡ (expect_byte (start_byte k) s then (λ t. expect_container k m v e inner t))
  unfolding expect_node
  started = go k
    where
      go : (j : ContainerKind) → expect_node (container j m) v e inner s ≡ (expect_byte (start_byte j) s then (λ t. expect_container j m v e inner t))
      go Struct = refl
      go Union = refl

  pub container-off : expect_byte (start_byte k) s ≡ mismatch → expect_node (container k m) v e inner s ≡ mismatch
  container-off h = started ∙ then-mismatch _ _ h

  module _ (t : List ℕ) (h : expect_byte (start_byte k) s ≡ remaining t) where
    pub container-misnamed : expect_bytes m t ≡ mismatch → expect_node (container k m) v e inner s ≡ mismatch
    unfolding expect_container
    container-misnamed f = started ∙ then-remaining _ _ _ h ∙ go v
      where
        go : (u : NestingLevel) → expect_container k m u e inner t ≡ mismatch
        go Top = then-mismatch _ _ f
        go Within = then-mismatch _ _ f
        go Bottom = then-mismatch _ _ f

    module _ (u : List ℕ) (f : expect_bytes m t ≡ remaining u) where
      pub container-hidden : container_include_fields v ≡ None → expect_node (container k m) v e inner s ≡ expect_byte (end_byte k) u
      unfolding expect_container
      container-hidden g = started ∙ then-remaining _ _ _ h ∙ go v g
        where
          go : (x : NestingLevel) → container_include_fields x ≡ None → expect_container k m x e inner t ≡ expect_byte (end_byte k) u
          go Top d = absurd (let z : ◌≡◌ {A = ℕ} 0 1 = cc in omega arith)
          go Within d = absurd (let z : ◌≡◌ {A = ℕ} 0 1 = cc in omega arith)
          go Bottom d = then-remaining _ _ _ f

      pub container-shown : (x : NestingLevel) → container_include_fields v ≡ Some x → expect_node (container k m) v e inner s
          ≡ (expect_byte 61 u then (λ y. expect_fields k e inner y))
      unfolding expect_container
      container-shown x g = started ∙ then-remaining _ _ _ h ∙ go v g
        where
          go : (y : NestingLevel) → container_include_fields y ≡ Some x → expect_container k m y e inner t
              ≡ (expect_byte 61 u then (λ z. expect_fields k e inner z))
          go Top d = then-remaining _ _ _ f
          go Within d = then-remaining _ _ _ f
          go Bottom d = absurd (let z : ◌≡◌ {A = ℕ} 0 1 = cc in omega arith)

pub shown-within : (v x : NestingLevel) → container_include_fields v ≡ Some x → x ≡ Within
shown-within Top x d = cc
shown-within Within x d = cc
shown-within Bottom x d = absurd (let z : ◌≡◌ {A = ℕ} 0 1 = cc in omega arith)

pub container-label : (s : List ℕ) (k a b : ℕ) → is_container_kind k ≡ true → label s k a b ≡ container (container_of k) (take b (drop a s))
container-label s k a b h = go (eqb k 29) refl (eqb k 30) refl h
  where
    go : (t : Bool) → eqb k 29 ≡ t → (u : Bool) → eqb k 30 ≡ u → (t || u) ≡ true → label s k a b ≡ container (container_of k) (take b (drop a s))
    go true e u d r = rw e (label-struct s k a b (eqb-true k 29 e))
    go false e true d r = rw e (label-union s k a b (eqb-true k 30 d))
    go false e false d r = absurd (false≢true r)

pub is-end : (names w : List ℕ) (n at : ℕ) → is_end (trees names w n at) ≡ eqb n 0
unfolding is_end
is-end names w zero at = ap is_end (no-trees names w 0 at (omega arith))
is-end names w (suc n) at = some-trees names w (suc n) at (omega arith) ∙ sym (ne_eqb (suc n) 0 (λ e. omega arith))

-- An outcome of a container that comes to the same.
pub same-opened : (text : List ℕ) (k : ContainerKind) (u : NestingLevel) (r : Option Opened) (p q : (List ℕ → E.Expected) → E.Expected)
    → ((inner : List ℕ → E.Expected) → p inner ≡ q inner) → OpenedIs text k u r q → OpenedIs text k u r p
same-opened text k u (Some (O.Taken to)) p q e h = (λ i. e i ∙ h.0 i, h.1)
same-opened text k u None p q e h = λ i. e i ∙ h i
same-opened text k u (Some (O.Fields to v)) p q e h = (λ i. e i ∙ h.0 i, h.1, h.2)

-- The whole text was taken.
pub empty-end : (text : List ℕ) (to : ℕ) → to ≤ length text → is_empty (remaining (drop to text)) ≡ eqb to (length text)
unfolding is_empty
empty-end text to p = go (eqb to (length text)) refl
  where
    go : (t : Bool) → eqb to (length text) ≡ t → is_empty (remaining (drop to text)) ≡ t
    go true e = ap (λ (x : List ℕ). is_empty (remaining x)) (unread-end text to (omega (arith, eqb-true to (length text) e)))
    go false e = ap (λ (x : List ℕ). is_empty (remaining x)) (unread text to (omega (arith, eqb-false to (length text) e)))

pub empty-off : is_empty mismatch ≡ false
unfolding is_empty
empty-off = refl

-- A byte under another name.
pub by_byte : (b d : ℕ) (s : List ℕ) (q : E.Expected) → b ≡ d → expect_byte b s ≡ q → expect_byte d s ≡ q
by_byte b d s q e h = ap (λ (x : ℕ). expect_byte x s) (sym e) ∙ h

pub in-text : (text : List ℕ) (r : Option ℕ) (q : E.Expected) → ExpectedIs text r q → InText text r
in-text text (Some to) q h = h.1
in-text text None q h = tt

-- The container at a node.
pub container-at : (names w : List ℕ) (at : ℕ) (v : NestingLevel) (s text : List ℕ) (r : Option Opened) (k : ContainerKind)
    → is_container_kind (kind_at w at) ≡ true → k ≡ container_of (kind_at w at)
    → OpenedIs text k Within r (λ inner. expect_node (container k (take (first_at w at + second_at w at - first_at w at) (drop (first_at w at) names))) v
    (eqb (count_at w at - 1) 0) inner s)
    → OpenedIs text (container_of (kind_at w at)) Within r
    (λ inner. expect_node (label_at names w at) v (is_end (trees names w (count_at w at - 1) (at + 4))) inner s)
container-at names w at v s text r k c e h =
    same-opened text (container_of (kind_at w at)) Within r _ _
    (λ inner. ap₂ (λ (l : Label) (b : Bool). expect_node l v b inner s)
    (container-label names (kind_at w at) (first_at w at) (second_at w at) c ∙ ap
    (λ (n : ℕ). container (container_of (kind_at w at)) (take n (drop (first_at w at) names))) (sym (add-sub_cancel_left (first_at w at) (second_at w at))))
    (is-end names w (count_at w at - 1) (at + 4)))
    (subst (λ (j : ContainerKind). OpenedIs text j Within r
    (λ inner. expect_node (container j (take (first_at w at + second_at w at - first_at w at) (drop (first_at w at) names))) v (eqb (count_at w at - 1) 0) inner s))
    e h)

pub then_same : (x : E.Expected) (f g : List ℕ → E.Expected) → ((t : List ℕ) → f t ≡ g t) → (x then f) ≡ (x then g)
unfolding ◌then◌
then_same (remaining s) f g h = h s
then_same mismatch f g h = refl

inside-container : (k : ContainerKind) (m : List ℕ) (v : NestingLevel) → inside (container k m) v ≡ Within
inside-container Struct m v = refl
inside-container Union m v = refl

module _ (names w : List ℕ) (at : ℕ) (v : NestingLevel) (s : List ℕ) where
  pub container-whole : (q : E.Expected) → ((inner : List ℕ → E.Expected) → expect_node (label_at names w at) v
      (is_end (trees names w (count_at w at - 1) (at + 4))) inner s ≡ q) → expect_at names w at v s ≡ q
  unfolding expect_at
  container-whole q h = h _

  pub container-fields : is_container_kind (kind_at w at) ≡ true → (t : List ℕ) (x : NestingLevel) → x ≡ Within
      → ((inner : List ℕ → E.Expected) → expect_node (label_at names w at) v (is_end (trees names w (count_at w at - 1) (at + 4))) inner s
      ≡ (inner t then (λ u. expect_byte (end_byte (container_of (kind_at w at))) u)))
      → expect_at names w at v s ≡ (expect_encoding x (trees names w (count_at w at - 1) (at + 4)) t then (λ u. closing (kind_at w at) (second_at w at) u))
  unfolding expect_at
  container-fields c t x e h =
      h (λ t. expect_encoding (inside (label_at names w at) v) (trees names w (count_at w at - 1) (at + 4)) t)
      ∙ ap (λ (y : NestingLevel). expect_encoding y (trees names w (count_at w at - 1) (at + 4)) t then
      (λ u. expect_byte (end_byte (container_of (kind_at w at))) u))
      (ap (λ (l : Label). inside l v) (container-label names (kind_at w at) (first_at w at) (second_at w at) c) ∙ inside-container (container_of (kind_at w at)) _ v
      ∙ sym e)
      ∙ then_same (expect_encoding x (trees names w (count_at w at - 1) (at + 4)) t) _ _
      (λ u. sym (closing-container (kind_at w at) (second_at w at) u (λ d. false≢true (sym (ap is_container_kind d) ∙ c))
      (λ d. false≢true (sym (ap is_container_kind d) ∙ c))))

pub opened-at : (names w : List ℕ) (at : ℕ) (v : NestingLevel) (text : List ℕ) (place : ℕ) (r : Option Opened) → is_container_kind (kind_at w at) ≡ true
    → ContainerOpenedAt names w at v text place r → OpenedAt names w at v text place r
opened-at names w at v text place (Some (O.Taken to)) c h = (container-whole names w at v (drop place text) (remaining (drop to text)) h.0, h.1)
opened-at names w at v text place None c h = container-whole names w at v (drop place text) mismatch h
opened-at names w at v text place (Some (O.Fields to u)) c h = (container-fields names w at v (drop place text) c (drop to text) u h.2 h.0, h.1)

-- An outcome on the whole text, lent as a slice of its own.
pub lent-whole : (text : List ℕ) (r : Option ℕ) (place : ℕ) (f : List ℕ → E.Expected)
    → ExpectedIs (take (length text - 0) (drop 0 text)) r (f (drop place (take (length text - 0) (drop 0 text)))) → ExpectedIs text r (f (drop place text))
lent-whole text r place f h = subst (λ (x : List ℕ). ExpectedIs x r (f (drop place x))) (whole text) h

-- A node without children from the outcome of its text, which is lent as a slice of its own; a bitfield with a type or an array from that of what stands before its child.
module _ (names w : List ℕ) (at : ℕ) (v : NestingLevel) (text : List ℕ) (place : ℕ) (r : Option ℕ) {q : Option Opened} where
  pub taken_at : q ≡ taken_of r → kind_at w at < 25
      → ExpectedIs (take (length text - 0) (drop 0 text)) r (expect_leaf (kind_at w at) (second_at w at) (drop place (take (length text - 0) (drop 0 text))))
      → OpenedAt names w at v text place q
  taken_at e p h = rw e (go r (lent-whole text r place (λ s. expect_leaf (kind_at w at) (second_at w at) s) h))
    where
      go : (x : Option ℕ) → ExpectedIs text x (expect_leaf (kind_at w at) (second_at w at) (drop place text)) → OpenedAt names w at v text place (taken_of x)
      go (Some to) k = (leaf-is names w at v (drop place text) p ∙ k.0, k.1)
      go None k = leaf-is names w at v (drop place text) p ∙ k

  pub fields_at : q ≡ fields_of r v → 25 ≤ kind_at w at → kind_at w at < 29 → is_indirection (kind_at w at) ≡ false
      → ExpectedIs text r (opening (kind_at w at) (first_at w at) (drop place text)) → OpenedAt names w at v text place q
  fields_at e lo hi d h = let m = not-indirection (kind_at w at) d in rw e (go r h (around names w at v (drop place text) lo hi m.0 m.1))
    where
      go : (x : Option ℕ) → ExpectedIs text x (opening (kind_at w at) (first_at w at) (drop place text))
          → expect_at names w at v (drop place text) ≡ (opening (kind_at w at) (first_at w at) (drop place text) then
          (λ t. expect_encoding v (trees names w (count_at w at - 1) (at + 4)) t then (λ u. closing (kind_at w at) (second_at w at) u)))
          → OpenedAt names w at v text place (fields_of x v)
      go (Some to) k f = (f ∙ then-remaining _ _ _ k.0, k.1)
      go None k f = f ∙ then-mismatch _ _ k
