-- The walk over trees side by side: nodes whose own text is one byte, what is left after each node, and what a node holds.
use Rattle.std.specs.Prelude.{Option}
use Prim.Native.Nat.{ℕ, ◌+◌, ◌-◌, ◌*◌, ◌≤◌, ◌<◌}
use native.Mathlib.Omega.{arith}
use mathlib.Core.Path.{◌≡◌, refl, ap, ap₂, sym, ◌∙◌, subst}
use mathlib.Core.List.{List, [], ◌∷◌}
use mathlib.Core.Bool.{Bool, true, false, cond, ◌||◌, false≢true}
use borrow.Author.Tests.{le-leb, leb-true, leb-false, ne_eqb}
use lib.ListN.{length, take, drop, get_or-eq_default}
use lib.Dec.{leb, eqb}
use Rattle.kinds.proofs.SheetLaws.{trees-step}
use Rattle.kinds.proofs.ListLaws.{whole}
use Rattle.kinds.proofs.NodeLaws.{leaf-count, node-child, child-count, first_some, first-within, first-node, other-trees, held-trees, no-trees, walk-inner, walk_first, walk-rest}
use Rattle.kinds.proofs.KindLaws.{indirection-range}
use Rattle.kinds.proofs.TableLaws.{every_below, pass_below, same_bytes_lem}
use Rattle.kinds.specs.Byte.{among, same_bytes}
use Rattle.kinds.specs.Container.{prefix_byte}
use Rattle.kinds.specs.Expect as E
use Rattle.kinds.specs.Expect.{remaining, mismatch, ◌then◌, expect_byte, expect_bytes, expect_primitive, expect_node, expect_encoding}
use Rattle.kinds.specs.Kind.{is_indirection, inside_kind}
use Rattle.kinds.specs.Level.{indirection}
use Rattle.kinds.specs.Primitive.{code, codes, is_object}
use Rattle.kinds.specs.Sheet.{kind_at, count_at, trees}
use Rattle.kinds.specs.Tree.{Trees, end, node, is_end, inside}
use Rattle.kinds.specs.Walk.{NodeAt, TreesAt, KindsAndNames}
use Rattle.kinds.specs.declared.IndirectionKind.{IndirectionKind}
use Rattle.kinds.specs.declared.IndirectionKind.TheVariants.{Atomic, Pointer}
use Rattle.kinds.specs.declared.NestingLevel.{NestingLevel}
use Rattle.expect.specs.Agree.{ExpectedIs, expect_at, indirection_of, code_bytes_by_kind, code_byte, own_byte, level_after}
use Rattle.expect.proofs.TextLaws.{then-remaining, then-mismatch, code_one, primitive-alone}
use Rattle.expect.proofs.WalkLaws.{leaf-is, behind-off, behind_more, by_byte, lent-whole}

-- ---- Nodes whose own text is one byte.

-- The table has the whole code of a primitive that is compared as itself alone.
coded : ℕ → Bool
coded k = eqb (code_byte k) 0 || cond (is_object k) false (same_bytes (code k) (code_byte k ∷ []))

all_coded : every_below coded 24 ≡ true
unfolding every_below coded code_byte is_object among same_bytes code codes
all_coded = refl

pub code-beyond : (k : ℕ) → 24 ≤ k → code_byte k ≡ 0
unfolding code_byte
code-beyond k h = get_or-eq_default code_bytes_by_kind 0 h

module _ (k : ℕ) (h : code_byte k ≡ 0 → ⊥) where
  code-low : k < 24
  code-low = go (leb 24 k) refl
    where
      go : (t : Bool) → leb 24 k ≡ t → k < 24
      go true e = absurd (h (code-beyond k (leb-true 24 k e)))
      go false e = leb-false 24 k e

  pub code-taken : (s : List ℕ) → expect_primitive k s ≡ expect_byte (code_byte k) s
  unfolding coded
  code-taken s = go (is_object k) refl (rw (ne_eqb (code_byte k) 0 h) at (pass_below coded 24 all_coded k code-low))
    where
      go : (t : Bool) → is_object k ≡ t → cond t false (same_bytes (code k) (code_byte k ∷ [])) ≡ true → expect_primitive k s ≡ expect_byte (code_byte k) s
      go true e r = absurd (false≢true r)
      go false e r = primitive-alone k s e ∙ ap (λ (c : List ℕ). expect_bytes c s) (same_bytes_lem (code k) (code_byte k ∷ []) r) ∙ code_one (code_byte k) s

pub code_at : (names w : List ℕ) (at : ℕ) (v : NestingLevel) (s : List ℕ) → (code_byte (kind_at w at) ≡ 0 → ⊥) → expect_at names w at v s
    ≡ expect_byte (code_byte (kind_at w at)) s
code_at names w at v s h =
    let k = code-low (kind_at w at) h in
    leaf-is names w at v s (omega arith) ∙ rw (le-leb (kind_at w at) 23 (omega arith)) (code-taken (kind_at w at) h s)

module _ (k : ℕ) where
  pub own-prefix : is_indirection k ≡ true → prefix_byte (indirection_of k) ≡ own_byte k
  unfolding own_byte
  own-prefix h = rw h

  pub own_code : is_indirection k ≡ false → code_byte k ≡ own_byte k
  unfolding own_byte
  own_code h = rw h

  pub after-indirection : (v here : NestingLevel) → is_indirection k ≡ true → indirection (indirection_of k) here ≡ level_after k v here
  unfolding level_after inside_kind
  after-indirection v here h = rw (h, ne_eqb k 29 (λ e. omega (arith, r.1)), ne_eqb k 30 (λ e. omega (arith, r.1))) (go (eqb k 26) refl)
    where
      r : (26 ≤ k) × (k ≤ 27)
      r = indirection-range k h

      go : (t : Bool) → eqb k 26 ≡ t → indirection (cond t Pointer Atomic) here ≡ cond t (indirection Pointer here)
          (cond (eqb k 27) (indirection Atomic here) here)
      go true e = refl
      go false e = rw (sym (ap (λ (t : Bool). t || eqb k 27) e) ∙ h)

  pub after-code : (v here : NestingLevel) → is_indirection k ≡ false → v ≡ level_after k v here
  unfolding level_after
  after-code v here h = rw h

prefix-some : (i : IndirectionKind) → prefix_byte i ≡ 0 → ⊥
prefix-some Atomic e = omega arith
prefix-some Pointer e = omega arith

pub no-own-byte : (k : ℕ) → own_byte k ≡ 0 → is_indirection k ≡ false
no-own-byte k h = go (is_indirection k) refl
  where
    go : (t : Bool) → is_indirection k ≡ t → is_indirection k ≡ false
    go true e = absurd (prefix-some (indirection_of k) (own-prefix k e ∙ h))
    go false e = e

-- ---- Trees side by side.

-- What is left to take at the level `v`, of whose first tree the walk has come down to the level `here`.
unfoldable pub resume : NestingLevel → NestingLevel → Trees → List ℕ → E.Expected
resume here v end s = remaining s
resume here v (node l cs ts) s = expect_node l here (is_end cs) (λ t. expect_encoding (inside l here) cs t) s then (λ t. expect_encoding v ts t)

pub resume-level : (v : NestingLevel) (t : Trees) (s : List ℕ) → resume v v t s ≡ expect_encoding v t s
unfolding resume expect_encoding
resume-level v end s = refl
resume-level v (node l cs ts) s = refl

module _ (names w : List ℕ) (here v : NestingLevel) (s : List ℕ) (n at : ℕ) where
  resume-step : 1 ≤ count_at w at → count_at w at ≤ n
      → resume here v (trees names w n at) s ≡ (expect_at names w at here s then
      (λ t. expect_encoding v (trees names w (n - count_at w at) (at + 4 * count_at w at)) t))
  unfolding resume expect_at
  resume-step p q = ap (λ (x : Trees). resume here v x s) (trees-step names w n at p q)

  resume-end : n ≤ 0 → resume here v (trees names w n at) s ≡ remaining s
  unfolding resume
  resume-end p = ap (λ (x : Trees). resume here v x s) (no-trees names w n at p)

-- The first tree lies within the `n` nodes from `at` on, and these within the node words.
pub record Bounds (w : List ℕ) (at n : ℕ) : Type 0 where
  pub some-node : 1 ≤ count_at w at
  pub within : count_at w at ≤ n
  pub room : at + 4 * n ≤ length w

-- What is left of a walk over trees, from the place `place` of the text on, has the outcome `q`.
pub record Left (v : NestingLevel) (names w text : List ℕ) (at n place : ℕ) (here : NestingLevel) (q : E.Expected) : Type 0 where
  pub nodes : TreesAt w at n
  pub walk : KindsAndNames w (length names) at n
  pub within : place ≤ length text
  pub rest : q ≡ resume here v (trees names w n at) (drop place text)

module _ {v : NestingLevel} {names w text : List ℕ} {at n place : ℕ} {here : NestingLevel} {q : E.Expected} (l : Left v names w text at n place here q) where
  pub left_end : n ≤ 0 → q ≡ remaining (drop place text)
  left_end p = l.rest ∙ resume-end names w here v (drop place text) n at p

  module _ (p : 0 < n) where
    pub left-bounds : Bounds w at n
    left-bounds = record { some-node = first_some w at n l.nodes p; within = first-within w at n l.nodes p; room = l.nodes.room }

    pub left-node : NodeAt w at
    left-node = first-node w at n l.nodes p

    pub left-named : KindsAndNames w (length names) at (count_at w at)
    left-named = walk_first w (length names) at n l.walk (count_at w at) left-bounds.within

    left_step : q ≡ (expect_at names w at here (drop place text) then (λ t. expect_encoding v (trees names w (n - count_at w at) (at + 4 * count_at w at)) t))
    left_step = l.rest ∙ resume-step names w here v (drop place text) n at left-bounds.some-node left-bounds.within

    -- A whole tree.
    pub left-off : expect_at names w at here (drop place text) ≡ mismatch → q ≡ mismatch
    left-off e = left_step ∙ then-mismatch _ _ e

    module _ (to : ℕ) (t : to ≤ length text) where
      pub left-more : expect_at names w at here (drop place text) ≡ remaining (drop to text)
          → Left v names w text (at + 4 * count_at w at) (n - count_at w at) to v q
      left-more e = record {
        nodes = other-trees w at n l.nodes p;
        walk = walk-rest w (length names) at n l.walk (count_at w at) left-bounds.within;
        within = t;
        rest = left_step ∙ then-remaining _ _ _ e ∙ sym (resume-level v _ _);
      }

      left-leaf : kind_at w at < 25 → expect_at names w at here (drop place text) ≡ remaining (drop to text) → Left v names w text (at + 4) (n - 1) to v q
      left-leaf k e = subst (λ (c : ℕ). Left v names w text (at + 4 * c) (n - c) to v q) (leaf-count w at left-node k) (left-more e)

      left_behind : 26 ≤ kind_at w at → kind_at w at ≤ 27 → expect_byte (prefix_byte (indirection_of (kind_at w at))) (drop place text) ≡ remaining (drop to text)
          → Left v names w text (at + 4) (n - 1) to (indirection (indirection_of (kind_at w at)) here) q
      left_behind lo hi e =
          let b = left-bounds in
          let c = child-count w at left-node (omega arith) (omega arith) in
          let d = node-child w at left-node (omega arith) (omega arith) in
          let u = indirection (indirection_of (kind_at w at)) here in
          record {
            nodes = held-trees w at n l.nodes p (omega arith) (omega arith);
            walk = walk-inner w (length names) at n l.walk (n - 1) (omega arith);
            within = t;
            rest = left_step
                ∙ ap₂ (λ (x : E.Expected) (y : Trees). x then (λ z. expect_encoding v y z))
                (behind_more names w at here (drop place text) lo hi left-node (drop to text) e) (ap₂ (trees names w) (omega arith) (omega arith))
                ∙ sym (resume-step names w u v (drop to text) (n - 1) (at + 4) d.some-node (omega arith));
          }

    -- A node whose own text is one byte.
    module _ (b : ℕ) (own : b ≡ own_byte (kind_at w at)) (some : b ≡ 0 → ⊥) where
      module _ (i : is_indirection (kind_at w at) ≡ true) where
        prefix : {x : E.Expected} → expect_byte b (drop place text) ≡ x → expect_byte (prefix_byte (indirection_of (kind_at w at))) (drop place text) ≡ x
        prefix e = by_byte b (prefix_byte (indirection_of (kind_at w at))) (drop place text) _ (own ∙ sym (own-prefix (kind_at w at) i)) e

        lo : 26 ≤ kind_at w at
        lo = (indirection-range (kind_at w at) i).0

        hi : kind_at w at ≤ 27
        hi = (indirection-range (kind_at w at) i).1

      module _ (i : is_indirection (kind_at w at) ≡ false) where
        coded-some : code_byte (kind_at w at) ≡ 0 → ⊥
        coded-some e = some (own ∙ sym (own_code (kind_at w at) i) ∙ e)

        code_is : expect_at names w at here (drop place text) ≡ expect_byte b (drop place text)
        code_is = code_at names w at here (drop place text) coded-some ∙ ap (λ (c : ℕ). expect_byte c (drop place text)) (own_code (kind_at w at) i ∙ sym own)

      pub left-byte-off : expect_byte b (drop place text) ≡ mismatch → q ≡ mismatch
      left-byte-off e = left-off (go (is_indirection (kind_at w at)) refl)
        where
          go : (t : Bool) → is_indirection (kind_at w at) ≡ t → expect_at names w at here (drop place text) ≡ mismatch
          go true i = behind-off names w at here (drop place text) (lo i) (hi i) (prefix i e)
          go false i = code_is i ∙ e

      pub left-byte : (to : ℕ) → to ≤ length text → expect_byte b (drop place text) ≡ remaining (drop to text) → (x : NestingLevel) → x
          ≡ level_after (kind_at w at) v here
          → Left v names w text (at + 4) (n - 1) to x q
      left-byte to t e x f = subst (λ (y : NestingLevel). Left v names w text (at + 4) (n - 1) to y q) (sym f) (go (is_indirection (kind_at w at)) refl)
        where
          go : (u : Bool) → is_indirection (kind_at w at) ≡ u → Left v names w text (at + 4) (n - 1) to (level_after (kind_at w at) v here) q
          go true i = subst (λ (y : NestingLevel). Left v names w text (at + 4) (n - 1) to y q) (after-indirection (kind_at w at) v here i)
              (left_behind to t (lo i) (hi i) (prefix i e))
          go false i =
              let k = code-low (kind_at w at) (coded-some i) in
              subst (λ (y : NestingLevel). Left v names w text (at + 4) (n - 1) to y q) (after-code (kind_at w at) v here i)
              (left-leaf to t (omega arith) (code_is i ∙ e))

-- ---- What a node holds.

-- The three lists, each lent as a slice of its own: the names and the text whole, and node words `w'` that are `w`.
module _ (names w w' text : List ℕ) (n at to : ℕ) (e : w' ≡ w) where
  pub lent-walk : TreesAt w at n → to ≤ length text → KindsAndNames w (length names) at n
      → (TreesAt w' at n × (to ≤ length (take (length text - 0) (drop 0 text)))) × KindsAndNames w' (length (take (length names - 0) (drop 0 names))) at n
  lent-walk t l k = (
    (subst (λ (x : List ℕ). TreesAt x at n) (sym e) t, subst (λ (x : List ℕ). to ≤ length x) (sym (whole text)) l),
    subst (λ (x : List ℕ). KindsAndNames x (length (take (length names - 0) (drop 0 names))) at n) (sym e)
        (subst (λ (x : List ℕ). KindsAndNames w (length x) at n) (sym (whole names)) k),
  )

  pub lent-fields : (u : NestingLevel) (r : Option ℕ)
      → ExpectedIs (take (length text - 0) (drop 0 text)) r
      (expect_encoding u (trees (take (length names - 0) (drop 0 names)) w' n at) (drop to (take (length text - 0) (drop 0 text))))
      → ExpectedIs text r (expect_encoding u (trees names w n at) (drop to text))
  lent-fields u r h =
      lent-whole text r to (λ s. expect_encoding u (trees names w n at) s)
      (subst (λ (x : List ℕ). ExpectedIs (take (length text - 0) (drop 0 text)) r
      (expect_encoding u (trees names x n at) (drop to (take (length text - 0) (drop 0 text))))) e
      (subst (λ (x : List ℕ). ExpectedIs (take (length text - 0) (drop 0 text)) r
      (expect_encoding u (trees x w' n at) (drop to (take (length text - 0) (drop 0 text))))) (whole names) h))
