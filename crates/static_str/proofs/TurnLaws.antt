-- The loops over trees: what holds at each turn, and that a turn keeps it.
use Prim.Native.Nat.{ℕ, ◌+◌, ◌-◌, ◌*◌, ◌≤◌, ◌<◌}
use native.Mathlib.Omega.{arith}
use mathlib.Core.Path.{◌≡◌, refl, ap, ap₂, sym, ◌∙◌, subst}
use mathlib.Core.Bool.{Bool, true, false}
use mathlib.Core.List.{List, ◌++◌, append-nil}
use borrow.Author.Tests.{leb-true, leb-false, ne_eqb}
use lib.Dec.{leb}
use lib.ListN.{length}
use Rattle.kinds.specs.Print.{print}
use Rattle.kinds.specs.Kind.{inside_kind}
use Rattle.kinds.specs.Sheet.{kind_at, first_at, second_at, count_at, trees}
use Rattle.kinds.specs.Walk.{NodeAt, TreesAt, KindAndName, KindsAndNames}
use Rattle.kinds.specs.declared.NestingLevel.{NestingLevel}
use Rattle.kinds.proofs.KindLaws.{inside-low}
use Rattle.kinds.proofs.NodeLaws.{leaf-count, node-inner, walk-inner, first_some, first-within, first-node, other-trees, walk_here, walk_first, walk-rest}
use Rattle.static_str.specs.Output.{Wrote}
use Rattle.static_str.specs.Parts.{opening, closing, children_text, max_node_text, OwnLength, ChildrenLength, TreesLength}
use Rattle.static_str.proofs.OutputLaws.{ToWrite, to_write, room_for, then-write, all-written, written-length}
use Rattle.static_str.proofs.PartLaws.{closing-none, low-no-container}
use Rattle.static_str.proofs.PrintLaws.{trees-text, trees-length, no_text, no-children, included-text, held-shown}
use Rattle.static_str.proofs.PassLaws.{inner-run, kept-text}

-- `left` of the `n` nodes from `from` on are left, from `at` on, and each has a kind and a name among `m` bytes.
pub record Left (w : List ℕ) (m from n at left : ℕ) : Type 0 where
  pub ends : at + 4 * left ≡ from + 4 * n
  pub few : left ≤ n
  pub whole : TreesAt w at left
  pub named : KindsAndNames w m at left

pub all_left : {w : List ℕ} {m from n : ℕ} → TreesAt w from n → KindsAndNames w m from n → Left w m from n from n
all_left h k = record { ends = refl; few = omega arith; whole = h; named = k }

module _ {w : List ℕ} {m from n at left : ℕ} (l : Left w m from n at left) (p : 0 < left) where
  pub here : KindAndName w m at
  here = walk_here w m at left l.named p

  pub some-node : 1 ≤ count_at w at
  some-node = first_some w at left l.whole p

  pub node-within : count_at w at ≤ left
  node-within = first-within w at left l.whole p

  pub node-here : NodeAt w at
  node-here = first-node w at left l.whole p

  pub node-named : KindsAndNames w m at (count_at w at)
  node-named = walk_first w m at left l.named (count_at w at) node-within

  pub others-left : Left w m from n (at + 4 * count_at w at) (left - count_at w at)
  others-left =
      let q = node-within in
      let e = l.ends in
      let f = l.few in
      record { ends = omega arith; few = omega arith; whole = other-trees w at left l.whole p; named = walk-rest w m at left l.named (count_at w at) q }

-- the nodes below a node
pub children-there : {w : List ℕ} {m at : ℕ} → NodeAt w at → KindsAndNames w m at (count_at w at)
    → TreesAt w (at + 4) (count_at w at - 1) × KindsAndNames w m (at + 4) (count_at w at - 1)
children-there {w} {m} {at} h k =
    let p = h.some-node in
    (node-inner w at h, walk-inner w m at (count_at w at) k (count_at w at - 1) (omega arith))

-- What the loop of the print keeps: with the nodes that are left still to be printed at the level `v`, the output becomes the whole text `all`.
pub record Printing (s w : List ℕ) (v : NestingLevel) (before : List ℕ) (start from n : ℕ) (all out : List ℕ) (at left to : ℕ) : Type 0 where
  pub nodes : Left w (length s) from n at left
  pub room : length out ≡ length before
  pub text : ToWrite before start all out to (print v (trees s w left at))

pub start-printing : (s w : List ℕ) (v : NestingLevel) (out : List ℕ) (start from n : ℕ) → TreesAt w from n → KindsAndNames w (length s) from n
    → start + length (print v (trees s w n from)) ≤ length out → Printing s w v out start from n (print v (trees s w n from)) out from n start
start-printing s w v out start from n h k r = record { nodes = all_left h k; room = refl; text = to_write out start (print v (trees s w n from)) r }

module _ {s w : List ℕ} {v : NestingLevel} {before all out : List ℕ} {start from n at left to : ℕ} (i : Printing s w v before start from n all out at left to)
  where
    pub printed : left ≤ 0 → Wrote before start all out to
    printed p = all-written (subst (λ (z : List ℕ). ToWrite before start all out to z) (no_text s w v left at p) i.text)

    module _ (p : 0 < left) where
      abbrev opens : List ℕ
      opens = opening s (kind_at w at) (first_at w at) (second_at w at) v

      abbrev inner : List ℕ
      inner = children_text s w at v

      abbrev closes : List ℕ
      closes = closing (kind_at w at) (second_at w at)

      abbrev others : List ℕ
      others = print v (trees s w (left - count_at w at) (at + 4 * count_at w at))

      in_parts : ToWrite before start all out to (opens ++ (inner ++ (closes ++ others)))
      in_parts = subst (λ (z : List ℕ). ToWrite before start all out to z) (trees-text s w v at left i.nodes.whole p (here i.nodes p).kind) i.text

      pub room-to-open : to + length opens ≤ length out
      room-to-open = room_for opens (inner ++ (closes ++ others)) in_parts

      module _ {out₁ : List ℕ} {to₁ : ℕ} (x : Wrote out to opens out₁ to₁) where
        opened : ToWrite before start all out₁ to₁ (inner ++ (closes ++ others))
        opened = then-write opens (inner ++ (closes ++ others)) in_parts x

        pub room-to-fill : to₁ + length inner ≤ length out₁
        room-to-fill = room_for inner (closes ++ others) opened

        -- a code or a bitfield: the tree after it comes next
        module _ (k : kind_at w at < 25) where
          alone : count_at w at ≡ 1
          alone = leaf-count w at (node-here i.nodes p) k

          leaf-text : inner ++ (closes ++ others) ≡ print v (trees s w (left - 1) (at + 4))
          leaf-text =
              ap₂ ◌++◌ (no-children s w v at (omega (arith, alone)))
              (ap₂ ◌++◌ (closing-none (kind_at w at) (second_at w at) (λ d. omega arith) (λ d. omega arith) (low-no-container (kind_at w at) (omega arith)))
              (ap (λ (j : ℕ). print v (trees s w (left - j) (at + 4 * j))) alone))

          leaf-next : Printing s w v before start from n all out₁ (at + 4) (left - 1) to₁
          leaf-next = record {
            nodes = subst (λ (j : ℕ). Left w (length s) from n (at + 4 * j) (left - j)) alone (others-left i.nodes p);
            room = ap length x.text ∙ written-length out to opens room-to-open ∙ i.room;
            text = subst (λ (z : List ℕ). ToWrite before start all out₁ to₁ z) leaf-text opened;
          }

        -- a pointer or an atomic that no tree follows: what it holds comes next, at its own level
        module _ (lo : 26 ≤ kind_at w at) (hi : kind_at w at ≤ 27) (e : count_at w at ≡ left) (u : NestingLevel) (f : u ≡ inside_kind (kind_at w at) v) where
          held-text : inner ++ (closes ++ others) ≡ print u (trees s w (left - 1) (at + 4))
          held-text =
              ap₂ ◌++◌
              (included-text s w v at u (held-shown (kind_at w at) v u lo hi f) ∙ ap (λ (j : ℕ). print u (trees s w (j - 1) (at + 4))) e)
              (ap₂ ◌++◌ (closing-none (kind_at w at) (second_at w at) (λ d. omega arith) (λ d. omega arith)
              (rw (ne_eqb (kind_at w at) 29 (λ d. omega arith), ne_eqb (kind_at w at) 30 (λ d. omega arith))))
              (no_text s w v (left - count_at w at) (at + 4 * count_at w at) (omega arith)))
              ∙ append-nil (print u (trees s w (left - 1) (at + 4)))

          held_next : Printing s w u before start from n all out₁ (at + 4) (left - 1) to₁
          held_next = record {
            nodes =
                let ends = i.nodes.ends in
                let few = i.nodes.few in
                record {
                  ends = omega arith;
                  few = omega arith;
                  whole = subst (λ (j : ℕ). TreesAt w (at + 4) (j - 1)) e (node-inner w at (node-here i.nodes p));
                  named = walk-inner w (length s) at left i.nodes.named (left - 1) (omega arith);
                };
            room = ap length x.text ∙ written-length out to opens room-to-open ∙ i.room;
            text = subst (λ (z : List ℕ). ToWrite before start all out₁ to₁ z) held-text opened;
          }

        pub walked_next : (25 ≤ kind_at w at → (26 ≤ kind_at w at) × (kind_at w at ≤ 27) × (count_at w at ≡ left)) → (u : NestingLevel)
            → u ≡ inside_kind (kind_at w at) v → Printing s w u before start from n all out₁ (at + 4) (left - 1) to₁
        walked_next h u f = go (leb 25 (kind_at w at)) refl
          where
            go : (t : Bool) → leb 25 (kind_at w at) ≡ t → Printing s w u before start from n all out₁ (at + 4) (left - 1) to₁
            go true e = let k = h (leb-true 25 (kind_at w at) e) in held_next k.0 k.1 k.2 u f
            go false e =
                let k = leb-false 25 (kind_at w at) e in
                subst (λ (y : NestingLevel). Printing s w y before start from n all out₁ (at + 4) (left - 1) to₁)
                (sym (f ∙ inside-low (kind_at w at) v (omega arith))) (leaf-next k)

        module _ {out₂ : List ℕ} {to₂ : ℕ} (y : Wrote out₁ to₁ inner out₂ to₂) where
          filled : ToWrite before start all out₂ to₂ (closes ++ others)
          filled = then-write inner (closes ++ others) opened y

          pub room-to-close : to₂ + length closes ≤ length out₂
          room-to-close = room_for closes others filled

          pub turned : {out₃ : List ℕ} {to₃ : ℕ} → Wrote out₂ to₂ closes out₃ to₃ → Printing s w v before start from n all out₃ (at + 4 * count_at w at)
              (left - count_at w at) to₃
          turned z = record {
            nodes = others-left i.nodes p;
            room =
                ap length z.text ∙ written-length out₂ to₂ closes room-to-close
                ∙ (ap length y.text ∙ written-length out₁ to₁ inner room-to-fill)
                ∙ (ap length x.text ∙ written-length out to opens room-to-open)
                ∙ i.room;
            text = then-write closes others filled z;
          }

-- What the loop of the length keeps.
pub record Measuring (w : List ℕ) (v : NestingLevel) (from n at left len : ℕ) : Type 0 where
  pub nodes : Left w 2000 from n at left
  pub bound : len + max_node_text * left ≤ max_node_text * n
  pub sum : (s : List ℕ) → KindsAndNames w (length s) from n → KindsAndNames w (length s) at left ×
      (len + length (print v (trees s w left at)) ≡ length (print v (trees s w n from)))

pub start-measuring : (w : List ℕ) (v : NestingLevel) (from n : ℕ) → TreesAt w from n → KindsAndNames w 2000 from n → Measuring w v from n from n 0
start-measuring w v from n h k = record { nodes = all_left h k; bound = omega arith; sum = λ s q. (q, omega arith) }

module _ {w : List ℕ} {v : NestingLevel} {from n at left len : ℕ} (i : Measuring w v from n at left len) where
  pub measured : left ≤ 0 → TreesLength w from n v len × (len ≤ max_node_text * n)
  measured p = (λ s k. let e = (i.sum s k).1 in let f = ap length (no_text s w v left at p) in omega arith, let b = i.bound in omega arith)

  module _ (p : 0 < left) {own : ℕ} (o : OwnLength (kind_at w at) (first_at w at) (second_at w at) v own × (own ≤ max_node_text)) where
    -- a turn, which passes `k` nodes and with them `inner` bytes of the children's text
    measured-on : (k inner : ℕ) → k ≤ left → inner + max_node_text ≤ max_node_text * k → TreesAt w (at + 4 * k) (left - k)
        → ((s : List ℕ) → KindsAndNames w (length s) at left → inner + length (print v (trees s w (left - k) (at + 4 * k))) ≡ length (children_text s w at v)
        + length (print v (trees s w (left - count_at w at) (at + 4 * count_at w at))))
        → Measuring w v from n (at + 4 * k) (left - k) (len + own + inner)
    measured-on k inner few more later r =
        let fits = o.1 in
        let sofar = i.bound in
        let ends = i.nodes.ends in
        let less = i.nodes.few in
        record {
          nodes = record { ends = omega arith; few = omega arith; whole = later; named = walk-rest w 2000 at left i.nodes.named k few };
          bound = omega arith;
          sum = λ s all. total s (i.sum s all).0 (i.sum s all).1;
        }
      where
        total : {rest : ℕ} (s : List ℕ) → KindsAndNames w (length s) at left → len + length (print v (trees s w left at)) ≡ rest
            → KindsAndNames w (length s) (at + 4 * k) (left - k) × (len + own + inner + length (print v (trees s w (left - k) (at + 4 * k))) ≡ rest)
        total s names g =
            let x = trees-length s w v at left i.nodes.whole p (here i.nodes p).kind in
            let y = r s names in
            let f = o.0 s (walk_here w (length s) at left names p).name in
            (walk-rest w (length s) at left names k few, omega arith)

    pub kept_on : inside_kind (kind_at w at) v ≡ v → Measuring w v from n (at + 4) (left - 1) (len + own)
    kept_on e = subst (λ (j : ℕ). Measuring w v from n (at + 4) (left - 1) j) (omega arith)
        (measured-on 1 0 p (omega arith) (inner-run w at left i.nodes.whole p)
        (λ s names. let t = kept-text w at left i.nodes.whole p s v e in omega arith))

    pub summed : {inner : ℕ} → ChildrenLength w at v inner × (inner + max_node_text ≤ max_node_text * count_at w at)
        → Measuring w v from n (at + 4 * count_at w at) (left - count_at w at) (len + own + inner)
    summed {inner} r = measured-on (count_at w at) inner (node-within i.nodes p) r.1 (other-trees w at left i.nodes.whole p) (λ s names.
        ap (λ (j : ℕ). j + length (print v (trees s w (left - count_at w at) (at + 4 * count_at w at))))
        (r.0 s (walk_first w (length s) at left names (count_at w at) (node-within i.nodes p))))
