-- Laws of the reason: its answers and bytes, and the walk's spot as the first difference.
use Prim.Native.Nat.{ℕ, zero, suc, ◌+◌, ◌-◌, ◌*◌, ◌≤◌, ◌<◌}
use native.Mathlib.Omega.{arith}
use mathlib.Core.Path.{◌≡◌, refl, ap, ap₂, sym, ◌∙◌, subst}
use mathlib.Core.List.{List, [], ◌∷◌, ◌++◌}
use Rattle.std.specs.Prelude.{Option, Some, None}
use mathlib.Core.Bool.{Bool, true, false, cond}
use borrow.Author.Tests.{le-leb, lt-leb, lt-ltb, le-ltb, ne_eqb, eq-eqb}
use lib.ListN.{length, take, drop, length-append}
use lib.Seq.{sets-eq}
use lib.Dec.{ltb, eqb}
use Rattle.kinds.specs.Byte.{same_bytes}
use Rattle.kinds.specs.Compare.{bits, level_for}
use Rattle.kinds.specs.Primitive.{equivalent}
use Rattle.kinds.specs.Print.{decimal}
use Rattle.kinds.specs.Sheet as S
use Rattle.kinds.specs.Sheet.{count_at, label_at, read, trees, max_names}
use Rattle.kinds.specs.Tree as T
use Rattle.kinds.specs.Tree.{Label, Trees, end, node, is_container, inside}
use Rattle.kinds.specs.Walk.{NodeAt, KindAndName}
use Rattle.kinds.specs.declared.NestingLevel.{NestingLevel}
use Rattle.kinds.specs.declared.NestingLevel.TheVariants.{Top}
use Rattle.kinds.specs.declared.Refusal.{Refusal}
use Rattle.kinds.specs.declared.Refusal.TheVariants as R
use Rattle.kinds.proofs.SheetLaws.{trees-step}
use Rattle.kinds.proofs.NodeLaws.{no-trees}
use Rattle.kinds.proofs.ListLaws.{whole}
use Rattle.sheet.specs.Answer.{checked, both, held_both, refused_both}
use Rattle.sheet.specs.Given.{CodeIn, NodesAre, GivesBoth}
use Rattle.std.specs.Prelude.{Result}
use Rattle.sheet.specs.declared.FoundBoth.{FoundBoth}
use Rattle.sheet.specs.declared.FoundBoth.TheVariants as FoundBoth
use Rattle.sheet.specs.declared.Found.{Found}
use Rattle.sheet.proofs.GivenLaws.{both-gives, answer-refused-both, answer-held-both}
use Rattle.static_str.specs.Answer.{placed}
use Rattle.lines.specs.Answer.{Put}
use Rattle.reason.specs.Reason.{Difference, kind, Reason, or_else, unless, offset_of, length_of, own_difference, items, items_compared, count_difference, here, under, node_difference, items_difference, first_difference}
use Rattle.reason.specs.Reason.{path_text, value_text, values_text, difference_text, reason_text}
use Rattle.reason.specs.Answer.{measured, fitted_reason, placed_reason, reason_len, reason_answer, reason_output}
use Rattle.reason.specs.Spot.{Spot, spotted, node_spot, items_spot, NodeOf, below, Named, number_at, difference_length, NameWithin, NameShort, ValueAt, Finds, path_to, path_from, Inside, reason_at, Rooted, codes_difference}
use Rattle.reason.specs.declared.find.Aspect.{Aspect}
use Rattle.reason.specs.declared.find.Aspect.TheVariants as A
use Rattle.reason.specs.declared.find.FirstDifference.{FirstDifference}
use Rattle.std.specs.Prelude.{Ok, Err}
use Rattle.reason.proofs.ValueLaws.{short-name, reason-length}

-- ---- The answers, by the first difference; `n` is the length that the code has counted.

module _ {d : Option Reason} (e : d ≡ None) where
  pub yes-measured : (Ok None) ≡ measured d
  unfolding measured
  yes-measured = sym (ap measured e)

  pub yes-fitted : (room : ℕ) → Ok None ≡ fitted_reason room d
  unfolding fitted_reason
  yes-fitted room = sym (ap (fitted_reason room) e)

  pub yes-placed : (out : List ℕ) → out ≡ placed_reason out d
  unfolding placed_reason
  yes-placed out = sym (ap (placed_reason out) e)

module _ {d : Option Reason} (r : Reason) (e : d ≡ Some r) {n : ℕ} (l : n ≡ length (reason_text r)) where
  pub bytes-measured : Ok (Some n) ≡ measured d
  unfolding measured
  bytes-measured = ap (λ (x : ℕ). Ok (Some x)) l ∙ sym (ap measured e)

  module _ (out : List ℕ) where
    pub short-fitted : length out < n → Err R.OutputTooShort ≡ fitted_reason (length out) d
    unfolding fitted_reason
    short-fitted h = sym (ap (fitted_reason (length out)) e ∙ rw (lt-leb (length (reason_text r)) (length out) (omega arith)))

    pub short-placed : length out < n → out ≡ placed_reason out d
    unfolding placed_reason placed
    short-placed h = sym (ap (placed_reason out) e ∙ rw (lt-leb (length (reason_text r)) (length out) (omega arith)))

    pub bytes-fitted : n ≤ length out → Ok (Some n) ≡ fitted_reason (length out) d
    unfolding fitted_reason
    bytes-fitted h = ap (λ (x : ℕ). Ok (Some x)) l ∙ sym (ap (fitted_reason (length out)) e ∙ rw (le-leb (length (reason_text r)) (length out) (omega arith)))

    pub bytes-placed : {after : List ℕ} {next : ℕ} → n ≤ length out → Put out 0 (reason_text r) after next → after ≡ placed_reason out d
    unfolding placed_reason placed
    bytes-placed h p =
        let z : 0 + length (reason_text r) ≡ length (reason_text r) = omega arith in
        p.text ∙ sets-eq (reason_text r) out 0 (omega arith)
        ∙ ap (λ (k : ℕ). reason_text r ++ drop k out) z
        ∙ sym (ap (placed_reason out) e ∙ rw (le-leb (length (reason_text r)) (length out) (omega arith)))

    pub put-fitted : {after : List ℕ} {next : ℕ} → n ≤ length out → Put out 0 (reason_text r) after next → Ok (Some next) ≡ fitted_reason (length out) d
    put-fitted {after} {next} h p = let q = p.place in let e : next ≡ n = omega arith in ap (λ (x : ℕ). Ok (Some x)) e ∙ bytes-fitted h

-- ---- Two codes.

module _ (all : Bool) (k j : ℕ) where
  codes-are : codes_difference all k j ≡ here (unless (equivalent k j) (kind k j))
  unfolding codes_difference first_difference node_difference own_difference or_else unless here bits offset_of length_of same_bytes items_compared count_difference items items_difference T.kind T.name is_container
  codes-are = go (equivalent k j)
    where
      go : (t : Bool) → or_else (here (or_else (unless t (kind k j)) None)) None ≡ here (unless t (kind k j))
      go true = refl
      go false = refl

  pub codes_same : {t : Bool} → t ≡ equivalent k j → t ≡ true → codes_difference all k j ≡ None
  unfolding unless here
  codes_same e q = codes-are ∙ ap (λ t. here (unless t (kind k j))) (sym e ∙ q)

  pub codes-differ : {t : Bool} → t ≡ equivalent k j → t ≡ false → codes_difference all k j ≡ Some (record { path = []; differs = kind k j })
  unfolding unless here
  codes-differ e q = codes-are ∙ ap (λ t. here (unless t (kind k j))) (sym e ∙ q)

abbrev pub codes_reason : ℕ → ℕ → Reason
codes_reason k j = record { path = []; differs = kind k j }

module _ (k j : ℕ) where
  pub codes-text : (58 ∷ 107 ∷ 105 ∷ 110 ∷ 100 ∷ []) ++ (value_text (decimal k) ++ value_text (decimal j)) ≡ reason_text (codes_reason k j)
  unfolding reason_text path_text difference_text values_text
  codes-text = refl

  pub codes-length : {m n : ℕ} → m ≡ length (value_text (decimal k)) → n ≡ length (value_text (decimal j)) → 5 + m + n ≡ length (reason_text (codes_reason k j))
  codes-length {m} {n} p q =
      let a = length-append (value_text (decimal k)) (value_text (decimal j)) in
      let b = length-append (58 ∷ 107 ∷ 105 ∷ 110 ∷ 100 ∷ []) (value_text (decimal k) ++ value_text (decimal j)) in
      let s : 5 + m + n ≡ length ((58 ∷ 107 ∷ 105 ∷ 110 ∷ 100 ∷ []) ++ (value_text (decimal k) ++ value_text (decimal j))) = omega arith in
      s ∙ ap length codes-text

-- ---- The walk's spot makes the first difference.

-- A spot as a reason, with the path to its place.
unfoldable with_path : (ℕ → List ℕ) → Option Spot → Option Reason
with_path f None = None
with_path f (Some s) = Some (record { path = f s.place; differs = s.differs })

-- A spot, if there is one, stands among the `n` nodes from `at` on.
abbrev Within : ℕ → ℕ → Option Spot → Type 0
Within at n None = Unit {0}
Within at n (Some s) = NodeOf at n s.place

with-else : (f : ℕ → List ℕ) (s t : Option Spot) → with_path f (or_else s t) ≡ or_else (with_path f s) (with_path f t)
unfolding with_path or_else
with-else f None t = refl
with-else f (Some s) t = refl

with-same : (f g : ℕ → List ℕ) (at n : ℕ) (s : Option Spot) → Within at n s → ((x : ℕ) → NodeOf at n x → f x ≡ g x) → with_path f s ≡ with_path g s
unfolding with_path
with-same f g at n None h e = refl
with-same f g at n (Some s) h e = ap (λ p. Some (record { path = p; differs = s.differs })) (e s.place h)

within-else : (at n : ℕ) (s t : Option Spot) → Within at n s → Within at n t → Within at n (or_else s t)
unfolding or_else
within-else at n None t h k = k
within-else at n (Some s) t h k = h

within_wider : (at n bt m : ℕ) (s : Option Spot) → ((x : ℕ) → NodeOf bt m x → NodeOf at n x) → Within bt m s → Within at n s
within_wider at n bt m None f h = h
within_wider at n bt m (Some s) f h = f s.place h

within-here : (at n : ℕ) (d : Option Difference) → 0 < n → Within at n (spotted at d)
unfolding spotted
within-here at n None p = tt
within-here at n (Some d) p = record { number = 0; is = omega arith; few = p }

pub else-none : (s : Option Spot) → or_else s None ≡ s
unfolding or_else
else-none None = refl
else-none (Some s) = refl

-- The path from a node at `at` that holds `cs`.
unfoldable down : Trees → ℕ → ℕ → List ℕ
down cs at x = cond (eqb x at) [] (path_to cs (at + 4) 0 x)

down-here : (cs : Trees) (at : ℕ) (d : Option Difference) → here d ≡ with_path (down cs at) (spotted at d)
unfolding here spotted with_path down
down-here cs at None = refl
down-here cs at (Some d) = rw (eq-eqb at at refl)

module _ (l m : Label) (v : NestingLevel) (cs ds : Trees) (at : ℕ) (s : Option Spot) (h : Within (at + 4) (T.count cs) s) where
  down-items : with_path (path_to cs (at + 4) 0) s ≡ with_path (down cs at) s
  unfolding down
  down-items = with-same (path_to cs (at + 4) 0) (down cs at) (at + 4) (T.count cs) s h (λ x k. sym (rw (ne_eqb x at (λ e. let q = k.is in omega arith))))

  node-spot : node_difference l m v cs ds (with_path (path_to cs (at + 4) 0) s) ≡ with_path (down cs at) (node_spot l m v cs ds at s)
  unfolding node_difference node_spot with_path
  node-spot =
      ap₂ or_else (down-here cs at (own_difference l m)) (go (items_compared l v cs ds))
      ∙ sym (with-else (down cs at) (spotted at (own_difference l m)) (cond (items_compared l v cs ds) (or_else (spotted at (count_difference cs ds)) s) None))
    where
      go : (t : Bool) → cond t (or_else (here (count_difference cs ds)) (with_path (path_to cs (at + 4) 0) s)) None ≡ with_path (down cs at) (cond t (or_else (spotted at (count_difference cs ds)) s) None)
      go true = ap₂ or_else (down-here cs at (count_difference cs ds)) down-items ∙ sym (with-else (down cs at) (spotted at (count_difference cs ds)) s)
      go false = refl

  node-within : Within at (suc (T.count cs)) (node_spot l m v cs ds at s)
  unfolding node_spot
  node-within = within-else at (suc (T.count cs)) (spotted at (own_difference l m)) _ (within-here at (suc (T.count cs)) (own_difference l m) (omega arith)) (go (items_compared l v cs ds))
    where
      go : (t : Bool) → Within at (suc (T.count cs)) (cond t (or_else (spotted at (count_difference cs ds)) s) None)
      go true = within-else at (suc (T.count cs)) (spotted at (count_difference cs ds)) s (within-here at (suc (T.count cs)) (count_difference cs ds) (omega arith))
          (within_wider at (suc (T.count cs)) (at + 4) (T.count cs) s (λ x k. let e = k.is in let f = k.few in record { number = suc k.number; is = omega arith; few = omega arith }) h)
      go false = tt

items-within : (all : Bool) (v : NestingLevel) (at : ℕ) (t u : Trees) → Within at (T.count t) (items_spot all v at t u)
unfolding items_spot T.count
items-within all v at end u = tt
items-within all v at (node l cs ts) end = tt
items-within all v at (node l cs ts) (node m ds us) =
    let k = suc (T.count cs) in
    let n = suc (T.count cs + T.count ts) in
    let x = node_spot l m (level_for all v) cs ds at (items_spot all (inside l (level_for all v)) (at + 4) cs ds) in
    let y = items_spot all v (at + 4 * k) ts us in
    within-else at n x y
    (within_wider at n at k x (λ z j. let e = j.is in let f = j.few in record { number = j.number; is = e; few = omega arith })
    (node-within l m (level_for all v) cs ds at _ (items-within all (inside l (level_for all v)) (at + 4) cs ds)))
    (within_wider at n (at + 4 * k) (T.count ts) y (λ z j. let e = j.is in let f = j.few in record { number = k + j.number; is = omega arith; few = omega arith }) (items-within all v (at + 4 * k) ts us))

module _ (l : Label) (cs ts : Trees) (at i : ℕ) where
  under-node : (s : Option Spot) → Within at (suc (T.count cs)) s → under i (with_path (down cs at) s) ≡ with_path (path_to (node l cs ts) at i) s
  unfolding under with_path down path_to
  under-node None h = refl
  under-node (Some s) h = ap (λ p. Some (record { path = p; differs = s.differs })) (go (eqb s.place at) refl)
    where
      go : (t : Bool) → eqb s.place at ≡ t → i ∷ down cs at s.place ≡ path_to (node l cs ts) at i s.place
      go true e = rw e
      go false e = let q = h.is in let f = h.few in rw (e, lt-ltb s.place (at + 4 * suc (T.count cs)) (omega arith))

  after-node : (s : Option Spot) → Within (at + 4 * suc (T.count cs)) (T.count ts) s
      → with_path (path_to ts (at + 4 * suc (T.count cs)) (suc i)) s ≡ with_path (path_to (node l cs ts) at i) s
  unfolding path_to
  after-node s h = with-same _ _ (at + 4 * suc (T.count cs)) (T.count ts) s h
      (λ x k. let q = k.is in sym (rw (ne_eqb x at (λ e. omega arith), le-ltb x (at + 4 * suc (T.count cs)) (omega arith))))

-- the key: the first difference of items is the walk's spot, with the path to it
items-spot : (all : Bool) (v : NestingLevel) (i at : ℕ) (t u : Trees) → items_difference all v i t u ≡ with_path (path_to t at i) (items_spot all v at t u)
unfolding items_difference items_spot with_path
items-spot all v i at end u = refl
items-spot all v i at (node l cs ts) end = refl
items-spot all v i at (node l cs ts) (node m ds us) =
    let w = level_for all v in
    let s = items_spot all (inside l w) (at + 4) cs ds in
    let h = items-within all (inside l w) (at + 4) cs ds in
    let b = at + 4 * suc (T.count cs) in
    ap₂ or_else
    (ap (λ d. under i (node_difference l m w cs ds d)) (items-spot all (inside l w) 0 (at + 4) cs ds)
    ∙ ap (under i) (node-spot l m w cs ds at s h)
    ∙ under-node l cs ts at i (node_spot l m w cs ds at s) (node-within l m w cs ds at s h))
    (items-spot all v (suc i) b ts us ∙ after-node l cs ts at i (items_spot all v b ts us) (items-within all v b ts us))
    ∙ sym (with-else (path_to (node l cs ts) at i) (node_spot l m w cs ds at s) (items_spot all v b ts us))

-- ---- Names do not matter to paths.

module _ (s t w : List ℕ) where
  read-size : (f n at : ℕ) → T.count (read s w f n at) ≡ T.count (read t w f n at)
  unfolding read T.count
  read-size zero n at = refl
  read-size (suc f) zero at = refl
  read-size (suc f) (suc n) at = ap₂ (λ (a b : ℕ). suc (a + b)) (read-size f (S.below w n at) (at + 4)) (read-size f (n - S.below w n at) (at + 4 + 4 * S.below w n at))

  read-path : (f n at b i x : ℕ) → path_to (read s w f n at) b i x ≡ path_to (read t w f n at) b i x
  unfolding read path_to
  read-path zero n at b i x = refl
  read-path (suc f) zero at b i x = refl
  read-path (suc f) (suc n) at b i x =
      let k = S.below w n at in
      let cs = read s w f k (at + 4) in
      let ts = read s w f (n - k) (at + 4 + 4 * k) in
      let e = T.count (read t w f k (at + 4)) in
      ap (λ (c : ℕ). cond (eqb x b) (i ∷ []) (cond (ltb x (b + 4 * suc c)) (i ∷ path_to cs (b + 4) 0 x) (path_to ts (b + 4 * suc c) (suc i) x))) (read-size f k (at + 4))
      ∙ ap₂ (λ (p q : List ℕ). cond (eqb x b) (i ∷ []) (cond (ltb x (b + 4 * suc e)) (i ∷ p) q))
      (read-path f k (at + 4) (b + 4) 0 x) (read-path f (n - k) (at + 4 + 4 * k) (b + 4 * suc e) (suc i) x)

  path_names : (n at b i x : ℕ) → path_to (trees s w n at) b i x ≡ path_to (trees t w n at) b i x
  unfolding trees
  path_names n at b i x = read-path n n at b i x

-- ---- From the root.

module _ (all : Bool) (v : NestingLevel) (an a : List ℕ) (n : ℕ) (bn b : List ℕ) (m : ℕ) (g : Rooted an a n) (h : Rooted bn b m) where
  abbrev first : Trees
  first = trees an a n 0

  abbrev second : Trees
  second = trees bn b m 0

  first-is : first ≡ node (label_at an a 0) (below an a 0) end
  first-is =
      let c = g.count in
      trees-step an a n 0 g.root.some-node (omega arith)
      ∙ ap (node (label_at an a 0) (below an a 0)) (no-trees an a (n - count_at a 0) (0 + 4 * count_at a 0) (omega arith))

  second_is : second ≡ node (label_at bn b 0) (below bn b 0) (trees bn b (m - count_at b 0) (0 + 4 * count_at b 0))
  second_is = let c = h.count in trees-step bn b m 0 h.root.some-node (omega arith)

  alone : (l k : Label) (cs ds us : Trees) → first_difference all v (node l cs end) (node k ds us) ≡ with_path (down cs 0) (items_spot all v 0 (node l cs end) (node k ds us))
  unfolding first_difference items_spot
  alone l k cs ds us =
      let w = level_for all v in
      let s = items_spot all (inside l w) (0 + 4) cs ds in
      ap (node_difference l k w cs ds) (items-spot all (inside l w) 0 (0 + 4) cs ds)
      ∙ node-spot l k w cs ds 0 s (items-within all (inside l w) (0 + 4) cs ds)
      ∙ ap (with_path (down cs 0)) (sym (else-none (node_spot l k w cs ds 0 s)))

  root-path : (x : ℕ) → down (below an a 0) 0 x ≡ path_from a 0 x
  unfolding down path_from
  root-path x = ap (cond (eqb x 0) []) (path_names an [] a (count_at a 0 - 1) (0 + 4) (0 + 4) 0 x)

  first-spot : first_difference all v first second ≡ with_path (path_from a 0) (items_spot all v 0 first second)
  first-spot =
      ap₂ (first_difference all v) first-is second_is
      ∙ alone (label_at an a 0) (label_at bn b 0) (below an a 0) (below bn b 0) _
      ∙ ap (with_path (down (below an a 0) 0)) (sym (ap₂ (items_spot all v 0) first-is second_is))
      ∙ with-same (down (below an a 0) 0) (path_from a 0) 0 (T.count first) (items_spot all v 0 first second) (items-within all v 0 first second) (λ x k. root-path x)

  top-spot : v ≡ Top → first_difference all Top first second ≡ with_path (path_from a 0) (items_spot all v 0 first second)
  top-spot e = ap (λ w. first_difference all w first second) (sym e) ∙ first-spot

-- ---- What the walk hands out.

named-within : (aspect : Aspect) (m : ℕ) (w : List ℕ) (x : ℕ) → Named aspect w x → KindAndName w m x → NameWithin aspect m w x
named-within A.Kind m w x n k = tt
named-within A.Size m w x n k = tt
named-within A.Offset m w x n k = tt
named-within A.Length m w x n k = tt
named-within A.Name m w x n k = k.name n
named-within A.Count m w x n k = tt

module _ {names w : List ℕ} {n : ℕ} (g : Rooted names w n) {aspect : Aspect} {x : ℕ} (v : ValueAt aspect w 0 n x) where
  value-inside : Inside w x
  value-inside = record { root = g.root; few = let c = g.count in let f = g.few in omega arith; node = subst (λ (k : ℕ). NodeOf 0 k x) (sym g.count) v.node }

  value_lent : NameWithin aspect (length names) w x
  value_lent = named-within aspect (length names) w x v.named (subst (KindAndName w (length names)) (sym v.node.is) (g.lent-names v.node.number v.node.few))

  value-short : NameWithin aspect max_names w x
  value-short = named-within aspect max_names w x v.named (subst (KindAndName w max_names) (sym v.node.is) (g.short-names v.node.number v.node.few))

-- The trees differ first in an aspect of the nodes at `x` and `y`, with the numbers `k` and `j`, which can be counted and written.
pub record Differs (all : Bool) (an a : List ℕ) (n : ℕ) (bn b : List ℕ) (m x y : ℕ) (aspect : Aspect) (k j : ℕ) : Type 0 where
  pub reason : first_difference all Top (trees an a n 0) (trees bn b m 0) ≡ Some (reason_at aspect an a x bn b y)
  pub places : Inside a x × NodeAt a x × NodeAt b y
  pub short : NameWithin aspect max_names a x × NameWithin aspect max_names b y
  pub lent : NameWithin aspect (length an) a x × NameWithin aspect (length bn) b y
  pub numbers : (k ≡ number_at aspect a x) × (j ≡ number_at aspect b y)

module _ (all : Bool) (v : NestingLevel) (top : v ≡ Top) (an a : List ℕ) (n : ℕ) (bn b : List ℕ) (m : ℕ) (g : Rooted an a n) (h : Rooted bn b m) {r : Option FirstDifference}
    (f : Finds an a 0 n bn b 0 m (items_spot all v 0 (trees an a n 0) (trees bn b m 0)) r) where
  pub found-same : r ≡ None → first_difference all Top (trees an a n 0) (trees bn b m 0) ≡ None
  unfolding with_path
  found-same e = top-spot all v an a n bn b m g h top ∙ ap (with_path (path_from a 0)) (subst (Finds an a 0 n bn b 0 m (items_spot all v 0 (trees an a n 0) (trees bn b m 0))) e f)

  pub found_at : {d : FirstDifference} → r ≡ Some d → Differs all an a n bn b m d.«at» d.«bt» d.«aspect» d.«k» d.«j»
  unfolding with_path reason_at
  found_at {d} e =
      let at : Finds an a 0 n bn b 0 m (items_spot all v 0 (trees an a n 0) (trees bn b m 0)) (Some d) =
      subst (Finds an a 0 n bn b 0 m (items_spot all v 0 (trees an a n 0) (trees bn b m 0))) e f in
      record {
        reason = top-spot all v an a n bn b m g h top ∙ ap (with_path (path_from a 0)) at.0;
        places = (value-inside g at.1.0, at.1.0.whole, at.1.1.whole);
        short = (value-short g at.1.0, value-short h at.1.1);
        lent = (value_lent g at.1.0, value_lent h at.1.1);
        numbers = at.2;
      }

module _ {all : Bool} {an a : List ℕ} {n : ℕ} {bn b : List ℕ} {m x y : ℕ} {aspect : Aspect} {k j : ℕ} (d : Differs all an a n bn b m x y aspect k j) where
  pub numbers-short : NameShort aspect k × NameShort aspect j
  numbers-short = (short-name aspect a x d.numbers.0 d.short.0, short-name aspect b y d.numbers.1 d.short.1)

  -- what the code counts: the path, and what follows it
  pub counted : {rest : ℕ} → rest ≡ difference_length aspect k j → length (path_text (path_from a 0 x)) + rest ≡ length (reason_text (reason_at aspect an a x bn b y))
  counted g =
      ap (λ (r : ℕ). length (path_text (path_from a 0 x)) + r) g
      ∙ reason-length aspect an a x bn b y d.lent.0 d.lent.1 d.numbers.0 d.numbers.1

-- ---- The answers of the calls, from what the check of two sheets gives.

-- two checks of the lists as the code hands them on, `&aw[0..]`
pub checks-give : (aw an bw bn : List ℕ) {x y : Result Found Refusal} {r : Result FoundBoth Refusal} → r ≡ both x y
    → x ≡ checked (take (length aw - 0) aw) (take (length an - 0) an) → y ≡ checked (take (length bw - 0) bw) (take (length bn - 0) bn) → GivesBoth aw an bw bn r
checks-give aw an bw bn e p q = (both-gives aw an bw bn e (p ∙ ap₂ checked (whole aw) (whole an)) (q ∙ ap₂ checked (whole bw) (whole bn))).1.0

pub rooted : {words names w : List ℕ} {n : ℕ} → NodesAre words names w n → Rooted names w n
rooted h = record { some = h.some; few = h.few; count = h.count; root = h.root; whole = h.whole; lent-names = h.lent-names; short-names = h.short-names }

module _ (all : Bool) (aw an bw bn : List ℕ) where
  pub len-refused : {r : Refusal} → held_both aw an bw bn ≡ refused_both r → Err r ≡ reason_len all aw an bw bn
  unfolding reason_len
  len-refused h = answer-refused-both Err (λ t u. measured (first_difference all Top t u)) aw an bw bn h

  pub len-codes : {k j : ℕ} → CodeIn aw an k × CodeIn bw bn j → {r : Result (Option ℕ) Refusal} → r ≡ measured (codes_difference all k j) → r ≡ reason_len all aw an bw bn
  unfolding reason_len codes_difference
  len-codes h e = e ∙ answer-held-both Err (λ t u. measured (first_difference all Top t u)) aw an bw bn h.0.holds h.1.holds

  pub len-nodes : {v u : List ℕ} {n m : ℕ} → NodesAre aw an v n → NodesAre bw bn u m
      → {r : Result (Option ℕ) Refusal} → r ≡ measured (first_difference all Top (trees an v n 0) (trees bn u m 0)) → r ≡ reason_len all aw an bw bn
  unfolding reason_len
  len-nodes g h e = e ∙ answer-held-both Err (λ t u. measured (first_difference all Top t u)) aw an bw bn g.holds h.holds

  module _ (out : List ℕ) where
    abbrev answer : Trees → Trees → Result (Option ℕ) Refusal
    answer t u = fitted_reason (length out) (first_difference all Top t u)

    abbrev output : Trees → Trees → List ℕ
    output t u = placed_reason out (first_difference all Top t u)

    pub write-refused : {r : Refusal} → held_both aw an bw bn ≡ refused_both r
        → (Err r ≡ reason_answer all aw an bw bn (length out)) × (out ≡ reason_output all aw an bw bn out)
    unfolding reason_answer reason_output
    write-refused h = (answer-refused-both Err answer aw an bw bn h, answer-refused-both (λ (r : Refusal). out) output aw an bw bn h)

    pub write-codes : {k j : ℕ} → CodeIn aw an k × CodeIn bw bn j
        → {r : Result (Option ℕ) Refusal} {after : List ℕ} → r ≡ fitted_reason (length out) (codes_difference all k j) → after ≡ placed_reason out (codes_difference all k j)
        → (r ≡ reason_answer all aw an bw bn (length out)) × (after ≡ reason_output all aw an bw bn out)
    unfolding reason_answer reason_output codes_difference
    write-codes h e f = (
      e ∙ answer-held-both Err answer aw an bw bn h.0.holds h.1.holds,
      f ∙ answer-held-both (λ (r : Refusal). out) output aw an bw bn h.0.holds h.1.holds,
    )

    pub write-nodes : {v u : List ℕ} {n m : ℕ} → NodesAre aw an v n → NodesAre bw bn u m
        → {r : Result (Option ℕ) Refusal} {after : List ℕ} → r ≡ answer (trees an v n 0) (trees bn u m 0) → after ≡ output (trees an v n 0) (trees bn u m 0)
        → (r ≡ reason_answer all aw an bw bn (length out)) × (after ≡ reason_output all aw an bw bn out)
    unfolding reason_answer reason_output
    write-nodes g h e f = (
      e ∙ answer-held-both Err answer aw an bw bn g.holds h.holds,
      f ∙ answer-held-both (λ (r : Refusal). out) output aw an bw bn g.holds h.holds,
    )
