-- The layout of a tree passes the test of a sheet and reads back as the tree.
use Prim.Native.Nat.{ℕ, suc, ◌+◌, ◌-◌, ◌*◌, ◌≤◌, ◌<◌}
use native.Mathlib.Nat.{add-zero}
use native.Mathlib.Omega.{arith}
use mathlib.Core.Path.{◌≡◌, refl, ap, ap₂, sym, ◌∙◌}
use mathlib.Core.List.{List, [], ◌∷◌, ◌++◌, append_assoc}
use mathlib.Core.Bool.{Bool, true, ◌&&◌, false≢true}
use borrow.Author.Tests.{le-leb, ltb-true, eq-eqb, ne_eqb}
use lib.ListN.{length, get_or, take, drop, length-append}
use lib.Seq.{drop-drop, drop-append_seam, take-append_seam, get_or-drop}
use lib.Dec.{leb, ltb}
use Rattle.kinds.specs.Tree as T
use Rattle.kinds.specs.Tree.{Label, Trees, end, node, primitive, bit_field, typed_bit_field, pointer, atomic, array, struct, union, is_end, is_one, count, kind, name}
use Rattle.kinds.specs.Parse.{max_u64}
use Rattle.kinds.specs.Sound.{valid_label, valid_count, valid}
use Rattle.kinds.specs.Sheet.{header_words, words_used, header_for, sheet_of, header, node_words, is_sheet, tree_of}
use Rattle.kinds.specs.Sheet.{first, second, names_of, nodes, kind_at, first_at, second_at, count_at, label_at, label, trees, arity, nests, numbers, next_name, packed}
use Rattle.kinds.proofs.SheetLaws.{trees-step, nests-step, nests-none, arity-one, arity-low, packed-on, packed_none}
use Rattle.kinds.proofs.TableLaws.{both_left, both_right}
use Rattle.kinds.proofs.NodeLaws.{no-trees}

-- A label's numbers and children are those of a sheet.
abbrev pub ok_node : Label → Trees → Bool
ok_node l cs = valid_label l && valid_count l cs

-- `xs` stands in `w` from `at` on
abbrev pub Stands : List ℕ → ℕ → List ℕ → Type 0
Stands w at xs = (rest : List ℕ) × (drop at w ≡ xs ++ rest)

stands-first : (w : List ℕ) (at : ℕ) (xs ys : List ℕ) → Stands w at (xs ++ ys) → Stands w at xs
stands-first w at xs ys h = (ys ++ h.0, h.1 ∙ append_assoc xs ys h.0)

stands-next : (w : List ℕ) (at : ℕ) (xs ys : List ℕ) → Stands w at (xs ++ ys) → Stands w (at + length xs) ys
stands-next w at xs ys h = (h.0, sym (drop-drop (length xs) at w) ∙ ap (drop (length xs)) (h.1 ∙ append_assoc xs ys h.0) ∙ drop-append_seam xs (ys ++ h.0))

stands-take : (w : List ℕ) (at : ℕ) (xs : List ℕ) → Stands w at xs → take (length xs) (drop at w) ≡ xs
stands-take w at xs h = ap (take (length xs)) h.1 ∙ take-append_seam xs h.0

module _ (w : List ℕ) (at : ℕ) (a b c d : ℕ) (xs : List ℕ) (h : Stands w at (a ∷ b ∷ c ∷ d ∷ xs)) where
  word-0 : kind_at w at ≡ a
  word-0 = ap (λ (j : ℕ). get_or w j 0) (sym (add-zero at)) ∙ sym (get_or-drop at w 0 0) ∙ ap (λ (l : List ℕ). get_or l 0 0) h.1

  word-1 : first_at w at ≡ b
  word-1 = sym (get_or-drop at w 1 0) ∙ ap (λ (l : List ℕ). get_or l 1 0) h.1

  word-2 : second_at w at ≡ c
  word-2 = sym (get_or-drop at w 2 0) ∙ ap (λ (l : List ℕ). get_or l 2 0) h.1

  word-3 : count_at w at ≡ d
  word-3 = sym (get_or-drop at w 3 0) ∙ ap (λ (l : List ℕ). get_or l 3 0) h.1

  words-after : Stands w (at + 4) xs
  words-after = stands-next w at (a ∷ b ∷ c ∷ d ∷ []) xs h

pub nodes-length : (t : Trees) (p : ℕ) → length (nodes t p) ≡ 4 * count t
unfolding nodes count
nodes-length end p = refl
nodes-length (node l cs ts) p =
    let e = length-append (nodes cs (p + length (name l))) (nodes ts (p + length (name l) + length (names_of cs))) in
    let a = nodes-length cs (p + length (name l)) in
    let b = nodes-length ts (p + length (name l) + length (names_of cs)) in
    omega arith

-- a node's words give its label
label-back : (s : List ℕ) (l : Label) (cs : Trees) (p : ℕ) → ok_node l cs ≡ true → Stands s p (name l) → label s (kind l) (first l p) (second l) ≡ l
unfolding label kind first second name valid_label valid_count
label-back s (primitive k) cs p o h = rw (le-leb k 23 (low (ltb-true k 24 (both_left (ltb k 24) (is_end cs) o))))
  where
    low : k < 24 → k ≤ 23
    low q = omega arith
label-back s (bit_field n) cs p o h = refl
label-back s (typed_bit_field a n) cs p o h = refl
label-back s pointer cs p o h = refl
label-back s atomic cs p o h = refl
label-back s (array n) cs p o h = refl
label-back s (struct m) cs p o h = ap struct (stands-take s p m h)
label-back s (union m) cs p o h = ap union (stands-take s p m h)
label-back s T.none cs p o h = refl

module _ (s w : List ℕ) where
  -- reading the layout of trees gives the trees
  pub read_back : (t : Trees) (p at : ℕ) → valid t ≡ true → Stands w at (nodes t p) → Stands s p (names_of t) → trees s w (count t) at ≡ t
  unfolding nodes names_of valid count
  read_back end p at o h n = no-trees s w 0 at (omega arith)
  read_back (node l cs ts) p at o h n =
      let xs = nodes cs (p + length (name l)) in
      let ys = nodes ts (p + length (name l) + length (names_of cs)) in
      let k = word-0 w at (kind l) (first l p) (second l) (suc (count cs)) (xs ++ ys) h in
      let a = word-1 w at (kind l) (first l p) (second l) (suc (count cs)) (xs ++ ys) h in
      let b = word-2 w at (kind l) (first l p) (second l) (suc (count cs)) (xs ++ ys) h in
      let c = word-3 w at (kind l) (first l p) (second l) (suc (count cs)) (xs ++ ys) h in
      let g = words-after w at (kind l) (first l p) (second l) (suc (count cs)) (xs ++ ys) h in
      let len = nodes-length cs (p + length (name l)) in
      let o₁ = both_left (ok_node l cs) (valid cs && valid ts) o in
      let o₂ = both_right (ok_node l cs) (valid cs && valid ts) o in
      let n₂ = stands-next s p (name l) (names_of cs ++ names_of ts) n in
      let kids = read_back cs (p + length (name l)) (at + 4) (both_left (valid cs) (valid ts) o₂) (stands-first w (at + 4) xs ys g) (stands-first s (p + length (name l)) (names_of cs) (names_of ts) n₂) in
      let rest = read_back ts (p + length (name l) + length (names_of cs)) (at + 4 + length xs) (both_right (valid cs) (valid ts) o₂) (stands-next w (at + 4) xs ys g) (stands-next s (p + length (name l)) (names_of cs) (names_of ts) n₂) in
      let e₁ : count_at w at - 1 ≡ count cs = omega arith in
      let e₂ : suc (count cs + count ts) - count_at w at ≡ count ts = omega arith in
      let e₃ : at + 4 * count_at w at ≡ at + 4 + length xs = omega arith in
      let lab : label_at s w at ≡ l = ap (λ (x : ℕ). label s x (first_at w at) (second_at w at)) k ∙ ap (λ (x : ℕ). label s (kind l) x (second_at w at)) a
      ∙ ap (λ (x : ℕ). label s (kind l) (first l p) x) b ∙ label-back s l cs p o₁ (stands-first s p (name l) (names_of cs ++ names_of ts) n) in
      trees-step s w (suc (count cs + count ts)) at (omega arith) (omega arith)
      ∙ ap (λ (x : Label). node x (trees s w (count_at w at - 1) (at + 4)) (trees s w (suc (count cs + count ts) - count_at w at) (at + 4 * count_at w at))) lab
      ∙ ap₂ (node l) (ap (λ (j : ℕ). trees s w j (at + 4)) e₁ ∙ kids) (ap₂ (trees s w) e₂ e₃ ∙ rest)

first_count : Trees → ℕ
first_count end = 0
first_count (node m ds us) = suc (count ds)

one-arity : (k : ℕ) → 25 ≤ k → k ≤ 28 → (cs : Trees) (d : ℕ) → is_one cs ≡ true → d ≡ first_count cs → arity k (suc (count cs)) d ≡ true
unfolding is_one is_end first_count count
one-arity k lo hi end d o e = absurd (false≢true o)
one-arity k lo hi (node m ds end) d o e = arity-one k (suc (suc (count ds + 0))) d lo hi ∙ rw (le-leb 2 (suc (suc (count ds + 0))) (omega arith), eq-eqb (suc (suc (count ds + 0))) (d + 1) (omega arith))
one-arity k lo hi (node m ds (node x ys us)) d o e = absurd (false≢true o)

no-arity : (k : ℕ) → k < 25 → (cs : Trees) (d : ℕ) → is_end cs ≡ true → arity k (suc (count cs)) d ≡ true
unfolding is_end count
no-arity k p end d o = arity-low k 1 d p
no-arity k p (node m ds us) d o = absurd (false≢true o)

arity-back : (l : Label) (cs : Trees) (d : ℕ) → ok_node l cs ≡ true → (is_one cs ≡ true → d ≡ first_count cs) → arity (kind l) (suc (count cs)) d ≡ true
unfolding valid_label valid_count kind arity count is_end
arity-back (primitive k) cs d o e = no-arity k (low (ltb-true k 24 (both_left (ltb k 24) (is_end cs) o))) cs d (both_right (ltb k 24) (is_end cs) o)
  where
    low : k < 24 → k < 25
    low p = omega arith
arity-back (bit_field n) cs d o e = no-arity 24 (omega arith) cs d (both_right (leb n 255) (is_end cs) o)
arity-back (typed_bit_field a n) cs d o e = one-arity 25 (omega arith) (omega arith) cs d (both_right (leb a max_u64 && leb n 255) (is_one cs) o) (e (both_right (leb a max_u64 && leb n 255) (is_one cs) o))
arity-back pointer cs d o e = one-arity 26 (omega arith) (omega arith) cs d o (e o)
arity-back atomic cs d o e = one-arity 27 (omega arith) (omega arith) cs d o (e o)
arity-back (array n) cs d o e = one-arity 28 (omega arith) (omega arith) cs d (both_right (leb n max_u64) (is_one cs) o) (e (both_right (leb n max_u64) (is_one cs) o))
arity-back (struct m) cs d o e = refl
arity-back (union m) cs d o e = refl
arity-back T.none end d o e = refl
arity-back T.none (node m ds us) d o e = absurd (false≢true o)

module _ (w : List ℕ) where
  -- the count of the first of the trees that stand at a place, if there is one
  first_count_lem : (cs : Trees) (p at : ℕ) → Stands w at (nodes cs p) → is_one cs ≡ true → count_at w at ≡ first_count cs
  unfolding nodes is_one first_count
  first_count_lem end p at h o = absurd (false≢true o)
  first_count_lem (node m ds us) p at h o = word-3 w at (kind m) (first m p) (second m) (suc (count ds)) (nodes ds (p + length (name m)) ++ nodes us (p + length (name m) + length (names_of ds))) h

  nests-back : (t : Trees) (p at : ℕ) → valid t ≡ true → Stands w at (nodes t p) → nests w (count t) at ≡ true
  unfolding nodes valid count
  nests-back end p at o h = nests-none w 0 at (omega arith)
  nests-back (node l cs ts) p at o h =
      let xs = nodes cs (p + length (name l)) in
      let ys = nodes ts (p + length (name l) + length (names_of cs)) in
      let k = word-0 w at (kind l) (first l p) (second l) (suc (count cs)) (xs ++ ys) h in
      let c = word-3 w at (kind l) (first l p) (second l) (suc (count cs)) (xs ++ ys) h in
      let g = words-after w at (kind l) (first l p) (second l) (suc (count cs)) (xs ++ ys) h in
      let len = nodes-length cs (p + length (name l)) in
      let o₁ = both_left (ok_node l cs) (valid cs && valid ts) o in
      let o₂ = both_right (ok_node l cs) (valid cs && valid ts) o in
      let kids = nests-back cs (p + length (name l)) (at + 4) (both_left (valid cs) (valid ts) o₂) (stands-first w (at + 4) xs ys g) in
      let rest = nests-back ts (p + length (name l) + length (names_of cs)) (at + 4 + length xs) (both_right (valid cs) (valid ts) o₂) (stands-next w (at + 4) xs ys g) in
      let e₁ : count_at w at - 1 ≡ count cs = omega arith in
      let e₂ : suc (count cs + count ts) - count_at w at ≡ count ts = omega arith in
      let e₃ : at + 4 * count_at w at ≡ at + 4 + length xs = omega arith in
      nests-step w (suc (count cs + count ts)) at (omega arith) (omega arith)
      ∙ ap₂ ◌&&◌ (ap₂ (λ (x y : ℕ). arity x y (count_at w (at + 4))) k c ∙ arity-back l cs (count_at w (at + 4)) o₁ (first_count_lem cs (p + length (name l)) (at + 4) (stands-first w (at + 4) xs ys g)))
      (ap₂ ◌&&◌ (ap (λ (j : ℕ). nests w j (at + 4)) e₁ ∙ kids) (ap₂ (nests w) e₂ e₃ ∙ rest))

numbers-back : (l : Label) (cs : Trees) (p e : ℕ) → ok_node l cs ≡ true → p + length (name l) ≤ e → numbers (kind l) (first l p) (second l) p e ≡ true
unfolding valid_label valid_count kind first second name numbers
numbers-back (primitive k) cs p e o q = low (ltb-true k 24 (both_left (ltb k 24) (is_end cs) o))
  where
    low : k < 24 → numbers k 0 0 p e ≡ true
    low r = rw (ne_eqb k 29 (λ d. omega arith), ne_eqb k 30 (λ d. omega arith), ne_eqb k 25 (λ d. omega arith), ne_eqb k 24 (λ d. omega arith), ne_eqb k 28 (λ d. omega arith), le-leb k 31 (omega arith))
numbers-back (bit_field n) cs p e o q = both_left (leb n 255) (is_end cs) o
numbers-back (typed_bit_field a n) cs p e o q = both_left (leb a max_u64 && leb n 255) (is_one cs) o
numbers-back pointer cs p e o q = refl
numbers-back atomic cs p e o q = refl
numbers-back (array n) cs p e o q = rw (both_left (leb n max_u64) (is_one cs) o)
numbers-back (struct m) cs p e o q = rw (eq-eqb p p refl, le-leb (p + length m) e q)
numbers-back (union m) cs p e o q = rw (eq-eqb p p refl, le-leb (p + length m) e q)
numbers-back T.none cs p e o q = refl

next-back : (l : Label) (cs : Trees) (p : ℕ) → ok_node l cs ≡ true → next_name (kind l) (second l) p ≡ p + length (name l)
unfolding valid_label valid_count kind second name next_name
next-back (primitive k) cs p o = low (ltb-true k 24 (both_left (ltb k 24) (is_end cs) o))
  where
    plain : p ≡ p + 0
    plain = omega arith

    low : k < 24 → next_name k 0 p ≡ p + 0
    low r = rw (ne_eqb k 29 (λ d. omega arith), ne_eqb k 30 (λ d. omega arith)) plain
next-back (bit_field n) cs p o = omega arith
next-back (typed_bit_field a n) cs p o = omega arith
next-back pointer cs p o = omega arith
next-back atomic cs p o = omega arith
next-back (array n) cs p o = omega arith
next-back (struct m) cs p o = refl
next-back (union m) cs p o = refl
next-back T.none cs p o = omega arith

module _ (w : List ℕ) (e : ℕ) where
  -- the pass over the nodes goes on after the layout of trees, with their names behind it
  packed-back : (t : Trees) (p at m : ℕ) → valid t ≡ true → Stands w at (nodes t p) → p + length (names_of t) ≤ e → packed w (count t + m) at p e ≡ packed w m (at + 4 * count t) (p + length (names_of t)) e
  unfolding nodes names_of valid count
  packed-back end p at m o h q =
      let e₁ : 0 + m ≡ m = omega arith in
      let e₂ : at ≡ at + 4 * 0 = omega arith in
      let e₃ : p ≡ p + 0 = omega arith in
      ap₂ (λ (i j : ℕ). packed w i j p e) e₁ e₂ ∙ ap (λ (i : ℕ). packed w m (at + 4 * 0) i e) e₃
  packed-back (node l cs ts) p at m o h q =
      let xs = nodes cs (p + length (name l)) in
      let ys = nodes ts (p + length (name l) + length (names_of cs)) in
      let k = word-0 w at (kind l) (first l p) (second l) (suc (count cs)) (xs ++ ys) h in
      let a = word-1 w at (kind l) (first l p) (second l) (suc (count cs)) (xs ++ ys) h in
      let b = word-2 w at (kind l) (first l p) (second l) (suc (count cs)) (xs ++ ys) h in
      let g = words-after w at (kind l) (first l p) (second l) (suc (count cs)) (xs ++ ys) h in
      let len = nodes-length cs (p + length (name l)) in
      let l₁ = length-append (name l) (names_of cs ++ names_of ts) in
      let l₂ = length-append (names_of cs) (names_of ts) in
      let o₁ = both_left (ok_node l cs) (valid cs && valid ts) o in
      let o₂ = both_right (ok_node l cs) (valid cs && valid ts) o in
      let num : numbers (kind_at w at) (first_at w at) (second_at w at) p e ≡ true = ap (λ (x : ℕ). numbers x (first_at w at) (second_at w at) p e) k ∙ ap₂ (λ (x y : ℕ). numbers (kind l) x y p e) a b ∙ numbers-back l cs p e o₁ (omega arith) in
      let nxt : next_name (kind_at w at) (second_at w at) p ≡ p + length (name l) = ap₂ (λ (x y : ℕ). next_name x y p) k b ∙ next-back l cs p o₁ in
      let kids = packed-back cs (p + length (name l)) (at + 4) (count ts + m) (both_left (valid cs) (valid ts) o₂) (stands-first w (at + 4) xs ys g) (omega arith) in
      let rest = packed-back ts (p + length (name l) + length (names_of cs)) (at + 4 + length xs) m (both_right (valid cs) (valid ts) o₂) (stands-next w (at + 4) xs ys g) (omega arith) in
      let e₁ : suc (count cs + count ts) + m - 1 ≡ count cs + (count ts + m) = omega arith in
      let e₂ : at + 4 + 4 * count cs ≡ at + 4 + length xs = omega arith in
      let e₃ : at + 4 + length xs + 4 * count ts ≡ at + 4 * suc (count cs + count ts) = omega arith in
      let e₄ : p + length (name l) + length (names_of cs) + length (names_of ts) ≡ p + length (name l ++ (names_of cs ++ names_of ts)) = omega arith in
      packed-on w (suc (count cs + count ts) + m) at p e (omega arith) num
      ∙ ap₂ (λ (i j : ℕ). packed w i (at + 4) j e) e₁ nxt
      ∙ kids
      ∙ ap (λ (i : ℕ). packed w (count ts + m) i (p + length (name l) + length (names_of cs)) e) e₂
      ∙ rest
      ∙ ap₂ (λ (i j : ℕ). packed w m i j e) e₃ e₄

plus_none : (n : ℕ) → suc n ≡ suc (n + 0)
plus_none n = omega arith

root-count : (l : Label) (cs : Trees) (r : List ℕ) → count_at (node_words (sheet_of (node l cs end) ++ r)) 0 ≡ suc (count cs)
unfolding sheet_of header_for nodes
root-count l cs r = refl

header-make : (w : List ℕ) (m n b : ℕ) → get_or w 0 0 ≡ n → get_or w 1 0 ≡ header_words → get_or w 2 0 ≡ b → get_or w 3 0 ≡ words_used n → 1 ≤ n → n ≤ 2001 → b ≤ 2000 → words_used n ≤ length w → b ≤ m → header w m ≡ true
unfolding header
header-make w m n b e₀ e₁ e₂ e₃ p q r s u =
    rw (e₀, e₁, e₂, e₃, le-leb header_words (length w) (omega arith), le-leb 1 n p, le-leb n 2001 q, le-leb b 2000 r, eq-eqb (words_used n) (words_used n) refl, le-leb (words_used n) (length w) s, le-leb b m u)

sheet-make : (w s : List ℕ) → header w (length s) ≡ true → packed (node_words w) (get_or w 0 0) 0 0 (get_or w 2 0) ≡ true → count_at (node_words w) 0 ≡ get_or w 0 0 → nests (node_words w) (get_or w 0 0) 0 ≡ true → is_sheet w s ≡ true
unfolding is_sheet
sheet-make w s a b c d = rw (a, b, eq-eqb (count_at (node_words w) 0) (get_or w 0 0) c, d)

-- the layout of a tree is a sheet, and holds that tree
module _ (l : Label) (cs : Trees) (r q : List ℕ) (ok : valid (node l cs end) ≡ true) (few : count (node l cs end) ≤ 2001) (short : length (names_of (node l cs end)) ≤ 2000) where
  pub layout-sheet : is_sheet (sheet_of (node l cs end) ++ r) (names_of (node l cs end) ++ q) ≡ true
  unfolding sheet_of header_for count
  layout-sheet =
      let t = node l cs end in
      let n = length-append (nodes t 0) r in
      let m = length-append (names_of t) q in
      let z = nodes-length t 0 in
      let w = sheet_of t ++ r in
      let b : ℕ = length (names_of t) in
      let c : count_at (node_words w) 0 ≡ suc (count cs) = root-count l cs r in
      let e₁ : suc (count cs + 0) ≡ suc (count cs + 0) + 0 = omega arith in
      sheet-make w (names_of t ++ q)
      (header-make w (length (names_of t ++ q)) (suc (count cs + 0)) b refl refl refl refl (omega arith) few short (omega arith) (omega arith))
      (ap (λ (j : ℕ). packed (node_words w) j 0 0 b) e₁ ∙ packed-back (node_words w) b t 0 0 0 ok (r, refl) (omega arith) ∙ packed_none (node_words w) 0 (0 + 4 * suc (count cs + 0)) (0 + b) b (omega arith) ∙ eq-eqb (0 + b) b (omega arith))
      (c ∙ plus_none (count cs))
      (nests-back (node_words w) t 0 0 ok (r, refl))

  pub layout-tree : tree_of (sheet_of (node l cs end) ++ r) (names_of (node l cs end) ++ q) ≡ node l cs end
  unfolding tree_of sheet_of header_for
  layout-tree = read_back (names_of (node l cs end) ++ q) (node_words (sheet_of (node l cs end) ++ r)) (node l cs end) 0 0 ok (r, refl) (q, refl)
