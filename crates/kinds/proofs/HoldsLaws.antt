-- The test of a sheet and the layout of a tree agree: what passes is the layout of the tree that it holds, and a layout passes.
use Prim.Native.Nat.{ℕ, zero, suc, ◌+◌, ◌-◌, ◌*◌, ◌≤◌, ◌<◌}
use native.Mathlib.Nat.{add-zero}
use native.Mathlib.Omega.{arith}
use native.Mathlib.Numerals.{add-one}
use mathlib.Core.Path.{◌≡◌, refl, ap, ap₂, sym, ◌∙◌, subst}
use mathlib.Core.List.{List, [], ◌∷◌, ◌++◌, append_assoc}
use mathlib.Core.Bool.{Bool, true, false, ◌&&◌, false≢true}
use borrow.Author.Tests.{lt-ltb, leb-true, leb-false, ne_eqb, eqb-true}
use lib.ListN.{length, get_or, take, drop, length-append, length-drop, take-append-drop}
use lib.Seq.{drop-drop, drop-append_seam, drop-cons, length-take-le}
use lib.Dec.{leb, eqb}
use Rattle.kinds.specs.Tree.{Label, Trees, end, node, is_end, is_one, count, kind, name}
use Rattle.kinds.specs.Parse.{max_u64}
use Rattle.kinds.specs.Sound.{valid_label, valid_count, valid}
use Rattle.kinds.specs.Sheet.{header_words, words_used, header_for, sheet_of, Holds, node_words, tree_of, is_sheet}
use Rattle.kinds.specs.Sheet.{first, second, names_of, nodes, kind_at, first_at, second_at, count_at, label_at, label, is_container_kind, trees, arity, nests, numbers, next_name, packed}
use Rattle.kinds.specs.Walk.{NodeAt, TreesAt}
use Rattle.kinds.proofs.SheetLaws.{Header, trees-step, arity-low, arity-high, packed-first, packed-rest, packed_none}
use Rattle.kinds.proofs.TableLaws.{both, both_left, both_right}
use Rattle.kinds.proofs.NodeLaws.{first_some, first-within, first-node, node-inner, node-child, child-count, other-trees, label-primitive, sheet-says, by_kind, no-trees, leaf-end, numbers-kind}
use Rattle.kinds.proofs.LayoutLaws.{Stands, ok_node, nodes-length, layout-sheet, layout-tree}

-- what a node's words say of its label
record Says (s : List ℕ) (k a b p e : ℕ) : Type 0 where
  the-kind : kind (label s k a b) ≡ k
  the-first : first (label s k a b) p ≡ a
  the_second : second (label s k a b) ≡ b
  the-next : next_name k b p ≡ p + length (name (label s k a b))
  the-name : Stands s p (name (label s k a b))
  the_end : p + length (name (label s k a b)) ≤ e

take-stands : (s : List ℕ) (p b : ℕ) → Stands s p (take b (drop p s))
take-stands s p b = (drop b (drop p s), sym (take-append-drop b (drop p s)))

module _ (s : List ℕ) (a b p e : ℕ) (pe : p ≤ e) (es : e ≤ length s) where
  none-stands : Stands s p []
  none-stands = (drop p s, refl)

  name-length : a ≡ p → p + b ≤ e → length (take b (drop a s)) ≡ b
  name-length f q = length-take-le b (drop a s) (rw (length-drop a s) (omega arith))

  says : (k : ℕ) → numbers k a b p e ≡ true → Says s k a b p e
  unfolding numbers next_name kind first second name label
  says k h = go (leb k 23) refl
    where
      P : ℕ → Type 0
      P j = numbers j a b p e ≡ true → Says s j a b p e

      over : p + 0 ≤ e
      over = omega arith

      zeros : (x : Bool) → (x && (eqb a 0 && eqb b 0)) ≡ true → (0 ≡ a) × (0 ≡ b)
      zeros x g = let t = both (eqb a 0) (eqb b 0) (both_right x (eqb a 0 && eqb b 0) g) in (sym (eqb-true a 0 t.0), sym (eqb-true b 0 t.1))

      bits : (eqb a 0 && leb b 255) ≡ true → 0 ≡ a
      bits g = sym (eqb-true a 0 (both_left (eqb a 0) (leb b 255) g))

      named : (eqb a p && leb (p + b) e) ≡ true → (a ≡ p) × (p + b ≤ e)
      named g = (eqb-true a p (both_left (eqb a p) (leb (p + b) e) g), leb-true (p + b) e (both_right (eqb a p) (leb (p + b) e) g))

      go : (t : Bool) → leb k 23 ≡ t → Says s k a b p e
      go true q = low (leb-true k 23 q)
        where
          low : k ≤ 23 → Says s k a b p e
          low r =
              let z = zeros (leb k 31) (rw (ne_eqb k 29 (λ d. omega arith), ne_eqb k 30 (λ d. omega arith), ne_eqb k 25 (λ d. omega arith), ne_eqb k 24 (λ d. omega arith), ne_eqb k 28 (λ d. omega arith)) at h) in
              record {
                the-kind = rw q;
                the-first = rw q z.0;
                the_second = rw q z.1;
                the-next = rw (q, ne_eqb k 29 (λ d. omega arith), ne_eqb k 30 (λ d. omega arith)) (sym (add-zero p));
                the-name = rw q none-stands;
                the_end = rw q over;
              }
      go false q = by_kind P
          (λ g. record { the-kind = refl; the-first = bits g; the_second = refl; the-next = sym (add-zero p); the-name = none-stands; the_end = over })
          (λ g. record { the-kind = refl; the-first = refl; the_second = refl; the-next = sym (add-zero p); the-name = none-stands; the_end = over })
          (λ g. record { the-kind = refl; the-first = (zeros true g).0; the_second = (zeros true g).1; the-next = sym (add-zero p); the-name = none-stands; the_end = over })
          (λ g. record { the-kind = refl; the-first = (zeros true g).0; the_second = (zeros true g).1; the-next = sym (add-zero p); the-name = none-stands; the_end = over })
          (λ g. record { the-kind = refl; the-first = refl; the_second = sym (eqb-true b 0 (both_right (leb a max_u64) (eqb b 0) g)); the-next = sym (add-zero p); the-name = none-stands; the_end = over })
          (λ g. record {
            the-kind = refl;
            the-first = sym (named g).0;
            the_second = name-length (named g).0 (named g).1;
            the-next = ap (λ (n : ℕ). p + n) (sym (name-length (named g).0 (named g).1));
            the-name = subst (λ (n : ℕ). Stands s p (take b (drop n s))) (sym (named g).0) (take-stands s p b);
            the_end = subst (λ (n : ℕ). p + n ≤ e) (sym (name-length (named g).0 (named g).1)) (named g).1;
          })
          (λ g. record {
            the-kind = refl;
            the-first = sym (named g).0;
            the_second = name-length (named g).0 (named g).1;
            the-next = ap (λ (n : ℕ). p + n) (sym (name-length (named g).0 (named g).1));
            the-name = subst (λ (n : ℕ). Stands s p (take b (drop n s))) (sym (named g).0) (take-stands s p b);
            the_end = subst (λ (n : ℕ). p + n ≤ e) (sym (name-length (named g).0 (named g).1)) (named g).1;
          })
          (λ g. record { the-kind = refl; the-first = (zeros true g).0; the_second = (zeros true g).1; the-next = sym (add-zero p); the-name = none-stands; the_end = over })
          k (leb-false k 23 q) (numbers-kind k a b p e h) h

stands-append : (w : List ℕ) (at : ℕ) (xs ys : List ℕ) → Stands w at xs → Stands w (at + length xs) ys → Stands w at (xs ++ ys)
stands-append w at xs ys h g =
    let r : h.0 ≡ ys ++ g.0 = sym (drop-append_seam xs h.0) ∙ ap (drop (length xs)) (sym h.1) ∙ drop-drop (length xs) at w ∙ g.1 in
    (g.0, h.1 ∙ ap (λ (z : List ℕ). xs ++ z) r ∙ sym (append_assoc xs ys g.0))

stands-move : (w xs : List ℕ) (a b : ℕ) → a ≡ b → Stands w a xs → Stands w b xs
stands-move w xs a b e h = subst (λ (n : ℕ). Stands w n xs) e h

one_word : (w : List ℕ) (j i : ℕ) → j < length w → j + 1 ≡ i → drop j w ≡ get_or w j 0 ∷ drop i w
one_word w j i h e = drop-cons w j 0 h ∙ ap (λ (n : ℕ). get_or w j 0 ∷ drop n w) (sym (add-one j) ∙ e)

four-words : (w : List ℕ) (at : ℕ) (xs : List ℕ) → at + 4 ≤ length w → Stands w (at + 4) xs → Stands w at (kind_at w at ∷ first_at w at ∷ second_at w at ∷ count_at w at ∷ xs)
four-words w at xs p h = (
  h.0,
  one_word w at (at + 1) (omega arith) (omega arith)
      ∙ ap (λ (z : List ℕ). kind_at w at ∷ z) (one_word w (at + 1) (at + 2) (omega arith) (omega arith)
      ∙ ap (λ (z : List ℕ). first_at w at ∷ z) (one_word w (at + 2) (at + 3) (omega arith) (omega arith)
      ∙ ap (λ (z : List ℕ). second_at w at ∷ z) (one_word w (at + 3) (at + 4) (omega arith) (omega arith)
      ∙ ap (λ (z : List ℕ). count_at w at ∷ z) h.1))),
)

module _ (s w : List ℕ) (at : ℕ) (h : NodeAt w at) where
  one-tree : 25 ≤ kind_at w at → kind_at w at ≤ 28 → is_one (trees s w (count_at w at - 1) (at + 4)) ≡ true
  unfolding is_one is_end
  one-tree lo hi =
      let e = child-count w at h lo hi in
      ap is_one (trees-step s w (count_at w at - 1) (at + 4) (node-child w at h lo hi).some-node (omega arith))
      ∙ ap is_end (no-trees s w (count_at w at - 1 - count_at w (at + 4)) (at + 4 + 4 * count_at w (at + 4)) (omega arith))

  no-tree : arity (kind_at w at) (count_at w at) (count_at w (at + 4)) ≡ eqb (count_at w at) 1 → is_end (trees s w (count_at w at - 1) (at + 4)) ≡ true
  unfolding is_end
  no-tree g = ap is_end (leaf-end s w at h g)

  ok-node : (p e : ℕ) → numbers (kind_at w at) (first_at w at) (second_at w at) p e ≡ true → ok_node (label_at s w at) (trees s w (count_at w at - 1) (at + 4)) ≡ true
  unfolding valid_label valid_count label numbers
  ok-node p e g = go (leb (kind_at w at) 23) refl
    where
      cs : Trees
      cs = trees s w (count_at w at - 1) (at + 4)

      P : ℕ → Type 0
      P j = kind_at w at ≡ j → numbers j (first_at w at) (second_at w at) p e ≡ true → ok_node (label s j (first_at w at) (second_at w at)) cs ≡ true

      one : (j : ℕ) → 25 ≤ j → j ≤ 28 → kind_at w at ≡ j → is_one cs ≡ true
      one j lo hi q = one-tree (omega arith) (omega arith)

      go : (t : Bool) → leb (kind_at w at) 23 ≡ t → ok_node (label_at s w at) cs ≡ true
      go true q = low (leb-true (kind_at w at) 23 q)
        where
          low : kind_at w at ≤ 23 → ok_node (label_at s w at) cs ≡ true
          low r = rw (label-primitive s (kind_at w at) (first_at w at) (second_at w at) (omega arith), lt-ltb (kind_at w at) 24 (omega arith)) (no-tree (arity-low (kind_at w at) (count_at w at) (count_at w (at + 4)) (omega arith)))
      go false q = by_kind P
          (λ k f. rw (both_right (eqb (first_at w at) 0) (leb (second_at w at) 255) f) (no-tree (arity-low (kind_at w at) (count_at w at) (count_at w (at + 4)) (omega arith))))
          (λ k f. rw f (one 25 (omega arith) (omega arith) k))
          (λ k f. one 26 (omega arith) (omega arith) k)
          (λ k f. one 27 (omega arith) (omega arith) k)
          (λ k f. rw (both_left (leb (first_at w at) max_u64) (eqb (second_at w at) 0) f) (one 28 (omega arith) (omega arith) k))
          (λ k f. refl)
          (λ k f. refl)
          (λ k f. no-tree (arity-high (kind_at w at) (count_at w at) (count_at w (at + 4)) (omega arith) (ap is_container_kind k)))
          (kind_at w at) (leb-false (kind_at w at) 23 q) (numbers-kind (kind_at w at) (first_at w at) (second_at w at) p e g) refl g

-- trees that stand in the words as their layout, with their names in the bytes
record Laid (s w : List ℕ) (e : ℕ) (t : Trees) (n at p m : ℕ) : Type 0 where
  stands : Stands w at (nodes t p)
  names : Stands s p (names_of t)
  ok : valid t ≡ true
  cnt : count t ≡ n
  on : packed w m (at + 4 * n) (p + length (names_of t)) e ≡ true
  le : p + length (names_of t) ≤ e

module _ (s w : List ℕ) (e : ℕ) (es : e ≤ length s) where
  laid_none : (at p m : ℕ) → p ≤ e → packed w m at p e ≡ true → Laid s w e end 0 at p m
  unfolding nodes names_of valid count
  laid_none at p m pe h = record {
    stands = (drop at w, refl);
    names = (drop p s, refl);
    ok = refl;
    cnt = refl;
    on = subst (λ (j : ℕ). packed w m j (p + 0) e ≡ true) (plain at) (subst (λ (j : ℕ). packed w m at j e ≡ true) (sym (add-zero p)) h);
    le = omega arith;
  }
    where
      plain : (x : ℕ) → x ≡ x + 4 * 0
      plain x = omega arith

  laid-node : (l : Label) (cs ts : Trees) (n at p m : ℕ)
      → NodeAt w at → kind l ≡ kind_at w at → first l p ≡ first_at w at → second l ≡ second_at w at → ok_node l cs ≡ true → Stands s p (name l) → 1 ≤ count_at w at → count_at w at ≤ n
      → Laid s w e cs (count_at w at - 1) (at + 4) (p + length (name l)) (n - count_at w at + m)
      → Laid s w e ts (n - count_at w at) (at + 4 * count_at w at) (p + length (name l) + length (names_of cs)) m
      → Laid s w e (node l cs ts) n at p m
  unfolding nodes names_of valid count
  laid-node l cs ts n at p m hn k a b o nm c₁ c₂ x y =
      let xs = nodes cs (p + length (name l)) in
      let ys = nodes ts (p + length (name l) + length (names_of cs)) in
      let lx = nodes-length cs (p + length (name l)) in
      let cx = x.cnt in
      let cy = y.cnt in
      let r = hn.room in
      let l₁ = length-append (name l) (names_of cs ++ names_of ts) in
      let l₂ = length-append (names_of cs) (names_of ts) in
      let le = y.le in
      let after : Stands w (at + 4) (xs ++ ys) = stands-append w (at + 4) xs ys x.stands (stands-move w ys (at + 4 * count_at w at) (at + 4 + length xs) (omega arith) y.stands) in
      let c : count_at w at ≡ suc (count cs) = omega arith in
      let e₁ : at + 4 * count_at w at + 4 * (n - count_at w at) ≡ at + 4 * n = omega arith in
      let e₂ : p + length (name l) + length (names_of cs) + length (names_of ts) ≡ p + length (name l ++ (names_of cs ++ names_of ts)) = omega arith in
      record {
        stands = subst (λ (j : ℕ). Stands w at (kind l ∷ first l p ∷ second l ∷ j ∷ (xs ++ ys))) c
            (subst (λ (j : ℕ). Stands w at (kind l ∷ first l p ∷ j ∷ count_at w at ∷ (xs ++ ys))) (sym b)
            (subst (λ (j : ℕ). Stands w at (kind l ∷ j ∷ second_at w at ∷ count_at w at ∷ (xs ++ ys))) (sym a)
            (subst (λ (j : ℕ). Stands w at (j ∷ first_at w at ∷ second_at w at ∷ count_at w at ∷ (xs ++ ys))) (sym k) (four-words w at (xs ++ ys) (omega arith) after))));
        names = stands-append s p (name l) (names_of cs ++ names_of ts) nm (stands-append s (p + length (name l)) (names_of cs) (names_of ts) x.names y.names);
        ok = rw (o, x.ok, y.ok);
        cnt = omega arith;
        on = subst (λ (j : ℕ). packed w m (at + 4 * n) j e ≡ true) e₂ (subst (λ (j : ℕ). packed w m j (p + length (name l) + length (names_of cs) + length (names_of ts)) e ≡ true) e₁ y.on);
        le = omega arith;
      }

  laid : (f n at p m : ℕ) → n ≤ f → TreesAt w at n → p ≤ e → packed w (n + m) at p e ≡ true → Laid s w e (trees s w n at) n at p m
  laid zero n at p m nf h pe g =
      let z : n ≡ 0 = omega arith in
      subst (λ (j : ℕ). Laid s w e (trees s w j at) j at p m) (sym z)
      (subst (λ (t : Trees). Laid s w e t 0 at p m) (sym (no-trees s w 0 at (omega arith))) (laid_none at p m pe (subst (λ (j : ℕ). packed w j at p e ≡ true) (zero_left n m z) g)))
    where
      zero_left : (a b : ℕ) → a ≡ 0 → a + b ≡ b
      zero_left a b q = omega arith
  laid (suc f) zero at p m nf h pe g = subst (λ (t : Trees). Laid s w e t 0 at p m) (sym (no-trees s w 0 at (omega arith))) (laid_none at p m pe (subst (λ (j : ℕ). packed w j at p e ≡ true) (zero_left m) g))
    where
      zero_left : (b : ℕ) → 0 + b ≡ b
      zero_left b = omega arith
  laid (suc f) (suc n) at p m nf h pe g =
      let c₁ = first_some w at (suc n) h (omega arith) in
      let c₂ = first-within w at (suc n) h (omega arith) in
      let hn = first-node w at (suc n) h (omega arith) in
      let num = packed-first w (suc n + m) at p e (omega arith) g in
      let y = says s (first_at w at) (second_at w at) p e pe es (kind_at w at) num in
      let e₁ : suc n + m - 1 ≡ count_at w at - 1 + (suc n - count_at w at + m) = omega arith in
      let e₂ : at + 4 + 4 * (count_at w at - 1) ≡ at + 4 * count_at w at = omega arith in
      let q₁ : packed w (count_at w at - 1 + (suc n - count_at w at + m)) (at + 4) (p + length (name (label_at s w at))) e
      ≡ true = subst (λ (j : ℕ). packed w j (at + 4) (p + length (name (label_at s w at))) e ≡ true) e₁ (subst (λ (j : ℕ). packed w (suc n + m - 1) (at + 4) j e ≡ true) y.the-next (packed-rest w (suc n + m) at p e (omega arith) g)) in
      let kids = laid f (count_at w at - 1) (at + 4) (p + length (name (label_at s w at))) (suc n - count_at w at + m) (omega arith) (node-inner w at hn) y.the_end q₁ in
      let q₂ = subst (λ (j : ℕ). packed w (suc n - count_at w at + m) j (p + length (name (label_at s w at)) + length (names_of (trees s w (count_at w at - 1) (at + 4)))) e ≡ true) e₂ kids.on in
      let rest = laid f (suc n - count_at w at) (at + 4 * count_at w at) (p + length (name (label_at s w at)) + length (names_of (trees s w (count_at w at - 1) (at + 4)))) m (omega arith)
      (other-trees w at (suc n) h (omega arith)) kids.le q₂ in
      subst (λ (t : Trees). Laid s w e t (suc n) at p m) (sym (trees-step s w (suc n) at c₁ c₂))
      (laid-node (label_at s w at) (trees s w (count_at w at - 1) (at + 4)) (trees s w (suc n - count_at w at) (at + 4 * count_at w at)) (suc n) at p m hn y.the-kind y.the-first y.the_second
      (ok-node s w at hn p e num) y.the-name c₁ c₂ kids rest)

header-stands : {m : ℕ} (w : List ℕ) (t : Trees) → Header w m → count t ≡ get_or w 0 0 → length (names_of t) ≡ get_or w 2 0 → Stands w header_words (nodes t 0) → Stands w 0 (sheet_of t)
unfolding sheet_of header_for
header-stands w t h k n g =
    let x = nodes t 0 in
    let o = h.offset in
    let u = h.used in
    let rm = h.room in
    let d : get_or w 3 0 ≡ words_used (count t) = omega arith in
    subst (λ (j : ℕ). Stands w 0 (count t ∷ header_words ∷ length (names_of t) ∷ j ∷ x)) d
    (subst (λ (j : ℕ). Stands w 0 (count t ∷ header_words ∷ j ∷ get_or w 3 0 ∷ x)) (sym n)
    (subst (λ (j : ℕ). Stands w 0 (count t ∷ j ∷ get_or w 2 0 ∷ get_or w 3 0 ∷ x)) o
    (subst (λ (j : ℕ). Stands w 0 (j ∷ get_or w 1 0 ∷ get_or w 2 0 ∷ get_or w 3 0 ∷ x)) (sym k)
    (four-words w 0 x (omega arith) g))))

is-end : is_end end ≡ true
unfolding is_end
is-end = refl

begins : (w xs : List ℕ) (n : ℕ) → length xs ≡ n → Stands w 0 xs → w ≡ xs ++ drop n w
begins w xs n e h = h.1 ∙ ap (λ (z : List ℕ). xs ++ z) (sym (drop-append_seam xs h.0) ∙ ap (drop (length xs)) (sym h.1) ∙ ap (λ (k : ℕ). drop k w) e)

pub sheet-length : (t : Trees) → length (sheet_of t) ≡ words_used (count t)
unfolding sheet_of header_for
sheet-length t = let e = nodes-length t 0 in omega arith

-- What passes the test is the layout of the tree that it holds.
pub test-holds : (w s : List ℕ) → is_sheet w s ≡ true → Holds w s (tree_of w s)
unfolding tree_of is_one
test-holds w s h =
    let r = sheet-says w s h in
    let c = r.count in
    let n = get_or w 0 0 in
    let b = get_or w 2 0 in
    let v = node_words w in
    let rm = r.head.room in
    let ld = length-drop header_words w in
    let all : packed v (n + 0) 0 0 b ≡ true = subst (λ (j : ℕ). packed v j 0 0 b ≡ true) (sym (add-zero n)) r.packs in
    let x = laid s v b r.head.bytes n n 0 0 0 (omega arith) (record { room = omega arith; nested = subst (λ (j : ℕ). nests v j 0 ≡ true) c r.root.nested }) (omega arith) all in
    let end-at : 0 + length (names_of (trees s v n 0)) ≡ b = eqb-true (0 + length (names_of (trees s v n 0))) b (sym (packed_none v 0 (0 + 4 * n) (0 + length (names_of (trees s v n 0))) b (omega arith)) ∙ x.on) in
    let few = r.head.few-nodes in
    let short = r.head.few_bytes in
    let k = x.cnt in
    record {
      valid-tree = x.ok;
      one = ap is_one (trees-step s v n 0 r.root.some-node (omega arith)) ∙ ap is_end (no-trees s v (n - count_at v 0) (0 + 4 * count_at v 0) (omega arith)) ∙ is-end;
      few-nodes = omega arith;
      few-names = omega arith;
      words_are = begins w (sheet_of (trees s v n 0)) (words_used (count (trees s v n 0))) (sheet-length (trees s v n 0)) (header-stands w (trees s v n 0) r.head k (omega arith) x.stands);
      names-are = begins s (names_of (trees s v n 0)) (length (names_of (trees s v n 0))) refl x.names;
    }

-- A layout passes.
pub holds_test : (w s : List ℕ) (t : Trees) → Holds w s t → is_sheet w s ≡ true
unfolding is_one is_end
holds_test w s end h = absurd (false≢true h.one)
holds_test w s (node l cs end) h =
    ap₂ is_sheet h.words_are h.names-are
    ∙ layout-sheet l cs (drop (words_used (count (node l cs end))) w) (drop (length (names_of (node l cs end))) s) h.valid-tree h.few-nodes h.few-names
holds_test w s (node l cs (node x ys zs)) h = absurd (false≢true h.one)

-- And the tree that it holds is the only one.
pub holds-tree : (w s : List ℕ) (t : Trees) → Holds w s t → tree_of w s ≡ t
unfolding is_one is_end
holds-tree w s end h = absurd (false≢true h.one)
holds-tree w s (node l cs end) h =
    ap₂ tree_of h.words_are h.names-are
    ∙ layout-tree l cs (drop (words_used (count (node l cs end))) w) (drop (length (names_of (node l cs end))) s) h.valid-tree h.few-nodes h.few-names
holds-tree w s (node l cs (node x ys zs)) h = absurd (false≢true h.one)
