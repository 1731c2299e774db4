-- The pass over a node that has a size and holds nothing inside, or over an atomic or an array of one.
use Prim.Native.Nat.{ℕ, ◌+◌, ◌-◌, ◌*◌, ◌≤◌, ◌<◌}
use native.Mathlib.Omega.{arith}
use mathlib.Core.Path.{◌≡◌, refl, ap, sym, ◌∙◌, subst}
use mathlib.Core.List.{List}
use mathlib.Core.Bool.{Bool, false}
use mathlib.Core.Logic.{◌⊎◌, inl, inr}
use borrow.Author.Tests.{lt-ltb, le-ltb, lt-leb, ne_eqb}
use lib.ListN.{length, get_or}
use Rattle.kinds.specs.Sheet.{kind_at, count_at}
use Rattle.kinds.specs.Walk.{NodeAt}
use Rattle.kinds.proofs.NodeLaws.{leaf-count, child-count, node-child, first-node}
use Rattle.layout.specs.Placing.{Zeros, sizeless_kind, passes_kind, bottom_after}
use Rattle.layout.specs.Walking.{IsSized, Sought, SimpleRoom, Settled}
use Rattle.layout.specs.declared.quick.Room.{Room}
use Rattle.layout.proofs.FillLaws.{simple-laid}
use Rattle.layout.proofs.FindLaws.{sought-first, sought-end, sought-within, sought-passed, sought-kept, sought-code}

module _ {row w : List ℕ} {n i : ℕ} {bottom : Bool} (g : Sought row w n i bottom false) (p : i < n) where
  stands : NodeAt w (4 * i)
  stands = first-node w (4 * i) (n - i) g.there (omega arith)

  -- a code that has a size, or a pointer
  sought-plain : IsSized row (kind_at w (4 * i)) → Sought row w n (i + count_at w (4 * i)) false false
  unfolding sizeless_kind passes_kind
  sought-plain (inl h) =
      let lo = h.0 in
      let c : count_at w (4 * i) ≡ 1 = leaf-count w (4 * i) stands (omega arith) in
      let some = h.1 in
      subst (λ j. Sought row w n j false false) (omega arith)
      (sought-code g p lo {t = false} {u = false} refl (sym (ne_eqb (get_or row (kind_at w (4 * i)) 0) 0 (λ e. omega arith))))
  sought-plain (inr e) = sought-passed g p (rw e) {t = false} {u = false} refl (sym (rw e)) (rw e)

  -- what an atomic or an array holds comes after it
  sought-held : 27 ≤ kind_at w (4 * i) → kind_at w (4 * i) ≤ 28 → Sought row w n (i + 1) (bottom_after (kind_at w (4 * i)) bottom) false
  unfolding sizeless_kind passes_kind
  sought-held lo hi =
      let k = kind_at w (4 * i) in
      sought-kept g p (rw (ne_eqb k 24 (λ d. omega arith), ne_eqb k 25 (λ d. omega arith))) {t = false} {u = false} refl
      (sym (rw (le-ltb k 24 (omega arith), lt-ltb k 29 (omega arith))))
      (rw (ne_eqb k 26 (λ d. omega arith), lt-leb 29 k (omega arith))) refl

pub sought-simple : {row w : List ℕ} {n i : ℕ} → Sought row w n i false false → i < n
    → IsSized row (kind_at w (4 * i)) ⊎ ((27 ≤ kind_at w (4 * i)) × (kind_at w (4 * i) ≤ 28) × IsSized row (kind_at w (4 * i + 4)))
    → Sought row w n (i + count_at w (4 * i)) false false
sought-simple g p (inl h) = sought-plain g p h
sought-simple {row} {w} {n} {i} g p (inr h) =
    let s = stands g p in
    let next : 4 * i + 4 ≡ 4 * (i + 1) = omega arith in
    let c : count_at w (4 * i) ≡ count_at w (4 * (i + 1)) + 1 = child-count w (4 * i) s (let lo = h.0 in omega arith) h.1 ∙ ap (λ at. count_at w at + 1) next in
    let d : 1 ≤ count_at w (4 * (i + 1)) = subst (λ at. 1 ≤ count_at w at) next (node-child w (4 * i) s (let lo = h.0 in omega arith) h.1).some-node in
    let f = (sought-within g p).1 in
    subst (λ j. Sought row w n j false false) (omega arith)
    (sought-plain (sought-held g p h.0 h.1) (omega arith) (subst (λ at. IsSized row (kind_at w at)) next h.2))

-- Such a node that is the whole tree: the list stays as it is.
pub quick-settled : {row w : List ℕ} {n : ℕ} {numbers : List ℕ} {x : Room} → NodeAt w 0 → count_at w 0 ≡ n → length numbers ≡ n → Zeros numbers 0 n
    → SimpleRoom row w 0 x → Settled row w numbers x
quick-settled {row} {w} {n} {numbers} {x} h c l z r =
    let some = h.some-node in
    let g = sought-simple (sought-first row w (count_at w 0) h refl) (omega arith) r.sized in
    record {
      first = numbers;
      long = l ∙ sym c;
      zeros = λ k p. z k (omega arith);
      power = r.power;
      laid = simple-laid row w 0 h r.simple numbers (λ k p. ap (λ j. get_or numbers j 0) (omega arith) ∙ z (k + 1) (omega arith)) r.takes;
      sized = λ m o s. sought-end g (omega arith) false refl m o s;
    }
