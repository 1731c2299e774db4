-- The values of a reason: kinds of the sheet's list, and names of both trees.
use Prim.Native.Nat.{ℕ, ◌≤◌}
use native.Mathlib.Omega.{arith}
use mathlib.Core.Path.{◌≡◌, refl, subst}
use mathlib.Core.Bool.{Bool, true, false≢true}
use mathlib.Core.List.{List}
use Rattle.std.specs.Prelude.{Some}
use borrow.Author.Tests.{ltb-true}
use Rattle.kinds.specs.Name.{verify_name}
use Rattle.kinds.specs.Sound.{valid_label, valid, good_name, good_names}
use Rattle.kinds.specs.Tree as T
use Rattle.kinds.specs.Tree.{Label, Trees, end, node, primitive, bit_field, typed_bit_field, pointer, atomic, array, struct, union, is_container}
use Rattle.kinds.specs.declared.NestingLevel.{NestingLevel}
use Rattle.kinds.proofs.TableLaws.{both}
use Rattle.reason.specs.Reason.{Difference, kind, size, offset, length, name, count, Reason, GoodValues, first_difference}
use Rattle.reason_agreement.specs.Along.{follow, NodesDiffer, Differ}
use Rattle.reason_agreement.proofs.AlongLaws.{follow-keeps}
use Rattle.reason_agreement.proofs.KindLaws.{valid-parts}
use Rattle.reason_agreement.proofs.RightLaws.{follow-valid, found_right}

-- ---- A node.

kind-low : (l : Label) → valid_label l ≡ true → T.kind l ≤ 31
unfolding valid_label T.kind
kind-low (primitive p) h = let k = ltb-true p 24 h in omega arith
kind-low (bit_field n) h = omega arith
kind-low (typed_bit_field o n) h = omega arith
kind-low pointer h = omega arith
kind-low atomic h = omega arith
kind-low (array n) h = omega arith
kind-low (struct s) h = omega arith
kind-low (union s) h = omega arith
kind-low T.none h = omega arith

container-name : (l : Label) → is_container l ≡ true → good_name l ≡ true → verify_name (T.name l) ≡ true
unfolding is_container good_name T.name
container-name (primitive p) c h = absurd (false≢true c)
container-name (bit_field n) c h = absurd (false≢true c)
container-name (typed_bit_field o n) c h = absurd (false≢true c)
container-name pointer c h = absurd (false≢true c)
container-name atomic c h = absurd (false≢true c)
container-name (array n) c h = absurd (false≢true c)
container-name (struct s) c h = h
container-name (union s) c h = h
container-name T.none c h = absurd (false≢true c)

record Node (l : Label) : Type 0 where
  label : valid_label l ≡ true
  good : good_name l ≡ true

difference-good : (d : Difference) (l : Label) (cs : Trees) (m : Label) (ds : Trees) → Node l → Node m → NodesDiffer d l cs m ds → GoodValues d
difference-good (kind a b) l cs m ds p q h =
    (subst (λ (k : ℕ). k ≤ 31) h.0 (kind-low l p.label), subst (λ (k : ℕ). k ≤ 31) h.1 (kind-low m q.label))
difference-good (size a b) l cs m ds p q h = tt
difference-good (offset a b) l cs m ds p q h = tt
difference-good (length a b) l cs m ds p q h = tt
difference-good (name s t) l cs m ds p q h =
    (subst (λ (n : List ℕ). verify_name n ≡ true) h.3 (container-name l h.0 p.good), subst (λ (n : List ℕ). verify_name n ≡ true) h.4 (container-name m h.1 q.good))
difference-good (count a b) l cs m ds p q h = tt

-- ---- Along the path.

record GoodParts (l : Label) (cs ts : Trees) : Type 0 where
  label : good_name l ≡ true
  children : good_names cs ≡ true
  others : good_names ts ≡ true

good-parts : (l : Label) (cs ts : Trees) → good_names (node l cs ts) ≡ true → GoodParts l cs ts
unfolding good_names
good-parts l cs ts h =
    let a = both (good_name l) _ h in
    let b = both (good_names cs) (good_names ts) a.1 in
    record { label = a.0; children = b.0; others = b.1 }

follow-good : (p : List ℕ) (t : Trees) → good_names t ≡ true → good_names (follow p t) ≡ true
follow-good = follow-keeps (λ t. good_names t ≡ true) (λ l cs ts h. (good-parts l cs ts h).children) (λ l cs ts h. (good-parts l cs ts h).others)

led : (p : List ℕ) (t : Trees) → valid t ≡ true → good_names t ≡ true → (l : Label) (cs ts : Trees) → follow p t ≡ node l cs ts → Node l
led p t a g l cs ts e = record {
  label = (valid-parts l cs ts (rw e at (follow-valid p t a))).label;
  good = (good-parts l cs ts (rw e at (follow-good p t g))).label;
}

pub found-good : (all : Bool) (v : NestingLevel) (t u : Trees) → valid t ≡ true → valid u ≡ true → good_names t ≡ true → good_names u ≡ true
    → (r : Reason) → first_difference all v t u ≡ Some r → GoodValues r.differs
found-good all v t u a b f g r h = go (follow r.path t) refl (follow r.path u) refl (found_right all v r.path r.differs t u a b h)
  where
    go : (x : Trees) → follow r.path t ≡ x → (y : Trees) → follow r.path u ≡ y → Differ r.differs x y → GoodValues r.differs
    go end i y j d = absurd d
    go (node l cs ts) i end j d = absurd d
    go (node l cs ts) i (node m ds us) j d = difference-good r.differs l cs m ds (led r.path t a f l cs ts i) (led r.path u b g m ds us j) d
