-- How the prints of two kinds begin, and where a node is no match by the first bytes.
use Prim.Native.Nat.{ℕ, ◌<◌}
use mathlib.Core.Path.{◌≡◌, refl, sym, ap, ◌∙◌}
use mathlib.Core.List.{List, [], ◌∷◌, ◌++◌}
use mathlib.Core.Bool.{Bool, true, false, ◌&&◌, ◌||◌, not, cond, false≢true, true≢false}
use native.Mathlib.Omega.{arith}
use lib.ListN.{get_or}
use lib.Dec.{eqb}
use borrow.Author.Tests.{ltb-true, eq-eqb, not-true}
use Rattle.kinds.specs.Byte.{byte, bytes, among, same_bytes, is_digit}
use Rattle.kinds.specs.Expect.{Expected, remaining, mismatch, ◌then◌, expect_byte, expect_bytes, or_else, expect_primitive, expect_node}
use Rattle.kinds.specs.Parse.{integral}
use Rattle.kinds.specs.Primitive.{codes, code, is_object, equivalent}
use Rattle.kinds.specs.Print.{decimal, fields, print_node}
use Rattle.agreement.specs.Sound.{is_none, is_closer, closes}
use Rattle.kinds.specs.Tree.{Label, primitive, bit_field, typed_bit_field, pointer, atomic, array, struct, union, none, kind}
use Rattle.kinds.specs.declared.NestingLevel.{NestingLevel}
use Rattle.kinds.proofs.TableLaws.{both, every_below, pass_below, same_bytes_lem}
use Rattle.agreement.proofs.ByteLaws.{apart, every, passes}
use Rattle.agreement.proofs.FitLaws.{fit_label}
use Rattle.agreement.proofs.RoundTrip.{integrals}

-- How each kind but None opens.
unfoldable pub openings : List (List ℕ)
openings = codes ++ (bytes "b" ∷ bytes "b" ∷ bytes "^" ∷ bytes "A" ∷ bytes "[" ∷ bytes "{" ∷ bytes "(" ∷ [])

unfoldable pub opening : ℕ → List ℕ
opening k = get_or openings k []

-- The kinds whose openings are tried for a node of kind `k`.
unfoldable pub tried : ℕ → List ℕ
tried k = cond (is_object k) (20 ∷ 19 ∷ 21 ∷ []) (k ∷ [])

-- The lists differ at a place that both have.
unfoldable pub differing : List ℕ → List ℕ → Bool
differing [] t = false
differing (x ∷ s) [] = false
differing (x ∷ s) (y ∷ t) = not (eqb y x) || differing s t

differing-mismatch : (s t u : List ℕ) → differing s t ≡ true → expect_bytes s (t ++ u) ≡ mismatch
unfolding differing expect_bytes expect_byte ◌then◌
differing-mismatch [] t u h = absurd (false≢true h)
differing-mismatch (x ∷ s) [] u h = absurd (false≢true h)
differing-mismatch (x ∷ s) (y ∷ t) u h = go (eqb y x) refl h (λ k. differing-mismatch s t u k)
  where
    go : (b : Bool) → eqb y x ≡ b → (not b || differing s t) ≡ true → (differing s t ≡ true → expect_bytes s (t ++ u) ≡ mismatch) → (expect_byte x (y ∷ (t ++ u)) then (λ w. expect_bytes s w)) ≡ mismatch
    go true e k rec = rw (e, expect_byte) (rec k)
    go false e k rec = rw (e, expect_byte)

-- The kinds that open as kind `k` does.
unfoldable pub same_opening : ℕ → List ℕ
same_opening k = cond (among k (24 ∷ 25 ∷ [])) (24 ∷ 25 ∷ []) (tried k)

-- Two kinds open alike, or they do not match and each opening tried differs.
distinct : ℕ → ℕ → Bool
distinct k j = among j (same_opening k) || (not (equivalent k j) && every (λ i. differing (opening i) (opening j)) (tried k))

all-distinct : every_below (λ k. every_below (distinct k) 31) 31 ≡ true
unfolding every_below distinct equivalent same_opening every differing opening openings tried among is_object codes
all-distinct = refl

-- Two kinds but None that do not open alike do not match, and each opening tried differs.
pub unlike : (k j : ℕ) → k < 31 → j < 31 → among j (same_opening k) ≡ false → (equivalent k j ≡ false) × (every (λ i. differing (opening i) (opening j)) (tried k) ≡ true)
unfolding distinct
unlike k j a b s =
    let t = both (not (equivalent k j)) (every (λ i. differing (opening i) (opening j)) (tried k))
    (rw s at (pass_below (distinct k) 31 (pass_below (λ x. every_below (distinct x) 31) 31 all-distinct k a) j b)) in
    (not-true (equivalent k j) t.0, t.1)

pub kind-bound : (l : Label) → fit_label l ≡ true → is_none l ≡ false → kind l < 31
unfolding kind fit_label is_none
kind-bound (primitive p) a o = omega (arith, ltb-true p 24 a)
kind-bound (bit_field n) a o = omega arith
kind-bound (typed_bit_field x n) a o = omega arith
kind-bound pointer a o = omega arith
kind-bound atomic a o = omega arith
kind-bound (array n) a o = omega arith
kind-bound (struct s) a o = omega arith
kind-bound (union s) a o = omega arith
kind-bound none a o = absurd (true≢false o)

-- A print begins with its kind's opening.
code-opens : (p : ℕ) → p < 24 → code p ≡ opening p
unfolding code codes opening openings every_below same_bytes
code-opens p h = same_bytes_lem (code p) (opening p) (pass_below (λ q. same_bytes (code q) (opening q)) 24 refl p h)

print-opens : (l : Label) (v : NestingLevel) (c r : List ℕ) → fit_label l ≡ true → is_none l ≡ false → (u : List ℕ) × (print_node l v c ++ r ≡ opening (kind l) ++ u)
unfolding kind fit_label is_none print_node opening openings codes
print-opens (primitive p) v c r a o = (r, ap (λ x. x ++ r) (code-opens p (ltb-true p 24 a)))
print-opens (bit_field n) v c r a o = (decimal n ++ r, refl)
print-opens (typed_bit_field x n) v c r a o = ((decimal x ++ (c ++ decimal n)) ++ r, refl)
print-opens pointer v c r a o = (c ++ r, refl)
print-opens atomic v c r a o = (c ++ r, refl)
print-opens (array n) v c r a o = ((decimal n ++ (c ++ bytes "]")) ++ r, refl)
print-opens (struct s) v c r a o = ((s ++ (fields v c ++ bytes "}")) ++ r, refl)
print-opens (union s) v c r a o = ((s ++ (fields v c ++ bytes ")")) ++ r, refl)
print-opens none v c r a o = absurd (true≢false o)

pub then-remaining : (w : Expected) → (w then (λ u. remaining u)) ≡ w
unfolding ◌then◌
then-remaining (remaining s) = refl
then-remaining mismatch = refl

one-byte-mismatch : (b : ℕ) (s : List ℕ) → expect_bytes (b ∷ []) s ≡ mismatch → expect_byte b s ≡ mismatch
unfolding expect_bytes
one-byte-mismatch b s h = sym (then-remaining (expect_byte b s)) ∙ h

pub tried-object : (p : ℕ) → is_object p ≡ true → tried p ≡ 20 ∷ 19 ∷ 21 ∷ []
unfolding tried
tried-object p e = rw e

pub tried-one : (p : ℕ) → is_object p ≡ false → tried p ≡ p ∷ []
unfolding tried
tried-one p e = rw e

tried-self : (k : ℕ) → is_object k ≡ false → among k (tried k) ≡ true
unfolding among
tried-self k e = rw (tried-one k e, eq-eqb k k refl)

object-mismatch : (p : ℕ) (s : List ℕ) → is_object p ≡ true → expect_bytes (opening 20) s ≡ mismatch → expect_bytes (opening 19) s ≡ mismatch → expect_bytes (opening 21) s ≡ mismatch
    → expect_primitive p s ≡ mismatch
unfolding expect_primitive opening openings code codes or_else ◌then◌
object-mismatch p s e a b c = rw (e, expect_primitive) (rw (a, b, c))

code-mismatch : (p : ℕ) (s : List ℕ) → is_object p ≡ false → expect_bytes (code p) s ≡ mismatch → expect_primitive p s ≡ mismatch
unfolding expect_primitive
code-mismatch p s e h = rw (e, expect_primitive) h

primitive-mismatch : (p : ℕ) (s : List ℕ) → p < 24 → ((k : ℕ) → among k (tried p) ≡ true → expect_bytes (opening k) s ≡ mismatch) → expect_primitive p s ≡ mismatch
unfolding among
primitive-mismatch p s l h = go (is_object p) refl
  where
    go : (b : Bool) → is_object p ≡ b → expect_primitive p s ≡ mismatch
    go true e = object-mismatch p s e (h 20 (rw (tried-object p e) refl)) (h 19 (rw (tried-object p e) refl)) (h 21 (rw (tried-object p e) refl))
    go false e = code-mismatch p s e (rw (code-opens p l) (h p (tried-self p e)))

-- Where no opening that is tried for it is there, a node does not match.
node-mismatch : (l : Label) (v : NestingLevel) (e : Bool) (inner : List ℕ → Expected) (s : List ℕ) → fit_label l ≡ true → is_none l ≡ false
    → ((k : ℕ) → among k (tried (kind l)) ≡ true → expect_bytes (opening k) s ≡ mismatch) → expect_node l v e inner s ≡ mismatch
unfolding expect_node fit_label is_none kind tried among is_object opening openings codes ◌then◌
node-mismatch (primitive p) v e inner s a o h = primitive-mismatch p s (ltb-true p 24 a) h
node-mismatch (bit_field n) v e inner s a o h = rw (one-byte-mismatch (byte "b") s (h 24 refl))
node-mismatch (typed_bit_field x n) v e inner s a o h = rw (one-byte-mismatch (byte "b") s (h 25 refl))
node-mismatch pointer v e inner s a o h = rw (one-byte-mismatch (byte "^") s (h 26 refl))
node-mismatch atomic v e inner s a o h = rw (one-byte-mismatch (byte "A") s (h 27 refl))
node-mismatch (array n) v e inner s a o h = rw (one-byte-mismatch (byte "[") s (h 28 refl))
node-mismatch (struct m) v e inner s a o h = rw (one-byte-mismatch (byte "{") s (h 29 refl))
node-mismatch (union m) v e inner s a o h = rw (one-byte-mismatch (byte "(") s (h 30 refl))
node-mismatch none v e inner s a o h = absurd (true≢false o)

-- The first byte is there and fails the test.
unfoldable pub head_fails : (ℕ → Bool) → List ℕ → Bool
head_fails test [] = false
head_fails test (x ∷ s) = not (test x)

pub byte-mismatch : (c b : ℕ) (s : List ℕ) → eqb b c ≡ false → expect_byte c (b ∷ s) ≡ mismatch
unfolding expect_byte
byte-mismatch c b s e = rw (e, expect_byte)

pub byte-matches : (c : ℕ) (s : List ℕ) → expect_byte c (c ∷ s) ≡ remaining s
unfolding expect_byte
byte-matches c s = rw (eq-eqb c c refl, expect_byte)

head-mismatch : (test : ℕ → Bool) (s : List ℕ) → head_fails test s ≡ true → (b : ℕ) (t : List ℕ) → test b ≡ true → expect_bytes s (b ∷ t) ≡ mismatch
unfolding head_fails expect_bytes ◌then◌
head-mismatch test [] h b t k = absurd (false≢true h)
head-mismatch test (x ∷ s) h b t k = rw (byte-mismatch x b t (apart test b x k (not-true (test x) h)))

head-mismatch-end : (test : ℕ → Bool) (s : List ℕ) → head_fails test s ≡ true → expect_bytes s [] ≡ mismatch
unfolding head_fails expect_bytes expect_byte ◌then◌
head-mismatch-end test [] h = absurd (false≢true h)
head-mismatch-end test (x ∷ s) h = refl

-- Each opening tried for a kind begins with a byte that fails the test.
unfoldable pub fails : (ℕ → Bool) → ℕ → Bool
fails test k = every (λ i. head_fails test (opening i)) (tried k)

pub node-mismatch-head : (test : ℕ → Bool) (l : Label) (v : NestingLevel) (e : Bool) (inner : List ℕ → Expected) (b : ℕ) (t : List ℕ) → fit_label l ≡ true → is_none l ≡ false
    → fails test (kind l) ≡ true → test b ≡ true → expect_node l v e inner (b ∷ t) ≡ mismatch
unfolding fails
node-mismatch-head test l v e inner b t a o f h = node-mismatch l v e inner (b ∷ t) a o (λ k m. head-mismatch test (opening k) (passes (λ i. head_fails test (opening i)) (tried (kind l)) f k m) b t h)

fails-closer : (k : ℕ) → k < 31 → fails is_closer k ≡ true
unfolding is_closer every_below every tried among is_object opening openings codes head_fails fails
fails-closer k h = pass_below (fails is_closer) 31 refl k h

pub fails-digit : (k : ℕ) → k < 31 → fails is_digit k ≡ true
unfolding is_digit every_below every tried among is_object opening openings codes head_fails fails
fails-digit k h = pass_below (fails is_digit) 31 refl k h

-- All but the integral primitives.
pub fails-integral : (k : ℕ) → k < 31 → among k integrals ≡ false → fails integral k ≡ true
unfolding integral integrals every_below every tried among is_object opening openings codes head_fails fails
fails-integral k h i = rw i at (pass_below (λ j. among j integrals || fails integral j) 31 refl k h)

-- A node but None does not match at a closer or at the end.
pub node-mismatch-closes : (l : Label) (v : NestingLevel) (e : Bool) (inner : List ℕ → Expected) (s : List ℕ) → fit_label l ≡ true → is_none l ≡ false → closes s ≡ true
    → expect_node l v e inner s ≡ mismatch
unfolding closes fails
node-mismatch-closes l v e inner [] a o h = node-mismatch l v e inner [] a o
    (λ k m. head-mismatch-end is_closer (opening k) (passes (λ i. head_fails is_closer (opening i)) (tried (kind l)) (fails-closer (kind l) (kind-bound l a o)) k m))
node-mismatch-closes l v e inner (b ∷ s) a o h = node-mismatch-head is_closer l v e inner b s a o (fails-closer (kind l) (kind-bound l a o)) h

opening-closer : (k : ℕ) → k < 31 → head_fails is_closer (opening k) ≡ true
unfolding is_closer every_below among opening openings codes head_fails
opening-closer k h = pass_below (λ j. head_fails is_closer (opening j)) 31 refl k h

head-closes : (s u : List ℕ) → head_fails is_closer s ≡ true → closes (s ++ u) ≡ false
unfolding head_fails closes
head-closes [] u h = absurd (false≢true h)
head-closes (x ∷ s) u h = not-true (is_closer x) h

-- Its print does not begin with a closer.
pub node_opens : (l : Label) (v : NestingLevel) (c r : List ℕ) → fit_label l ≡ true → is_none l ≡ false → closes (print_node l v c ++ r) ≡ false
node_opens l v c r a o =
    let p = print-opens l v c r a o in
    rw p.1 (head-closes (opening (kind l)) p.0 (opening-closer (kind l) (kind-bound l a o)))

pub unlike-mismatch : (l m : Label) (v : NestingLevel) (e : Bool) (inner : List ℕ → Expected) (c r : List ℕ) → fit_label l ≡ true → is_none l ≡ false → fit_label m ≡ true → is_none m ≡ false
    → among (kind m) (same_opening (kind l)) ≡ false → expect_node l v e inner (print_node m v c ++ r) ≡ mismatch
unlike-mismatch l m v e inner c r a o b q s =
    let p = print-opens m v c r b q in
    rw p.1 (node-mismatch l v e inner (opening (kind m) ++ p.0) a o
    (λ k h. differing-mismatch (opening k) (opening (kind m)) p.0
    (passes (λ i. differing (opening i) (opening (kind m))) (tried (kind l)) (unlike (kind l) (kind m) (kind-bound l a o) (kind-bound m b q) s).1 k h)))
