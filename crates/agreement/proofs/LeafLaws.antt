-- Bitfields and primitives against the print of another.
use Prim.Native.Nat.{ℕ, ◌≤◌, ◌<◌}
use mathlib.Core.Path.{◌≡◌, refl, sym, subst}
use mathlib.Core.List.{List, [], ◌∷◌, ◌++◌}
use mathlib.Core.Bool.{Bool, true, false, ◌&&◌, ◌||◌, not, and-false, and-true, or-true}
use native.Mathlib.Omega.{arith}
use lib.Dec.{leb, ltb, eqb}
use borrow.Author.Tests.{ltb-true, leb-true, eqb-true, eq-eqb, ne_eqb, not-true}
use Rattle.kinds.specs.Byte.{byte, bytes, among, same_bytes, is_digit, starts_digit}
use Rattle.kinds.specs.Compare.{length_or_offset, bits, compare_labels, compare_children, compare_encodings}
use Rattle.kinds.specs.Expect.{Expected, remaining, mismatch, ◌then◌, expect_byte, expect_bytes, or_else, expect_number, class_name, expect_primitive, expect_node, expect_encoding}
use Rattle.kinds.specs.Parse.{max_u64, max_u8, integral}
use Rattle.kinds.specs.Primitive.{codes, code, is_object, equivalent}
use Rattle.kinds.specs.Print.{decimal, print_node, print}
use Rattle.kinds.specs.Sound.{valid_count}
use Rattle.agreement.specs.Sound.{is_integral, is_none, is_closer, closes, unknown_next, after_children, clear_node, clear}
use Rattle.kinds.specs.Tree.{Trees, end, node, primitive, bit_field, typed_bit_field, kind, name, is_container}
use Rattle.kinds.specs.declared.NestingLevel.{NestingLevel}
use Rattle.kinds.specs.declared.NestingLevel.TheVariants.{Top}
use Rattle.kinds.proofs.TableLaws.{both, each}
use Rattle.agreement.proofs.ByteLaws.{every, passes, ◌also◌}
use Rattle.agreement.proofs.DigitLaws.{decimal-start}
use Rattle.agreement.proofs.FitLaws.{fit_label}
use Rattle.agreement.proofs.FollowLaws.{may_follow, no_digit, starts_typed, no-typed, starts_quote, no-quote}
use Rattle.agreement.proofs.RoundTrip.{integrals, code-no-digit, is_end-end, integral-child, typed-text, typed-child}
use Rattle.agreement.proofs.OpeningLaws.{tried, same_opening, unlike, tried-object, tried-one, byte-mismatch, byte-matches, node-mismatch-closes, unlike-mismatch}
use Rattle.agreement.proofs.AgreeLaws.{stuck, Agrees, missed, compare_tree, expect_tree, print_tree, Matches, kind-below, matched-by, missed_by, Alike, eqb_swap}
use Rattle.agreement.proofs.AgreeLaws.{number-matches, number-mismatch, no-number-mismatch, expect-one}

-- Bitfields.
pub bits-bits : (n k : ℕ) (cs : Trees) → Matches (bit_field n) cs (bit_field k)
unfolding expect_tree print_tree print_node expect_node expect_byte ◌then◌ compare_tree compare_labels equivalent kind length_or_offset bits name same_bytes
    is_container compare_children compare_encodings fit_label valid_count
bits-bits n k cs ds v ra rb a b h = rw (is_end-end cs a.ok_count, is_end-end ds b.ok_count) (go (eqb n k) refl)
  where
    d : starts_digit rb ≡ false
    d = no_digit rb h

    go : (y : Bool) → eqb n k ≡ y → Agrees ra rb ((eqb n k && true) && true) (expect_number max_u8 n (decimal k ++ rb))
    go true e = matched-by ra rb ((eqb n k && true) && true) (expect_number max_u8 n (decimal k ++ rb)) (rw e) (number-matches max_u8 n k rb (leb-true n max_u8 a.ok_label) d e)
    go false e = missed_by ra rb ((eqb n k && true) && true) (expect_number max_u8 n (decimal k ++ rb)) (rw e) (number-mismatch max_u8 n k rb d e)

typed-stuck : (ra x : List ℕ) (p : ℕ) → among p integrals ≡ true → starts_digit x ≡ true → stuck ra (code p ++ x) ≡ true
unfolding integrals stuck is_closer is_digit integral among code codes
typed-stuck ra x p a h = each (λ q. stuck ra (code q ++ x) ≡ true) integrals (y, (y, (y, (y, (y, (y, (y, (y, (y, (y, (y, tt))))))))))) p a
  where
    y : (closes ra || starts_digit x) ≡ true
    y = rw h (or-true (closes ra))

pub bits-typed : (n o k : ℕ) (cs : Trees) → Matches (bit_field n) cs (typed_bit_field o k)
unfolding expect_tree print_tree expect_node expect_byte ◌then◌ compare_tree compare_labels equivalent kind among is_object fit_label valid_count clear_node
bits-typed n o k cs ds v ra rb a b h =
    let i = integral-child ds b.ok_count b.ok_below (both (is_integral ds) (clear v ds (after_children (typed_bit_field o k) rb)) b.ok_clear).0 in
    rw (typed-text o k v (print v ds) rb, i.1, typed-child v i.0 (decimal k ++ rb)) (go i.0 i.2 (eqb n o) refl)
  where
    go : (p : ℕ) → among p integrals ≡ true → (y : Bool) → eqb n o ≡ y → Agrees ra rb false (expect_number max_u8 n (decimal o ++ (code p ++ (decimal k ++ rb))))
    go p i true e = rw (number-matches max_u8 n o (code p ++ (decimal k ++ rb)) (leb-true n max_u8 a.ok_label) (code-no-digit (decimal k ++ rb) p i) e)
        (typed-stuck ra (decimal k ++ rb) p i (decimal-start k rb))
    go p i false e = missed ra rb (expect_number max_u8 n (decimal o ++ (code p ++ (decimal k ++ rb)))) (number-mismatch max_u8 n o (code p ++ (decimal k ++ rb)) (code-no-digit (decimal k ++ rb) p i) e)

code-then : (n x b : ℕ) (t : List ℕ) → integral x ≡ true → (integral b && starts_digit t) ≡ false → (expect_bytes (x ∷ []) (b ∷ t) then (λ w. expect_number max_u8 n w)) ≡ mismatch
unfolding expect_bytes ◌then◌
code-then n x b t i h = go (eqb b x) refl
  where
    go : (y : Bool) → eqb b x ≡ y → ((expect_byte x (b ∷ t) then (λ u. remaining u)) then (λ w. expect_number max_u8 n w)) ≡ mismatch
    go true e =
        let d : starts_digit t ≡ false = rw (eqb-true b x e, i) at h in
        rw (eqb-true b x e, byte-matches x t) (no-number-mismatch max_u8 n t d)
    go false e = rw (byte-mismatch x b t e)

integral-bound : (p : ℕ) → among p integrals ≡ true → ltb p 24 ≡ true
unfolding integrals every
integral-bound p a = passes (λ x. ltb x 24) integrals refl p a

code-nothing : (p : ℕ) → ltb p 24 ≡ true → expect_primitive p [] ≡ mismatch
unfolding expect_node fit_label is_none closes
code-nothing p a = node-mismatch-closes (primitive p) Top true (λ t. remaining t) [] a refl refl

typed-inner : (n p : ℕ) (s : List ℕ) → among p integrals ≡ true → starts_typed s ≡ false → (expect_primitive p s then (λ w. expect_number max_u8 n w)) ≡ mismatch
unfolding integrals starts_typed expect_primitive among is_object code codes integral ◌then◌
typed-inner n p [] a h = rw (code-nothing p (integral-bound p a))
typed-inner n p (b ∷ t) a h = each (λ q. (expect_primitive q (b ∷ t) then (λ w. expect_number max_u8 n w)) ≡ mismatch) integrals
    (z (byte "c") refl also z (byte "s") refl also z (byte "i") refl also z (byte "l") refl also z (byte "q") refl
    also z (byte "C") refl also z (byte "S") refl also z (byte "I") refl also z (byte "L") refl also z (byte "Q") refl also z (byte "B") refl also tt)
    p
    a
  where
    z : (x : ℕ) → integral x ≡ true → (expect_bytes (x ∷ []) (b ∷ t) then (λ w. expect_number max_u8 n w)) ≡ mismatch
    z x i = code-then n x b t i h

expect-code : (v : NestingLevel) (p : ℕ) (s : List ℕ) → expect_encoding v (node (primitive p) end end) s ≡ expect_primitive p s
unfolding expect_tree expect_node
expect-code v p s = expect-one v (primitive p) end s

pub typed-bits : (o n k : ℕ) (cs : Trees) → Matches (typed_bit_field o n) cs (bit_field k)
unfolding expect_tree print_tree print_node expect_node expect_byte ◌then◌ compare_tree compare_labels equivalent kind among is_object fit_label valid_count clear_node
typed-bits o n k cs ds v ra rb a b h =
    let i = integral-child cs a.ok_count a.ok_below (both (is_integral cs) (clear v cs (after_children (typed_bit_field o n) ra)) a.ok_clear).0 in
    missed ra rb (expect_tree v (typed_bit_field o n) cs (print_tree v (bit_field k) ds ++ rb)) (rw i.1 (go i.0 i.2 (eqb o k) refl))
  where
    w : ℕ → Expected
    w p = expect_number max_u64 o (decimal k ++ rb) then (λ u. expect_encoding v (node (primitive p) end end) u then (λ t. expect_number max_u8 n t))

    go : (p : ℕ) → among p integrals ≡ true → (y : Bool) → eqb o k ≡ y → w p ≡ mismatch
    go p i true e = rw (number-matches max_u64 o k rb (leb-true o max_u64 (both (leb o max_u64) (leb n max_u8) a.ok_label).0) (no_digit rb h) e, expect-code v p rb)
        (typed-inner n p rb i (no-typed rb h))
    go p i false e = rw (number-mismatch max_u64 o k rb (no_digit rb h) e)

bytes-self : (s x : List ℕ) → expect_bytes s (s ++ x) ≡ remaining x
unfolding expect_bytes ◌then◌
bytes-self [] x = refl
bytes-self (b ∷ s) x = rw (byte-matches b (s ++ x)) (bytes-self s x)

code-self : (p : ℕ) (x : List ℕ) → is_object p ≡ false → expect_primitive p (code p ++ x) ≡ remaining x
unfolding expect_primitive
code-self p x e = rw (e, expect_primitive) (bytes-self (code p) x)

integral-opening : (p : ℕ) → among p integrals ≡ true → same_opening p ≡ p ∷ []
unfolding integrals same_opening tried among is_object
integral-opening p a = each (λ q. same_opening q ≡ q ∷ []) integrals (refl, (refl, (refl, (refl, (refl, (refl, (refl, (refl, (refl, (refl, (refl, tt))))))))))) p a

integral-not-object : (p : ℕ) → among p integrals ≡ true → is_object p ≡ false
unfolding integrals every among is_object
integral-not-object p a = not-true (is_object p) (passes (λ x. not (is_object x)) integrals refl p a)

other-integral : (p q : ℕ) → among p integrals ≡ true → eqb p q ≡ false → among q (same_opening p) ≡ false
unfolding among
other-integral p q a e = rw (integral-opening p a, eqb_swap p q e)

other-code : (p q : ℕ) (x : List ℕ) → among p integrals ≡ true → among q integrals ≡ true → eqb p q ≡ false → expect_primitive p (code q ++ x) ≡ mismatch
unfolding expect_node print_node kind fit_label is_none
other-code p q x a b e = unlike-mismatch (primitive p) (primitive q) Top true (λ t. remaining t) [] x (integral-bound p a) refl (integral-bound q b) refl (other-integral p q a e)

compare-codes : (v : NestingLevel) (p q : ℕ) → compare_encodings false v (node (primitive p) end end) (node (primitive q) end end) ≡ equivalent p q
unfolding compare_encodings compare_labels kind length_or_offset bits name same_bytes is_container compare_children
compare-codes v p q = rw (and-true (equivalent p q), and-true (equivalent p q))

equivalent-self : (p q : ℕ) → eqb p q ≡ true → equivalent p q ≡ true
unfolding equivalent
equivalent-self p q e = rw e

typed-labels : (o n k j : ℕ) → compare_labels (typed_bit_field o n) (typed_bit_field k j) ≡ (eqb o k && eqb n j)
unfolding compare_labels equivalent kind length_or_offset bits name same_bytes
typed-labels o n k j = rw (and-true (eqb n j))

code-matches : (p q : ℕ) (x : List ℕ) → among p integrals ≡ true → eqb p q ≡ true → expect_primitive p (code q ++ x) ≡ remaining x
code-matches p q x a e = subst (λ y. expect_primitive p (code y ++ x) ≡ remaining x) (eqb-true p q e) (code-self p x (integral-not-object p a))

typed-codes : (o n k j p q : ℕ) (v : NestingLevel) (ra rb : List ℕ) → o ≤ max_u64 → n ≤ max_u8 → among p integrals ≡ true → among q integrals ≡ true → may_follow rb ≡ true
    → Agrees ra rb ((eqb o k && eqb n j) && equivalent p q)
    (expect_number max_u64 o (decimal k ++ (code q ++ (decimal j ++ rb))) then (λ u. expect_encoding v (node (primitive p) end end) u then (λ w. expect_number max_u8 n w)))
unfolding ◌then◌
typed-codes o n k j p q v ra rb lo ln a b h = first (eqb o k) refl
  where
    x : List ℕ
    x = decimal j ++ rb

    d : starts_digit (code q ++ x) ≡ false
    d = code-no-digit x q b

    bound : (y : ℕ) → among y integrals ≡ true → y < 31
    bound y i = omega (arith, ltb-true y 24 (integral-bound y i))

    third : (y : Bool) → eqb n j ≡ y → Agrees ra rb (eqb n j && true) (expect_number max_u8 n (decimal j ++ rb))
    third true e = matched-by ra rb (eqb n j && true) (expect_number max_u8 n (decimal j ++ rb)) (rw e) (number-matches max_u8 n j rb ln (no_digit rb h) e)
    third false e = missed_by ra rb (eqb n j && true) (expect_number max_u8 n (decimal j ++ rb)) (rw e) (number-mismatch max_u8 n j rb (no_digit rb h) e)

    second : (y : Bool) → eqb p q ≡ y → Agrees ra rb (eqb n j && equivalent p q) (expect_primitive p (code q ++ x) then (λ w. expect_number max_u8 n w))
    second true e = rw (equivalent-self p q e, code-matches p q x a e) (third (eqb n j) refl)
    second false e = missed_by ra rb (eqb n j && equivalent p q) (expect_primitive p (code q ++ x) then (λ w. expect_number max_u8 n w))
        (rw (unlike p q (bound p a) (bound q b) (other-integral p q a e)).0 (and-false (eqb n j))) (rw (other-code p q x a b e))

    first : (y : Bool) → eqb o k ≡ y → Agrees ra rb ((eqb o k && eqb n j) && equivalent p q)
        (expect_number max_u64 o (decimal k ++ (code q ++ x)) then (λ u. expect_encoding v (node (primitive p) end end) u then (λ w. expect_number max_u8 n w)))
    first true e = rw (e, number-matches max_u64 o k (code q ++ x) lo d e, expect-code v p (code q ++ x)) (second (eqb p q) refl)
    first false e = missed_by ra rb ((eqb o k && eqb n j) && equivalent p q)
        (expect_number max_u64 o (decimal k ++ (code q ++ x)) then (λ u. expect_encoding v (node (primitive p) end end) u then (λ w. expect_number max_u8 n w))) (rw e)
        (rw (number-mismatch max_u64 o k (code q ++ x) d e))

pub typed-typed : (o n k j : ℕ) (cs : Trees) → Matches (typed_bit_field o n) cs (typed_bit_field k j)
unfolding expect_tree print_tree expect_node expect_byte ◌then◌ compare_tree is_container compare_children fit_label valid_count clear_node
typed-typed o n k j cs ds v ra rb a b h =
    let i = integral-child cs a.ok_count a.ok_below (both (is_integral cs) (clear v cs (after_children (typed_bit_field o n) ra)) a.ok_clear).0 in
    let i' = integral-child ds b.ok_count b.ok_below (both (is_integral ds) (clear v ds (after_children (typed_bit_field k j) rb)) b.ok_clear).0 in
    let a' = both (leb o max_u64) (leb n max_u8) a.ok_label in
    rw (typed-text k j v (print v ds) rb, i'.1, typed-child v i'.0 (decimal j ++ rb), i.1, compare-codes v i.0 i'.0, typed-labels o n k j)
    (typed-codes o n k j i.0 i'.0 v ra rb (leb-true o max_u64 a'.0) (leb-true n max_u8 a'.1) i.2 i'.2 h)

-- Primitives.
not-block : (r : List ℕ) → unknown_next r ≡ false → expect_bytes (bytes "@?") (byte "@" ∷ r) ≡ mismatch
unfolding unknown_next expect_bytes expect_byte ◌then◌
not-block [] h = refl
not-block (b ∷ r) h = rw (byte-mismatch (byte "?") b r h)

after-quote : (r : List ℕ) → starts_quote r ≡ false → class_name r ≡ remaining r
unfolding starts_quote class_name
after-quote [] h = refl
after-quote (b ∷ r) h = rw (h, class_name)

object-text : (r : List ℕ) (q : ℕ) → among q (20 ∷ 19 ∷ 21 ∷ []) ≡ true → not (eqb q 19 && unknown_next r) ≡ true
    → or_else (expect_bytes (code 20) (code q ++ r)) (or_else (expect_bytes (code 19) (code q ++ r)) (expect_bytes (code 21) (code q ++ r))) ≡ remaining r
unfolding code codes expect_bytes expect_byte ◌then◌ or_else
object-text r q a = each (λ x. not (eqb x 19 && unknown_next r) ≡ true
    → or_else (expect_bytes (code 20) (code x ++ r)) (or_else (expect_bytes (code 19) (code x ++ r)) (expect_bytes (code 21) (code x ++ r))) ≡ remaining r) (20 ∷ 19 ∷ 21 ∷ [])
    ((λ h. refl), ((λ h. rw (not-block r (not-true (unknown_next r) h))), ((λ h. refl), tt))) q a

expect-object : (p q : ℕ) (r : List ℕ) → is_object p ≡ true → among q (20 ∷ 19 ∷ 21 ∷ []) ≡ true → not (eqb q 19 && unknown_next r) ≡ true → starts_quote r ≡ false
    → expect_primitive p (code q ++ r) ≡ remaining r
unfolding expect_primitive ◌then◌
expect-object p q r a b u h = rw (a, expect_primitive) (rw (object-text r q b u) (go (eqb p 19)))
  where
    go : (y : Bool) → (elim y as (λ x. Expected) [ true ↦ class_name r | false ↦ remaining r ]) ≡ remaining r
    go true = after-quote r h
    go false = refl

primitive-opening : (p : ℕ) → p < 24 → same_opening p ≡ tried p
unfolding same_opening among
primitive-opening p l = rw (ne_eqb p 24 (λ q. omega arith), ne_eqb p 25 (λ q. omega arith))

tried-is-object : (p : ℕ) → among p (20 ∷ 19 ∷ 21 ∷ []) ≡ true → is_object p ≡ true
unfolding among is_object
tried-is-object p h = each (λ x. is_object x ≡ true) (20 ∷ 19 ∷ 21 ∷ []) (refl, (refl, (refl, tt))) p h

equivalent-objects : (p q : ℕ) → is_object p ≡ true → is_object q ≡ true → equivalent p q ≡ true
unfolding equivalent
equivalent-objects p q a b = rw (a, b) (or-true (eqb p q))

-- Two codes of which one is tried for the other.
like-codes : (p q : ℕ) (r : List ℕ) → among q (tried p) ≡ true → not (eqb q 19 && unknown_next r) ≡ true → starts_quote r ≡ false
    → (equivalent p q ≡ true) × (expect_primitive p (code q ++ r) ≡ remaining r)
unfolding among
like-codes p q r t u h = go (is_object p) refl
  where
    go : (y : Bool) → is_object p ≡ y → (equivalent p q ≡ true) × (expect_primitive p (code q ++ r) ≡ remaining r)
    go true e =
        let g : among q (20 ∷ 19 ∷ 21 ∷ []) ≡ true = rw (tried-object p e) at t in
        (equivalent-objects p q e (tried-is-object q g), expect-object p q r e g u h)
    go false e = each (λ x. (equivalent p x ≡ true) × (expect_primitive p (code x ++ r) ≡ remaining r)) (p ∷ []) ((equivalent-self p p (eq-eqb p p refl), code-self p r e), tt) q
        (rw (tried-one p e) at t)

code-bound : (p q : ℕ) → p < 24 → among q (tried p) ≡ true → q < 24
unfolding every
code-bound p q l t = go (is_object p) refl
  where
    go : (y : Bool) → is_object p ≡ y → q < 24
    go true e = ltb-true q 24 (passes (λ x. ltb x 24) (20 ∷ 19 ∷ 21 ∷ []) refl q (rw (tried-object p e) at t))
    go false e = each (λ x. x < 24) (p ∷ []) (l, tt) q (rw (tried-one p e) at t)

primitive-pair : (p q : ℕ) (cs : Trees) → among q (tried p) ≡ true → Matches (primitive p) cs (primitive q)
unfolding expect_tree print_tree print_node expect_node compare_tree compare_labels kind length_or_offset bits name same_bytes is_container compare_children compare_encodings valid_count clear_node
primitive-pair p q cs t ds v ra rb a b h =
    let c = like-codes p q rb t (both (not (eqb q 19 && unknown_next rb)) (clear v ds (after_children (primitive q) rb)) b.ok_clear).0 (no-quote rb h) in
    rw (is_end-end cs a.ok_count, is_end-end ds b.ok_count, c.0, c.1) refl

pub match-primitive : (p : ℕ) (cs : Trees) → Alike (primitive p) cs
unfolding kind fit_label
match-primitive p cs a m b e =
    let l = ltb-true p 24 a in
    let t : among (kind m) (tried p) ≡ true = rw (primitive-opening p l) at e in
    subst (Matches (primitive p) cs) (sym (kind-below m (code-bound p (kind m) l t))) (primitive-pair p (kind m) cs t)
