-- Pointers, atomics, arrays, structs and unions against the print of another.
use Prim.Native.Nat.{ℕ, suc, ◌+◌}
use mathlib.Core.Path.{◌≡◌, refl}
use mathlib.Core.List.{List, [], ◌∷◌, ◌++◌, append_assoc}
use mathlib.Core.Bool.{Bool, true, false, ◌&&◌, ◌||◌, not, cond}
use native.Mathlib.Omega.{arith}
use lib.ListN.{length}
use lib.Dec.{eqb}
use borrow.Author.Tests.{leb-true, eqb-true, not-true}
use Rattle.kinds.specs.Byte.{byte, among, same_bytes, starts_digit}
use Rattle.kinds.specs.Compare.{length_or_offset, bits, compare_labels, compare_children, compare_encodings}
use Rattle.kinds.specs.Container.{end_byte, start_byte}
use Rattle.kinds.specs.Expect.{Expected, remaining, mismatch, ◌then◌, expect_byte, expect_bytes, or_else, expect_number, skip_items, expect_fields, expect_container, expect_node, expect_encoding}
use Rattle.kinds.specs.Level.{shows_fields}
use Rattle.kinds.specs.Name.{verify_name}
use Rattle.kinds.specs.Parse.{max_u64, container}
use Rattle.kinds.specs.Primitive.{equivalent}
use Rattle.kinds.specs.Print.{decimal, fields, print_node, print}
use Rattle.kinds.specs.Sound.{valid_count}
use Rattle.agreement.specs.Sound.{is_none, without_none, is_closer, closes, after_children, clear_node, clear}
use Rattle.kinds.specs.Tree.{Label, Trees, end, node, pointer, atomic, array, inside, kind, name, is_container, is_end}
use Rattle.kinds.specs.declared.ContainerKind.{ContainerKind}
use Rattle.kinds.specs.declared.ContainerKind.TheVariants.{Struct, Union}
use Rattle.kinds.specs.declared.NestingLevel.{NestingLevel}
use Rattle.kinds.specs.declared.NestingLevel.TheVariants.{Top, Within, Bottom}
use Rattle.kinds.proofs.TableLaws.{both}
use Rattle.agreement.proofs.ByteLaws.{apart, lacks}
use Rattle.agreement.proofs.FitLaws.{fit_label, fit, fit_parts}
use Rattle.agreement.proofs.FollowLaws.{may_follow, no_digit, closer-follows, bracket-follows, trees-follow}
use Rattle.agreement.proofs.RoundTrip.{lacks-equals, lacks-closer, body, container-text, array-text, read_back}
use Rattle.agreement.proofs.OpeningLaws.{byte-mismatch, byte-matches, node_opens}
use Rattle.agreement.proofs.AgreeLaws.{Agrees, matched, closed, compare_tree, expect_tree, print_tree, Matches, MatchFirst, MatchFields, missed_by, eqb_swap, number-matches}
use Rattle.agreement.proofs.AgreeLaws.{number-mismatch, match-child}

-- Pointers and atomics.
pub pointer-pair : (cs : Trees) → MatchFirst cs → Matches pointer cs pointer
unfolding expect_tree print_tree print_node expect_node expect_byte ◌then◌ compare_tree compare_labels equivalent kind length_or_offset bits name same_bytes
    is_container compare_children valid_count clear_node after_children
pointer-pair cs first ds v ra rb a b h = match-child cs first ds (inside pointer v) ra rb a.ok_count b.ok_count a.ok_below b.ok_below a.ok_clear b.ok_clear h

pub atomic-pair : (cs : Trees) → MatchFirst cs → Matches atomic cs atomic
unfolding expect_tree print_tree print_node expect_node expect_byte ◌then◌ compare_tree compare_labels equivalent kind length_or_offset bits name same_bytes
    is_container compare_children valid_count clear_node after_children
atomic-pair cs first ds v ra rb a b h = match-child cs first ds (inside atomic v) ra rb a.ok_count b.ok_count a.ok_below b.ok_below a.ok_clear b.ok_clear h

-- Arrays.
pub array-pair : (n k : ℕ) (cs : Trees) → MatchFirst cs → Matches (array n) cs (array k)
unfolding expect_tree print_tree expect_node expect_byte ◌then◌ compare_tree compare_labels equivalent kind length_or_offset bits name same_bytes
    is_container compare_children fit_label valid_count clear_node after_children is_closer among
array-pair n k cs first ds v ra rb a b h = rw (array-text k v (print v ds) rb) (go (eqb n k) refl)
  where
    t : List ℕ
    t = print v ds ++ (byte "]" ∷ rb)

    f : may_follow (byte "]" ∷ rb) ≡ true
    f = bracket-follows rb

    d : starts_digit t ≡ false
    d = no_digit t (trees-follow v ds (byte "]" ∷ rb) b.ok_below f)

    go : (y : Bool) → eqb n k ≡ y → Agrees ra rb ((eqb n k && true) && compare_encodings false v cs ds)
        (expect_number max_u64 n (decimal k ++ t) then (λ u. expect_encoding v cs u then (λ w. expect_byte (byte "]") w)))
    go true e = rw (e, number-matches max_u64 n k t (leb-true n max_u64 a.ok_label) d e)
        (closed (byte "]") refl ra rb (compare_encodings false v cs ds) (expect_encoding v cs t)
        (match-child cs first ds v (byte "]" ∷ ra) (byte "]" ∷ rb) a.ok_count b.ok_count a.ok_below b.ok_below a.ok_clear b.ok_clear f))
    go false e = missed_by ra rb ((eqb n k && true) && compare_encodings false v cs ds) (expect_number max_u64 n (decimal k ++ t) then (λ u. expect_encoding v cs u then (λ w. expect_byte (byte "]") w)))
        (rw e) (rw (number-mismatch max_u64 n k t d e))

-- Containers.
then-then : (w : Expected) (f g : List ℕ → Expected) → (w then (λ t. f t then g)) ≡ ((w then f) then g)
unfolding ◌then◌
then-then (remaining s) f g = refl
then-then mismatch f g = refl

names-match : (c : ℕ) (s t u : List ℕ) → lacks c s ≡ true → lacks c t ≡ true → (expect_bytes s (t ++ (c ∷ u)) then (λ x. expect_byte c x)) ≡ cond (same_bytes s t) (remaining u) mismatch
unfolding lacks expect_bytes ◌then◌ same_bytes
names-match c [] [] u a b = byte-matches c u
names-match c [] (y ∷ t) u a b = byte-mismatch c y (t ++ (c ∷ u)) (not-true (eqb y c) (both (not (eqb y c)) (lacks c t) b).0)
names-match c (x ∷ s) [] u a b = rw (byte-mismatch x c u (eqb_swap x c (not-true (eqb x c) (both (not (eqb x c)) (lacks c s) a).0)))
names-match c (x ∷ s) (y ∷ t) u a b = go (eqb x y) refl (names-match c s t u (both (not (eqb x c)) (lacks c s) a).1 (both (not (eqb y c)) (lacks c t) b).1)
  where
    go : (z : Bool) → eqb x y ≡ z → (expect_bytes s (t ++ (c ∷ u)) then (λ w. expect_byte c w)) ≡ cond (same_bytes s t) (remaining u) mismatch
        → ((expect_byte x (y ∷ (t ++ (c ∷ u))) then (λ w. expect_bytes s w)) then (λ w. expect_byte c w)) ≡ cond (eqb x y && same_bytes s t) (remaining u) mismatch
    go true e ih = rw (e, eqb-true x y e, byte-matches y (t ++ (c ∷ u))) ih
    go false e ih = rw (e, byte-mismatch x y (t ++ (c ∷ u)) (eqb_swap x y e))

compare-containers : (k : ContainerKind) (v : NestingLevel) (s : List ℕ) (cs : Trees) (t : List ℕ) (ds : Trees)
    → compare_tree v (container k s) cs (container k t) ds ≡ (same_bytes s t && cond (shows_fields v) ((is_end cs || is_end ds) || compare_encodings false Within cs ds) true)
unfolding compare_tree compare_labels equivalent kind length_or_offset bits name is_container compare_children
compare-containers Struct v s cs t ds = refl
compare-containers Union v s cs t ds = refl

expect-opened : (k : ContainerKind) (v : NestingLevel) (s : List ℕ) (cs : Trees) (x : List ℕ) → expect_tree v (container k s) cs (start_byte k ∷ x)
    ≡ expect_container k s v (is_end cs) (λ t. expect_encoding Within cs t) x
unfolding expect_tree expect_node expect_byte ◌then◌
expect-opened Struct v s cs x = refl
expect-opened Union v s cs x = refl

closer-mismatch : (c : ℕ) → is_closer c ≡ true → (s : List ℕ) → closes s ≡ false → expect_byte c s ≡ mismatch
unfolding closes expect_byte
closer-mismatch c h [] e = refl
closer-mismatch c h (b ∷ s) e = byte-mismatch c b s (eqb_swap c b (apart is_closer c b h e))

kind-closes : (k : ContainerKind) → is_closer (end_byte k) ≡ true
unfolding is_closer among
kind-closes Struct = refl
kind-closes Union = refl

skip-fields : (k : ContainerKind) (ds : Trees) (r : List ℕ) → fit ds ≡ true → clear Within ds (end_byte k ∷ r) ≡ true → without_none ds ≡ true
    → skip_items k (print Within ds ++ (end_byte k ∷ r)) ≡ remaining r
unfolding skip_items
skip-fields k ds r g c w =
    let t = print Within ds ++ (end_byte k ∷ r) in
    rw ((read_back ds).1 Within k r (suc (length t + length t)) g c w (omega arith), skip_items)

pub trees-open : (v : NestingLevel) (m : Label) (ds us : Trees) (r : List ℕ) → fit (node m ds us) ≡ true → without_none (node m ds us) ≡ true → closes (print v (node m ds us) ++ r) ≡ false
unfolding print without_none
trees-open v m ds us r g w = rw append_assoc (node_opens m v (print (inside m v) ds) (print v us ++ r) (fit_parts m ds us g).0 (not-true (is_none m) (both (not (is_none m)) (without_none us) w).0))

fields-pair : (k : ContainerKind) (cs : Trees) → MatchFields cs → (ds : Trees) (ra rb : List ℕ) → fit cs ≡ true → (without_none cs && clear Within cs (end_byte k ∷ ra)) ≡ true → fit ds ≡ true
    → (without_none ds && clear Within ds (end_byte k ∷ rb)) ≡ true
    → Agrees ra rb ((is_end cs || is_end ds) || compare_encodings false Within cs ds) (expect_fields k (is_end cs) (λ t. expect_encoding Within cs t) (print Within ds ++ (end_byte k ∷ rb)))
unfolding is_end expect_fields print or_else closes
fields-pair k end fields ds ra rb a c b d =
    let d' = both (without_none ds) (clear Within ds (end_byte k ∷ rb)) d in
    matched ra rb (skip_items k (print Within ds ++ (end_byte k ∷ rb))) (skip-fields k ds rb b d'.1 d'.0)
fields-pair k (node l xs ts) fields end ra rb a c b d = rw (byte-matches (end_byte k) rb) refl
fields-pair k (node l xs ts) fields (node m ys us) ra rb a c b d =
    let c' = both (without_none (node l xs ts)) (clear Within (node l xs ts) (end_byte k ∷ ra)) c in
    let d' = both (without_none (node m ys us)) (clear Within (node m ys us) (end_byte k ∷ rb)) d in
    let t = print Within (node m ys us) ++ (end_byte k ∷ rb) in
    rw (closer-mismatch (end_byte k) (kind-closes k) t (trees-open Within m ys us (end_byte k ∷ rb) b d'.0))
    (closed (end_byte k) (kind-closes k) ra rb (compare_encodings false Within (node l xs ts) (node m ys us)) (expect_encoding Within (node l xs ts) t)
    (fields (node m ys us) Within (end_byte k ∷ ra) (end_byte k ∷ rb) a c'.1 c'.0 (kind-closes k) b d'.1 d'.0 (kind-closes k) (closer-follows k rb)))

shown-pair : (k : ContainerKind) (s : List ℕ) (cs : Trees) → MatchFields cs → (t : List ℕ) (ds : Trees) (ra rb : List ℕ) → verify_name s ≡ true → verify_name t ≡ true → fit cs ≡ true
    → (without_none cs && clear Within cs (end_byte k ∷ ra)) ≡ true → fit ds ≡ true → (without_none ds && clear Within ds (end_byte k ∷ rb)) ≡ true
    → Agrees ra rb (same_bytes s t && ((is_end cs || is_end ds) || compare_encodings false Within cs ds))
    (expect_bytes s (t ++ (byte "=" ∷ (print Within ds ++ (end_byte k ∷ rb)))) then (λ x. expect_byte (byte "=") x then (λ u. expect_fields k (is_end cs) (λ w. expect_encoding Within cs w) u)))
unfolding ◌then◌
shown-pair k s cs fields t ds ra rb n m a c b d = rw (
  then-then (expect_bytes s (t ++ (byte "=" ∷ z))) (λ x. expect_byte (byte "=") x) f,
  names-match (byte "=") s t z (lacks-equals s n) (lacks-equals t m),
) (go (same_bytes s t) refl)
  where
    z : List ℕ
    z = print Within ds ++ (end_byte k ∷ rb)

    f : List ℕ → Expected
    f = λ u. expect_fields k (is_end cs) (λ w. expect_encoding Within cs w) u

    go : (y : Bool) → same_bytes s t ≡ y → Agrees ra rb (same_bytes s t && ((is_end cs || is_end ds) || compare_encodings false Within cs ds)) (cond (same_bytes s t) (remaining z) mismatch then f)
    go true e = rw e (fields-pair k cs fields ds ra rb a c b d)
    go false e = rw e tt

hidden-pair : (k : ContainerKind) (s t ra rb : List ℕ) → verify_name s ≡ true → verify_name t ≡ true
    → Agrees ra rb (same_bytes s t && true) (expect_bytes s (t ++ (end_byte k ∷ rb)) then (λ x. expect_byte (end_byte k) x))
hidden-pair k s t ra rb n m = rw (names-match (end_byte k) s t rb (lacks-closer k s n) (lacks-closer k t m)) (go (same_bytes s t))
  where
    go : (y : Bool) → Agrees ra rb (y && true) (cond y (remaining rb) mismatch)
    go true = refl
    go false = tt

named-pair : (k : ContainerKind) (s : List ℕ) (cs : Trees) → MatchFields cs → (t : List ℕ) (ds : Trees) (v : NestingLevel) (ra rb : List ℕ) → verify_name s ≡ true → verify_name t ≡ true → fit cs ≡ true
    → cond (shows_fields v) (without_none cs && clear Within cs (end_byte k ∷ ra)) true ≡ true → fit ds ≡ true → cond (shows_fields v) (without_none ds && clear Within ds (end_byte k ∷ rb)) true ≡ true
    → Agrees ra rb (compare_tree v (container k s) cs (container k t) ds) (expect_tree v (container k s) cs (print_node (container k t) v (print Within ds) ++ rb))
unfolding body expect_container
named-pair k s cs fields t ds Top ra rb n m a c b d = rw
    (container-text k Top t (print Within ds) rb, compare-containers k Top s cs t ds, expect-opened k Top s cs (t ++ (byte "=" ∷ (print Within ds ++ (end_byte k ∷ rb)))))
    (shown-pair k s cs fields t ds ra rb n m a c b d)
named-pair k s cs fields t ds Within ra rb n m a c b d = rw
    (container-text k Within t (print Within ds) rb, compare-containers k Within s cs t ds, expect-opened k Within s cs (t ++ (byte "=" ∷ (print Within ds ++ (end_byte k ∷ rb)))))
    (shown-pair k s cs fields t ds ra rb n m a c b d)
named-pair k s cs fields t ds Bottom ra rb n m a c b d = rw (
  container-text k Bottom t (print Within ds) rb,
  compare-containers k Bottom s cs t ds,
  expect-opened k Bottom s cs
      (t ++ (end_byte k ∷ rb)),
) (hidden-pair k s t ra rb n m)

pub container-pair : (k : ContainerKind) (s : List ℕ) (cs : Trees) → MatchFields cs → (t : List ℕ) → Matches (container k s) cs (container k t)
unfolding print_tree fit_label clear_node after_children
container-pair Struct s cs fields t ds v ra rb a b h = named-pair Struct s cs fields t ds v ra rb a.ok_label b.ok_label a.ok_below a.ok_clear b.ok_below b.ok_clear
container-pair Union s cs fields t ds v ra rb a b h = named-pair Union s cs fields t ds v ra rb a.ok_label b.ok_label a.ok_below a.ok_clear b.ok_below b.ok_clear
