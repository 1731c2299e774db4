-- When what is expected agrees with what is compared; a tree against None, and the numbers in a print.
use Prim.Native.Nat.{ℕ, ◌-◌, ◌≤◌, ◌<◌}
use mathlib.Core.Path.{◌≡◌, refl, sym, ap, subst, ◌∙◌}
use mathlib.Core.List.{List, [], ◌∷◌, ◌++◌, append_assoc}
use mathlib.Core.Bool.{Bool, true, false, ◌&&◌, ◌||◌, not, false≢true, true≢false, and-false, and-true, or-true}
use mathlib.Core.Logic.{◌⊎◌, inl, inr}
use native.Mathlib.Omega.{arith}
use lib.ListN.{get_or}
use lib.Dec.{leb, eqb}
use borrow.Author.Tests.{ltb-true, leb-true, leb-false, eqb-true, eqb-false, eq-eqb, ne_eqb, not-true}
use Rattle.kinds.specs.Byte.{byte, bytes, among, same_bytes, is_digit, starts_digit}
use Rattle.kinds.specs.Compare.{length_or_offset, bits, compare_labels, compare_children, compare_encodings}
use Rattle.kinds.specs.Expect.{Expected, remaining, mismatch, ◌then◌, expect_byte, expect_bytes, expect_number, expect_primitive, expect_node, expect_encoding}
use Rattle.kinds.specs.Parse.{parse_number, integral}
use Rattle.kinds.specs.Primitive.{codes, code, is_object, equivalent}
use Rattle.kinds.specs.Print.{decimal, print_node, print}
use Rattle.kinds.specs.Sound.{valid_count}
use Rattle.agreement.specs.Sound.{is_none, without_none, is_closer, closes, after_children, clear_node, clear}
use Rattle.kinds.specs.Tree.{Label, Trees, end, node, primitive, bit_field, typed_bit_field, pointer, atomic, array, struct, union, none, inside, shows, kind, name, is_container, is_end, is_one}
use Rattle.kinds.specs.declared.NestingLevel.{NestingLevel}
use Rattle.kinds.proofs.TableLaws.{both, Each, each}
use Rattle.agreement.proofs.ByteLaws.{apart, every, passes, ◌also◌}
use Rattle.kinds.proofs.ParseLaws.{number-none, within-limit, beyond-limit}
use Rattle.agreement.proofs.DigitLaws.{read-decimal}
use Rattle.agreement.proofs.FitLaws.{fit_label, fit, fit_parts}
use Rattle.agreement.proofs.FollowLaws.{may_follow}
use Rattle.agreement.proofs.RoundTrip.{integrals, is_end-end, is_none-none, integral-label, ClearTree, clear-parts, print-one}
use Rattle.agreement.proofs.OpeningLaws.{same_opening, unlike, kind-bound, then-remaining, byte-mismatch, byte-matches, node-mismatch-head, fails-digit, fails-integral}
use Rattle.agreement.proofs.OpeningLaws.{node-mismatch-closes, node_opens, unlike-mismatch}

-- No print that goes on with `rest` matches here: no closer is next, and either `rest` begins with a closer or is empty, or a digit is next, or a bitfield's type and size are.
unfoldable pub stuck : List ℕ → List ℕ → Bool
stuck rest [] = false
stuck rest (b ∷ t) = not (is_closer b) && (closes rest || (is_digit b || (integral b && starts_digit t)))

-- What is left of the print of the second tree, before `rb`, after the first, before `ra`, was expected in it: `rb` if the trees match, and else a text that the first tree's followers do not match.
abbrev pub Agrees : List ℕ → List ℕ → Bool → Expected → Type 0
Agrees ra rb true (remaining s) = s ≡ rb
Agrees ra rb true mismatch = ⊥
Agrees ra rb false (remaining s) = stuck ra s ≡ true
Agrees ra rb false mismatch = Unit {0}

pub matched : (ra rb : List ℕ) (w : Expected) → w ≡ remaining rb → Agrees ra rb true w
matched ra rb w e = rw e refl

pub missed : (ra rb : List ℕ) (w : Expected) → w ≡ mismatch → Agrees ra rb false w
missed ra rb w e = rw e tt

-- With a closer after it.
pub closed : (c : ℕ) → is_closer c ≡ true → (ra rb : List ℕ) (t : Bool) (w : Expected) → Agrees (c ∷ ra) (c ∷ rb) t w → Agrees ra rb t (w then (λ s. expect_byte c s))
unfolding ◌then◌ stuck
closed c h ra rb true (remaining s) a = rw a (matched ra rb (expect_byte c (c ∷ rb)) (byte-matches c rb))
closed c h ra rb true mismatch a = absurd a
closed c h ra rb false (remaining []) a = absurd (false≢true a)
closed c h ra rb false (remaining (b ∷ s)) a = missed ra rb (expect_byte c (b ∷ s))
    (byte-mismatch c b s (apart (λ x. not (is_closer x)) b c (both (not (is_closer b)) (closes (c ∷ ra) || (is_digit b || (integral b && starts_digit s))) a).0 (ap not h)))
closed c h ra rb false mismatch a = tt

one_code : (x b : ℕ) (t : List ℕ) → (expect_bytes (x ∷ []) (b ∷ t) ≡ mismatch) ⊎ (expect_bytes (x ∷ []) (b ∷ t) ≡ remaining t)
unfolding expect_bytes expect_byte ◌then◌
one_code x b t = go (eqb b x) refl
  where
    go : (y : Bool) → eqb b x ≡ y → ((expect_byte x (b ∷ t) then (λ u. remaining u)) ≡ mismatch) ⊎ ((expect_byte x (b ∷ t) then (λ u. remaining u)) ≡ remaining t)
    go true e = inr (rw (e, expect_byte))
    go false e = inl (rw (e, expect_byte))

integral-code : (p b : ℕ) (t : List ℕ) → among p integrals ≡ true → (expect_primitive p (b ∷ t) ≡ mismatch) ⊎ (expect_primitive p (b ∷ t) ≡ remaining t)
unfolding expect_primitive integrals among is_object code codes
integral-code p b t h = each (λ q. (expect_primitive q (b ∷ t) ≡ mismatch) ⊎ (expect_primitive q (b ∷ t) ≡ remaining t)) integrals
    (o (byte "c") also o (byte "s") also o (byte "i") also o (byte "l") also o (byte "q")
    also o (byte "C") also o (byte "S") also o (byte "I") also o (byte "L") also o (byte "Q") also o (byte "B") also tt)
    p
    h
  where
    o : (x : ℕ) → (expect_bytes (x ∷ []) (b ∷ t) ≡ mismatch) ⊎ (expect_bytes (x ∷ []) (b ∷ t) ≡ remaining t)
    o x = one_code x b t

-- At the code of an integral primitive a node does not match, or takes the code alone.
over-integral : (l : Label) (v : NestingLevel) (e : Bool) (inner : List ℕ → Expected) (b : ℕ) (t : List ℕ) → fit_label l ≡ true → is_none l ≡ false → integral b ≡ true
    → (expect_node l v e inner (b ∷ t) ≡ mismatch) ⊎ (expect_node l v e inner (b ∷ t) ≡ remaining t)
unfolding expect_node
over-integral l v e inner b t a o h = go (among (kind l) integrals) refl
  where
    go : (y : Bool) → among (kind l) integrals ≡ y → (expect_node l v e inner (b ∷ t) ≡ mismatch) ⊎ (expect_node l v e inner (b ∷ t) ≡ remaining t)
    go true i = let j = integral-label l i in subst (λ x. (expect_node x v e inner (b ∷ t) ≡ mismatch) ⊎ (expect_node x v e inner (b ∷ t) ≡ remaining t)) (sym j.1) (integral-code j.0 b t j.2)
    go false i = inl (node-mismatch-head integral l v e inner b t a o (fails-integral (kind l) (kind-bound l a o) i) h)

-- Trees do not match where none can.
no-closer : (test : ℕ → Bool) → every (λ c. not (test c)) (bytes "]})") ≡ true → (b : ℕ) → test b ≡ true → is_closer b ≡ false
unfolding is_closer
no-closer test a b h = go (is_closer b) refl
  where
    go : (y : Bool) → is_closer b ≡ y → y ≡ false
    go true e = absurd (false≢true (sym (not-true (test b) (passes (λ c. not (test c)) (bytes "]})") a b e)) ∙ h))
    go false e = refl

digit-stuck : (r t : List ℕ) → starts_digit t ≡ true → stuck r t ≡ true
unfolding starts_digit stuck every is_digit
digit-stuck r [] h = absurd (false≢true h)
digit-stuck r (b ∷ t) h = rw (no-closer is_digit refl b h, h) (or-true (closes r))

pub stuck-on : (v : NestingLevel) (ts : Trees) (ra rb s : List ℕ) → fit ts ≡ true → without_none ts ≡ true → stuck (print v ts ++ ra) s ≡ true → Agrees ra rb false (expect_encoding v ts s)
unfolding expect_encoding print without_none stuck ◌then◌
stuck-on v end ra rb s g w h = h
stuck-on v (node l cs ts) ra rb [] g w h = absurd (false≢true h)
stuck-on v (node l cs ts) ra rb (b ∷ t) g w h = go (is_digit b) refl (λ k. stuck-on v ts ra rb t g'.3 w'.1 (digit-stuck (print v ts ++ ra) t k))
  where
    g' : (fit_label l ≡ true) × (valid_count l cs ≡ true) × (fit cs ≡ true) × (fit ts ≡ true)
    g' = fit_parts l cs ts g

    w' : (not (is_none l) ≡ true) × (without_none ts ≡ true)
    w' = both (not (is_none l)) (without_none ts) w

    o : is_none l ≡ false
    o = not-true (is_none l) w'.0

    c : closes ((print_node l v (print (inside l v) cs) ++ print v ts) ++ ra) ≡ false
    c = rw append_assoc (node_opens l v (print (inside l v) cs) (print v ts ++ ra) g'.0 o)

    h' : (is_digit b || (integral b && starts_digit t)) ≡ true
    h' = rw c at (both (not (is_closer b)) (closes ((print_node l v (print (inside l v) cs) ++ print v ts) ++ ra) || (is_digit b || (integral b && starts_digit t))) h).1

    inner : List ℕ → Expected
    inner = λ u. expect_encoding (inside l v) cs u

    go : (y : Bool) → is_digit b ≡ y → (starts_digit t ≡ true → Agrees ra rb false (expect_encoding v ts t))
        → Agrees ra rb false (expect_node l v (is_end cs) inner (b ∷ t) then (λ u. expect_encoding v ts u))
    go true e rec = missed ra rb (expect_node l v (is_end cs) inner (b ∷ t) then (λ u. expect_encoding v ts u))
        (rw (node-mismatch-head is_digit l v (is_end cs) inner b t g'.0 o (fails-digit (kind l) (kind-bound l g'.0 o)) e))
    go false e rec =
        let i = both (integral b) (starts_digit t) (rw e at h') in
        elim (over-integral l v (is_end cs) inner b t g'.0 o i.0) [
          | inl q ↦ missed ra rb (expect_node l v (is_end cs) inner (b ∷ t) then (λ u. expect_encoding v ts u)) (rw q)
          | inr q ↦ rw q (rec i.1)
        ]

pub record NodeOk (l : Label) (v : NestingLevel) (cs : Trees) (r : List ℕ) : Type 0 where
  pub ok_label : fit_label l ≡ true
  pub ok_count : valid_count l cs ≡ true
  pub ok_below : fit cs ≡ true
  pub ok_clear : ClearTree l v cs r

-- One tree at a level: compared, expected and printed.
unfoldable pub compare_tree : NestingLevel → Label → Trees → Label → Trees → Bool
compare_tree v l cs m ds = compare_labels l m && compare_children (is_container l) (shows l v) (is_end cs || is_end ds) (compare_encodings false (inside l v) cs ds)

unfoldable pub expect_tree : NestingLevel → Label → Trees → List ℕ → Expected
expect_tree v l cs s = expect_node l v (is_end cs) (λ t. expect_encoding (inside l v) cs t) s

unfoldable pub print_tree : NestingLevel → Label → Trees → List ℕ
print_tree v l cs = print_node l v (print (inside l v) cs)

-- The tree of `l` and `cs` and a tree of `m`, wherever both may stand: comparing them agrees with expecting the one in the print of the other.
abbrev pub Matches : Label → Trees → Label → Type 0
Matches l cs m = (ds : Trees) (v : NestingLevel) (ra rb : List ℕ) → NodeOk l v cs ra → NodeOk m v ds rb → may_follow rb ≡ true
    → Agrees ra rb (compare_tree v l cs m ds) (expect_tree v l cs (print_tree v m ds ++ rb))

abbrev pub MatchOne : Label → Trees → Type 0
MatchOne l cs = (m : Label) → Matches l cs m

abbrev pub MatchFirst : Trees → Type 0
MatchFirst end = Unit {0}
MatchFirst (node l cs ts) = MatchOne l cs

abbrev pub MatchFields : Trees → Type 0
MatchFields ts = (us : Trees) (v : NestingLevel) (ra rb : List ℕ) → fit ts ≡ true → clear v ts ra ≡ true → without_none ts ≡ true → closes ra ≡ true → fit us ≡ true → clear v us rb ≡ true
    → without_none us ≡ true → closes rb ≡ true → may_follow rb ≡ true → Agrees ra rb (compare_encodings false v ts us) (expect_encoding v ts (print v us ++ rb))

pub stuck-open : (ra s : List ℕ) → closes ra ≡ true → closes s ≡ false → stuck ra s ≡ true
unfolding stuck closes
stuck-open ra [] a h = absurd (true≢false h)
stuck-open ra (b ∷ s) a h = rw (h, a)

-- A label of a kind from 24 on, from its kind, numbers and name.
unfoldable pub label_of : ℕ → Label → Label
label_of k m = get_or (bit_field (bits m) ∷ typed_bit_field (length_or_offset m) (bits m) ∷ pointer ∷ atomic ∷ array (length_or_offset m) ∷ struct (name m) ∷ union (name m) ∷ []) (k - 24) none

pub kind-below : (l : Label) → kind l < 24 → l ≡ primitive (kind l)
unfolding kind
kind-below (primitive p) h = refl
kind-below (bit_field n) h = absurd (omega arith)
kind-below (typed_bit_field o n) h = absurd (omega arith)
kind-below pointer h = absurd (omega arith)
kind-below atomic h = absurd (omega arith)
kind-below (array n) h = absurd (omega arith)
kind-below (struct s) h = absurd (omega arith)
kind-below (union s) h = absurd (omega arith)
kind-below none h = absurd (omega arith)

kind-above : (l : Label) → fit_label l ≡ true → 24 ≤ kind l → l ≡ label_of (kind l) l
unfolding kind fit_label label_of bits length_or_offset name
kind-above (primitive p) a h = absurd (omega (arith, ltb-true p 24 a))
kind-above (bit_field n) a h = refl
kind-above (typed_bit_field o n) a h = refl
kind-above pointer a h = refl
kind-above atomic a h = refl
kind-above (array n) a h = refl
kind-above (struct s) a h = refl
kind-above (union s) a h = refl
kind-above none a h = refl

pub matched-by : (ra rb : List ℕ) (t : Bool) (w : Expected) → t ≡ true → w ≡ remaining rb → Agrees ra rb t w
matched-by ra rb t w e f = rw (e, f) refl

pub missed_by : (ra rb : List ℕ) (t : Bool) (w : Expected) → t ≡ false → w ≡ mismatch → Agrees ra rb t w
missed_by ra rb t w e f = rw (e, f) tt

other-kind : (v : NestingLevel) (l m : Label) (cs ds : Trees) → equivalent (kind l) (kind m) ≡ false → compare_tree v l cs m ds ≡ false
unfolding compare_tree compare_labels
other-kind v l m cs ds h = rw h

none-kind : (k : ℕ) → k < 31 → equivalent k 31 ≡ false
unfolding equivalent among is_object
none-kind k h = rw (ne_eqb k 31 (λ q. omega arith)) (and-false (is_object k))

kind-none : (k : ℕ) → k < 31 → equivalent 31 k ≡ false
unfolding equivalent among is_object
kind-none k h = rw (ne_eqb 31 k (λ q. omega arith))

none-closes : (v : NestingLevel) (cs : Trees) (r : List ℕ) → NodeOk none v cs r → closes r ≡ true
unfolding clear_node
none-closes v cs r h = (both (closes r) (clear v cs (after_children none r)) h.ok_clear).0

-- The same for the labels that open alike.
abbrev pub Alike : Label → Trees → Type 0
Alike l cs = fit_label l ≡ true → (m : Label) → fit_label m ≡ true → among (kind m) (same_opening (kind l)) ≡ true → Matches l cs m

against-none : (l : Label) (cs : Trees) → is_none l ≡ false → Matches l cs none
unfolding expect_tree print_tree print_node kind
against-none l cs o ds v ra rb a b h = missed_by ra rb (compare_tree v l cs none ds) (expect_tree v l cs rb) (other-kind v l none cs ds (none-kind (kind l) (kind-bound l a.ok_label o)))
    (node-mismatch-closes l v (is_end cs) (λ t. expect_encoding (inside l v) cs t) rb a.ok_label o (none-closes v ds rb b))

match-unlike : (l m : Label) (cs : Trees) → is_none l ≡ false → is_none m ≡ false → among (kind m) (same_opening (kind l)) ≡ false → Matches l cs m
unfolding expect_tree print_tree
match-unlike l m cs o q e ds v ra rb a b h = missed_by ra rb (compare_tree v l cs m ds) (expect_tree v l cs (print_tree v m ds ++ rb))
    (other-kind v l m cs ds (unlike (kind l) (kind m) (kind-bound l a.ok_label o) (kind-bound m b.ok_label q) e).0)
    (unlike-mismatch l m v (is_end cs) (λ t. expect_encoding (inside l v) cs t) (print (inside m v) ds) rb a.ok_label o b.ok_label q e)

pub match-alike : (l : Label) (cs : Trees) → is_none l ≡ false → Alike l cs → MatchOne l cs
match-alike l cs o same m ds v ra rb a b h = go (is_none m) refl ds v ra rb a b h
  where
    here : is_none m ≡ false → (y : Bool) → among (kind m) (same_opening (kind l)) ≡ y → Matches l cs m
    here q true e = same a.ok_label m b.ok_label e
    here q false e = match-unlike l m cs o q e

    go : (y : Bool) → is_none m ≡ y → Matches l cs m
    go true e = subst (Matches l cs) (sym (is_none-none m e)) (against-none l cs o)
    go false e = here e (among (kind m) (same_opening (kind l))) refl

-- Kinds from 24 on: a match with each label that opens alike.
pub alike_from : (l : Label) (cs : Trees) → Each (λ k. (24 ≤ k) × ((m : Label) → Matches l cs (label_of k m))) (same_opening (kind l)) → Alike l cs
alike_from l cs pairs a m b e =
    let p = each (λ k. (24 ≤ k) × ((m : Label) → Matches l cs (label_of k m))) (same_opening (kind l)) pairs (kind m) e in
    subst (Matches l cs) (sym (kind-above m b p.0)) (p.1 m)

-- None against a tree.
none-none : (cs : Trees) → Matches none cs none
unfolding expect_tree print_tree print_node expect_node compare_tree compare_labels equivalent kind length_or_offset bits name same_bytes is_container compare_children compare_encodings valid_count
none-none cs ds v ra rb a b h = rw (is_end-end cs a.ok_count, is_end-end ds b.ok_count) refl

none-tree : (cs : Trees) (m : Label) → is_none m ≡ false → Matches none cs m
unfolding expect_tree print_tree expect_node kind
none-tree cs m q ds v ra rb a b h = rw (other-kind v none m cs ds (kind-none (kind m) (kind-bound m b.ok_label q)))
    (stuck-open ra (print_tree v m ds ++ rb) (none-closes v cs ra a) (node_opens m v (print (inside m v) ds) rb b.ok_label q))

pub match_none : (cs : Trees) → MatchOne none cs
match_none cs m = go (is_none m) refl
  where
    go : (y : Bool) → is_none m ≡ y → Matches none cs m
    go true e = subst (Matches none cs) (sym (is_none-none m e)) (none-none cs)
    go false e = none-tree cs m e

-- Numbers.
pub eqb_swap : (a b : ℕ) → eqb a b ≡ false → eqb b a ≡ false
eqb_swap a b h = ne_eqb b a (λ q. eqb-false a b h (sym q))

number-self : (limit n : ℕ) (r : List ℕ) → n ≤ limit → starts_digit r ≡ false → expect_number limit n (decimal n ++ r) ≡ remaining r
unfolding expect_number
number-self limit n r l d = rw (read-decimal limit n r d ∙ within-limit limit n r l, expect_number) (rw (eq-eqb n n refl))

pub number-matches : (limit n m : ℕ) (r : List ℕ) → n ≤ limit → starts_digit r ≡ false → eqb n m ≡ true → expect_number limit n (decimal m ++ r) ≡ remaining r
number-matches limit n m r l d e = subst (λ x. expect_number limit n (decimal x ++ r) ≡ remaining r) (eqb-true n m e) (number-self limit n r l d)

pub number-mismatch : (limit n m : ℕ) (r : List ℕ) → starts_digit r ≡ false → eqb n m ≡ false → expect_number limit n (decimal m ++ r) ≡ mismatch
unfolding expect_number
number-mismatch limit n m r d e = go (leb m limit) refl
  where
    go : (y : Bool) → leb m limit ≡ y → expect_number limit n (decimal m ++ r) ≡ mismatch
    go true l = rw (read-decimal limit m r d ∙ within-limit limit m r (leb-true m limit l), expect_number) (rw (eqb_swap n m e))
    go false l = rw (read-decimal limit m r d ∙ beyond-limit limit m r (leb-false m limit l), expect_number)

pub no-number-mismatch : (limit n : ℕ) (r : List ℕ) → starts_digit r ≡ false → expect_number limit n r ≡ mismatch
unfolding expect_number parse_number starts_digit
no-number-mismatch limit n [] d = refl
no-number-mismatch limit n (b ∷ r) d = rw (number-none limit b r d, expect_number)

pub node_ok : (v : NestingLevel) (l : Label) (cs ts : Trees) (r : List ℕ) → fit (node l cs ts) ≡ true → clear v (node l cs ts) r ≡ true → NodeOk l v cs (print v ts ++ r)
node_ok v l cs ts r g c =
    let g' = fit_parts l cs ts g in
    record { ok_label = g'.0; ok_count = g'.1; ok_below = g'.2; ok_clear = (clear-parts v l cs ts r c).0 }

compare-one : (v : NestingLevel) (l : Label) (xs : Trees) (m : Label) (ys : Trees) → compare_encodings false v (node l xs end) (node m ys end) ≡ compare_tree v l xs m ys
unfolding compare_encodings compare_tree
compare-one v l xs m ys = rw (and-true (compare_children (is_container l) (shows l v) (is_end xs || is_end ys) (compare_encodings false (inside l v) xs ys)))

pub expect-one : (v : NestingLevel) (l : Label) (xs : Trees) (s : List ℕ) → expect_encoding v (node l xs end) s ≡ expect_tree v l xs s
unfolding expect_encoding expect_tree
expect-one v l xs s = then-remaining (expect_node l v (is_end xs) (λ t. expect_encoding (inside l v) xs t) s)

-- An only child.
pub match-child : (cs : Trees) → MatchFirst cs → (ds : Trees) (v : NestingLevel) (ra rb : List ℕ) → is_one cs ≡ true → is_one ds ≡ true → fit cs ≡ true → fit ds ≡ true → clear v cs ra ≡ true
    → clear v ds rb ≡ true → may_follow rb ≡ true → Agrees ra rb (compare_encodings false v cs ds) (expect_encoding v cs (print v ds ++ rb))
unfolding is_one is_end print_tree print
match-child end first ds v ra rb o q a b c d h = absurd (false≢true o)
match-child (node l xs (node m ys zs)) first ds v ra rb o q a b c d h = absurd (false≢true o)
match-child (node l xs end) first end v ra rb o q a b c d h = absurd (false≢true q)
match-child (node l xs end) first (node m ys (node n us ws)) v ra rb o q a b c d h = absurd (false≢true q)
match-child (node l xs end) first (node m ys end) v ra rb o q a b c d h = rw (compare-one v l xs m ys, print-one v m ys rb, expect-one v l xs (print_tree v m ys ++ rb))
    (first m ys v ra rb (node_ok v l xs end ra a c) (node_ok v m ys end rb b d) h)
