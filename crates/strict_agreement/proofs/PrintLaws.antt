-- No number in the print of a sound tree has a surplus zero. The walk is that of reading back (agreement, RoundTrip).
use Prim.Native.Nat.{ℕ, zero, suc, ◌+◌, ◌*◌, ◌/◌, ◌%◌, ◌≤◌, ◌<◌}
use mathlib.Core.Path.{◌≡◌, refl, sym, ap, subst, ◌∙◌}
use mathlib.Core.Bool.{Bool, true, false, cond, ◌&&◌, not, false≢true, true≢false}
use mathlib.Core.List.{List, [], ◌∷◌, ◌++◌, append_assoc, append-nil}
use native.Mathlib.Omega.{arith}
use lib.Dec.{leb, ltb, eqb}
use lib.ListN.{length, length-append, get_or}
use borrow.Author.Tests.{ltb-true, ltb-false, leb-true, ne_eqb, not-true}
use Rattle.kinds.specs.Byte.{byte, bytes, among, is_digit, starts_digit}
use Rattle.kinds.specs.Container.{start_byte, end_byte}
use Rattle.kinds.specs.Level.{shows_fields}
use Rattle.kinds.specs.Name.{verify_name}
use Rattle.kinds.specs.Parse.{max_u64, max_u8, container, named, parse_name, singles, others, in_singles, in_others, start, begin, integral, parse_inner}
use Rattle.kinds.specs.Parse.{Whole, tree, refusal, from_str}
use Rattle.kinds.specs.Primitive.{codes, code}
use Rattle.kinds.specs.Print.{digits, decimal, print_node, print}
use Rattle.kinds.specs.Sound.{valid_count}
use Rattle.kinds.specs.Strict.{digit_count, surplus_zero, typed_number, bits_numbers, numbers_of, numbers_inside, numbers_after, inner_numbers, items_numbers, numbers, numbers_met}
use Rattle.kinds.specs.Tree.{Label, Trees, end, node, primitive, bit_field, typed_bit_field, pointer, atomic, array, struct, union, none, inside, shows, keep, shown, is_end, is_one}
use Rattle.kinds.specs.declared.ContainerKind.{ContainerKind}
use Rattle.kinds.specs.declared.ContainerKind.TheVariants.{Struct, Union}
use Rattle.kinds.specs.declared.NestingLevel.{NestingLevel}
use Rattle.kinds.specs.declared.NestingLevel.TheVariants.{Top, Within, Bottom}
use Rattle.kinds.proofs.ParseLaws.{within-limit, name-checked}
use Rattle.kinds.proofs.TableLaws.{both, each}
use Rattle.agreement.specs.ReadTree.{trees, read_tree}
use Rattle.agreement.specs.Sound.{is_integral, is_none, without_none, is_closer, closes, after_children, clear_node, clear, sound}
use Rattle.agreement.proofs.ByteLaws.{below, ◌also◌, ◌next◌}
use Rattle.kinds.proofs.DecimalLaws.{last-digit, one-digit}
use Rattle.agreement.proofs.DigitLaws.{read-decimal}
use Rattle.agreement.proofs.FitLaws.{fit_label, fit, fit_parts, sound-parts}
use Rattle.agreement.proofs.FollowLaws.{may_follow, no_digit, starts_typed, no-typed, closer-follows, bracket-follows, trees-follow}
use Rattle.agreement.proofs.PrintsAlike.{unqualified, print-read}
use Rattle.agreement.proofs.RoundTrip.{ClearTree, TreeRead, integrals, code-no-digit, integral-child, is_none-none, name-until, name-only, lacks-equals, lacks-closer, body, container-text}
use Rattle.agreement.proofs.RoundTrip.{clear-parts, print-one, none-parts, typed-text, array-text, typed-child, node-length, read_back}
use Rattle.strict_agreement.specs.Printed.{PrintRead}
use Rattle.strict_agreement.specs.Surplus.{without_surplus}
use Rattle.strict_agreement.proofs.SurplusLaws.{without-append, without-alike}

-- ---- Numbers as they are written.

first-digit : (f n : ℕ) (acc r : List ℕ) → 0 < n → n < f → eqb (get_or (digits f n acc ++ r) 0 0) (byte "0") ≡ false
first-digit zero n acc r p h = absurd (omega arith)
first-digit (suc f) n acc r p h = go (ltb n 10) refl (λ q k. first-digit f (n / 10) ((byte "0" + n % 10) ∷ acc) r q k)
  where
    go : (t : Bool) → ltb n 10 ≡ t → (0 < n / 10 → n / 10 < f → eqb (get_or (digits f (n / 10) ((byte "0" + n % 10) ∷ acc) ++ r) 0 0) (byte "0") ≡ false)
        → eqb (get_or (digits (suc f) n acc ++ r) 0 0) (byte "0") ≡ false
    go true e ih = rw (last-digit f n acc (ltb-true n 10 e)) (ne_eqb (byte "0" + n) (byte "0") (λ q. omega arith))
    go false e ih = rw (one-digit f n acc (ltb-false n 10 e)) (ih (omega (arith, ltb-false n 10 e)) (omega (arith, ltb-false n 10 e)))

no-count : (r : List ℕ) → starts_digit r ≡ false → digit_count r ≡ 0
unfolding starts_digit digit_count
no-count [] h = refl
no-count (b ∷ r) h = rw (h, digit_count)

and-false : (x : Bool) → (x && false) ≡ false
and-false true = refl
and-false false = refl

zero-plain : (r : List ℕ) → starts_digit r ≡ false → surplus_zero (byte "0" ∷ r) ≡ false
unfolding surplus_zero digit_count is_digit
zero-plain r h = rw (no-count r h)

pub decimal-plain : (n : ℕ) (r : List ℕ) → starts_digit r ≡ false → surplus_zero (decimal n ++ r) ≡ false
unfolding surplus_zero decimal digits
decimal-plain zero r h = zero-plain r h
decimal-plain (suc n) r h =
    ap (λ x. ltb 1 (digit_count (decimal (suc n) ++ r)) && x) (first-digit (suc (suc n)) (suc n) [] r (omega arith) (omega arith)) ∙ and-false (ltb 1 (digit_count (decimal (suc n) ++ r)))

-- ---- The numbers of bitfields.

not-typed-number : (r : List ℕ) → starts_typed r ≡ false → typed_number r ≡ []
unfolding starts_typed starts_digit typed_number
not-typed-number [] h = refl
not-typed-number (b ∷ []) h = refl
not-typed-number (b ∷ c ∷ s) h = rw h

typed-number-clean : (b : ℕ) (t : List ℕ) → surplus_zero t ≡ false → without_surplus (typed_number (b ∷ t)) ≡ true
unfolding typed_number without_surplus
typed-number-clean b [] h = refl
typed-number-clean b (c ∷ s) h = go (integral b && is_digit c)
  where
    go : (x : Bool) → without_surplus (cond x ((c ∷ s) ∷ []) []) ≡ true
    go true = rw h
    go false = refl

code-number-clean : (t : List ℕ) → surplus_zero t ≡ false → (p : ℕ) → among p integrals ≡ true → without_surplus (typed_number (code p ++ t)) ≡ true
unfolding integrals code codes
code-number-clean t h p a = each (λ q. without_surplus (typed_number (code q ++ t)) ≡ true) integrals
    (go (byte "c") also go (byte "s") also go (byte "i") also go (byte "l") also go (byte "q") also go (byte "C") also go (byte "S") also go (byte "I") also go (byte "L")
    also go (byte "Q") also go (byte "B") also tt)
    p
    a
  where
    go : (b : ℕ) → without_surplus (typed_number (b ∷ t)) ≡ true
    go b = typed-number-clean b t h

bits-numbers-clean : (n : ℕ) (t : List ℕ) → n ≤ max_u64 → starts_digit t ≡ false → without_surplus (typed_number t) ≡ true → without_surplus (bits_numbers (decimal n ++ t)) ≡ true
unfolding bits_numbers without_surplus
bits-numbers-clean n t l d h = rw (decimal-plain n t d, read-decimal max_u64 n t d ∙ within-limit max_u64 n t l) h

bits-clean : (f n : ℕ) (t : List ℕ) → n ≤ max_u64 → starts_digit t ≡ false → without_surplus (typed_number t) ≡ true → without_surplus (inner_numbers (suc f) (byte "b" ∷ (decimal n ++ t))) ≡ true
unfolding inner_numbers start in_singles in_others singles others numbers_of numbers_inside
bits-clean f n t l d h = ap without_surplus (append-nil (bits_numbers (decimal n ++ t))) ∙ bits-numbers-clean n t l d h

-- ---- One tree, and the fields of a container.

abbrev TreeClean : Label → Trees → Type 0
TreeClean l cs = (v : NestingLevel) (r : List ℕ) (f : ℕ) → fit_label l ≡ true → valid_count l cs ≡ true → fit cs ≡ true → ClearTree l v cs r → is_none l ≡ false → may_follow r ≡ true
    → 2 * length (print_node l v (print (inside l v) cs) ++ r) ≤ f → without_surplus (inner_numbers f (print_node l v (print (inside l v) cs) ++ r)) ≡ true

abbrev FirstClean : Trees → Type 0
FirstClean end = Unit {0}
FirstClean (node l cs ts) = TreeClean l cs

abbrev FieldsClean : Trees → Type 0
FieldsClean ts = (v : NestingLevel) (k : ContainerKind) (r : List ℕ) (f : ℕ) → fit ts ≡ true → clear v ts (end_byte k ∷ r) ≡ true → without_none ts ≡ true
    → 2 * length (print v ts ++ (end_byte k ∷ r)) < f → without_surplus (items_numbers f k (print v ts ++ (end_byte k ∷ r))) ≡ true

abbrev ChildClean : Trees → NestingLevel → List ℕ → ℕ → Type 0
ChildClean cs v r f = fit cs ≡ true → clear v cs r ≡ true → 2 * length (print v cs ++ r) ≤ f → without_surplus (inner_numbers f (print v cs ++ r)) ≡ true

closer-clean : (f : ℕ) (r : List ℕ) → closes r ≡ true → without_surplus (inner_numbers f r) ≡ true
unfolding closes is_closer inner_numbers start in_singles in_others singles others numbers_of numbers_inside without_surplus
closer-clean zero r c = refl
closer-clean (suc f) [] c = refl
closer-clean (suc f) (b ∷ r) c = each (λ x. without_surplus (inner_numbers (suc f) (x ∷ r)) ≡ true) (bytes "]})") (refl also refl also refl also tt) b c

none-clean : (ds : Trees) (v : NestingLevel) (r : List ℕ) (f : ℕ) → ChildClean (node none ds end) v r f
unfolding print print_node
none-clean ds v r f g c n = closer-clean f r (none-parts v ds r g c).1

only-clean : (m : Label) (ds : Trees) → TreeClean m ds → is_none m ≡ false → (v : NestingLevel) (r : List ℕ) (f : ℕ) → may_follow r ≡ true → ChildClean (node m ds end) v r f
unfolding print
only-clean m ds one o v r f h g c n =
    let g' = fit_parts m ds end g in
    rw (print-one v m ds r) (one v r f g'.0 g'.1 g'.2 (clear-parts v m ds end r c).0 o h (rw (print-one v m ds r) at n))

child-clean : (cs : Trees) → FirstClean cs → is_one cs ≡ true → (v : NestingLevel) (r : List ℕ) (f : ℕ) → may_follow r ≡ true → ChildClean cs v r f
unfolding is_one is_end
child-clean end one o v r f h = absurd (false≢true o)
child-clean (node m ds (node x ys zs)) one o v r f h = absurd (false≢true o)
child-clean (node m ds end) one o v r f h = go (is_none m) refl
  where
    go : (t : Bool) → is_none m ≡ t → ChildClean (node m ds end) v r f
    go true e = subst (λ x. ChildClean (node x ds end) v r f) (sym (is_none-none m e)) (none-clean ds v r f)
    go false e = only-clean m ds one e v r f h

primitive-clean : (f : ℕ) (r : List ℕ) (p : ℕ) → p < 24 → without_surplus (inner_numbers f (code p ++ r)) ≡ true
unfolding code codes inner_numbers start in_singles in_others singles others numbers_of numbers_inside without_surplus
primitive-clean zero r p l = refl
primitive-clean (suc f) r p l = below (λ q. without_surplus (inner_numbers (suc f) (code q ++ r)) ≡ true) 24
    (tt next refl next refl next refl next refl next refl next refl next refl next refl next refl next refl next refl next refl
    next refl next refl next refl next refl next refl next refl next refl next refl next refl next refl next refl next refl)
    p
    l

open-numbers : (k : ContainerKind) (f : ℕ) (x s t : List ℕ) → parse_name k [] x ≡ named s t → inner_numbers (suc f) (start_byte k ∷ x) ≡ items_numbers f k t
unfolding inner_numbers start in_singles in_others singles others numbers_of numbers_inside
open-numbers Struct f x s t e = rw (e, numbers_inside)
open-numbers Union f x s t e = rw (e, numbers_inside)

fields-end : (f : ℕ) (k : ContainerKind) (r : List ℕ) → without_surplus (items_numbers f k (end_byte k ∷ r)) ≡ true
unfolding items_numbers inner_numbers parse_inner begin start in_singles in_others singles others numbers_of numbers_inside numbers_after without_surplus
fields-end zero k r = refl
fields-end (suc zero) k r = refl
fields-end (suc (suc f)) Struct r = refl
fields-end (suc (suc f)) Union r = refl

open-fields : (k : ContainerKind) (s : List ℕ) (cs : Trees) → FieldsClean cs → (r : List ℕ) (f : ℕ) → verify_name s ≡ true → fit cs ≡ true → (without_none cs && clear Within cs (end_byte k ∷ r)) ≡ true
    → 2 * length (start_byte k ∷ (s ++ (byte "=" ∷ (print Within cs ++ (end_byte k ∷ r))))) ≤ suc f
    → without_surplus (inner_numbers (suc f) (start_byte k ∷ (s ++ (byte "=" ∷ (print Within cs ++ (end_byte k ∷ r)))))) ≡ true
open-fields k s cs many r f a g c n =
    let t = print Within cs ++ (end_byte k ∷ r) in
    let c' = both (without_none cs) (clear Within cs (end_byte k ∷ r)) c in
    rw (open-numbers k f (s ++ (byte "=" ∷ t)) s t (name-until k [] s t (lacks-equals s a) (lacks-closer k s a) ∙ name-checked k s (byte "=" ∷ t) t a))
    (many Within k r f g c'.1 c'.0 (omega (arith, length-append s (byte "=" ∷ t))))

open-hidden : (k : ContainerKind) (s r : List ℕ) (f : ℕ) → verify_name s ≡ true → without_surplus (inner_numbers (suc f) (start_byte k ∷ (s ++ (end_byte k ∷ r)))) ≡ true
open-hidden k s r f a =
    rw (open-numbers k f (s ++ (end_byte k ∷ r)) s (end_byte k ∷ r) (name-only k [] s r (lacks-equals s a) (lacks-closer k s a) ∙ name-checked k s (end_byte k ∷ r) (end_byte k ∷ r) a))
    (fields-end f k r)

container-clean : (k : ContainerKind) (s : List ℕ) (cs : Trees) → FieldsClean cs → (v : NestingLevel) (r : List ℕ) (f : ℕ) → verify_name s ≡ true → fit cs ≡ true
    → cond (shows_fields v) (without_none cs && clear Within cs (end_byte k ∷ r)) true ≡ true → 2 * length (print_node (container k s) v (print Within cs) ++ r) ≤ f
    → without_surplus (inner_numbers f (print_node (container k s) v (print Within cs) ++ r)) ≡ true
unfolding body inner_numbers without_surplus
container-clean k s cs many v r zero a g c n = refl
container-clean k s cs many Top r (suc f) a g c n = rw (container-text k Top s (print Within cs) r) (open-fields k s cs many r f a g c (rw (container-text k Top s (print Within cs) r) at n))
container-clean k s cs many Within r (suc f) a g c n =
    rw (container-text k Within s (print Within cs) r) (open-fields k s cs many r f a g c (rw (container-text k Within s (print Within cs) r) at n))
container-clean k s cs many Bottom r (suc f) a g c n = rw (container-text k Bottom s (print Within cs) r) (open-hidden k s r f a)

typed-clean : (o n : ℕ) (cs : Trees) → TreeClean (typed_bit_field o n) cs
unfolding fit_label valid_count clear_node inner_numbers without_surplus
typed-clean o n cs v r zero a b g c q h m = refl
typed-clean o n cs v r (suc f) a b g c q h m =
    let a' = both (leb o max_u64) (leb n max_u8) a in
    let i = integral-child cs b g (both (is_integral cs) (clear v cs (after_children (typed_bit_field o n) r)) c).0 in
    rw (typed-text o n v (print v cs) r, i.1, typed-child v i.0 (decimal n ++ r))
    (bits-clean f o (code i.0 ++ (decimal n ++ r)) (leb-true o max_u64 a'.0) (code-no-digit (decimal n ++ r) i.0 i.2)
    (code-number-clean (decimal n ++ r) (decimal-plain n r (no_digit r h)) i.0 i.2))

item-clean : (f n : ℕ) (t : List ℕ) → n ≤ max_u64 → starts_digit t ≡ false → without_surplus (inner_numbers f t) ≡ true → without_surplus (inner_numbers (suc f) (byte "[" ∷ (decimal n ++ t))) ≡ true
unfolding inner_numbers start in_singles in_others singles others numbers_of numbers_inside without_surplus
item-clean f n t l d h = rw (decimal-plain n t d, read-decimal max_u64 n t d ∙ within-limit max_u64 n t l) h

array-clean : (n : ℕ) (cs : Trees) → FirstClean cs → TreeClean (array n) cs
unfolding fit_label valid_count clear_node after_children inner_numbers without_surplus
array-clean n cs first v r zero a b g c o h m = refl
array-clean n cs first v r (suc f) a b g c o h m =
    let t = print v cs ++ (byte "]" ∷ r) in
    rw (array-text n v (print v cs) r)
    (item-clean f n t (leb-true n max_u64 a) (no_digit t (trees-follow v cs (byte "]" ∷ r) g (bracket-follows r)))
    (child-clean cs first b v (byte "]" ∷ r) f (bracket-follows r) g c (omega (arith, length-append (decimal n) t, ap length (array-text n v (print v cs) r)))))

tree-clean : (l : Label) (cs : Trees) → FirstClean cs → FieldsClean cs → TreeClean l cs
unfolding print_node fit_label valid_count is_none clear_node after_children inner_numbers start in_singles in_others singles others numbers_of numbers_inside without_surplus
tree-clean (primitive p) cs first many v r f a b g c o h m = primitive-clean f r p (ltb-true p 24 a)
tree-clean (bit_field n) cs first many v r zero a b g c o h m = refl
tree-clean (bit_field n) cs first many v r (suc f) a b g c o h m =
    let l : n ≤ max_u64 = omega (arith, leb-true n max_u8 a) in
    bits-clean f n r l (no_digit r h) (rw (not-typed-number r (no-typed r h)))
tree-clean (typed_bit_field o n) cs first many v r f a b g c q h m = typed-clean o n cs v r f a b g c q h m
tree-clean pointer cs first many v r zero a b g c o h m = refl
tree-clean pointer cs first many v r (suc f) a b g c o h m = child-clean cs first b (inside pointer v) r f h g c (omega arith)
tree-clean atomic cs first many v r zero a b g c o h m = refl
tree-clean atomic cs first many v r (suc f) a b g c o h m = child-clean cs first b (inside atomic v) r f h g c (omega arith)
tree-clean (array n) cs first many v r f a b g c o h m = array-clean n cs first v r f a b g c o h m
tree-clean (struct s) cs first many v r f a b g c o h m = container-clean Struct s cs many v r f a g c m
tree-clean (union s) cs first many v r f a b g c o h m = container-clean Union s cs many v r f a g c m
tree-clean none cs first many v r f a b g c o h m = absurd (true≢false o)

fields-clean : (l : Label) (cs ts : Trees) → TreeRead l cs → TreeClean l cs → FieldsClean ts → FieldsClean (node l cs ts)
unfolding without_none print items_numbers numbers_after without_surplus
fields-clean l cs ts read one many v k r zero g c w n = refl
fields-clean l cs ts read one many v k r (suc f) g c w n =
    let t = print v ts ++ (end_byte k ∷ r) in
    let p = print_node l v (print (inside l v) cs) in
    let n' : 2 * length (p ++ t) < suc f = rw append_assoc at n in
    let g' = fit_parts l cs ts g in
    let c' = clear-parts v l cs ts (end_byte k ∷ r) c in
    let w' = both (not (is_none l)) (without_none ts) w in
    let o = not-true (is_none l) w'.0 in
    let m = trees-follow v ts (end_byte k ∷ r) g'.3 (closer-follows k r) in
    rw (
      append_assoc p (print v ts) (end_byte k ∷ r),
      without-append (inner_numbers f (p ++ t)) (numbers_after (parse_inner f (p ++ t)) (λ x. items_numbers f k x)),
      one v t f g'.0 g'.1 g'.2 c'.0 o m (omega arith),
      read v t f g'.0 g'.1 g'.2 c'.0 o m (omega arith),
    )
    (many v k r f g'.3 c'.1 w'.1 (omega (arith, node-length l v (print (inside l v) cs) t g'.0 o)))

all-clean : (ts : Trees) → FirstClean ts × FieldsClean ts
unfolding print
all-clean end = (tt, λ v k r f g c w n. fields-end f k r)
all-clean (node l cs ts) = go (all-clean cs) (all-clean ts)
  where
    go : FirstClean cs × FieldsClean cs → FirstClean ts × FieldsClean ts → TreeClean l cs × FieldsClean (node l cs ts)
    go i j = (tree-clean l cs i.0 i.1, fields-clean l cs ts (read_back (node l cs ts)).0 (tree-clean l cs i.0 i.1) j.1)

-- ---- Whole prints.

pub print-clean : (t : Trees) → sound t ≡ true → without_surplus (numbers_met (print Top t)) ≡ true
unfolding numbers_met numbers may_follow
print-clean t h =
    let p = sound-parts t h in
    let s = print Top t in
    let c = child-clean t (all-clean t).0 p.0 Top [] (length s + length s) refl p.1 p.2 (rw (append-nil s) (omega arith)) in
    rw (unqualified t p.1) (rw (append-nil s) at c)

tree_of : (w : Whole) (l : Label) (cs : Trees) → trees w ≡ node l cs end → w ≡ tree l cs
unfolding trees
tree_of (tree m ds) l cs e = cc
tree_of (refusal x at) l cs e = let z : ◌≡◌ {A = ℕ} 0 1 = cc in absurd (omega arith)

pub print-strict : (t : Trees) → sound t ≡ true → PrintRead t
unfolding is_one is_end read_tree shown
print-strict end h = absurd (false≢true (sound-parts end h).0)
print-strict (node l cs (node m ds us)) h = absurd (false≢true (sound-parts (node l cs (node m ds us)) h).0)
print-strict (node l cs end) h =
    let t = node l cs end in
    let ds = keep (shows l Top) (shown (inside l Top) cs) in
    let a = without-alike (print Top t) (print-clean t h) in
    let w = tree_of (from_str (print Top t)) l ds (print-read t h) in
    record { label = l; children = ds; shown-part = refl; whole = w; strict = a ∙ w; alike = a }
