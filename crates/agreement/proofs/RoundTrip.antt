-- The print of a tree, wherever it may stand, is read as its shown part, and what follows is left.
use Prim.Native.Nat.{ℕ, zero, suc, ◌*◌, ◌≤◌, ◌<◌}
use mathlib.Core.Path.{◌≡◌, refl, sym, ap, ap₂, subst, ◌∙◌}
use mathlib.Core.List.{List, [], ◌∷◌, ◌++◌, append_assoc, append-nil}
use mathlib.Core.Bool.{Bool, true, false, ◌&&◌, not, cond, false≢true, true≢false}
use native.Mathlib.Omega.{arith}
use lib.ListN.{length, length-append}
use lib.Dec.{leb, eqb}
use borrow.Author.Tests.{ltb-true, leb-true, le-leb, not-true}
use Rattle.kinds.specs.Byte.{byte, bytes, among, is_digit, starts_digit}
use Rattle.kinds.specs.Container.{start_byte, end_byte}
use Rattle.kinds.specs.Level.{shows_fields}
use Rattle.kinds.specs.Name.{is_name_byte, verify_name}
use Rattle.kinds.specs.Parse.{max_u64, max_u8, Parsed, parse_number, container, encoding, items, parse_inner, parse_items, held, item, parse_name, check_name, named, integral, start}
use Rattle.kinds.specs.Parse.{begin, singles, others, in_singles, in_others, leaf, parse_complex, parse_object, parse_bits, parse_bit_field, untyped, typed, single_kind, next_item, add_item}
use Rattle.kinds.specs.Parse.{contained, close_item}
use Rattle.kinds.specs.Primitive.{codes, code}
use Rattle.kinds.specs.Print.{decimal, fields, print_node, print}
use Rattle.kinds.specs.Sound.{valid_count}
use Rattle.agreement.specs.Sound.{is_integral, is_none, without_none, is_closer, closes, unknown_next, after_children, clear_node, clear}
use Rattle.kinds.specs.Tree.{Label, Trees, end, node, primitive, bit_field, typed_bit_field, pointer, atomic, array, struct, union, none, inside, shows, keep, shown, kind, is_end, is_one}
use Rattle.kinds.specs.declared.ContainerKind.{ContainerKind}
use Rattle.kinds.specs.declared.ContainerKind.TheVariants.{Struct, Union}
use Rattle.kinds.specs.declared.NestingLevel.{NestingLevel}
use Rattle.kinds.specs.declared.NestingLevel.TheVariants.{Top, Within, Bottom}
use Rattle.kinds.proofs.TableLaws.{both, each}
use Rattle.agreement.proofs.ByteLaws.{below, lacks, name-lacks, ◌also◌, ◌next◌}
use Rattle.kinds.proofs.ParseLaws.{within-limit, name-checked}
use Rattle.agreement.proofs.DigitLaws.{decimal-start, read-decimal}
use Rattle.agreement.proofs.FitLaws.{fit_label, fit, fit_parts}
use Rattle.agreement.proofs.FollowLaws.{may_follow, no_digit, starts_typed, no-typed, starts_quote, no-quote, closer-follows, bracket-follows, trees-follow}

pub plain-object : (r : List ℕ) → unknown_next r ≡ false → starts_quote r ≡ false → parse_object r ≡ encoding (primitive 19) end r
unfolding parse_object unknown_next starts_quote leaf
plain-object [] u q = refl
plain-object (b ∷ r) u q = rw (u, q, parse_object)

pub read-primitive : (f : ℕ) (r : List ℕ) → starts_quote r ≡ false → (p : ℕ) → p < 24 → not (eqb p 19 && unknown_next r) ≡ true → parse_inner (suc f) (code p ++ r) ≡ encoding (primitive p) end r
unfolding code codes parse_inner begin start in_singles in_others singles others leaf parse_complex parse_object
read-primitive f r h p l =
    below (λ q. not (eqb q 19 && unknown_next r) ≡ true → parse_inner (suc f) (code q ++ r) ≡ encoding (primitive q) end r) 24
    (tt next (λ _. refl) next (λ _. refl) next (λ _. refl) next (λ _. refl) next (λ _. refl) next (λ _. refl) next (λ _. refl) next (λ _. refl) next (λ _. refl) next (λ _. refl)
    next (λ _. refl) next (λ _. refl) next (λ _. refl) next (λ _. refl) next (λ _. refl) next (λ _. refl) next (λ _. refl) next (λ _. refl) next (λ _. refl)
    next (λ u. plain-object r (not-true (unknown_next r) u) h) next (λ _. refl) next (λ _. refl) next (λ _. refl) next (λ _. refl))
    p
    l

small-bits : (n : ℕ) (s : List ℕ) → n ≤ max_u8 → untyped n s ≡ encoding (bit_field n) end s
unfolding untyped leaf
small-bits n s h = rw (le-leb n max_u8 h, untyped)

pub not-typed : (n : ℕ) (r : List ℕ) → starts_typed r ≡ false → parse_bit_field n r ≡ untyped n r
unfolding starts_typed starts_digit parse_bit_field
not-typed n [] h = refl
not-typed n (b ∷ []) h = refl
not-typed n (b ∷ c ∷ s) h = rw (h, parse_bit_field)

read-untyped : (f n : ℕ) (r : List ℕ) → n ≤ max_u8 → may_follow r ≡ true → parse_inner (suc f) (byte "b" ∷ (decimal n ++ r)) ≡ encoding (bit_field n) end r
unfolding parse_inner begin start in_singles in_others singles others parse_bits
read-untyped f n r l h = rw (read-decimal max_u64 n r (no_digit r h), within-limit max_u64 n r (omega arith)) (not-typed n r (no-typed r h) ∙ small-bits n r l)

-- The numbers of the integral primitives.
unfoldable pub integrals : List ℕ
integrals = 0 ∷ 1 ∷ 2 ∷ 3 ∷ 4 ∷ 5 ∷ 6 ∷ 7 ∷ 8 ∷ 9 ∷ 16 ∷ []

pub is-typed : (o b : ℕ) (t : List ℕ) → integral b ≡ true → starts_digit t ≡ true → parse_bit_field o (b ∷ t) ≡ typed o (single_kind (start b)) (parse_number max_u8 t)
unfolding starts_digit parse_bit_field
is-typed o b [] i h = absurd (false≢true h)
is-typed o b (c ∷ s) i h = rw (i, h, parse_bit_field)

typed_at : (o n : ℕ) (r : List ℕ) → n ≤ max_u8 → may_follow r ≡ true → (b : ℕ) → integral b ≡ true
    → parse_bit_field o (b ∷ (decimal n ++ r)) ≡ encoding (typed_bit_field o n) (node (primitive (single_kind (start b))) end end) r
unfolding typed
typed_at o n r l h b i = is-typed o b (decimal n ++ r) i (decimal-start n r) ∙ ap (typed o (single_kind (start b))) (read-decimal max_u8 n r (no_digit r h) ∙ within-limit max_u8 n r l)

typed-rest : (o n p : ℕ) (r : List ℕ) → n ≤ max_u8 → may_follow r ≡ true → among p integrals ≡ true → parse_bit_field o (code p ++ (decimal n ++ r))
    ≡ encoding (typed_bit_field o n) (node (primitive p) end end) r
unfolding integrals code codes start in_singles in_others singles others single_kind integral among
typed-rest o n p r l h a = each (λ q. parse_bit_field o (code q ++ (decimal n ++ r)) ≡ encoding (typed_bit_field o n) (node (primitive q) end end) r) integrals
    (go (byte "c") refl also go (byte "s") refl also go (byte "i") refl also go (byte "l") refl also go (byte "q") refl
    also go (byte "C") refl also go (byte "S") refl also go (byte "I") refl also go (byte "L") refl also go (byte "Q") refl also go (byte "B") refl also tt)
    p
    a
  where
    go : (b : ℕ) → integral b ≡ true → parse_bit_field o (b ∷ (decimal n ++ r)) ≡ encoding (typed_bit_field o n) (node (primitive (single_kind (start b))) end end) r
    go = typed_at o n r l h

pub code-no-digit : (r : List ℕ) (p : ℕ) → among p integrals ≡ true → starts_digit (code p ++ r) ≡ false
unfolding integrals code codes starts_digit is_digit
code-no-digit r p a = each (λ q. starts_digit (code q ++ r) ≡ false) integrals (refl, (refl, (refl, (refl, (refl, (refl, (refl, (refl, (refl, (refl, (refl, tt))))))))))) p a

read-typed : (f o n p : ℕ) (r : List ℕ) → o ≤ max_u64 → n ≤ max_u8 → may_follow r ≡ true → among p integrals ≡ true
    → parse_inner (suc f) (byte "b" ∷ (decimal o ++ (code p ++ (decimal n ++ r)))) ≡ encoding (typed_bit_field o n) (node (primitive p) end end) r
unfolding parse_inner begin start in_singles in_others singles others parse_bits
read-typed f o n p r k l h a = rw (read-decimal max_u64 o (code p ++ (decimal n ++ r)) (code-no-digit (decimal n ++ r) p a), within-limit max_u64 o (code p ++ (decimal n ++ r)) k)
    (typed-rest o n p r l h a)

pub is_end-end : (ts : Trees) → is_end ts ≡ true → ts ≡ end
unfolding is_end
is_end-end end h = refl
is_end-end (node l cs ts) h = absurd (false≢true h)

pub is_none-none : (l : Label) → is_none l ≡ true → l ≡ none
unfolding is_none
is_none-none (primitive p) h = absurd (false≢true h)
is_none-none (bit_field n) h = absurd (false≢true h)
is_none-none (typed_bit_field o n) h = absurd (false≢true h)
is_none-none pointer h = absurd (false≢true h)
is_none-none atomic h = absurd (false≢true h)
is_none-none (array n) h = absurd (false≢true h)
is_none-none (struct s) h = absurd (false≢true h)
is_none-none (union s) h = absurd (false≢true h)
is_none-none none h = refl

pub integral-label : (l : Label) → among (kind l) integrals ≡ true → (p : ℕ) × (l ≡ primitive p) × (among p integrals ≡ true)
unfolding kind integrals among
integral-label (primitive p) h = (p, refl, h)
integral-label (bit_field n) h = absurd (false≢true h)
integral-label (typed_bit_field o n) h = absurd (false≢true h)
integral-label pointer h = absurd (false≢true h)
integral-label atomic h = absurd (false≢true h)
integral-label (array n) h = absurd (false≢true h)
integral-label (struct s) h = absurd (false≢true h)
integral-label (union s) h = absurd (false≢true h)
integral-label none h = absurd (false≢true h)

-- A bitfield's type.
pub integral-child : (cs : Trees) → is_one cs ≡ true → fit cs ≡ true → is_integral cs ≡ true → (p : ℕ) × (cs ≡ node (primitive p) end end) × (among p integrals ≡ true)
unfolding is_one is_integral integrals valid_count
integral-child end o g h = absurd (false≢true h)
integral-child (node l ds ts) o g h =
    let i = integral-label l h in
    let n : is_end ds ≡ true = subst (λ x. valid_count x ds ≡ true) i.1 (fit_parts l ds ts g).1 in
    (i.0, ap (λ x. node x ds ts) i.1 ∙ ap₂ (λ x y. node (primitive i.0) x y) (is_end-end ds n) (is_end-end ts o), i.2)

-- Names.
pub name-until : (k : ContainerKind) (acc s u : List ℕ) → lacks (byte "=") s ≡ true → lacks (end_byte k) s ≡ true → parse_name k acc (s ++ (byte "=" ∷ u)) ≡ check_name k (acc ++ s) (byte "=" ∷ u) u
unfolding parse_name lacks
name-until k acc [] u a b = rw append-nil
name-until k acc (x ∷ s) u a b =
    let a' = both (not (eqb x (byte "="))) (lacks (byte "=") s) a in
    let b' = both (not (eqb x (end_byte k))) (lacks (end_byte k) s) b in
    rw (not-true (eqb x (byte "=")) a'.0, not-true (eqb x (end_byte k)) b'.0, parse_name)
    (name-until k (acc ++ (x ∷ [])) s u a'.1 b'.1 ∙ ap (λ y. check_name k y (byte "=" ∷ u) u) (append_assoc acc (x ∷ []) s))

name-end : (k : ContainerKind) (acc u : List ℕ) → parse_name k acc (end_byte k ∷ u) ≡ check_name k acc (end_byte k ∷ u) (end_byte k ∷ u)
unfolding parse_name
name-end Struct acc u = refl
name-end Union acc u = refl

pub name-only : (k : ContainerKind) (acc s u : List ℕ) → lacks (byte "=") s ≡ true → lacks (end_byte k) s ≡ true
    → parse_name k acc (s ++ (end_byte k ∷ u)) ≡ check_name k (acc ++ s) (end_byte k ∷ u) (end_byte k ∷ u)
unfolding parse_name lacks
name-only k acc [] u a b = name-end k acc u ∙ ap (λ y. check_name k y (end_byte k ∷ u) (end_byte k ∷ u)) (sym (append-nil acc))
name-only k acc (x ∷ s) u a b =
    let a' = both (not (eqb x (byte "="))) (lacks (byte "=") s) a in
    let b' = both (not (eqb x (end_byte k))) (lacks (end_byte k) s) b in
    rw (not-true (eqb x (byte "=")) a'.0, not-true (eqb x (end_byte k)) b'.0, parse_name)
    (name-only k (acc ++ (x ∷ [])) s u a'.1 b'.1 ∙ ap (λ y. check_name k y (end_byte k ∷ u) (end_byte k ∷ u)) (append_assoc acc (x ∷ []) s))

pub lacks-equals : (s : List ℕ) → verify_name s ≡ true → lacks (byte "=") s ≡ true
unfolding is_name_byte is_digit
lacks-equals s g = name-lacks (byte "=") refl refl s g

pub lacks-closer : (k : ContainerKind) (s : List ℕ) → verify_name s ≡ true → lacks (end_byte k) s ≡ true
unfolding is_name_byte is_digit
lacks-closer Struct s g = name-lacks (byte "}") refl refl s g
lacks-closer Union s g = name-lacks (byte ")") refl refl s g

-- The text of a container.
unfoldable pub body : ContainerKind → NestingLevel → List ℕ → List ℕ → List ℕ
body k Top c r = byte "=" ∷ (c ++ (end_byte k ∷ r))
body k Within c r = byte "=" ∷ (c ++ (end_byte k ∷ r))
body k Bottom c r = end_byte k ∷ r

pub container-text : (k : ContainerKind) (v : NestingLevel) (s c r : List ℕ) → print_node (container k s) v c ++ r ≡ start_byte k ∷ (s ++ body k v c r)
unfolding print_node fields body
container-text Struct Top s c r = simp append_assoc
container-text Struct Within s c r = simp append_assoc
container-text Struct Bottom s c r = simp append_assoc
container-text Union Top s c r = simp append_assoc
container-text Union Within s c r = simp append_assoc
container-text Union Bottom s c r = simp append_assoc

open-named : (k : ContainerKind) (f : ℕ) (x s t : List ℕ) → parse_name k [] x ≡ named s t → parse_inner (suc f) (start_byte k ∷ x) ≡ contained k s (parse_items f k t)
unfolding parse_inner begin start in_singles in_others singles others
open-named Struct f x s t e = rw (e, begin)
open-named Union f x s t e = rw (e, begin)

-- What is claimed of one tree, and of the fields of a container.
abbrev pub ClearTree : Label → NestingLevel → Trees → List ℕ → Type 0
ClearTree l v cs r = cond (shows l v) (clear_node l cs r && clear (inside l v) cs (after_children l r)) true ≡ true

abbrev pub TreeRead : Label → Trees → Type 0
TreeRead l cs = (v : NestingLevel) (r : List ℕ) (f : ℕ) → fit_label l ≡ true → valid_count l cs ≡ true → fit cs ≡ true → ClearTree l v cs r → is_none l ≡ false → may_follow r ≡ true
    → 2 * length (print_node l v (print (inside l v) cs) ++ r) ≤ f → parse_inner f (print_node l v (print (inside l v) cs) ++ r) ≡ encoding l (keep (shows l v) (shown (inside l v) cs)) r

abbrev pub FirstRead : Trees → Type 0
FirstRead end = Unit {0}
FirstRead (node l cs ts) = TreeRead l cs

abbrev pub FieldsRead : Trees → Type 0
FieldsRead ts = (v : NestingLevel) (k : ContainerKind) (r : List ℕ) (f : ℕ) → fit ts ≡ true → clear v ts (end_byte k ∷ r) ≡ true → without_none ts ≡ true
    → 2 * length (print v ts ++ (end_byte k ∷ r)) < f → parse_items f k (print v ts ++ (end_byte k ∷ r)) ≡ items (shown v ts) r

fields-read-end : (f : ℕ) (k : ContainerKind) (r : List ℕ) → parse_items (suc (suc f)) k (end_byte k ∷ r) ≡ items end r
unfolding parse_inner begin start in_singles in_others singles others next_item
fields-read-end f Struct r = refl
fields-read-end f Union r = refl

pub clear-parts : (v : NestingLevel) (l : Label) (cs ts : Trees) (r : List ℕ) → clear v (node l cs ts) r ≡ true → ClearTree l v cs (print v ts ++ r) × (clear v ts r ≡ true)
unfolding clear
clear-parts v l cs ts r h = both (cond (shows l v) (clear_node l cs (print v ts ++ r) && clear (inside l v) cs (after_children l (print v ts ++ r))) true) (clear v ts r) h

pub print-one : (v : NestingLevel) (m : Label) (ds : Trees) (r : List ℕ) → print v (node m ds end) ++ r ≡ print_node m v (print (inside m v) ds) ++ r
unfolding print
print-one v m ds r = simp append-nil

pub none-parts : (v : NestingLevel) (ds : Trees) (r : List ℕ) → fit (node none ds end) ≡ true → clear v (node none ds end) r ≡ true → (ds ≡ end) × (closes r ≡ true)
unfolding valid_count clear_node print
none-parts v ds r g c = (is_end-end ds (fit_parts none ds end g).1, (both (closes r) (clear v ds (after_children none r)) (clear-parts v none ds end r c).0).0)

-- What is claimed (`Q`) of the text of trees before `r`, of what reading it by at most `f` steps finds, and of their shown part.
abbrev ChildRead : (List ℕ → Parsed → Trees → Type 0) → Trees → NestingLevel → List ℕ → ℕ → Type 0
ChildRead Q cs v r f = fit cs ≡ true → clear v cs r ≡ true → 2 * length (print v cs ++ r) ≤ f → Q (print v cs ++ r) (parse_inner f (print v cs ++ r)) (shown v cs)

child-tree : (Q : List ℕ → Parsed → Trees → Type 0) (m : Label) (ds : Trees) → TreeRead m ds → is_none m ≡ false → (v : NestingLevel) (r : List ℕ) (f : ℕ) → may_follow r ≡ true
    → ((s : List ℕ) (l : Label) (xs : Trees) → Q s (encoding l xs r) (node l xs end)) → ChildRead Q (node m ds end) v r f
unfolding shown print
child-tree Q m ds one o v r f h tree g c n =
    let g' = fit_parts m ds end g in
    rw (print-one v m ds r, one v r f g'.0 g'.1 g'.2 (clear-parts v m ds end r c).0 o h (rw (print-one v m ds r) at n))
    (tree (print_node m v (print (inside m v) ds) ++ r) m (keep (shows m v) (shown (inside m v) ds)))

child-none : (Q : List ℕ → Parsed → Trees → Type 0) (ds : Trees) (v : NestingLevel) (r : List ℕ) (f : ℕ) → (closes r ≡ true → 2 * length r ≤ f → Q r (parse_inner f r) (node none end end))
    → ChildRead Q (node none ds end) v r f
unfolding print print_node shown keep
child-none Q ds v r f nothing g c n = rw (none-parts v ds r g c).0 (nothing (none-parts v ds r g c).1 n)

-- An only child is read, or it is None and `r` stands in its place.
child-read : (Q : List ℕ → Parsed → Trees → Type 0) (cs : Trees) → FirstRead cs → is_one cs ≡ true → (v : NestingLevel) (r : List ℕ) (f : ℕ) → may_follow r ≡ true
    → ((s : List ℕ) (l : Label) (xs : Trees) → Q s (encoding l xs r) (node l xs end)) → (closes r ≡ true → 2 * length r ≤ f → Q r (parse_inner f r) (node none end end)) → ChildRead Q cs v r f
unfolding is_one is_end
child-read Q end one o v r f h tree nothing = absurd (false≢true o)
child-read Q (node m ds (node x ys zs)) one o v r f h tree nothing = absurd (false≢true o)
child-read Q (node m ds end) one o v r f h tree nothing = go (is_none m) refl
  where
    go : (t : Bool) → is_none m ≡ t → ChildRead Q (node m ds end) v r f
    go true e = subst (λ x. ChildRead Q (node x ds end) v r f) (sym (is_none-none m e)) (child-none Q ds v r f nothing)
    go false e = child-tree Q m ds one e v r f h tree

-- What a pointer or an atomic holds.
held_none : (l : Label) (r : List ℕ) (f : ℕ) → closes r ≡ true → 2 * length r ≤ f → held l r (parse_inner f r) ≡ encoding l (node none end end) r
unfolding closes is_closer parse_inner begin start in_singles in_others singles others held
held_none l [] zero c h = refl
held_none l [] (suc f) c h = refl
held_none l (b ∷ r) zero c h = absurd (omega arith)
held_none l (b ∷ r) (suc f) c h = each (λ x. held l (x ∷ r) (parse_inner (suc f) (x ∷ r)) ≡ encoding l (node none end end) (x ∷ r)) (bytes "]})") (refl, (refl, (refl, tt))) b c

held-read : (l : Label) (cs : Trees) → FirstRead cs → is_one cs ≡ true → (v : NestingLevel) (r : List ℕ) (f : ℕ) → may_follow r ≡ true → ChildRead (λ s p t. held l s p ≡ encoding l t r) cs v r f
unfolding held
held-read l cs first o v r f h = child-read (λ s p t. held l s p ≡ encoding l t r) cs first o v r f h (λ s m xs. refl) (held_none l r f)

-- An array's item and its bracket.
item-none : (k : ℕ) (r : List ℕ) (f : ℕ) → closes (byte "]" ∷ r) ≡ true → 2 * length (byte "]" ∷ r) ≤ f → item k (parse_inner f (byte "]" ∷ r)) ≡ encoding (array k) (node none end end) r
unfolding parse_inner begin start in_singles in_others singles others item
item-none k r zero c h = absurd (omega arith)
item-none k r (suc f) c h = refl

item-read : (k : ℕ) (cs : Trees) → FirstRead cs → is_one cs ≡ true → (v : NestingLevel) (r : List ℕ) (f : ℕ) → ChildRead (λ s p t. item k p ≡ encoding (array k) t r) cs v (byte "]" ∷ r) f
unfolding item close_item
item-read k cs first o v r f = child-read (λ s p t. item k p ≡ encoding (array k) t r) cs first o v (byte "]" ∷ r) f (bracket-follows r) (λ s m xs. refl) (item-none k r f)

-- A primitive prints a byte at least.
pub code-length : (r : List ℕ) (p : ℕ) → p < 24 → length r < length (code p ++ r)
unfolding code codes
code-length r p = below (λ q. length r < length (code q ++ r)) 24 ((((((((((((((((((((((((tt, n), n), n), n), n), n), n), n), n), n), n), n), n), m), m), m), n), n), n), n), m), n), n), n) p
  where
    n : length r < suc (length r)
    n = omega arith

    m : length r < suc (suc (length r))
    m = omega arith

tree-read-primitive : (p : ℕ) (cs : Trees) → TreeRead (primitive p) cs
unfolding fit_label valid_count print_node clear_node shown keep
tree-read-primitive p cs v r zero a b g c o h n = absurd (omega (arith, code-length r p (ltb-true p 24 a)))
tree-read-primitive p cs v r (suc f) a b g c o h n = rw (is_end-end cs b)
    (read-primitive f r (no-quote r h) p (ltb-true p 24 a) (both (not (eqb p 19 && unknown_next r)) (clear v cs (after_children (primitive p) r)) c).0)

open-fields : (k : ContainerKind) (s : List ℕ) (cs : Trees) → FieldsRead cs → (r : List ℕ) (f : ℕ) → verify_name s ≡ true → fit cs ≡ true → (without_none cs && clear Within cs (end_byte k ∷ r)) ≡ true
    → 2 * length (start_byte k ∷ (s ++ (byte "=" ∷ (print Within cs ++ (end_byte k ∷ r))))) ≤ suc f
    → parse_inner (suc f) (start_byte k ∷ (s ++ (byte "=" ∷ (print Within cs ++ (end_byte k ∷ r))))) ≡ encoding (container k s) (shown Within cs) r
unfolding contained
open-fields k s cs many r f a g c n =
    let t = print Within cs ++ (end_byte k ∷ r) in
    let c' = both (without_none cs) (clear Within cs (end_byte k ∷ r)) c in
    open-named k f (s ++ (byte "=" ∷ t)) s t (name-until k [] s t (lacks-equals s a) (lacks-closer k s a) ∙ name-checked k s (byte "=" ∷ t) t a)
    ∙ ap (contained k s) (many Within k r f g c'.1 c'.0 (omega (arith, length-append s (byte "=" ∷ t))))

open-hidden : (k : ContainerKind) (s r : List ℕ) (f : ℕ) → verify_name s ≡ true → 2 * length (start_byte k ∷ (s ++ (end_byte k ∷ r))) ≤ suc f
    → parse_inner (suc f) (start_byte k ∷ (s ++ (end_byte k ∷ r))) ≡ encoding (container k s) end r
unfolding contained
open-hidden k s r zero a n = absurd (omega (arith, length-append s (end_byte k ∷ r)))
open-hidden k s r (suc zero) a n = absurd (omega (arith, length-append s (end_byte k ∷ r)))
open-hidden k s r (suc (suc f)) a n =
    open-named k (suc (suc f)) (s ++ (end_byte k ∷ r)) s (end_byte k ∷ r) (name-only k [] s r (lacks-equals s a) (lacks-closer k s a) ∙ name-checked k s (end_byte k ∷ r) (end_byte k ∷ r) a)
    ∙ ap (contained k s) (fields-read-end f k r)

pub tree-read-container : (k : ContainerKind) (s : List ℕ) (cs : Trees) → FieldsRead cs → (v : NestingLevel) (r : List ℕ) (f : ℕ) → verify_name s ≡ true → fit cs ≡ true
    → cond (shows_fields v) (without_none cs && clear Within cs (end_byte k ∷ r)) true ≡ true → 2 * length (print_node (container k s) v (print Within cs) ++ r) ≤ f
    → parse_inner f (print_node (container k s) v (print Within cs) ++ r) ≡ encoding (container k s) (keep (shows_fields v) (shown Within cs)) r
unfolding body keep
tree-read-container k s cs many v r zero a g c n = absurd (omega (arith, ap length (container-text k v s (print Within cs) r)))
tree-read-container k s cs many Top r (suc f) a g c n = rw (container-text k Top s (print Within cs) r) (open-fields k s cs many r f a g c (rw (container-text k Top s (print Within cs) r) at n))
tree-read-container k s cs many Within r (suc f) a g c n = rw (container-text k Within s (print Within cs) r)
    (open-fields k s cs many r f a g c (rw (container-text k Within s (print Within cs) r) at n))
tree-read-container k s cs many Bottom r (suc f) a g c n = rw (container-text k Bottom s (print Within cs) r) (open-hidden k s r f a (rw (container-text k Bottom s (print Within cs) r) at n))

pub typed-text : (o n : ℕ) (v : NestingLevel) (c r : List ℕ) → print_node (typed_bit_field o n) v c ++ r ≡ byte "b" ∷ (decimal o ++ (c ++ (decimal n ++ r)))
unfolding print_node
typed-text o n v c r = simp append_assoc

pub array-text : (n : ℕ) (v : NestingLevel) (c r : List ℕ) → print_node (array n) v c ++ r ≡ byte "[" ∷ (decimal n ++ (c ++ (byte "]" ∷ r)))
unfolding print_node
array-text n v c r = simp append_assoc

pub typed-child : (v : NestingLevel) (p : ℕ) (x : List ℕ) → print v (node (primitive p) end end) ++ x ≡ code p ++ x
unfolding print_node
typed-child v p x = print-one v (primitive p) end x

tree-read-typed : (o n : ℕ) (cs : Trees) → TreeRead (typed_bit_field o n) cs
unfolding fit_label valid_count clear_node shown keep
tree-read-typed o n cs v r zero a b g c q h m = absurd (omega (arith, ap length (typed-text o n v (print v cs) r)))
tree-read-typed o n cs v r (suc f) a b g c q h m =
    let a' = both (leb o max_u64) (leb n max_u8) a in
    let i = integral-child cs b g (both (is_integral cs) (clear v cs (after_children (typed_bit_field o n) r)) c).0 in
    rw (typed-text o n v (print v cs) r, i.1, typed-child v i.0 (decimal n ++ r)) (read-typed f o n i.0 r (leb-true o max_u64 a'.0) (leb-true n max_u8 a'.1) h i.2)

array-item : (f n : ℕ) (t : List ℕ) → n ≤ max_u64 → starts_digit t ≡ false → parse_inner (suc f) (byte "[" ∷ (decimal n ++ t)) ≡ item n (parse_inner f t)
unfolding parse_inner begin start in_singles in_others singles others
array-item f n t h d = rw (read-decimal max_u64 n t d ∙ within-limit max_u64 n t h, begin)

-- Whatever follows the bracket.
pub tree-read-array : (n : ℕ) (cs : Trees) → FirstRead cs → (v : NestingLevel) (r : List ℕ) (f : ℕ) → fit_label (array n) ≡ true → is_one cs ≡ true → fit cs ≡ true → ClearTree (array n) v cs r
    → 2 * length (print_node (array n) v (print v cs) ++ r) ≤ f → parse_inner f (print_node (array n) v (print v cs) ++ r) ≡ encoding (array n) (shown v cs) r
unfolding fit_label clear_node after_children
tree-read-array n cs first v r zero a b g c m = absurd (omega (arith, ap length (array-text n v (print v cs) r)))
tree-read-array n cs first v r (suc f) a b g c m =
    let t = print v cs ++ (byte "]" ∷ r) in
    rw (array-text n v (print v cs) r)
    (array-item f n t (leb-true n max_u64 a) (no_digit t (trees-follow v cs (byte "]" ∷ r) g (bracket-follows r)))
    ∙ item-read n cs first b v r f g c (omega (arith, length-append (decimal n) t, ap length (array-text n v (print v cs) r))))

tree-read : (l : Label) (cs : Trees) → FirstRead cs → FieldsRead cs → TreeRead l cs
unfolding print_node shown keep fit_label valid_count is_none clear_node after_children parse_inner begin start in_singles in_others singles others
tree-read (primitive p) cs first many v r f a b g c o h m = tree-read-primitive p cs v r f a b g c o h m
tree-read (bit_field n) cs first many v r zero a b g c o h m = absurd (omega arith)
tree-read (bit_field n) cs first many v r (suc f) a b g c o h m = rw (is_end-end cs b) (read-untyped f n r (leb-true n max_u8 a) h)
tree-read (typed_bit_field o n) cs first many v r f a b g c q h m = tree-read-typed o n cs v r f a b g c q h m
tree-read pointer cs first many v r zero a b g c o h m = absurd (omega arith)
tree-read pointer cs first many v r (suc f) a b g c o h m = held-read pointer cs first b (inside pointer v) r f h g c (omega arith)
tree-read atomic cs first many v r zero a b g c o h m = absurd (omega arith)
tree-read atomic cs first many v r (suc f) a b g c o h m = held-read atomic cs first b (inside atomic v) r f h g c (omega arith)
tree-read (array n) cs first many v r f a b g c o h m = tree-read-array n cs first v r f a b g c m
tree-read (struct s) cs first many v r f a b g c o h m = tree-read-container Struct s cs many v r f a g c m
tree-read (union s) cs first many v r f a b g c o h m = tree-read-container Union s cs many v r f a g c m
tree-read none cs first many v r f a b g c o h m = absurd (true≢false o)

-- A tree that is not None prints a byte at least.
pub node-length : (l : Label) (v : NestingLevel) (c r : List ℕ) → fit_label l ≡ true → is_none l ≡ false → length r < length (print_node l v c ++ r)
unfolding print_node fit_label is_none
node-length (primitive p) v c r a o = code-length r p (ltb-true p 24 a)
node-length (bit_field n) v c r a o = omega (arith, length-append (decimal n) r)
node-length (typed_bit_field x n) v c r a o = omega (arith, length-append (decimal x ++ (c ++ decimal n)) r)
node-length pointer v c r a o = omega (arith, length-append c r)
node-length atomic v c r a o = omega (arith, length-append c r)
node-length (array n) v c r a o = omega (arith, length-append (decimal n ++ (c ++ (bytes "]"))) r)
node-length (struct s) v c r a o = omega (arith, length-append (s ++ (fields v c ++ (bytes "}"))) r)
node-length (union s) v c r a o = omega (arith, length-append (s ++ (fields v c ++ (bytes ")"))) r)
node-length none v c r a o = absurd (true≢false o)

fields-read-node : (l : Label) (cs ts : Trees) → TreeRead l cs → FieldsRead ts → FieldsRead (node l cs ts)
unfolding shown without_none next_item add_item print parse_inner
fields-read-node l cs ts one many v k r zero g c w n = absurd (omega arith)
fields-read-node l cs ts one many v k r (suc f) g c w n =
    let t = print v ts ++ (end_byte k ∷ r) in
    let p = print_node l v (print (inside l v) cs) in
    let n' : 2 * length (p ++ t) < suc f = rw append_assoc at n in
    let g' = fit_parts l cs ts g in
    let c' = clear-parts v l cs ts (end_byte k ∷ r) c in
    let w' = both (not (is_none l)) (without_none ts) w in
    let o = not-true (is_none l) w'.0 in
    let m = trees-follow v ts (end_byte k ∷ r) g'.3 (closer-follows k r) in
    rw (
      append_assoc p (print v ts) (end_byte k ∷ r),
      one v t f g'.0 g'.1 g'.2 c'.0 o m (omega arith),
      many v k r f g'.3 c'.1 w'.1
          (omega (arith, node-length l v (print (inside l v) cs) t g'.0 o)),
    )

fields-read-nil : FieldsRead end
unfolding print shown
fields-read-nil v k r zero g c w n = absurd (omega arith)
fields-read-nil v k r (suc zero) g c w n = absurd (omega arith)
fields-read-nil v k r (suc (suc f)) g c w n = fields-read-end f k r

pub read_back : (ts : Trees) → FirstRead ts × FieldsRead ts
read_back end = (tt, fields-read-nil)
read_back (node l cs ts) = go (read_back cs) (read_back ts)
  where
    go : FirstRead cs × FieldsRead cs → FirstRead ts × FieldsRead ts → TreeRead l cs × FieldsRead (node l cs ts)
    go i j = (tree-read l cs i.0 i.1, fields-read-node l cs ts (tree-read l cs i.0 i.1) j.1)
