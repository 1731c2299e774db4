-- A tree that is read is valid, has good names, and no more nodes and name bytes than the text has room for.
use Prim.Native.Nat.{ℕ, zero, suc, ◌+◌, ◌*◌, ◌-◌, ◌≤◌, ◌<◌}
use native.Mathlib.Omega.{arith}
use mathlib.Core.Path.{◌≡◌, refl, ap, subst}
use mathlib.Core.List.{List, [], ◌∷◌, ◌++◌}
use mathlib.Core.Bool.{Bool, true, false, ◌&&◌}
use lib.Dec.{leb, ltb, eqb}
use lib.ListN.{length, length-append}
use Rattle.kinds.specs.Byte.{byte, is_digit}
use Rattle.kinds.specs.Container.{end_byte, same_container}
use Rattle.kinds.specs.Name.{verify_name}
use Rattle.kinds.specs.Parse as P
use Rattle.kinds.specs.Parse.{container, max_u64, max_u8, Number, value, no_number, more_digits, bounded, parse_number, Parsed, empty, encoding, container_end, array_end, refused, Items}
use Rattle.kinds.specs.Parse.{items, items_refused, Start, single, complex, object, bits, indirection, open_array, close_array, open_container, close_container, nothing, singles}
use Rattle.kinds.specs.Parse.{others, in_others, in_singles, start, leaf, parse_complex, parse_quoted, parse_object, integral, single_kind, typed, untyped, parse_bit_field, parse_bits}
use Rattle.kinds.specs.Parse.{Named, named, unnamed, check_name, parse_name, held, close_item, item, contained, add_item, begin, next_item, parse_inner, parse_items, parse}
use Rattle.kinds.specs.Parse.{strip_leading_qualifiers, Encoded, encoded, not_encoded, encoding_or_none, parse_encoding_or_none, Whole, tree, whole, from_str, FromStart, tree_then}
use Rattle.kinds.specs.Parse.{unknown_digit, from_start, from_start_of_str}
use Rattle.kinds.specs.Sheet.{names_of}
use Rattle.kinds.specs.Sound.{valid_label, valid_count, valid, good_name, good_names}
use Rattle.kinds.specs.Tree.{Label, Trees, end, node, primitive, bit_field, pointer, atomic, array, none, is_end, is_one, count, name}
use Rattle.kinds.specs.declared.ContainerKind.{ContainerKind}
use Rattle.kinds.specs.declared.ContainerKind.TheVariants.{Struct, Union}
use Rattle.kinds.proofs.NameLaws.{name-some}
use Rattle.kinds.proofs.ParseLaws.{strip-shorter}
use Rattle.agreement.specs.Readable.{Readable}

-- ---- What a byte begins.

-- A label that holds one child and has no name.
record Holder (l : Label) : Type 0 where
  label-ok : valid_label l ≡ true
  count-ok : (m : Label) (ds : Trees) → valid_count l (node m ds end) ≡ true
  name-ok : good_name l ≡ true
  no_name : length (name l) ≡ 0

abbrev Sane : Start → Type 0
Sane (single p) = ltb p 24 ≡ true
Sane complex = Unit {0}
Sane object = Unit {0}
Sane bits = Unit {0}
Sane (indirection l) = Holder l
Sane open_array = Unit {0}
Sane close_array = Unit {0}
Sane (open_container k) = Unit {0}
Sane (close_container k) = Unit {0}
Sane nothing = Unit {0}

abbrev SaneOthers : List (ℕ × Start) → Type 0
SaneOthers [] = Unit {0}
SaneOthers (x ∷ xs) = Sane x.1 × SaneOthers xs

abbrev SaneSingles : List (ℕ × ℕ) → Type 0
SaneSingles [] = Unit {0}
SaneSingles (x ∷ xs) = (ltb x.1 24 ≡ true) × SaneSingles xs

in-others : (b : ℕ) (xs : List (ℕ × Start)) → SaneOthers xs → Sane (in_others b xs)
unfolding in_others
in-others b [] a = tt
in-others b (x ∷ xs) a = go (eqb b x.0) refl (in-others b xs a.1)
  where
    go : (t : Bool) → eqb b x.0 ≡ t → Sane (in_others b xs) → Sane (in_others b (x ∷ xs))
    go true e r = rw (e, in_others) a.0
    go false e r = rw (e, in_others) r

holders : Holder pointer × Holder atomic
unfolding valid_label valid_count is_one is_end good_name name
holders = (
  record { label-ok = refl; count-ok = λ m ds. refl; name-ok = refl; no_name = refl },
  record { label-ok = refl; count-ok = λ m ds. refl; name-ok = refl; no_name = refl },
)

sane-others : SaneOthers others
unfolding others
sane-others = (tt, (tt, (tt, (holders.0, (holders.1, (tt, (tt, (tt, (tt, (tt, (tt, tt)))))))))))

in-singles : (b : ℕ) (xs : List (ℕ × ℕ)) → SaneSingles xs → Sane (in_singles b xs)
unfolding in_singles
in-singles b [] a = in-others b others sane-others
in-singles b (x ∷ xs) a = go (eqb b x.0) refl (in-singles b xs a.1)
  where
    go : (t : Bool) → eqb b x.0 ≡ t → Sane (in_singles b xs) → Sane (in_singles b (x ∷ xs))
    go true e r = rw (e, in_singles) a.0
    go false e r = rw (e, in_singles) r

sane : (b : ℕ) → Sane (start b)
unfolding start singles
sane b = in-singles b singles
    (refl, (refl, (refl, (refl, (refl, (refl, (refl, (refl, (refl, (refl, (refl, (refl, (refl, (refl, (refl, (refl, (refl, (refl, (refl, tt)))))))))))))))))))

single-low : (S : Start) → Sane S → ltb (single_kind S) 24 ≡ true
unfolding single_kind
single-low (single p) h = h
single-low complex h = refl
single-low object h = refl
single-low bits h = refl
single-low (indirection l) h = refl
single-low open_array h = refl
single-low close_array h = refl
single-low (open_container k) h = refl
single-low (close_container k) h = refl
single-low nothing h = refl

-- One more node than bytes may be made, unless the bytes begin with a closer or are none.
unfoldable spare : Start → ℕ
spare (single p) = 1
spare complex = 1
spare object = 1
spare bits = 1
spare (indirection l) = 1
spare open_array = 1
spare close_array = 0
spare (open_container k) = 1
spare (close_container k) = 0
spare nothing = 1

unfoldable opens : List ℕ → ℕ
opens [] = 0
opens (b ∷ s) = spare (start b)

spare-le : (S : Start) → spare S ≤ 1
unfolding spare
spare-le (single p) = omega arith
spare-le complex = omega arith
spare-le object = omega arith
spare-le bits = omega arith
spare-le (indirection l) = omega arith
spare-le open_array = omega arith
spare-le close_array = omega arith
spare-le (open_container k) = omega arith
spare-le (close_container k) = omega arith
spare-le nothing = omega arith

opens-le : (s : List ℕ) → opens s ≤ 1
unfolding opens
opens-le [] = omega arith
opens-le (b ∷ s) = spare-le (start b)

opens-none : (s : List ℕ) → length s ≡ 0 → opens s ≡ 0
unfolding opens
opens-none [] h = refl
opens-none (b ∷ s) h = absurd (omega arith)

-- ---- Numbers and names.

abbrev DigitsOk : List ℕ → Number → Type 0
DigitsOk s (value n t) = length t ≤ length s
DigitsOk s (no_number e t) = Unit {0}

longer : (b : ℕ) (s : List ℕ) (q : Number) → DigitsOk s q → DigitsOk (b ∷ s) q
longer b s (value n t) h = omega arith
longer b s (no_number e t) h = tt

digits-ok : (s : List ℕ) (n : ℕ) → DigitsOk s (more_digits n s)
unfolding more_digits
digits-ok [] n = omega arith
digits-ok (b ∷ s) n = go (is_digit b) refl (λ m. digits-ok s m)
  where
    go : (t : Bool) → is_digit b ≡ t → ((m : ℕ) → DigitsOk s (more_digits m s)) → DigitsOk (b ∷ s) (more_digits n (b ∷ s))
    go true e r = rw (e, more_digits) (longer b s (more_digits (n * 10 + (b - byte "0")) s) (r (n * 10 + (b - byte "0"))))
    go false e r = rw (e, more_digits) (omega arith)

abbrev pub NumberOk : ℕ → List ℕ → Number → Type 0
NumberOk limit s (value n t) = (leb n limit ≡ true) × (length t < length s)
NumberOk limit s (no_number e t) = Unit {0}

bounded-ok : (limit b : ℕ) (s : List ℕ) (q : Number) → DigitsOk s q → NumberOk limit (b ∷ s) (bounded limit q)
unfolding bounded
bounded-ok limit b s (value n t) h = go (leb n limit) refl
  where
    go : (x : Bool) → leb n limit ≡ x → NumberOk limit (b ∷ s) (bounded limit (value n t))
    go true e = rw (e, bounded) (e, omega arith)
    go false e = rw (e, bounded) tt
bounded-ok limit b s (no_number e t) h = tt

pub digit-read : (n b : ℕ) → is_digit b ≡ true → (s : List ℕ) → more_digits n (b ∷ s) ≡ more_digits (n * 10 + (b - byte "0")) s
unfolding more_digits
digit-read n b e s = rw (e, more_digits)

pub number_ok : (limit : ℕ) (s : List ℕ) → NumberOk limit s (parse_number limit s)
unfolding parse_number
number_ok limit [] = tt
number_ok limit (b ∷ s) = go (is_digit b) refl
  where
    go : (t : Bool) → is_digit b ≡ t → NumberOk limit (b ∷ s) (parse_number limit (b ∷ s))
    go true e = rw (e, parse_number) (rw (digit-read 0 b e s) (bounded-ok limit b s (more_digits (0 * 10 + (b - byte "0")) s) (digits-ok s (0 * 10 + (b - byte "0")))))
    go false e = rw (e, parse_number) tt

-- A name of good bytes, and what is left has room beside it.
abbrev pub NamedOk : ℕ → Named → Type 0
NamedOk n (named m t) = (verify_name m ≡ true) × (length m + length t ≤ n)
NamedOk n (unnamed e t) = Unit {0}

check-ok : (k : ContainerKind) (m here next : List ℕ) (n : ℕ) → length m + length next ≤ n → NamedOk n (check_name k m here next)
unfolding check_name
check-ok k m here next n h = go (verify_name m) refl
  where
    go : (t : Bool) → verify_name m ≡ t → NamedOk n (check_name k m here next)
    go true e = rw (e, check_name) (e, h)
    go false e = rw (e, check_name) tt

pub name-ok : (k : ContainerKind) (s m : List ℕ) (n : ℕ) → length m + length s ≤ n → NamedOk n (parse_name k m s)
unfolding parse_name
name-ok k [] m n h = tt
name-ok k (b ∷ s) m n h = go (eqb b (byte "=")) refl (eqb b (end_byte k)) refl (λ j. name-ok k s (m ++ (b ∷ [])) n j)
  where
    go : (x : Bool) → eqb b (byte "=") ≡ x → (y : Bool) → eqb b (end_byte k) ≡ y → (length (m ++ (b ∷ [])) + length s ≤ n → NamedOk n (parse_name k (m ++ (b ∷ [])) s))
        → NamedOk n (parse_name k m (b ∷ s))
    go true e y f r = rw (e, parse_name) (check-ok k m (b ∷ s) s n (omega arith))
    go false e true f r = rw (e, parse_name) (rw f (check-ok k m (b ∷ s) (b ∷ s) n h))
    go false e false f r = rw (e, parse_name) (rw f (r (omega (arith, length-append m (b ∷ [])))))

-- ---- What is read of a text `s`, and what is left of it.

pub record Found (s : List ℕ) (l : Label) (cs : Trees) (t : List ℕ) : Type 0 where
  node_ok : (valid_label l && valid_count l cs) ≡ true
  below-ok : valid cs ≡ true
  name-good : good_name l ≡ true
  names-good : good_names cs ≡ true
  pub on : length t < length s
  few-nodes : suc (count cs) + (length t + opens t) ≤ length s + opens s
  few-names : length (name l) + length (names_of cs) + length t ≤ length s

pub record Closed (s t : List ℕ) : Type 0 where
  no-spare : opens s ≡ 0
  next : suc (length t) ≡ length s

abbrev pub Well : List ℕ → Parsed → Type 0
Well s empty = length s ≡ 0
Well s (encoding l cs t) = Found s l cs t
Well s (container_end k t) = Closed s t
Well s (array_end t) = Closed s t
Well s (refused e t) = Unit {0}

record FoundItems (s : List ℕ) (ts : Trees) (t : List ℕ) : Type 0 where
  all-ok : valid ts ≡ true
  all-good : good_names ts ≡ true
  on : length t < length s
  few-nodes : count ts + suc (length t) ≤ length s + opens s
  few-names : length (names_of ts) + length t ≤ length s

abbrev WellItems : List ℕ → Items → Type 0
WellItems s (items ts t) = FoundItems s ts t
WellItems s (items_refused e t) = Unit {0}

-- ---- Leaves.

-- A byte with which something begins, the text after it, and what is left after a type that began with it.
module _ (b : ℕ) (s : List ℕ) (o : opens (b ∷ s) ≡ 1) where
  leaf-found : (l : Label) (t : List ℕ) → valid_label l ≡ true → valid_count l end ≡ true → good_name l ≡ true → length (name l) ≡ 0 → length t ≤ length s → Found (b ∷ s) l end t
  unfolding valid good_names names_of count
  leaf-found l t v c g n h = record {
    node_ok = rw (v, c);
    below-ok = refl;
    name-good = g;
    names-good = refl;
    on = omega arith;
    few-nodes = omega (arith, opens-le t);
    few-names = omega arith;
  }

  code-found : (p : ℕ) (t : List ℕ) → ltb p 24 ≡ true → length t ≤ length s → Well (b ∷ s) (leaf (primitive p) t)
  unfolding leaf valid_label valid_count is_end good_name name
  code-found p t v h = leaf-found (primitive p) t v refl refl refl h

  complex-found : Well (b ∷ s) (parse_complex s)
  unfolding parse_complex
  complex-found = go s (λ p t v h. code-found p t v h)
    where
      go : (u : List ℕ) → ((p : ℕ) (t : List ℕ) → ltb p 24 ≡ true → length t ≤ length u → Well (b ∷ s) (leaf (primitive p) t)) → Well (b ∷ s) (parse_complex u)
      go [] f = tt
      go (c ∷ u) f = cases (eqb c (byte "f")) refl (eqb c (byte "d")) refl (eqb c (byte "D")) refl
        where
          cases : (x : Bool) → eqb c (byte "f") ≡ x → (y : Bool) → eqb c (byte "d") ≡ y → (z : Bool) → eqb c (byte "D") ≡ z → Well (b ∷ s) (parse_complex (c ∷ u))
          cases true e y g z i = rw (e, parse_complex) (f 13 u refl (omega arith))
          cases false e true g z i = rw (e, parse_complex) (rw g (f 14 u refl (omega arith)))
          cases false e false g true i = rw (e, parse_complex) (rw g (rw i (f 15 u refl (omega arith))))
          cases false e false g false i = rw (e, parse_complex) (rw g (rw i tt))

  quoted-found : (u : List ℕ) → length u ≤ length s → Well (b ∷ s) (parse_quoted u)
  unfolding parse_quoted
  quoted-found [] h = tt
  quoted-found (c ∷ u) h = go (eqb c (byte "\"")) refl (quoted-found u (omega arith))
    where
      go : (x : Bool) → eqb c (byte "\"") ≡ x → Well (b ∷ s) (parse_quoted u) → Well (b ∷ s) (parse_quoted (c ∷ u))
      go true e r = rw (e, parse_quoted) (code-found 19 u refl (omega arith))
      go false e r = rw (e, parse_quoted) r

  object-found : (u : List ℕ) → length u ≤ length s → Well (b ∷ s) (parse_object u)
  unfolding parse_object
  object-found [] h = code-found 19 [] refl h
  object-found (c ∷ u) h = go (eqb c (byte "?")) refl (eqb c (byte "\"")) refl
    where
      go : (x : Bool) → eqb c (byte "?") ≡ x → (y : Bool) → eqb c (byte "\"") ≡ y → Well (b ∷ s) (parse_object (c ∷ u))
      go true e y f = rw (e, parse_object) (code-found 20 u refl (omega arith))
      go false e true f = rw (e, parse_object) (rw f (quoted-found u (omega arith)))
      go false e false f = rw (e, parse_object) (rw f (code-found 19 (c ∷ u) refl h))

  -- ---- Bitfields.

  untyped-found : (n : ℕ) (t : List ℕ) → length t ≤ length s → Well (b ∷ s) (untyped n t)
  unfolding untyped leaf valid_label valid_count is_end good_name name
  untyped-found n t h = go (leb n max_u8) refl
    where
      go : (x : Bool) → leb n max_u8 ≡ x → Well (b ∷ s) (untyped n t)
      go true e = rw (e, untyped) (leaf-found (bit_field n) t e refl refl refl h)
      go false e = rw (e, untyped) tt

  typed-found : (n p : ℕ) (u : List ℕ) → leb n max_u64 ≡ true → ltb p 24 ≡ true → suc (length u) ≤ length s → (q : Number) → NumberOk max_u8 u q → Well (b ∷ s) (typed n p q)
  unfolding typed valid valid_label valid_count is_one is_end good_names good_name names_of name count
  typed-found n p u v c h (value m t) k = record {
    node_ok = rw (v, k.0);
    below-ok = rw c;
    name-good = refl;
    names-good = refl;
    on = omega (arith, k.1);
    few-nodes = omega (arith, k.1, opens-le t);
    few-names = omega (arith, k.1);
  }
  typed-found n p u v c h (no_number e t) k = tt

  bit-field-found : (n : ℕ) (u : List ℕ) → leb n max_u64 ≡ true → length u ≤ length s → Well (b ∷ s) (parse_bit_field n u)
  unfolding parse_bit_field
  bit-field-found n [] v h = untyped-found n [] h
  bit-field-found n (c ∷ []) v h = untyped-found n (c ∷ []) h
  bit-field-found n (c ∷ d ∷ u) v h = go (integral c && is_digit d) refl
    where
      go : (x : Bool) → (integral c && is_digit d) ≡ x → Well (b ∷ s) (parse_bit_field n (c ∷ d ∷ u))
      go true e =
          rw (e, parse_bit_field)
          (typed-found n (single_kind (start c)) (d ∷ u) v (single-low (start c) (sane c)) (omega arith) (parse_number max_u8 (d ∷ u)) (number_ok max_u8 (d ∷ u)))
      go false e = rw (e, parse_bit_field) (untyped-found n (c ∷ d ∷ u) h)

  bits-found : (q : Number) → NumberOk max_u64 s q → Well (b ∷ s) (parse_bits q)
  unfolding parse_bits
  bits-found (value n t) k = bit-field-found n t k.0 (omega (arith, k.1))
  bits-found (no_number e t) k = tt

  -- ---- What holds others.

  -- One None is held, and `t` is left.
  over_none : (l : Label) (t : List ℕ) → valid_label l ≡ true → valid_count l (node none end end) ≡ true → good_name l ≡ true → length (name l) ≡ 0 → length t + opens t ≤ length s
      → Found (b ∷ s) l (node none end end) t
  unfolding valid valid_label valid_count is_end good_names good_name names_of name count
  over_none l t v c g n h = record {
    node_ok = rw (v, c);
    below-ok = refl;
    name-good = g;
    names-good = refl;
    on = omega arith;
    few-nodes = omega arith;
    few-names = omega arith;
  }

  -- A type is held that was read from `u`, and `t` is left.
  over-one : (l : Label) (u : List ℕ) (m : Label) (ds : Trees) (r t : List ℕ) → valid_label l ≡ true → valid_count l (node m ds end) ≡ true → good_name l ≡ true → length (name l) ≡ 0
      → Found u m ds r → length u + (length t + opens t) ≤ length s + (length r + opens r) → length u + length t ≤ length s + length r → length t ≤ length s → Found (b ∷ s) l (node m ds end) t
  unfolding valid valid_label valid_count is_end good_names good_name names_of name count
  over-one l u m ds r t v c g n f h i j = record {
    node_ok = rw (v, c);
    below-ok = rw (f.node_ok, f.below-ok);
    name-good = g;
    names-good = rw (f.name-good, f.names-good);
    on = omega arith;
    few-nodes = omega (arith, f.few-nodes, opens-le u);
    few-names = omega (arith, f.few-names, length-append (name m) (names_of ds ++ []), length-append (names_of ds) []);
  }

  held_found : (l : Label) → Holder l → (q : Parsed) → Well s q → Well (b ∷ s) (held l s q)
  unfolding held
  held_found l g empty w = over_none l s g.label-ok (g.count-ok none end) g.name-ok g.no_name (omega (arith, opens-none s w))
  held_found l g (encoding m ds t) w = over-one l s m ds t t g.label-ok (g.count-ok m ds) g.name-ok g.no_name w (omega arith) (omega arith) (omega (arith, w.on))
  held_found l g (container_end k t) w = over_none l s g.label-ok (g.count-ok none end) g.name-ok g.no_name (omega (arith, w.no-spare))
  held_found l g (array_end t) w = over_none l s g.label-ok (g.count-ok none end) g.name-ok g.no_name (omega (arith, w.no-spare))
  held_found l g (refused e t) w = tt

  close-found : (n : ℕ) (u : List ℕ) (m : Label) (ds : Trees) (t : List ℕ) → leb n max_u64 ≡ true → suc (length u) ≤ length s → Found u m ds t → Well (b ∷ s) (close_item n m ds t)
  unfolding close_item valid_label valid_count is_one is_end good_name name
  close-found n u m ds [] v h f = tt
  close-found n u m ds (c ∷ t) v h f = go (eqb c (byte "]")) refl
    where
      go : (x : Bool) → eqb c (byte "]") ≡ x → Well (b ∷ s) (close_item n m ds (c ∷ t))
      go true e = rw (e, close_item) (over-one (array n) u m ds (c ∷ t) t v refl refl refl f (omega (arith, opens-le t)) (omega arith) (omega (arith, f.on)))
      go false e = rw (e, close_item) tt

  item-found : (n : ℕ) (u : List ℕ) → leb n max_u64 ≡ true → suc (length u) ≤ length s → (q : Parsed) → Well u q → Well (b ∷ s) (item n q)
  unfolding item valid_label valid_count is_one is_end good_name name
  item-found n u v h empty w = tt
  item-found n u v h (encoding m ds t) w = close-found n u m ds t v h w
  item-found n u v h (container_end k t) w = tt
  item-found n u v h (array_end t) w = over_none (array n) t v refl refl refl (omega (arith, w.next, opens-le t))
  item-found n u v h (refused e t) w = tt

  array-found : (inner : List ℕ → Parsed) → ((t : List ℕ) → length t ≤ length s → Well t (inner t)) → (q : Number) → NumberOk max_u64 s q
      → Well (b ∷ s) (elim q [ value n t ↦ item n (inner t) | no_number e t ↦ refused e t ])
  array-found inner w (value n t) k = item-found n t k.0 k.1 (inner t) (w t (omega (arith, k.1)))
  array-found inner w (no_number e t) k = tt

  container-ok : (k : ContainerKind) (m : List ℕ) (ts : Trees) → verify_name m ≡ true → (valid_label (container k m) && valid_count (container k m) ts ≡ true) ×
      (good_name (container k m) ≡ true) × (name (container k m) ≡ m)
  unfolding valid_label valid_count good_name name
  container-ok Struct m ts g = (refl, g, refl)
  container-ok Union m ts g = (refl, g, refl)

  contained-found : (k : ContainerKind) (m u : List ℕ) → verify_name m ≡ true → length m + length u ≤ length s → (q : Items) → WellItems u q → Well (b ∷ s) (contained k m q)
  unfolding contained
  contained-found k m u g h (items ts t) w =
      let c = container-ok k m ts g in
      let n = name-some m g in
      let e = ap length c.2 in
      record {
        node_ok = c.0;
        below-ok = w.all-ok;
        name-good = c.1;
        names-good = w.all-good;
        on = omega (arith, w.on);
        few-nodes = omega (arith, w.few-nodes, opens-le t, opens-le u);
        few-names = omega (arith, w.few-names);
      }
  contained-found k m u g h (items_refused e t) w = tt

  named-found : (k : ContainerKind) (fields : ContainerKind → List ℕ → Items) → ((t : List ℕ) → length t ≤ length s → WellItems t (fields k t)) → (q : Named) → NamedOk (length s) q
      → Well (b ∷ s) (elim q [ named m t ↦ contained k m (fields k t) | unnamed e t ↦ refused e t ])
  named-found k fields w (named m t) h = contained-found k m t h.0 h.1 (fields k t) (w t (omega (arith, h.1)))
  named-found k fields w (unnamed e t) h = tt

-- ---- Reading, by what a byte begins.

module _ (b : ℕ) (s : List ℕ) (inner : List ℕ → Parsed) (fields : ContainerKind → List ℕ → Items)
    (types : (t : List ℕ) → length t ≤ length s → Well t (inner t)) (parts : (k : ContainerKind) (t : List ℕ) → length t ≤ length s → WellItems t (fields k t)) where
  begin-well : (S : Start) → start b ≡ S → Sane S → Well (b ∷ s) (begin b S s inner fields)
  unfolding begin opens spare
  begin-well (single p) e h = code-found b s (ap spare e) p s h (omega arith)
  begin-well complex e h = complex-found b s (ap spare e)
  begin-well object e h = object-found b s (ap spare e) s (omega arith)
  begin-well bits e h = bits-found b s (ap spare e) (parse_number max_u64 s) (number_ok max_u64 s)
  begin-well (indirection l) e h = held_found b s (ap spare e) l h (inner s) (types s (omega arith))
  begin-well open_array e h = array-found b s (ap spare e) inner types (parse_number max_u64 s) (number_ok max_u64 s)
  begin-well close_array e h = record { no-spare = ap spare e; next = refl }
  begin-well (open_container k) e h = named-found b s (ap spare e) k fields (parts k) (parse_name k [] s) (name-ok k s [] (length s) (omega arith))
  begin-well (close_container k) e h = record { no-spare = ap spare e; next = refl }
  begin-well nothing e h = tt

-- ---- Items.

add-well : (s t : List ℕ) (m : Label) (ds : Trees) → Found s m ds t → (q : Items) → WellItems t q → WellItems s (add_item m ds q)
unfolding add_item valid good_names names_of count
add-well s t m ds f (items ts r) w = record {
  all-ok = rw (f.node_ok, f.below-ok, w.all-ok);
  all-good = rw (f.name-good, f.names-good, w.all-good);
  on = omega (arith, f.on, w.on);
  few-nodes = omega (arith, f.few-nodes, w.few-nodes);
  few-names = omega (arith, f.few-names, w.few-names, length-append (name m) (names_of ds ++ names_of ts), length-append (names_of ds) (names_of ts));
}
add-well s t m ds f (items_refused e r) w = tt

no_items : (s t : List ℕ) → Closed s t → FoundItems s end t
unfolding valid good_names names_of count
no_items s t h = record {
  all-ok = refl;
  all-good = refl;
  on = omega (arith, h.next);
  few-nodes = omega (arith, h.next);
  few-names = omega (arith, h.next);
}

next-well : (k : ContainerKind) (s : List ℕ) (more : List ℕ → Items) → ((t : List ℕ) → length t < length s → WellItems t (more t)) → (q : Parsed) → Well s q → WellItems s (next_item k q more)
unfolding next_item
next-well k s more w empty h = tt
next-well k s more w (encoding m ds t) h = add-well s t m ds h (more t) (w t h.on)
next-well k s more w (container_end j t) h = go (same_container k j) refl
  where
    go : (x : Bool) → same_container k j ≡ x → WellItems s (next_item k (container_end j t) more)
    go true e = rw (e, next_item) (no_items s t h)
    go false e = rw (e, next_item) tt
next-well k s more w (array_end t) h = tt
next-well k s more w (refused e t) h = tt

-- ---- Both, by the fuel.

mutual
  unfolding parse_inner parse_items

  pub well : (f : ℕ) (s : List ℕ) → length s + length s ≤ f → Well s (parse_inner f s)
  well zero s h = omega arith
  well (suc f) [] h = refl
  well (suc f) (b ∷ s) h =
      begin-well b s (λ t. parse_inner f t) (λ k t. parse_items f k t) (λ t l. well f t (omega arith)) (λ k t l. well-items f k t (omega arith)) (start b) refl (sane b)

  well-items : (f : ℕ) (k : ContainerKind) (s : List ℕ) → length s + length s < f → WellItems s (parse_items f k s)
  well-items zero k s h = tt
  well-items (suc f) k s h = next-well k s (λ t. parse_items f k t) (λ t l. well-items f k t (omega arith)) (parse_inner f s) (well f s (omega arith))

-- ---- The two readings.

abbrev EncodedOk : ℕ → Encoded → Type 0
EncodedOk n (encoded l cs t) = Readable n (node l cs end)
EncodedOk n (not_encoded e t) = Unit {0}

readable-none : (n : ℕ) → Readable n (node none end end)
unfolding is_one is_end valid valid_label valid_count good_names good_name names_of name count
readable-none n = record { one = refl; valid-tree = refl; good-names = refl; few-nodes = omega arith; few-names = omega arith }

or-none : (n : ℕ) (s : List ℕ) → length s ≤ n → (q : Parsed) → Well s q → EncodedOk n (encoding_or_none q)
unfolding encoding_or_none is_one is_end valid good_names names_of count
or-none n s h empty w = readable-none n
or-none n s h (encoding l cs t) w = record {
  one = refl;
  valid-tree = rw (w.node_ok, w.below-ok);
  good-names = rw (w.name-good, w.names-good);
  few-nodes = omega (arith, w.few-nodes, opens-le s);
  few-names = omega (arith, w.few-names, length-append (name l) (names_of cs ++ []), length-append (names_of cs) []);
}
or-none n s h (container_end k t) w = tt
or-none n s h (array_end t) w = tt
or-none n s h (refused e t) w = tt

encoded-ok : (text : List ℕ) → EncodedOk (length text) (parse_encoding_or_none text)
unfolding parse_encoding_or_none parse
encoded-ok text =
    let s = strip_leading_qualifiers text in
    or-none (length text) s (strip-shorter text) (parse_inner (length s + length s) s) (well (length s + length s) s (omega arith))

abbrev WholeOk : ℕ → Whole → Type 0
WholeOk n (tree l cs) = Readable n (node l cs end)
WholeOk n (P.Whole.refusal e at) = Unit {0}

whole-ok : (n k : ℕ) (q : Encoded) → EncodedOk n q → WholeOk n (whole k q)
unfolding whole
whole-ok n k (encoded l cs []) h = h
whole-ok n k (encoded l cs (b ∷ t)) h = tt
whole-ok n k (not_encoded e t) h = tt

-- What whole-text reading gives.
pub whole-readable : (text : List ℕ) → WholeOk (length text) (from_str text)
unfolding from_str
whole-readable text = whole-ok (length text) (length text) (parse_encoding_or_none text) (encoded-ok text)

abbrev StartOk : ℕ → FromStart → Type 0
StartOk n (tree_then l cs t) = Readable n (node l cs end)
StartOk n (P.FromStart.refusal e at) = Unit {0}

start-ok : (n k : ℕ) (q : Encoded) → EncodedOk n q → StartOk n (from_start k q)
unfolding from_start
start-ok n k (encoded l cs t) h = h
start-ok n k (not_encoded e t) h = go (unknown_digit e) refl
  where
    go : (x : Bool) → unknown_digit e ≡ x → StartOk n (from_start k (not_encoded e t))
    go true q = rw (q, from_start) (readable-none n)
    go false q = rw (q, from_start) tt

-- What reading from the start gives.
pub start-readable : (text : List ℕ) → StartOk (length text) (from_start_of_str text)
unfolding from_start_of_str
start-readable text = start-ok (length text) (length text) (parse_encoding_or_none text) (encoded-ok text)

pub tree-readable : (text : List ℕ) (l : Label) (cs : Trees) → from_str text ≡ tree l cs → Readable (length text) (node l cs end)
tree-readable text l cs e = subst (WholeOk (length text)) e (whole-readable text)

pub part-readable : (text : List ℕ) (l : Label) (cs : Trees) (rest : List ℕ) → from_start_of_str text ≡ tree_then l cs rest → Readable (length text) (node l cs end)
part-readable text l cs rest e = subst (StartOk (length text)) e (start-readable text)
