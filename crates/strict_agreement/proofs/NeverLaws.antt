-- Whole-text reading never refuses by 19.
use Prim.Native.Nat.{ℕ, zero, suc, ◌+◌, ◌-◌, ◌*◌}
use mathlib.Core.Path.{◌≡◌, refl, subst}
use mathlib.Core.Bool.{Bool, true, false, ◌&&◌, true≢false}
use mathlib.Core.List.{List, [], ◌∷◌, ◌++◌}
use lib.Dec.{leb, eqb}
use lib.ListN.{length}
use Rattle.kinds.specs.Byte.{byte, is_digit}
use Rattle.kinds.specs.Container.{end_byte, same_container}
use Rattle.kinds.specs.Name.{verify_name}
use Rattle.kinds.specs.Parse.{max_u64, max_u8, Number, value, no_number, more_digits, bounded, parse_number, Parsed, empty, encoding, container_end, array_end, refused, Items, items}
use Rattle.kinds.specs.Parse.{items_refused, Start, single, complex, object, bits, indirection, open_array, close_array, open_container, close_container, nothing, start, leaf}
use Rattle.kinds.specs.Parse.{parse_complex, parse_quoted, parse_object, integral, single_kind, typed, untyped, parse_bit_field, parse_bits, Named, named, unnamed, check_name, parse_name}
use Rattle.kinds.specs.Parse.{held, close_item, item, contained, add_item, begin, next_item, parse_inner, parse_items, parse, strip_leading_qualifiers, encoding_or_none}
use Rattle.kinds.specs.Parse.{parse_encoding_or_none, Whole, tree, refusal, whole, from_str}
use Rattle.kinds.specs.Refusal.{number}
use Rattle.kinds.specs.Tree.{Label, Trees, end, node, primitive, bit_field, array}
use Rattle.kinds.specs.declared.ContainerKind.{ContainerKind}
use Rattle.kinds.specs.declared.ErrorKind.{ErrorKind}
use Rattle.kinds.specs.declared.ErrorKind.TheVariants.{ExpectedInteger, IntegerTooLarge, WrongEndArray, InvalidIdentifier, Unknown, SurplusZero}
use Rattle.kinds.specs.declared.Refusal.TheVariants.{Parse}

-- An error that is not 19.
abbrev Ordinary : ErrorKind → Type 0
Ordinary e = eqb (number (Parse e 0)) 19 ≡ false

-- What is read may be a refusal, but none by 19.
abbrev PlainNumber : Number → Type 0
PlainNumber (value n t) = Unit {0}
PlainNumber (no_number e t) = Ordinary e

abbrev PlainName : Named → Type 0
PlainName (named m t) = Unit {0}
PlainName (unnamed e t) = Ordinary e

abbrev Plain : Parsed → Type 0
Plain empty = Unit {0}
Plain (encoding l cs t) = Unit {0}
Plain (container_end k t) = Unit {0}
Plain (array_end t) = Unit {0}
Plain (refused e t) = Ordinary e

abbrev PlainItems : Items → Type 0
PlainItems (items ts t) = Unit {0}
PlainItems (items_refused e t) = Ordinary e

bounded-plain : (limit : ℕ) (q : Number) → PlainNumber q → PlainNumber (bounded limit q)
unfolding bounded
bounded-plain limit (value n s) h = go (leb n limit)
  where
    go : (x : Bool) → PlainNumber (elim x [ true ↦ value n s | false ↦ no_number IntegerTooLarge s ])
    go true = tt
    go false = refl
bounded-plain limit (no_number e s) h = h

digits-plain : (s : List ℕ) (n : ℕ) → PlainNumber (more_digits n s)
unfolding more_digits
digits-plain [] n = tt
digits-plain (b ∷ s) n = go (is_digit b) (digits-plain s (n * 10 + (b - byte "0")))
  where
    go : (x : Bool) → PlainNumber (more_digits (n * 10 + (b - byte "0")) s) → PlainNumber (elim x [ true ↦ more_digits (n * 10 + (b - byte "0")) s | false ↦ value n (b ∷ s) ])
    go true h = h
    go false h = tt

number-plain : (limit : ℕ) (s : List ℕ) → PlainNumber (parse_number limit s)
unfolding parse_number
number-plain limit [] = refl
number-plain limit (b ∷ s) = go (is_digit b)
  where
    go : (x : Bool) → PlainNumber (elim x [ true ↦ bounded limit (more_digits 0 (b ∷ s)) | false ↦ no_number ExpectedInteger (b ∷ s) ])
    go true = bounded-plain limit (more_digits 0 (b ∷ s)) (digits-plain (b ∷ s) 0)
    go false = refl

check-plain : (k : ContainerKind) (m here next : List ℕ) → PlainName (check_name k m here next)
unfolding check_name
check-plain k m here next = go (verify_name m)
  where
    go : (x : Bool) → PlainName (elim x [ true ↦ named m next | false ↦ unnamed (InvalidIdentifier k) here ])
    go true = tt
    go false = refl

name-plain : (k : ContainerKind) (m s : List ℕ) → PlainName (parse_name k m s)
unfolding parse_name
name-plain k m [] = refl
name-plain k m (b ∷ s) = go (eqb b (byte "=")) (eqb b (end_byte k)) (name-plain k (m ++ (b ∷ [])) s)
  where
    go : (x y : Bool) → PlainName (parse_name k (m ++ (b ∷ [])) s)
        → PlainName (elim x [ true ↦ check_name k m (b ∷ s) s | false ↦ elim y [ true ↦ check_name k m (b ∷ s) (b ∷ s) | false ↦ parse_name k (m ++ (b ∷ [])) s ] ])
    go true y r = check-plain k m (b ∷ s) s
    go false true r = check-plain k m (b ∷ s) (b ∷ s)
    go false false r = r

complex-plain : (s : List ℕ) → Plain (parse_complex s)
unfolding parse_complex leaf
complex-plain [] = refl
complex-plain (b ∷ s) = go (eqb b (byte "f")) refl (eqb b (byte "d")) refl (eqb b (byte "D")) refl
  where
    go : (x : Bool) → eqb b (byte "f") ≡ x → (y : Bool) → eqb b (byte "d") ≡ y → (z : Bool) → eqb b (byte "D") ≡ z → Plain (parse_complex (b ∷ s))
    go true e y f z g = rw (e, parse_complex) tt
    go false e true f z g = rw (e, f, parse_complex) tt
    go false e false f true g = rw (e, f, g, parse_complex) tt
    go false e false f false g = rw (e, f, g, parse_complex) refl

quoted-plain : (s : List ℕ) → Plain (parse_quoted s)
unfolding parse_quoted leaf
quoted-plain [] = refl
quoted-plain (b ∷ s) = go (eqb b (byte "\"")) (quoted-plain s)
  where
    go : (x : Bool) → Plain (parse_quoted s) → Plain (elim x [ true ↦ leaf (primitive 19) s | false ↦ parse_quoted s ])
    go true h = tt
    go false h = h

object-plain : (s : List ℕ) → Plain (parse_object s)
unfolding parse_object leaf
object-plain [] = tt
object-plain (b ∷ s) = go (eqb b (byte "?")) (eqb b (byte "\""))
  where
    go : (x y : Bool) → Plain (elim x [ true ↦ leaf (primitive 20) s | false ↦ elim y [ true ↦ parse_quoted s | false ↦ leaf (primitive 19) (b ∷ s) ] ])
    go true y = tt
    go false true = quoted-plain s
    go false false = tt

untyped-plain : (n : ℕ) (s : List ℕ) → Plain (untyped n s)
unfolding untyped leaf
untyped-plain n s = go (leb n max_u8)
  where
    go : (x : Bool) → Plain (elim x [ true ↦ leaf (bit_field n) s | false ↦ refused IntegerTooLarge s ])
    go true = tt
    go false = refl

typed-plain : (o p : ℕ) (q : Number) → PlainNumber q → Plain (typed o p q)
unfolding typed
typed-plain o p (value n s) h = tt
typed-plain o p (no_number e s) h = h

bit-field-plain : (n : ℕ) (s : List ℕ) → Plain (parse_bit_field n s)
unfolding parse_bit_field
bit-field-plain n [] = untyped-plain n []
bit-field-plain n (b ∷ []) = untyped-plain n (b ∷ [])
bit-field-plain n (b ∷ c ∷ s) = go (integral b && is_digit c)
  where
    go : (x : Bool) → Plain (elim x [ true ↦ typed n (single_kind (start b)) (parse_number max_u8 (c ∷ s)) | false ↦ untyped n (b ∷ c ∷ s) ])
    go true = typed-plain n (single_kind (start b)) (parse_number max_u8 (c ∷ s)) (number-plain max_u8 (c ∷ s))
    go false = untyped-plain n (b ∷ c ∷ s)

bits-plain : (q : Number) → PlainNumber q → Plain (parse_bits q)
unfolding parse_bits
bits-plain (value n s) h = bit-field-plain n s
bits-plain (no_number e s) h = h

held_plain : (l : Label) (s : List ℕ) (q : Parsed) → Plain q → Plain (held l s q)
unfolding held
held_plain l s empty h = tt
held_plain l s (encoding m ds t) h = tt
held_plain l s (container_end k t) h = tt
held_plain l s (array_end t) h = tt
held_plain l s (refused e t) h = h

close-plain : (n : ℕ) (m : Label) (ds : Trees) (s : List ℕ) → Plain (close_item n m ds s)
unfolding close_item
close-plain n m ds [] = refl
close-plain n m ds (b ∷ s) = go (eqb b (byte "]"))
  where
    go : (x : Bool) → Plain (elim x [ true ↦ encoding (array n) (node m ds end) s | false ↦ refused WrongEndArray (b ∷ s) ])
    go true = tt
    go false = refl

item-plain : (n : ℕ) (q : Parsed) → Plain q → Plain (item n q)
unfolding item
item-plain n empty h = refl
item-plain n (encoding m ds t) h = close-plain n m ds t
item-plain n (container_end k t) h = refl
item-plain n (array_end t) h = tt
item-plain n (refused e t) h = h

contained-plain : (k : ContainerKind) (m : List ℕ) (q : Items) → PlainItems q → Plain (contained k m q)
unfolding contained
contained-plain k m (items ts t) h = tt
contained-plain k m (items_refused e t) h = h

module _ (inner : List ℕ → Parsed) (fields : ContainerKind → List ℕ → Items) (types : (t : List ℕ) → Plain (inner t)) (within : (k : ContainerKind) (t : List ℕ) → PlainItems (fields k t)) where
  array_plain : (q : Number) → PlainNumber q → Plain (elim q [ value n t ↦ item n (inner t) | no_number e t ↦ refused e t ])
  array_plain (value n t) h = item-plain n (inner t) (types t)
  array_plain (no_number e t) h = h

  named-plain : (k : ContainerKind) (q : Named) → PlainName q → Plain (elim q [ named m t ↦ contained k m (fields k t) | unnamed e t ↦ refused e t ])
  named-plain k (named m t) h = contained-plain k m (fields k t) (within k t)
  named-plain k (unnamed e t) h = h

  begin-plain : (b : ℕ) (S : Start) (s : List ℕ) → Plain (begin b S s inner fields)
  unfolding begin leaf
  begin-plain b (single p) s = tt
  begin-plain b complex s = complex-plain s
  begin-plain b object s = object-plain s
  begin-plain b bits s = bits-plain (parse_number max_u64 s) (number-plain max_u64 s)
  begin-plain b (indirection l) s = held_plain l s (inner s) (types s)
  begin-plain b open_array s = array_plain (parse_number max_u64 s) (number-plain max_u64 s)
  begin-plain b close_array s = tt
  begin-plain b (open_container k) s = named-plain k (parse_name k [] s) (name-plain k [] s)
  begin-plain b (close_container k) s = tt
  begin-plain b nothing s = refl

add-plain : (m : Label) (ds : Trees) (q : Items) → PlainItems q → PlainItems (add_item m ds q)
unfolding add_item
add-plain m ds (items ts t) h = tt
add-plain m ds (items_refused e t) h = h

next-plain : (k : ContainerKind) (more : List ℕ → Items) → ((t : List ℕ) → PlainItems (more t)) → (q : Parsed) → Plain q → PlainItems (next_item k q more)
unfolding next_item
next-plain k more r empty h = refl
next-plain k more r (encoding m ds t) h = add-plain m ds (more t) (r t)
next-plain k more r (container_end j t) h = go (same_container k j)
  where
    go : (x : Bool) → PlainItems (elim x [ true ↦ items end t | false ↦ items_refused (Unknown (end_byte j)) t ])
    go true = tt
    go false = refl
next-plain k more r (array_end t) h = refl
next-plain k more r (refused e t) h = h

mutual
  unfolding parse_inner parse_items

  inner-plain : (f : ℕ) (s : List ℕ) → Plain (parse_inner f s)
  inner-plain zero s = tt
  inner-plain (suc f) [] = tt
  inner-plain (suc f) (b ∷ s) = begin-plain (λ t. parse_inner f t) (λ k t. parse_items f k t) (λ t. inner-plain f t) (λ k t. items-plain f k t) b (start b) s

  items-plain : (f : ℕ) (k : ContainerKind) (s : List ℕ) → PlainItems (parse_items f k s)
  items-plain zero k s = refl
  items-plain (suc f) k s = next-plain k (λ t. parse_items f k t) (λ t. items-plain f k t) (parse_inner f s) (inner-plain f s)

abbrev PlainWhole : Whole → Type 0
PlainWhole (tree l cs) = Unit {0}
PlainWhole (refusal e at) = Ordinary e

whole_plain : (n : ℕ) (q : Parsed) → Plain q → PlainWhole (whole n (encoding_or_none q))
unfolding whole encoding_or_none
whole_plain n empty h = tt
whole_plain n (encoding l cs []) h = tt
whole_plain n (encoding l cs (b ∷ t)) h = refl
whole_plain n (container_end k t) h = refl
whole_plain n (array_end t) h = refl
whole_plain n (refused e t) h = h

pub never-surplus : (s : List ℕ) (at : ℕ) → from_str s ≡ refusal SurplusZero at → ⊥
unfolding from_str parse_encoding_or_none parse
never-surplus s at e =
    let t = strip_leading_qualifiers s in
    true≢false (subst PlainWhole e (whole_plain (length s) (parse_inner (length t + length t) t) (inner-plain (length t + length t) t)))
