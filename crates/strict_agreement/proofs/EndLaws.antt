-- Each number that reading meets ends the text: it is given as the text from where it begins.
use Prim.Native.Nat.{ℕ, zero, suc, ◌+◌}
use mathlib.Core.Path.{◌≡◌, refl, sym, ap, ◌∙◌}
use mathlib.Core.Bool.{Bool, true, false, cond, ◌&&◌}
use mathlib.Core.List.{List, [], ◌∷◌, ◌++◌, append_assoc}
use lib.Dec.{eqb}
use lib.ListN.{length}
use Rattle.kinds.specs.Byte.{byte, is_digit}
use Rattle.kinds.specs.Container.{end_byte}
use Rattle.kinds.specs.Name.{verify_name}
use Rattle.kinds.specs.Parse.{max_u64, Number, value, no_number, parse_number, Parsed, empty, encoding, container_end, array_end, refused}
use Rattle.kinds.specs.Parse.{Start, single, complex, object, bits, indirection, open_array, close_array, open_container, close_container, nothing, start}
use Rattle.kinds.specs.Parse.{integral, Named, named, unnamed, check_name, parse_name}
use Rattle.kinds.specs.Parse.{parse_inner, is_qualifier, strip_leading_qualifiers}
use Rattle.kinds.specs.Strict.{typed_number, bits_numbers, numbers_of, numbers_inside, numbers_after, inner_numbers, items_numbers, numbers, numbers_met}
use Rattle.kinds.specs.declared.ContainerKind.{ContainerKind}
use Rattle.kinds.specs.declared.ErrorKind.TheVariants.{InvalidIdentifier}
use Rattle.agreement.proofs.CutLaws.{Cuts, inner_cut}
use Rattle.agreement.proofs.CutLeaves.{CutNumber, number_cut}

-- The text `s` ends with `t`.
abbrev pub EndOf : List ℕ → List ℕ → Type 0
EndOf s t = (before : List ℕ) × (s ≡ before ++ t)

-- And with each of a list.
abbrev pub Ends : List ℕ → List (List ℕ) → Type 0
Ends s [] = Unit {0}
Ends s (t ∷ ts) = EndOf s t × Ends s ts

end_later : (b : ℕ) (s t : List ℕ) → EndOf s t → EndOf (b ∷ s) t
end_later b s t e = (b ∷ e.0, ap (λ x. b ∷ x) e.1)

ends-within : (s u : List ℕ) → EndOf s u → (ts : List (List ℕ)) → Ends u ts → Ends s ts
ends-within s u e [] h = tt
ends-within s u e (t ∷ ts) h = ((e.0 ++ h.0.0, e.1 ∙ ap (λ x. e.0 ++ x) h.0.1 ∙ sym (append_assoc e.0 h.0.0 t)), ends-within s u e ts h.1)

ends-append : (s : List ℕ) (xs ys : List (List ℕ)) → Ends s xs → Ends s ys → Ends s (xs ++ ys)
ends-append s [] ys h k = k
ends-append s (x ∷ xs) ys h k = (h.0, ends-append s xs ys h.1 k)

pub end-member : (s : List ℕ) (xs : List (List ℕ)) (t : List ℕ) (ys : List (List ℕ)) → Ends s (xs ++ (t ∷ ys)) → EndOf s t
end-member s [] t ys h = h.0
end-member s (x ∷ xs) t ys h = end-member s xs t ys h.1

abbrev NameEnd : List ℕ → Named → Type 0
NameEnd s (named m t) = EndOf s t
NameEnd s (unnamed e t) = Unit {0}

name-later : (b : ℕ) (s : List ℕ) (q : Named) → NameEnd s q → NameEnd (b ∷ s) q
name-later b s (named m t) h = end_later b s t h
name-later b s (unnamed e t) h = tt

check-end : (k : ContainerKind) (s m here next : List ℕ) → EndOf s next → NameEnd s (check_name k m here next)
unfolding check_name
check-end k s m here next h = go (verify_name m)
  where
    go : (x : Bool) → NameEnd s (elim x [ true ↦ named m next | false ↦ unnamed (InvalidIdentifier k) here ])
    go true = h
    go false = tt

name-end : (k : ContainerKind) (m s : List ℕ) → NameEnd s (parse_name k m s)
unfolding parse_name
name-end k m [] = tt
name-end k m (b ∷ s) = go (eqb b (byte "=")) refl (eqb b (end_byte k)) refl (name-end k (m ++ (b ∷ [])) s)
  where
    go : (x : Bool) → eqb b (byte "=") ≡ x → (y : Bool) → eqb b (end_byte k) ≡ y → NameEnd s (parse_name k (m ++ (b ∷ [])) s) → NameEnd (b ∷ s) (parse_name k m (b ∷ s))
    go true e y f r = rw (e, parse_name) (check-end k (b ∷ s) m (b ∷ s) s (b ∷ [], refl))
    go false e true f r = rw (e, f, parse_name) (check-end k (b ∷ s) m (b ∷ s) (b ∷ s) ([], refl))
    go false e false f r = rw (e, f, parse_name) (name-later b s (parse_name k (m ++ (b ∷ [])) s) r)

typed-ends : (s : List ℕ) → Ends s (typed_number s)
unfolding typed_number
typed-ends [] = tt
typed-ends (b ∷ []) = tt
typed-ends (b ∷ c ∷ s) = go (integral b && is_digit c)
  where
    go : (x : Bool) → Ends (b ∷ c ∷ s) (cond x ((c ∷ s) ∷ []) [])
    go true = ((b ∷ [], refl), tt)
    go false = tt

bits-ends : (s : List ℕ) → Ends s (bits_numbers s)
unfolding bits_numbers
bits-ends s = (([], refl), go (parse_number max_u64 s) (number_cut max_u64 s))
  where
    go : (q : Number) → CutNumber (parse_number max_u64) s q → Ends s (elim q [ value n t ↦ typed_number t | no_number e t ↦ [] ])
    go (value n t) c = ends-within s t (c.taken, c.is) (typed_number t) (typed-ends t)
    go (no_number e t) c = tt

of-ends : (S : Start) (s : List ℕ) → Ends s (numbers_of S s)
unfolding numbers_of
of-ends (single p) s = tt
of-ends complex s = tt
of-ends object s = tt
of-ends bits s = bits-ends s
of-ends (indirection l) s = tt
of-ends open_array s = (([], refl), tt)
of-ends close_array s = tt
of-ends (open_container k) s = tt
of-ends (close_container k) s = tt
of-ends nothing s = tt

module _ (inner : List ℕ → List (List ℕ)) (fields : ContainerKind → List ℕ → List (List ℕ)) (types : (t : List ℕ) → Ends t (inner t))
    (within : (k : ContainerKind) (t : List ℕ) → Ends t (fields k t)) where
  array-ends : (s : List ℕ) (q : Number) → CutNumber (parse_number max_u64) s q → Ends s (elim q [ value n t ↦ inner t | no_number e t ↦ [] ])
  array-ends s (value n t) c = ends-within s t (c.taken, c.is) (inner t) (types t)
  array-ends s (no_number e t) c = tt

  named-ends : (k : ContainerKind) (s : List ℕ) (q : Named) → NameEnd s q → Ends s (elim q [ named m t ↦ fields k t | unnamed e t ↦ [] ])
  named-ends k s (named m t) h = ends-within s t h (fields k t) (within k t)
  named-ends k s (unnamed e t) h = tt

  inside-ends : (S : Start) (s : List ℕ) → Ends s (numbers_inside S s inner fields)
  unfolding numbers_inside
  inside-ends (single p) s = tt
  inside-ends complex s = tt
  inside-ends object s = tt
  inside-ends bits s = tt
  inside-ends (indirection l) s = types s
  inside-ends open_array s = array-ends s (parse_number max_u64 s) (number_cut max_u64 s)
  inside-ends close_array s = tt
  inside-ends (open_container k) s = named-ends k s (parse_name k [] s) (name-end k [] s)
  inside-ends (close_container k) s = tt
  inside-ends nothing s = tt

after-ends : (read : List ℕ → Parsed) (more : List ℕ → List (List ℕ)) → ((t : List ℕ) → Ends t (more t)) → (s : List ℕ) (q : Parsed) → Cuts read s q → Ends s (numbers_after q more)
unfolding numbers_after
after-ends read more r s empty c = tt
after-ends read more r s (encoding l cs t) c = ends-within s t (c.taken, c.is) (more t) (r t)
after-ends read more r s (container_end k t) c = tt
after-ends read more r s (array_end t) c = tt
after-ends read more r s (refused e t) c = tt

mutual
  unfolding inner_numbers items_numbers

  inner-ends : (f : ℕ) (s : List ℕ) → Ends s (inner_numbers f s)
  inner-ends zero s = tt
  inner-ends (suc f) [] = tt
  inner-ends (suc f) (b ∷ s) =
      let inside = numbers_inside (start b) s (λ t. inner_numbers f t) (λ k t. items_numbers f k t) in
      ends-within (b ∷ s) s (b ∷ [], refl) (numbers_of (start b) s ++ inside)
      (ends-append s (numbers_of (start b) s) inside (of-ends (start b) s)
      (inside-ends (λ t. inner_numbers f t) (λ k t. items_numbers f k t) (λ t. inner-ends f t) (λ k t. items-ends f k t) (start b) s))

  items-ends : (f : ℕ) (k : ContainerKind) (s : List ℕ) → Ends s (items_numbers f k s)
  items-ends zero k s = tt
  items-ends (suc f) k s =
      ends-append s (inner_numbers f s) (numbers_after (parse_inner f s) (λ t. items_numbers f k t)) (inner-ends f s)
      (after-ends (λ x. parse_inner f x) (λ t. items_numbers f k t) (λ t. items-ends f k t) s (parse_inner f s) (inner_cut f s))

strip-end : (s : List ℕ) → EndOf s (strip_leading_qualifiers s)
unfolding strip_leading_qualifiers
strip-end [] = ([], refl)
strip-end (b ∷ s) = go (is_qualifier b) (strip-end s)
  where
    go : (x : Bool) → EndOf s (strip_leading_qualifiers s) → EndOf (b ∷ s) (elim x [ true ↦ strip_leading_qualifiers s | false ↦ b ∷ s ])
    go true h = end_later b s (strip_leading_qualifiers s) h
    go false h = ([], refl)

-- Each number that reading meets ends the text.
pub met-ends : (s : List ℕ) → Ends s (numbers_met s)
unfolding numbers_met numbers
met-ends s =
    let t = strip_leading_qualifiers s in
    ends-within s t (strip-end s) (inner_numbers (length t + length t) t) (inner-ends (length t + length t) t)
