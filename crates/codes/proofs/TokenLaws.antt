-- Laws of the tokens at a place of a text, and what an answer says of the text.
use Prim.Native.Nat.{ℕ, ◌+◌, ◌≤◌, ◌<◌}
use mathlib.Core.Path.{◌≡◌, refl, sym, ap, ◌∙◌}
use mathlib.Core.List.{List, [], ◌∷◌}
use mathlib.Core.Bool.{Bool, true, false, not, cond, ◌&&◌}
use native.Mathlib.Omega.{arith}
use lib.Dec.{leb, eqb}
use lib.ListN.{length, drop, get_or, length-drop}
use borrow.Author.Tests.{lt-leb, le-leb, ne_eqb}
use Rattle.kinds.proofs.ListLaws.{unread, unread-end}
use Rattle.kinds.specs.Byte.{is_digit}
use Rattle.kinds.specs.Parse as R
use Rattle.kinds.specs.Parse.{value, no_number, parse_number, parse_complex, parse_quoted, parse_object, leaf, integral, parse_bits, parse_bit_field, untyped, typed, single_kind, max_u64, max_u8}
use Rattle.kinds.specs.Parse.{Parsed, encoding, refused, container_end, array_end, start, begin, single}
use Rattle.kinds.specs.Strict.{typed_number, bits_numbers, numbers_of}
use Rattle.kinds.specs.Tree.{end, node, kind, primitive, bit_field, typed_bit_field}
use Rattle.kinds.specs.declared.ContainerKind.{ContainerKind}
use Rattle.kinds.specs.declared.ErrorKind.{ErrorKind}
use Rattle.kinds.specs.declared.ErrorKind.TheVariants.{UnexpectedEnd, IntegerTooLarge, UnknownAfterComplex, Unknown}
use Rattle.numbers.specs.Answer.{digits_of}
use Rattle.numbers.specs.declared.Digits.{Digits}
use Rattle.parser.specs.Place.{place_of}
use Rattle.parser.proofs.RestLaws.{RestOf, rest_all, rest-later, rest-shorter, rest-of-rest, unread-at, place-of-drop}
use Rattle.numbers.proofs.NumberLaws.{LeftOf, left-number}
use Rattle.codes.specs.Answer.{has_parts, type_kind, digits_then, digits_in, untyped_token, label_token, token_of, token_from, token_at}
use Rattle.codes.specs.declared.BitsDigits.{BitsDigits}
use Rattle.codes.specs.declared.Token.{Token}
use Rattle.codes.specs.declared.Token.TheVariants.{Primitive, BitField, TypedBitField, ArrayEnd, ContainerEnd, Refused, Parts, End}

-- ---- After `j`.

complex-is : (s : List ℕ) (i b : ℕ) → i < length s → get_or s i 0 ≡ b → parse_complex (drop i s) ≡ parse_complex (b ∷ drop (i + 1) s)
complex-is s i b h e = ap parse_complex (unread s i h ∙ ap (λ (x : ℕ). x ∷ drop (i + 1) s) e)

module _ (s : List ℕ) (i : ℕ) (h : i < length s) where
  pub complex-f : get_or s i 0 ≡ 102 → parse_complex (drop i s) ≡ encoding (primitive 13) end (drop (i + 1) s)
  unfolding parse_complex leaf
  complex-f e = complex-is s i 102 h e

  pub complex-d : get_or s i 0 ≡ 100 → parse_complex (drop i s) ≡ encoding (primitive 14) end (drop (i + 1) s)
  unfolding parse_complex leaf
  complex-d e = complex-is s i 100 h e

  pub complex-D : get_or s i 0 ≡ 68 → parse_complex (drop i s) ≡ encoding (primitive 15) end (drop (i + 1) s)
  unfolding parse_complex leaf
  complex-D e = complex-is s i 68 h e

  pub complex-no : (get_or s i 0 ≡ 102 → ⊥) → (get_or s i 0 ≡ 100 → ⊥) → (get_or s i 0 ≡ 68 → ⊥) → parse_complex (drop i s)
      ≡ refused (UnknownAfterComplex (get_or s i 0)) (drop i s)
  unfolding parse_complex
  complex-no n1 n2 n3 =
      ap parse_complex (unread s i h)
      ∙ (simp (ne_eqb _ _ n1, ne_eqb _ _ n2, ne_eqb _ _ n3, parse_complex))
      ∙ sym (ap (refused (UnknownAfterComplex (get_or s i 0))) (unread s i h))

  -- ---- Inside quotes.

  pub quoted-stop : get_or s i 0 ≡ 34 → parse_quoted (drop i s) ≡ encoding (primitive 19) end (drop (i + 1) s)
  unfolding parse_quoted leaf
  quoted-stop e = ap parse_quoted (unread s i h ∙ ap (λ (x : ℕ). x ∷ drop (i + 1) s) e)

  pub quoted-more : (get_or s i 0 ≡ 34 → ⊥) → parse_quoted (drop i s) ≡ parse_quoted (drop (i + 1) s)
  unfolding parse_quoted
  quoted-more n = ap parse_quoted (unread s i h) ∙ rw (ne_eqb _ _ n, parse_quoted)

  -- ---- After `@`.

  pub object-block : get_or s i 0 ≡ 63 → parse_object (drop i s) ≡ encoding (primitive 20) end (drop (i + 1) s)
  unfolding parse_object leaf
  object-block e = ap parse_object (unread s i h ∙ ap (λ (x : ℕ). x ∷ drop (i + 1) s) e)

  pub object-quoted : get_or s i 0 ≡ 34 → parse_object (drop i s) ≡ parse_quoted (drop (i + 1) s)
  unfolding parse_object
  object-quoted e = ap parse_object (unread s i h ∙ ap (λ (x : ℕ). x ∷ drop (i + 1) s) e)

  pub object-bare : (get_or s i 0 ≡ 63 → ⊥) → (get_or s i 0 ≡ 34 → ⊥) → parse_object (drop i s) ≡ encoding (primitive 19) end (drop i s)
  unfolding parse_object leaf
  object-bare n1 n2 =
      ap parse_object (unread s i h)
      ∙ (simp (ne_eqb _ _ n1, ne_eqb _ _ n2, parse_object))
      ∙ sym (ap (encoding (primitive 19) end) (unread s i h))

pub complex-end : (s : List ℕ) (i : ℕ) → length s ≤ i → parse_complex (drop i s) ≡ refused UnexpectedEnd (drop i s)
unfolding parse_complex
complex-end s i h = ap parse_complex (unread-end s i h) ∙ sym (ap (refused UnexpectedEnd) (unread-end s i h))

pub quoted-end : (s : List ℕ) (i : ℕ) → length s ≤ i → parse_quoted (drop i s) ≡ refused UnexpectedEnd (drop i s)
unfolding parse_quoted
quoted-end s i h = ap parse_quoted (unread-end s i h) ∙ sym (ap (refused UnexpectedEnd) (unread-end s i h))

pub object-end : (s : List ℕ) (i : ℕ) → length s ≤ i → parse_object (drop i s) ≡ encoding (primitive 19) end (drop i s)
unfolding parse_object leaf
object-end s i h = ap parse_object (unread-end s i h) ∙ sym (ap (encoding (primitive 19) end) (unread-end s i h))

-- ---- Bitfields.

pub bits-value : (n : ℕ) (s : List ℕ) → parse_bits (value n s) ≡ parse_bit_field n s
unfolding parse_bits
bits-value n s = refl

-- Without a type: fewer than two bytes after the number, or no integral type, or no digit after it.
pub bits-short : (n : ℕ) (s : List ℕ) → length s < 2 → parse_bit_field n s ≡ untyped n s
unfolding parse_bit_field
bits-short n [] h = refl
bits-short n (b ∷ []) h = refl
bits-short n (b ∷ x ∷ s) h = absurd (omega arith)

-- Then there is no second number.
pub numbers-short : (s : List ℕ) → length s < 2 → typed_number s ≡ []
unfolding typed_number
numbers-short [] h = refl
numbers-short (b ∷ []) h = refl
numbers-short (b ∷ x ∷ s) h = absurd (omega arith)

two : (n b x : ℕ) (s : List ℕ) → integral b && is_digit x ≡ false → parse_bit_field n (b ∷ x ∷ s) ≡ untyped n (b ∷ x ∷ s)
unfolding parse_bit_field
two n b x s e = rw (e, parse_bit_field)

two_typed : (n b x p : ℕ) (s : List ℕ) → integral b ≡ true → is_digit x ≡ true → start b ≡ single p → parse_bit_field n (b ∷ x ∷ s)
    ≡ typed n p (parse_number 255 (x ∷ s))
unfolding parse_bit_field ◌&&◌ single_kind
two_typed n b x p s i d e = rw (i, parse_bit_field) (rw (d, parse_bit_field) (rw e refl))

false-and : (a b : Bool) → a ≡ false → a && b ≡ false
unfolding ◌&&◌
false-and true b e = e2 e
  where
    e2 : true ≡ false → b ≡ false
    e2 e = let z : ◌≡◌ {A = ℕ} 0 1 = cc in absurd (omega arith)
false-and false b e = refl

and-false : (a b : Bool) → b ≡ false → a && b ≡ false
unfolding ◌&&◌
and-false true b e = e
and-false false b e = refl

module _ (text : List ℕ) (i : ℕ) (h : i + 1 < length text) where
  two-unread : drop i text ≡ get_or text i 0 ∷ get_or text (i + 1) 0 ∷ drop (i + 1 + 1) text
  two-unread = unread text i (omega arith) ∙ ap (λ (t : List ℕ). get_or text i 0 ∷ t) (unread text (i + 1) h)

  pub bits-no-type : (n : ℕ) → integral (get_or text i 0) ≡ false → parse_bit_field n (drop i text) ≡ untyped n (drop i text)
  bits-no-type n e =
      ap (parse_bit_field n) two-unread
      ∙ two n _ _ _ (false-and _ _ e)
      ∙ sym (ap (untyped n) two-unread)

  pub bits-no-digit : (n : ℕ) → is_digit (get_or text (i + 1) 0) ≡ false → parse_bit_field n (drop i text) ≡ untyped n (drop i text)
  bits-no-digit n e =
      ap (parse_bit_field n) two-unread
      ∙ two n _ _ _ (and-false (integral (get_or text i 0)) _ e)
      ∙ sym (ap (untyped n) two-unread)

  pub bits-typed : (n p : ℕ) → integral (get_or text i 0) ≡ true → is_digit (get_or text (i + 1) 0) ≡ true → start (get_or text i 0) ≡ single p
      → parse_bit_field n (drop i text) ≡ typed n p (parse_number 255 (drop (i + 1) text))
  bits-typed n p e d s =
      ap (parse_bit_field n) two-unread
      ∙ two_typed n _ _ p _ e d s
      ∙ sym (ap (λ (t : List ℕ). typed n p (parse_number 255 t)) (unread text (i + 1) h))

  pub numbers-untyped : integral (get_or text i 0) && is_digit (get_or text (i + 1) 0) ≡ false → typed_number (drop i text) ≡ []
  unfolding typed_number
  numbers-untyped e = ap typed_number two-unread ∙ rw (e, typed_number) refl

  pub numbers-no-type : integral (get_or text i 0) ≡ false → typed_number (drop i text) ≡ []
  numbers-no-type e = numbers-untyped (false-and _ _ e)

  pub numbers-no-digit : is_digit (get_or text (i + 1) 0) ≡ false → typed_number (drop i text) ≡ []
  numbers-no-digit e = numbers-untyped (and-false (integral (get_or text i 0)) _ e)

  pub numbers-typed : integral (get_or text i 0) ≡ true → is_digit (get_or text (i + 1) 0) ≡ true → typed_number (drop i text) ≡ drop (i + 1) text ∷ []
  unfolding typed_number ◌&&◌
  numbers-typed e d = ap typed_number two-unread ∙ (rw (e, typed_number) (rw (d, typed_number) refl)) ∙ ap (λ (t : List ℕ). t ∷ []) (sym (unread text (i + 1) h))

pub bits_none : (r : ErrorKind) (s : List ℕ) → parse_bits (no_number r s) ≡ refused r s
unfolding parse_bits
bits_none r s = refl

-- The numbers of a bitfield, from what was read of the first.
pub bits-numbers : (s : List ℕ) (n : ℕ) (t : List ℕ) → parse_number max_u64 s ≡ value n t → bits_numbers s ≡ s ∷ typed_number t
unfolding bits_numbers
bits-numbers s n t e = rw (e, bits_numbers) refl

pub bits-no-number : (s : List ℕ) (r : ErrorKind) (t : List ℕ) → parse_number max_u64 s ≡ no_number r t → bits_numbers s ≡ s ∷ []
unfolding bits_numbers
bits-no-number s r t e = rw (e, bits_numbers) refl

pub typed-is : (o p n : ℕ) (s : List ℕ) → typed o p (value n s) ≡ encoding (typed_bit_field o n) (node (primitive p) end end) s
unfolding typed
typed-is o p n s = refl

pub typed-none : (o p : ℕ) (r : ErrorKind) (s : List ℕ) → typed o p (no_number r s) ≡ refused r s
unfolding typed
typed-none o p r s = refl

-- ---- The answers.

abbrev pub both : Digits → Digits → BitsDigits
both d e = record { «first» = d; «second» = e }

module _ (text : List ℕ) (to : ℕ) (l : to ≤ length text) where
  pub answer-primitive : (d : BitsDigits) (p : ℕ) (q : Parsed) → q ≡ encoding (primitive p) end (drop to text) → Primitive p to ≡ token_of text d q
  unfolding token_of label_token
  answer-primitive d p q e = ap (Primitive p) (sym (place-of-drop text to l)) ∙ ap (token_of text d) (sym e)

  -- the kind of a primitive that is named
  pub answer-kind : (d : BitsDigits) (k p : ℕ) (q : Parsed) → k ≡ p → q ≡ encoding (primitive p) end (drop to text) → Primitive k to ≡ token_of text d q
  answer-kind d k p q f e = ap (λ (x : ℕ). Primitive x to) f ∙ answer-primitive d p q e

  pub answer-refused : (d : BitsDigits) (why : ErrorKind) (q : Parsed) → q ≡ refused why (drop to text) → Refused why to d ≡ token_of text d q
  unfolding token_of
  answer-refused d why q e = ap (λ (k : ℕ). Refused why k d) (sym (place-of-drop text to l)) ∙ ap (token_of text d) (sym e)

  pub answer-array-end : (d : BitsDigits) → ArrayEnd to ≡ token_of text d (array_end (drop to text))
  unfolding token_of
  answer-array-end d = ap ArrayEnd (sym (place-of-drop text to l))

  pub answer-container-end : (d : BitsDigits) (k : ContainerKind) → ContainerEnd k to ≡ token_of text d (container_end k (drop to text))
  unfolding token_of
  answer-container-end d k = ap (ContainerEnd k) (sym (place-of-drop text to l))

  pub answer_typed : (d : BitsDigits) (o p n : ℕ) (q : Parsed) → q ≡ encoding (typed_bit_field o n) (node (primitive p) end end) (drop to text)
      → TypedBitField o p n to d ≡ token_of text d q
  unfolding token_of label_token type_kind kind
  answer_typed d o p n q e = ap (λ (k : ℕ). TypedBitField o p n k d) (sym (place-of-drop text to l)) ∙ ap (token_of text d) (sym e)

  pub answer-untyped : (d : BitsDigits) (n : ℕ) (q : Parsed) → q ≡ untyped n (drop to text) → untyped_token n to d ≡ token_of text d q
  unfolding token_of label_token untyped leaf
  answer-untyped d n q e = go (leb n max_u8) refl ∙ ap (token_of text d) (sym e)
    where
      go : (y : Bool) → leb n max_u8 ≡ y → cond y (BitField n to d) (Refused IntegerTooLarge to d) ≡ token_of text d (untyped n (drop to text))
      go true f = ap (λ (k : ℕ). BitField n k d) (sym (place-of-drop text to l)) ∙ rw (f, untyped) refl
      go false f = ap (λ (k : ℕ). Refused IntegerTooLarge k d) (sym (place-of-drop text to l)) ∙ rw (f, untyped) refl

-- A bitfield whose first number ended at `to` with the digits `d`.
module _ (text : List ℕ) (to n : ℕ) (d : Digits) where
  bits_is : (ss : List (List ℕ)) {r : Token} → typed_number (drop to text) ≡ ss → r ≡ token_of text (digits_then d ss) (parse_bit_field n (drop to text))
      → r ≡ token_of text (digits_then d (typed_number (drop to text))) (parse_bit_field n (drop to text))
  bits_is ss e f = f ∙ ap (λ (xs : List (List ℕ)). token_of text (digits_then d xs) (parse_bit_field n (drop to text))) (sym e)

  pub answer-first : to ≤ length text → typed_number (drop to text) ≡ [] → parse_bit_field n (drop to text) ≡ untyped n (drop to text)
      → untyped_token n to (digits_then d []) ≡ token_of text (digits_then d (typed_number (drop to text))) (parse_bit_field n (drop to text))
  answer-first l e f = bits_is [] e (answer-untyped text to l (digits_then d []) n (parse_bit_field n (drop to text)) f)

  module _ (end-at : ℕ) (l : end-at ≤ length text) (c : Digits) (shows : c ≡ digits_of (drop (to + 1) text))
      (e : typed_number (drop to text) ≡ drop (to + 1) text ∷ []) where
    pub answer-both : (p m : ℕ) → parse_bit_field n (drop to text) ≡ encoding (typed_bit_field n m) (node (primitive p) end end) (drop end-at text)
        → TypedBitField n p m end-at (both d c) ≡ token_of text (digits_then d (typed_number (drop to text))) (parse_bit_field n (drop to text))
    answer-both p m f =
        bits_is (drop (to + 1) text ∷ []) e
        (ap (λ (x : Digits). TypedBitField n p m end-at (both d x)) shows ∙ answer_typed text end-at l (both d (digits_of (drop (to + 1) text))) n p m
        (parse_bit_field n (drop to text)) f)

    pub refused-both : (why : ErrorKind) → parse_bit_field n (drop to text) ≡ refused why (drop end-at text)
        → Refused why end-at (both d c) ≡ token_of text (digits_then d (typed_number (drop to text))) (parse_bit_field n (drop to text))
    refused-both why f =
        bits_is (drop (to + 1) text ∷ []) e
        (ap (λ (x : Digits). Refused why end-at (both d x)) shows ∙ answer-refused text end-at l (both d (digits_of (drop (to + 1) text))) why
        (parse_bit_field n (drop to text)) f)

-- A bitfield, from its first number at the place `at`.
module _ (text : List ℕ) (at : ℕ) (d : Digits) (shows : d ≡ digits_of (drop at text)) where
  pub answer-number : (n to : ℕ) {r : Token} → parse_number max_u64 (drop at text) ≡ value n (drop to text)
      → r ≡ token_of text (digits_then d (typed_number (drop to text))) (parse_bit_field n (drop to text))
      → r ≡ token_of text (digits_in (bits_numbers (drop at text))) (parse_bits (parse_number max_u64 (drop at text)))
  answer-number n to e f =
      f
      ∙ ap (λ (x : Digits). token_of text (digits_then x (typed_number (drop to text))) (parse_bit_field n (drop to text))) shows
      ∙ ap (λ (xs : List (List ℕ)). token_of text (digits_in xs) (parse_bit_field n (drop to text))) (sym (bits-numbers (drop at text) n (drop to text) e))
      ∙ ap (token_of text (digits_in (bits_numbers (drop at text)))) (sym (ap parse_bits e ∙ bits-value n (drop to text)))

  pub refused-number : (why : ErrorKind) (to : ℕ) → to ≤ length text → parse_number max_u64 (drop at text) ≡ no_number why (drop to text)
      → Refused why to (digits_then d []) ≡ token_of text (digits_in (bits_numbers (drop at text))) (parse_bits (parse_number max_u64 (drop at text)))
  refused-number why to l e =
      ap (λ (x : Digits). Refused why to (digits_then x [])) shows
      ∙ ap (λ (xs : List (List ℕ)). Refused why to (digits_in xs)) (sym (bits-no-number (drop at text) why (drop to text) e))
      ∙ answer-refused text to l (digits_in (bits_numbers (drop at text))) why (parse_bits (parse_number max_u64 (drop at text)))
      (ap parse_bits e ∙ bits_none why (drop to text))

pub no_text : (text : List ℕ) (at : ℕ) → length text ≤ at → drop at text ≡ drop (length text) text
no_text text at l = unread-end text at l ∙ sym (unread-end text (length text) (omega arith))

-- ---- What is left is the end of the text.

-- The end, and at least one byte before it.
pub record LaterOf (s t : List ℕ) : Type 0 where
  pub rest : RestOf s t
  pub some : length t < length s

later : {b : ℕ} {s t : List ℕ} → RestOf s t → LaterOf (b ∷ s) t
later r = record { rest = rest-later r; some = omega (arith, rest-shorter r) }

-- What reading without parts may give of the text `s`.
pub data Simple : List ℕ → Parsed → Type 0 where
  is-primitive : {s t : List ℕ} (p : ℕ) → RestOf s t → Simple s (encoding (primitive p) end t)
  is-bit-field : {s t : List ℕ} (n : ℕ) → RestOf s t → Simple s (encoding (bit_field n) end t)
  is-typed : {s t : List ℕ} (o n p : ℕ) → LaterOf s t → Simple s (encoding (typed_bit_field o n) (node (primitive p) end end) t)
  is-refused : {s t : List ℕ} (e : ErrorKind) → RestOf s t → Simple s (refused e t)

abbrev alone : ℕ → List ℕ → Parsed
alone p s = encoding (primitive p) end s

pub simple-complex : (s : List ℕ) → Simple s (parse_complex s)
unfolding parse_complex leaf
simple-complex [] = is-refused _ rest_all
simple-complex (b ∷ s) = go (eqb b 102) (eqb b 100) (eqb b 68)
  where
    one : RestOf (b ∷ s) s
    one = rest-later rest_all

    go : (x y z : Bool) → Simple (b ∷ s) (elim x [
      | true ↦ alone 13 s
      | false ↦ elim y
          [ true ↦ alone 14 s | false ↦ elim z [ true ↦ alone 15 s | false ↦ refused (UnknownAfterComplex b) (b ∷ s) ] ]
    ])
    go true y z = is-primitive _ one
    go false true z = is-primitive _ one
    go false false true = is-primitive _ one
    go false false false = is-refused _ rest_all

simple-later : {b : ℕ} {s : List ℕ} {q : Parsed} → Simple s q → Simple (b ∷ s) q
simple-later (is-primitive p r) = is-primitive _ (rest-later r)
simple-later (is-bit-field n r) = is-bit-field _ (rest-later r)
simple-later (is-typed o n p r) = is-typed _ _ _ (later r.rest)
simple-later (is-refused e r) = is-refused _ (rest-later r)

simple-quoted : (s : List ℕ) → Simple s (parse_quoted s)
unfolding parse_quoted leaf
simple-quoted [] = is-refused _ rest_all
simple-quoted (b ∷ s) = go (eqb b 34) (simple-later (simple-quoted s))
  where
    go : (x : Bool) → Simple (b ∷ s) (parse_quoted s) → Simple (b ∷ s) (elim x [ true ↦ encoding (primitive 19) end s | false ↦ parse_quoted s ])
    go true h = is-primitive _ (rest-later rest_all)
    go false h = h

pub simple-object : (s : List ℕ) → Simple s (parse_object s)
unfolding parse_object leaf
simple-object [] = is-primitive _ rest_all
simple-object (b ∷ s) = go (eqb b 63) (eqb b 34)
  where
    go : (x y : Bool) → Simple (b ∷ s) (elim x [
      | true ↦ encoding (primitive 20) end s
      | false ↦ elim y
          [ true ↦ parse_quoted s | false ↦ encoding (primitive 19) end (b ∷ s) ]
    ])
    go true y = is-primitive _ (rest-later rest_all)
    go false true = simple-later (simple-quoted s)
    go false false = is-primitive _ rest_all

simple-untyped : (n : ℕ) (s : List ℕ) → Simple s (untyped n s)
unfolding untyped leaf
simple-untyped n s = go (leb n max_u8)
  where
    go : (d : Bool) → Simple s (elim d [ true ↦ encoding (bit_field n) end s | false ↦ refused IntegerTooLarge s ])
    go true = is-bit-field _ rest_all
    go false = is-refused _ rest_all

simple-typed : (o p b : ℕ) (s : List ℕ) (q : R.Number) → LeftOf s q → Simple (b ∷ s) (typed o p q)
unfolding typed
simple-typed o p b s (value n t) r = is-typed _ _ _ (later r)
simple-typed o p b s (no_number e t) r = is-refused _ (rest-later r)

simple-bit-field : (n : ℕ) (s : List ℕ) → Simple s (parse_bit_field n s)
unfolding parse_bit_field
simple-bit-field n [] = simple-untyped n []
simple-bit-field n (b ∷ []) = simple-untyped n (b ∷ [])
simple-bit-field n (b ∷ x ∷ s) = go (integral b && is_digit x)
  where
    go : (d : Bool) → Simple (b ∷ x ∷ s) (elim d [ true ↦ typed n (single_kind (start b)) (parse_number max_u8 (x ∷ s)) | false ↦ untyped n (b ∷ x ∷ s) ])
    go true = simple-typed n (single_kind (start b)) b (x ∷ s) (parse_number max_u8 (x ∷ s)) (left-number max_u8 (x ∷ s))
    go false = simple-untyped n (b ∷ x ∷ s)

simple-after : {s t : List ℕ} {q : Parsed} → RestOf s t → Simple t q → Simple s q
simple-after r (is-primitive p x) = is-primitive _ (rest-of-rest r x)
simple-after r (is-bit-field n x) = is-bit-field _ (rest-of-rest r x)
simple-after r (is-typed o n p x) = is-typed _ _ _ (record { rest = rest-of-rest r x.rest; some = omega (arith, x.some, rest-shorter r) })
simple-after r (is-refused e x) = is-refused _ (rest-of-rest r x)

pub simple-number : (s : List ℕ) (q : R.Number) → LeftOf s q → Simple s (parse_bits q)
unfolding parse_bits
simple-number s (value n t) r = simple-after r (simple-bit-field n t)
simple-number s (no_number e t) r = is-refused _ r

-- ---- What an answer says.

-- Of a token: what was read, and what is unread after it.
abbrev pub TokenSays : List ℕ → Token → Parsed → Type 0
TokenSays text (Primitive p to) q = q ≡ encoding (primitive p) end (drop to text)
TokenSays text (BitField n to d) q = q ≡ encoding (bit_field n) end (drop to text)
TokenSays text (TypedBitField o p n to d) q = q ≡ encoding (typed_bit_field o n) (node (primitive p) end end) (drop to text)
TokenSays text (ArrayEnd to) q = q ≡ array_end (drop to text)
TokenSays text (ContainerEnd k to) q = q ≡ container_end k (drop to text)
TokenSays text (Refused why to d) q = q ≡ refused why (drop to text)
TokenSays text Parts q = ⊥
TokenSays text End q = ⊥

-- Its place: after `at`, within the text. A typed bitfield takes two bytes or more, and a closer one.
abbrev pub TokenBound : List ℕ → ℕ → Token → Type 0
TokenBound text at (Primitive p to) = (at < to) × (to ≤ length text)
TokenBound text at (BitField n to d) = (at < to) × (to ≤ length text)
TokenBound text at (TypedBitField o p n to d) = (at + 1 < to) × (to ≤ length text)
TokenBound text at (ArrayEnd to) = (to ≡ at + 1) × (start (get_or text at 0) ≡ R.close_array)
TokenBound text at (ContainerEnd k to) = (to ≡ at + 1) × (start (get_or text at 0) ≡ R.close_container k)
TokenBound text at (Refused why to d) = to ≤ length text
TokenBound text at Parts = ⊥
TokenBound text at End = ⊥

-- The token at a place, whatever reads parts.
pub record TokenIs (text : List ℕ) (at : ℕ) (r : Token) : Type 0 where
  pub bound : TokenBound text at r
  pub says : (inner : List ℕ → Parsed) (fields : ContainerKind → List ℕ → R.Items)
      → TokenSays text r (begin (get_or text at 0) (start (get_or text at 0)) (drop (at + 1) text) inner fields)

module _ (text : List ℕ) (at : ℕ) (h : at < length text) where
  place-next : place_of text (drop (at + 1) text) ≡ at + 1
  place-next = place-of-drop text (at + 1) (omega arith)

  unread-next : drop (at + 1) text ≡ drop (place_of text (drop (at + 1) text)) text
  unread-next = ap (λ (k : ℕ). drop k text) (sym place-next)

  simple-bound : (d : BitsDigits) (q : Parsed) → Simple (drop (at + 1) text) q → TokenBound text at (token_of text d q) × TokenSays text (token_of text d q) q
  unfolding token_of label_token type_kind kind
  simple-bound d q (is-primitive p r) = let u = unread-at {text = text} {at = at + 1} (omega arith) r
      in ((omega (arith, u.onward), u.within), ap (encoding (primitive p) end) u.is)
  simple-bound d q (is-bit-field n r) = let u = unread-at {text = text} {at = at + 1} (omega arith) r
      in ((omega (arith, u.onward), u.within), ap (encoding (bit_field n) end) u.is)
  simple-bound d q (is-typed o n p r) =
      let u = unread-at {text = text} {at = at + 1} (omega arith) r.rest in
      ((omega (arith, r.some, length-drop (at + 1) text), u.within), ap (encoding (typed_bit_field o n) (node (primitive p) end end)) u.is)
  simple-bound d q (is-refused e r) = let u = unread-at {text = text} {at = at + 1} (omega arith) r in (u.within, ap (refused e) u.is)

  -- What reading gives by what the byte begins, where it has no parts.
  begun : (S : R.Start) → start (get_or text at 0) ≡ S → has_parts S ≡ false
      → TokenBound text at (token_from text (get_or text at 0) S (drop (at + 1) text))
      × ((inner : List ℕ → Parsed) (fields : ContainerKind → List ℕ → R.Items) → TokenSays text (token_from text (get_or text at 0) S (drop (at + 1) text))
      (begin (get_or text at 0) S (drop (at + 1) text) inner fields))
  unfolding token_from has_parts begin leaf token_of label_token
  begun (single p) e n = let x = simple-bound (digits_in (numbers_of (single p) (drop (at + 1) text))) (encoding (primitive p) end (drop (at + 1) text))
      (is-primitive _ rest_all) in (x.0, λ inner fields. x.1)
  begun R.complex e n = let x = simple-bound (digits_in (numbers_of R.complex (drop (at + 1) text))) (parse_complex (drop (at + 1) text))
      (simple-complex (drop (at + 1) text)) in (x.0, λ inner fields. x.1)
  begun R.object e n = let x = simple-bound (digits_in (numbers_of R.object (drop (at + 1) text))) (parse_object (drop (at + 1) text))
      (simple-object (drop (at + 1) text)) in (x.0, λ inner fields. x.1)
  begun R.bits e n =
      let q : R.Number = parse_number max_u64 (drop (at + 1) text) in
      let x = simple-bound (digits_in (numbers_of R.bits (drop (at + 1) text))) (parse_bits q)
      (simple-number (drop (at + 1) text) q (left-number max_u64 (drop (at + 1) text))) in
      (x.0, λ inner fields. x.1)
  begun (R.indirection l) e n = let z : ◌≡◌ {A = ℕ} 0 1 = cc in absurd (omega arith)
  begun R.open_array e n = let z : ◌≡◌ {A = ℕ} 0 1 = cc in absurd (omega arith)
  begun R.close_array e n = ((place-next, e), λ inner fields. ap array_end unread-next)
  begun (R.open_container k) e n = let z : ◌≡◌ {A = ℕ} 0 1 = cc in absurd (omega arith)
  begun (R.close_container k) e n = ((place-next, e), λ inner fields. ap (container_end k) unread-next)
  begun R.nothing e n = (omega (arith, place-next), λ inner fields. ap (refused (Unknown (get_or text at 0))) unread-next)

  pub token-is : (r : Token) → has_parts (start (get_or text at 0)) ≡ false → r ≡ token_at text at → TokenIs text at r
  unfolding token_at
  token-is r n e =
      let x = begun (start (get_or text at 0)) refl n in
      let here : token_at text at ≡ token_from text (get_or text at 0) (start (get_or text at 0)) (drop (at + 1) text) = rw (lt-leb (length text) at h, token_at) refl
      in
      rw (e ∙ here) (record { bound = x.0; says = x.1 })

  -- The token at a place, by what its byte begins.
  pub token_begins : {S : R.Start} → start (get_or text at 0) ≡ S → token_at text at ≡ token_from text (get_or text at 0) S (drop (at + 1) text)
  unfolding token_at
  token_begins e = (rw (lt-leb (length text) at h, token_at) refl) ∙ ap (λ (x : R.Start). token_from text (get_or text at 0) x (drop (at + 1) text)) e

pub token_end : (text : List ℕ) (at : ℕ) → length text ≤ at → End ≡ token_at text at
unfolding token_at
token_end text at h = rw (le-leb (length text) at h, token_at) refl
