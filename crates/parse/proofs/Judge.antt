-- One step of the cycle, strict or not, and how the numbers of a bitfield or an array are judged.
use Prim.Native.Nat.{ℕ, zero, suc, ◌+◌, ◌≤◌, ◌<◌}
use mathlib.Core.Path.{◌≡◌, refl, sym, ap, ◌∙◌, subst}
use mathlib.Core.List.{List, [], ◌∷◌}
use mathlib.Core.Bool.{Bool, true, false, cond, ◌&&◌, false≢true}
use Rattle.std.specs.Prelude.{Option, Some, None, Result, Ok, Err}
use native.Mathlib.Omega.{arith}
use lib.Dec.{leb}
use lib.ListN.{length, drop, get_or, length-drop}
use lib.Seq.{drop-drop}
use Rattle.kinds.proofs.ListLaws.{unread}
use Rattle.kinds.specs.Byte.{is_digit}
use Rattle.kinds.specs.Parse as R
use Rattle.kinds.specs.Parse.{max_u64, max_u8, value, no_number, parse_number, integral, start, begin, encoding, refused, parse_bits, parse_bit_field, untyped, typed, leaf, single_kind}
use Rattle.kinds.specs.Strict.{digit_count, surplus_zero, typed_number, bits_numbers, numbers_of, first_surplus}
use Rattle.kinds.specs.Tree.{Label, Trees, primitive, bit_field, typed_bit_field, pointer, atomic, array, struct, union, none as noneLabel}
use Rattle.kinds.specs.declared.ContainerKind.{ContainerKind}
use Rattle.kinds.specs.declared.ErrorKind.TheVariants.{SurplusZero, IntegerTooLarge}
use Rattle.numbers.specs.Answer.{digits_of, number_at}
use Rattle.numbers.specs.declared.Digits.{Digits}
use Rattle.numbers.specs.declared.Number.{Number}
use Rattle.kinds.specs.Refusal.{parse_error}
use Rattle.kinds.specs.declared.ParseError.{ParseError}
use Rattle.numbers.proofs.NumberLaws.{NumberIs, number_is, number_digits, value-rest}
use Rattle.parser.specs.Place.{place_of}
use Rattle.codes.specs.Answer as C
use Rattle.codes.specs.Answer.{has_parts, digits_then, label_token, token_of, token_from, token_at}
use Rattle.codes.specs.declared.BitsDigits.{BitsDigits}
use Rattle.codes.specs.declared.Token.{Token}
use Rattle.codes.proofs.StepLaws.{begins, held-from, item_from}
use Rattle.codes.proofs.TokenLaws.{bits-numbers, bits-no-number, token_begins}
use Rattle.parse.specs.Strictly.{or_surplus, judged, parse_inner_by, parse_items_by, judged_number, surplus_place, token_surplus, PlaceFits, TokenFits}

-- ---- One step.

-- Nothing is judged at the place, or nothing wrong is found.
abbrev pub Clean : Bool → List ℕ → ℕ → Type 0
Clean strict text at = (q : R.Parsed) → judged strict (start (get_or text at 0)) (drop (at + 1) text) q ≡ q

module _ (strict : Bool) where
  pub step_by : (text : List ℕ) (at g : ℕ) → at < length text → parse_inner_by strict (suc g) (drop at text)
      ≡ judged strict (start (get_or text at 0)) (drop (at + 1) text)
      (begin (get_or text at 0) (start (get_or text at 0)) (drop (at + 1) text) (λ t. parse_inner_by strict g t) (λ k t. parse_items_by strict g k t))
  unfolding parse_inner_by
  step_by text at g h = ap (parse_inner_by strict (suc g)) (unread text at h)

  pub nil-by : (f : ℕ) → parse_inner_by strict f [] ≡ R.empty
  unfolding parse_inner_by
  nil-by zero = refl
  nil-by (suc f) = refl

  module _ (text : List ℕ) (at : ℕ) where
    pub held_by_lem : {l : Label} → start (get_or text at 0) ≡ R.indirection l → (g : ℕ) {q : R.Parsed} → parse_inner_by strict g (drop (at + 1) text) ≡ q
        → begin (get_or text at 0) (start (get_or text at 0)) (drop (at + 1) text) (λ t. parse_inner_by strict g t) (λ k t. parse_items_by strict g k t)
        ≡ R.held l (drop (at + 1) text) q
    held_by_lem st g e = held-from text at st (λ t. parse_inner_by strict g t) (λ k t. parse_items_by strict g k t) e

    pub item_by : (len it : ℕ) → start (get_or text at 0) ≡ R.open_array → parse_number max_u64 (drop (at + 1) text) ≡ value len (drop it text)
        → (g : ℕ) {q : R.Parsed} → parse_inner_by strict g (drop it text) ≡ q
        → begin (get_or text at 0) (start (get_or text at 0)) (drop (at + 1) text) (λ t. parse_inner_by strict g t) (λ k t. parse_items_by strict g k t) ≡ R.item len q
    item_by len it st num g e = item_from text at len it st num (λ t. parse_inner_by strict g t) (λ k t. parse_items_by strict g k t) e

    pub next-by : (kind : ContainerKind) (g : ℕ) {q : R.Parsed} → parse_inner_by strict g (drop at text) ≡ q
        → R.next_item kind (parse_inner_by strict g (drop at text)) (λ t. parse_items_by strict g kind t) ≡ R.next_item kind q (λ t. parse_items_by strict g kind t)
    next-by kind g e = ap (λ (x : R.Parsed). R.next_item kind x (λ t. parse_items_by strict g kind t)) e

-- Without numbers of its own.
clean_of : (strict : Bool) (text : List ℕ) (at : ℕ) (S : R.Start) → start (get_or text at 0) ≡ S → ((s : List ℕ) → numbers_of S s ≡ []) → Clean strict text at
unfolding judged or_surplus first_surplus
clean_of false text at S e n q = refl
clean_of true text at S e n q =
    ap (λ (x : R.Start). or_surplus (first_surplus (numbers_of x (drop (at + 1) text))) q) e
    ∙ ap (λ (ss : List (List ℕ)). or_surplus (first_surplus ss) q) (n (drop (at + 1) text))

module _ (strict : Bool) (text : List ℕ) (at : ℕ) where
  pub clean-held : {l : Label} → start (get_or text at 0) ≡ R.indirection l → Clean strict text at
  unfolding numbers_of
  clean-held {l} e = clean_of strict text at (R.indirection l) e (λ s. refl)

  pub clean-opened : {k : ContainerKind} → start (get_or text at 0) ≡ R.open_container k → Clean strict text at
  unfolding numbers_of
  clean-opened {k} e = clean_of strict text at (R.open_container k) e (λ s. refl)

  pub clean-closed : {k : ContainerKind} → start (get_or text at 0) ≡ R.close_container k → Clean strict text at
  unfolding numbers_of
  clean-closed {k} e = clean_of strict text at (R.close_container k) e (λ s. refl)

  pub clean-single : {p : ℕ} → start (get_or text at 0) ≡ R.single p → Clean strict text at
  unfolding numbers_of
  clean-single {p} e = clean_of strict text at (R.single p) e (λ s. refl)

-- What is refused for a surplus zero.
abbrev pub surplus_at : ℕ → Digits → Number
surplus_at at d = record { «read» = Err (parse_error SurplusZero at); «digits» = d }

-- ---- The length of an array.

abbrev pub LengthIs : Bool → List ℕ → ℕ → Result (ℕ × ℕ) ParseError → Type 0
LengthIs strict text at (Ok (len, it)) = Clean strict text at × NumberIs text (at + 1) (Ok (len, it)) (parse_number max_u64 (drop (at + 1) text))
LengthIs strict text at (Err e) =
    ((inner : List ℕ → R.Parsed) (fields : ContainerKind → List ℕ → R.Items) → judged strict (start (get_or text at 0)) (drop (at + 1) text)
    (begin (get_or text at 0) (start (get_or text at 0)) (drop (at + 1) text) inner fields) ≡ refused e.«kind» (drop e.«split_point» text)) × (e.«split_point» ≤ length text)

module _ (text : List ℕ) (at : ℕ) (h : at < length text) (st : start (get_or text at 0) ≡ R.open_array) where
  clean-length : (strict : Bool) (r : Result (ℕ × ℕ) ParseError) → Clean strict text at → NumberIs text (at + 1) r (parse_number max_u64 (drop (at + 1) text))
      → LengthIs strict text at r
  unfolding begin
  clean-length strict (Ok (len, it)) clean n = (clean, n)
  clean-length strict (Err e) clean n = ((λ inner fields. clean _ ∙ begins text at st inner fields ∙ rw (n.0, begin) refl), n.1.1)

  array-judged : (y : Bool) → surplus_zero (drop (at + 1) text) ≡ y → (q : R.Parsed)
      → judged true (start (get_or text at 0)) (drop (at + 1) text) q ≡ cond y (refused SurplusZero (drop (at + 1) text)) q
  unfolding judged numbers_of first_surplus or_surplus
  array-judged true e q = ap (λ (x : R.Start). judged true x (drop (at + 1) text) q) st ∙ rw (e, first_surplus) refl
  array-judged false e q = ap (λ (x : R.Start). judged true x (drop (at + 1) text) q) st ∙ rw (e, first_surplus) refl

  length-strict : (y : Bool) → surplus_zero (drop (at + 1) text) ≡ y → (n r : Number) → n
      ≡ number_at text (drop (at + 1) text) (parse_number max_u64 (drop (at + 1) text))
      → r ≡ cond y (surplus_at (at + 1) n.«digits») n → LengthIs true text at r.«read»
  length-strict true e n r f g = rw g ((λ inner fields. array-judged true e _), omega arith)
  length-strict false e n r f g = rw g (clean-length true n.«read» (array-judged false e) (number_is text max_u64 (at + 1) n (omega arith) f))

  pub length-is : (strict : Bool) (r : Number) → r ≡ judged_number strict (at + 1)
      (number_at text (drop (at + 1) text) (parse_number max_u64 (drop (at + 1) text))) → LengthIs strict text at r.«read»
  unfolding judged
  length-is false r e = clean-length false r.«read» (λ q. refl) (number_is text max_u64 (at + 1) r (omega arith) e)
  length-is true r e =
      let n : Number = number_at text (drop (at + 1) text) (parse_number max_u64 (drop (at + 1) text)) in
      let shows : n.«digits».«surplus» ≡ surplus_zero (drop (at + 1) text) = ap (λ (d : Digits). d.«surplus») (number_digits text max_u64 (at + 1) n refl) in
      length-strict (surplus_zero (drop (at + 1) text)) refl n r refl (e ∙ ap (λ (y : Bool). cond y (surplus_at (at + 1) n.«digits») n) shows)

-- A number by its digits `d`.
module _ (n : Number) (at : ℕ) (d : Digits) (e : d ≡ n.«digits») where
  by-surplus : (y : Bool) → d.«surplus» ≡ y → judged_number true at n ≡ cond y (surplus_at at n.«digits») n
  by-surplus y f = ap (λ (x : Bool). cond x (surplus_at at n.«digits») n) (ap (λ (x : Digits). x.«surplus») (sym e) ∙ f)

  pub number-refused : d.«surplus» ≡ true → surplus_at at d ≡ judged_number true at n
  number-refused f = ap (surplus_at at) e ∙ sym (by-surplus true f)

  pub number-kept : d.«surplus» ≡ false → n ≡ judged_number true at n
  number-kept f = sym (by-surplus false f)

-- ---- The numbers of a bitfield.

-- The number `o`, if there is one, begins at `p`; there is none where `p` is 0.
pub record PlaceIs (text : List ℕ) (p : ℕ) (o : Option (List ℕ)) : Type 0 where
  pub none-there : p ≡ 0 → o ≡ None
  pub begins-there : 0 < p → o ≡ Some (drop p text)
  pub within : p ≤ length text

module _ (text : List ℕ) (at : ℕ) (h : at < length text) (u : List ℕ) (p : ℕ) (e : u ≡ drop p text) (o : 0 < p) (l : p ≤ length text) where
  first_of : (y z : Bool) → PlaceIs text (cond y (at + 1) (cond z p 0)) (cond y (Some (drop (at + 1) text)) (cond z (Some u) None))
  first_of true z = record { none-there = λ x. absurd (omega arith); begins-there = λ _. refl; within = omega arith }
  first_of false true = record { none-there = λ x. absurd (omega arith); begins-there = λ _. ap Some e; within = l }
  first_of false false = record { none-there = λ _. refl; begins-there = λ x. absurd (omega arith); within = omega arith }

module _ (text : List ℕ) (at : ℕ) (h : at < length text) where
  abbrev s : List ℕ
  s = drop (at + 1) text

  abbrev Judges : List (List ℕ) → Type 0
  Judges ss = PlaceIs text (surplus_place at (digits_then (digits_of s) ss)) (first_surplus (s ∷ ss)) × PlaceFits at (digits_then (digits_of s) ss) (length text)

  one_number : Judges []
  unfolding first_surplus
  one_number = (first_of text at h (drop 1 text) 1 refl (omega arith) (omega arith) (surplus_zero s) false, ((λ x. omega arith), λ x. absurd (false≢true x)))

  two-numbers : (u : List ℕ) → u ≡ drop (at + 2 + digit_count s) text → at + 2 + digit_count s ≤ length text → Judges (u ∷ [])
  unfolding first_surplus
  two-numbers u e l = (first_of text at h u (at + 2 + digit_count s) e (omega arith) l (surplus_zero s) (surplus_zero u), ((λ x. omega arith), λ x. l))

  typed-judges : (t : List ℕ) → t ≡ drop (digit_count s) s → Judges (typed_number t)
  unfolding typed_number
  typed-judges [] e = one_number
  typed-judges (b ∷ []) e = one_number
  typed-judges (b ∷ c ∷ r) e = go (integral b && is_digit c)
    where
      behind : c ∷ r ≡ drop (at + 2 + digit_count s) text
      behind =
          let here : c ∷ r ≡ drop 1 (drop (digit_count s) s) = ap (λ (x : List ℕ). drop 1 x) e in
          let place : at + 1 + (digit_count s + 1) ≡ at + 2 + digit_count s = omega arith in
          here ∙ drop-drop 1 (digit_count s) s ∙ drop-drop (digit_count s + 1) (at + 1) text ∙ ap (λ (k : ℕ). drop k text) place

      go : (y : Bool) → Judges (cond y ((c ∷ r) ∷ []) [])
      go true = two-numbers (c ∷ r) behind (omega (arith, ap length behind, length-drop (at + 2 + digit_count s) text))
      go false = one_number

  number-judges : (q : R.Number) → parse_number max_u64 s ≡ q → PlaceIs text (surplus_place at (C.digits_in (bits_numbers s))) (first_surplus (bits_numbers s)) ×
      PlaceFits at (C.digits_in (bits_numbers s)) (length text)
  number-judges (value n t) e = rw (bits-numbers s n t e) (typed-judges t (value-rest max_u64 s n t e))
  number-judges (no_number why t) e = rw (bits-no-number s why t e) one_number

-- ---- Tokens.

module _ (text : List ℕ) (at l : ℕ) where
  -- Only a bitfield and a refusal carry digits.
  bits-untyped : (d : BitsDigits) (n : ℕ) (t : List ℕ) → (token_surplus at (token_of text d (untyped n t)) ≡ surplus_place at d) ×
      (PlaceFits at d l → TokenFits at (token_of text d (untyped n t)) l)
  unfolding untyped leaf token_of label_token
  bits-untyped d n t = go (leb n max_u8)
    where
      go : (y : Bool) → (token_surplus at (token_of text d (elim y [ true ↦ leaf (bit_field n) t | false ↦ refused IntegerTooLarge t ])) ≡ surplus_place at d)
          × (PlaceFits at d l → TokenFits at (token_of text d (elim y [ true ↦ leaf (bit_field n) t | false ↦ refused IntegerTooLarge t ])) l)
      go true = (refl, λ x. x)
      go false = (refl, λ x. x)

  bits-typed : (d : BitsDigits) (o p : ℕ) (q : R.Number) → (token_surplus at (token_of text d (typed o p q)) ≡ surplus_place at d) ×
      (PlaceFits at d l → TokenFits at (token_of text d (typed o p q)) l)
  unfolding typed token_of label_token
  bits-typed d o p (value n t) = (refl, λ x. x)
  bits-typed d o p (no_number e t) = (refl, λ x. x)

  bits-field : (d : BitsDigits) (n : ℕ) (t : List ℕ) → (token_surplus at (token_of text d (parse_bit_field n t)) ≡ surplus_place at d) ×
      (PlaceFits at d l → TokenFits at (token_of text d (parse_bit_field n t)) l)
  unfolding parse_bit_field
  bits-field d n [] = bits-untyped d n []
  bits-field d n (b ∷ []) = bits-untyped d n (b ∷ [])
  bits-field d n (b ∷ c ∷ t) = go (integral b && is_digit c)
    where
      Field : Bool → R.Parsed
      Field y = elim y [ true ↦ typed n (single_kind (start b)) (parse_number max_u8 (c ∷ t)) | false ↦ untyped n (b ∷ c ∷ t) ]

      go : (y : Bool) → (token_surplus at (token_of text d (Field y)) ≡ surplus_place at d) × (PlaceFits at d l → TokenFits at (token_of text d (Field y)) l)
      go true = bits-typed d n (single_kind (start b)) (parse_number max_u8 (c ∷ t))
      go false = bits-untyped d n (b ∷ c ∷ t)

  bits-token : (d : BitsDigits) (q : R.Number) → (token_surplus at (token_of text d (parse_bits q)) ≡ surplus_place at d) ×
      (PlaceFits at d l → TokenFits at (token_of text d (parse_bits q)) l)
  unfolding parse_bits token_of
  bits-token d (value n t) = bits-field d n t
  bits-token d (no_number e t) = (refl, λ x. x)

  no-fits : PlaceFits at (C.digits_in []) l
  no-fits = ((λ x. absurd (false≢true x)), λ x. absurd (false≢true x))

  label-none : (m : Label) (cs : Trees) (to : ℕ) → (token_surplus at (label_token m cs to (C.digits_in [])) ≡ 0) × TokenFits
      at (label_token m cs to (C.digits_in [])) l
  unfolding label_token
  label-none (primitive p) cs to = (refl, tt)
  label-none (bit_field n) cs to = (refl, no-fits)
  label-none (typed_bit_field o n) cs to = (refl, no-fits)
  label-none pointer cs to = (refl, tt)
  label-none atomic cs to = (refl, tt)
  label-none (array n) cs to = (refl, tt)
  label-none (struct n) cs to = (refl, tt)
  label-none (union n) cs to = (refl, tt)
  label-none noneLabel cs to = (refl, tt)

  token-none : (q : R.Parsed) → (token_surplus at (token_of text (C.digits_in []) q) ≡ 0) × TokenFits at (token_of text (C.digits_in []) q) l
  unfolding token_of
  token-none R.empty = (refl, tt)
  token-none (encoding m cs t) = label-none m cs (place_of text t)
  token-none (R.container_end k t) = (refl, tt)
  token-none (R.array_end t) = (refl, tt)
  token-none (refused e t) = (refl, no-fits)

module _ (text : List ℕ) (at : ℕ) (h : at < length text) where
  abbrev TokenPlace : Token → R.Start → Type 0
  TokenPlace t S = PlaceIs text (token_surplus at t) (first_surplus (numbers_of S (drop (at + 1) text))) × TokenFits at t (length text)

  none-place : (q : R.Parsed) → PlaceIs text (token_surplus at (token_of text (C.digits_in []) q)) None × TokenFits at (token_of text (C.digits_in []) q)
      (length text)
  none-place q =
      let x = token-none text at (length text) q in (
        subst (λ (p : ℕ). PlaceIs text p None) (sym x.0) (record { none-there = λ _. refl; begins-there = λ l. absurd (omega arith); within = omega arith }),
        x.1,
      )

  bits-place : TokenPlace (token_of text (C.digits_in (bits_numbers (drop (at + 1) text))) (parse_bits (parse_number max_u64 (drop (at + 1) text)))) R.bits
  unfolding numbers_of
  bits-place =
      let d : BitsDigits = C.digits_in (bits_numbers (drop (at + 1) text)) in
      let x = bits-token text at (length text) d (parse_number max_u64 (drop (at + 1) text)) in
      let y = number-judges text at h (parse_number max_u64 (drop (at + 1) text)) refl in
      (subst (λ (p : ℕ). PlaceIs text p (first_surplus (bits_numbers (drop (at + 1) text)))) (sym x.0) y.0, x.1 y.1)

  begun-place : (S : R.Start) → has_parts S ≡ false → TokenPlace (token_from text (get_or text at 0) S (drop (at + 1) text)) S
  unfolding token_from has_parts numbers_of first_surplus begin
  begun-place (R.single p) n = none-place _
  begun-place R.complex n = none-place _
  begun-place R.object n = none-place _
  begun-place R.bits n = bits-place
  begun-place (R.indirection l) n = absurd (false≢true (sym n))
  begun-place R.open_array n = absurd (false≢true (sym n))
  begun-place R.close_array n = none-place _
  begun-place (R.open_container k) n = absurd (false≢true (sym n))
  begun-place (R.close_container k) n = none-place _
  begun-place R.nothing n = none-place _

  pub token-place : (t : Token) → has_parts (start (get_or text at 0)) ≡ false → t ≡ token_at text at → TokenPlace t (start (get_or text at 0))
  token-place t n e = rw (e ∙ token_begins text at h refl) (begun-place (start (get_or text at 0)) n)

  -- Where no number of the token has a surplus zero, and where one has.
  pub clean-token : (t : Token) → TokenPlace t (start (get_or text at 0)) → token_surplus at t ≡ 0 → Clean true text at
  unfolding judged or_surplus
  clean-token t x e q = ap (λ (o : Option (List ℕ)). or_surplus o q) (x.0.none-there e)

  pub surplus-token : (t : Token) → TokenPlace t (start (get_or text at 0)) → 0 < token_surplus at t
      → (q : R.Parsed) → judged true (start (get_or text at 0)) (drop (at + 1) text) q ≡ refused SurplusZero (drop (token_surplus at t) text)
  unfolding judged or_surplus
  surplus-token t x e q = ap (λ (o : Option (List ℕ)). or_surplus o q) (x.0.begins-there e)
