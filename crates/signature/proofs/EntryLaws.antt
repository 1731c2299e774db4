-- One entry of a signature: what reading gives at a place, from what is found there.
use Prim.Native.Nat.{ℕ, suc, ◌+◌, ◌-◌, ◌≤◌, ◌<◌}
use mathlib.Core.Path.{◌≡◌, refl, sym, ap, ap₂, ◌∙◌}
use mathlib.Core.Bool.{Bool, true, false, cond}
use mathlib.Core.List.{List}
use native.Mathlib.Omega.{arith}
use lib.ListN.{length, drop, get_or, length-drop}
use Rattle.kinds.proofs.ListLaws.{unread, unread-end}
use Rattle.kinds.specs.Byte.{is_digit, starts_digit}
use Rattle.kinds.specs.Parse.{max_u32, value, no_number, parse_number, not_encoded, parse_encoding_or_none, unknown_digit, refusal, from_start}
use Rattle.kinds.specs.declared.ErrorKind.{ErrorKind}
use Rattle.kinds.specs.declared.Refusal.{Refusal}
use Rattle.kinds.specs.declared.Refusal.TheVariants.{Parse, ExpectedOffset, OffsetTooLarge}
use Rattle.parser.proofs.RestLaws.{place-of-drop}
use Rattle.numbers.specs.Answer.{digits_of}
use Rattle.numbers.specs.declared.Digits.{Digits}
use Rattle.numbers.proofs.NumberLaws.{value-shorter}
use Rattle.skip.proofs.RestLaws.{EncodingPassed}
use Rattle.signature.specs.Signature.{entry, refused, type_from_start, Offset, no_offset, limited, parse_offset, add_entry, number_then, type_then, signature_from}
use Rattle.signature.specs.Reads.{own_place, NumberIs, NextIs}
use Rattle.signature.specs.declared.Next.{Next}
use Rattle.std.specs.Prelude.{Result, Ok, Err}

-- ---- A digit at a place.

pub digit-there : (text : List ℕ) (at : ℕ) → at < length text → starts_digit (drop at text) ≡ is_digit (get_or text at 0)
unfolding starts_digit
digit-there text at h = ap starts_digit (unread text at h)

pub digit-end : (text : List ℕ) (at : ℕ) → length text ≤ at → starts_digit (drop at text) ≡ false
unfolding starts_digit
digit-end text at h = ap starts_digit (unread-end text at h)

-- ---- The number behind a type.

module _ (text : List ℕ) (at : ℕ) (inside : at ≤ length text) where
  pub number_read : (start v to : ℕ) (d : Digits) → to ≤ length text → parse_number max_u32 (drop at text) ≡ value v (drop to text) → d ≡ digits_of (drop at text)
      → NumberIs text start at (Ok (record { «size» = at - start; «number» = v; «next» = to; «digits» = d }))
  unfolding parse_offset limited
  number_read start v to d l e shown = (
    refl,
    record {
      is = ap (limited (length text) (starts_digit (drop at text))) e;
      onward = omega (arith, value-shorter max_u32 (drop at text) v (drop to text) e, length-drop at text, length-drop to text);
      within = l;
      shown = shown;
    },
  )

  module _ (why : ErrorKind) (to : ℕ) (l : to ≤ length text) (e : parse_number max_u32 (drop at text) ≡ no_number why (drop to text)) where
    refused-number : parse_offset (length text) (drop at text) ≡ no_offset (cond (starts_digit (drop at text)) (OffsetTooLarge to) (ExpectedOffset to))
    unfolding parse_offset limited
    refused-number =
        ap (limited (length text) (starts_digit (drop at text))) e
        ∙ ap (λ (k : ℕ). no_offset (cond (starts_digit (drop at text)) (OffsetTooLarge k) (ExpectedOffset k))) (place-of-drop text to l)

    pub number-large : starts_digit (drop at text) ≡ true → parse_offset (length text) (drop at text) ≡ no_offset (OffsetTooLarge to)
    number-large d = refused-number ∙ ap (λ (b : Bool). no_offset (cond b (OffsetTooLarge to) (ExpectedOffset to))) d

    pub number-missing : starts_digit (drop at text) ≡ false → parse_offset (length text) (drop at text) ≡ no_offset (ExpectedOffset to)
    number-missing d = refused-number ∙ ap (λ (b : Bool). no_offset (cond b (OffsetTooLarge to) (ExpectedOffset to))) d

-- ---- A type that is refused.

refusal-placed : (n : ℕ) (e : ErrorKind) (t : List ℕ) → type_from_start n (not_encoded e t) ≡ refusal e (own_place e (n - length t))
unfolding type_from_start from_start
refusal-placed n e t = go (unknown_digit e) refl
  where
    go : (b : Bool) → unknown_digit e ≡ b → type_from_start n (not_encoded e t) ≡ refusal e (cond b (n - length t - 1) (n - length t))
    go true x = rw (x, type_from_start) refl
    go false x = rw (x, type_from_start) (rw (x, from_start) refl)

-- ---- The entry at a place.

module _ (text : List ℕ) (at : ℕ) (h : at < length text) where
  begins : (f : ℕ) → signature_from (suc f) (length text) (drop at text)
      ≡ type_then (length text) (drop at text) (type_from_start (length text) (parse_encoding_or_none (drop at text))) (λ t. signature_from f (length text) t)
  unfolding signature_from
  begins f =
      ap (signature_from (suc f) (length text)) (unread text at h)
      ∙ sym (ap (λ (s : List ℕ). type_then (length text) s (type_from_start (length text) (parse_encoding_or_none s)) (λ t. signature_from f (length text) t)) (unread text at h))

  pub type-refused : (why : ErrorKind) (to : ℕ) → to ≤ length text → parse_encoding_or_none (drop at text) ≡ not_encoded why (drop to text)
      → NextIs text at (Err (Parse why (own_place why to)))
  unfolding type_then
  type-refused why to l e f =
      begins f
      ∙ ap (λ x. type_then (length text) (drop at text) (type_from_start (length text) x) (λ t. signature_from f (length text) t)) e
      ∙ ap (λ x. type_then (length text) (drop at text) x (λ t. signature_from f (length text) t)) (refusal-placed (length text) why (drop to text))
      ∙ ap (λ (k : ℕ). refused (Parse why (own_place why k))) (place-of-drop text to l)

  module _ (to : ℕ) (p : EncodingPassed text at to (parse_encoding_or_none (drop at text))) where
    goes_on : (f : ℕ) (q : Offset) → parse_offset (length text) (drop to text) ≡ q
        → signature_from (suc f) (length text) (drop at text) ≡ number_then (length text) (drop at text) (drop to text) q (λ t. signature_from f (length text) t)
    unfolding type_from_start from_start type_then
    goes_on f q e =
        begins f
        ∙ ap (λ x. type_then (length text) (drop at text) (type_from_start (length text) x) (λ t. signature_from f (length text) t)) p.is
        ∙ ap (λ x. number_then (length text) (drop at text) (drop to text) x (λ t. signature_from f (length text) t)) e

    entry_next : (r : Result Next Refusal) → NumberIs text at to r → NextIs text at r
    unfolding number_then
    entry_next (Ok e) n =
        let l = p.onward h in
        let w = p.within in
        let o = n.1 in
        let a = length-drop at text in
        let b = length-drop to text in
        let begin : length text - length (drop at text) ≡ at = omega arith in
        let long : length (drop at text) - length (drop to text) ≡ e.«size» = omega (arith, n.0) in
        let behind : to ≡ at + e.«size» = omega (arith, n.0) in
        record {
          onward = omega (arith, o.onward);
          within = o.within;
          says = λ f. goes_on f _ o.is ∙ ap₂ (λ (x y : ℕ). add_entry (entry x y e.«number») (signature_from f (length text) (drop e.«next» text))) begin long;
          shown = o.shown ∙ ap (λ (k : ℕ). digits_of (drop k text)) behind;
        }
    entry_next (Err why) n = λ f. goes_on f _ n

    pub entry-is : (r : Result Next Refusal) → NumberIs text at to r → NextIs text at r
    entry-is r n = entry_next r n
