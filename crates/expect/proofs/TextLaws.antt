-- Tree against text at a place of the text: each definition by what stands there.
use Rattle.std.specs.Prelude.{Option, Some, None, Result, Ok, Err}
use Prim.Native.Nat.{ℕ, ◌+◌, ◌≤◌, ◌<◌}
use mathlib.Core.Path.{◌≡◌, refl, ap, ap₂, sym, ◌∙◌, subst}
use mathlib.Core.List.{List, [], ◌∷◌, ◌++◌}
use mathlib.Core.Bool.{Bool, true, false, not, cond, false≢true}
use native.Mathlib.Decide.{ℕ_discrete}
use native.Mathlib.Omega.{arith}
use borrow.Author.Tests.{eq-eqb, ne_eqb, eqb-true}
use lib.ListN.{length, get_or, drop, length-drop, length-append}
use lib.Dec.{eqb}
use Rattle.std.specs.List.{starts_with}
use Rattle.std.proofs.lemmas.Slice.Eq.{starts_is}
use Rattle.std.proofs.lemmas.Bool.Decides.{Decides-eqb}
use Rattle.kinds.proofs.ListLaws.{unread, unread-end}
use Rattle.parser.proofs.PlaceLaws.{drop-on}
use Rattle.kinds.specs.Expect.{Expected, remaining, mismatch, ◌then◌, or_else, expect_byte, expect_bytes, expect_number, expect_quote, class_name, expect_primitive}
use Rattle.kinds.specs.Parse.{value, no_number, parse_number, max_u64, max_u8}
use Rattle.kinds.specs.Container.{end_byte}
use Rattle.kinds.specs.Primitive.{code, codes, is_object}
use Rattle.kinds.specs.declared.ErrorKind.{ErrorKind}
use Rattle.kinds.specs.Kind.{container_of}
use Rattle.kinds.specs.declared.ParseError.{ParseError}
use Rattle.numbers.specs.declared.Number.{Number}
use Rattle.numbers.specs.Answer.{number_at}
use Rattle.numbers.proofs.NumberLaws as N
use Rattle.expect.specs.Agree.{ExpectedIs, number_end, any_object, opening_byte, opening, closing}

-- What follows a match, and what follows none.
pub then-remaining : (x : Expected) (f : List ℕ → Expected) (s : List ℕ) → x ≡ remaining s → (x then f) ≡ f s
unfolding ◌then◌
then-remaining x f s e = rw e

pub then-mismatch : (x : Expected) (f : List ℕ → Expected) → x ≡ mismatch → (x then f) ≡ mismatch
unfolding ◌then◌
then-mismatch x f e = rw e

module _ (b : ℕ) (s : List ℕ) (i : ℕ) where
  pub byte-end : length s ≤ i → expect_byte b (drop i s) ≡ mismatch
  unfolding expect_byte
  byte-end h = ap (expect_byte b) (unread-end s i h)

  pub byte-other : i < length s → (get_or s i 0 ≡ b → ⊥) → expect_byte b (drop i s) ≡ mismatch
  unfolding expect_byte
  byte-other h n = ap (expect_byte b) (unread s i h) ∙ rw (ne_eqb (get_or s i 0) b n, expect_byte)

  pub byte-taken : i < length s → get_or s i 0 ≡ b → expect_byte b (drop i s) ≡ remaining (drop (i + 1) s)
  unfolding expect_byte
  byte-taken h e = ap (expect_byte b) (unread s i h) ∙ rw (eq-eqb (get_or s i 0) b e, expect_byte)

-- The bytes of `m` stand at the start of the text, or do not.
bytes-taken : (m s : List ℕ) → expect_bytes m (m ++ s) ≡ remaining s
unfolding expect_bytes expect_byte
bytes-taken [] s = refl
bytes-taken (b ∷ m) s = then-remaining _ _ (m ++ s) (rw (eq-eqb b b refl, expect_byte)) ∙ bytes-taken m s

bytes-missing : (m s : List ℕ) → ((rest : List ℕ) → s ≡ m ++ rest → ⊥) → expect_bytes m s ≡ mismatch
unfolding expect_bytes expect_byte
bytes-missing [] s n = absurd (n s refl)
bytes-missing (b ∷ m) [] n = then-mismatch _ _ refl
bytes-missing (b ∷ m) (c ∷ s) n = elim (ℕ_discrete c b) [
  | yes e ↦ then-remaining _ _ s (rw (eq-eqb c b e, expect_byte)) ∙ bytes-missing m s (λ rest h. n rest (ap₂ (λ (x : ℕ) (t : List ℕ). x ∷ t) e h))
  | no k ↦ then-mismatch _ _ (rw (ne_eqb c b k, expect_byte))
]

-- What `starts_with` says of them.
module _ (m text : List ℕ) (at : ℕ) (r : Bool) (h : r ≡ starts_with eqb (drop at text) m) where
  pub bytes-stand : r ≡ true → (expect_bytes m (drop at text) ≡ remaining (drop (at + length m) text)) × (at ≤ length text → at + length m ≤ length text)
  bytes-stand e =
      let is = (starts_is Decides-eqb (drop at text) m r h).0 e in
      let n : length (drop at text) ≡ length m + length (drop (length m) (drop at text)) = ap length is ∙ length-append m _ in
      (ap (expect_bytes m) is ∙ bytes-taken m _ ∙ ap remaining (sym (drop-on at (length m) text)), λ l. omega (arith, length-drop at text))

  pub bytes-differ : r ≡ false → expect_bytes m (drop at text) ≡ mismatch
  bytes-differ e = bytes-missing m (drop at text) (λ rest i. false≢true (sym e ∙ (starts_is Decides-eqb (drop at text) m r h).1 rest i))

module _ (limit n : ℕ) (s : List ℕ) where
  number-none : (e : ErrorKind) (t : List ℕ) → parse_number limit s ≡ no_number e t → expect_number limit n s ≡ mismatch
  unfolding expect_number
  number-none e t h = rw (h, expect_number)

  number-other : (m : ℕ) (t : List ℕ) → parse_number limit s ≡ value m t → (m ≡ n → ⊥) → expect_number limit n s ≡ mismatch
  unfolding expect_number
  number-other m t h k = rw (h, expect_number, ne_eqb m n k, expect_number)

  number_is : (m : ℕ) (t : List ℕ) → parse_number limit s ≡ value m t → m ≡ n → expect_number limit n s ≡ remaining t
  unfolding expect_number
  number_is m t h k = rw (h, expect_number, eq-eqb m n k, expect_number)

-- A number that is read where `n` is wanted.
pub number-ends : (text : List ℕ) (limit n at : ℕ) (r : Number) → at ≤ length text → r ≡ number_at text (drop at text) (parse_number limit (drop at text))
    → ExpectedIs text (number_end n r.«read») (expect_number limit n (drop at text))
number-ends text limit n at r l e = go r.«read» (N.number_is text limit at r l e)
  where
    taken : (m to : ℕ) → N.NumberIs text at (Ok (m, to)) (parse_number limit (drop at text)) → (d : Bool) → eqb m n ≡ d
        → ExpectedIs text (cond d (Some to) None) (expect_number limit n (drop at text))
    taken m to i true f = (number_is limit n _ _ _ i.0 (eqb-true m n f), i.1.1)
    taken m to i false f = number-other limit n _ _ _ i.0 (λ h. false≢true (sym f ∙ eq-eqb m n h))

    go : (x : Result (ℕ × ℕ) ParseError) → N.NumberIs text at x (parse_number limit (drop at text)) → ExpectedIs text (number_end n x) (expect_number limit n (drop at text))
    go (Ok x) i = taken x.0 x.1 i (eqb x.0 n) refl
    go (Err x) i = number-none limit n _ _ _ i.0

module _ (s : List ℕ) (i : ℕ) where
  pub quote-end : length s ≤ i → expect_quote (drop i s) ≡ mismatch
  unfolding expect_quote
  quote-end h = ap expect_quote (unread-end s i h)

  pub quote-stop : i < length s → get_or s i 0 ≡ 34 → expect_quote (drop i s) ≡ remaining (drop (i + 1) s)
  unfolding expect_quote
  quote-stop h e = ap expect_quote (unread s i h) ∙ rw (eq-eqb (get_or s i 0) 34 e, expect_quote)

  pub quote-more : i < length s → (get_or s i 0 ≡ 34 → ⊥) → expect_quote (drop i s) ≡ expect_quote (drop (i + 1) s)
  unfolding expect_quote
  quote-more h n = ap expect_quote (unread s i h) ∙ rw (ne_eqb (get_or s i 0) 34 n, expect_quote)

module _ (s : List ℕ) (i : ℕ) where
  pub class-end : length s ≤ i → class_name (drop i s) ≡ remaining (drop i s)
  unfolding class_name
  class-end h = ap class_name (unread-end s i h) ∙ ap remaining (sym (unread-end s i h))

  pub class-none : i < length s → (get_or s i 0 ≡ 34 → ⊥) → class_name (drop i s) ≡ remaining (drop i s)
  unfolding class_name
  class-none h n = ap class_name (unread s i h) ∙ rw (ne_eqb (get_or s i 0) 34 n, class_name) (ap remaining (sym (unread s i h)))

  pub class-quoted : i < length s → get_or s i 0 ≡ 34 → class_name (drop i s) ≡ expect_quote (drop (i + 1) s)
  unfolding class_name
  class-quoted h e = ap class_name (unread s i h) ∙ rw (eq-eqb (get_or s i 0) 34 e, class_name)

-- An outcome of a text that comes to the same.
pub same_outcome : (text : List ℕ) (r : Option ℕ) (p q : Expected) → p ≡ q → ExpectedIs text r q → ExpectedIs text r p
same_outcome text r p q e h = subst (λ (x : Expected). ExpectedIs text r x) (sym e) h

-- A code of one byte, and of two.
pub then-nothing : (x : Expected) → (x then (λ t. remaining t)) ≡ x
unfolding ◌then◌
then-nothing (remaining t) = refl
then-nothing mismatch = refl

pub code-none : (s : List ℕ) → expect_bytes [] s ≡ remaining s
unfolding expect_bytes
code-none s = refl

pub code_one : (a : ℕ) (s : List ℕ) → expect_bytes (a ∷ []) s ≡ expect_byte a s
unfolding expect_bytes
code_one a s = then-nothing (expect_byte a s)

pub code_off : (a b : ℕ) (s : List ℕ) → expect_byte a s ≡ mismatch → expect_bytes (a ∷ b ∷ []) s ≡ mismatch
unfolding expect_bytes
code_off a b s e = then-mismatch (expect_byte a s) (λ u. expect_bytes (b ∷ []) u) e

pub code-two : (a b : ℕ) (s t : List ℕ) → expect_byte a s ≡ remaining t → expect_bytes (a ∷ b ∷ []) s ≡ expect_byte b t
unfolding expect_bytes
code-two a b s t e = then-remaining (expect_byte a s) (λ u. expect_bytes (b ∷ []) u) t e ∙ code_one b t

-- The first of the codes of Block, Object and Class that matches.
module _ (s : List ℕ) (a : expect_bytes (64 ∷ 63 ∷ []) s ≡ mismatch) where
  second-code : (t : List ℕ) → expect_bytes (64 ∷ []) s ≡ remaining t → any_object s ≡ remaining t
  unfolding any_object or_else code codes
  second-code t b = rw (a, b)

  no_code_lem : expect_bytes (64 ∷ []) s ≡ mismatch → expect_bytes (35 ∷ []) s ≡ mismatch → any_object s ≡ mismatch
  unfolding any_object or_else code codes
  no_code_lem b c = rw (a, b, c)

-- The codes of Block, Object and Class, by the first byte and the next.
module _ (s : List ℕ) (i : ℕ) where
  pub object-end : length s ≤ i → any_object (drop i s) ≡ mismatch
  unfolding any_object expect_bytes expect_byte or_else ◌then◌ code codes
  object-end h = ap any_object (unread-end s i h)

  module _ (h : i < length s) where
    pub object-class : get_or s i 0 ≡ 35 → any_object (drop i s) ≡ remaining (drop (i + 1) s)
    unfolding any_object expect_bytes expect_byte or_else ◌then◌ code codes
    object-class e = ap any_object (unread s i h ∙ ap (λ (b : ℕ). b ∷ drop (i + 1) s) e)

    pub object-other : (get_or s i 0 ≡ 35 → ⊥) → (get_or s i 0 ≡ 64 → ⊥) → any_object (drop i s) ≡ mismatch
    object-other m n =
        let e = byte-other 64 s i h n in
        no_code_lem (drop i s) (code_off 64 63 (drop i s) e) (code_one 64 (drop i s) ∙ e) (code_one 35 (drop i s) ∙ byte-other 35 s i h m)

    module _ (e : get_or s i 0 ≡ 64) where
      pub object-last : length s ≤ i + 1 → any_object (drop i s) ≡ remaining (drop (i + 1) s)
      unfolding any_object expect_bytes expect_byte or_else ◌then◌ code codes
      object-last k = ap any_object (unread s i h ∙ ap₂ ◌∷◌ e (unread-end s (i + 1) k)) ∙ ap remaining (sym (unread-end s (i + 1) k))

      pub object-block : i + 1 < length s → get_or s (i + 1) 0 ≡ 63 → any_object (drop i s) ≡ remaining (drop (i + 1 + 1) s)
      unfolding any_object expect_bytes expect_byte or_else ◌then◌ code codes
      object-block k f = ap any_object (unread s i h ∙ ap₂ ◌∷◌ e (unread s (i + 1) k ∙ ap (λ (b : ℕ). b ∷ drop (i + 1 + 1) s) f))

      pub object-bare : i + 1 < length s → (get_or s (i + 1) 0 ≡ 63 → ⊥) → any_object (drop i s) ≡ remaining (drop (i + 1) s)
      object-bare k n =
          let f = byte-taken 64 s i h e in
          second-code (drop i s) (code-two 64 63 (drop i s) (drop (i + 1) s) f ∙ byte-other 63 s (i + 1) k n) (drop (i + 1) s) (code_one 64 (drop i s) ∙ f)

-- A primitive, alone or of the group.
module _ (p : ℕ) (s : List ℕ) where
  pub primitive-alone : is_object p ≡ false → expect_primitive p s ≡ expect_bytes (code p) s
  unfolding expect_primitive
  primitive-alone e = rw (e, expect_primitive)

  group : is_object p ≡ true → expect_primitive p s ≡ (any_object s then (λ t. elim (eqb p 19) [ true ↦ class_name t | false ↦ remaining t ]))
  unfolding expect_primitive any_object
  group e = rw (e, expect_primitive)

  pub primitive-off : is_object p ≡ true → any_object s ≡ mismatch → expect_primitive p s ≡ mismatch
  primitive-off e h = group e ∙ then-mismatch _ _ h

  pub primitive-object : is_object p ≡ true → (t : List ℕ) → any_object s ≡ remaining t → p ≡ 19 → expect_primitive p s ≡ class_name t
  primitive-object e t h k = group e ∙ then-remaining _ _ _ h ∙ rw (eq-eqb p 19 k)

  pub primitive-other : is_object p ≡ true → (t : List ℕ) → any_object s ≡ remaining t → (p ≡ 19 → ⊥) → expect_primitive p s ≡ remaining t
  primitive-other e t h k = group e ∙ then-remaining _ _ _ h ∙ rw (ne_eqb p 19 k)

-- What stands before and after the children, by kind.
module _ (k n : ℕ) (s : List ℕ) where
  pub opening-off : expect_byte (opening_byte k) s ≡ mismatch → opening k n s ≡ mismatch
  unfolding opening
  opening-off e = then-mismatch _ _ e

  pub opening-more : (t : List ℕ) → expect_byte (opening_byte k) s ≡ remaining t → opening k n s ≡ expect_number max_u64 n t
  unfolding opening
  opening-more t e = then-remaining _ _ _ e

  pub closing-bits : k ≡ 25 → closing k n s ≡ expect_number max_u8 n s
  unfolding closing
  closing-bits e = rw e

  pub closing-array : k ≡ 28 → closing k n s ≡ expect_byte 93 s
  unfolding closing
  closing-array e = rw e

  pub closing-container : (k ≡ 25 → ⊥) → (k ≡ 28 → ⊥) → closing k n s ≡ expect_byte (end_byte (container_of k)) s
  unfolding closing
  closing-container e f = rw (ne_eqb k 25 e, ne_eqb k 28 f)
