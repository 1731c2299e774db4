-- Numbers, leaves and bitfields are read alike where the text is cut behind them.
use Prim.Native.Nat.{ℕ, ◌+◌, ◌*◌, ◌-◌}
use mathlib.Core.Path.{◌≡◌, refl, sym, ap, subst, ◌∙◌}
use mathlib.Core.List.{List, [], ◌∷◌, ◌++◌, append_assoc}
use mathlib.Core.Bool.{Bool, true, false, ◌&&◌, and-false}
use lib.Dec.{leb, eqb}
use Rattle.kinds.specs.Byte.{byte, is_digit, starts_digit}
use Rattle.kinds.specs.Parse.{max_u64, max_u8, Number, value, no_number, more_digits, bounded, parse_number, Parsed, encoding, refused, start, leaf}
use Rattle.kinds.specs.Parse.{parse_complex, parse_quoted, parse_object, integral, single_kind, typed, untyped, parse_bit_field, parse_bits}
use Rattle.kinds.specs.Tree.{Label, Trees, end, primitive, bit_field}
use Rattle.kinds.specs.declared.ErrorKind.{ErrorKind}
use Rattle.kinds.proofs.ParseLaws.{number-none}
use Rattle.kinds.proofs.TableLaws.{both}
use Rattle.agreement.specs.Sound.{unknown_next}
use Rattle.agreement.proofs.DigitLaws.{digits-stop}
use Rattle.agreement.proofs.FollowLaws.{starts_typed, starts_quote}
use Rattle.agreement.proofs.RoundTrip.{plain-object, not-typed, is-typed}
use Rattle.agreement.proofs.ReadLaws.{digit-read}

-- ---- Readings that can be cut.

-- `read` made something of `s` and left `u`: the bytes that it took, and that it makes the same of them where only a beginning of `u` follows.
pub record Cut {A : Type 0} (read made : List ℕ → A) (s u : List ℕ) : Type 0 where
  pub taken : List ℕ
  pub is : s ≡ taken ++ u
  pub cut : (t w : List ℕ) → u ≡ t ++ w → read (taken ++ t) ≡ made t

-- Nothing was taken.
pub at_once : {A : Type 0} {read made : List ℕ → A} {s : List ℕ} → ((t w : List ℕ) → s ≡ t ++ w → read t ≡ made t) → Cut read made s s
at_once f = record { taken = []; is = refl; cut = f }

-- A byte more in front.
pub later : {A : Type 0} {read after made : List ℕ → A} {s u : List ℕ} (b : ℕ) → ((x : List ℕ) → read (b ∷ x) ≡ after x) → Cut after made s u → Cut read made (b ∷ s) u
later b f c = record { taken = b ∷ c.taken; is = ap (λ x. b ∷ x) c.is; cut = λ t w e. f (c.taken ++ t) ∙ c.cut t w e }

begins : {A : Type 0} {read made : List ℕ → A} {s u : List ℕ} (c : Cut read made s u) (t w : List ℕ) → u ≡ t ++ w → s ≡ (c.taken ++ t) ++ w
begins c t w e = c.is ∙ ap (λ x. c.taken ++ x) e ∙ sym (append_assoc c.taken t w)

-- Another reading, made of this one.
pub over : {A B : Type 0} {read made : List ℕ → A} {that makes : List ℕ → B} {s u : List ℕ} → ((x w y : List ℕ) → s ≡ x ++ w → read x ≡ made y → that x ≡ makes y)
    → Cut read made s u → Cut that makes s u
over f c = record { taken = c.taken; is = c.is; cut = λ t w e. f (c.taken ++ t) w t (begins c t w e) (c.cut t w e) }

-- One reading after another.
pub join : {A B : Type 0} {one made : List ℕ → A} {two last all : List ℕ → B} {s u v : List ℕ} → ((x y : List ℕ) → one x ≡ made y → all x ≡ two y)
    → Cut one made s u → Cut two last u v → Cut all last s v
join {v = v} f c d = record {
  taken = c.taken ++ d.taken;
  is = begins c d.taken v d.is;
  cut = λ t w e. rw append_assoc (f (c.taken ++ (d.taken ++ t)) (d.taken ++ t) (c.cut (d.taken ++ t) w (begins d t w e)) ∙ d.cut t w e);
}

pub none_left : (t w : List ℕ) → [] ≡ t ++ w → t ≡ []
none_left [] w e = refl
none_left (b ∷ t) w e = cc

-- ---- Numbers.

abbrev pub CutNumber : (List ℕ → Number) → List ℕ → Number → Type 0
CutNumber read s (value n u) = Cut read (value n) s u
CutNumber read s (no_number e u) = Unit {0}

number-later : (read after : List ℕ → Number) (b : ℕ) → ((x : List ℕ) → read (b ∷ x) ≡ after x) → (s : List ℕ) (q : Number) → CutNumber after s q → CutNumber read (b ∷ s) q
number-later read after b f s (value n u) c = later b f c
number-later read after b f s (no_number e u) c = tt

-- No digit follows, so none does where the text is cut.
no-more-digits : (n : ℕ) (s : List ℕ) → starts_digit s ≡ false → Cut (more_digits n) (value n) s s
unfolding starts_digit
no-more-digits n s e = at_once (λ t w h. digits-stop n t (before t w (subst (λ x. starts_digit x ≡ false) h e)))
  where
    before : (t w : List ℕ) → starts_digit (t ++ w) ≡ false → starts_digit t ≡ false
    before [] w h = refl
    before (b ∷ t) w h = h

digits-cut : (s : List ℕ) (n : ℕ) → CutNumber (more_digits n) s (more_digits n s)
unfolding more_digits starts_digit
digits-cut [] n = no-more-digits n [] refl
digits-cut (b ∷ s) n = go (is_digit b) refl (λ m. digits-cut s m)
  where
    go : (x : Bool) → is_digit b ≡ x → ((m : ℕ) → CutNumber (more_digits m) s (more_digits m s)) → CutNumber (more_digits n) (b ∷ s) (more_digits n (b ∷ s))
    go true e r =
        let m : ℕ = n * 10 + (b - byte "0") in
        rw (digit-read n b e s) (number-later (more_digits n) (more_digits m) b (digit-read n b e) s (more_digits m s) (r m))
    go false e r = rw (e, more_digits) (no-more-digits n (b ∷ s) e)

bounded-cut : (limit : ℕ) (read : List ℕ → Number) (s : List ℕ) (q : Number) → CutNumber read s q → CutNumber (λ x. bounded limit (read x)) s (bounded limit q)
unfolding bounded
bounded-cut limit read s (value n u) c = go (leb n limit) refl
  where
    go : (x : Bool) → leb n limit ≡ x → CutNumber (λ x. bounded limit (read x)) s (bounded limit (value n u))
    go true h = rw (h, bounded) (over (λ x w y j e. rw (e, h, bounded)) c)
    go false h = rw (h, bounded) tt
bounded-cut limit read s (no_number e u) c = tt

pub number_cut : (limit : ℕ) (s : List ℕ) → CutNumber (parse_number limit) s (parse_number limit s)
unfolding parse_number
number_cut limit [] = tt
number_cut limit (b ∷ s) = go (is_digit b) refl
  where
    go : (x : Bool) → is_digit b ≡ x → CutNumber (parse_number limit) (b ∷ s) (parse_number limit (b ∷ s))
    go true e =
        let m : ℕ = 0 * 10 + (b - byte "0") in
        rw (e, digit-read 0 b e s, parse_number)
        (number-later (parse_number limit) (λ x. bounded limit (more_digits m x)) b (λ x. rw (e, digit-read 0 b e x, parse_number)) s (bounded limit (more_digits m s))
        (bounded-cut limit (more_digits m) s (more_digits m s) (digits-cut s m)))
    go false e = rw (e, parse_number) tt

-- ---- Leaves.

-- What is read of a text that begins with no closer.
pub data Made (read : List ℕ → Parsed) (s : List ℕ) : Parsed → Type 0 where
  found : {l : Label} {cs : Trees} {u : List ℕ} → Cut read (encoding l cs) s u → Made read s (encoding l cs u)
  failed : {e : ErrorKind} {u : List ℕ} → Made read s (refused e u)

pub made-later : {read after : List ℕ → Parsed} {s : List ℕ} {q : Parsed} (b : ℕ) → ((x : List ℕ) → read (b ∷ x) ≡ after x) → Made after s q → Made read (b ∷ s) q
made-later b f (found c) = found (later b f c)
made-later b f failed = failed

pub made-join : {A : Type 0} {one made : List ℕ → A} {two all : List ℕ → Parsed} {s u : List ℕ} {q : Parsed} → ((x y : List ℕ) → one x ≡ made y → all x ≡ two y)
    → Cut one made s u → Made two u q → Made all s q
made-join f c (found d) = found (join f c d)
made-join f c failed = failed

-- A byte that ends a type.
pub made-last : (read : List ℕ → Parsed) (b : ℕ) (l : Label) (cs : Trees) (s : List ℕ) → ((x : List ℕ) → read (b ∷ x) ≡ encoding l cs x) → Made read (b ∷ s) (encoding l cs s)
made-last read b l cs s f = found (later {after = encoding l cs} b f (at_once (λ t w e. refl)))

pub complex-cut : (s : List ℕ) → Made parse_complex s (parse_complex s)
unfolding parse_complex leaf
complex-cut [] = failed
complex-cut (c ∷ s) = go (eqb c (byte "f")) refl (eqb c (byte "d")) refl (eqb c (byte "D")) refl
  where
    go : (x : Bool) → eqb c (byte "f") ≡ x → (y : Bool) → eqb c (byte "d") ≡ y → (z : Bool) → eqb c (byte "D") ≡ z → Made parse_complex (c ∷ s) (parse_complex (c ∷ s))
    go true e y f z g = rw (e, parse_complex) (made-last parse_complex c (primitive 13) end s (λ x. rw (e, parse_complex)))
    go false e true f z g = rw (e, f, parse_complex) (made-last parse_complex c (primitive 14) end s (λ x. rw (e, f, parse_complex)))
    go false e false f true g = rw (e, f, g, parse_complex) (made-last parse_complex c (primitive 15) end s (λ x. rw (e, f, g, parse_complex)))
    go false e false f false g = rw (e, f, g, parse_complex) failed

quoted-cut : (s : List ℕ) → Made parse_quoted s (parse_quoted s)
unfolding parse_quoted leaf
quoted-cut [] = failed
quoted-cut (c ∷ s) = go (eqb c (byte "\"")) refl (quoted-cut s)
  where
    go : (x : Bool) → eqb c (byte "\"") ≡ x → Made parse_quoted s (parse_quoted s) → Made parse_quoted (c ∷ s) (parse_quoted (c ∷ s))
    go true e r = rw (e, parse_quoted) (made-last parse_quoted c (primitive 19) end s (λ x. rw (e, parse_quoted)))
    go false e r = rw (e, parse_quoted) (made-later c (λ x. rw (e, parse_quoted)) r)

plain-cut : (s : List ℕ) → unknown_next s ≡ false → starts_quote s ≡ false → Made parse_object s (encoding (primitive 19) end s)
unfolding unknown_next starts_quote
plain-cut s i j = found (at_once (λ t w h. before t w (subst (λ x. unknown_next x ≡ false) h i) (subst (λ x. starts_quote x ≡ false) h j)))
  where
    before : (t w : List ℕ) → unknown_next (t ++ w) ≡ false → starts_quote (t ++ w) ≡ false → parse_object t ≡ encoding (primitive 19) end t
    before [] w i j = plain-object [] refl refl
    before (b ∷ t) w i j = plain-object (b ∷ t) i j

pub object-cut : (s : List ℕ) → Made parse_object s (parse_object s)
unfolding parse_object leaf unknown_next starts_quote
object-cut [] = plain-cut [] refl refl
object-cut (c ∷ s) = go (eqb c (byte "?")) refl (eqb c (byte "\"")) refl
  where
    go : (x : Bool) → eqb c (byte "?") ≡ x → (y : Bool) → eqb c (byte "\"") ≡ y → Made parse_object (c ∷ s) (parse_object (c ∷ s))
    go true e y f = rw (e, parse_object) (made-last parse_object c (primitive 20) end s (λ x. rw (e, parse_object)))
    go false e true f = rw (e, f, parse_object) (made-later c (λ x. rw (e, f, parse_object)) (quoted-cut s))
    go false e false f = rw (e, f, parse_object) (plain-cut (c ∷ s) e f)

-- ---- Bitfields.

untyped-cut : (n : ℕ) (s : List ℕ) → starts_typed s ≡ false → Made (parse_bit_field n) s (untyped n s)
unfolding untyped leaf starts_typed starts_digit
untyped-cut n s h = go (leb n max_u8) refl
  where
    before : (t w : List ℕ) → starts_typed (t ++ w) ≡ false → starts_typed t ≡ false
    before [] w h = refl
    before (b ∷ []) w h = and-false (integral b)
    before (b ∷ c ∷ t) w h = h

    go : (x : Bool) → leb n max_u8 ≡ x → Made (parse_bit_field n) s (untyped n s)
    go true e = rw (e, untyped) (found {l = bit_field n} {cs = end} (at_once (λ t w i. not-typed n t (before t w (subst (λ x. starts_typed x ≡ false) i h)) ∙ rw (e, untyped))))
    go false e = rw (e, untyped) failed

-- A number begins with a digit, and one behind the byte of a type is its size.
sized : (n b : ℕ) → integral b ≡ true → (m : ℕ) (x y : List ℕ) → parse_number max_u8 x ≡ value m y → parse_bit_field n (b ∷ x) ≡ typed n (single_kind (start b)) (value m y)
unfolding parse_number starts_digit
sized n b i m [] y e = cc
sized n b i m (d ∷ x) y e = go (is_digit d) refl
  where
    go : (z : Bool) → is_digit d ≡ z → parse_bit_field n (b ∷ d ∷ x) ≡ typed n (single_kind (start b)) (value m y)
    go true k = is-typed n b (d ∷ x) i k ∙ ap (typed n (single_kind (start b))) e
    go false k = cc (number-none max_u8 d x k)

typed-cut : (n b : ℕ) (s : List ℕ) → integral b ≡ true → (q : Number) → CutNumber (parse_number max_u8) s q → Made (parse_bit_field n) (b ∷ s) (typed n (single_kind (start b)) q)
unfolding typed
typed-cut n b s i (value m u) c = found (later b (λ x. refl) (over (λ x w y h e. sized n b i m x y e) c))
typed-cut n b s i (no_number e u) c = failed

bit-field-cut : (n : ℕ) (s : List ℕ) → Made (parse_bit_field n) s (parse_bit_field n s)
unfolding parse_bit_field starts_typed starts_digit
bit-field-cut n [] = untyped-cut n [] refl
bit-field-cut n (b ∷ []) = untyped-cut n (b ∷ []) (and-false (integral b))
bit-field-cut n (b ∷ c ∷ s) = go (integral b && is_digit c) refl
  where
    go : (x : Bool) → (integral b && is_digit c) ≡ x → Made (parse_bit_field n) (b ∷ c ∷ s) (parse_bit_field n (b ∷ c ∷ s))
    go true e = rw (e, parse_bit_field) (typed-cut n b (c ∷ s) (both (integral b) (is_digit c) e).0 (parse_number max_u8 (c ∷ s)) (number_cut max_u8 (c ∷ s)))
    go false e = rw (e, parse_bit_field) (untyped-cut n (b ∷ c ∷ s) e)

pub bits-cut : (s : List ℕ) (q : Number) → CutNumber (parse_number max_u64) s q → Made (λ x. parse_bits (parse_number max_u64 x)) s (parse_bits q)
unfolding parse_bits
bits-cut s (value n u) c = made-join (λ x y e. ap parse_bits e) c (bit-field-cut n u)
bits-cut s (no_number e u) c = failed
