-- The sentence that is made of a reason's bytes says what the reason says.
use Prim.Native.Nat.{ℕ, zero, suc, ◌+◌, ◌-◌, ◌*◌, ◌/◌, ◌%◌, ◌≤◌, ◌<◌}
use native.Mathlib.Omega.{arith}
use mathlib.Core.Path.{◌≡◌, refl, sym, ap, subst, ◌∙◌}
use mathlib.Core.Bool.{Bool, true, false, cond, ◌||◌, false≢true}
use mathlib.Core.List.{List, [], ◌∷◌, ◌++◌}
use lib.Dec.{ltb, eqb}
use lib.ListN.{length, drop, length-append, get_or}
use lib.Seq.{take_at, drop-append-add}
use borrow.Author.Tests.{ltb-true, ltb-false, eq-eqb, ne_eqb}
use Rattle.kinds.specs.Byte.{byte, bytes, is_digit}
use Rattle.kinds.specs.Name.{is_name_byte, all_name_bytes, verify_name}
use Rattle.kinds.specs.Parse.{max_u64}
use Rattle.kinds.specs.Print.{digits, decimal}
use Rattle.kinds.proofs.DecimalLaws.{last-digit, one-digit}
use Rattle.kinds.proofs.TableLaws.{both}
use Rattle.lines.specs.Answer.{until, grown, decimals}
use Rattle.lines.proofs.DecimalLaws.{grown-value}
use Rattle.reason.specs.Reason as R
use Rattle.show.specs.Answer.{line_of, kind_names, before, after, compound_names, kind_text, place_text, unit_text, value_text, difference_by, difference_text, said, sentence}

-- ---- Texts in which a byte does not stand.

abbrev Without : ℕ → List ℕ → Type 0
Without b s = until b s ≡ length s

without_more : (b x : ℕ) (s : List ℕ) → (x ≡ b → ⊥) → Without b s → Without b (x ∷ s)
unfolding until
without_more b x s n h = rw (ne_eqb x b n) (ap suc h)

-- The first `b` of a text stands behind a part that has none.
until-behind : (b : ℕ) (s t : List ℕ) → Without b s → until b (s ++ t) ≡ length s + until b t
unfolding until
until-behind b [] t h = omega arith
until-behind b (x ∷ s) t h = go (eqb x b) h (λ k. until-behind b s t k)
  where
    go : (y : Bool) → cond y 0 (suc (until b s)) ≡ suc (length s) → (Without b s → until b (s ++ t) ≡ length s + until b t)
        → cond y 0 (suc (until b (s ++ t))) ≡ suc (length s) + until b t
    go true k rec = absurd (omega arith)
    go false k rec = let r = rec (omega arith) in omega arith

without-append : (b : ℕ) (s t : List ℕ) → Without b s → Without b t → Without b (s ++ t)
without-append b s t h k = let u = until-behind b s t h in let l = length-append s t in omega arith

seam : (b : ℕ) (s t : List ℕ) → Without b s → length s ≡ until b (s ++ (b ∷ t))
unfolding until
seam b s t h = let u = until-behind b s (b ∷ t) h in let z : until b (b ∷ t) ≡ 0 = rw (eq-eqb b b refl) in omega arith

before-seam : (b : ℕ) (s t : List ℕ) → Without b s → before b (s ++ (b ∷ t)) ≡ s
unfolding before
before-seam b s t h = take_at s (b ∷ t) (until b (s ++ (b ∷ t))) (seam b s t h)

after-seam : (b : ℕ) (s t : List ℕ) → Without b s → after b (s ++ (b ∷ t)) ≡ t
unfolding after
after-seam b s t h = ap (λ (n : ℕ). drop (n + 1) (s ++ (b ∷ t))) (sym (seam b s t h)) ∙ drop-append-add s (b ∷ t) 1

-- ---- Numbers.

-- `b` is no digit.
abbrev NoDigit : ℕ → Type 0
NoDigit b = (d : ℕ) → d < 10 → byte "0" + d ≡ b → ⊥

digits-without : (b f n : ℕ) (rest : List ℕ) → NoDigit b → Without b rest → Without b (digits f n rest)
unfolding digits
digits-without b zero n rest o h = h
digits-without b (suc f) n rest o h = go (ltb n 10) refl (λ k. digits-without b f (n / 10) ((byte "0" + n % 10) ∷ rest) o k)
  where
    d : ℕ
    d = byte "0" + n % 10

    go : (t : Bool) → ltb n 10 ≡ t → (Without b (d ∷ rest) → Without b (digits f (n / 10) (d ∷ rest))) → Without b (digits (suc f) n rest)
    go true e rec = subst (Without b) (sym (last-digit f n rest (ltb-true n 10 e))) (without_more b (byte "0" + n) rest (o n (ltb-true n 10 e)) h)
    go false e rec = subst (Without b) (sym (one-digit f n rest (ltb-false n 10 e))) (rec (without_more b d rest (o (n % 10) (omega arith)) h))

decimal-without : (b n : ℕ) → NoDigit b → Without b (decimal n)
unfolding decimal until
decimal-without b n o = digits-without b (suc n) n [] o refl

no-space : (n : ℕ) → Without (byte " ") (decimal n)
no-space n = decimal-without (byte " ") n (λ d h e. omega arith)

no-colon : (n : ℕ) → Without (byte ":") (decimal n)
no-colon n = decimal-without (byte ":") n (λ d h e. omega arith)

-- A number of 64 bits is read back.
read_more : (n d : ℕ) (s : List ℕ) → d < 10 → 10 * n + d ≤ max_u64 → decimals n ((byte "0" + d) ∷ s) ≡ decimals (10 * n + d) s
unfolding decimals
read_more n d s h k =
    let e : byte "0" + d - byte "0" ≡ d = omega arith in
    rw (ne_eqb (byte "0" + d) (byte ",") (λ q. omega arith), sym (grown-value n (byte "0" + d) (omega arith) (omega arith) (omega arith))) (ap (λ (x : ℕ). decimals (10 * n + x) s) e)

read-digits : (f n : ℕ) (rest : List ℕ) → n < f → n ≤ max_u64 → decimals 0 (digits f n rest) ≡ decimals n rest
read-digits zero n rest h k = absurd (omega arith)
read-digits (suc f) n rest h k = go (ltb n 10) refl (λ i j. read-digits f (n / 10) ((byte "0" + n % 10) ∷ rest) i j)
  where
    d : List ℕ
    d = (byte "0" + n % 10) ∷ rest

    go : (t : Bool) → ltb n 10 ≡ t → (n / 10 < f → n / 10 ≤ max_u64 → decimals 0 (digits f (n / 10) d) ≡ decimals (n / 10) d) → decimals 0 (digits (suc f) n rest) ≡ decimals n rest
    go true e rec =
        let l = ltb-true n 10 e in
        ap (decimals 0) (last-digit f n rest l) ∙ read_more 0 n rest l (omega arith) ∙ ap (λ (x : ℕ). decimals x rest) (omega arith)
    go false e rec =
        let l = ltb-false n 10 e in
        ap (decimals 0) (one-digit f n rest l) ∙ rec (omega arith) (omega arith)
        ∙ read_more (n / 10) (n % 10) rest (omega arith) (omega arith) ∙ ap (λ (x : ℕ). decimals x rest) (omega arith)

read-kind : (n : ℕ) → n ≤ max_u64 → kind_text (get_or (decimals 0 (decimal n)) 0 0) ≡ kind_text n
unfolding decimal decimals
read-kind n h = ap (λ (s : List ℕ). kind_text (get_or s 0 0)) (read-digits (suc n) n [] (omega arith) h)

-- ---- Good names have no space.

name-byte : (b : ℕ) → is_name_byte b ≡ true → b ≡ byte " " → ⊥
unfolding is_name_byte is_digit
name-byte b h e = false≢true (sym (ap is_name_byte e) ∙ h)

one_byte : (b : ℕ) → (eqb b (byte "?") || is_name_byte b) ≡ true → b ≡ byte " " → ⊥
unfolding is_name_byte is_digit
one_byte b h e = false≢true (sym (ap (λ (x : ℕ). eqb x (byte "?") || is_name_byte x) e) ∙ h)

name-bytes : (s : List ℕ) → all_name_bytes s ≡ true → Without (byte " ") s
unfolding all_name_bytes until
name-bytes [] h = refl
name-bytes (b ∷ s) h = let k = both (is_name_byte b) (all_name_bytes s) h in without_more (byte " ") b s (name-byte b k.0) (name-bytes s k.1)

good-plain : (s : List ℕ) → verify_name s ≡ true → Without (byte " ") s
unfolding verify_name until
good-plain [] h = absurd (false≢true h)
good-plain (b ∷ []) h = without_more (byte " ") b [] (one_byte b h) refl
good-plain (b ∷ c ∷ s) h =
    let k = both (is_name_byte b) (all_name_bytes (c ∷ s)) h in
    without_more (byte " ") b (c ∷ s) (name-byte b k.0) (name-bytes (c ∷ s) k.1)

-- ---- The reason's bytes, taken apart.

dotted-without : (p : List ℕ) → Without (byte ":") (R.dotted p)
unfolding R.dotted until
dotted-without [] = refl
dotted-without (i ∷ p) =
    without_more (byte ":") (byte ".") (decimal i ++ R.dotted p) (λ e. omega arith)
    (without-append (byte ":") (decimal i) (R.dotted p) (no-colon i) (dotted-without p))

path-without : (p : List ℕ) → Without (byte ":") (R.path_text p)
unfolding R.path_text until
path-without [] = refl
path-without (i ∷ p) = without-append (byte ":") (decimal i) (R.dotted p) (no-colon i) (dotted-without p)

-- A value behind its length and a colon.
counted : List ℕ → List ℕ
counted s = decimal (length s) ++ (byte ":" ∷ s)

counted-after : (s : List ℕ) → after (byte ":") (counted s) ≡ s
unfolding counted
counted-after s = after-seam (byte ":") (decimal (length s)) s (no-colon (length s))

counted-without : (s : List ℕ) → Without (byte " ") s → Without (byte " ") (counted s)
unfolding counted
counted-without s h =
    without-append (byte " ") (decimal (length s)) (byte ":" ∷ s) (no-space (length s))
    (without_more (byte " ") (byte ":") s (λ e. omega arith) h)

apart : (path word s t : List ℕ) → Without (byte ":") path → Without (byte " ") word → Without (byte " ") s
    → difference_text (path ++ (byte ":" ∷ (word ++ (byte " " ∷ (counted s ++ (byte " " ∷ counted t)))))) ≡ difference_by path word s t
unfolding difference_text
apart path word s t p q h =
    let v = counted s ++ (byte " " ∷ counted t) in
    let k = counted-without s h in
    rw (
      before-seam (byte ":") path (word ++ (byte " " ∷ v)) p,
      after-seam (byte ":") path (word ++ (byte " " ∷ v)) p,
      before-seam (byte " ") word v q,
      after-seam (byte " ") word v q,
      before-seam (byte " ") (counted s) (counted t) k,
      after-seam (byte " ") (counted s) (counted t) k,
      counted-after s,
      counted-after t,
    )

difference-said : (path : List ℕ) (d : R.Difference) → Without (byte ":") path → R.GoodValues d
    → difference_text (path ++ (byte ":" ∷ R.difference_text d)) ≡ sentence (place_text path) d
unfolding R.difference_text R.values_text R.value_text counted difference_by unit_text value_text said sentence until
difference-said path (R.kind a b) p g =
    apart path (bytes "kind") (decimal a) (decimal b) p refl (no-space a) ∙ rw (read-kind a (omega (arith, g.0)), read-kind b (omega (arith, g.1)))
difference-said path (R.size a b) p g = apart path (bytes "size") (decimal a) (decimal b) p refl (no-space a)
difference-said path (R.offset a b) p g = apart path (bytes "offset") (decimal a) (decimal b) p refl (no-space a)
difference-said path (R.length a b) p g = apart path (bytes "length") (decimal a) (decimal b) p refl (no-space a)
difference-said path (R.name s t) p g = apart path (bytes "name") s t p refl (good-plain s g.0)
difference-said path (R.count a b) p g = apart path (bytes "count") (decimal a) (decimal b) p refl (no-space a)

-- Good values: a space in the first name would end it, and a kind of more than 64 bits would not be read.
pub sentence-said : (r : R.Reason) → R.GoodValues r.differs → difference_text (R.reason_text r) ≡ sentence (place_text (R.path_text r.path)) r.differs
unfolding R.reason_text
sentence-said r g = difference-said (R.path_text r.path) r.differs (path-without r.path) g

-- ---- Two sentences, of `i` against `d` and of `{R=i^v}` against `{R=i^i}`.

sentences : (difference_text (R.reason_text (record { path = []; differs = R.kind 2 11 }))
    ≡ bytes "in the whole type: the kind is int in the first, double in the second")
    × (difference_text (R.reason_text (record { path = 1 ∷ 0 ∷ []; differs = R.kind 17 2 }))
    ≡ bytes "in item 1.0: the kind is void in the first, int in the second")
unfolding R.reason_text R.path_text R.dotted R.difference_text R.values_text R.value_text digits decimal is_digit until grown decimals line_of kind_names compound_names before after kind_text
    place_text unit_text value_text difference_by difference_text
sentences = (refl, refl)
