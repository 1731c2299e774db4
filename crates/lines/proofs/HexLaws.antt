-- Laws of bytes in hex.
use Prim.Native.Nat.{ℕ, ◌+◌, ◌-◌, ◌*◌, ◌/◌, ◌%◌, ◌≤◌, ◌<◌}
use native.Mathlib.Omega.{arith}
use native.Mathlib.Numerals.{add-one}
use mathlib.Core.Path.{◌≡◌, refl, ap, ap₂, sym, subst, ◌∙◌}
use mathlib.Core.Bool.{Bool, true, false, cond, ◌&&◌}
use mathlib.Core.List.{List, [], ◌∷◌}
use lib.Dec.{ltb}
use lib.ListN.{length, take, drop, set, get_or, length-set}
use lib.Seq.{sets, take_all}
use borrow.Author.Tests.{le-leb, lt-leb, lt-ltb, le-ltb, ltb-true, ltb-false}
use Rattle.kinds.specs.Byte.{is_digit}
use Rattle.lines.specs.Answer.{hex_digit, digit_value, is_pair, hex_bytes, is_hex, hex_answer, hex_glyph, hex_pair}
use Rattle.std.specs.Prelude.{Option, Some, None}
use borrow.Author.Rules.{rules}

pub digit_low : (b : ℕ) → b < 48 → hex_digit b ≡ 16
unfolding hex_digit is_digit
digit_low b h = let k : b < 97 = omega arith in rw (lt-leb 48 b h, lt-leb 97 b k)

pub digit-number : (b : ℕ) → 48 ≤ b → b ≤ 57 → hex_digit b ≡ b - 48
unfolding hex_digit is_digit
digit-number b h k = rw (le-leb 48 b h, le-leb b 57 k)

pub digit-between : (b : ℕ) → 57 < b → b < 97 → hex_digit b ≡ 16
unfolding hex_digit is_digit
digit-between b h k = let j : 48 ≤ b = omega arith in rw (le-leb 48 b j, lt-leb b 57 h, lt-leb 97 b k)

pub digit-letter : (b : ℕ) → 97 ≤ b → b ≤ 102 → hex_digit b ≡ b - 87
unfolding hex_digit is_digit
digit-letter b h k = let j : 48 ≤ b = omega arith in let i : 57 < b = omega arith in rw (le-leb 48 b j, lt-leb b 57 i, le-leb 97 b h, le-leb b 102 k)

pub digit-high : (b : ℕ) → 102 < b → hex_digit b ≡ 16
unfolding hex_digit is_digit
digit-high b h = let j : 48 ≤ b = omega arith in let i : 57 < b = omega arith in let k : 97 ≤ b = omega arith
    in rw (le-leb 48 b j, lt-leb b 57 i, le-leb 97 b k, lt-leb b 102 h)

pub digit_some : (b x : ℕ) → hex_digit b ≡ x → x < 16 → Some x ≡ digit_value b
unfolding digit_value
digit_some b x e h = let l : hex_digit b < 16 = omega arith in sym (rw (lt-ltb (hex_digit b) 16 l) (ap Some e))

pub digit_none : (b : ℕ) → hex_digit b ≡ 16 → None ≡ digit_value b
unfolding digit_value
digit_none b e = let l : 16 ≤ hex_digit b = omega arith in sym (rw (le-ltb (hex_digit b) 16 l) refl)

pub record DigitIs (b x : ℕ) : Type 0 where
  pub is : x ≡ hex_digit b
  pub low : x < 16

pub digit-is : (b x : ℕ) → Some x ≡ digit_value b → DigitIs b x
unfolding digit_value
digit-is b x e = go (ltb (hex_digit b) 16) refl e
  where
    go : (t : Bool) → ltb (hex_digit b) 16 ≡ t → Some x ≡ cond t (Some (hex_digit b)) None → DigitIs b x
    go true l f = let i : x ≡ hex_digit b = search rules in record { is = i; low = omega (arith, ltb-true (hex_digit b) 16 l) }
    go false l f = search rules

pub digit-not : (b : ℕ) → None ≡ digit_value b → 16 ≤ hex_digit b
unfolding digit_value
digit-not b e = go (ltb (hex_digit b) 16) refl e
  where
    go : (t : Bool) → ltb (hex_digit b) 16 ≡ t → None ≡ cond t (Some (hex_digit b)) None → 16 ≤ hex_digit b
    go true l f = search rules
    go false l f = ltb-false (hex_digit b) 16 l

pub glyph-number : (d : ℕ) → d < 10 → 48 + d ≡ hex_glyph d
unfolding hex_glyph
glyph-number d h = rw (lt-ltb d 10 h)

pub glyph-letter : (d : ℕ) → 10 ≤ d → 87 + d ≡ hex_glyph d
unfolding hex_glyph
glyph-letter d h = rw (le-ltb d 10 h)

pub hex_pair-is : (b x y : ℕ) → x ≡ hex_glyph (b / 16) → y ≡ hex_glyph (b % 16) → x ∷ y ∷ [] ≡ hex_pair b
unfolding hex_pair
hex_pair-is b x y p q = ap₂ (λ (j k : ℕ). j ∷ k ∷ []) p q

-- ---- Reading, with `n` bytes in the list and the pairs of `rest` unread.

pub record Read (hex before out rest : List ℕ) (n : ℕ) : Type 0 where
  pub fills : sets out n (hex_bytes rest) ≡ sets before 0 (hex_bytes hex)
  pub good : is_hex rest ≡ is_hex hex
  pub count : n + length (hex_bytes rest) ≡ length (hex_bytes hex)
  pub few : n + length rest ≤ length hex
  pub same : length out ≡ length before

pub read-start : (hex out : List ℕ) → Read hex out out hex 0
read-start hex out = record { fills = refl; good = refl; count = omega arith; few = omega arith; same = refl }

pair-good : (a b : ℕ) → hex_digit a < 16 → hex_digit b < 16 → is_pair a b ≡ true
unfolding is_pair
pair-good a b h k = rw (lt-ltb (hex_digit a) 16 h, lt-ltb (hex_digit b) 16 k)

pub pair-bad-first : (a b : ℕ) → 16 ≤ hex_digit a → is_pair a b ≡ false
unfolding is_pair
pair-bad-first a b h = rw (le-ltb (hex_digit a) 16 h)

pub pair-bad-second : (a b : ℕ) → 16 ≤ hex_digit b → is_pair a b ≡ false
unfolding is_pair
pair-bad-second a b h = rw (le-ltb (hex_digit b) 16 h) (none (ltb (hex_digit a) 16))
  where
    none : (t : Bool) → t && false ≡ false
    none true = refl
    none false = refl

pub first-pair : (u : List ℕ) → 2 ≤ length u → u ≡ get_or u 0 0 ∷ get_or u 1 0 ∷ take (length u - 2) (drop 2 u)
first-pair [] h = absurd (omega arith)
first-pair (a ∷ []) h = absurd (omega arith)
first-pair (a ∷ b ∷ s) h = ap (λ t. a ∷ b ∷ t) (sym (take_all _ s (omega arith)))

-- A pair that is cut off or bad ends the reading.
pub record Stopped (rest : List ℕ) : Type 0 where
  pub none : hex_bytes rest ≡ []
  pub bad : is_hex rest ≡ false

pub stopped-end : (rest : List ℕ) → length rest ≡ 1 → Stopped rest
unfolding hex_bytes is_hex
stopped-end [] h = absurd (omega arith)
stopped-end (a ∷ []) h = record { none = refl; bad = refl }
stopped-end (a ∷ b ∷ s) h = absurd (omega arith)

pub stopped-bad : {rest : List ℕ} (a b : ℕ) (s : List ℕ) → rest ≡ a ∷ b ∷ s → is_pair a b ≡ false → Stopped rest
unfolding hex_bytes is_hex
stopped-bad a b s t g = record { none = ap hex_bytes t ∙ rw g; bad = ap is_hex t ∙ rw g }

ended : (rest : List ℕ) → length rest ≡ 0 → (hex_bytes rest ≡ []) × (is_hex rest ≡ true)
unfolding hex_bytes is_hex
ended [] h = (refl, refl)
ended (a ∷ s) h = absurd (omega arith)

module _ {hex before out rest : List ℕ} {n : ℕ} where
  pub read_more : (a b : ℕ) (s : List ℕ) (x y : ℕ) → rest ≡ a ∷ b ∷ s → Read hex before out rest n → x ≡ hex_digit a → y ≡ hex_digit b → x < 16 → y < 16
      → (out' : List ℕ) → out' ≡ set out n (16 * x + y) → Read hex before out' s (n + 1)
  unfolding hex_bytes is_hex
  read_more a b s x y t r p q xs ys out' o =
      let g = pair-good a b (subst (λ (k : ℕ). k < 16) p xs) (subst (λ (k : ℕ). k < 16) q ys) in
      let v : 16 * x + y ≡ 16 * hex_digit a + hex_digit b = ap₂ (λ (j k : ℕ). 16 * j + k) p q in
      let d : hex_bytes rest ≡ (16 * x + y) ∷ hex_bytes s = ap hex_bytes t ∙ rw (g, sym v) in
      let c = r.count in
      let f = r.few in
      let l = ap length d in
      let e = ap length t in
      let m = ap length o ∙ length-set out n (16 * x + y) ∙ r.same in
      record {
        fills = ap₂ (λ (z : List ℕ) (k : ℕ). sets z k (hex_bytes s)) o (add-one n) ∙ sym (ap (sets out n) d) ∙ r.fills;
        good = sym (ap is_hex t ∙ rw g) ∙ r.good;
        count = omega arith;
        few = omega arith;
        same = m;
      }

  pub answer-bad : (room : ℕ) → Read hex before out rest n → Stopped rest → (None ≡ hex_answer hex room) × (out ≡ sets before 0 (hex_bytes hex))
  unfolding hex_answer
  answer-bad room r s = (sym (rw (sym r.good ∙ s.bad)), sym (ap (sets out n) s.none) ∙ r.fills)

  whole : length rest ≡ 0 → Read hex before out rest n → (is_hex hex ≡ true) × ((length (hex_bytes hex) ≡ n) × (out ≡ sets before 0 (hex_bytes hex)))
  whole h r =
      let e = ended rest h in
      let l = ap length e.0 in
      let c = r.count in
      (sym r.good ∙ e.1, (omega arith, sym (ap (sets out n) e.0) ∙ r.fills))

  pub answer-short : length rest ≡ 0 → Read hex before out rest n → length out < n → (None ≡ hex_answer hex (length before)) × (out ≡ sets before 0 (hex_bytes hex))
  unfolding hex_answer
  answer-short h r k =
      let w = whole h r in
      let j : length before < length (hex_bytes hex) = let s = r.same in let c = w.1.0 in omega arith in
      (sym (rw (w.0, lt-leb (length (hex_bytes hex)) (length before) j)), w.1.1)

  pub answer-items : length rest ≡ 0 → Read hex before out rest n → n ≤ length out → (Some n ≡ hex_answer hex (length before)) ×
      (out ≡ sets before 0 (hex_bytes hex))
  unfolding hex_answer
  answer-items h r k =
      let w = whole h r in
      let j : length (hex_bytes hex) ≤ length before = let s = r.same in let c = w.1.0 in omega arith in
      (sym (rw (w.0, le-leb (length (hex_bytes hex)) (length before) j) (ap Some w.1.0)), w.1.1)
