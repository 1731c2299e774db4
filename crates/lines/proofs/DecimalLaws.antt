-- Laws of numbers in decimal with commas between.
use Prim.Native.Nat.{ℕ, ◌+◌, ◌-◌, ◌*◌, ◌≤◌, ◌<◌}
use native.Mathlib.Omega.{arith}
use native.Mathlib.Numerals.{add-one}
use mathlib.Core.Path.{◌≡◌, refl, ap, sym, subst, ◌∙◌}
use mathlib.Core.Bool.{Bool, true, false}
use mathlib.Core.List.{List, [], ◌∷◌}
use lib.Dec.{eqb}
use lib.ListN.{length, drop, set, get_or, length-set}
use lib.Seq.{sets}
use borrow.Author.Tests.{le-leb, lt-leb, eq-eqb, ne_eqb}
use Rattle.kinds.proofs.ListLaws.{unread, unread-end}
use Rattle.kinds.specs.Byte.{is_digit}
use Rattle.lines.specs.Answer.{grown, decimals, is_decimals, decimals_answer}
use Rattle.lines.specs.Steps.{step_grown, stepped, step_words}
use Rattle.std.specs.Prelude.{Option, Some, None}

-- ---- One digit more.

pub grown-low : (n b : ℕ) → b < 48 → None ≡ grown n b
unfolding grown is_digit
grown-low n b h = sym (rw (lt-leb 48 b h))

pub grown-high : (n b : ℕ) → 57 < b → None ≡ grown n b
unfolding grown is_digit
grown-high n b h = let j : 48 ≤ b = omega arith in sym (rw (le-leb 48 b j, lt-leb b 57 h))

pub grown-large : (n b : ℕ) → 48 ≤ b → b ≤ 57 → 18446744073709551615 < 10 * n + (b - 48) → None ≡ grown n b
unfolding grown is_digit
grown-large n b h k j = sym (rw (le-leb 48 b h, le-leb b 57 k, lt-leb (10 * n + (b - 48)) 18446744073709551615 j))

pub grown-value : (n b : ℕ) → 48 ≤ b → b ≤ 57 → 10 * n + (b - 48) ≤ 18446744073709551615 → Some (10 * n + (b - 48)) ≡ grown n b
unfolding grown is_digit
grown-value n b h k j = sym (rw (le-leb 48 b h, le-leb b 57 k, le-leb (10 * n + (b - 48)) 18446744073709551615 j))

pub step-comma : (n v b : ℕ) → b ≡ 44 → Some (n + 1, 0) ≡ stepped n v b
unfolding stepped
step-comma n v b e = sym (rw (eq-eqb b 44 e))

pub step-grown : (n v b : ℕ) (g : Option ℕ) → (b ≡ 44 → ⊥) → g ≡ grown v b → step_grown n g ≡ stepped n v b
unfolding stepped
step-grown n v b g e q = sym (rw (ne_eqb b 44 e, sym q))

pub words-comma : (words : List ℕ) (n v b : ℕ) → b ≡ 44 → set words n v ≡ step_words words n v b
unfolding step_words
words-comma words n v b e = sym (rw (eq-eqb b 44 e))

pub words-kept : (words : List ℕ) (n v b : ℕ) → (b ≡ 44 → ⊥) → words ≡ step_words words n v b
unfolding step_words
words-kept words n v b e = sym (rw (ne_eqb b 44 e))

-- ---- Reading, with `n` numbers in the list, `v` of the next, and the bytes from `i` on unread.

pub record Scan (list before words : List ℕ) (i n v : ℕ) : Type 0 where
  pub fills : sets words n (decimals v (drop i list)) ≡ sets before 0 (decimals 0 list)
  pub good : is_decimals v (drop i list) ≡ is_decimals 0 list
  pub count : n + length (decimals v (drop i list)) ≡ length (decimals 0 list)
  pub within : i ≤ length list
  pub few : n ≤ i
  pub same : length words ≡ length before

pub scan-start : (list words : List ℕ) → Scan list words words 0 0 0
scan-start list words = record { fills = refl; good = refl; count = omega arith; within = omega arith; few = omega arith; same = refl }

moved : {list before words words' : List ℕ} {i m w m' w' : ℕ} → m ≡ m' → w ≡ w' → words ≡ words' → Scan list before words' i m' w'
    → Scan list before words i m w
moved {list} {before} {words} {words'} {i} {m} {w} {m'} {w'} p q o s =
    subst (λ (k : ℕ). Scan list before words i k w) (sym p)
    (subst (λ (k : ℕ). Scan list before words i m' k) (sym q)
    (subst (λ (z : List ℕ). Scan list before z i m' w') (sym o) s))

some-pair : {p q m n : ℕ} → ◌≡◌ {A = Option (ℕ × ℕ)} (Some (p, q)) (Some (m, n)) → (p ≡ m) × (q ≡ n)
some-pair {p} {q} {m} {n} h = let d : ◌≡◌ {A = ℕ × ℕ} (p, q) (m, n) = cc in (ap (λ (x : ℕ × ℕ). x.0) d, ap (λ (x : ℕ × ℕ). x.1) d)

module _ {list before words : List ℕ} {i n v : ℕ} where
  on-comma : i < length list → eqb (get_or list i 0) 44 ≡ true → Scan list before words i n v → Scan list before (set words n v) (i + 1) (n + 1) 0
  unfolding decimals is_decimals
  on-comma h e r =
      let u = unread list i h in
      let d : decimals v (drop i list) ≡ v ∷ decimals 0 (drop (i + 1) list) = ap (decimals v) u ∙ rw e in
      let c = r.count in
      let l = ap length d in
      let w = r.within in
      let f = r.few in
      record {
        fills = ap (λ (k : ℕ). sets (set words n v) k (decimals 0 (drop (i + 1) list))) (add-one n) ∙ sym (ap (sets words n) d) ∙ r.fills;
        good = sym (ap (is_decimals v) u ∙ rw e) ∙ r.good;
        count = omega arith;
        within = omega arith;
        few = omega arith;
        same = length-set words n v ∙ r.same;
      }

  on-digit : (x : ℕ) → i < length list → eqb (get_or list i 0) 44 ≡ false → grown v (get_or list i 0) ≡ Some x → Scan list before words i n v
      → Scan list before words (i + 1) n x
  unfolding decimals is_decimals
  on-digit x h e g r =
      let u = unread list i h in
      let d : decimals v (drop i list) ≡ decimals x (drop (i + 1) list) = ap (decimals v) u ∙ rw (e, g) in
      let c = r.count in
      let l = ap length d in
      let w = r.within in
      let f = r.few in
      record {
        fills = sym (ap (sets words n) d) ∙ r.fills;
        good = sym (ap (is_decimals v) u ∙ rw (e, g)) ∙ r.good;
        count = omega arith;
        within = omega arith;
        few = omega arith;
        same = r.same;
      }

  pub scan-more : (m w : ℕ) (words' : List ℕ) → i < length list → Scan list before words i n v → Some (m, w) ≡ stepped n v (get_or list i 0) → words'
      ≡ step_words words n v (get_or list i 0) → Scan list before words' (i + 1) m w
  unfolding stepped step_grown step_words
  scan-more m w words' h r e o = go (eqb (get_or list i 0) 44) refl
    where
      digit : (g : Option ℕ) → eqb (get_or list i 0) 44 ≡ false → grown v (get_or list i 0) ≡ g → Some (m, w) ≡ step_grown n g → words' ≡ words
          → Scan list before words' (i + 1) m w
      digit (Some x) c q k z = let p = some-pair k in moved p.0 p.1 z (on-digit x h c q r)
      digit None c q k z = let f : ◌≡◌ {A = ℕ} 0 1 = cc in absurd (omega arith)

      go : (y : Bool) → eqb (get_or list i 0) 44 ≡ y → Scan list before words' (i + 1) m w
      go true c =
          let k : Some (m, w) ≡ Some (n + 1, 0) = e ∙ rw c in
          let p = some-pair k in
          moved p.0 p.1 (o ∙ rw c) (on-comma h c r)
      go false c = digit (grown v (get_or list i 0)) c refl (e ∙ rw c) (o ∙ rw c)

  pub scan-bad : (room : ℕ) (words' : List ℕ) → i < length list → Scan list before words i n v → None ≡ stepped n v (get_or list i 0) → words'
      ≡ step_words words n v (get_or list i 0) → (None ≡ decimals_answer list room) × (words' ≡ sets before 0 (decimals 0 list))
  unfolding stepped step_grown step_words decimals is_decimals decimals_answer
  scan-bad room words' h r e o = go (eqb (get_or list i 0) 44) refl
    where
      digit : (g : Option ℕ) → eqb (get_or list i 0) 44 ≡ false → grown v (get_or list i 0) ≡ g → None ≡ step_grown n g → words' ≡ words
          → (None ≡ decimals_answer list room) × (words' ≡ sets before 0 (decimals 0 list))
      digit (Some x) c q k z = let f : ◌≡◌ {A = ℕ} 0 1 = cc in absurd (omega arith)
      digit None c q k z =
          let u = unread list i h in
          let d : decimals v (drop i list) ≡ [] = ap (decimals v) u ∙ rw (c, q) in
          let g : is_decimals 0 list ≡ false = sym r.good ∙ ap (is_decimals v) u ∙ rw (c, q) in
          (sym (rw g), z ∙ sym (ap (sets words n) d) ∙ r.fills)

      go : (y : Bool) → eqb (get_or list i 0) 44 ≡ y → (None ≡ decimals_answer list room) × (words' ≡ sets before 0 (decimals 0 list))
      go true c = let k : None ≡ Some (n + 1, 0) = e ∙ rw c in let f : ◌≡◌ {A = ℕ} 0 1 = cc in absurd (omega arith)
      go false c = digit (grown v (get_or list i 0)) c refl (e ∙ rw c) (o ∙ rw c)

  last : length list ≤ i → Scan list before words i n v → (is_decimals 0 list ≡ true) ×
      ((length (decimals 0 list) ≡ n + 1) × (set words n v ≡ sets before 0 (decimals 0 list)))
  unfolding decimals is_decimals
  last h r =
      let u = unread-end list i h in
      let d : decimals v (drop i list) ≡ v ∷ [] = ap (decimals v) u in
      let l = ap length d in
      let c = r.count in
      (sym r.good ∙ ap (is_decimals v) u, (omega arith, sym (ap (sets words n) d) ∙ r.fills))

  pub scan-short : (words' : List ℕ) → length list ≤ i → Scan list before words i n v → words' ≡ set words n v → length words' ≤ n
      → (None ≡ decimals_answer list (length before)) × (words' ≡ sets before 0 (decimals 0 list))
  unfolding decimals_answer
  scan-short words' h r o k =
      let w = last h r in
      let j : length before < length (decimals 0 list) = let s = r.same in let c = w.1.0 in let l = ap length o ∙ length-set words n v in omega arith in
      (sym (rw (w.0, lt-leb (length (decimals 0 list)) (length before) j)), o ∙ w.1.1)

  pub scan-items : (words' : List ℕ) → length list ≤ i → Scan list before words i n v → words' ≡ set words n v → n < length words'
      → (Some (n + 1) ≡ decimals_answer list (length before)) × (words' ≡ sets before 0 (decimals 0 list))
  unfolding decimals_answer
  scan-items words' h r o k =
      let w = last h r in
      let j : length (decimals 0 list) ≤ length before = let s = r.same in let c = w.1.0 in let l = ap length o ∙ length-set words n v in omega arith in
      (sym (rw (w.0, le-leb (length (decimals 0 list)) (length before) j) (ap Some w.1.0)), o ∙ w.1.1)
