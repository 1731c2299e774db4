-- A reason is read back from its bytes: two with the same bytes are one.
use Prim.Native.Nat.{ℕ, ◌+◌, ◌≤◌}
use native.Mathlib.Omega.{arith}
use mathlib.Core.Path.{◌≡◌, refl, sym, ap, ap₂, ◌∙◌}
use mathlib.Core.Bool.{true, false, cond, false≢true}
use mathlib.Core.List.{List, [], ◌∷◌, ◌++◌, append_assoc, append_cancel_left}
use mathlib.Core.Logic.{◌⊎◌, inl, inr}
use lib.Dec.{eqb}
use lib.ListN as N
use lib.ListN.{get_or}
use borrow.Author.Tests.{le-leb}
use Rattle.kinds.specs.Byte.{byte, bytes, is_digit, starts_digit}
use Rattle.kinds.specs.Parse.{value, bounded, parse_number}
use Rattle.kinds.specs.Print.{decimal}
use Rattle.agreement.proofs.DigitLaws.{decimal-start, read-decimal}
use Rattle.reason.specs.Reason.{Difference, kind, size, offset, length, name, count, Reason, dotted, path_text, value_text, values_text, difference_text, reason_text}

-- ---- Numbers and lists.

within : (limit n : ℕ) (r : List ℕ) → n ≤ limit → bounded limit (value n r) ≡ value n r
unfolding bounded
within limit n r h = rw (le-leb n limit h, bounded)

-- Two decimal numbers, after which no digit stands.
decimals-same : (n m : ℕ) (r s : List ℕ) → starts_digit r ≡ false → starts_digit s ≡ false → decimal n ++ r ≡ decimal m ++ s → (n ≡ m) × (r ≡ s)
decimals-same n m r s a b h =
    let x = read-decimal (n + m) n r a ∙ within (n + m) n r (omega arith) in
    let y = read-decimal (n + m) m s b ∙ within (n + m) m s (omega arith) in
    let k : value n r ≡ value m s = sym x ∙ ap (parse_number (n + m)) h ∙ y in
    (cc, cc)

tail-same : {x y : ℕ} {s t : List ℕ} → x ∷ s ≡ y ∷ t → s ≡ t
tail-same h = cc

-- Two lists of one length, after which anything stands.
front_same : (s t x y : List ℕ) → N.length s ≡ N.length t → s ++ x ≡ t ++ y → (s ≡ t) × (x ≡ y)
front_same [] [] x y e h = (refl, h)
front_same [] (b ∷ t) x y e h = absurd (omega arith)
front_same (a ∷ s) [] x y e h = absurd (omega arith)
front_same (a ∷ s) (b ∷ t) x y e h =
    let k : s ++ x ≡ t ++ y = tail-same h in
    let j : a ≡ b = cc in
    let r = front_same s t x y (omega arith) k in
    (ap₂ (λ u v. u ∷ v) j r.0, r.1)

-- ---- Paths.

no_digit : (p x : List ℕ) → starts_digit (dotted p ++ (byte ":" ∷ x)) ≡ false
unfolding starts_digit is_digit dotted
no_digit [] x = refl
no_digit (i ∷ p) x = refl

numbered-same : (i j : ℕ) (p q x y : List ℕ) → (decimal i ++ dotted p) ++ (byte ":" ∷ x) ≡ (decimal j ++ dotted q) ++ (byte ":" ∷ y)
    → (i ≡ j) × (dotted p ++ (byte ":" ∷ x) ≡ dotted q ++ (byte ":" ∷ y))
numbered-same i j p q x y h =
    decimals-same i j (dotted p ++ (byte ":" ∷ x)) (dotted q ++ (byte ":" ∷ y)) (no_digit p x) (no_digit q y)
    (sym (append_assoc (decimal i) (dotted p) (byte ":" ∷ x)) ∙ h ∙ append_assoc (decimal j) (dotted q) (byte ":" ∷ y))

dotted-same : (p q x y : List ℕ) → dotted p ++ (byte ":" ∷ x) ≡ dotted q ++ (byte ":" ∷ y) → (p ≡ q) × (x ≡ y)
unfolding dotted
dotted-same [] [] x y h = (refl, tail-same h)
dotted-same [] (j ∷ q) x y h = absurd (omega (arith, ap (λ s. get_or s 0 0) h))
dotted-same (i ∷ p) [] x y h = absurd (omega (arith, ap (λ s. get_or s 0 0) h))
dotted-same (i ∷ p) (j ∷ q) x y h =
    let a = numbered-same i j p q x y (tail-same h) in
    let b = dotted-same p q x y a.1 in
    (ap₂ (λ u v. u ∷ v) a.0 b.0, b.1)

-- A colon ends a number.
colon : (x : List ℕ) → starts_digit (byte ":" ∷ x) ≡ false
unfolding starts_digit is_digit
colon x = refl

path-same : (p q x y : List ℕ) → path_text p ++ (byte ":" ∷ x) ≡ path_text q ++ (byte ":" ∷ y) → (p ≡ q) × (x ≡ y)
unfolding path_text
path-same [] [] x y h = (refl, tail-same h)
path-same [] (j ∷ q) x y h = absurd (false≢true (sym (colon x) ∙ ap starts_digit (h ∙ append_assoc (decimal j) (dotted q) (byte ":" ∷ y)) ∙ decimal-start j _))
path-same (i ∷ p) [] x y h = absurd (false≢true (sym (colon y) ∙ ap starts_digit (sym h ∙ append_assoc (decimal i) (dotted p) (byte ":" ∷ x)) ∙ decimal-start i _))
path-same (i ∷ p) (j ∷ q) x y h =
    let a = numbered-same i j p q x y h in
    let b = dotted-same p q x y a.1 in
    (ap₂ (λ u v. u ∷ v) a.0 b.0, b.1)

-- ---- Values.

value-more : (s x : List ℕ) → value_text s ++ x ≡ byte " " ∷ (decimal (N.length s) ++ (byte ":" ∷ (s ++ x)))
unfolding value_text
value-more s x = ap (λ u. byte " " ∷ u) (append_assoc (decimal (N.length s)) (byte ":" ∷ s) x)

value_same : (s t x y : List ℕ) → value_text s ++ x ≡ value_text t ++ y → (s ≡ t) × (x ≡ y)
value_same s t x y h =
    let a = decimals-same (N.length s) (N.length t) (byte ":" ∷ (s ++ x)) (byte ":" ∷ (t ++ y)) (colon (s ++ x)) (colon (t ++ y)) (tail-same (sym (value-more s x) ∙ h ∙ value-more t y)) in
    front_same s t x y a.0 (tail-same a.1)

values_same : (s t u w : List ℕ) → value_text s ++ value_text t ≡ value_text u ++ value_text w → (s ≡ u) × (t ≡ w)
values_same s t u w h =
    let a = value_same s u (value_text t) (value_text w) h in
    (a.0, (value_same t w [] [] (ap (λ x. x ++ []) a.1)).0)

number_same : (n m : ℕ) → decimal n ≡ decimal m → n ≡ m
unfolding starts_digit
number_same n m h = (decimals-same n m [] [] refl refl (ap (λ x. x ++ []) h)).0

-- ---- Differences: the first letter of a word tells it from the others.

-- The rest of the word that begins with a letter, and the difference in numbers that it names.
end_of : ℕ → List ℕ
end_of b =
    cond (eqb b (byte "k")) (bytes "ind")
    (cond (eqb b (byte "s")) (bytes "ize")
    (cond (eqb b (byte "o")) (bytes "ffset")
    (cond (eqb b (byte "l")) (bytes "ength") (bytes "ount"))))

numbered : ℕ → ℕ → ℕ → Difference
numbered b x y =
    cond (eqb b (byte "k")) (kind x y)
    (cond (eqb b (byte "s")) (size x y)
    (cond (eqb b (byte "o")) (offset x y)
    (cond (eqb b (byte "l")) (length x y) (count x y))))

record Numbers (d : Difference) : Type 0 where
  letter : ℕ
  first : ℕ
  second : ℕ
  is : d ≡ numbered letter first second
  text : difference_text d ≡ letter ∷ (end_of letter ++ (value_text (decimal first) ++ value_text (decimal second)))
  other : letter ≡ byte "n" → ⊥

record Names (d : Difference) : Type 0 where
  first : List ℕ
  second : List ℕ
  is : d ≡ name first second
  text : difference_text d ≡ byte "n" ∷ (bytes "ame" ++ (value_text first ++ value_text second))

seen : (d : Difference) → Numbers d ⊎ Names d
unfolding difference_text values_text end_of numbered
seen (kind a b) = inl (record { letter = byte "k"; first = a; second = b; is = refl; text = refl; other = λ e. omega arith })
seen (size a b) = inl (record { letter = byte "s"; first = a; second = b; is = refl; text = refl; other = λ e. omega arith })
seen (offset a b) = inl (record { letter = byte "o"; first = a; second = b; is = refl; text = refl; other = λ e. omega arith })
seen (length a b) = inl (record { letter = byte "l"; first = a; second = b; is = refl; text = refl; other = λ e. omega arith })
seen (name s t) = inr (record { first = s; second = t; is = refl; text = refl })
seen (count a b) = inl (record { letter = byte "c"; first = a; second = b; is = refl; text = refl; other = λ e. omega arith })

letters : {x y : ℕ} {s t : List ℕ} → x ∷ s ≡ y ∷ t → x ≡ y
letters h = cc

difference-same : (d e : Difference) → difference_text d ≡ difference_text e → d ≡ e
difference-same d e h = go (seen d) (seen e)
  where
    go : Numbers d ⊎ Names d → Numbers e ⊎ Names e → d ≡ e
    go (inl a) (inl b) =
        let k = sym a.text ∙ h ∙ b.text in
        let l = letters k in
        let v = append_cancel_left (end_of b.letter) _ _ (rw l at (tail-same k)) in
        let w = values_same (decimal a.first) (decimal a.second) (decimal b.first) (decimal b.second) v in
        let m = number_same a.first b.first w.0 in
        let n = number_same a.second b.second w.1 in
        a.is ∙ ap₂ (λ x y. numbered a.letter x y) m n ∙ ap (λ c. numbered c b.first b.second) l ∙ sym b.is
    go (inl a) (inr b) = absurd (a.other (letters (sym a.text ∙ h ∙ b.text)))
    go (inr a) (inl b) = absurd (b.other (sym (letters (sym a.text ∙ h ∙ b.text))))
    go (inr a) (inr b) =
        let v = append_cancel_left (bytes "ame") _ _ (tail-same (sym a.text ∙ h ∙ b.text)) in
        let w = values_same a.first a.second b.first b.second v in
        a.is ∙ ap₂ (λ x y. name x y) w.0 w.1 ∙ sym b.is

pub texts-differ : (r s : Reason) → reason_text r ≡ reason_text s → r ≡ s
unfolding reason_text
texts-differ r s h =
    let a = path-same r.path s.path (difference_text r.differs) (difference_text s.differs) h in
    ap₂ (λ p d. record { path = p; differs = d }) a.0 (difference-same r.differs s.differs a.1)
