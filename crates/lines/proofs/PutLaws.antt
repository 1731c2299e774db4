-- Laws of putting text into a lent output.
use Prim.Native.Nat.{ℕ, suc, ◌+◌, ◌-◌, min, ◌≤◌, ◌<◌}
use native.Mathlib.Omega.{arith}
use native.Mathlib.Numerals.{add-one}
use mathlib.Core.Path.{◌≡◌, refl, ap, ap₂, sym, subst, ◌∙◌}
use mathlib.Core.Bool.{Bool, true, false}
use mathlib.Core.List.{List, [], ◌∷◌, ◌++◌}
use lib.Dec.{ltb}
use lib.ListN.{length, take, drop, set, get_or, length-set, length-append}
use lib.Seq.{sets, length-sets, set_out}
use borrow.Author.Tests.{ltb-true, ltb-false}
use Rattle.kinds.proofs.ListLaws.{unread, unread-end}
use Rattle.kinds.specs.Print.{decimal}
use Rattle.kinds.specs.Refusal.{number, values}
use Rattle.kinds.specs.declared.Refusal.{Refusal}
use Rattle.lines.specs.Answer.{Put, each, joined, comma_number, words_text, sheet_text, space_number, refusal_text, hex_pair}

-- ---- Stores beyond the end.

pub sets-out : (l : List ℕ) (i : ℕ) (vs : List ℕ) → length l ≤ i → sets l i vs ≡ l
sets-out l i [] h = refl
sets-out l i (v ∷ vs) h = ap (λ (m : List ℕ). sets m (suc i) vs) (set_out l i v h) ∙ sets-out l (suc i) vs (omega arith)

sets-append : (xs ys o : List ℕ) (a : ℕ) → sets (sets o a xs) (a + min (length xs) (length o - a)) ys ≡ sets o a (xs ++ ys)
sets-append [] ys o a = ap (λ (k : ℕ). sets o k ys) (start (length o - a))
  where
    start : (n : ℕ) → a + min 0 n ≡ a
    start n = omega arith
sets-append (x ∷ xs) ys o a = go (ltb a (length o)) refl (sets-append xs ys (set o a x) (suc a))
  where
    m : List ℕ
    m = sets (set o a x) (suc a) xs

    go : (t : Bool) → ltb a (length o) ≡ t → sets m (suc a + min (length xs) (length (set o a x) - suc a)) ys ≡ sets (set o a x) (suc a) (xs ++ ys)
        → sets m (a + min (suc (length xs)) (length o - a)) ys ≡ sets (set o a x) (suc a) (xs ++ ys)
    go true e rec =
        let h = ltb-true a (length o) e in
        let l = length-set o a x in
        let k : a + min (suc (length xs)) (length o - a) ≡ suc a + min (length xs) (length (set o a x) - suc a) = omega arith in
        ap (λ (j : ℕ). sets m j ys) k ∙ rec
    go false e rec =
        let h = ltb-false a (length o) e in
        let l = length-set o a x in
        let n = length-sets (set o a x) (suc a) xs in
        sets-out m (a + min (suc (length xs)) (length o - a)) ys (omega arith)
        ∙ sym (sets-out m (suc a + min (length xs) (length (set o a x) - suc a)) ys (omega arith))
        ∙ rec

-- ---- One piece after the other.

pub put-none : (o : List ℕ) (a : ℕ) → Put o a [] o a
put-none o a = record { place = omega arith; text = refl }

pub put_full : (o : List ℕ) (a : ℕ) (b : ℕ) → length o ≤ a → Put o a (b ∷ []) o a
put_full o a b h = record { place = omega arith; text = sym (set_out o a b h) }

pub put-append : {o m e : List ℕ} {a p r : ℕ} (xs ys : List ℕ) → Put o a xs m p → Put m p ys e r → Put o a (xs ++ ys) e r
put-append {o} {m} {e} {a} {p} {r} xs ys v w =
    let l : length m ≡ length o = ap length v.text ∙ length-sets o a xs in
    let n = length-append xs ys in
    let f = v.place in
    let s = w.place in
    record {
      place = omega arith;
      text = w.text ∙ ap₂ (λ (x : List ℕ) (k : ℕ). sets x k ys) v.text v.place ∙ sets-append xs ys o a;
    }

pub put_same : {o e : List ℕ} {a r : ℕ} {xs ys : List ℕ} → xs ≡ ys → Put o a xs e r → Put o a ys e r
put_same {o} {e} {a} {r} q w = subst (λ (zs : List ℕ). Put o a zs e r) q w

-- ---- Where there is room.

pub put_one : (o : List ℕ) (a x : ℕ) → a < length o → Put o a (x ∷ []) (set o a x) (a + 1)
put_one o a x h = record { place = omega arith; text = refl }

pub put-pair : (o : List ℕ) (a x y : ℕ) → a + 2 ≤ length o → Put o a (x ∷ y ∷ []) (set (set o a x) (a + 1) y) (a + 2)
put-pair o a x y h = record { place = omega arith; text = rw add-one }

pub put_next : {o e xs : List ℕ} {a r : ℕ} → Put o a xs e r → a + length xs ≤ length o → r ≡ a + length xs
put_next {o} {e} {xs} {a} {r} w h = let p = w.place in omega arith

-- With `rest` still to be put at `p`, the output becomes `all` put at `a`.
abbrev pub ToPut : List ℕ → ℕ → List ℕ → List ℕ → ℕ → List ℕ → Type 0
ToPut o a all m p rest = (e : List ℕ) (r : ℕ) → Put m p rest e r → Put o a all e r

pub to-put : (o : List ℕ) (a : ℕ) (xs : List ℕ) → ToPut o a xs o a xs
to-put o a xs e r w = w

pub then-put : {o all m m' : List ℕ} {a p p' : ℕ} {rest : List ℕ} (xs next : List ℕ) → rest ≡ xs ++ next → ToPut o a all m p rest → Put m p xs m' p'
    → ToPut o a all m' p' next
then-put xs next q h v e r w = h e r (put_same (sym q) (put-append xs next v w))

pub all-put : {o all m : List ℕ} {a p : ℕ} {rest : List ℕ} → rest ≡ [] → ToPut o a all m p rest → Put o a all m p
all-put {o} {all} {m} {a} {p} q h = h m p (put_same (sym q) (put-none m p))

-- ---- Items one after the other.

pub each_more : (f : ℕ → List ℕ) (s : List ℕ) (i : ℕ) → i < length s → each f (drop i s) ≡ f (get_or s i 0) ++ each f (drop (i + 1) s)
unfolding each
each_more f s i h = ap (each f) (unread s i h)

pub each-end : (f : ℕ → List ℕ) (s : List ℕ) (i : ℕ) → length s ≤ i → each f (drop i s) ≡ []
unfolding each
each-end f s i h = ap (each f) (unread-end s i h)

pub joined-none : (m : ℕ) (s : List ℕ) → length s ≡ 0 → joined m s ≡ []
unfolding joined
joined-none m [] h = refl
joined-none m (w ∷ s) h = absurd (omega arith)

pub joined-some : (m : ℕ) (s : List ℕ) (w : ℕ) (ws : List ℕ) → s ≡ w ∷ ws → joined m s ≡ decimal w ++ each (λ k. m ∷ decimal k) ws
unfolding joined
joined-some m s w ws e = ap (joined m) e

pub words-joined : (s : List ℕ) → joined 44 s ≡ words_text s
unfolding joined words_text comma_number
words-joined [] = refl
words-joined (w ∷ s) = refl

pub sheet-is : (words names used bytes : List ℕ) → used ≡ take (get_or words 3 0) words → bytes ≡ take (get_or words 2 0) names
    → (115 ∷ 58 ∷ []) ++ (words_text used ++ ((58 ∷ []) ++ each hex_pair bytes)) ≡ sheet_text words names
unfolding sheet_text
sheet-is words names used bytes p q = rw (p, q)

pub refusal_is : (why : Refusal) (n : ℕ) (v : List ℕ) → n ≡ number why → v ≡ values why
    → decimal n ++ ((32 ∷ decimal (get_or v 0 0)) ++ ((32 ∷ decimal (get_or v 1 0)) ++ ((32 ∷ decimal (get_or v 2 0)) ++ []))) ≡ refusal_text why
unfolding refusal_text each space_number
refusal_is why n v p q = rw (p, q)
