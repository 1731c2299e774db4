-- Laws of writing into a lent output.
use Prim.Native.Nat.{ℕ, ◌+◌, ◌≤◌, ◌<◌}
use native.Mathlib.Nat.{add-zero}
use native.Mathlib.Omega.{arith}
use native.Mathlib.Numerals.{add-one}
use mathlib.Core.Path.{◌≡◌, refl, ap, ap₂, sym, ◌∙◌, subst}
use mathlib.Core.List.{List, [], ◌∷◌, ◌++◌, append_assoc}
use lib.ListN.{length, get_or, take, drop, set, length-append, length-drop, take-append-drop}
use lib.Seq.{take_at, drop_at, drop-drop, set_split, take-suc, take_all, length-take-le}
use Rattle.static_str.specs.Output.{written, Wrote}

pub written_none : (out : List ℕ) (at : ℕ) → written out at [] ≡ out
unfolding written
written_none out at = ap (λ (n : ℕ). take at out ++ drop n out) (add-zero at) ∙ take-append-drop at out

module _ (out : List ℕ) (at : ℕ) (xs : List ℕ) (p : at + length xs ≤ length out) where
  front : length (take at out ++ xs) ≡ at + length xs
  front = length-append (take at out) xs ∙ ap (λ (n : ℕ). n + length xs) (length-take-le at out (omega arith))

  pub written-length : length (written out at xs) ≡ length out
  unfolding written
  written-length =
      let a = length-append (take at out) (xs ++ drop (at + length xs) out) in
      let b = length-append xs (drop (at + length xs) out) in
      let c = length-drop (at + length xs) out in
      let d = length-take-le at out (omega arith) in
      omega arith

  -- one piece after the other
  pub written-append : (ys : List ℕ) → written (written out at xs) (at + length xs) ys ≡ written out at (xs ++ ys)
  unfolding written
  written-append ys =
      let f = front in
      let g : written out at xs ≡ (take at out ++ xs) ++ drop (at + length xs) out = sym (append_assoc (take at out) xs (drop (at + length xs) out)) in
      let t : take (at + length xs) (written out at xs) ≡ take at out ++ xs = ap (take (at + length xs)) g
      ∙ take_at (take at out ++ xs) (drop (at + length xs) out) (at + length xs) f in
      let u : drop (at + length xs + length ys) (written out at xs) ≡ drop (at + length (xs ++ ys)) out = sym
      (drop-drop (length ys) (at + length xs) (written out at xs)) ∙ ap (drop (length ys))
      (ap (drop (at + length xs)) g ∙ drop_at (take at out ++ xs) (drop (at + length xs) out) (at + length xs) f) ∙ drop-drop (length ys) (at + length xs) out
      ∙ ap (λ (n : ℕ). drop n out) (more ys (length-append xs ys)) in
      ap₂ (λ (x y : List ℕ). x ++ (ys ++ y)) t u ∙ append_assoc (take at out) xs (ys ++ drop (at + length (xs ++ ys)) out)
      ∙ ap (λ (z : List ℕ). take at out ++ z) (sym (append_assoc xs ys (drop (at + length (xs ++ ys)) out)))
    where
      more : {n : ℕ} (zs : List ℕ) → n ≡ length xs + length zs → at + length xs + length zs ≡ at + n
      more zs q = omega arith

written-set : (out : List ℕ) (at b : ℕ) → at < length out → set out at b ≡ written out at (b ∷ [])
unfolding written
written-set out at b p = set_split out at b p ∙ ap (λ (n : ℕ). take at out ++ (b ∷ drop n out)) (sym (add-one at))

pub wrote-byte : (out : List ℕ) (at b : ℕ) → at < length out → Wrote out at (b ∷ []) (set out at b) (at + 1)
wrote-byte out at b p = record { place = refl; text = written-set out at b p }

-- a turn of a copy, and its end
pub written-more : (out s : List ℕ) (at i b : ℕ) → at + length s ≤ length out → i < length s → b ≡ get_or s i 0 → set (written out at (take i s)) (at + i) b
    ≡ written out at (take (i + 1) s)
written-more out s at i b p q e =
    let n = length-take-le i s (omega arith) in
    let l = written-length out at (take i s) (omega arith) in
    let j : at + i ≡ at + length (take i s) = omega arith in
    written-set (written out at (take i s)) (at + i) b (omega arith)
    ∙ ap (λ (k : ℕ). written (written out at (take i s)) k (b ∷ [])) j
    ∙ written-append out at (take i s) (omega arith) (b ∷ [])
    ∙ ap (λ (x : ℕ). written out at (take i s ++ (x ∷ []))) e
    ∙ ap (written out at) (sym (take-suc s i 0 q) ∙ ap (λ (k : ℕ). take k s) (sym (add-one i)))

pub wrote-whole : (out after s : List ℕ) (at i : ℕ) → i ≤ length s → length s ≤ i → after ≡ written out at (take i s) → Wrote out at s after (at + i)
wrote-whole out after s at i p q e = record { place = omega arith; text = e ∙ ap (written out at) (take_all i s q) }

pub wrote_none : (out : List ℕ) (at : ℕ) → Wrote out at [] out at
wrote_none out at = record { place = omega arith; text = sym (written_none out at) }

-- the same text under another name
pub wrote-same : {out after : List ℕ} {at next : ℕ} {xs ys : List ℕ} → xs ≡ ys → Wrote out at xs after next → Wrote out at ys after next
wrote-same {out} {after} {at} {next} e w = subst (λ (zs : List ℕ). Wrote out at zs after next) e w

-- With `rest` still to be written at `at`, the output becomes `all` written at `start`.
pub record ToWrite (before : List ℕ) (start : ℕ) (all out : List ℕ) (at : ℕ) (rest : List ℕ) : Type 0 where
  pub room : at + length rest ≤ length out
  pub place : at + length rest ≡ start + length all
  pub text : written out at rest ≡ written before start all

pub to_write : (out : List ℕ) (at : ℕ) (xs : List ℕ) → at + length xs ≤ length out → ToWrite out at xs out at xs
to_write out at xs p = record { room = p; place = refl; text = refl }

module _ {before : List ℕ} {start : ℕ} {all out : List ℕ} {at : ℕ} where
  pub room_for : (xs rest : List ℕ) → ToWrite before start all out at (xs ++ rest) → at + length xs ≤ length out
  room_for xs rest h =
      let l = length-append xs rest in
      let r = h.room in
      omega arith

  pub then-write : {after : List ℕ} {next : ℕ} (xs rest : List ℕ) → ToWrite before start all out at (xs ++ rest) → Wrote out at xs after next
      → ToWrite before start all after next rest
  then-write {after} {next} xs rest h w =
      let l = length-append xs rest in
      let r = h.room in
      let p = h.place in
      let q = w.place in
      let e = ap length w.text ∙ written-length out at xs (room_for xs rest h) in
      record {
        room = omega arith;
        place = omega arith;
        text = ap₂ (λ (o : List ℕ) (n : ℕ). written o n rest) w.text w.place ∙ written-append out at xs (room_for xs rest h) rest ∙ h.text;
      }

  pub last-write : {after : List ℕ} {next : ℕ} (xs : List ℕ) → ToWrite before start all out at xs → Wrote out at xs after next
      → Wrote before start all after next
  last-write xs h w = record { place = w.place ∙ h.place; text = w.text ∙ h.text }

  pub all-written : ToWrite before start all out at [] → Wrote before start all out at
  all-written h = last-write [] h (wrote_none out at)

-- two pieces, one after the other
pub wrote-append : {out mid after : List ℕ} {at m next : ℕ} (xs ys : List ℕ) → at + length (xs ++ ys) ≤ length out → Wrote out at xs mid m
    → Wrote mid m ys after next → Wrote out at (xs ++ ys) after next
wrote-append {out} {mid} {after} {at} {m} {next} xs ys p v w = last-write ys (then-write xs ys (to_write out at (xs ++ ys) p) v) w

-- three pieces
module _ {out : List ℕ} {at : ℕ} (xs ys zs : List ℕ) (p : at + length (xs ++ (ys ++ zs)) ≤ length out) {out₁ : List ℕ} {at₁ : ℕ} (x : Wrote out at xs out₁ at₁)
  where
    after_first : ToWrite out at (xs ++ (ys ++ zs)) out₁ at₁ (ys ++ zs)
    after_first = then-write xs (ys ++ zs) (to_write out at (xs ++ (ys ++ zs)) p) x

    pub three-second : at₁ + length ys ≤ length out₁
    three-second = room_for ys zs after_first

    module _ {out₂ : List ℕ} {at₂ : ℕ} (y : Wrote out₁ at₁ ys out₂ at₂) where
      pub three_third : at₂ + length zs ≤ length out₂
      three_third = (then-write ys zs after_first y).room

      pub three-written : {after : List ℕ} {next : ℕ} → Wrote out₂ at₂ zs after next → Wrote out at (xs ++ (ys ++ zs)) after next
      three-written z = last-write zs (then-write ys zs after_first y) z
