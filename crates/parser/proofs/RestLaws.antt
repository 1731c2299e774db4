-- Laws of what is left of a text after a part of it is read, and of the place where that begins.
use Prim.Native.Nat.{ℕ, suc, ◌+◌, ◌-◌, ◌≤◌}
use mathlib.Core.Path.{◌≡◌, refl, sym, ap, ◌∙◌}
use mathlib.Core.List.{List, ◌∷◌}
use native.Mathlib.Omega.{arith}
use lib.ListN.{length, drop, length-drop}
use Rattle.parser.specs.Place.{place_of}
use Rattle.parser.proofs.PlaceLaws.{drop-on}

-- `t` is the end of `s`.
pub record RestOf (s t : List ℕ) : Type 0 where
  pub taken : ℕ
  pub within : taken ≤ length s
  pub is : t ≡ drop taken s

pub rest_all : {s : List ℕ} → RestOf s s
rest_all = record { taken = 0; within = omega arith; is = refl }

pub rest-later : {b : ℕ} {s t : List ℕ} → RestOf s t → RestOf (b ∷ s) t
rest-later r = record { taken = suc r.taken; within = omega (arith, r.within); is = r.is }

pub rest-shorter : {s t : List ℕ} → RestOf s t → length t ≤ length s
rest-shorter {s} {t} r = let e : length t ≡ length s - r.taken = ap length r.is ∙ length-drop r.taken s in omega arith

pub rest-of-rest : {s t u : List ℕ} → RestOf s t → RestOf t u → RestOf s u
rest-of-rest {s} {t} {u} r q =
    let e : length t ≡ length s - r.taken = ap length r.is ∙ length-drop r.taken s in
    record {
      taken = r.taken + q.taken;
      within = omega (arith, r.within, q.within);
      is = q.is ∙ ap (drop q.taken) r.is ∙ sym (drop-on r.taken q.taken s);
    }

-- The place of a rest is where it is unread.
pub record Unread (text : List ℕ) (at : ℕ) (t : List ℕ) : Type 0 where
  pub is : t ≡ drop (place_of text t) text
  pub onward : at ≤ place_of text t
  pub within : place_of text t ≤ length text

pub unread-at : {text : List ℕ} {at : ℕ} {t : List ℕ} → at ≤ length text → RestOf (drop at text) t → Unread text at t
unread-at {text} {at} {t} l r =
    let d : length (drop at text) ≡ length text - at = length-drop at text in
    let e : length t ≡ length (drop at text) - r.taken = ap length r.is ∙ length-drop r.taken (drop at text) in
    let w : r.taken ≤ length (drop at text) = r.within in
    let p : at + r.taken ≡ length text - length t = omega arith in
    record {
      is = r.is ∙ sym (drop-on at r.taken text) ∙ ap (λ (k : ℕ). drop k text) p;
      onward = omega arith;
      within = omega arith;
    }

pub place-of-drop : (text : List ℕ) (to : ℕ) → to ≤ length text → place_of text (drop to text) ≡ to
place-of-drop text to l = omega (arith, length-drop to text)
