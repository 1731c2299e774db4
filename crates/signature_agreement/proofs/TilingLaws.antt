-- The entries of a signature tile it, so there are few.
use Prim.Native.Nat.{ℕ, ◌+◌, ◌*◌, ◌/◌, ◌≤◌}
use mathlib.Core.Path.{◌≡◌, ap, ◌∙◌}
use mathlib.Core.List.{List, [], ◌∷◌, ◌++◌}
use native.Mathlib.Omega.{arith}
use lib.ListN.{length, length-append}
use Rattle.signature.specs.Signature.{Entry, entry, entries, signature}
use Rattle.signature_agreement.specs.Tiling.{Tiles}
use Rattle.signature_agreement.proofs.WalkLaws.{Walk, walk-all}

tiles-of : (es : List Entry) (s : List ℕ) (at : ℕ) → Walk s at es → Tiles s at es
tiles-of [] s at w = w
tiles-of (entry start size number ∷ es) s at w = (w.0, w.1.tile, tiles-of es w.1.tile.rest (at + size + length w.1.tile.digits) w.2)

pub tiled : (s : List ℕ) (es : List Entry) → signature s ≡ entries es → Tiles s 0 es
tiled s es h = tiles-of es s 0 (walk-all s es h)

tiles-few : (es : List Entry) (s : List ℕ) (at : ℕ) → Tiles s at es → 2 * length es ≤ length s
tiles-few [] s at w = omega arith
tiles-few (entry start size number ∷ es) s at w =
    let t = w.1 in
    let sizes = ap length t.parts ∙ length-append t.type (t.digits ++ t.rest) in
    omega (arith, tiles-few es t.rest (at + size + length t.digits) w.2, length-append t.digits t.rest)

pub few : (s : List ℕ) (es : List Entry) → signature s ≡ entries es → length es ≤ length s / 2
few s es h = omega (arith, tiles-few es s 0 (tiled s es h))
