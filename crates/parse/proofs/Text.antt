-- A list that is cleared at its front keeps its length.
use Prim.Native.Nat.{ℕ, ◌+◌, ◌≤◌}
use mathlib.Core.Path.{◌≡◌}
use mathlib.Core.List.{List, ◌++◌}
use native.Mathlib.Omega.{arith}
use lib.ListN.{length, drop, replicate, length-drop, length-append, length-replicate}
use Rattle.parse.specs.Out.{cleared}

pub cleared-length : (n : ℕ) (w : List ℕ) → n ≤ length w → length (cleared n w) ≡ length w
cleared-length n w h =
    let z : List ℕ = replicate n 0 in
    let e : length (z ++ drop n w) ≡ length z + length (drop n w) = length-append z (drop n w) in
    let f : length z ≡ n = length-replicate n 0 in
    omega (arith, length-drop n w)
