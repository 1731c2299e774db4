use Prim.Native.Nat.{ℕ, ◌-◌}
use mathlib.Core.Path.{◌≡◌, ap, ◌∙◌}
use mathlib.Core.List.{List, ◌++◌}
use native.Mathlib.Omega.{arith}
use lib.ListN.{drop, replicate}
use borrow.Rule.Slice.PartMut.{post_of, mid_len}
use Rattle.parse.proofs.clear_words.Goals as goal

pub returns : goal.returns
returns c =
    let w : List ℕ = c.args.words.now in
    let n : ℕ = c.args.n in
    let all : n - 0 ≡ n = omega arith in
    let zeros = c.clear_words.ensures ∙ ap (λ (k : ℕ). replicate k 0) (mid_len 0 n w c.requires ∙ all) in
    ap (λ (z : List ℕ). z ++ post_of 0 (n - 0) w) zeros ∙ ap (λ (k : ℕ). replicate n 0 ++ drop k w) all
