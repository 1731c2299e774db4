-- What a lent output holds after bytes were written into it (01, "Printing writes exactly the printed length").
use Rattle.std.specs.Prelude.{ℕ, ◌+◌, List, ◌++◌, ◌≡◌, length, take, drop}

-- `out` with `xs` written from `at` on.
unfoldable pub written : List ℕ → ℕ → List ℕ → List ℕ
written out at xs = take at out ++ (xs ++ drop (at + length xs) out)

-- `xs` was written into `before` from `at` on, and the next place is `next`.
pub record Wrote (before : List ℕ) (at : ℕ) (xs after : List ℕ) (next : ℕ) : Type 0 where
  pub place : next ≡ at + length xs
  pub text : after ≡ written before at xs
