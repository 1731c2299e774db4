-- What reading numbers does at one byte; it serves a private contract alone.
use Rattle.std.specs.Prelude.{ℕ, ◌+◌, cond, List, eqb, set}
use Rattle.kinds.specs.Byte.{byte}
use Rattle.lines.specs.Answer.{grown}
use Rattle.std.specs.Prelude.{Option, Some, None}

unfoldable pub step_grown : ℕ → Option ℕ → Option (ℕ × ℕ)
step_grown n (Some v) = Some (n, v)
step_grown n None = None

-- The place and the number after the byte `b`.
unfoldable pub stepped : ℕ → ℕ → ℕ → Option (ℕ × ℕ)
stepped n v b = cond (eqb b (byte ",")) (Some (n + 1, 0)) (step_grown n (grown v b))

-- The words after it.
unfoldable pub step_words : List ℕ → ℕ → ℕ → ℕ → List ℕ
step_words words n v b = cond (eqb b (byte ",")) (set words n v) words
