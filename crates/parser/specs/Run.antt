-- Runs of bytes that pass a test, and the place after one (parse.rs, the loop of `chomp_digits`; runs of pointers and of codes, which it reads one by one, likewise).
use Rattle.std.specs.Prelude.{ℕ, ◌+◌, ◌-◌, ◌<◌, ◌≡◌, Bool, true, false, not, eqb, List, [], ◌∷◌, length, drop}

-- What remains after the bytes at the start that pass the test.
unfoldable pub after : (ℕ → Bool) → List ℕ → List ℕ
after test [] = []
after test (b ∷ s) = elim (test b) [ true ↦ after test s | false ↦ b ∷ s ]

-- On from `at` by as many bytes as pass the test.
unfoldable pub run_end : (ℕ → Bool) → List ℕ → ℕ → ℕ
run_end test text at = at + (length (drop at text) - length (after test (drop at text)))

-- Within quotes the text goes on with this byte.
unfoldable pub quoted : ℕ → Bool
quoted b = not (eqb b 34)
