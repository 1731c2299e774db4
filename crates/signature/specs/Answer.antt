-- What reading a signature answers, and what the lent list holds after (02, N1).
use Rattle.std.specs.Prelude.{ℕ, ◌*◌, ◌/◌, cond, List, [], ◌∷◌, leb, ltb, length}
use Rattle.std.specs.Prelude.{Option, Some, None}
use Rattle.kinds.specs.Sheet.{max_text}
use Rattle.kinds.specs.declared.Refusal.{Refusal}
use Rattle.kinds.specs.declared.Refusal.TheVariants.{TextTooLong, ListTooShort}
use Rattle.parse.specs.Answer.{filled, unless_away}
use Rattle.signature.specs.Signature.{Entry, entry, Signature, entries, refused, signature}
use Rattle.std.specs.Prelude.{Result, Ok, Err}

-- The numbers that a signature of `l` bytes uses: three for each of at most half as many entries, rounded down.
abbrev pub used : ℕ → ℕ
used l = 3 * (l / 2)

-- Refusals 1 and 2, before reading.
unfoldable pub turned_away : List ℕ → List ℕ → Option Refusal
turned_away text list = cond (ltb max_text (length text)) (Some TextTooLong) (cond (leb (used (length text)) (length list)) None (Some ListTooShort))

-- Three numbers for each entry.
unfoldable pub numbers : List Entry → List ℕ
numbers [] = []
numbers (entry start size number ∷ es) = start ∷ size ∷ number ∷ numbers es

-- A refusal while reading leaves zeros.
unfoldable pub kept : Signature → List ℕ
kept (entries es) = numbers es
kept (refused r) = []

unfoldable pub reading : Signature → Result ℕ Refusal
reading (entries es) = Ok (length es)
reading (refused r) = Err r

unfoldable pub answer_or : Option Refusal → Result ℕ Refusal → Result ℕ Refusal
answer_or (Some r) a = Err r
answer_or None a = a

-- The answer of `parse_signature`.
unfoldable pub signature_answer : List ℕ → List ℕ → Result ℕ Refusal
signature_answer text list = answer_or (turned_away text list) (reading (signature text))

-- The list after `parse_signature`.
unfoldable pub signature_list : List ℕ → List ℕ → List ℕ
signature_list text list = unless_away (turned_away text list) list (filled (used (length text)) (kept (signature text)) list)
