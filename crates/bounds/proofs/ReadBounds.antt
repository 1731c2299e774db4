-- The words and name bytes that the header gives for reading: the statements over the definitions that the calls are proved to equal.
use Prim.Native.Nat.{ℕ, ◌≤◌, ◌<◌}
use native.Mathlib.Omega.{arith}
use mathlib.Core.Path.{◌≡◌}
use mathlib.Core.List.{List}
use lib.ListN.{length, get_or}
use Rattle.kinds.specs.Parse.{from_str, from_start_of_str}
use Rattle.kinds.specs.Strict.{from_str_strict}
use Rattle.kinds.specs.declared.Refusal.TheVariants.{TextTooLong, ListTooShort}
use Rattle.parse.specs.Answer.{whole_reading, start_reading, from_str_answer, from_str_words, from_str_strict_answer, from_start_answer}
use Rattle.std.specs.Prelude.{Result, Ok, Err}
use Rattle.kinds.specs.declared.Refusal.{Refusal}
use Rattle.bounds.specs.Extremes.{pointers}
use Rattle.bounds.specs.Limits.{max_text, words_for, names_for}
use Rattle.bounds.proofs.RoomLaws.{long-text, enough-room, short-words, short-names, pointers-fill}

-- What all readings answer, whole-text reading, strict reading and reading from the start.
abbrev Each : List ℕ → List ℕ → List ℕ → Result (Unit {0}) Refusal → Type 0
Each text words names r = (from_str_answer text words names ≡ r) × (from_str_strict_answer text words names ≡ r) × (from_start_answer text words names ≡ r)

-- A text of more than 2,000 bytes is refused by 1, whatever is lent.
pub text-too-long : (text words names : List ℕ) → max_text < length text → Each text words names (Err TextTooLong)
unfolding from_str_answer from_str_strict_answer from_start_answer
text-too-long text words names h = (long-text text words names _ (omega arith), long-text text words names _ (omega arith), long-text text words names _ (omega arith))

-- With lists of these lengths each answers what the text gives: refusals 1 and 2 do not occur.
module _ (text words names : List ℕ) (l : length text ≤ max_text) (w : words_for (length text) ≤ length words) (n : names_for (length text) ≤ length names) where
  pub room-for-whole-text : from_str_answer text words names ≡ whole_reading (from_str text)
  unfolding from_str_answer
  room-for-whole-text = enough-room text words names (whole_reading (from_str text)) (omega arith) w n

  pub room-for-strict : from_str_strict_answer text words names ≡ whole_reading (from_str_strict text)
  unfolding from_str_strict_answer
  room-for-strict = enough-room text words names (whole_reading (from_str_strict text)) (omega arith) w n

  pub room-for-start : from_start_answer text words names ≡ start_reading (from_start_of_str text)
  unfolding from_start_answer
  room-for-start = enough-room text words names (start_reading (from_start_of_str text)) (omega arith) w n

-- With a word or a name byte fewer each refuses by 2.
pub too-few-words : (text words names : List ℕ) → length text ≤ max_text → length words < words_for (length text) → Each text words names (Err ListTooShort)
unfolding from_str_answer from_str_strict_answer from_start_answer
too-few-words text words names l h = (short-words text words names _ (omega arith) h, short-words text words names _ (omega arith) h, short-words text words names _ (omega arith) h)

pub too-few-names : (text words names : List ℕ) → length text ≤ max_text → length names < names_for (length text) → Each text words names (Err ListTooShort)
unfolding from_str_answer from_str_strict_answer from_start_answer
too-few-names text words names l h = (short-names text words names _ (omega arith) h, short-names text words names _ (omega arith) h, short-names text words names _ (omega arith) h)

-- For each length there is a text whose sheet has as many words as that, by the header that reading leaves: as many pointers.
pub words-reached : (l : ℕ) (words names : List ℕ) → l ≤ max_text → words_for l ≤ length words → names_for l ≤ length names
    → (length (pointers l) ≡ l) × (from_str_answer (pointers l) words names ≡ Ok tt) × (get_or (from_str_words (pointers l) words names) 3 0 ≡ words_for l)
words-reached l words names m w n = pointers-fill l words names (omega arith) w n
