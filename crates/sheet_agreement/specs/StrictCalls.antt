-- What strict reading answers and leaves, beside whole-text reading (02, N3).
use Rattle.std.specs.Prelude.{List, [], ◌≡◌, ℕ, length}
use Rattle.std.specs.Prelude.{None}
use Rattle.kinds.specs.declared.ErrorKind.TheVariants.{SurplusZero}
use Rattle.kinds.specs.declared.Refusal.TheVariants.{Parse}
use Rattle.parse.specs.Answer.{used, turned_away, filled, from_str_answer, from_str_words, from_str_names, from_str_strict_answer, from_str_strict_words, from_str_strict_names}
use Rattle.std.specs.Prelude.{Err}
use Rattle.strict_agreement.specs.Surplus.{FirstMet}

-- The same answer, and the same in both lists.
pub record CallsAlike (text words names : List ℕ) : Type 0 where
  pub answers : from_str_strict_answer text words names ≡ from_str_answer text words names
  pub fills : from_str_strict_words text words names ≡ from_str_words text words names
  pub leaves : from_str_strict_names text words names ≡ from_str_names text words names

-- 19 at the first number with a surplus zero that whole-text reading meets, and zeros in what reading uses; refusals 1 and 2 go before it.
pub record CallRefuses (text words names : List ℕ) : Type 0 where
  pub room : turned_away text words names ≡ None
  pub first : FirstMet text
  pub answers : from_str_strict_answer text words names ≡ Err (Parse SurplusZero (length first.before))
  pub clears : from_str_strict_words text words names ≡ filled (used (length text)) [] words
  pub empties : from_str_strict_names text words names ≡ filled (length text) [] names
