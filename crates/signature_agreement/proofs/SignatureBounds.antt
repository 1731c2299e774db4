-- The numbers that the header gives for reading a signature: the statements over the definitions that the call is proved to equal.
use Prim.Native.Nat.{ℕ, zero, suc, ◌*◌, ◌≤◌, ◌<◌}
use native.Mathlib.Omega.{arith}
use mathlib.Core.Path.{◌≡◌, refl, sym, ap, ◌∙◌}
use mathlib.Core.Bool.{true}
use mathlib.Core.List.{List}
use lib.ListN.{length}
use Rattle.kinds.specs.Sheet.{max_text}
use Rattle.kinds.specs.declared.Refusal.TheVariants.{TextTooLong, ListTooShort}
use Rattle.signature.specs.Answer.{reading, signature_answer}
use Rattle.signature.specs.Signature.{entries, signature}
use Rattle.std.specs.Prelude.{Err}
use Rattle.signature.proofs.AnswerLaws.{too_long, too_short_lem, has_room_lem, answer-away, answer-read}
use Rattle.signature_agreement.specs.Limits.{signature_for, max_signature, ints}
use Rattle.signature_agreement.specs.Written.{written, entries_for}
use Rattle.signature_agreement.proofs.IntLaws.{ints-read, ints-length, ints-entries}

-- A signature of more than 2,000 bytes is refused by 1, whatever is lent.
pub signature-too-long : (text list : List ℕ) → max_text < length text → signature_answer text list ≡ Err TextTooLong
signature-too-long text list h = sym (answer-away text list TextTooLong (too_long text list h)).0

-- With a list of this length the answer is what the signature gives: refusals 1 and 2 do not occur.
pub room-for-signature : (text list : List ℕ) → length text ≤ max_text → signature_for (length text) ≤ length list → signature_answer text list
    ≡ reading (signature text)
room-for-signature text list h l = sym (answer-read text list (signature text) (has_room_lem text list h l) refl).0

-- With a number fewer it is refused by 2.
pub too-few-numbers : (text list : List ℕ) → length text ≤ max_text → length list < signature_for (length text) → signature_answer text list ≡ Err ListTooShort
too-few-numbers text list h l = sym (answer-away text list ListTooShort (too_short_lem text list h l)).0

-- No signature needs more than 3,000 numbers.
pub most-numbers : (l : ℕ) → l ≤ max_text → signature_for l ≤ max_signature
most-numbers l h = omega arith

-- For each even length there is a signature with as many entries as there is room for: `i0` repeated.
pub numbers-reached : (m : ℕ)
    → (length (written (ints (suc m))) ≡ 2 * suc m) × (signature (written (ints (suc m))) ≡ entries (entries_for 0 (ints (suc m)))) ×
    (3 * length (entries_for 0 (ints (suc m))) ≡ signature_for (2 * suc m))
numbers-reached m = (ints-length (suc m), ints-read m, omega (arith, ints-entries (suc m) 0))
