-- What the private functions promise: the number behind a type, an entry at a place, and the entries up to the end.
use Rattle.std.specs.Prelude.{ℕ, suc, ◌+◌, ◌-◌, ◌≤◌, ◌<◌, ◌≡◌, cond, List, [], ◌∷◌, length, drop}
use Rattle.std.proofs.lemmas.List.Edits.{sets}
use Rattle.kinds.specs.Parse.{unknown_digit}
use Rattle.kinds.specs.declared.ErrorKind.{ErrorKind}
use Rattle.numbers.specs.Answer.{digits_of}
use Rattle.numbers.specs.declared.Digits.{Digits}
use Rattle.signature.specs.Answer.{numbers}
use Rattle.signature.specs.Signature.{Entry, entry, Signature, entries, refused, add_entry, Offset, offset, no_offset, parse_offset, signature_from}
use Rattle.signature.specs.declared.Next.{Next}
use Rattle.std.specs.Prelude.{Result, Ok, Err}
use Rattle.kinds.specs.declared.Refusal.{Refusal}

-- A digit where a type should begin is refused at its own place, the others where reading met them.
abbrev pub own_place : ErrorKind → ℕ → ℕ
own_place why to = cond (unknown_digit why) (to - 1) to

-- The number behind a type that ends at `at`, the place after it, and what its digits show.
pub record OffsetAt (text : List ℕ) (at number next : ℕ) (digits : Digits) (q : Offset) : Type 0 where
  pub is : q ≡ offset number (drop next text)
  pub onward : at < next
  pub within : next ≤ length text
  pub shown : digits ≡ digits_of (drop at text)

abbrev pub NumberIs : List ℕ → ℕ → ℕ → Result Next Refusal → Type 0
NumberIs text start at (Ok e) = (e.«size» ≡ at - start) × OffsetAt text at e.«number» e.«next» e.«digits» (parse_offset (length text) (drop at text))
NumberIs text start at (Err why) = parse_offset (length text) (drop at text) ≡ no_offset why

-- An entry of two bytes at least begins at a place; its number stands after its type.
pub record EntryAt (text : List ℕ) (at size number next : ℕ) (digits : Digits) : Type 0 where
  pub onward : at + 2 ≤ next
  pub within : next ≤ length text
  pub says : (f : ℕ) → signature_from (suc f) (length text) (drop at text) ≡ add_entry (entry at size number) (signature_from f (length text) (drop next text))
  pub shown : digits ≡ digits_of (drop (at + size) text)

-- Reading a signature goes on with an entry, or is refused, whatever the fuel.
abbrev pub NextIs : List ℕ → ℕ → Result Next Refusal → Type 0
NextIs text at (Ok e) = EntryAt text at e.«size» e.«number» e.«next» e.«digits»
NextIs text at (Err why) = (f : ℕ) → signature_from (suc f) (length text) (drop at text) ≡ refused why

-- The entries before those of a signature, where it is not refused.
unfoldable pub add_entries : List Entry → Signature → Signature
add_entries [] z = z
add_entries (e ∷ es) z = add_entry e (add_entries es z)

-- The first numbers of the list are those of the entries, the others are kept.
abbrev pub holding : List Entry → List ℕ → List ℕ
holding es list = sets list 0 (numbers es)

-- `k` entries were read before the place `at`: they stand in the list, and the signature is theirs and what is read from `at` on.
pub record ReadTo (text before after : List ℕ) (at k : ℕ) : Type 0 where
  pub read : List Entry
  pub many : length read ≡ k
  pub few : k + k ≤ at
  pub within : at ≤ length text
  pub stands : after ≡ holding read before
  pub goes_on : (z : Signature) → ((f : ℕ) → length (drop at text) ≤ f → signature_from f (length text) (drop at text) ≡ z)
      → (f : ℕ) → length text ≤ f → signature_from f (length text) text ≡ add_entries read z

-- Some entries were read and stand in the list.
pub record SomeRead (text before after : List ℕ) : Type 0 where
  pub read : List Entry
  pub few : length read + length read ≤ length text
  pub stands : after ≡ holding read before

-- All were read, or a refusal was met.
abbrev pub EntriesRead : List ℕ → List ℕ → List ℕ → Result ℕ Refusal → Type 0
EntriesRead text before after (Ok k) =
    (r : SomeRead text before after) × ((length r.read ≡ k) × ((f : ℕ) → length text ≤ f → signature_from f (length text) text ≡ entries r.read))
EntriesRead text before after (Err why) = SomeRead text before after × ((f : ℕ) → length text ≤ f → signature_from f (length text) text ≡ refused why)
