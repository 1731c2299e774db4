-- The answer and the list, from the entries that were read.
use Prim.Native.Nat.{ℕ, zero, suc, ◌+◌, ◌*◌, ◌-◌, ◌≤◌, ◌<◌}
use mathlib.Core.Path.{◌≡◌, refl, sym, ap, ap₂, ◌∙◌}
use mathlib.Core.List.{List, [], ◌∷◌, ◌++◌}
use Rattle.std.specs.Prelude.{Some, None}
use native.Mathlib.Omega.{arith}
use lib.ListN.{length, drop, replicate, length-append, length-drop}
use lib.Seq.{sets, length-sets}
use borrow.Rule.Slice.PartMut.{mid_of, put_mid}
use borrow.Author.Tests.{le-leb, lt-leb, lt-ltb, le-ltb}
use Rattle.kinds.proofs.ListLaws.{unread-end}
use Rattle.kinds.specs.Sheet.{max_text}
use Rattle.kinds.specs.declared.Refusal.{Refusal}
use Rattle.kinds.specs.declared.Refusal.TheVariants.{TextTooLong, ListTooShort, EmptySignature}
use Rattle.numbers.specs.declared.Digits.{Digits}
use Rattle.parse.specs.Answer.{padded, filled, unless_away}
use Rattle.signature.specs.Answer.{used, turned_away, numbers, kept, reading, answer_or, signature_answer, signature_list}
use Rattle.signature.specs.Reads.{EntryAt, add_entries, ReadTo, SomeRead, EntriesRead}
use Rattle.signature.specs.Signature.{Entry, entry, Signature, entries, refused, add_entry, signature_from, signature}
use Rattle.std.specs.Prelude.{Ok, Err}
use Rattle.signature.proofs.ListLaws.{length-numbers, holds_more, cleared-behind, cleared-all}

-- ---- Entries, one after the other.

add-last : (es : List Entry) (e : Entry) (z : Signature) → add_entries (es ++ (e ∷ [])) z ≡ add_entries es (add_entry e z)
unfolding add_entries
add-last [] e z = refl
add-last (x ∷ es) e z = ap (add_entry x) (add-last es e z)

add_none : (es : List Entry) → add_entries es (entries []) ≡ entries es
unfolding add_entries add_entry
add_none [] = refl
add_none (x ∷ es) = ap (add_entry x) (add_none es)

add-refused : (es : List Entry) (r : Refusal) → add_entries es (refused r) ≡ refused r
unfolding add_entries add_entry
add-refused [] r = refl
add-refused (x ∷ es) r = ap (add_entry x) (add-refused es r)

pub read-start : (text list : List ℕ) → ReadTo text list list 0 0
unfolding add_entries numbers
read-start text list = record { read = []; many = refl; few = omega arith; within = omega arith; stands = refl; goes_on = λ z h f l. h f l }

module _ (text before now : List ℕ) (at k : ℕ) (r : ReadTo text before now at k) where
  pub read_length : length now ≡ length before
  read_length = ap length r.stands ∙ length-sets before 0 (numbers r.read)

  -- The entry at the place, and what is read behind it.
  pub read_more : (size number next : ℕ) (digits : Digits) (after : List ℕ) → EntryAt text at size number next digits → after ≡ sets now (3 * k) (at ∷ size ∷ number ∷ []) → ReadTo text before after next (k + 1)
  read_more size number next digits after e w = record {
    read = r.read ++ (entry at size number ∷ []);
    many = length-append r.read (entry at size number ∷ []) ∙ omega (arith, r.many);
    few = omega (arith, r.few, e.onward);
    within = e.within;
    stands = w ∙ holds_more r.read k at size number before now r.many r.stands;
    goes_on = λ z h f l. r.goes_on (add_entry (entry at size number) z) (λ g m. step z h g m) f l ∙ sym (add-last r.read (entry at size number) z);
  }
    where
      step : (z : Signature) → ((f : ℕ) → length (drop next text) ≤ f → signature_from f (length text) (drop next text) ≡ z)
          → (g : ℕ) → length (drop at text) ≤ g → signature_from g (length text) (drop at text) ≡ add_entry (entry at size number) z
      step z h zero m = absurd (omega (arith, length-drop at text, e.onward, e.within))
      step z h (suc g) m = e.says g ∙ ap (add_entry (entry at size number)) (h g (omega (arith, length-drop at text, length-drop next text, e.onward, e.within)))

  pub read-refused : (why : Refusal) → at < length text → ((f : ℕ) → signature_from (suc f) (length text) (drop at text) ≡ refused why) → EntriesRead text before now (Err why)
  read-refused why h e = (
    record { read = r.read; few = omega (arith, r.many, r.few, r.within); stands = r.stands },
    λ f l. r.goes_on (refused why) step f l ∙ add-refused r.read why,
  )
    where
      step : (f : ℕ) → length (drop at text) ≤ f → signature_from f (length text) (drop at text) ≡ refused why
      step zero l = absurd (omega (arith, length-drop at text))
      step (suc f) l = e f

  pub read_all : length text ≤ at → EntriesRead text before now (Ok k)
  unfolding signature_from
  read_all h =
      let same : at ≡ length text = omega (arith, r.within) in
      (record { read = r.read; few = omega (arith, r.many, r.few); stands = r.stands }, (r.many, λ f l. r.goes_on (entries []) step f l ∙ add_none r.read))
    where
      step : (f : ℕ) → length (drop at text) ≤ f → signature_from f (length text) (drop at text) ≡ entries []
      step zero l = refl
      step (suc f) l = ap (signature_from (suc f) (length text)) (unread-end text at h)

-- ---- What is answered, and what the list holds after.

module _ (text list : List ℕ) where
  pub too_long : max_text < length text → turned_away text list ≡ Some TextTooLong
  unfolding turned_away
  too_long h = rw (lt-ltb max_text (length text) h)

  pub too_short_lem : length text ≤ max_text → length list < used (length text) → turned_away text list ≡ Some ListTooShort
  unfolding turned_away
  too_short_lem h l = rw (le-ltb max_text (length text) h, lt-leb (used (length text)) (length list) l)

  pub has_room_lem : length text ≤ max_text → used (length text) ≤ length list → turned_away text list ≡ None
  unfolding turned_away
  has_room_lem h l = rw (le-ltb max_text (length text) h, le-leb (used (length text)) (length list) l)

  pub answer-away : (r : Refusal) → turned_away text list ≡ Some r → (Err r ≡ signature_answer text list) × (list ≡ signature_list text list)
  unfolding signature_answer answer_or signature_list unless_away
  answer-away r e = (
    sym (ap (λ o. answer_or o (reading (signature text))) e),
    sym (ap (λ o. unless_away o list (filled (used (length text)) (kept (signature text)) list)) e),
  )

  pub answer-read : (z : Signature) → turned_away text list ≡ None → signature text ≡ z
      → (reading z ≡ signature_answer text list) × (filled (used (length text)) (kept z) list ≡ signature_list text list)
  unfolding signature_answer answer_or signature_list unless_away
  answer-read z e s = (
    sym (ap (λ o. answer_or o (reading (signature text))) e ∙ ap reading s),
    sym (ap (λ o. unless_away o list (filled (used (length text)) (kept (signature text)) list)) e ∙ ap (λ y. filled (used (length text)) (kept y) list) s),
  )

-- An empty signature is refused, and its part of the list is empty.
pub answer-empty : (text list : List ℕ) → length text ≡ 0 → (Err EmptySignature ≡ signature_answer text list) × (list ≡ signature_list text list)
unfolding signature reading kept filled padded
answer-empty [] list h = answer-read [] list (refused EmptySignature) (has_room_lem [] list (omega arith) (omega arith)) refl
answer-empty (b ∷ s) list h = absurd (omega arith)

pub signature-is : (text : List ℕ) (z : Signature) → 0 < length text → ((f : ℕ) → length text ≤ f → signature_from f (length text) text ≡ z) → signature text ≡ z
unfolding signature
signature-is [] z h e = absurd (omega arith)
signature-is (b ∷ s) z h e = e (length (b ∷ s)) (omega arith)

-- As many entries as were read fit into the part.
pub few-numbers : (text before after : List ℕ) (r : SomeRead text before after) → length (numbers r.read) ≤ used (length text)
few-numbers text before after r = omega (arith, length-numbers r.read, r.few)

pub few-entries : (text before after : List ℕ) (k : ℕ) → EntriesRead text before after (Ok k) → 3 * k ≤ used (length text)
few-entries text before after k r = omega (arith, r.0.few, r.1.0)

module _ (text before now : List ℕ) (some-text : 0 < length text) (short : length text ≤ max_text) (room : used (length text) ≤ length before) (r : SomeRead text before now) where
  same_length : length (sets before 0 (numbers r.read)) ≡ length before
  same_length = length-sets before 0 (numbers r.read)

  -- Read to the end: what is left of the part is cleared.
  pub all-answered : (k : ℕ) (zs : List ℕ) → length r.read ≡ k → ((f : ℕ) → length text ≤ f → signature_from f (length text) text ≡ entries r.read)
      → zs ≡ replicate (length (mid_of (3 * k) (used (length text) - 3 * k) now)) 0
      → (Ok k ≡ signature_answer text before) × (put_mid (3 * k) (used (length text) - 3 * k) now zs ≡ signature_list text before)
  unfolding reading kept
  all-answered k zs n e z =
      let a = answer-read text before (entries r.read) (has_room_lem text before short room) (signature-is text (entries r.read) some-text e) in
      let place : 3 * k ≡ length (numbers r.read) = omega (arith, length-numbers r.read) in
      let cleared = cleared-behind (used (length text)) (numbers r.read) before (few-numbers text before now r) room zs
      (z ∙ ap₂ (λ (j : ℕ) (l : List ℕ). replicate (length (mid_of j (used (length text) - j) l)) 0) place r.stands) same_length in
      (ap Ok (sym n) ∙ a.0, ap₂ (λ (j : ℕ) (l : List ℕ). put_mid j (used (length text) - j) l zs) place r.stands ∙ cleared ∙ a.1)

  -- Refused: the whole part is cleared.
  pub refused-answered : (why : Refusal) (zs : List ℕ) → ((f : ℕ) → length text ≤ f → signature_from f (length text) text ≡ refused why)
      → zs ≡ replicate (length (mid_of 0 (used (length text) - 0) now)) 0
      → (Err why ≡ signature_answer text before) × (put_mid 0 (used (length text) - 0) now zs ≡ signature_list text before)
  unfolding reading kept
  refused-answered why zs e z =
      let a = answer-read text before (refused why) (has_room_lem text before short room) (signature-is text (refused why) some-text e) in
      let cleared = cleared-all (used (length text)) (numbers r.read) before (few-numbers text before now r) room zs
      (z ∙ ap (λ (l : List ℕ). replicate (length (mid_of 0 (used (length text) - 0) l)) 0) r.stands) same_length in
      (a.0, ap (λ (l : List ℕ). put_mid 0 (used (length text) - 0) l zs) r.stands ∙ cleared ∙ a.1)
