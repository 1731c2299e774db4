-- Readings as the numbers that go out: a whole text's answer, ordinary or strict; from the start, its answer as four words, and the rest.
use Prim.Native.Nat.{ℕ, ◌-◌, ◌≤◌}
use mathlib.Core.Path.{◌≡◌, refl, ap, ◌∙◌}
use mathlib.Core.List.{List, [], ◌∷◌}
use native.Mathlib.Omega.{arith}
use denote.Ref.{Bor}
use lib.ListN.{length, get_or, length-drop}
use Rattle.parse.specs.Answer.{answer_words, from_start_answer, from_start_rest, EndOf}
use Rattle.std.specs.Prelude.{Result, Ok, Err}
use Rattle.kinds.specs.declared.Refusal.{Refusal}
use Rattle.parse.proofs.FromStr.{refused-rest}
use Rattle.berzhotun.specs.Answer.{read_number, read_values, rest_place}

-- What the call below answered, `a`, went out as numbers: they are those of the answer that it is. `Lists` is what else that call promises.
pub whole-given : {a answer : Result (Unit {0}) Refusal} {n : ℕ} {vs : List ℕ} {Lists : Type 0}
    → (a ≡ answer) × Lists → (n ≡ read_number a) × (vs ≡ read_values 0 a) → (n ≡ read_number answer) × ((vs ≡ read_values 0 answer) × Lists)
whole-given promised given = (given.0 ∙ ap read_number promised.0, (given.1 ∙ ap (read_values 0) promised.0, promised.1))

module _ (text w ns ws rest : List ℕ) (answers : ws ≡ answer_words (from_start_answer text w ns)) (rests : rest ≡ from_start_rest text w ns) where
  pub number_is : get_or ws 0 0 ≡ read_number (from_start_answer text w ns)
  number_is = ap (λ (l : List ℕ). get_or l 0 0) answers ∙ go (from_start_answer text w ns)
    where
      go : (a : Result (Unit {0}) Refusal) → get_or (answer_words a) 0 0 ≡ read_number a
      go (Ok tt) = refl
      go (Err r) = refl

  -- The whole text is left: by a refusal, whose values these are, or by a tree of no byte.
  pub whole-left : length rest ≡ length text → get_or ws 1 0 ∷ get_or ws 2 0 ∷ get_or ws 3 0 ∷ [] ≡ read_values (rest_place text w ns) (from_start_answer text w ns)
  whole-left h = ap (λ (l : List ℕ). get_or l 1 0 ∷ get_or l 2 0 ∷ get_or l 3 0 ∷ []) answers ∙ go (from_start_answer text w ns)
    where
      go : (a : Result (Unit {0}) Refusal) → get_or (answer_words a) 1 0 ∷ get_or (answer_words a) 2 0 ∷ get_or (answer_words a) 3 0 ∷ [] ≡ read_values (rest_place text w ns) a
      go (Ok tt) = let e = ap length rests in ap (λ (n : ℕ). n ∷ 0 ∷ 0 ∷ []) (omega arith)
      go (Err r) = refl

  -- Less is left: by a tree.
  pub part_left : (length rest ≡ length text → ⊥)
      → (0 ≡ read_number (from_start_answer text w ns)) × ((length text - length rest) ∷ 0 ∷ 0 ∷ [] ≡ read_values (rest_place text w ns) (from_start_answer text w ns))
  part_left h = go (from_start_answer text w ns) refl
    where
      go : (a : Result (Unit {0}) Refusal) → from_start_answer text w ns ≡ a → (0 ≡ read_number a) × ((length text - length rest) ∷ 0 ∷ 0 ∷ [] ≡ read_values (rest_place text w ns) a)
      go (Ok tt) e = (refl, ap (λ (l : List ℕ). (length text - length l) ∷ 0 ∷ 0 ∷ []) rests)
      go (Err r) e = absurd (h (ap length (rests ∙ refused-rest text w ns r e)))

-- The end of a text is no longer than the text.
pub end-shorter : (text part : Bor (List ℕ)) → EndOf text part → length part.now ≤ length text.now
end-shorter text part h =
    let e = ap length h.same_bytes in
    let d = length-drop (length text.now - length part.now) text.now in
    omega arith
