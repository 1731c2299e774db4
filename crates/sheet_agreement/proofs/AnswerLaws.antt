-- What the calls answer for lists that hold a tree.
use Prim.Native.Nat.{ℕ, ◌≤◌}
use native.Mathlib.Omega.{arith}
use mathlib.Core.Bool.{Bool, false, cond}
use mathlib.Core.List.{List}
use mathlib.Core.Path.{◌≡◌, refl, sym, ap, ◌∙◌}
use borrow.Author.Tests.{le-ltb}
use lib.Dec.{ltb}
use lib.ListN.{length}
use Rattle.kinds.specs.Compare.{compare_encodings, equivalent_to}
use Rattle.kinds.specs.Expect.{equivalent_to_str}
use Rattle.kinds.specs.Primitive.{widths}
use Rattle.kinds.specs.Print.{print}
use Rattle.kinds.specs.Sheet.{max_text}
use Rattle.kinds.specs.Tree.{Trees, shown}
use Rattle.std.specs.Prelude.{Result, Ok, Err}
use Rattle.kinds.specs.declared.Refusal.{Refusal}
use Rattle.kinds.specs.declared.NestingLevel.TheVariants.{Top}
use Rattle.kinds.specs.declared.Refusal.TheVariants as R
use Rattle.sheet.specs.Answer.{Held, refused, holding, held, of_held, of_sheet, paired, held_both, of_held_both, of_sheets}
use Rattle.expect.specs.Answer.{compared}
use Rattle.helper.specs.Answer.{sized_in, size_answer, compare_answer}
use Rattle.static_str.specs.Answer.{fitted, placed, encoding_len, encoding_array, encoding_output}
use Rattle.agreement.specs.ShownAlike.{ShownAlike}
use Rattle.agreement.proofs.Agreement.{shown-alike}
use Rattle.bounds.proofs.HeldLaws.{held-holds}
use Rattle.sheet_agreement.specs.Sheets.{SheetOf, Answered, SheetsAlike}

-- The answer for a text, from that of the tree.
unfoldable against_text : List ℕ → Bool → Result Bool Refusal
against_text text answer = cond (ltb max_text (length text)) (Err R.TextTooLong) (Ok answer)

-- The answer of a comparison with what other lists hold, from that of the trees.
abbrev against : (Trees → Bool) → Held → Result Bool Refusal
against answer h = of_held Err (λ u. Ok (answer u)) h

module _ {w s : List ℕ} {t : Trees} (h : SheetOf w s t) where
  length-answer : encoding_len w s ≡ Ok (length (print Top t))
  unfolding encoding_len of_sheet
  length-answer = rw h.holds

  pub print-answer : (room : ℕ) → encoding_array w s room ≡ fitted (print Top t) room
  unfolding encoding_array of_sheet
  print-answer room = rw h.holds

  pub print-output : (out : List ℕ) → encoding_output w s out ≡ placed (print Top t) out
  unfolding encoding_output of_sheet
  print-output out = rw h.holds

  size-answer : (row : ℕ) → size_answer row w s ≡ sized_in row t
  unfolding size_answer of_sheet
  size-answer row = rw h.holds

  text-answer : (text : List ℕ) → compared w s text ≡ against_text text (equivalent_to_str t text)
  unfolding compared of_sheet against_text
  text-answer text = rw h.holds

  pub text-decided : (text : List ℕ) → length text ≤ max_text → compared w s text ≡ Ok (equivalent_to_str t text)
  unfolding against_text
  text-decided text q = text-answer text ∙ rw (le-ltb max_text (length text) q)

  module _ (all : Bool) (cw cn : List ℕ) where
    compare-first : compare_answer all w s cw cn ≡ against (compare_encodings all Top t) (held cw cn)
    unfolding compare_answer of_sheets held_both
    compare-first = rw h.holds (go (held cw cn))
      where
        go : (x : Held) → of_held_both Err (λ a b. Ok (compare_encodings all Top a b)) (paired (holding t) x) ≡ against (compare_encodings all Top t) x
        go (refused r) = refl
        go (holding u) = refl

    compare-second : compare_answer all cw cn w s ≡ against (λ u. compare_encodings all Top u t) (held cw cn)
    unfolding compare_answer of_sheets held_both
    compare-second = rw h.holds (go (held cw cn))
      where
        go : (x : Held) → of_held_both Err (λ a b. Ok (compare_encodings all Top a b)) (paired x (holding t)) ≡ against (λ u. compare_encodings all Top u t) x
        go (refused r) = refl
        go (holding u) = refl

  pub answers : Answered w s t
  answers = record {
    lengths = length-answer;
    prints = print-answer;
    outputs = print-output;
    sizes = size-answer;
    trees = λ all cw cn u g. (
      compare-first all cw cn ∙ ap (against (compare_encodings all Top t)) g.holds,
      compare-second all cw cn ∙ ap (against (λ c. compare_encodings all Top c t)) g.holds,
    );
    texts = λ text l. text-decided text (omega arith);
  }

-- What is held decides, and where no tree is held the trees do not matter.
same-against : (f g : Trees → Bool) (h : Held) → ((u : Trees) → h ≡ holding u → f u ≡ g u) → against f h ≡ against g h
same-against f g (refused r) e = refl
same-against f g (holding u) e = ap Ok (e u refl)

module _ {aw an bw bn : List ℕ} {t u : Trees} (a : SheetOf aw an t) (b : SheetOf bw bn u) (e : shown Top t ≡ shown Top u) where
  alike : ShownAlike t u
  alike = shown-alike t u e

  same_size : (row : ℕ) → sized_in row t ≡ sized_in row u
  unfolding sized_in
  same_size row = rw (alike.sizes (widths row))

  pub answers-alike : SheetsAlike aw an bw bn
  unfolding equivalent_to
  answers-alike = record {
    lengths = length-answer a ∙ ap (λ (x : List ℕ). Ok (length x)) alike.prints ∙ sym (length-answer b);
    prints = λ room. print-answer a room ∙ ap (λ (x : List ℕ). fitted x room) alike.prints ∙ sym (print-answer b room);
    outputs = λ out. print-output a out ∙ ap (λ (x : List ℕ). placed x out) alike.prints ∙ sym (print-output b out);
    sizes = λ row. size-answer a row ∙ same_size row ∙ sym (size-answer b row);
    first = λ cw cn. compare-first a false cw cn
        ∙ same-against (compare_encodings false Top t) (compare_encodings false Top u) (held cw cn) (λ c _. alike.first c)
        ∙ sym (compare-first b false cw cn);
    second = λ cw cn. compare-second a false cw cn
        ∙ same-against (λ c. compare_encodings false Top c t) (λ c. compare_encodings false Top c u) (held cw cn)
        (λ c q. alike.second (held-holds aw an t a.holds).valid-tree (held-holds bw bn u b.holds).valid-tree c (held-holds cw cn c q).valid-tree)
        ∙ sym (compare-second b false cw cn);
    texts = λ text. text-answer a text ∙ ap (against_text text) (alike.texts text) ∙ sym (text-answer b text);
  }
