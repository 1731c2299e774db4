use mathlib.Core.Bool.{false≢true}
use native.Mathlib.Omega.{arith}
use mathlib.Core.Path.{sym, ◌∙◌}
use borrow.Author.Tests.{eqb-true, eq-eqb}
use Rattle.kinds.proofs.TableLaws.{both}
use Rattle.sheet.proofs.lone_code.Goals as goal

pub returns-then-words : goal.returns-then-words
returns-then-words c = record { holds = λ e. absurd (false≢true e); fails = λ _ l. let r = l.room in let t = c.if-words.true in omega arith }

pub returns-then-words-ne1 : goal.returns-then-words-ne1
returns-then-words-ne1 c = record { holds = λ e. absurd (false≢true e); fails = λ _ l. c.if-words-ne1.true l.nodes }

pub returns-then-words-2 : goal.returns-then-words-2
returns-then-words-2 c = record { holds = λ e. absurd (false≢true e); fails = λ _ l. c.if-words-2.true l.offset }

pub returns-then-words-ne0 : goal.returns-then-words-ne0
returns-then-words-ne0 c = record { holds = λ e. absurd (false≢true e); fails = λ _ l. c.if-words-ne0.true l.names }

pub returns-then-words-3 : goal.returns-then-words-3
returns-then-words-3 c = record { holds = λ e. absurd (false≢true e); fails = λ _ l. c.if-words-3.true l.used }

pub returns-then-words-ge-PRIMITIVES : goal.returns-then-words-ge-PRIMITIVES
returns-then-words-ge-PRIMITIVES c = record { holds = λ e. absurd (false≢true e); fails = λ _ l. let k = l.kind in let t = c.if-words-ge-PRIMITIVES.true in omega arith }

pub returns-then-not-no_numbers : goal.returns-then-not-no_numbers
returns-then-not-no_numbers c = record { holds = λ e. absurd (false≢true e); fails = λ _ l. false≢true (sym (sym c.no_numbers.ensures ∙ c.if-not-no_numbers.true) ∙ rw (l.first, l.second)) }

pub returns : goal.returns
returns c = record {
  holds = λ e.
      let n = both _ _ (sym c.no_numbers.ensures ∙ c.if-not-no_numbers.false) in
      record {
        room = c.if-words.false;
        nodes = c.if-words-ne1.false;
        offset = c.if-words-2.false;
        names = c.if-words-ne0.false;
        used = c.if-words-3.false;
        kind = c.if-words-ge-PRIMITIVES.false;
        first = eqb-true _ _ n.0;
        second = eqb-true _ _ n.1;
        count = eqb-true _ _ e;
      };
  fails = λ e l. false≢true (sym e ∙ eq-eqb _ _ l.count);
}
