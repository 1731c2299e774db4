use Rattle.layout.proofs.AnswerLaws.{answer-by, list-by, listed}
use mathlib.Core.Path.{refl, sym, ◌∙◌}
use Rattle.layout.proofs.place.lay_out_any.Goals as goal

pub find-requires : goal.find-requires
find-requires c = c.requires.1

pub lay_out-requires : goal.lay_out-requires
lay_out-requires c = c.requires.0

pub returns-in-BitField : goal.returns-in-BitField
returns-in-BitField c = let a = c.args in
    let t = a.tree in
    let w = t.nodes.now in
    let f = c.find.ensures in record {
      answers = λ m o s. answer-by m s w t.limit t.counted (sym c.in-BitField.is ∙ f m o s) refl;
      fills = λ m o s. list-by m s w t.limit t.counted (sym c.in-BitField.is ∙ f m o s) a.offsets.now
          refl;
    }

pub returns-in-Nothing : goal.returns-in-Nothing
returns-in-Nothing c = let a = c.args in
    let t = a.tree in
    let w = t.nodes.now in
    let f = c.find.ensures in record {
      answers = λ m o s. answer-by m s w t.limit t.counted (sym c.in-Nothing.is ∙ f m o s) refl;
      fills = λ m o s. list-by m s w t.limit t.counted (sym c.in-Nothing.is ∙ f m o s) a.offsets.now
          refl;
    }

pub returns-in-Sized : goal.returns-in-Sized
returns-in-Sized c = let a = c.args in
    let t = a.tree in
    let w = t.nodes.now in
    let f = c.find.ensures in
    let l = c.lay_out.ensures in record {
      answers = λ m o s. answer-by m s w t.limit t.counted (sym c.in-Sized.is ∙ f m o s) (l.answers m o s);
      fills = λ m o s. list-by m s w t.limit t.counted (sym c.in-Sized.is ∙ f m o s) a.offsets.now
          (l.fills m o s ∙ listed m s w _ _);
    }
