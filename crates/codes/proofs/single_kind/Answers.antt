use Rattle.std.specs.Prelude.{Some}
use mathlib.Core.Path.{sym, ap, ◌∙◌}
use Rattle.codes.specs.Answer.{start_of, code_of}
use Rattle.codes.proofs.CodeLaws.{no-single}
use Rattle.codes.proofs.single_kind.Goals as goal

pub returns-in-Single : goal.returns-in-Single
unfolding start_of code_of
returns-in-Single c = ap Some c.kind.ensures ∙ ap code_of (sym (ap start_of c.in-Single.is) ∙ c.start-begun.ensures)

pub returns-in_default : goal.returns-in_default
returns-in_default c = sym (ap code_of (sym c.start-begun.ensures) ∙ no-single _ c.in_default.not-Single)
