use mathlib.Core.Path.{sym, ap, ◌∙◌}
use mathlib.Core.List.{[], ◌∷◌}
use Rattle.kinds.specs.Parse.{start, in_singles, singles, in_others, others}
use Rattle.codes.specs.Answer.{start_of}
use Rattle.codes.proofs.CodeLaws.{no-start, differs-onto}
use Rattle.codes.proofs.start.Goals as goal

pub returns-in-99 : goal.returns-in-99
unfolding start_of start in_singles singles
returns-in-99 c = ap start (sym c.in-99.is)

pub returns-in-105 : goal.returns-in-105
unfolding start_of start in_singles singles
returns-in-105 c = ap start (sym c.in-105.is)

pub returns-in-115 : goal.returns-in-115
unfolding start_of start in_singles singles
returns-in-115 c = ap start (sym c.in-115.is)

pub returns-in-108 : goal.returns-in-108
unfolding start_of start in_singles singles
returns-in-108 c = ap start (sym c.in-108.is)

pub returns-in-113 : goal.returns-in-113
unfolding start_of start in_singles singles
returns-in-113 c = ap start (sym c.in-113.is)

pub returns-in-67 : goal.returns-in-67
unfolding start_of start in_singles singles
returns-in-67 c = ap start (sym c.in-67.is)

pub returns-in-73 : goal.returns-in-73
unfolding start_of start in_singles singles
returns-in-73 c = ap start (sym c.in-73.is)

pub returns-in-83 : goal.returns-in-83
unfolding start_of start in_singles singles
returns-in-83 c = ap start (sym c.in-83.is)

pub returns-in-76 : goal.returns-in-76
unfolding start_of start in_singles singles
returns-in-76 c = ap start (sym c.in-76.is)

pub returns-in-81 : goal.returns-in-81
unfolding start_of start in_singles singles
returns-in-81 c = ap start (sym c.in-81.is)

pub returns-in-102 : goal.returns-in-102
unfolding start_of start in_singles singles
returns-in-102 c = ap start (sym c.in-102.is)

pub returns-in-100 : goal.returns-in-100
unfolding start_of start in_singles singles
returns-in-100 c = ap start (sym c.in-100.is)

pub returns-in-66 : goal.returns-in-66
unfolding start_of start in_singles singles
returns-in-66 c = ap start (sym c.in-66.is)

pub returns-in-118 : goal.returns-in-118
unfolding start_of start in_singles singles
returns-in-118 c = ap start (sym c.in-118.is)

pub returns-in-42 : goal.returns-in-42
unfolding start_of start in_singles singles
returns-in-42 c = ap start (sym c.in-42.is)

pub returns-in-64 : goal.returns-in-64
unfolding start_of start in_singles singles in_others others
returns-in-64 c = ap start (sym c.in-64.is)

pub returns-in-35 : goal.returns-in-35
unfolding start_of start in_singles singles
returns-in-35 c = ap start (sym c.in-35.is)

pub returns-in-58 : goal.returns-in-58
unfolding start_of start in_singles singles
returns-in-58 c = ap start (sym c.in-58.is)

pub returns-in-91 : goal.returns-in-91
unfolding start_of start in_singles singles in_others others
returns-in-91 c = ap start (sym c.in-91.is)

pub returns-in-123 : goal.returns-in-123
unfolding start_of start in_singles singles in_others others
returns-in-123 c = ap start (sym c.in-123.is)

pub returns-in-40 : goal.returns-in-40
unfolding start_of start in_singles singles in_others others
returns-in-40 c = ap start (sym c.in-40.is)

pub returns-in-98 : goal.returns-in-98
unfolding start_of start in_singles singles in_others others
returns-in-98 c = ap start (sym c.in-98.is)

pub returns-in-94 : goal.returns-in-94
unfolding start_of start in_singles singles in_others others
returns-in-94 c = ap start (sym c.in-94.is)

pub returns-in-63 : goal.returns-in-63
unfolding start_of start in_singles singles
returns-in-63 c = ap start (sym c.in-63.is)

pub returns-in-68 : goal.returns-in-68
unfolding start_of start in_singles singles
returns-in-68 c = ap start (sym c.in-68.is)

pub returns-in-106 : goal.returns-in-106
unfolding start_of start in_singles singles in_others others
returns-in-106 c = ap start (sym c.in-106.is)

pub returns-in-65 : goal.returns-in-65
unfolding start_of start in_singles singles in_others others
returns-in-65 c = ap start (sym c.in-65.is)

pub returns-in-93 : goal.returns-in-93
unfolding start_of start in_singles singles in_others others
returns-in-93 c = ap start (sym c.in-93.is)

pub returns-in-125 : goal.returns-in-125
unfolding start_of start in_singles singles in_others others
returns-in-125 c = ap start (sym c.in-125.is)

pub returns-in-41 : goal.returns-in-41
unfolding start_of start in_singles singles in_others others
returns-in-41 c = ap start (sym c.in-41.is)

pub returns-in_default : goal.returns-in_default
unfolding start_of
returns-in_default c = no-start _ (differs-onto _ (41 ∷ 125 ∷ 93 ∷ 65 ∷ 106 ∷ 68 ∷ 63 ∷ 94 ∷ 98 ∷ 40 ∷ 123 ∷ 91 ∷ 58 ∷ 35 ∷ 64 ∷ 42 ∷ 118 ∷ 66 ∷ 100 ∷ 102 ∷ 81 ∷ 76 ∷
    83 ∷ 73 ∷ 67 ∷ 113 ∷ 108 ∷ 115 ∷ 105 ∷ 99 ∷ []) [] c.in_default.in_default-own.rest tt)
