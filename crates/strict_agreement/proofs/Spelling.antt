-- One spelling for registration (02, N3): the statements, and that none of their premises can go. The work is in the files below this one.
use Prim.Native.Nat.{ℕ}
use mathlib.Core.Path.{◌≡◌, sym, ◌∙◌}
use mathlib.Core.List.{List}
use Rattle.kinds.specs.Tree.{Label, Trees, end, node}
use Rattle.strict_agreement.specs.Spelling.{short, spelled, Registers}
use Rattle.strict_agreement.specs.SpellingNeeded.{StructsLeft, UnionsLeft, QualifiersMatter, ClassNamesMatter, ZerosMatter}
use Rattle.strict_agreement.proofs.SpelledReading.{text-spelled}
use Rattle.strict_agreement.proofs.SpellingNeededHold.{spellings-left as left, premises-matter}

-- A text that is read strictly, without qualifiers at its start and without class names, is in short the text of its tree.
pub short-spelled : (s : List ℕ) (l : Label) (cs : Trees) → Registers s l cs → short s ≡ spelled (node l cs end)
short-spelled = text-spelled

-- Two such texts that give the same tree differ at most in `=` directly before a container's closer.
pub one-spelling : (s t : List ℕ) (l : Label) (cs : Trees) → Registers s l cs → Registers t l cs → short s ≡ short t
one-spelling s t l cs a b = text-spelled s l cs a ∙ sym (text-spelled t l cs b)

-- Two that have no such `=` are the same text.
pub same-spelling : (s t : List ℕ) (l : Label) (cs : Trees) → Registers s l cs → Registers t l cs → short s ≡ s → short t ≡ t → s ≡ t
same-spelling s t l cs a b e f = sym e ∙ one-spelling s t l cs a b ∙ f

-- Such `=` are left: `{x}` and `{x=}`, and `(x)` and `(x=)`, are two texts for one tree.
pub spellings-left : StructsLeft × UnionsLeft
spellings-left = left

-- Each premise is needed.
pub premises-needed : QualifiersMatter × ClassNamesMatter × ZerosMatter
premises-needed = premises-matter
