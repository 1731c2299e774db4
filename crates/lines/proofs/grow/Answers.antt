-- `lines::grow` meets its contract. Assumes nothing.
use Prim.Native.Nat.{ℕ, ◌+◌, ◌*◌}
use mathlib.Core.Path.{ap, ◌∙◌}
use native.Mathlib.Omega.{arith}
use Rattle.std.specs.Prelude.{Some}
use Rattle.lines.proofs.DecimalLaws.{grown-low, grown-high, grown-large, grown-value}
use Rattle.lines.proofs.grow.Goals as goal

pub returns-then-b-lt48 : goal.returns-then-b-lt48
returns-then-b-lt48 c = grown-low _ _ c.if-b-lt48.true

pub returns-then-b-gt57 : goal.returns-then-b-gt57
returns-then-b-gt57 c = grown-high _ _ c.if-b-gt57.true

pub returns-then-n-gt1844674407370955161 : goal.returns-then-n-gt1844674407370955161
returns-then-n-gt1844674407370955161 c =
    grown-large c.args.n c.args.b (omega arith) (omega arith) (omega arith)

pub returns-then-n-d : goal.returns-then-n-d
returns-then-n-d c =
    grown-large c.args.n c.args.b (omega arith) (omega arith) (omega (arith, c.from-d.ensures))

pub returns : goal.returns
returns c =
    ap (λ (k : ℕ). Some (10 * c.args.n + k)) c.from-d.ensures ∙ grown-value c.args.n c.args.b (omega arith) (omega arith)
    (omega (arith, c.from-d.ensures))
