use borrow.Enum.Refused.{opened}
use native.Mathlib.Omega.{arith}
use Rattle.reason.proofs.ValueLaws.{name-short, names-most, numbers-most}
use Rattle.reason.proofs.words.most_len.Goals as goal

pub overflow_add-result : goal.overflow_add-result
overflow_add-result c = omega (arith, name-short _ c.in-Name.is c.requires.0)

pub overflow_add-result-in-Name : goal.overflow_add-result-in-Name
overflow_add-result-in-Name c =
    omega (arith, name-short _ c.in-Name.is c.requires.0, name-short _ c.in-Name.is c.requires.1)

pub returns-in-Name : goal.returns-in-Name
returns-in-Name c = (
  names-most _ _ c.in-Name.is c.requires.0 c.requires.1,
  omega (arith, name-short _ c.in-Name.is c.requires.0, name-short _ c.in-Name.is c.requires.1),
)

pub returns : goal.returns
returns c =
    (numbers-most _ c.args.k c.args.j (opened c.in_default.in_default-own.keys2) (omega arith) (omega arith), omega arith)
