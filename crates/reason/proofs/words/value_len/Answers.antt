use borrow.Enum.Refused.{opened}
use mathlib.Core.Path.{◌∙◌}
use Rattle.reason.proofs.ValueLaws.{name-short, length-of-name, length-of-number}
use Rattle.reason.proofs.words.value_len.Goals as goal

pub text_len-requires : goal.text_len-requires
text_len-requires c = name-short _ c.in-Name.is c.requires

pub returns-in-Name : goal.returns-in-Name
returns-in-Name c = (c.text_len.ensures.0 ∙ length-of-name _ c.in-Name.is, c.text_len.ensures.1)

pub returns : goal.returns
returns c = (c.number_len.ensures.0 ∙ length-of-number _ _ (opened c.in_default.in_default-own.keys2), c.number_len.ensures.1)
