-- `lines::put::eight_digits` meets its contract. Assumes nothing.
use borrow.Author.Rules.{rules}
use Rattle.lines.proofs.DigitLaws.{tens-are, twos_small, digits-fit}
use Rattle.lines.proofs.put.eight_digits.Goals as goal

pub overflow_mul-q : goal.overflow_mul-q
overflow_mul-q c = let s = twos_small _ _ c.requires c.in_twos-twos.ensures in search rules

pub overflow_add-result-2 : goal.overflow_add-result-2
overflow_add-result-2 c = record { fits = (digits-fit _ _ _ _ _ (twos_small _ _ c.requires c.in_twos-twos.ensures)).0 }

pub overflow_add-result-3 : goal.overflow_add-result-3
overflow_add-result-3 c = record { fits = (digits-fit _ _ _ _ _ (twos_small _ _ c.requires c.in_twos-twos.ensures)).1 }

pub returns : goal.returns
returns c = tens-are _ _ c.requires c.in_twos-twos.ensures
