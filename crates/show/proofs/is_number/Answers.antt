-- `tool::show::is_number` meets its contract. Assumes nothing.
use Rattle.show.proofs.ShowLaws.{number-none, number-long, number_read, number-bad}
use Rattle.show.proofs.is_number.Goals as goal

pub returns-then-s-eq0 : goal.returns-then-s-eq0
returns-then-s-eq0 c = number-none _ c.if-s-eq0.true

pub returns-then-s-gt20 : goal.returns-then-s-gt20
returns-then-s-gt20 c = number-long _ c.if-s-gt20.true

pub returns-in-Some : goal.returns-in-Some
returns-in-Some c =
    number_read c.args.s.now c.if-s-eq0.false c.if-s-gt20.false _ _ c.in-Some.is c.decode_words.ensures.answers

pub returns-in-None : goal.returns-in-None
returns-in-None c =
    number-bad c.args.s.now c.if-s-eq0.false c.if-s-gt20.false _ c.in-None.is c.decode_words.ensures.answers
