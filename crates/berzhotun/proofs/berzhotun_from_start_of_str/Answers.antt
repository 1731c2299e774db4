use Rattle.berzhotun.proofs.ReadingLaws.{number_is, whole-left, part_left, end-shorter}
use Rattle.berzhotun.proofs.berzhotun_from_start_of_str.Goals as goal

pub returns-then-rest-text : goal.returns-then-rest-text
returns-then-rest-text c = let a = c.from_start_of_str-rest.ensures in record {
  returns = number_is _ _ _ _ _ a.answers a.rest;
  answers = whole-left _ _ _ _ _ a.answers a.rest c.if-rest-text.true;
  fills = a.fills;
  names = a.names;
}

pub returns : goal.returns
returns c = let a = c.from_start_of_str-rest.ensures in
    let p = part_left _ _ _ _ _ a.answers a.rest c.if-rest-text.false in record { returns = p.0; answers = p.1; fills = a.fills; names = a.names }

pub overflow_sub-values : goal.overflow_sub-values
overflow_sub-values c = end-shorter _ _ c.from_start_of_str-rest.ensures.part
