use Rattle.static_str.proofs.AnswerLaws.{text-short, text-whole}
use Rattle.kinds.specs.Primitive.{code}
use Rattle.static_str.proofs.print_code.Goals as goal

pub returns-then-out-len : goal.returns-then-out-len
returns-then-out-len c = let p = text-short (code c.args.kind) c.args.out.now c.code_len-len.ensures.0 c.if-out-len.true in record { answers = p.0; writes = p.1 }

pub returns : goal.returns
returns c = let p = text-whole (code c.args.kind) c.args.out.now c.code_len-len.ensures.0 c.if-out-len.false c.put_code.ensures in record { answers = p.0; writes = p.1 }
