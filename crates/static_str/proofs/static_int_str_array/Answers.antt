-- `static_str::static_int_str_array` meets its contract. Assumes nothing.
use Rattle.kinds.specs.Print.{decimal}
use Rattle.static_str.proofs.AnswerLaws.{text-short, text-whole}
use Rattle.static_str.proofs.static_int_str_array.Goals as goal

pub returns-then-out-digits : goal.returns-then-out-digits
returns-then-out-digits c = let p = text-short (decimal c.args.n) c.args.out.now c.static_int_str_len-digits.ensures c.if-out-digits.true in record { answers = p.0; writes = p.1 }

pub returns : goal.returns
returns c = let a = c.args in let p = text-whole (decimal a.n) a.out.now c.static_int_str_len-digits.ensures c.if-out-digits.false c.put_number.ensures in record { answers = p.0; writes = p.1 }
