use Rattle.lines.proofs.PutLaws.{put_same, put-append}
use Rattle.reason.proofs.ValueLaws.{few-digits-value, many-digits-value, value-one, value-two}
use native.Mathlib.Omega.{arith}
use Rattle.static_str.proofs.NumberLaws.{decimal-fits}
use Rattle.reason.proofs.words.put_number_value.Goals as goal

pub returns-then-n-lt10 : goal.returns-then-n-lt10
returns-then-n-lt10 c =
    put_same (value-one c.args.n c.if-n-lt10.true) c.put_bytes.ensures

pub returns-then-n-lt100 : goal.returns-then-n-lt100
returns-then-n-lt100 c =
    put_same (value-two c.args.n c.if-n-lt10.false c.if-n-lt100.true) c.put_bytes-then-n-lt100.ensures

pub returns-then-digits-lt10 : goal.returns-then-digits-lt10
returns-then-digits-lt10 c =
    put_same (few-digits-value _ _ c.static_int_str_len-digits.ensures c.if-digits-lt10.true) (put-append _ _ c.put_bytes-from.ensures c.put_number.ensures)

pub returns : goal.returns
returns c =
    let d = c.static_int_str_len-digits.ensures in
    let f = decimal-fits c.args.n (omega arith) in
    put_same (many-digits-value _ _ d c.if-digits-lt10.false (omega arith)) (put-append _ _ c.put_bytes-from-2.ensures c.put_number-2.ensures)
