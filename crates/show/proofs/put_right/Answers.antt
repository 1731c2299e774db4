-- `tool::show::put_right` meets its contract. Assumes nothing.
use Rattle.lines.proofs.PutLaws.{put_same, put-append}
use Rattle.show.proofs.ShowLaws.{right-short, right-wide}
use Rattle.show.proofs.put_right.Goals as goal

pub returns-then-digits-width : goal.returns-then-digits-width
returns-then-digits-width c =
    put_same (right-short c.args.n c.args.widest c.static_int_str_len-digits.result c.static_int_str_len-width.result
    c.static_int_str_len-digits.ensures c.static_int_str_len-width.ensures) (put-append _ _ c.put_times-to.ensures c.put_number.ensures)

pub returns : goal.returns
returns c =
    put_same (right-wide c.args.n c.args.widest c.static_int_str_len-digits.result c.static_int_str_len-width.result c.static_int_str_len-digits.ensures
    c.static_int_str_len-width.ensures c.if-digits-width.false) c.put_number-2.ensures
