-- `lines::put::put_up_to_eight` meets its contract. Assumes nothing.
use Prim.Native.Nat.{ℕ, ◌/◌}
use mathlib.Core.Path.{ap, ◌∙◌}
use native.Mathlib.Omega.{arith}
use Rattle.static_str.proofs.NumberLaws.{decimal-more-four}
use Rattle.lines.specs.Digits.{four_bytes}
use Rattle.lines.proofs.PutLaws.{put_next, put-append, put_same}
use Rattle.lines.proofs.DigitLaws.{low-digits, high-digits, half-digits}
use Rattle.lines.proofs.put.put_up_to_eight.Goals as goal

pub put_up_to_four-requires : goal.put_up_to_four-requires
put_up_to_four-requires c =
    (c.if-n-lt10000.true, ap four_bytes c.eight_digits-w.ensures ∙ low-digits _, c.requires.1)

pub put_up_to_four-next-requires : goal.put_up_to_four-next-requires
put_up_to_four-next-requires c = (
  omega arith,
  ap (λ (x : ℕ). four_bytes (x / 4294967296)) c.eight_digits-w.ensures ∙ high-digits _,
  omega (arith, decimal-more-four _ c.if-n-lt10000.false),
)

pub put_four-requires : goal.put_four-requires
put_four-requires c =
    let l = decimal-more-four _ c.if-n-lt10000.false in
    let p = put_next c.put_up_to_four-next.ensures (omega arith) in
    omega (arith, c.put_up_to_four-next.auto.out)

pub returns : goal.returns
returns c =
    put_same (half-digits _ _ c.if-n-lt10000.false c.eight_digits-w.ensures) (put-append _ _ c.put_up_to_four-next.ensures c.put_four.ensures)
