use Prim.Native.Nat.{max}
use Rattle.std.proofs.Common.{rules}
use mathlib.Core.Path.{◌≡◌, refl}
use Rattle.fields.specs.Answer.{largest}
use Rattle.fields.proofs.FieldLaws.{largest-next}
use Rattle.fields.proofs.largest.Goals as goal

pub loop-j-init : goal.loop-j-init
unfolding largest
loop-j-init c = refl

pub loop-j-preserved : goal.loop-j-preserved
loop-j-preserved c =
    let a = c.args in
    let m : c.max-bytes.result ≡ max c.loop-j.bytes c.field_bytes.result = search rules in
    largest-next a.nodes.now a.extents.now a.p c.loop-j.j c.loop-j.invariant c.field_bytes.ensures m
