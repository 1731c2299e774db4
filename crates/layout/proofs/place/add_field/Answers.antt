use Rattle.layout.proofs.ExtentLaws.{field-added}
use Rattle.layout.specs.Placing.{stored_of}
use lib.ListN.{set}
use mathlib.Core.Path.{refl, ap, ◌∙◌}
use Rattle.std.proofs.Math.Bool.{and_assoc}
use Rattle.layout.proofs.place.add_field.Goals as goal

pub returns : goal.returns
returns c = let a = c.args in record {
  takes = field-added a.kind a.run a.x c.begin_of-begin.ensures c.end_of-next.ensures c.max-alignment.ensures c.is_bytes.ensures
      refl
      (and_assoc a.run.fits a.x.fits _);
  list = ap (set a.offsets.now a.i) (c.stored.ensures ∙ ap stored_of c.begin_of-begin.ensures);
}
