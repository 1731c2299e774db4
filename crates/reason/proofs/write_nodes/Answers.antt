use mathlib.Core.Path.{refl, sym, ◌∙◌}
use borrow.Author.Tests.{leb-true, leb-false}
use Rattle.reason.proofs.ReasonLaws.{yes-fitted, yes-placed, short-fitted, short-placed, bytes-placed, put-fitted}
use Rattle.reason.proofs.ReasonLaws.{found-same, found_at, numbers-short, counted}
use Rattle.reason.proofs.write_nodes.Goals as goal

pub reason_fits-requires : goal.reason_fits-requires
reason_fits-requires c =
    let d = found_at c.args.all _ c.new.ensures _ _ _ _ _ _ c.requires.0 c.requires.1 c.first_difference.ensures c.in-Some.is in
    let n = numbers-short d in
    (d.places.0, n.0, n.1)

pub returns-then-not-reason_fits : goal.returns-then-not-reason_fits
returns-then-not-reason_fits c = let d = found_at c.args.all _ c.new.ensures _ _ _ _ _ _ c.requires.0 c.requires.1 c.first_difference.ensures c.in-Some.is in
    let w = leb-false _ _ (sym c.reason_fits.ensures ∙ c.if-not-reason_fits.true) in record { answers = short-fitted _ d.reason (counted d refl) c.args.out.now w; writes = short-placed _ d.reason (counted d refl) c.args.out.now w }

pub put_reason-requires : goal.put_reason-requires
put_reason-requires c = let d = found_at c.args.all _ c.new.ensures _ _ _ _ _ _ c.requires.0 c.requires.1 c.first_difference.ensures c.in-Some.is in record { inside = d.places; name_within = d.lent; k_value = d.numbers }

pub returns-in-None : goal.returns-in-None
returns-in-None c = let e = found-same c.args.all _ c.new.ensures _ _ _ _ _ _ c.requires.0 c.requires.1 c.first_difference.ensures c.in-None.is in record { answers = yes-fitted e _; writes = yes-placed e _ }

pub returns-else-not-reason_fits : goal.returns-else-not-reason_fits
returns-else-not-reason_fits c = let d = found_at c.args.all _ c.new.ensures _ _ _ _ _ _ c.requires.0 c.requires.1 c.first_difference.ensures c.in-Some.is in
    let w = leb-true _ _ (sym c.reason_fits.ensures ∙ c.if-not-reason_fits.false) in
    let p = c.put_reason.ensures in record { answers = put-fitted _ d.reason (counted d refl) c.args.out.now w p; writes = bytes-placed _ d.reason (counted d refl) c.args.out.now w p }
