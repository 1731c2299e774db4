use Prim.Native.Nat.{ℕ, ◌+◌}
use mathlib.Core.Path.{sym, subst}
use Rattle.kinds.specs.Walk.{TreesAt}
use Rattle.kinds.proofs.NodeLaws.{node-inner}
use Rattle.reason.specs.Spot.{items_at}
use Rattle.reason.proofs.CountLaws.{counts-hidden, counts-none, shown-all, counts-equal, counts-unequal}
use Rattle.reason.proofs.find.compare_counts.Goals as goal

pub returns-then-n-eq0 : goal.returns-then-n-eq0
returns-then-n-eq0 c =
    λ s t. counts-hidden s c.args.a.now c.args.at t c.args.b.now c.args.bt c.args.level c.requires.2
    c.shown_count-n.ensures c.if-n-eq0.true

pub returns-then-m-eq0 : goal.returns-then-m-eq0
returns-then-m-eq0 c =
    λ s t. counts-none s c.args.a.now c.args.at t c.args.b.now c.args.bt c.args.level c.requires.2 c.if-m-eq0.true

pub count_items-k-requires : goal.count_items-k-requires
count_items-k-requires c =
    let e = shown-all c.args.a.now c.args.a.now c.args.at c.args.b.now c.args.b.now c.args.bt c.args.level c.requires.2
    c.shown_count-n.ensures c.if-n-eq0.false c.if-m-eq0.false in
    subst (λ (n : ℕ). TreesAt c.args.a.now (c.args.at + 4) n) (sym e) (node-inner c.args.a.now c.args.at c.requires.0)

pub count_items-j-requires : goal.count_items-j-requires
count_items-j-requires c =
    node-inner c.args.b.now c.args.bt c.requires.1

pub returns-then-k-j : goal.returns-then-k-j
unfolding items_at
returns-then-k-j c =
    λ s t. counts-equal s c.args.a.now c.args.at t c.args.b.now c.args.bt c.args.level c.requires.2 c.shown_count-n.ensures
    c.if-n-eq0.false c.if-m-eq0.false c.count_items-k.ensures c.count_items-j.ensures c.if-k-j.true

pub returns : goal.returns
unfolding items_at
returns c =
    λ s t. counts-unequal s c.args.a.now c.args.at t c.args.b.now c.args.bt c.args.level c.requires.2
    c.shown_count-n.ensures c.if-n-eq0.false c.if-m-eq0.false c.count_items-k.ensures c.count_items-j.ensures c.if-k-j.false
