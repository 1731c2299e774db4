use native.Mathlib.Omega.{arith}
use Rattle.kinds.proofs.ListLaws.{whole}
use Rattle.static_str.proofs.AnswerLaws.{text-short, text-whole, tree-len}
use Rattle.kinds.specs.Print.{print}
use Rattle.kinds.specs.Sheet.{trees}
use Rattle.kinds.specs.declared.NestingLevel.TheVariants.{Top}
use Rattle.static_str.proofs.print_tree.Goals as goal

pub trees_len-len-requires : goal.trees_len-len-requires
trees_len-len-requires c = rw whole (record { trees_at = c.requires.trees_at; kinds_and_names = c.requires.kinds_and_names.0 })

pub returns-then-out-len : goal.returns-then-out-len
returns-then-out-len c = let p = text-short (print Top (trees c.args.names.now c.args.nodes.now c.args.n 0)) c.args.out.now
    (tree-len c.args.names.now c.args.nodes.now c.args.n c.requires.kinds_and_names.1 c.new.ensures
    (rw whole at c.trees_len-len.ensures.0)) c.if-out-len.true in record { answers = p.0; writes = p.1 }

pub print_trees-requires : goal.print_trees-requires
print_trees-requires c = let e = tree-len c.args.names.now c.args.nodes.now c.args.n c.requires.kinds_and_names.1 c.new.ensures
    (rw whole at c.trees_len-len.ensures.0) in
    rw (whole, whole, c.new-2.ensures) (record { trees_at = (c.requires.trees_at.0, c.requires.kinds_and_names.1); room = omega (arith, e, c.if-out-len.false) })

pub returns : goal.returns
returns c = let e = tree-len c.args.names.now c.args.nodes.now c.args.n c.requires.kinds_and_names.1 c.new.ensures
    (rw whole at c.trees_len-len.ensures.0) in let p = text-whole (print Top (trees c.args.names.now c.args.nodes.now c.args.n 0)) c.args.out.now e c.if-out-len.false
    (rw (whole, whole, c.new-2.ensures) at c.print_trees.ensures) in record { answers = p.0; writes = p.1 }
