use mathlib.Core.Path.{◌≡◌, refl, sym, subst, ◌∙◌}
use lib.ListN.{length}
use Rattle.parse.specs.Agree.{CodesRead}
use native.Mathlib.Omega.{arith}
use Rattle.codes.proofs.CodeLaws.{single-code}
use Rattle.parse.proofs.Runs.{codes-none, codes-more}
use Rattle.parse.proofs.Sheets.{slack-some}
use Rattle.parse.proofs.put_codes.Goals as goal

pub loop-i-init : goal.loop-i-init
loop-i-init c = (codes-none _ _ _ _ c.requires.0, refl)

pub bounds-text-i : goal.bounds-text-i
bounds-text-i c = omega arith

pub shape_of-words-in_default : goal.shape_of-words-in_default
shape_of-words-in_default c = c.loop-i.invariant.1

pub returns-in_default : goal.returns-in_default
returns-in_default c = c.loop-i.invariant.0

pub overflow_sub-i : goal.overflow_sub-i
overflow_sub-i c = omega (arith, c.loop-i.invariant.0.onward)

pub overflow_add-n : goal.overflow_add-n
overflow_add-n c = omega (arith, c.requires.1, c.loop-i.invariant.0.room)

pub put_node-requires : goal.put_node-requires
put_node-requires c =
    omega (arith, c.requires.1, c.loop-i.invariant.0.room, c.loop-i.invariant.1, slack-some c.args.text.now c.loop-i.i c.loop-i-test.true)

pub loop-i-preserved : goal.loop-i-preserved
loop-i-preserved c =
    let l = c.loop-i in
    let a = c.args in
    let w = c.put_node in
    let code = single-code _ _ (sym c.in-Some.is ∙ c.single_kind.ensures) in
    let more = codes-more a.text.now a.at a.n a.words.now l.words l.i _ l.invariant.0 c.loop-i-test.true code in
    (rw w.ensures more, w.auto.words ∙ l.invariant.1)

pub shape_of-words : goal.shape_of-words
shape_of-words c = c.loop-i.invariant.1

pub returns : goal.returns
returns c =
    let l = c.loop-i in
    let ended : l.i ≡ length c.args.text.now = omega (arith, l.invariant.0.within) in
    subst (CodesRead c.args.text.now c.args.at c.args.n c.args.words.now l.words) ended l.invariant.0
