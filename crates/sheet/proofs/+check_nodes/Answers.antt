use native.Mathlib.Omega.{arith}
use mathlib.Core.Path.{◌≡◌, refl, sym, ◌∙◌}
use borrow.Author.Rules.{rules}
use Rattle.kinds.proofs.ListLaws.{whole}
use Rattle.kinds.specs.Sheet.{count_at}
use Rattle.sheet.proofs.WalkLaws.{container-says, walked-bad, walked-plain, walked-last, walked-broken, walked_next, walked_none, walked-le}
use Rattle.sheet.proofs.+check_nodes.Goals as goal

pub loop-left-init : goal.loop-left-init
loop-left-init t c = (refl, omega arith, omega arith, refl)

pub plain_ok-requires : goal.plain_ok-requires
plain_ok-requires t c = (sym c.is_container.ensures ∙ c.if-not-is_container.true, omega arith, omega arith)

pub returns-then-not-plain_ok : goal.returns-then-not-plain_ok
returns-then-not-plain_ok t c = sym (c.loop-left.invariant.3
    ∙ walked-bad _ _ _ _ _ _ _ c.loop-left-test.true
    (sym (c.plain_ok.ensures _ _) ∙ c.if-not-plain_ok.true))

pub loop-left-preserved-then-not-is_container : goal.loop-left-preserved-then-not-is_container
loop-left-preserved-then-not-is_container t c = (
  omega arith,
  omega arith,
  omega arith,
  c.loop-left.invariant.3
      ∙ walked-plain _ _ _ _ _ _ _ c.loop-left-test.true (sym (c.plain_ok.ensures _ _) ∙ c.if-not-plain_ok.false)
      (sym c.is_container.ensures ∙ c.if-not-is_container.true),
)

pub container_ok-requires : goal.container_ok-requires
container_ok-requires t c = (sym c.is_container.ensures ∙ c.if-not-is_container.false, omega arith, omega arith, omega arith)

pub returns-then-not-container_ok : goal.returns-then-not-container_ok
returns-then-not-container_ok t c = sym (c.loop-left.invariant.3
    ∙ walked-bad _ _ _ _ _ _ _ c.loop-left-test.true
    (sym c.container_ok.ensures ∙ c.if-not-container_ok.true))

pub name_good-good-requires : goal.name_good-good-requires
name_good-good-requires t c = let k = container-says c.args.nodes.now c.loop-left.left c.loop-left.at c.loop-left.name c.args.end (sym c.is_container.ensures ∙ c.if-not-is_container.false) (sym c.container_ok.ensures ∙ c.if-not-container_ok.false) in omega arith

pub overflow_add-name : goal.overflow_add-name
overflow_add-name t c = let k = container-says c.args.nodes.now c.loop-left.left c.loop-left.at c.loop-left.name c.args.end (sym c.is_container.ensures ∙ c.if-not-is_container.false) (sym c.container_ok.ensures ∙ c.if-not-container_ok.false) in record { fits = omega arith }

pub loop-left-preserved-then-count-left : goal.loop-left-preserved-then-count-left
loop-left-preserved-then-count-left t c = let k = container-says c.args.nodes.now c.loop-left.left c.loop-left.at c.loop-left.name c.args.end (sym c.is_container.ensures ∙ c.if-not-is_container.false) (sym c.container_ok.ensures ∙ c.if-not-container_ok.false) in let d : count_at c.args.nodes.now c.loop-left.at
    ≡ c.loop-left.left = omega arith in (
      omega arith,
      omega arith,
      omega arith,
      c.loop-left.invariant.3 ∙ walked-last _ _ _ _ _ _ _ c.loop-left-test.true
          (sym c.container_ok.ensures ∙ c.if-not-container_ok.false) (sym c.is_container.ensures ∙ c.if-not-is_container.false) d _ c.name_good-good.ensures,
    )

pub overflow_sub-count : goal.overflow_sub-count
overflow_sub-count t c = let k = container-says c.args.nodes.now c.loop-left.left c.loop-left.at c.loop-left.name c.args.end (sym c.is_container.ensures ∙ c.if-not-is_container.false) (sym c.container_ok.ensures ∙ c.if-not-container_ok.false) in omega arith

pub check_nodes-requires : goal.check_nodes-requires
check_nodes-requires t c = let k = container-says c.args.nodes.now c.loop-left.left c.loop-left.at c.loop-left.name c.args.end (sym c.is_container.ensures ∙ c.if-not-is_container.false) (sym c.container_ok.ensures ∙ c.if-not-container_ok.false)
    in (omega arith, (rw whole (omega arith), omega arith, rw whole (omega arith)))

pub returns-in_err-next : goal.returns-in_err-next
returns-in_err-next t c = let k = c.from_residual.ensures in let e = sym (c.loop-left.invariant.3 ∙ walked-broken _ _ _ _ _ _ _ c.loop-left-test.true (sym c.container_ok.ensures ∙ c.if-not-container_ok.false) (sym c.is_container.ensures ∙ c.if-not-is_container.false) _
    c.name_good-good.ensures _ (rw (whole, whole) at c.check_nodes.ensures)
    c.in_err-next.was) in search rules

pub overflow_mul-at : goal.overflow_mul-at
overflow_mul-at t c = let k = container-says c.args.nodes.now c.loop-left.left c.loop-left.at c.loop-left.name c.args.end (sym c.is_container.ensures ∙ c.if-not-is_container.false) (sym c.container_ok.ensures ∙ c.if-not-container_ok.false) in search rules

pub overflow_add-at-in-loop-left-2 : goal.overflow_add-at-in-loop-left-2
overflow_add-at-in-loop-left-2 t c = let k = container-says c.args.nodes.now c.loop-left.left c.loop-left.at c.loop-left.name c.args.end (sym c.is_container.ensures ∙ c.if-not-is_container.false) (sym c.container_ok.ensures ∙ c.if-not-container_ok.false) in search rules

pub overflow_sub-left-in-loop-left : goal.overflow_sub-left-in-loop-left
overflow_sub-left-in-loop-left t c = let k = container-says c.args.nodes.now c.loop-left.left c.loop-left.at c.loop-left.name c.args.end (sym c.is_container.ensures ∙ c.if-not-is_container.false) (sym c.container_ok.ensures ∙ c.if-not-container_ok.false) in omega arith

pub loop-left-smaller : goal.loop-left-smaller
loop-left-smaller t c = let k = container-says c.args.nodes.now c.loop-left.left c.loop-left.at c.loop-left.name c.args.end (sym c.is_container.ensures ∙ c.if-not-is_container.false) (sym c.container_ok.ensures ∙ c.if-not-container_ok.false) in omega arith

pub loop-left-preserved : goal.loop-left-preserved
loop-left-preserved t c = let k = container-says c.args.nodes.now c.loop-left.left c.loop-left.at c.loop-left.name c.args.end (sym c.is_container.ensures ∙ c.if-not-is_container.false) (sym c.container_ok.ensures ∙ c.if-not-container_ok.false) in (
  omega arith,
  omega arith,
  walked-le _ _ _ _ _ _ _ _ _ k.name-fits (sym c.in_ok-next.was ∙ c.check_nodes.ensures),
  c.loop-left.invariant.3
      ∙ walked_next _ _ _ _ _ _ _ c.loop-left-test.true (sym c.container_ok.ensures ∙ c.if-not-container_ok.false) (sym c.is_container.ensures ∙ c.if-not-is_container.false) _
      c.name_good-good.ensures _
      (rw (whole, whole) at c.check_nodes.ensures) _ _ c.in_ok-next.was,
)

pub returns : goal.returns
returns t c = sym (c.loop-left.invariant.3 ∙ walked_none _ _ _ _ _ _ _ c.loop-left-test.false)
