use borrow.Author.Rules.{rules}
use mathlib.Core.Path.{◌≡◌}
use Rattle.std.specs.Prelude.{None}
use lib.Dec.{eqb}
use mathlib.Core.Path.{sym, ◌∙◌}
use lib.ListN.{drop}
use Rattle.expect.proofs.WalkLaws.{by_byte, same-opened, shown-within, container-off, container-misnamed, container-shown, container-hidden}
use Rattle.expect.proofs.open_named.Goals as goal

pub returns-in_err-start : goal.returns-in_err-start
returns-in_err-start c =
    let q : c.from_residual.result ≡ None = search rules in
    rw q (λ i. container-off c.args.kind c.args.name.now c.args.level (eqb c.args.count 0) i (drop c.args.at c.args.text.now)
    (by_byte _ _ (drop c.args.at c.args.text.now) _ c.start_byte.ensures (rw c.in_err-start.was at c.expect_byte.ensures)))

pub expect_bytes-requires : goal.expect_bytes-requires
expect_bytes-requires c =
    let n = (rw c.in_ok-start.was at c.expect_byte.ensures) in n.1

pub returns-in_err-next : goal.returns-in_err-next
returns-in_err-next c =
    let q : c.from_residual-in_err-next.result ≡ None = search rules in
    rw q (let n = (rw c.in_ok-start.was at c.expect_byte.ensures) in λ i. container-misnamed c.args.kind c.args.name.now c.args.level
    (eqb c.args.count 0) i (drop c.args.at c.args.text.now) (drop c.in_ok-start.start c.args.text.now)
    (by_byte _ _ (drop c.args.at c.args.text.now) _ c.start_byte.ensures n.0) (rw c.in_err-next.was at c.expect_bytes.ensures))

pub returns-in-Some : goal.returns-in-Some
returns-in-Some c =
    let n = (rw c.in_ok-start.was at c.expect_byte.ensures) in let m = (rw c.in_ok-next.was at c.expect_bytes.ensures)
    in let d = (sym c.container_include_fields.ensures ∙ c.in-Some.is)
    in same-opened _ _ _ c.open_fields.result _ _
    (λ i. container-shown c.args.kind c.args.name.now c.args.level (eqb c.args.count 0) i
    (drop c.args.at c.args.text.now) (drop c.in_ok-start.start c.args.text.now)
    (by_byte _ _ (drop c.args.at c.args.text.now) _ c.start_byte.ensures n.0)
    (drop c.in_ok-next.next c.args.text.now) m.0 _ d) (rw (shown-within c.args.level _ d) at c.open_fields.ensures)

pub returns-in_ok-to-in-None : goal.returns-in_ok-to-in-None
returns-in_ok-to-in-None c =
    let n = (rw c.in_ok-start.was at c.expect_byte.ensures) in let m = (rw c.in_ok-next.was at c.expect_bytes.ensures)
    in let b = rw c.in_ok-to-in-None.was at c.expect_byte-in-None.ensures
    in (
      λ i. container-hidden c.args.kind c.args.name.now c.args.level (eqb c.args.count 0) i
          (drop c.args.at c.args.text.now) (drop c.in_ok-start.start c.args.text.now)
          (by_byte _ _ (drop c.args.at c.args.text.now) _ c.start_byte.ensures n.0)
          (drop c.in_ok-next.next c.args.text.now) m.0 (sym c.container_include_fields.ensures ∙ c.in-None.is)
          ∙ by_byte _ _ _ _ c.end_byte.ensures b.0,
      b.1,
    )

pub returns-in_err-to-in-None : goal.returns-in_err-to-in-None
returns-in_err-to-in-None c =
    let q : c.from_residual-in_err-to-in-None.result ≡ None = search rules in
    rw q (let n = (rw c.in_ok-start.was at c.expect_byte.ensures) in let m = (rw c.in_ok-next.was at c.expect_bytes.ensures)
    in let b = rw c.in_err-to-in-None.was at c.expect_byte-in-None.ensures in λ i. container-hidden c.args.kind c.args.name.now c.args.level
    (eqb c.args.count 0) i (drop c.args.at c.args.text.now) (drop c.in_ok-start.start c.args.text.now)
    (by_byte _ _ (drop c.args.at c.args.text.now) _ c.start_byte.ensures n.0) (drop c.in_ok-next.next c.args.text.now)
    m.0 (sym c.container_include_fields.ensures ∙ c.in-None.is) ∙ by_byte _ _ _ _ c.end_byte.ensures b)
