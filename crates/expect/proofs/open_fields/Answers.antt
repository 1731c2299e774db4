use borrow.Author.Rules.{rules}
use mathlib.Core.Path.{◌≡◌}
use Rattle.std.specs.Prelude.{None}
use Prim.Native.Nat.{ℕ}
use mathlib.Core.Path.{refl, ◌∙◌}
use mathlib.Core.List.{List}
use lib.ListN.{drop}
use borrow.Author.Tests.{eq-eqb, ne_eqb}
use Rattle.skip.proofs.RestLaws.{skipped-is}
use Rattle.expect.proofs.TextLaws.{then-mismatch}
use Rattle.expect.proofs.WalkLaws.{by_byte, fields-skipped, fields-closed, fields-inner}
use Rattle.expect.proofs.open_fields.Goals as goal

pub returns-in_err-next : goal.returns-in_err-next
returns-in_err-next c =
    let q : c.from_residual.result ≡ None = search rules in
    rw q (λ i. then-mismatch _ _ (rw c.in_err-next.was at c.expect_byte.ensures))

pub returns-in_err-to : goal.returns-in_err-to
returns-in_err-to c =
    let q : c.from_residual-in_err-to.result ≡ None = search rules in
    rw q (let a = c.args in
    let T : List ℕ = a.text.now in
    let to : ℕ = c.in_ok-next.next in
    let n = rw c.in_ok-next.was at c.expect_byte.ensures in
    let m = rw c.in_err-to.was at (skipped-is T to _ _ n.1 c.skip_fields.ensures) in
    λ i. fields-skipped a.kind _ i (drop a.at T) (eq-eqb a.count 0 c.if-count-eq0.true) (drop to T) n.0 ∙ m)

pub returns-then-count-eq0 : goal.returns-then-count-eq0
returns-then-count-eq0 c =
    let a = c.args in
    let T : List ℕ = a.text.now in
    let to : ℕ = c.in_ok-next.next in
    let n = rw c.in_ok-next.was at c.expect_byte.ensures in
    let m = rw c.in_ok-to.was at (skipped-is T to _ _ n.1 c.skip_fields.ensures) in
    (λ i. fields-skipped a.kind _ i (drop a.at T) (eq-eqb a.count 0 c.if-count-eq0.true) (drop to T) n.0 ∙ m.0, m.1)

pub returns-in-Some : goal.returns-in-Some
returns-in-Some c =
    let a = c.args in
    let T : List ℕ = a.text.now in
    let n = rw c.in_ok-next.was at c.expect_byte.ensures in
    let m = rw c.in-Some.is at c.expect_byte-2.ensures in
    let some = ne_eqb a.count 0 c.if-count-eq0.false in
    (λ i. fields-closed a.kind _ i (drop a.at T) some (drop c.in_ok-next.next T) n.0 _ (by_byte _ _ _ _ c.end_byte.ensures m.0), m.1)

pub returns-in-None : goal.returns-in-None
returns-in-None c =
    let a = c.args in
    let T : List ℕ = a.text.now in
    let n = rw c.in_ok-next.was at c.expect_byte.ensures in
    let m = rw c.in-None.is at c.expect_byte-2.ensures in
    let some = ne_eqb a.count 0 c.if-count-eq0.false in
    (λ i. fields-inner a.kind _ i (drop a.at T) some (drop c.in_ok-next.next T) n.0 (by_byte _ _ _ _ c.end_byte.ensures m), n.1, refl)
