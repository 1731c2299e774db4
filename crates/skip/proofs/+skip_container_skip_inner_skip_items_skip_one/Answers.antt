use borrow.Author.Rules.{rules}
use borrow.Enum.Refused.{opened}
use mathlib.Core.List.{[], ◌∷◌}
use mathlib.Core.Path.{◌≡◌, refl, sym, ◌∙◌}
use Rattle.std.specs.Prelude.{Err}
use native.Mathlib.Omega.{arith}
use denote.Enum.Declared.{tag_of}
use types.Run.{OneOf, miss}
use Rattle.kinds.proofs.ListLaws.{whole}
use Rattle.kinds.specs.Parse.{start, in_singles, singles, in_others, others}
use Rattle.parser.proofs.RunLaws.{run-to}
use Rattle.numbers.proofs.NumberLaws.{number_is}
use Rattle.names.proofs.NameLaws.{name-is}
use Rattle.codes.specs.Answer.{is_code, is_indirection}
use Rattle.codes.proofs.CodeLaws.{starts, without-parts, not-indirection}
use Rattle.codes.proofs.StepLaws.{closes_in}
use Rattle.codes.proofs.TokenLaws.{token-is}
use Rattle.skip.specs.declared.Skipped.{Skipped}
use Rattle.skip.specs.declared.Skipped.TheVariants.{Empty, Encoding, ContainerEnd, ArrayEnd}
use Rattle.skip.specs.contracts.Skipped.{the_type}
use Rattle.skip.proofs.SkipLaws.{skips-end, skips-run, skips-no-number, skips-no-run, skips-item, skips-no-item, skips-no-name, skips-contained, skips-no-fields}
use Rattle.skip.proofs.SkipLaws.{skips-token, NotPassed, skipped-end, skipped-none, skipped-more, skipped-closed, skipped-codes}
use Prim.Native.Nat.{ℕ, ◌+◌, ◌-◌}
use Rattle.skip.proofs.+skip_container_skip_inner_skip_items_skip_one.Goals as goal

-- An outcome whose tag is not that of `Encoding`.
not-passed : (p : Skipped) → OneOf (0 ∷ 2 ∷ 3 ∷ []) (tag_of the_type p) → NotPassed p
not-passed Empty h = tt
not-passed (Encoding to) h = miss (0 ∷ 2 ∷ 3 ∷ []) 1 tt h
not-passed (ContainerEnd k to) h = tt
not-passed (ArrayEnd to) h = tt

pub skip_container-overflow_add-at : goal.skip_container-overflow_add-at
skip_container-overflow_add-at t c = omega (arith, c.requires.at_place)

pub skip_container-skip_items-requires : goal.skip_container-skip_items-requires
skip_container-skip_items-requires t c =
    let at = c.requires.at_place in
    let r = rw c.in_ok-start.was at (name-is c.args.text.now (c.args.at + 1) _ _ (omega arith) c.parse_name.ensures) in
    rw (whole c.args.text.now) (omega (arith, c.decreases, r.some, r.passed, r.within), r.within)

pub skip_container-returns-in_err-start : goal.skip_container-returns-in_err-start
skip_container-returns-in_err-start t c =
    let p = c.requires in
    let a = c.args in
    let at = p.at_place in
    let r = rw c.in_err-start.was at (name-is a.text.now (a.at + 1) _ _ (omega arith) c.parse_name.ensures) in
    let q : c.from_residual.result ≡ Err c.in_err-start.field-0.0 = search rules in
    rw q (skips-no-name a.text.now a.at at a.kind p.opens _ _ r.1 r.0)

pub skip_container-returns-in_err-to : goal.skip_container-returns-in_err-to
skip_container-returns-in_err-to t c =
    let p = c.requires in
    let a = c.args in
    let at = p.at_place in
    let r = rw c.in_ok-start.was at (name-is a.text.now (a.at + 1) _ _ (omega arith) c.parse_name.ensures) in
    let q : c.from_residual-in_err-to.result ≡ Err c.in_err-to.field-0.0 = search rules in
    rw q (skips-no-fields _ _ at _ p.opens _ _ r _ (rw (whole a.text.now, c.in_err-to.was) at c.skip_items.ensures))

pub skip_container-returns : goal.skip_container-returns
skip_container-returns t c =
    let p = c.requires in
    let a = c.args in
    let at = p.at_place in
    let r = rw c.in_ok-start.was at (name-is a.text.now (a.at + 1) _ _ (omega arith) c.parse_name.ensures) in
    skips-contained _ _ at _ p.opens _ _ r _ (rw (whole a.text.now, c.in_ok-to.was) at c.skip_items.ensures)

pub skip_inner-returns-then-text-to : goal.skip_inner-returns-then-text-to
skip_inner-returns-then-text-to t c =
    let r = run-to is_indirection _ _ _ c.requires c.indirections_end-to.ensures in
    skips-run _ _ _ (skips-end _ _ (omega (arith, r.within, c.if-text-to.true))) _ _ r c.skip_held.ensures

pub skip_inner-skip_one-requires : goal.skip_inner-skip_one-requires
skip_inner-skip_one-requires t c =
    let r = run-to is_indirection _ _ _ c.requires c.indirections_end-to.ensures in
    let h = c.if-text-to.false in
    rw (whole c.args.text.now) (omega (arith, c.decreases, r.onward), record { at_place = h; direct = r.stopped h })

pub skip_inner-returns-in_err-one : goal.skip_inner-returns-in_err-one
skip_inner-returns-in_err-one t c =
    let r = run-to is_indirection _ _ _ c.requires c.indirections_end-to.ensures in
    let q : c.from_residual.result ≡ Err c.in_err-one.field-0.0 = search rules in
    rw q (skips-no-run _ _ _ (rw (whole c.args.text.now, c.in_err-one.was) at c.skip_one.ensures) _ r)

pub skip_inner-returns : goal.skip_inner-returns
skip_inner-returns t c =
    let r = run-to is_indirection _ _ _ c.requires c.indirections_end-to.ensures in
    skips-run _ _ _ (rw (whole c.args.text.now, c.in_ok-one.was) at c.skip_one.ensures) _ _ r c.skip_held-2.ensures

pub skip_items-loop-kind-init : goal.skip_items-loop-kind-init
skip_items-loop-kind-init t c = (omega arith, (c.requires, λ i s. s))

pub skip_items-skip_inner-requires : goal.skip_items-skip_inner-requires
skip_items-skip_inner-requires t c =
    let r = run-to is_code _ _ _ c.loop-kind.invariant.1.0 c.codes_end-past.ensures in
    rw (whole c.args.text.now) (omega (arith, c.decreases, c.loop-kind.invariant.0, r.onward), r.within)

pub skip_items-overflow_add-result : goal.skip_items-overflow_add-result
skip_items-overflow_add-result t c =
    omega (arith, closes_in c.args.text.now c.codes_end-past.result c.args.kind (sym c.closes_fields.ensures ∙ c.if-closes_fields.true), c.well_formed.0)

pub skip_items-returns-then-closes_fields : goal.skip_items-returns-then-closes_fields
skip_items-returns-then-closes_fields t c =
    let v = c.loop-kind.invariant in
    let x = run-to is_code _ _ _ v.1.0 c.codes_end-past.ensures in
    v.1.1 _ (skipped-codes _ _ _ _ (skipped-closed _ _ _ (sym c.closes_fields.ensures ∙ c.if-closes_fields.true)) _ x)

pub skip_items-loop-kind-smaller : goal.skip_items-loop-kind-smaller
skip_items-loop-kind-smaller t c =
    let x = run-to is_code _ _ _ c.loop-kind.invariant.1.0 c.codes_end-past.ensures in
    let r = rw (whole c.args.text.now) at (rw (c.in_ok-s.was, c.in-Encoding.is) at c.skip_inner.ensures) in
    omega (arith, r.bound, x.onward)

pub skip_items-loop-kind-preserved : goal.skip_items-loop-kind-preserved
skip_items-loop-kind-preserved t c =
    let v = c.loop-kind.invariant in
    let x = run-to is_code _ _ _ v.1.0 c.codes_end-past.ensures in
    let r = rw (whole c.args.text.now) at (rw (c.in_ok-s.was, c.in-Encoding.is) at c.skip_inner.ensures) in
    (omega (arith, r.bound, x.onward, v.0), (r.bound.1, λ j s. v.1.1 j (skipped-codes _ _ _ _ (skipped-more _ _ _ _ _ r s) _ x)))

pub skip_items-returns-in_default : goal.skip_items-returns-in_default
skip_items-returns-in_default t c =
    let v = c.loop-kind.invariant in
    let x = run-to is_code _ _ _ v.1.0 c.codes_end-past.ensures in
    let r = rw (whole c.args.text.now, c.in_ok-s.was) at c.skip_inner.ensures in
    let none = not-passed c.in_ok-s.s (opened c.in_default.in_default-own.keys2) in
    v.1.1 _ (skipped-codes _ _ _ _ (skipped-end _ _ _ c.in_ok-s.s _ none r c.end_skipped.ensures) _ x)

pub skip_items-returns-in_err-s : goal.skip_items-returns-in_err-s
skip_items-returns-in_err-s t c =
    let v = c.loop-kind.invariant in
    let x = run-to is_code _ _ _ v.1.0 c.codes_end-past.ensures in
    let q : c.from_residual.result ≡ Err c.in_err-s.field-0.0 = search rules in
    rw q (v.1.1 _ (skipped-codes _ _ _ _ (skipped-none _ _ _ _ (rw (whole c.args.text.now, c.in_err-s.was) at c.skip_inner.ensures)) _ x))

pub skip_one-bounds-text-at : goal.skip_one-bounds-text-at
skip_one-bounds-text-at t c = c.requires.at_place

pub skip_one-overflow_add-at : goal.skip_one-overflow_add-at
skip_one-overflow_add-at t c = omega (arith, c.requires.at_place, c.well_formed.0)

pub skip_one-skip_inner-requires : goal.skip_one-skip_inner-requires
skip_one-skip_inner-requires t c =
    let at = c.requires.at_place in
    let n = rw c.in_ok-item-in-91.was at (number_is c.args.text.now _ (c.args.at + 1) _ (omega arith) c.parse_u64.ensures) in
    rw (whole c.args.text.now) (omega (arith, c.decreases, n.1), n.1.1)

pub skip_one-skip_container-requires : goal.skip_one-skip_container-requires
unfolding start in_singles singles in_others others
skip_one-skip_container-requires t c =
    rw (whole c.args.text.now) (omega (arith, c.decreases), record { at_place = c.requires.at_place; opens = starts _ 123 c.in-123.is refl })

pub skip_one-skip_container-requires-in-40 : goal.skip_one-skip_container-requires-in-40
unfolding start in_singles singles in_others others
skip_one-skip_container-requires-in-40 t c =
    rw (whole c.args.text.now) (omega (arith, c.decreases), record { at_place = c.requires.at_place; opens = starts _ 40 c.in-40.is refl })

pub skip_one-returns-in_err-item-in-91 : goal.skip_one-returns-in_err-item-in-91
unfolding start in_singles singles in_others others
skip_one-returns-in_err-item-in-91 t c =
    let at = c.requires.at_place in
    let n = rw c.in_err-item-in-91.was at (number_is c.args.text.now _ (c.args.at + 1) _ (omega arith) c.parse_u64.ensures) in
    let q : c.from_residual.result ≡ Err c.in_err-item-in-91.field-0.0 = search rules in
    rw q (skips-no-number _ _ at _ _ n.1.1 (starts _ 91 c.in-91.is refl) n.0)

pub skip_one-returns-in_err-s-in-91 : goal.skip_one-returns-in_err-s-in-91
unfolding start in_singles singles in_others others
skip_one-returns-in_err-s-in-91 t c =
    let at = c.requires.at_place in
    let n = rw c.in_ok-item-in-91.was at (number_is c.args.text.now _ (c.args.at + 1) _ (omega arith) c.parse_u64.ensures) in
    let inner = rw (whole c.args.text.now, c.in_err-s-in-91.was) at c.skip_inner.ensures in
    let q : c.from_residual-in_err-s-in-91.result ≡ Err c.in_err-s-in-91.field-0.0 = search rules in
    rw q (skips-no-item _ _ at _ _ (starts _ 91 c.in-91.is refl) n.0 n.1.0 n.1.1 _ inner)

pub skip_one-returns-in_ok-s-in-91 : goal.skip_one-returns-in_ok-s-in-91
unfolding start in_singles singles in_others others
skip_one-returns-in_ok-s-in-91 t c =
    let at = c.requires.at_place in
    let n = rw c.in_ok-item-in-91.was at (number_is c.args.text.now _ (c.args.at + 1) _ (omega arith) c.parse_u64.ensures) in
    let inner = rw (whole c.args.text.now, c.in_ok-s-in-91.was) at c.skip_inner.ensures in
    skips-item _ _ at _ _ (starts _ 91 c.in-91.is refl) n.0 n.1.0 n.1.1 _ _ inner c.skip_item.ensures

pub skip_one-returns-in-123 : goal.skip_one-returns-in-123
skip_one-returns-in-123 t c = rw (whole c.args.text.now) at c.skip_container.ensures

pub skip_one-returns-in-40 : goal.skip_one-returns-in-40
skip_one-returns-in-40 t c = rw (whole c.args.text.now) at c.skip_container-in-40.ensures

pub skip_one-returns-in_default : goal.skip_one-returns-in_default
skip_one-returns-in_default t c =
    let p = c.requires in
    let r = c.in_default.in_default-own.rest in
    let d = not-indirection _ p.direct in
    let plain = without-parts _ (((d, r.0.0.1), r.0.1), r.1) in
    skips-token _ _ p.at_place _ _ (token-is _ _ p.at_place _ plain c.token_at.ensures) c.skip_token.ensures
