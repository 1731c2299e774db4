use borrow.Author.Rules.{rules}
use mathlib.Core.Path.{sym, ap, ◌∙◌}
use native.Mathlib.Omega.{arith}
use lib.ListN.{drop}
use borrow.Author.Tests.{lt-ltb}
use Rattle.kinds.proofs.ListLaws.{whole}
use Rattle.parser.proofs.PlaceLaws.{unread-stripped, strip-at-within}
use Rattle.std.specs.Option.{is_some}
use Rattle.codes.specs.Answer.{is_code}
use Rattle.skip.proofs.SkipLaws.{answer-none, answer-code, answer-object, answer-encoding, answer-no-encoding}
use Rattle.skip.proofs.skip_encoding_or_none.Goals as goal

pub returns-then-text-at : goal.returns-then-text-at
returns-then-text-at c = answer-none _ _ c.if-text-at.true

pub returns-then-is_some : goal.returns-then-is_some
unfolding is_code
returns-then-is_some c =
    answer-code _ _ c.if-text-at.false (ap is_some (sym c.single_kind.ensures) ∙ sym c.is_some.ensures ∙ c.if-is_some.true)

pub returns-then-object_alone : goal.returns-then-object_alone
returns-then-object_alone c =
    answer-object _ _ c.if-text-at.false (sym c.object_alone.ensures ∙ c.if-object_alone.true)

pub skip_inner-requires : goal.skip_inner-requires
skip_inner-requires c =
    let r = strip-at-within _ _ _ (omega (arith, c.if-text-at.false)) c.strip_at-from.ensures in
    rw (whole c.args.text.now) r

pub returns-in_err-s : goal.returns-in_err-s
returns-in_err-s c =
    let k = answer-no-encoding c.args.text.now _ _ (sym (unread-stripped _ _) ∙ ap (λ k. drop k c.args.text.now) (sym c.strip_at-from.ensures)) _
    (rw (whole c.args.text.now, c.in_err-s.was) at c.skip_inner.ensures) in
    search rules

pub returns : goal.returns
returns c =
    answer-encoding _ _ _ (sym (unread-stripped _ _) ∙ ap (λ k. drop k c.args.text.now) (sym c.strip_at-from.ensures)) _ _
    (rw (whole c.args.text.now, c.in_ok-s.was) at c.skip_inner.ensures) c.encoding_or_none.ensures
