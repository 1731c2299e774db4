use Rattle.parse.specs.declared.Parsed.TheVariants.{Empty, Encoding, ContainerEnd, ArrayEnd}
use Rattle.parse.specs.declared.Parsed.{Parsed}
use borrow.Enum.Refused.{opened}
use Prim.Native.Nat.{ℕ, ◌+◌, ◌-◌}
use mathlib.Core.Path.{◌≡◌, refl, sym, ap, ◌∙◌}
use mathlib.Core.List.{List, [], ◌∷◌}
use native.Mathlib.Omega.{arith}
use borrow.Author.Rules.{rules}
use denote.Enum.Declared.{tag_of}
use types.Run.{OneOf, miss}
use Rattle.kinds.proofs.ListLaws.{whole}
use Rattle.kinds.specs.Parse.{start, open_container, in_singles, singles, in_others, others}
use Rattle.parser.proofs.RunLaws.{run-to}
use Rattle.codes.specs.Answer.{is_indirection}
use Rattle.codes.proofs.CodeLaws.{starts, without-parts, not-indirection}
use Rattle.parse.specs.Agree.{lists, Lists, ItemsReads}
use Rattle.parse.specs.Room.{closes}
use Rattle.std.specs.Prelude.{Result, Ok, Err}
use Rattle.kinds.specs.declared.ParseError.{ParseError}
use Rattle.kinds.specs.Refusal.{parse_error}
use Rattle.parse.specs.contracts.Parsed.{the_type}
use Rattle.parse.proofs.Sheets.{slack-some}
use Rattle.codes.proofs.StepLaws.{closes_in}
use Rattle.parse.proofs.Cycle.{reads_end, reads-simple, reads-item, reads-no-number, reads-no-name, reads-contained, items-end, items-refused, items_more, items-closed, NotFound}
use Rattle.parse.proofs.Cycle.{ready-part, room-two, after-parsed, after_items, ready-fields, ready-more, opens-closes}
use Rattle.parse.proofs.Judge.{length-is}
use Rattle.parse.proofs.Runs.{opened-is, not_opened, ready-codes, ready-run, run_room, after-bound}
use Rattle.parse.proofs.+parse_container_parse_field_parse_inner_parse_one.Goals as goal

-- An outcome whose tag is not that of `Encoding`.
not_found : (p : Parsed) → OneOf (0 ∷ 2 ∷ 3 ∷ []) (tag_of the_type p) → NotFound p
not_found Empty h = tt
not_found (Encoding to k j) h = miss (0 ∷ 2 ∷ 3 ∷ []) 1 tt h
not_found (ContainerEnd k to) h = tt
not_found (ArrayEnd to) h = tt

pub parse_container-overflow_add-at : goal.parse_container-overflow_add-at
parse_container-overflow_add-at t c = omega (arith, c.requires.at_byte)

pub parse_container-put_name-requires : goal.parse_container-put_name-requires
parse_container-put_name-requires t c =
    let p = c.requires in
    omega (arith, p.at_byte, p.ready.names-room)

pub parse_container-overflow_add-k : goal.parse_container-overflow_add-k
parse_container-overflow_add-k t c = omega (arith, c.requires.ready.words-room)

pub parse_container-loop-words-init : goal.parse_container-loop-words-init
parse_container-loop-words-init t c =
    let a = c.args in
    let p = c.requires in
    let b : Lists = lists a.words.now a.names.now in
    let q = rw c.in_ok-start.was at c.put_name.ensures in
    let names : List ℕ = c.put_name.new.names in
    let ready = ready-fields a.text.now a.at a.n a.m b names _ _ _ p.ready p.at_byte (opens-closes _ _ p.opens)
    c.put_name.auto.names q in
    (ready, (search rules, ((refl, refl), λ z i r. r)))

pub parse_container-put_codes-past-requires : goal.parse_container-put_codes-past-requires
parse_container-put_codes-past-requires t c =
    (c.loop-words.invariant.0.at_place, c.loop-words.invariant.0.words-room)

pub parse_container-overflow_sub-k : goal.parse_container-overflow_sub-k
parse_container-overflow_sub-k t c = omega (arith, c.put_codes-past.ensures.onward)

pub parse_container-overflow_add-k-in-loop-words : goal.parse_container-overflow_add-k-in-loop-words
parse_container-overflow_add-k-in-loop-words t c =
    let v = c.loop-words.invariant in
    omega (arith, v.0.words-room, c.put_codes-past.ensures.room, v.1.1.0.0)

pub parse_container-overflow_add-to : goal.parse_container-overflow_add-to
parse_container-overflow_add-to t c =
    omega (
      arith,
      closes_in c.args.text.now c.put_codes-past.result c.args.kind (sym c.closes_fields.ensures ∙ c.if-closes_fields.true),
    )

pub parse_container-put_container-requires : goal.parse_container-put_container-requires
parse_container-put_container-requires t c =
    let x = c.put_codes-past in
    let l = c.loop-words in
    let a = c.args in
    let k : ℕ = l.k + (x.result - l.to) in
    let b : Lists = lists x.new.words l.names in
    let o : Result (ℕ × ℕ × ℕ) ParseError = Ok (x.result + 1, k, l.l) in
    let ends : ItemsReads a.strict a.text.now x.result a.kind k l.l b b o = items-closed a.strict a.text.now x.result a.kind k
    l.l b
    (sym c.closes_fields.ensures ∙ c.if-closes_fields.true) in
    let f = l.invariant.1.1.1 b o (x.ensures.reads a.strict a.kind l.l l.names b o ends) in
    let q = rw c.in_ok-start.was at c.put_name.ensures in
    let p = c.requires in
    let two = room-two a.text.now a.at a.n a.m (lists a.words.now a.names.now) p.ready p.at_byte (opens-closes _ _ p.opens) in
    ((omega (arith, two, x.auto.words, l.invariant.1.1.0.0), omega (arith, q.names-is)), after_items _ _ _ _ b b o f.bound)

pub parse_container-returns-then-closes_fields : goal.parse_container-returns-then-closes_fields
parse_container-returns-then-closes_fields t c =
    let x = c.put_codes-past in
    let l = c.loop-words in
    let a = c.args in
    let k : ℕ = l.k + (x.result - l.to) in
    let b : Lists = lists x.new.words l.names in
    let o : Result (ℕ × ℕ × ℕ) ParseError = Ok (x.result + 1, k, l.l) in
    let ends : ItemsReads a.strict a.text.now x.result a.kind k l.l b b o = items-closed a.strict a.text.now x.result a.kind k
    l.l b
    (sym c.closes_fields.ensures ∙ c.if-closes_fields.true) in
    let f = l.invariant.1.1.1 b o (x.ensures.reads a.strict a.kind l.l l.names b o ends) in
    let q = rw c.in_ok-start.was at c.put_name.ensures in
    let p = c.requires in
    let d = c.put_container.ensures in
    rw (d.0, d.1) (reads-contained a.strict a.text.now a.at a.kind a.n a.m p.at_byte p.opens (lists a.words.now a.names.now)
    c.put_name.new.names _ _ q b o f)

pub parse_container-parse_field-requires : goal.parse_container-parse_field-requires
parse_container-parse_field-requires t c =
    let x = c.put_codes-past in
    let l = c.loop-words in
    let q = rw c.in_ok-start.was at c.put_name.ensures in
    let ready = ready-codes
    c.args.text.now l.to l.k l.l x.result l.words x.new.words l.names l.invariant.0 x.ensures
    x.auto.words in
    rw (whole
    c.args.text.now) (omega (arith, c.decreases, l.invariant.1.0, x.ensures.onward, x.ensures.within, q.onward), ready)

pub parse_container-loop-words-smaller : goal.parse_container-loop-words-smaller
parse_container-loop-words-smaller t c =
    let r = rw (whole
    c.args.text.now) at (rw (c.in_ok-p.was, c.in-Encoding.is) at c.parse_field.ensures) in
    omega (
      arith,
      c.put_codes-past.ensures.onward,
      r.bound.onward,
      r.bound.within,
    )

pub parse_container-loop-words-preserved : goal.parse_container-loop-words-preserved
parse_container-loop-words-preserved t c =
    let i = c.parse_field in
    let x = c.put_codes-past in
    let l = c.loop-words in
    let a = c.args in
    let k : ℕ = l.k + (x.result - l.to) in
    let b : Lists = lists x.new.words l.names in
    let z : Lists = lists i.new.words i.new.names in
    let r = rw (whole a.text.now) at (rw (c.in_ok-p.was, c.in-Encoding.is) at i.ensures) in
    let ready = ready-codes a.text.now l.to l.k l.l x.result l.words x.new.words l.names l.invariant.0 x.ensures
    x.auto.words in (
      ready-more a.text.now x.result k l.l b z _ _ _ ready i.auto.words i.auto.names r.bound,
      (
        omega (arith, l.invariant.1.0, x.ensures.onward, r.bound.onward),
        (
          (i.auto.words ∙ x.auto.words ∙ l.invariant.1.1.0.0, i.auto.names ∙ l.invariant.1.1.0.1),
          λ y f q. l.invariant.1.1.1 y f (x.ensures.reads a.strict a.kind l.l l.names y f
              (items_more a.strict a.text.now x.result a.kind k l.l b z _ _ _ y f r q)),
        ),
      ),
    )

pub parse_container-put_container-requires-in_default : goal.parse_container-put_container-requires-in_default
parse_container-put_container-requires-in_default t c =
    let i = c.parse_field in
    let x = c.put_codes-past in
    let l = c.loop-words in
    let a = c.args in
    let k : ℕ = l.k + (x.result - l.to) in
    let b : Lists = lists x.new.words l.names in
    let z : Lists = lists i.new.words i.new.names in
    let o : Result (ℕ × ℕ × ℕ) ParseError = c.end_items.result in
    let none = not_found c.in_ok-p.p (opened c.in_default.in_default-own.keys2) in
    let ends : ItemsReads a.strict a.text.now x.result a.kind k l.l b z o =
    rw c.end_items.ensures (items-end a.strict a.text.now x.result a.kind k l.l b z c.in_ok-p.p none
    (rw (whole a.text.now, c.in_ok-p.was) at i.ensures)) in
    let f = l.invariant.1.1.1 z o (x.ensures.reads a.strict a.kind l.l l.names z o ends) in
    let q = rw c.in_ok-start.was at c.put_name.ensures in
    let p = c.requires in
    let two = room-two a.text.now a.at a.n a.m (lists a.words.now a.names.now) p.ready p.at_byte (opens-closes _ _ p.opens) in
    ((omega (arith, two, i.auto.words, x.auto.words, l.invariant.1.1.0.0), omega (arith, q.names-is)), after_items _ _ _ _ _ _ o f.bound)

pub parse_container-shape_of-words-in_default : goal.parse_container-shape_of-words-in_default
parse_container-shape_of-words-in_default t c =
    c.put_container-in_default.auto.words
    ∙ c.parse_field.auto.words
    ∙ c.put_codes-past.auto.words ∙ c.loop-words.invariant.1.1.0.0

pub parse_container-shape_of-names-in_default : goal.parse_container-shape_of-names-in_default
parse_container-shape_of-names-in_default t c =
    c.parse_field.auto.names
    ∙ c.loop-words.invariant.1.1.0.1
    ∙ c.put_name.auto.names

pub parse_container-returns-in_default : goal.parse_container-returns-in_default
parse_container-returns-in_default t c =
    let i = c.parse_field in
    let x = c.put_codes-past in
    let l = c.loop-words in
    let a = c.args in
    let k : ℕ = l.k + (x.result - l.to) in
    let b : Lists = lists x.new.words l.names in
    let z : Lists = lists i.new.words i.new.names in
    let o : Result (ℕ × ℕ × ℕ) ParseError = c.end_items.result in
    let none = not_found c.in_ok-p.p (opened c.in_default.in_default-own.keys2) in
    let ends : ItemsReads a.strict a.text.now x.result a.kind k l.l b z o =
    rw c.end_items.ensures (items-end a.strict a.text.now x.result a.kind k l.l b z c.in_ok-p.p none
    (rw (whole a.text.now, c.in_ok-p.was) at i.ensures)) in
    let f = l.invariant.1.1.1 z o (x.ensures.reads a.strict a.kind l.l l.names z o ends) in
    let q = rw c.in_ok-start.was at c.put_name.ensures in
    let p = c.requires in
    let d = c.put_container-in_default.ensures in
    rw (d.0, d.1) (reads-contained a.strict a.text.now a.at a.kind a.n a.m p.at_byte p.opens (lists a.words.now a.names.now)
    c.put_name.new.names _ _ q z o f)

pub parse_container-returns-in_err-start : goal.parse_container-returns-in_err-start
parse_container-returns-in_err-start t c =
    let a = c.args in
    let p = c.requires in
    let q = rw c.in_err-start.was at c.put_name.ensures in
    let r : c.from_residual.result ≡ Err c.in_err-start.field-0.0 = search rules in
    rw r (reads-no-name a.strict a.text.now a.at a.kind a.n a.m p.at_byte p.opens (lists a.words.now a.names.now)
    c.put_name.new.names _ _ q)

pub parse_container-returns-in_err-p : goal.parse_container-returns-in_err-p
parse_container-returns-in_err-p t c =
    let i = c.parse_field in
    let x = c.put_codes-past in
    let l = c.loop-words in
    let a = c.args in
    let k : ℕ = l.k + (x.result - l.to) in
    let b : Lists = lists x.new.words l.names in
    let z : Lists = lists i.new.words i.new.names in
    let o : Result (ℕ × ℕ × ℕ) ParseError = Err c.in_err-p.field-0.0 in
    let ends : ItemsReads a.strict a.text.now x.result a.kind k l.l b z o =
    items-refused a.strict a.text.now x.result a.kind k l.l b z _ (rw (whole a.text.now, c.in_err-p.was) at i.ensures) in
    let f = l.invariant.1.1.1 z o (x.ensures.reads a.strict a.kind l.l l.names z o ends) in
    let q = rw c.in_ok-start.was at c.put_name.ensures in
    let p = c.requires in
    let r : c.from_residual-in_err-p.result ≡ Err c.in_err-p.field-0.0 = search rules in
    rw r (reads-contained a.strict a.text.now a.at a.kind a.n a.m p.at_byte p.opens (lists a.words.now a.names.now)
    c.put_name.new.names _ _ q z o f)

pub parse_field-parse_container-requires : goal.parse_field-parse_container-requires
parse_field-parse_container-requires t c =
    let opens = opened-is _ (sym c.opens_container.ensures ∙ c.if-opens_container.true) in
    rw (whole c.args.text.now) (
      omega (arith, c.decreases),
      record {
        ready = c.requires;
        at_byte =
            c.if-at-text.true;
        opens = opens
            ∙ ap open_container (sym c.opened_container-kind.ensures);
      },
    )

pub parse_field-returns-then-opens_container : goal.parse_field-returns-then-opens_container
parse_field-returns-then-opens_container t c =
    rw (whole
    c.args.text.now)
    at c.parse_container.ensures

pub parse_field-parse_inner-requires : goal.parse_field-parse_inner-requires
parse_field-parse_inner-requires t c =
    rw (whole c.args.text.now)
    (omega (arith, c.decreases), c.requires)

pub parse_field-returns : goal.parse_field-returns
parse_field-returns t c =
    rw (whole c.args.text.now)
    at c.parse_inner.ensures

pub parse_inner-overflow_sub-to : goal.parse_inner-overflow_sub-to
parse_inner-overflow_sub-to t c =
    let a = c.args in
    let p = c.requires in
    let b : Lists = lists a.words.now a.names.now in
    let r = run-to is_indirection _ _ _ p.at_place c.run_end-to.ensures in
    r.onward

pub parse_inner-overflow_add-n : goal.parse_inner-overflow_add-n
parse_inner-overflow_add-n t c =
    let a = c.args in
    let p = c.requires in
    let b : Lists = lists a.words.now a.names.now in
    let r = run-to is_indirection _ _ _ p.at_place c.run_end-to.ensures in
    omega (arith, (ready-run a.text.now a.at a.n a.m _ b p r).words-room, r.onward)

pub parse_inner-parse_one-p-requires : goal.parse_inner-parse_one-p-requires
parse_inner-parse_one-p-requires t c =
    let a = c.args in
    let p = c.requires in
    let b : Lists = lists a.words.now a.names.now in
    let r = run-to is_indirection _ _ _ p.at_place c.run_end-to.ensures in
    let ready = ready-run a.text.now a.at a.n a.m _ b p r in
    rw (whole a.text.now) (
      omega (arith, c.decreases, r.onward),
      record { ready = ready; direct = r.stopped },
    )

pub parse_inner-put_indirections-requires : goal.parse_inner-put_indirections-requires
parse_inner-put_indirections-requires t c =
    let a = c.args in
    let p = c.requires in
    let b : Lists = lists a.words.now a.names.now in
    let r = run-to is_indirection _ _ _ p.at_place c.run_end-to.ensures in
    let i = c.parse_one-p in
    let q = rw (whole a.text.now) at i.ensures in
    record {
      at_place = p.at_place;
      ends = c.run_end-to.ensures;
      room = λ l. omega (arith, i.auto.words, run_room a.text.now a.at a.n a.m _ b p r l);
      after = after-bound _ _ _ _ _ _ i.result q.bound;
    }

pub parse_inner-shape_of-words : goal.parse_inner-shape_of-words
parse_inner-shape_of-words t c =
    c.put_indirections.auto.words ∙ c.parse_one-p.auto.words

pub parse_inner-shape_of-names : goal.parse_inner-shape_of-names
parse_inner-shape_of-names t c = c.parse_one-p.auto.names

pub parse_inner-returns : goal.parse_inner-returns
parse_inner-returns t c =
    let i = c.parse_one-p in
    let a = c.args in
    c.put_indirections.ensures a.strict (lists a.words.now a.names.now) i.new.names
    (rw (whole a.text.now) at i.ensures)

pub parse_one-returns-then-text-at : goal.parse_one-returns-then-text-at
parse_one-returns-then-text-at t c = reads_end _ _ _ _ _ _ (omega (arith, c.if-text-at.true, c.requires.ready.at_place))

pub parse_one-bounds-text-at : goal.parse_one-bounds-text-at
parse_one-bounds-text-at t c = c.if-text-at.false

pub parse_one-overflow_add-at : goal.parse_one-overflow_add-at
parse_one-overflow_add-at t c =
    omega (arith, c.if-text-at.false, c.well_formed.0)

pub parse_one-overflow_add-n : goal.parse_one-overflow_add-n
parse_one-overflow_add-n t c =
    omega (
      arith,
      c.requires.ready.words-room,
      slack-some
          c.args.text.now
          c.args.at
          c.if-text-at.false,
    )

pub parse_one-parse_inner-p-requires : goal.parse_one-parse_inner-p-requires
unfolding start in_singles singles in_others others closes
parse_one-parse_inner-p-requires t c =
    let a = c.args in
    let h = c.if-text-at.false in
    let b : Lists = lists a.words.now a.names.now in
    let st = starts _ 91 c.in-91.is refl in
    let q = rw c.in_ok-len-in-91.was
    at (length-is a.text.now a.at h st a.strict _ c.length_here.ensures) in
    let ready = ready-part a.text.now a.at a.n a.m b _
    c.requires.ready h (ap closes st) q.1.1.0
    q.1.1.1 in
    rw (whole a.text.now) (
      omega (
        arith,
        c.decreases,
        q.1.1,
      ),
      ready,
    )

pub parse_one-put_array-requires : goal.parse_one-put_array-requires
unfolding start in_singles singles in_others others closes
parse_one-put_array-requires t c =
    let i = c.parse_inner-p in
    let a = c.args in
    let st = starts _ 91 c.in-91.is refl in
    let two = room-two a.text.now a.at a.n a.m (lists a.words.now a.names.now)
    c.requires.ready c.if-text-at.false (ap closes st) in
    (omega (arith, two, i.auto.words), after-parsed _ _ _ _ _ _ i.result i.ensures.bound)

pub parse_one-parse_container-requires : goal.parse_one-parse_container-requires
parse_one-parse_container-requires t c =
    let p = c.requires in
    let opens = opened-is _ (sym c.opens_container.ensures ∙ c.if-opens_container.true) in
    rw (whole c.args.text.now) (
      omega (arith, c.decreases),
      record {
        ready = p.ready;
        at_byte = c.if-text-at.false;
        opens = opens
            ∙ ap open_container (sym c.opened_container-kind.ensures);
      },
    )

pub parse_one-returns-then-opens_container : goal.parse_one-returns-then-opens_container
parse_one-returns-then-opens_container t c =
    rw (whole
    c.args.text.now) at c.parse_container.ensures

pub parse_one-parse_simple-requires : goal.parse_one-parse_simple-requires
parse_one-parse_simple-requires t c =
    let p = c.requires in
    let o = not_opened _ (sym c.opens_container.ensures ∙ c.if-opens_container.false) in
    let d = not-indirection _ (p.direct c.if-text-at.false) in
    record {
      at_place = c.if-text-at.false;
      words-room = p.ready.words-room;
      plain = without-parts _
          (((d, c.in_default.in_default-own.rest.1), o.0), o.1);
    }

pub parse_one-returns-in_err-len-in-91 : goal.parse_one-returns-in_err-len-in-91
unfolding start in_singles singles in_others others closes
parse_one-returns-in_err-len-in-91 t c =
    let a = c.args in
    let h = c.if-text-at.false in
    let b : Lists = lists a.words.now a.names.now in
    let st = starts _ 91 c.in-91.is refl in
    let q = rw c.in_err-len-in-91.was at (length-is a.text.now a.at h st a.strict _ c.length_here.ensures) in
    let r : c.from_residual.result ≡ Err c.in_err-len-in-91.field-0.0 = search rules in
    rw r (reads-no-number a.strict a.text.now _ a.n a.m b _ _ h q.0 q.1)

pub parse_one-shape_of-words-in_ok-len-in-91 : goal.parse_one-shape_of-words-in_ok-len-in-91
parse_one-shape_of-words-in_ok-len-in-91 t c =
    c.put_array.auto.words ∙ c.parse_inner-p.auto.words

pub parse_one-shape_of-names : goal.parse_one-shape_of-names
parse_one-shape_of-names t c = c.parse_inner-p.auto.names

pub parse_one-returns-in_ok-len-in-91 : goal.parse_one-returns-in_ok-len-in-91
unfolding start in_singles singles in_others others closes
parse_one-returns-in_ok-len-in-91 t c =
    let a = c.args in
    let h = c.if-text-at.false in
    let b : Lists = lists a.words.now a.names.now in
    let st = starts _ 91
    c.in-91.is refl in
    let q = rw c.in_ok-len-in-91.was
    at (length-is a.text.now a.at h st a.strict _
    c.length_here.ensures) in
    let i = c.parse_inner-p in
    let z : Lists = lists i.new.words i.new.names in
    let d = c.put_array.ensures in
    rw (d.0, d.1) (reads-item a.strict a.text.now _ a.n a.m _ _ h st q.0 q.1.0 q.1.1.0 q.1.1.1 b z i.result
    (rw (whole a.text.now) at i.ensures))

pub parse_one-returns-else-opens_container : goal.parse_one-returns-else-opens_container
parse_one-returns-else-opens_container t c =
    reads-simple _ _ _ _ _ _ _ _ _ c.if-text-at.false c.parse_simple.ensures
