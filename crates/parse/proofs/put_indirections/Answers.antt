use Prim.Native.Nat.{ℕ, ◌+◌, ◌-◌}
use mathlib.Core.Path.{◌≡◌, refl, ap, ◌∙◌, subst}
use native.Mathlib.Omega.{arith}
use Rattle.parser.proofs.RunLaws.{run-to}
use Rattle.codes.specs.Answer.{is_indirection}
use Rattle.parse.specs.Agree.{lists, Reads}
use Rattle.parse.specs.Out.{hold_out}
use Rattle.parse.proofs.Runs.{reads-indirection, after_less, after-held}
use Rattle.parse.proofs.put_indirections.Goals as goal

pub loop-i-init : goal.loop-i-init
loop-i-init c =
    let p = c.requires in
    let r = run-to is_indirection _ _ _ p.at_place p.ends in
    record { onward = r.onward; after = p.after; size = refl; reads = λ strict b ns q. q }

pub bounds-text-i : goal.bounds-text-i
bounds-text-i c =
    let p = c.requires in
    omega (arith, (run-to is_indirection _ _ _ p.at_place p.ends).within)

pub overflow_add-n : goal.overflow_add-n
overflow_add-n c = omega (arith, c.requires.room (omega arith), c.well_formed)

pub put_indirection-p-requires : goal.put_indirection-p-requires
put_indirection-p-requires c =
    (omega (arith, c.requires.room (omega arith), c.loop-i.invariant.size), after_less c.loop-i.p _ _ (omega arith) c.loop-i.invariant.after)

pub loop-i-preserved : goal.loop-i-preserved
loop-i-preserved c =
    let l = c.loop-i in
    let a = c.args in
    let w = c.put_indirection-p in
    let run = run-to is_indirection _ _ _ c.requires.at_place c.requires.ends in
    let k : ℕ = a.n + (l.i - 1 - a.at) in
    let here = run.run (l.i - 1) (omega arith) (omega arith) in
    let behind : l.i - 1 + 1 ≡ l.i = omega arith in
    let held : w.result ≡ hold_out l.p l.i k a.m = w.ensures.0 ∙ ap (λ (x : ℕ). hold_out l.p x k a.m) behind in
    record {
      onward = omega arith;
      after = rw held (after-held l.p l.i k a.m (after_less l.p _ _ (omega arith) l.invariant.after));
      size = w.auto.words ∙ l.invariant.size;
      reads = λ strict b ns r. rw (held, w.ensures.1, c.indirection_word-kind.ensures)
          (reads-indirection strict a.text.now (l.i - 1) l.i k (a.n + (l.i - a.at)) a.m (omega arith) (omega arith)
          (omega (arith, run.within)) here b (lists l.words ns) l.p (l.invariant.reads strict b ns r));
    }

pub returns : goal.returns
returns c =
    let l = c.loop-i in
    let a = c.args in
    let e : l.i ≡ a.at = omega arith in
    λ strict b ns r. subst (λ (x : ℕ). Reads strict a.text.now x a.n a.m b (lists l.words ns) l.p) e
    (subst (λ (x : ℕ). Reads strict a.text.now l.i x a.m b (lists l.words ns) l.p) (omega arith) (l.invariant.reads strict b ns r))
