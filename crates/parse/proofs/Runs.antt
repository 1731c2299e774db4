-- Laws on runs of pointers and atomics, and of codes.
use Rattle.parse.specs.declared.Parsed.TheVariants.{Empty, Encoding, ContainerEnd, ArrayEnd}
use Rattle.parse.specs.declared.Parsed.{Parsed}
use Prim.Native.Nat.{ℕ, ◌+◌, ◌*◌, ◌-◌, ◌≤◌, ◌<◌}
use mathlib.Core.Path.{◌≡◌, refl, sym, ap, ◌∙◌, subst}
use mathlib.Core.List.{List}
use mathlib.Core.Bool.{Bool, true, false, ◌||◌, false≢true}
use native.Mathlib.Decide.{dec_lt}
use native.Mathlib.Omega.{arith}
use lib.ListN.{length, drop, get_or}
use lib.Dec.{eqb}
use borrow.Author.Tests.{eqb-true}
use Rattle.kinds.specs.Parse as R
use Rattle.kinds.specs.Parse.{start, in_singles, singles, in_others, others}
use Rattle.kinds.specs.Tree.{Label, pointer, atomic, kind}
use Rattle.parse.specs.Agree.{Lists, lists, Bound, Reads, Ready, ItemsReads, CodesRead}
use Rattle.parse.specs.Out.{After, opens_container, opened_container, indirection_word, hold_out, hold_words, node_put}
use Rattle.parser.proofs.RunLaws.{RunTo}
use Rattle.codes.specs.Answer.{is_indirection}
use Rattle.parse.specs.Room.{slack, closes}
use Rattle.kinds.specs.declared.ContainerKind.{ContainerKind}
use Rattle.std.specs.Prelude.{Result, Ok, Err}
use Rattle.kinds.specs.declared.ParseError.{ParseError}
use Rattle.kinds.specs.Refusal.{parse_error}
use Rattle.parse.proofs.Cycle.{Bare, bare-pointer, bare-atomic, reads_held, reads-simple, items_more}
use Rattle.parse.proofs.Sheets.{slack-open, slack-le, simple-code}

-- What a byte that begins a pointer or an atomic begins.
pub record Indirection (b : ℕ) : Type 0 where
  pub label : Label
  pub begins : start b ≡ R.indirection label
  pub word-is : kind label ≡ indirection_word b
  pub bare : (m : ℕ) → Bare m label 0

pub indirection : (b : ℕ) → is_indirection b ≡ true → Indirection b
unfolding start in_singles singles in_others others kind
indirection b e = go (eqb b 94) refl
  where
    go : (d : Bool) → eqb b 94 ≡ d → Indirection b
    go true x = rw (eqb-true b 94 x) (record { label = pointer; begins = refl; word-is = refl; bare = bare-pointer })
    go false x = rw (eqb-true b 65 (ap (λ (y : Bool). y || eqb b 65) (sym x) ∙ e))
        (record { label = atomic; begins = refl; word-is = refl; bare = bare-atomic })

-- What a byte that opens a container begins.
pub opened-is : (b : ℕ) → opens_container b ≡ true → start b ≡ R.open_container (opened_container b)
unfolding start in_singles singles in_others others
opened-is b e = go (eqb b 123) refl
  where
    go : (d : Bool) → eqb b 123 ≡ d → start b ≡ R.open_container (opened_container b)
    go true x = rw (eqb-true b 123 x) refl
    go false x = rw (eqb-true b 40 (ap (λ (y : Bool). y || eqb b 40) (sym x) ∙ e)) refl

pub not_opened : (b : ℕ) → opens_container b ≡ false → (b ≡ 123 → ⊥) × (b ≡ 40 → ⊥)
not_opened b e = ((λ x. false≢true (sym e ∙ ap opens_container x)), λ x. false≢true (sym e ∙ ap opens_container x))

-- The pointer or atomic at `at` over what was read after it.
pub reads-indirection : (strict : Bool) (text : List ℕ) (at next n k m : ℕ) → next ≡ at + 1 → k ≡ n + 1 → at < length text → is_indirection (get_or text at 0)
    ≡ true
    → (b a : Lists) (p : Result Parsed ParseError) → Reads strict text next k m b a p
    → Reads strict text at n m b (lists (hold_words p (indirection_word (get_or text at 0)) n a.words) a.names) (hold_out p next n m)
reads-indirection strict text at next n k m e f h s b a p r =
    let x : Indirection (get_or text at 0) = indirection (get_or text at 0) s in
    let r1 : Reads strict text (at + 1) k m b a p = subst (λ (j : ℕ). Reads strict text j k m b a p) e r in
    let r2 : Reads strict text (at + 1) (n + 1) m b a p = subst (λ (j : ℕ). Reads strict text (at + 1) j m b a p) f r1 in
    subst (λ (j : ℕ). Reads strict text at n m b (lists (hold_words p (indirection_word (get_or text at 0)) n a.words) a.names) (hold_out p j n m)) (sym e)
    (subst (λ (w : ℕ). Reads strict text at n m b (lists (hold_words p w n a.words) a.names) (hold_out p (at + 1) n m)) x.word-is
    (reads_held strict text at n m x.label (x.bare m) h x.begins b a p r2))

-- ---- What the calls ask.

pub after-bound : (text : List ℕ) (at n m : ℕ) (b a : Lists) (p : Result Parsed ParseError) → Bound text at n m b a p → After p n
after-bound text at n m b a (Ok Empty) r = tt
after-bound text at n m b a (Ok (Encoding to k j)) r = omega (arith, r.more)
after-bound text at n m b a (Ok (ContainerEnd k to)) r = tt
after-bound text at n m b a (Ok (ArrayEnd to)) r = tt
after-bound text at n m b a (Err e) r = tt

pub after_less : (p : Result Parsed ParseError) (n k : ℕ) → n ≤ k → After p k → After p n
after_less (Ok Empty) n k l r = tt
after_less (Ok (Encoding to j x)) n k l r = omega arith
after_less (Ok (ContainerEnd c to)) n k l r = tt
after_less (Ok (ArrayEnd to)) n k l r = tt
after_less (Err e) n k l r = tt

pub after-held : (p : Result Parsed ParseError) (next n m : ℕ) → After p n → After (hold_out p next n m) n
after-held (Ok Empty) next n m r = omega arith
after-held (Ok (Encoding to j x)) next n m r = r
after-held (Ok (ContainerEnd c to)) next n m r = omega arith
after-held (Ok (ArrayEnd to)) next n m r = omega arith
after-held (Err e) next n m r = tt

module _ (text : List ℕ) (at n m to : ℕ) (b : Lists) (r : Ready text at n m b) (e : RunTo is_indirection text at to) where
  run-slack : at < to → slack (drop at text) ≡ length text - at + 1
  unfolding closes
  run-slack l =
      let h : at < length text = omega (arith, e.within) in
      slack-open text at h (ap closes (indirection _ (e.run at (omega arith) l)).begins)

  pub run_room : at < to → 4 * (n + (to - at)) + 4 ≤ length b.words
  run_room l = omega (arith, run-slack l, r.words-room, e.within)

  pub ready-run : Ready text to (n + (to - at)) m b
  ready-run = elim (dec_lt at to) [
    | yes l ↦ record {
      at_place = e.within;
      words-room = omega (arith, run-slack l, r.words-room, slack-le text to, e.within);
      names-room =
          omega (arith, r.names-room, e.onward);
    }
    | no l ↦ let same : to ≡ at = omega (arith, e.onward) in
        subst (λ (x : ℕ). Ready text x (n + (x - at)) m b) (sym same)
        (record { at_place = r.at_place; words-room = omega (arith, r.words-room); names-room = r.names-room })
  ]

-- ---- Codes.

-- A field that is a code, and the fields after it.
module _ (text : List ℕ) (at n p : ℕ) (h : at < length text) (st : start (get_or text at 0) ≡ R.single p) where
  pub code-slack : slack (drop (at + 1) text) + 1 ≤ slack (drop at text)
  unfolding closes
  code-slack = omega (arith, slack-open text at h (ap closes st), slack-le text (at + 1))

  pub items-code : (strict : Bool) (kind : ContainerKind) (m : ℕ) (w ns : List ℕ) (z : Lists) (i : Result (ℕ × ℕ × ℕ) ParseError)
      → ItemsReads strict text (at + 1) kind (n + 1) m (lists (node_put w n p 0 0 1) ns) z i → ItemsReads strict text at kind n m (lists w ns) z i
  items-code strict kind m w ns z i r =
      items_more strict text at kind n m (lists w ns) (lists (node_put w n p 0 0 1) ns) (at + 1) (n + 1) m z i
      (reads-simple strict text at n m w (node_put w n p 0 0 1) ns (Ok (Encoding (at + 1) (n + 1) m)) h (simple-code text at n m w h strict p st)) r

pub ready-codes : (text : List ℕ) (at n m to : ℕ) (w w' ns : List ℕ) → Ready text at n m (lists w ns) → CodesRead text at n w w' to → length w' ≡ length w
    → Ready text to (n + (to - at)) m (lists w' ns)
ready-codes text at n m to w w' ns r c e = record {
  at_place = c.within;
  words-room = omega (arith, r.words-room, c.room);
  names-room = omega (arith, r.names-room, c.onward);
}

pub codes-none : (text : List ℕ) (at n : ℕ) (w : List ℕ) → at ≤ length text → CodesRead text at n w w at
codes-none text at n w l = record {
  onward = omega arith;
  within = l;
  room = omega arith;
  reads = λ strict kind m ns z i r. subst (λ (k : ℕ). ItemsReads strict text at kind k m (lists w ns) z i) (omega arith) r;
}

pub codes-more : (text : List ℕ) (at n : ℕ) (w w' : List ℕ) (to p : ℕ) → CodesRead text at n w w' to → to < length text → start (get_or text to 0) ≡ R.single p
    → CodesRead text at n w (node_put w' (n + (to - at)) p 0 0 1) (to + 1)
codes-more text at n w w' to p c h st = record {
  onward = omega (arith, c.onward);
  within = omega arith;
  room = omega (arith, c.onward, c.room, code-slack text to (n + (to - at)) p h st);
  reads = λ strict kind m ns z i r. c.reads strict kind m ns z i (items-code text to (n + (to - at)) p h st strict kind m w' ns z i
      (subst (λ (k : ℕ). ItemsReads strict text (to + 1) kind k m (lists (node_put w' (n + (to - at)) p 0 0 1) ns) z i) (omega (arith, c.onward)) r));
}
