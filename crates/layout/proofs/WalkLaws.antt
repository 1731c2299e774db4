-- Laws of the quick walk: a node more, a container that is entered, one that is closed, and the end.
use Prim.Native.Nat.{ℕ, zero, suc, ◌+◌, ◌-◌, ◌*◌, ◌/◌, ◌%◌, ◌≤◌, ◌<◌}
use native.Mathlib.Omega.{arith}
use mathlib.Core.Path.{◌≡◌, refl, ap, ap₂, sym, ◌∙◌, subst, subst₂}
use mathlib.Core.List.{List, map}
use mathlib.Core.Bool.{Bool, true, false, ◌||◌}
use borrow.Author.Tests.{ne_eqb, eqb-true, eqb-false}
use lib.Dec.{eqb}
use lib.ListN.{length, get_or, set, length-set}
use lib.Seq.{sets, set-set, set-get_or, get_or-set_same, get_or-set_other}
use Rattle.kinds.specs.Sheet.{kind_at, first_at, count_at}
use Rattle.kinds.specs.Walk.{NodeAt, TreesAt}
use Rattle.kinds.proofs.NodeLaws.{node-inner}
use Rattle.kinds.proofs.StoreLaws.{set-sets}
use Rattle.helper.specs.declared.Measured.TheVariants.{Bytes}
use Rattle.helper.proofs.SizeLaws.{fit-le}
use Rattle.layout.specs.Layout.{no_room}
use Rattle.layout.specs.Placing.{placed_of, stored, stored_of, offsets_below, begin_measured, with_field, ended_by, sizeless_kind, passes_kind, bottom_after, Zeros, Laid}
use Rattle.layout.specs.Walking.{Sought, room_placed, IsPower, most, SimpleRoom, EndedRoom, AddedRoom, frame, Enters, Level, Around, Stack, Walking, Settled}
use Rattle.layout.specs.declared.quick.Open.{Open}
use Rattle.layout.specs.declared.place.Placed.{Placed}
use Rattle.layout.specs.declared.quick.Room.{Room}
use Rattle.layout.proofs.FillLaws.{filling-start, filling-node, filling-within, filling-zeros, filling-turn, walk_end, simple-laid}
use Rattle.layout.proofs.FindLaws.{sought-first, sought-kept, sought-end}
use Rattle.layout.proofs.SimpleLaws.{sought-simple}

-- ---- The word in the place of an open container.

module _ (run : Room) (i : ℕ) (p : i < 2048) where
  pub frame-index : frame run i % 2048 ≡ i
  unfolding frame
  frame-index = omega arith

  pub frame-bytes : run.alignment < 256 → frame run i / 524288 ≡ run.bytes
  unfolding frame
  frame-bytes h = omega arith

  pub frame-alignment : run.alignment < 256 → frame run i / 2048 % 256 ≡ run.alignment
  unfolding frame
  frame-alignment h = omega arith

-- The word is overwritten by the container's number, so that the list is as if it had never stood there.
overwritten : (list xs : List ℕ) (i v : ℕ) {exit : List ℕ} → exit ≡ sets (set list i v) (i + 1) xs → set exit i (get_or list i 0) ≡ sets list (i + 1) xs
overwritten list xs i v e =
    ap (λ (z : List ℕ). set z i (get_or list i 0)) e ∙ set-sets (set list i v) i (get_or list i 0) (i + 1) xs (omega arith)
    ∙ ap (λ (z : List ℕ). sets z (i + 1) xs) (set-set list i v (get_or list i 0) ∙ set-get_or list i 0)

pub unframed : {row w : List ℕ} {i : ℕ} (list : List ℕ) (v : ℕ) {exit : List ℕ} {x : Placed} → Laid row w i (set list i v) exit x → 1 ≤ count_at w (4 * i)
    → Laid row w i list (set exit i (get_or list i 0)) x
unframed {row} {w} {i} list v {exit} {x} l c = record {
  aligned = l.aligned;
  as_long = length-set exit i _ ∙ l.as_long ∙ length-set list i v;
  beyond = λ k h. get_or-set_other exit i k _ 0 (λ e. omega arith) ∙ l.beyond k h ∙ get_or-set_other list i k v 0 (λ e. omega arith);
  below = λ m o s. let b = l.below m o s in record { takes = b.takes; list = overwritten list (map stored (offsets_below m s w (4 * i))) i v b.list };
}

-- ---- An open container.

module _ {row w : List ℕ} {c : ℕ} {entry now : List ℕ} {j left : ℕ} {run : Room} (g : Level row w c entry now j left run) (p : 0 < left) where
  pub level-turn : {x y : Room} {mid after : List ℕ} → Laid row w j now mid (room_placed x) → ((i : ℕ) → i < j → get_or mid i 0 ≡ get_or now i 0)
      → after ≡ set mid j (stored_of (begin_measured (kind_at w (4 * c)) (Bytes run.bytes) x.alignment))
      → room_placed y ≡ with_field (kind_at w (4 * c)) (room_placed run) (room_placed x) → IsPower y.alignment → y.bytes ≤ most
      → Level row w c entry after (j + count_at w (4 * j)) (left - count_at w (4 * j)) y
  level-turn {x} {y} {mid} {after} laid same put e q s = record {
    stands = g.stands;
    enters = g.enters;
    within = g.within;
    power = q;
    small = s;
    filling = filling-turn g.filling p (room_placed x) mid after laid put e;
    kept = λ i h. let b = g.filling.begun in
        ap (λ (z : List ℕ). get_or z i 0) put ∙ get_or-set_other mid j i _ 0 (λ d. omega arith) ∙ same i (omega arith) ∙ g.kept i h;
  }

-- A container that is entered, with zeros for the numbers of what it holds.
empty-room : (run : Room) → run.bytes ≡ 0 → run.alignment ≡ 1 → room_placed run ≡ placed_of no_room true
unfolding placed_of
empty-room run b a = ap₂ (λ (x y : ℕ). record { bytes = Bytes x; alignment = y; fits = true }) b a
    ∙ ap (λ x. record { bytes = x; alignment = 1; fits = true }) (sym (fit-le 0 (omega arith)))

module _ {row w : List ℕ} {c : ℕ} {list : List ℕ} where
  pub level-start : NodeAt w (4 * c) → Enters w (4 * c) → c + count_at w (4 * c) ≤ count_at w 0 → c + count_at w (4 * c) ≤ length list
      → Zeros list (c + 1) (count_at w (4 * c) - 1) → {run : Room} → run.bytes ≡ 0 → run.alignment ≡ 1
      → Level row w c list list (c + 1) (count_at w (4 * c) - 1) run
  level-start stands enters within room z {run} b a =
      let n = stands.some-node in
      record {
        stands = stands;
        enters = enters;
        within = within;
        power = subst IsPower (sym a) (omega arith, omega arith, refl);
        small = omega arith;
        filling = filling-start (subst (λ (at : ℕ). TreesAt w at (count_at w (4 * c) - 1)) (omega arith) (node-inner w (4 * c) stands)) (omega arith) z (empty-room run b a);
        kept = λ i h. refl;
      }

-- ---- The laid-out nodes.

-- What the pass over them asks of an array, a struct, or a union of `c - 1` members.
abbrev Passes : List ℕ → ℕ → ℕ → Type 0
Passes row c k = ((eqb k 24 || eqb k 25) ≡ false) × (sizeless_kind row k c false ≡ false) × (passes_kind k false ≡ false) × (bottom_after k false ≡ false)

enter-passes : (row : List ℕ) (c k : ℕ) → 28 ≤ k → k ≤ 30 → (k ≡ 30 → 1 < c) → Passes row c k
unfolding sizeless_kind passes_kind bottom_after
enter-passes row c k lo hi more = go (eqb k 28) refl (eqb k 29) refl
  where
    last : (k ≡ 28 → ⊥) → (k ≡ 29 → ⊥) → 30 ≡ k
    last p q = omega arith

    union : 1 < c → Passes row c 30
    union h = (refl, rw (ne_eqb c 1 (λ e. omega arith)), refl, refl)

    go : (t : Bool) → eqb k 28 ≡ t → (u : Bool) → eqb k 29 ≡ u → Passes row c k
    go true e u f = subst (Passes row c) (sym (eqb-true k 28 e)) (refl, refl, refl, refl)
    go false e true f = subst (Passes row c) (sym (eqb-true k 29 f)) (refl, refl, refl, refl)
    go false e false f =
        let d = last (eqb-false k 28 e) (eqb-false k 29 f) in
        subst (Passes row c) d (union (more (sym d)))

pub sought-enter : {row w : List ℕ} {n i : ℕ} → Sought row w n i false false → i < n → Enters w (4 * i) → Sought row w n (i + 1) false false
sought-enter {row} {w} {n} {i} g p e =
    let q = enter-passes row (count_at w (4 * i)) (kind_at w (4 * i)) e.0 e.1 e.2 in
    sought-kept g p q.0 {t = false} {u = false} refl (sym q.1) q.2 (sym q.3)

-- ---- The walk.

-- It begins in the root.
pub walking-first : {row w numbers : List ℕ} → NodeAt w 0 → Enters w 0 → count_at w 0 ≤ 2001 → length numbers ≡ count_at w 0 → Zeros numbers 0 (count_at w 0)
    → {o : Open} → o.container ≡ 0 → o.kind ≡ kind_at w 0 → o.stop ≡ count_at w 0 → o.next ≡ 1 → o.run.bytes ≡ 0 → o.run.alignment ≡ 1
    → Walking row w numbers o
unfolding Stack
walking-first {row} {w} {numbers} root enters few long z {o} ec ek es en eb ea =
    let n = root.some-node in
    let stop : o.stop ≡ o.container + count_at w (4 * o.container) = es ∙ zero-plus ∙ ap (λ (c : ℕ). c + count_at w (4 * c)) (sym ec) in
    record {
      first = numbers;
      depth = 0;
      entry = numbers;
      long = long;
      zeros = z;
      few = few;
      room = long;
      stack = (ec, refl);
      kind = ek ∙ ap (λ (c : ℕ). kind_at w (4 * c)) (sym ec);
      stops = stop;
      level = ap-level;
      sought = subst (λ (i : ℕ). Sought row w (count_at w 0) i false false) (sym en)
          (sought-enter (sought-first row w (count_at w 0) root refl) (omega arith) enters);
    }
  where
    zero-plus : count_at w 0 ≡ 0 + count_at w (4 * 0)
    zero-plus = omega arith

    start : Level row w 0 numbers numbers 1 (count_at w 0 - 1) o.run
    start = level-start root enters (omega arith) (omega arith) (λ k h. ap (λ (i : ℕ). get_or numbers i 0) (omega arith) ∙ z (1 + k) (omega arith)) eb ea

    ap-level : Level row w o.container numbers numbers o.next (o.stop - o.next) o.run
    ap-level = subst (λ (c : ℕ). Level row w c numbers numbers o.next (o.stop - o.next) o.run) (sym ec)
        (subst₂ (λ (j n : ℕ). Level row w 0 numbers numbers j n o.run) (sym en) (omega arith) start)

module _ {row w numbers : List ℕ} {o : Open} (g : Walking row w numbers o) where
  -- What it may rely on.
  pub walking-within : (o.stop ≤ count_at w 0) × (o.container < o.next) × (o.next ≤ o.stop) × (length numbers ≡ count_at w 0) × (4 * count_at w 0 ≤ length w)
  walking-within =
      let s = g.stops in
      let a = g.level.within in
      let b = g.level.filling.begun in
      let d = g.level.filling.goes_on in
      let n = g.level.stands.some-node in
      let t = g.sought.there.room in
      let u = g.sought.within in
      (omega arith, omega arith, omega arith, g.room, omega arith)

  module _ (p : o.next < o.stop) where
    left : 0 < o.stop - o.next
    left = omega arith

    pub walking-node : NodeAt w (4 * o.next)
    walking-node = filling-node g.level.filling left

    pub walking-count : (1 ≤ count_at w (4 * o.next)) × (count_at w (4 * o.next) ≤ o.stop - o.next)
    walking-count = let b = filling-within g.level.filling left in (b.0, b.1)

    -- A node more that is simple.
    pub walking-put : {x y : Room} → SimpleRoom row w (4 * o.next) x → {after : List ℕ} → AddedRoom o.kind o.run x numbers after o.next y
        → {k : ℕ} → k ≡ o.next + count_at w (4 * o.next)
        → Walking row w after (record { container = o.container; kind = o.kind; stop = o.stop; next = k; run = y })
    walking-put {x} {y} simple {after} added {k} e =
        let b = walking-within in
        let laid = simple-laid row w o.next walking-node simple.simple numbers (filling-zeros g.level.filling left) simple.takes in
        let turned = level-turn g.level left laid (λ i h. refl) (added.list ∙ ap (λ (h : ℕ). set numbers o.next (stored_of (begin_measured h (Bytes o.run.bytes) x.alignment))) g.kind)
        (added.takes ∙ ap (λ (h : ℕ). with_field h (room_placed o.run) (room_placed x)) g.kind) added.power added.small in
        record {
          first = g.first;
          depth = g.depth;
          entry = g.entry;
          long = g.long;
          zeros = g.zeros;
          few = g.few;
          room = ap length added.list ∙ length-set numbers o.next _ ∙ g.room;
          stack = g.stack;
          kind = g.kind;
          stops = g.stops;
          level = subst₂ (λ (j n : ℕ). Level row w o.container g.entry after j n y) (sym e) (omega arith) turned;
          sought = subst (λ (i : ℕ). Sought row w (count_at w 0) i false false) (sym e) (sought-simple g.sought (omega arith) simple.sized);
        }

    -- A container that is entered.
    pub walking-enter : Enters w (4 * o.next) → {after : List ℕ} → after ≡ set numbers o.next ((256 * o.run.bytes + o.run.alignment) * 2048 + o.container)
        → {r : Open} → r.container ≡ o.next → r.kind ≡ kind_at w (4 * o.next) → r.stop ≡ o.next + count_at w (4 * o.next) → r.next ≡ o.next + 1
        → r.run.bytes ≡ 0 → r.run.alignment ≡ 1 → Walking row w after r
    unfolding Stack frame
    walking-enter enters {after} put {r} ec ek es en eb ea =
        let b = walking-within in
        let n = walking-count in
        record {
          first = g.first;
          depth = suc g.depth;
          entry = after;
          long = g.long;
          zeros = g.zeros;
          few = g.few;
          room = ap length put ∙ length-set numbers o.next _ ∙ g.room;
          stack = subst (λ (c : ℕ). Stack row w g.first (suc g.depth) c after) (sym ec) around;
          kind = ek ∙ ap (λ (c : ℕ). kind_at w (4 * c)) (sym ec);
          stops = es ∙ ap (λ (c : ℕ). c + count_at w (4 * c)) (sym ec);
          level = subst (λ (c : ℕ). Level row w c after after r.next (r.stop - r.next) r.run) (sym ec)
              (subst₂ (λ (j n : ℕ). Level row w o.next after after j n r.run) (sym en) (omega arith) start);
          sought = subst (λ (i : ℕ). Sought row w (count_at w 0) i false false) (sym en) (sought-enter g.sought (omega arith) enters);
        }
      where
        around : Around row w (Stack row w g.first g.depth) o.next after
        around = record {
          parent = o.container;
          before = g.entry;
          list = numbers;
          left = o.stop - o.next;
          run = o.run;
          above = walking-within.1;
          some_left = left;
          level = g.level;
          puts = put;
          around = g.stack;
        }

        start : Level row w o.next after after (o.next + 1) (count_at w (4 * o.next) - 1) r.run
        start =
            let b = walking-within in
            let n = walking-count in
            let l : length after ≡ length numbers = ap length put ∙ length-set numbers o.next _ in
            level-start walking-node enters (omega arith) (omega arith)
            (λ k h. ap (λ (z : List ℕ). get_or z (o.next + 1 + k) 0) put ∙ get_or-set_other numbers o.next (o.next + 1 + k) _ 0 (λ e. omega arith)
            ∙ filling-zeros g.level.filling left k h) eb ea

  -- The container in which it stands has come to its end.
  module _ (p : o.stop ≤ o.next) where
    none_left : o.stop - o.next ≤ 0
    none_left = omega arith

    pub ended-laid : {x : Room} → EndedRoom o.kind (first_at w (4 * o.container)) o.run x → Laid row w o.container g.entry numbers (room_placed x)
    ended-laid {x} ended =
        let lo = g.level.enters.0 in
        walk_end row w o.container g.level.stands (omega arith) g.level.enters.1 g.level.filling none_left
        (ended.takes ∙ ap (λ (k : ℕ). ended_by k (first_at w (4 * o.container)) (room_placed o.run)) g.kind)

    -- The root.
    pub walking-end : o.container ≡ 0 → {x : Room} → EndedRoom o.kind (first_at w (4 * o.container)) o.run x → Settled row w numbers x
    unfolding Stack
    walking-end e {x} ended =
        let b = walking-within in
        let s = g.stops ∙ ap (λ (c : ℕ). c + count_at w (4 * c)) e in
        record {
          first = g.first;
          long = g.long;
          zeros = g.zeros;
          power = ended.power;
          laid = subst₂ (λ (c : ℕ) (l : List ℕ). Laid row w c l numbers (room_placed x)) e (root g.depth g.stack) (ended-laid ended);
          sized = sought-end g.sought (omega arith) false refl;
        }
      where
        root : (d : ℕ) → Stack row w g.first d o.container g.entry → g.entry ≡ g.first
        root zero s = s.1
        root (suc d) s = let a = s.above in absurd (omega arith)

pub ended-as : {k : ℕ} (w : List ℕ) {c : ℕ} {run x : Room} → c ≡ 0 → EndedRoom k (first_at w 0) run x → EndedRoom k (first_at w (4 * c)) run x
ended-as {k} w {c} {run} {x} e h = subst (λ (i : ℕ). EndedRoom k (first_at w (4 * i)) run x) (sym e) h

-- The container around the one in which it stands.
pub record Outer (row w first : List ℕ) (c : ℕ) (entry : List ℕ) : Type 0 where
  pub depth : ℕ
  pub around : Around row w (Stack row w first depth) c entry

outer-of : {row w first : List ℕ} {c : ℕ} {entry : List ℕ} (d : ℕ) → Stack row w first d c entry → 0 < c → Outer row w first c entry
unfolding Stack
outer-of zero s p = let e = s.0 in absurd (omega arith)
outer-of (suc d) s p = record { depth = d; around = s }

module _ {row w numbers : List ℕ} {o : Open} (g : Walking row w numbers o) (h : 0 < o.container) where
  pub walking-outer : Outer row w g.first o.container g.entry
  walking-outer = outer-of g.depth g.stack h

  abbrev around : Around row w (Stack row w g.first walking-outer.depth) o.container g.entry
  around = walking-outer.around

  listed : length around.list ≡ count_at w 0
  listed = sym (length-set around.list o.container _) ∙ sym (ap length around.puts) ∙ sym g.level.filling.as_long ∙ g.room

  pub walking-word : get_or numbers o.container 0 ≡ frame around.run around.parent
  walking-word =
      let b = walking-within g in
      let l = listed in
      g.level.kept o.container (omega arith) ∙ ap (λ (z : List ℕ). get_or z o.container 0) around.puts
      ∙ get_or-set_same around.list o.container _ 0 (omega arith)

  small-parent : around.parent < 2048
  small-parent =
      let b = walking-within g in
      let u = around.above in
      let f = g.few in
      let n = g.level.filling.begun in
      omega arith

  -- What the word tells.
  pub outer-index : get_or numbers o.container 0 % 2048 ≡ around.parent
  outer-index = ap (λ (x : ℕ). x % 2048) walking-word ∙ frame-index around.run around.parent small-parent

  pub outer-bytes : get_or numbers o.container 0 / 524288 ≡ around.run.bytes
  outer-bytes = ap (λ (x : ℕ). x / 524288) walking-word ∙ frame-bytes around.run around.parent small-parent around.level.power.1

  pub outer-alignment : get_or numbers o.container 0 / 2048 % 256 ≡ around.run.alignment
  outer-alignment = ap (λ (x : ℕ). x / 2048 % 256) walking-word ∙ frame-alignment around.run around.parent small-parent around.level.power.1

  pub outer-within : {i : ℕ} → i ≡ around.parent → (i < o.container) × (1 ≤ count_at w (4 * i)) × (i + count_at w (4 * i) ≤ count_at w 0)
  outer-within {i} e = subst (λ (p : ℕ). (p < o.container) × (1 ≤ count_at w (4 * p)) × (p + count_at w (4 * p) ≤ count_at w 0)) (sym e)
      (around.above, around.level.stands.some-node, around.level.within)

  pub outer-added : {x y : Room} {after : List ℕ}
      → AddedRoom (kind_at w (4 * (get_or numbers o.container 0 % 2048))) (record { bytes = get_or numbers o.container 0 / 524288; alignment = get_or numbers o.container 0 / 2048 % 256 })
      x numbers after o.container y
      → AddedRoom (kind_at w (4 * around.parent)) around.run x numbers after o.container y
  outer-added {x} {y} {after} a =
      subst₂ (λ (i : ℕ) (r : Room). AddedRoom (kind_at w (4 * i)) r x numbers after o.container y) outer-index
      (ap₂ (λ (b c : ℕ). record { bytes = b; alignment = c }) outer-bytes outer-alignment) a

  -- Before the container the list is as it was when the one around it began to wait.
  as_before : (i : ℕ) → i < o.container → (v : ℕ) → get_or (set numbers o.container v) i 0 ≡ get_or around.list i 0
  as_before i l v =
      get_or-set_other numbers o.container i v 0 (λ e. omega arith) ∙ g.level.kept i (omega arith) ∙ ap (λ (z : List ℕ). get_or z i 0) around.puts
      ∙ get_or-set_other around.list o.container i _ 0 (λ e. omega arith)

  module _ (p : o.stop ≤ o.next) {x : Room} (ended : EndedRoom o.kind (first_at w (4 * o.container)) o.run x) where
    waited : Laid row w o.container around.list (set numbers o.container (get_or around.list o.container 0)) (room_placed x)
    waited = unframed around.list _ (subst (λ (l : List ℕ). Laid row w o.container l numbers (room_placed x)) around.puts (ended-laid g p ended))
        g.level.stands.some-node

    pub walking-close : {y : Room} {after : List ℕ} → AddedRoom (kind_at w (4 * around.parent)) around.run x numbers after o.container y
        → {r : Open} → r.container ≡ around.parent → r.kind ≡ kind_at w (4 * around.parent) → r.stop ≡ around.parent + count_at w (4 * around.parent)
        → r.next ≡ o.next → r.run ≡ y → Walking row w after r
    walking-close {y} {after} added {r} ec ek es en er = record {
      first = g.first;
      depth = walking-outer.depth;
      entry = around.before;
      long = g.long;
      zeros = g.zeros;
      few = g.few;
      room = ap length added.list ∙ length-set numbers o.container _ ∙ g.room;
      stack = subst (λ (c : ℕ). Stack row w g.first walking-outer.depth c around.before) (sym ec) around.around;
      kind = ek ∙ ap (λ (c : ℕ). kind_at w (4 * c)) (sym ec);
      stops = es ∙ ap (λ (c : ℕ). c + count_at w (4 * c)) (sym ec);
      level = subst₂ (λ (c : ℕ) (z : Room). Level row w c around.before after r.next (r.stop - r.next) z) (sym ec) (sym er) there;
      sought = subst (λ (i : ℕ). Sought row w (count_at w 0) i false false) (sym en) g.sought;
    }
      where
        turned : Level row w around.parent around.before after (o.container + count_at w (4 * o.container)) (around.left - count_at w (4 * o.container)) y
        turned = level-turn around.level around.some_left waited (λ i l. as_before i l _)
            (added.list ∙ sym (set-set numbers o.container _ _)) added.takes added.power added.small

        there : Level row w around.parent around.before after r.next (r.stop - r.next) y
        there =
            let b = walking-within g in
            let s = g.stops in
            let d = around.level.filling.goes_on in
            let n = around.level.stands.some-node in
            subst₂ (λ (j l : ℕ). Level row w around.parent around.before after j l y) (omega arith) (omega arith) turned

-- ---- The walk comes to an end: a step goes on to a later node, and a container that is closed gives way to one before it.

abbrev pub rank : List ℕ → Open → ℕ
rank w o = (count_at w 0 - o.next) * 2048 + o.container
