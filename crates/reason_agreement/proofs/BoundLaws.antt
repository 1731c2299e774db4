-- How long a reason can be, by the nodes and name bytes of the two trees.
use Prim.Native.Nat.{ℕ, zero, suc, ◌+◌, ◌*◌, ◌≤◌, ◌<◌}
use native.Mathlib.Omega.{arith}
use mathlib.Core.Path.{◌≡◌, refl, sym, ap, ◌∙◌}
use mathlib.Core.Bool.{Bool, true, false, cond, true≢false}
use mathlib.Core.List.{List, [], ◌∷◌, ◌++◌}
use mathlib.Core.Logic.{◌⊎◌, inl, inr}
use Rattle.std.specs.Prelude.{Option, Some, None}
use lib.Dec.{leb}
use lib.ListN as N
use lib.ListN.{length-append}
use borrow.Author.Tests.{ltb-true, leb-true}
use Rattle.kinds.specs.Byte.{byte, bytes}
use Rattle.kinds.specs.Compare.{bits}
use Rattle.kinds.specs.Parse.{max_u64, max_u8}
use Rattle.kinds.specs.Print.{decimal}
use Rattle.kinds.specs.Refusal.{number}
use Rattle.kinds.specs.Sheet.{Holds, names_of, max_nodes, max_names}
use Rattle.kinds.specs.Sound.{valid_label}
use Rattle.kinds.specs.Tree as T
use Rattle.kinds.specs.Tree.{Label, Trees, end, node, primitive, bit_field, typed_bit_field, pointer, atomic, array, struct, union, is_end}
use Rattle.kinds.specs.declared.NestingLevel.{NestingLevel}
use Rattle.kinds.specs.declared.NestingLevel.TheVariants.{Top}
use Rattle.kinds.specs.declared.Refusal.{Refusal}
use Rattle.kinds.specs.declared.Refusal.TheVariants as R
use Rattle.kinds.proofs.TableLaws.{both}
use Rattle.sheet.specs.Answer.{Held, refused, holding, held, paired, held_both, of_held_both, of_sheets}
use Rattle.static_str.proofs.NumberLaws.{digits-below, decimal-few, decimal-fits}
use Rattle.reason.specs.Answer.{measured, reason_len, reason_answer}
use Rattle.reason.specs.Reason.{Difference, kind, size, offset, length, name, count, Reason, offset_of, length_of, items, first_difference, dotted, path_text, value_text, values_text, difference_text, reason_text}
use Rattle.std.specs.Prelude.{Result, Ok, Err}
use Rattle.reason.proofs.PathLaws.{dotted-length}
use Rattle.bounds.proofs.HeldLaws.{held-refused, held-holds}
use Rattle.reason_agreement.specs.Along.{item_at, follow, NodesDiffer, Differ}
use Rattle.reason_agreement.specs.Limits.{max_reason}
use Rattle.reason_agreement.proofs.CallLaws.{length-says, whole, nothing}
use Rattle.reason_agreement.proofs.KindLaws.{valid-parts}
use Rattle.reason_agreement.proofs.RightLaws.{follow-valid, found_right}

-- ---- Numbers.

number_digits : (n : ℕ) → n ≤ max_u64 → N.length (decimal n) ≤ 20
number_digits n h = decimal-fits n (low h)
  where
    low : n ≤ 18446744073709551615 → n < 18446744073709551616
    low p = omega arith

-- ---- Values.

value-length : (s : List ℕ) → N.length s ≤ max_names → N.length (value_text s) ≤ N.length s + 6
unfolding value_text
value-length s h = omega (arith, length-append (decimal (N.length s)) (byte ":" ∷ s), digits-below 3 (N.length s) (omega arith))

-- The most bytes of what follows the colon.
abbrev most_values : ℕ
most_values = 4016

values_length : (w s t : List ℕ) → N.length (values_text w s t) ≡ N.length w + N.length (value_text s) + N.length (value_text t)
unfolding values_text
values_length w s t = omega (arith, length-append w (value_text s ++ value_text t), length-append (value_text s) (value_text t))

numbers-length : (w : List ℕ) (a b : ℕ) → N.length w ≤ 6 → a ≤ max_u64 → b ≤ max_u64 → N.length (values_text w (decimal a) (decimal b)) ≤ most_values
numbers-length w a b h p q =
    let x = number_digits a p in
    let y = number_digits b q in
    let s = value-length (decimal a) (omega arith) in
    let t = value-length (decimal b) (omega arith) in
    omega (arith, values_length w (decimal a) (decimal b))

-- The numbers of a valid node fit into 64 bits.
record Fits (l : Label) : Type 0 where
  kinds : T.kind l ≤ max_u64
  sizes : bits l ≤ max_u64
  offsets : offset_of l ≤ max_u64
  lengths : length_of l ≤ max_u64

fits : (l : Label) → valid_label l ≡ true → Fits l
unfolding valid_label T.kind bits offset_of length_of
fits (primitive p) h = let k = ltb-true p 24 h in record { kinds = omega arith; sizes = omega arith; offsets = omega arith; lengths = omega arith }
fits (bit_field n) h = let k = leb-true n max_u8 h in record { kinds = omega arith; sizes = omega arith; offsets = omega arith; lengths = omega arith }
fits (typed_bit_field o n) h =
    let a = both (leb o max_u64) (leb n max_u8) h in
    let j = leb-true o max_u64 a.0 in
    let k = leb-true n max_u8 a.1 in
    record { kinds = omega arith; sizes = omega arith; offsets = j; lengths = omega arith }
fits pointer h = record { kinds = omega arith; sizes = omega arith; offsets = omega arith; lengths = omega arith }
fits atomic h = record { kinds = omega arith; sizes = omega arith; offsets = omega arith; lengths = omega arith }
fits (array n) h = record { kinds = omega arith; sizes = omega arith; offsets = omega arith; lengths = leb-true n max_u64 h }
fits (struct s) h = record { kinds = omega arith; sizes = omega arith; offsets = omega arith; lengths = omega arith }
fits (union s) h = record { kinds = omega arith; sizes = omega arith; offsets = omega arith; lengths = omega arith }
fits T.none h = record { kinds = omega arith; sizes = omega arith; offsets = omega arith; lengths = omega arith }

items-count : (t : Trees) → items t ≤ T.count t
unfolding items T.count
items-count end = omega arith
items-count (node l cs ts) = omega (arith, items-count ts)

-- A node of a sheet's tree.
record Node (l : Label) (cs : Trees) : Type 0 where
  label : valid_label l ≡ true
  few-nodes : T.count cs ≤ max_nodes
  few-names : N.length (T.name l) ≤ max_names

difference-length : (d : Difference) (l : Label) (cs : Trees) (m : Label) (ds : Trees) → Node l cs → Node m ds → NodesDiffer d l cs m ds → N.length (difference_text d) ≤ most_values
unfolding difference_text
difference-length (kind a b) l cs m ds p q h =
    let x = (fits l p.label).kinds in let y = (fits m q.label).kinds in let e = h.0 in let f = h.1 in
    numbers-length (bytes "kind") a b (omega arith) (omega arith) (omega arith)
difference-length (size a b) l cs m ds p q h =
    let x = (fits l p.label).sizes in let y = (fits m q.label).sizes in let e = h.2 in let f = h.3 in
    numbers-length (bytes "size") a b (omega arith) (omega arith) (omega arith)
difference-length (offset a b) l cs m ds p q h =
    let x = (fits l p.label).offsets in let y = (fits m q.label).offsets in let e = h.3 in let f = h.4 in
    numbers-length (bytes "offset") a b (omega arith) (omega arith) (omega arith)
difference-length (length a b) l cs m ds p q h =
    let x = (fits l p.label).lengths in let y = (fits m q.label).lengths in let e = h.2 in let f = h.3 in
    numbers-length (bytes "length") a b (omega arith) (omega arith) (omega arith)
difference-length (name s t) l cs m ds p q h =
    let e = ap N.length h.3 in
    let f = ap N.length h.4 in
    let x = p.few-names in
    let y = q.few-names in
    let i = value-length s (omega arith) in
    let j = value-length t (omega arith) in
    omega (arith, values_length (bytes "name") s t)
difference-length (count a b) l cs m ds p q h =
    let e = h.6 in
    let f = h.7 in
    let x = p.few-nodes in
    let y = q.few-nodes in
    let i = items-count cs in
    let j = items-count ds in
    numbers-length (bytes "count") a b (omega arith) (omega arith) (omega arith)

-- ---- Paths.

follow-end : (p : List ℕ) → follow p end ≡ end
unfolding follow
follow-end [] = refl
follow-end (i ∷ p) = refl

-- An item with the number `i` has as many nodes before it at least.
item_count : (i : ℕ) (t : Trees) → is_end (item_at i t) ≡ false → T.count (item_at i t) + i ≤ T.count t
unfolding item_at T.count is_end
item_count i end h = absurd (true≢false h)
item_count zero (node l cs ts) h = omega arith
item_count (suc i) (node l cs ts) h = omega (arith, item_count i ts h)

item-names : (i : ℕ) (t : Trees) → N.length (names_of (item_at i t)) ≤ N.length (names_of t)
unfolding item_at names_of
item-names i end = omega arith
item-names zero (node l cs ts) = omega arith
item-names (suc i) (node l cs ts) = omega (arith, item-names i ts, length-append (T.name l) (names_of cs ++ names_of ts), length-append (names_of cs) (names_of ts))

-- Two bytes for each node that the path passes, at most.
follow-count : (p : List ℕ) (t : Trees) → is_end (follow p t) ≡ false → N.length (dotted p) + 2 * T.count (follow p t) ≤ 2 * T.count t
unfolding follow T.count is_end dotted
follow-count [] t h = omega arith
follow-count (i ∷ p) end h = absurd (true≢false h)
follow-count (i ∷ p) (node l cs ts) h = go (is_end (item_at i cs)) refl (follow-count p (item_at i cs) h)
  where
    ends : (t : Trees) → is_end t ≡ true → is_end (follow p t) ≡ true
    ends end e = ap is_end (follow-end p)
    ends (node m ds us) e = absurd (true≢false (sym e))

    go : (y : Bool) → is_end (item_at i cs) ≡ y → N.length (dotted p) + 2 * T.count (follow p (item_at i cs)) ≤ 2 * T.count (item_at i cs)
        → N.length (dotted (i ∷ p)) + 2 * T.count (follow p (item_at i cs)) ≤ 2 * suc (T.count cs + T.count ts)
    go true e k = absurd (true≢false (sym (ends (item_at i cs) e) ∙ h))
    go false e k = omega (arith, dotted-length i p, decimal-few i, item_count i cs e)

follow-names : (p : List ℕ) (t : Trees) → N.length (names_of (follow p t)) ≤ N.length (names_of t)
unfolding follow names_of
follow-names [] t = omega arith
follow-names (i ∷ p) end = omega arith
follow-names (i ∷ p) (node l cs ts) =
    omega (arith, follow-names p (item_at i cs), item-names i cs, length-append (T.name l) (names_of cs ++ names_of ts), length-append (names_of cs) (names_of ts))

path-length : (p : List ℕ) (k : ℕ) → N.length (dotted p) ≤ suc k → N.length (path_text p) ≤ k
unfolding dotted path_text
path-length [] k h = omega arith
path-length (i ∷ p) k h = omega arith

-- ---- Reasons.

-- What a node to which a path leads has of its tree.
record Led (p : List ℕ) (l : Label) (cs : Trees) : Type 0 where
  here : Node l cs
  short : N.length (path_text p) ≤ 3999

led : (w s : List ℕ) (t : Trees) → Holds w s t → (p : List ℕ) (l : Label) (cs ts : Trees) → follow p t ≡ node l cs ts → Led p l cs
unfolding T.count names_of is_end
led w s t h p l cs ts e =
    let c = follow-count p t (ap is_end e) in
    let d = ap T.count e in
    let n = follow-names p t in
    let o = ap (λ x. N.length (names_of x)) e in
    let a = length-append (T.name l) (names_of cs ++ names_of ts) in
    let few = h.few-nodes in
    let names = h.few-names in
    record {
      here = record { label = (valid-parts l cs ts (rw e at (follow-valid p t h.valid-tree))).label; few-nodes = omega arith; few-names = omega arith };
      short = path-length p 3999 (omega arith);
    }

pub tree-bound : (all : Bool) (v : NestingLevel) (aw an bw bn : List ℕ) (t u : Trees) → Holds aw an t → Holds bw bn u → (r : Reason) → first_difference all v t u ≡ Some r
    → N.length (reason_text r) ≤ max_reason
unfolding reason_text
tree-bound all v aw an bw bn t u a b r h =
    go (follow r.path t) refl (follow r.path u) refl (found_right all v r.path r.differs t u a.valid-tree b.valid-tree h)
  where
    go : (x : Trees) → follow r.path t ≡ x → (y : Trees) → follow r.path u ≡ y → Differ r.differs x y
        → N.length (path_text r.path ++ (byte ":" ∷ difference_text r.differs)) ≤ max_reason
    go end e y f d = absurd d
    go (node l cs ts) e end f d = absurd d
    go (node l cs ts) e (node m ds us) f d =
        let p = led aw an t a r.path l cs ts e in
        let q = led bw bn u b r.path m ds us f in
        let s = p.short in
        omega (arith, length-append (path_text r.path) (byte ":" ∷ difference_text r.differs), difference-length r.differs l cs m ds p.here q.here d)

pub most : (all : Bool) (aw an bw bn : List ℕ) (n : ℕ) → reason_len all aw an bw bn ≡ Ok (Some n) → n ≤ max_reason
most all aw an bw bn n h =
    let m = length-says all aw an bw bn h in
    let l = m.long in
    omega (arith, tree-bound all Top aw an bw bn m.first m.second (held-holds aw an m.first m.first-held) (held-holds bw bn m.second m.second-held) m.reason m.found)

-- Any output of that length has room.
pub enough : (all : Bool) (aw an bw bn out : List ℕ) → max_reason ≤ N.length out → reason_answer all aw an bw bn (N.length out) ≡ reason_len all aw an bw bn
enough all aw an bw bn out l = go (reason_len all aw an bw bn) refl
  where
    go : (x : Result (Option ℕ) Refusal) → reason_len all aw an bw bn ≡ x → reason_answer all aw an bw bn (N.length out) ≡ reason_len all aw an bw bn
    go (Ok (Some n)) e = (whole all aw an bw bn out n e (omega (arith, most all aw an bw bn n e))).answer ∙ sym e
    go (Ok None) e = (nothing all aw an bw bn out (λ n h. let z : true ≡ false = cc in true≢false z)).0
    go (Err r) e = (nothing all aw an bw bn out (λ n h. let z : true ≡ false = cc in true≢false z)).0

-- The length itself is refused by 3 or 4 alone.
other-refusal : {r : Refusal} → (r ≡ R.NotASheet) ⊎ (r ≡ R.BadName) → ◌≡◌ {A = Result (Option ℕ) Refusal} (Err r) (Err R.OutputTooShort) → ⊥
other-refusal (inl e) h = let z : true ≡ false = cc in true≢false z
other-refusal (inr e) h = let z : true ≡ false = cc in true≢false z

length-never : (all : Bool) (aw an bw bn : List ℕ) → reason_len all aw an bw bn ≡ Err R.OutputTooShort → ⊥
unfolding reason_len of_sheets held_both measured
length-never all aw an bw bn = go (held aw an) refl (held bw bn) refl
  where
    either : {r q : Refusal} → (r ≡ R.NotASheet) ⊎ (r ≡ R.BadName) → (q ≡ R.NotASheet) ⊎ (q ≡ R.BadName) → (b : Bool) → ◌≡◌ {A = Result (Option ℕ) Refusal} (Err (cond b r q)) (Err R.OutputTooShort) → ⊥
    either x y true h = other-refusal x h
    either x y false h = other-refusal y h

    answer : (o : Option Reason) → measured o ≡ Err R.OutputTooShort → ⊥
    answer None h = let z : true ≡ false = cc in true≢false z
    answer (Some r) h = let z : true ≡ false = cc in true≢false z

    go : (h : Held) → held aw an ≡ h → (k : Held) → held bw bn ≡ k
        → of_held_both Err (λ t u. measured (first_difference all Top t u)) (paired h k) ≡ Err R.OutputTooShort → ⊥
    go (refused r) e (refused q) f h = either (held-refused aw an e) (held-refused bw bn f) (leb (number r) (number q)) h
    go (refused r) e (holding u) f h = other-refusal (held-refused aw an e) h
    go (holding t) e (refused q) f h = other-refusal (held-refused bw bn f) h
    go (holding t) e (holding u) f h = answer (first_difference all Top t u) h

pub never-short : (all : Bool) (aw an bw bn out : List ℕ) → max_reason ≤ N.length out → reason_answer all aw an bw bn (N.length out) ≡ Err R.OutputTooShort → ⊥
never-short all aw an bw bn out l h = length-never all aw an bw bn (sym (enough all aw an bw bn out l) ∙ h)
