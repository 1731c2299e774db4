-- What is left after a type, or after the fields of a container, is the end of the text before it.
use Prim.Native.Nat.{ℕ, zero, suc, ◌+◌, ◌-◌, ◌≤◌, ◌<◌}
use mathlib.Core.Path.{◌≡◌, refl, sym, ap}
use mathlib.Core.Bool.{Bool, true, false}
use mathlib.Core.List.{List, [], ◌∷◌}
use lib.Dec.{eqb}
use lib.ListN.{length, drop, length-drop}
use lib.Seq.{drop-length}
use native.Mathlib.Omega.{arith}
use Rattle.kinds.specs.Container.{end_byte, same_container}
use Rattle.kinds.specs.Expect.{Expected, remaining, mismatch, skip_items}
use Rattle.kinds.specs.Parse as R
use Rattle.kinds.specs.Parse.{Parsed, empty, encoding, container_end, array_end, refused, Items, items, items_refused}
use Rattle.kinds.specs.Parse.{Encoded, encoded, not_encoded, strip_leading_qualifiers, encoding_or_none, parse_encoding_or_none, parse}
use Rattle.kinds.specs.Parse.{begin, leaf, held, item, close_item, contained, next_item, add_item, parse_inner, parse_items, start, max_u64}
use Rattle.kinds.specs.Tree.{Label, Trees, end, node, array}
use Rattle.kinds.specs.declared.ContainerKind.{ContainerKind}
use Rattle.kinds.specs.declared.ErrorKind.TheVariants.{WrongEndArray, Unknown}
use Rattle.parser.proofs.PlaceLaws.{strip-leaves}
use Rattle.parser.proofs.RestLaws.{RestOf, rest_all, rest-later, rest-shorter, rest-of-rest, unread-at}
use Rattle.numbers.proofs.NumberLaws.{LeftOf, left-number}
use Rattle.names.proofs.NameLaws.{NamedOf, name-found}
use Rattle.codes.proofs.TokenLaws.{Simple, is-primitive, is-bit-field, is-typed, is-refused, simple-complex, simple-object, simple-number}
use Rattle.skip.specs.Answer.{skipped_at, encoding_at}
use Rattle.std.specs.Prelude.{Option, Some, None, Result, Ok, Err}
use Rattle.kinds.specs.declared.ParseError.{ParseError}

-- `t` is the end of `s`, and a byte at least was read before it.
abbrev Ahead : List ℕ → List ℕ → Type 0
Ahead s t = RestOf s t × (length t < length s)

ahead : {b : ℕ} {s t : List ℕ} → RestOf s t → Ahead (b ∷ s) t
ahead r = let h = rest-shorter r in (rest-later r, omega arith)

ahead-on : {s t u : List ℕ} → Ahead s t → RestOf t u → Ahead s u
ahead-on a r = let h = rest-shorter r in (rest-of-rest a.0 r, omega (arith, a.1))

abbrev PartOf : List ℕ → Parsed → Type 0
PartOf s empty = Unit {0}
PartOf s (encoding l cs t) = Ahead s t
PartOf s (container_end k t) = RestOf s t
PartOf s (array_end t) = RestOf s t
PartOf s (refused e t) = RestOf s t

abbrev FieldsOf : List ℕ → Items → Type 0
FieldsOf s (items ts t) = RestOf s t
FieldsOf s (items_refused e t) = RestOf s t

part-simple : (b : ℕ) {s : List ℕ} {q : Parsed} → Simple s q → PartOf (b ∷ s) q
part-simple b (is-primitive p r) = ahead r
part-simple b (is-bit-field n r) = ahead r
part-simple b (is-typed o n p r) = ahead r.rest
part-simple b (is-refused e r) = rest-later r

part_held : (b : ℕ) (l : Label) (s : List ℕ) (q : Parsed) → PartOf s q → PartOf (b ∷ s) (held l s q)
unfolding held
part_held b l s empty r = ahead rest_all
part_held b l s (encoding m ds t) r = ahead r.0
part_held b l s (container_end k t) r = ahead rest_all
part_held b l s (array_end t) r = ahead rest_all
part_held b l s (refused e t) r = rest-later r

part-close : (n : ℕ) (m : Label) (ds : Trees) (s t : List ℕ) → Ahead s t → PartOf s (close_item n m ds t)
unfolding close_item
part-close n m ds s [] r = r.0
part-close n m ds s (b ∷ t) r = go (eqb b 93)
  where
    go : (d : Bool) → PartOf s (elim d [ true ↦ encoding (array n) (node m ds end) t | false ↦ refused WrongEndArray (b ∷ t) ])
    go true = ahead-on r (rest-later rest_all)
    go false = r.0

part-item : (n : ℕ) (s t : List ℕ) (q : Parsed) → Ahead s t → PartOf t q → PartOf s (item n q)
unfolding item
part-item n s t empty r p = record { taken = length s; within = omega arith; is = sym (drop-length s) }
part-item n s t (encoding m ds u) r p = part-close n m ds s u (ahead-on r p.0)
part-item n s t (container_end k u) r p = rest-of-rest r.0 p
part-item n s t (array_end u) r p = ahead-on r p
part-item n s t (refused e u) r p = rest-of-rest r.0 p

part-contained : (k : ContainerKind) (m s t : List ℕ) (i : Items) → Ahead s t → FieldsOf t i → PartOf s (contained k m i)
unfolding contained
part-contained k m s t (items ts u) r p = ahead-on r p
part-contained k m s t (items_refused e u) r p = rest-of-rest r.0 p

module _ (inner : List ℕ → Parsed) (fields : ContainerKind → List ℕ → Items) (x : (t : List ℕ) → PartOf t (inner t))
    (y : (k : ContainerKind) (t : List ℕ) → FieldsOf t (fields k t)) where
  part-array : (b : ℕ) (s : List ℕ) (q : R.Number) → LeftOf s q → PartOf (b ∷ s) (elim q [ R.value n t ↦ item n (inner t) | R.no_number e t ↦ refused e t ])
  part-array b s (R.value n t) l = part-item n (b ∷ s) t (inner t) (ahead l) (x t)
  part-array b s (R.no_number e t) l = rest-later l

  part-container : (b : ℕ) (k : ContainerKind) (s : List ℕ) (q : R.Named) → NamedOf [] s q
      → PartOf (b ∷ s) (elim q [ R.named m t ↦ contained k m (fields k t) | R.unnamed e t ↦ refused e t ])
  part-container b k s (R.named m t) f =
      part-contained k m (b ∷ s) t (fields k t) (ahead (rest-of-rest (record { taken = f.size; within = f.inside; is = refl }) f.after)) (y k t)
  part-container b k s (R.unnamed e t) f = rest-later f

  part-begin : (b : ℕ) (S : R.Start) (s : List ℕ) → PartOf (b ∷ s) (begin b S s inner fields)
  unfolding begin leaf
  part-begin b (R.single p) s = ahead rest_all
  part-begin b R.complex s = part-simple b (simple-complex s)
  part-begin b R.object s = part-simple b (simple-object s)
  part-begin b R.bits s = part-simple b (simple-number s (R.parse_number max_u64 s) (left-number max_u64 s))
  part-begin b (R.indirection l) s = part_held b l s (inner s) (x s)
  part-begin b R.open_array s = part-array b s (R.parse_number max_u64 s) (left-number max_u64 s)
  part-begin b R.close_array s = rest-later rest_all
  part-begin b (R.open_container k) s = part-container b k s (R.parse_name k [] s) (name-found k [] s)
  part-begin b (R.close_container k) s = rest-later rest_all
  part-begin b R.nothing s = rest-later rest_all

fields-add : (m : Label) (ds : Trees) (s t : List ℕ) (i : Items) → RestOf s t → FieldsOf t i → FieldsOf s (add_item m ds i)
unfolding add_item
fields-add m ds s t (items ts u) r p = rest-of-rest r p
fields-add m ds s t (items_refused e u) r p = rest-of-rest r p

fields-next : (k : ContainerKind) (s : List ℕ) (q : Parsed) (more : List ℕ → Items) → PartOf s q → ((t : List ℕ) → FieldsOf t (more t))
    → FieldsOf s (next_item k q more)
unfolding next_item
fields-next k s empty more p f = record { taken = length s; within = omega arith; is = sym (drop-length s) }
fields-next k s (encoding m ds t) more p f = fields-add m ds s t (more t) p.0 (f t)
fields-next k s (container_end j t) more p f = go (same_container k j)
  where
    go : (d : Bool) → FieldsOf s (elim d [ true ↦ items end t | false ↦ items_refused (Unknown (end_byte j)) t ])
    go true = p
    go false = p
fields-next k s (array_end t) more p f = p
fields-next k s (refused e t) more p f = p

mutual
  unfolding parse_inner parse_items

  part-inner : (f : ℕ) (s : List ℕ) → PartOf s (parse_inner f s)
  part-inner zero s = tt
  part-inner (suc f) [] = tt
  part-inner (suc f) (b ∷ s) = part-begin (λ t. parse_inner f t) (λ k t. parse_items f k t) (λ t. part-inner f t) (λ k t. fields-items f k t) b (start b) s

  fields-items : (f : ℕ) (k : ContainerKind) (s : List ℕ) → FieldsOf s (parse_items f k s)
  fields-items zero k s = rest_all
  fields-items (suc f) k s = fields-next k s (parse_inner f s) (λ t. parse_items f k t) (part-inner f s) (λ t. fields-items f k t)

-- ---- What passing fields answers.

abbrev LeftOver : List ℕ → Expected → Type 0
LeftOver s (remaining t) = RestOf s t
LeftOver s mismatch = Unit {0}

left_over : (s : List ℕ) (i : Items) → FieldsOf s i → LeftOver s (elim i [ items ts t ↦ remaining t | items_refused e t ↦ mismatch ])
left_over s (items ts t) r = r
left_over s (items_refused e t) r = tt

-- Of an answer: what is left, and that its place is within the text.
abbrev pub SkippedIs : List ℕ → Option ℕ → Expected → Type 0
SkippedIs text (Some to) q = (q ≡ remaining (drop to text)) × (to ≤ length text)
SkippedIs text None q = q ≡ mismatch

answered : (text : List ℕ) (at : ℕ) → at ≤ length text → (q : Expected) → LeftOver (drop at text) q → SkippedIs text (skipped_at text q) q
unfolding skipped_at
answered text at l (remaining t) r = let u = unread-at l r in (ap remaining u.is, u.within)
answered text at l mismatch r = refl

pub skipped-is : (text : List ℕ) (at : ℕ) (kind : ContainerKind) (r : Option ℕ) → at ≤ length text → r ≡ skipped_at text (skip_items kind (drop at text))
    → SkippedIs text r (skip_items kind (drop at text))
unfolding skip_items
skipped-is text at kind r l e =
    let s : List ℕ = drop at text in
    rw e (answered text at l (skip_items kind s) (left_over s (parse_items (suc (length s + length s)) kind s) (fields-items (suc (length s + length s)) kind s)))

-- ---- What passing a type answers.

abbrev EncodedOf : List ℕ → Encoded → Type 0
EncodedOf s (encoded l cs t) = RestOf s t × (0 < length s → length t < length s)
EncodedOf s (not_encoded e t) = RestOf s t

encoded-of : (s u : List ℕ) → RestOf s u → (q : Parsed) → PartOf u q → EncodedOf s (encoding_or_none q)
unfolding encoding_or_none
encoded-of s u r empty p = (record { taken = length s; within = omega arith; is = sym (drop-length s) }, λ h. omega arith)
encoded-of s u r (encoding l cs t) p = let h = rest-shorter r in (rest-of-rest r p.0, λ k. omega (arith, p.1))
encoded-of s u r (container_end k t) p = rest-of-rest r p
encoded-of s u r (array_end t) p = rest-of-rest r p
encoded-of s u r (refused e t) p = rest-of-rest r p

encoding-rest : (s : List ℕ) → EncodedOf s (parse_encoding_or_none s)
unfolding parse_encoding_or_none parse
encoding-rest s =
    let u = strip_leading_qualifiers s in
    encoded-of s u (record { taken = length s - length u; within = omega arith; is = sym (strip-leaves s) }) (parse_inner (length u + length u) u)
    (part-inner (length u + length u) u)

-- A type was passed, whichever it is, and a byte at least unless the text had ended.
pub record EncodingPassed (text : List ℕ) (at to : ℕ) (q : Encoded) : Type 0 where
  pub label : Label
  pub children : Trees
  pub is : q ≡ encoded label children (drop to text)
  pub onward : at < length text → at < to
  pub within : to ≤ length text

-- Of an answer: what was passed and what is unread after it, or why it cannot be read and where.
abbrev pub EncodingIs : List ℕ → ℕ → Result ℕ ParseError → Encoded → Type 0
EncodingIs text at (Ok to) q = EncodingPassed text at to q
EncodingIs text at (Err e) q = (q ≡ not_encoded e.«kind» (drop e.«split_point» text)) × (e.«split_point» ≤ length text)

answered-encoding : (text : List ℕ) (at : ℕ) → at ≤ length text → (q : Encoded) → EncodedOf (drop at text) q → EncodingIs text at (encoding_at text q) q
unfolding encoding_at
answered-encoding text at l (encoded m cs t) r =
    let u = unread-at l r.0 in
    let d = length-drop at text in
    record { label = m; children = cs; is = ap (encoded m cs) u.is; onward = λ h. let k = r.1 (omega arith) in omega arith; within = u.within }
answered-encoding text at l (not_encoded e t) r = let u = unread-at l r in (ap (not_encoded e) u.is, u.within)

pub encoding-is : (text : List ℕ) (at : ℕ) (r : Result ℕ ParseError) → at ≤ length text → r ≡ encoding_at text (parse_encoding_or_none (drop at text))
    → EncodingIs text at r (parse_encoding_or_none (drop at text))
encoding-is text at r l e = rw e (answered-encoding text at l (parse_encoding_or_none (drop at text)) (encoding-rest (drop at text)))
