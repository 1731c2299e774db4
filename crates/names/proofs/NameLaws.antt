-- Laws of names at a place of a text, and where they end.
use Prim.Native.Nat.{ℕ, zero, suc, ◌+◌, ◌-◌, ◌≤◌, ◌<◌}
use mathlib.Core.Path.{◌≡◌, refl, sym, ap, subst, ◌∙◌}
use mathlib.Core.List.{List, [], ◌∷◌, ◌++◌, append_assoc, append-nil}
use mathlib.Core.Bool.{Bool, true, false, not, ◌||◌}
use native.Mathlib.Nat.{sub_self}
use native.Mathlib.Omega.{arith}
use native.Mathlib.Decide.{ℕ_discrete}
use lib.ListN.{length, take, drop, get_or, length-drop}
use lib.Seq.{take-suc, get_or-drop, length-take-le}
use lib.Dec.{eqb}
use borrow.Author.Tests.{eq-eqb, ne_eqb}
use Rattle.std.proofs.lemmas.Bool.Decides.{nat_tests}
use Rattle.kinds.proofs.ListLaws.{unread, unread-end}
use Rattle.kinds.proofs.NameLaws.{name-some}
use Rattle.kinds.proofs.ParseLaws.{name-checked, name-bad}
use Rattle.kinds.specs.Container.{end_byte}
use Rattle.kinds.specs.Name.{verify_name}
use Rattle.kinds.specs.Parse.{parse_name, check_name, Named, named, unnamed}
use Rattle.kinds.specs.declared.ContainerKind.{ContainerKind}
use Rattle.kinds.specs.declared.ErrorKind.{ErrorKind}
use Rattle.kinds.specs.declared.ErrorKind.TheVariants.{WrongEndContainer, InvalidIdentifier}
use Rattle.parser.specs.Place.{place_of}
use Rattle.parser.proofs.RestLaws.{RestOf, rest_all, rest-later, rest-of-rest, unread-at, place-of-drop}
use Rattle.parser.specs.Run.{run_end}
use Rattle.parser.proofs.RunLaws.{run-to}
use Rattle.parser.proofs.PlaceLaws.{drop-on}
use Rattle.names.specs.Answer.{name_at}
use Rattle.names.specs.Ends.{NameEnd, goes_on}
use Rattle.std.specs.Prelude.{Result, Ok, Err}
use Rattle.kinds.specs.declared.ParseError.{ParseError}
use Rattle.kinds.specs.Refusal.{parse_error}

-- ---- Up to `=` or the closer.

module _ (k : ContainerKind) (acc s : List ℕ) (i : ℕ) (h : i < length s) where
  pub name-more : (get_or s i 0 ≡ 61 → ⊥) → (get_or s i 0 ≡ end_byte k → ⊥) → parse_name k acc (drop i s) ≡ parse_name k (acc ++ (get_or s i 0 ∷ [])) (drop (i + 1) s)
  unfolding parse_name
  name-more n m = ap (parse_name k acc) (unread s i h) ∙ rw (ne_eqb _ _ n, parse_name) (rw (ne_eqb _ _ m, parse_name) refl)

  pub name-equals : get_or s i 0 ≡ 61 → parse_name k acc (drop i s) ≡ check_name k acc (drop i s) (drop (i + 1) s)
  unfolding parse_name
  name-equals e =
      ap (parse_name k acc) (unread s i h) ∙ (rw (eq-eqb _ _ e, parse_name) refl)
      ∙ sym (ap (λ (t : List ℕ). check_name k acc t (drop (i + 1) s)) (unread s i h))

  pub name-closes : (get_or s i 0 ≡ 61 → ⊥) → get_or s i 0 ≡ end_byte k → parse_name k acc (drop i s) ≡ check_name k acc (drop i s) (drop i s)
  unfolding parse_name
  name-closes n e =
      ap (parse_name k acc) (unread s i h) ∙ (rw (ne_eqb _ _ n, parse_name) (rw (eq-eqb _ _ e, parse_name) refl))
      ∙ sym (ap (λ (t : List ℕ). check_name k acc t t) (unread s i h))

pub name-ends : (k : ContainerKind) (acc s : List ℕ) (i : ℕ) → length s ≤ i → parse_name k acc (drop i s) ≡ unnamed (WrongEndContainer k) (drop i s)
unfolding parse_name
name-ends k acc s i h = ap (parse_name k acc) (unread-end s i h) ∙ sym (ap (unnamed (WrongEndContainer k)) (unread-end s i h))

-- The bytes passed, with one more.
passed-more : (s : List ℕ) (at i : ℕ) → at ≤ i → i < length s → take (i - at) (drop at s) ++ (get_or s i 0 ∷ []) ≡ take (i + 1 - at) (drop at s)
passed-more s at i l h =
    let d : at + (i - at) ≡ i = omega arith in
    let e : get_or (drop at s) (i - at) 0 ≡ get_or s i 0 = get_or-drop at s (i - at) 0 ∙ ap (λ (k : ℕ). get_or s k 0) d in
    let n : suc (i - at) ≡ i + 1 - at = omega arith in
    ap (λ (x : ℕ). take (i - at) (drop at s) ++ (x ∷ [])) (sym e)
    ∙ sym (take-suc (drop at s) (i - at) 0 (simp length-drop (omega arith)))
    ∙ ap (λ (k : ℕ). take k (drop at s)) n

taken_none : (s : List ℕ) (at : ℕ) → take (at - at) (drop at s) ≡ []
taken_none s at = rw sub_self

-- The bytes that a name goes on with.
goes-on-past : (k : ContainerKind) (b : ℕ) → goes_on k b ≡ true → (b ≡ 61 → ⊥) × (b ≡ end_byte k → ⊥)
unfolding goes_on
goes-on-past k b e = (λ n. grind (arith, nat_tests), λ n. grind (arith, nat_tests))

stops-at : (k : ContainerKind) (b : ℕ) → goes_on k b ≡ false → (b ≡ 61 → ⊥) → b ≡ end_byte k
unfolding goes_on
stops-at k b e n = grind (arith, nat_tests)

abbrev Scanned : ContainerKind → List ℕ → ℕ → ℕ → Type 0
Scanned k text at i = parse_name k [] (drop at text) ≡ parse_name k (take (i - at) (drop at text)) (drop i text)

-- Such bytes belong to the name.
scanned_to : (k : ContainerKind) (text : List ℕ) (at n i : ℕ) → at + n ≡ i → i ≤ length text → ((j : ℕ) → at ≤ j → j < i → goes_on k (get_or text j 0) ≡ true) → Scanned k text at i
scanned_to k text at zero i e l r =
    let here : at ≡ i = omega arith in
    subst (Scanned k text at) here (ap (λ (x : List ℕ). parse_name k x (drop at text)) (sym (taken_none text at)))
scanned_to k text at (suc n) i e l r =
    let h : at + n < length text = omega arith in
    let next : at + n + 1 ≡ i = omega arith in
    let past = goes-on-past k _ (r (at + n) (omega arith) (omega arith)) in
    subst (Scanned k text at) next
    (scanned_to k text at n (at + n) refl (omega arith) (λ j a b. r j a (omega arith))
    ∙ name-more k _ text (at + n) h past.0 past.1
    ∙ ap (λ (x : List ℕ). parse_name k x (drop (at + n + 1) text)) (passed-more text at (at + n) (omega arith) h))

-- The end of a run of such bytes is the name's end.
pub name-run : (k : ContainerKind) (text : List ℕ) (at r : ℕ) → at ≤ length text → r ≡ run_end (goes_on k) text at → NameEnd text at k r
name-run k text at r l e =
    let p = run-to (goes_on k) text at r l e in
    record {
      onward = p.onward;
      within = p.within;
      scanned = scanned_to k text at (r - at) r (omega (arith, p.onward)) p.within p.run;
      stopped = λ h n. stops-at k _ (p.stopped h) n;
    }

pub passed_length : (s : List ℕ) (at i : ℕ) → at ≤ i → i ≤ length s → length (take (i - at) (drop at s)) ≡ i - at
passed_length s at i l h = length-take-le (i - at) (drop at s) (simp length-drop (omega arith))

-- A bad name is refused where it ends, whichever byte ends it.
pub bad-name : (text : List ℕ) (at : ℕ) (k : ContainerKind) (r : ℕ) → NameEnd text at k r → r < length text → verify_name (take (r - at) (drop at text)) ≡ false
    → parse_name k (take (r - at) (drop at text)) (drop r text) ≡ unnamed (InvalidIdentifier k) (drop r text)
bad-name text at k r e h bad = elim (ℕ_discrete (get_or text r 0) 61) [
  | yes p ↦ name-equals k _ text r h p ∙ name-bad k _ _ _ bad
  | no n ↦ name-closes k _ text r h n (e.stopped h n) ∙ name-bad k _ _ _ bad
]

-- ---- The answer.

pub answer-refused : (text : List ℕ) (at : ℕ) (q : Named) (why : ErrorKind) (to : ℕ) → to ≤ length text → q ≡ unnamed why (drop to text) → Err (parse_error why to) ≡ name_at text at q
unfolding name_at
answer-refused text at q why to l e = ap (λ (x : ℕ). Err (parse_error why x)) (sym (place-of-drop text to l)) ∙ ap (name_at text at) (sym e)

pub answer-ended : (text : List ℕ) (at : ℕ) (k : ContainerKind) → length text ≤ at → Err (parse_error (WrongEndContainer k) (length text)) ≡ name_at text at (parse_name k [] (drop at text))
answer-ended text at k l =
    let none : drop (length text) text ≡ drop at text = unread-end text (length text) (omega arith) ∙ sym (unread-end text at l) in
    answer-refused _ _ _ _ _ (omega arith) (name-ends k [] text at l ∙ ap (unnamed (WrongEndContainer k)) (sym none))

answer-name : (text : List ℕ) (at e to : ℕ) (q : Named) → at ≤ e → e ≤ length text → to ≤ length text → q ≡ named (take (e - at) (drop at text)) (drop to text) → Ok (e, to) ≡ name_at text at q
unfolding name_at
answer-name text at e to q l h m i =
    let same : e ≡ at + length (take (e - at) (drop at text)) = omega (arith, passed_length text at e l h) in
    ap (λ (x : ℕ). Ok (x, to)) same
    ∙ ap (λ (x : ℕ). Ok (at + length (take (e - at) (drop at text)), x)) (sym (place-of-drop text to m))
    ∙ ap (name_at text at) (sym i)

-- A good name, after which reading goes on past `=` or at the closer.
module _ (text : List ℕ) (at : ℕ) (k : ContainerKind) (r : ℕ) (e : NameEnd text at k r) (h : r < length text) (good : verify_name (take (r - at) (drop at text)) ≡ true) where
  pub answer-equals : get_or text r 0 ≡ 61 → Ok (r, r + 1) ≡ name_at text at (parse_name k [] (drop at text))
  answer-equals p = answer-name text at r (r + 1) _ e.onward e.within (omega arith) (e.scanned ∙ name-equals k _ text r h p ∙ name-checked k _ _ _ good)

  pub answer-closes : (get_or text r 0 ≡ 61 → ⊥) → Ok (r, r) ≡ name_at text at (parse_name k [] (drop at text))
  answer-closes n = answer-name text at r r _ e.onward e.within e.within (e.scanned ∙ name-closes k _ text r h n (e.stopped h n) ∙ name-checked k _ _ _ good)

-- ---- What an answer says of the text.

-- The name found after `acc` goes on with the first bytes of `s`, and what follows is unread.
pub record Found (acc s m t : List ℕ) : Type 0 where
  pub size : ℕ
  pub inside : size ≤ length s
  pub is : m ≡ acc ++ take size s
  pub some : 0 < length m
  pub after : RestOf (drop size s) t

abbrev pub NamedOf : List ℕ → List ℕ → Named → Type 0
NamedOf acc s (named m t) = Found acc s m t
NamedOf acc s (unnamed e t) = RestOf s t

found-later : (acc : List ℕ) (b : ℕ) (s : List ℕ) (q : Named) → NamedOf (acc ++ (b ∷ [])) s q → NamedOf acc (b ∷ s) q
found-later acc b s (named m t) f = record {
  size = suc f.size;
  inside = omega (arith, f.inside);
  is = f.is ∙ append_assoc acc (b ∷ []) (take f.size s);
  some = f.some;
  after = f.after;
}
found-later acc b s (unnamed e t) r = rest-later r

found_here : (k : ContainerKind) (acc s t : List ℕ) → RestOf s t → NamedOf acc s (check_name k acc s t)
unfolding check_name
found_here k acc s t r = go (verify_name acc) refl
  where
    go : (d : Bool) → verify_name acc ≡ d → NamedOf acc s (elim d [ true ↦ named acc t | false ↦ unnamed (InvalidIdentifier k) s ])
    go true e = record { size = 0; inside = omega arith; is = sym (append-nil acc); some = name-some acc e; after = r }
    go false e = rest_all

pub name-found : (k : ContainerKind) (acc s : List ℕ) → NamedOf acc s (parse_name k acc s)
unfolding parse_name
name-found k acc [] = rest_all
name-found k acc (b ∷ s) = go (eqb b 61) (eqb b (end_byte k)) (found-later acc b s (parse_name k (acc ++ (b ∷ [])) s) (name-found k (acc ++ (b ∷ [])) s))
  where
    go : (d f : Bool) → NamedOf acc (b ∷ s) (parse_name k (acc ++ (b ∷ [])) s)
        → NamedOf acc (b ∷ s) (elim d [ true ↦ check_name k acc (b ∷ s) s | false ↦ elim f [ true ↦ check_name k acc (b ∷ s) (b ∷ s) | false ↦ parse_name k (acc ++ (b ∷ [])) s ] ])
    go true f h = found_here k acc (b ∷ s) s (rest-later rest_all)
    go false true h = found_here k acc (b ∷ s) (b ∷ s) rest_all
    go false false h = h

-- The name goes up to `e`, and reading goes on at `to`.
pub record NameRead (text : List ℕ) (at e to : ℕ) (q : Named) : Type 0 where
  pub is : q ≡ named (take (e - at) (drop at text)) (drop to text)
  pub some : at < e
  pub passed : e ≤ to
  pub within : to ≤ length text

abbrev pub NameIs : List ℕ → ℕ → Result (ℕ × ℕ) ParseError → Named → Type 0
NameIs text at (Ok (e, to)) q = NameRead text at e to q
NameIs text at (Err e) q = (q ≡ unnamed e.«kind» (drop e.«split_point» text)) × (e.«split_point» ≤ length text)

subst-rest : (text : List ℕ) (at n : ℕ) (t : List ℕ) → RestOf (drop n (drop at text)) t → RestOf (drop (at + n) text) t
subst-rest text at n t r = rw (drop-on at n text) r

answered : (text : List ℕ) (at : ℕ) → at ≤ length text → (q : Named) → NamedOf [] (drop at text) q → NameIs text at (name_at text at q) q
unfolding name_at
answered text at l (named m t) f =
    let n : length m ≡ f.size = ap length f.is ∙ length-take-le f.size (drop at text) f.inside in
    let d : length (drop at text) ≡ length text - at = length-drop at text in
    let j : f.size ≤ length (drop at text) = f.inside in
    let k : f.size ≡ at + length m - at = omega arith in
    let i : m ≡ take (at + length m - at) (drop at text) = f.is ∙ ap (λ (x : ℕ). take x (drop at text)) k in
    let u = unread-at l (rest-of-rest (record { taken = f.size; within = j; is = refl }) f.after) in
    let p = unread-at {text = text} {at = at + f.size} (omega arith) (subst-rest text at f.size t f.after) in
    record {
      is = ap (named m) u.is ∙ ap (λ (x : List ℕ). named x (drop (place_of text t) text)) i;
      some = omega (arith, f.some);
      passed = omega (arith, p.onward);
      within = u.within;
    }
answered text at l (unnamed e t) r = let u = unread-at l r in (ap (unnamed e) u.is, u.within)

pub name-is : (text : List ℕ) (at : ℕ) (k : ContainerKind) (r : Result (ℕ × ℕ) ParseError) → at ≤ length text → r ≡ name_at text at (parse_name k [] (drop at text)) → NameIs text at r (parse_name k [] (drop at text))
name-is text at k r l e = rw e (answered text at l (parse_name k [] (drop at text)) (name-found k [] (drop at text)))
