-- Laws of the tables of codes: what a byte begins, by which byte it is.
use Rattle.std.specs.Prelude.{Option, Some, None, unwrap_or}
use Rattle.std.specs.Option.{is_some}
use borrow.Author.Rules.{rules}
use Prim.Native.Nat.{ℕ, ◌≤◌, ◌<◌}
use mathlib.Core.Path.{◌≡◌, refl, sym, ap, subst, ◌∙◌}
use mathlib.Core.List.{List, [], ◌∷◌}
use mathlib.Core.Bool.{Bool, true, false, cond, ◌&&◌, ◌||◌, false≢true}
use native.Mathlib.Decide.{ℕ_discrete}
use native.Mathlib.Omega.{arith}
use lib.Dec.{ltb, eqb}
use borrow.Author.Tests.{ne_eqb, lt-ltb, le-ltb, ltb-true, eqb-true}
use Rattle.kinds.specs.Byte.{bytes, among}
use Rattle.kinds.specs.Parse.{Start, single, complex, object, bits, indirection, open_array, close_array, open_container, close_container, nothing, start, integral, singles, others, in_singles, in_others}
use Rattle.kinds.specs.Tree.{Label, kind, pointer, atomic}
use Rattle.kinds.specs.declared.ContainerKind.TheVariants.{Struct, Union}
use Rattle.kinds.proofs.TableLaws.{Each, both}
use Rattle.kinds.specs.declared.IndirectionKind.{IndirectionKind}
use Rattle.kinds.specs.declared.IndirectionKind.TheVariants.{Pointer, Atomic}
use Rattle.kinds.specs.declared.Primitive as P
use Rattle.codes.specs.declared.Begun.{Begun}
use Rattle.codes.specs.declared.Begun.TheVariants.{Single, Complex, Object, Bits, Indirection, OpenArray, CloseArray, OpenContainer, CloseContainer, Nothing}
use Rattle.codes.specs.Answer.{start_of, code_of, is_code, is_indirection, has_parts}

-- ---- A byte that is none of some bytes.

abbrev pub Differs : ℕ → List ℕ → Type 0
Differs b [] = Unit {0}
Differs b (x ∷ xs) = (b ≡ x → ⊥) × Differs b xs

-- As a match in code says it: the last byte first.
abbrev pub DiffersBack : ℕ → List ℕ → Type 0
DiffersBack b [] = Unit {0}
DiffersBack b (x ∷ xs) = DiffersBack b xs × (b ≡ x → ⊥)

abbrev onto : List ℕ → List ℕ → List ℕ
onto [] ys = ys
onto (x ∷ xs) ys = onto xs (x ∷ ys)

pub differs-onto : (b : ℕ) (xs ys : List ℕ) → DiffersBack b xs → Differs b ys → Differs b (onto xs ys)
differs-onto b [] ys d e = e
differs-onto b (x ∷ xs) ys d e = differs-onto b xs (x ∷ ys) d.0 (d.1, e)

not-among : (b : ℕ) (xs : List ℕ) → Differs b xs → among b xs ≡ false
unfolding among
not-among b [] d = refl
not-among b (x ∷ xs) d = rw (ne_eqb b x d.0) (not-among b xs d.1)

-- A test that each of some bytes passes.
abbrev every : (ℕ → Bool) → List ℕ → Bool
every test [] = true
every test (x ∷ xs) = test x && every test xs

-- A byte that is none of some bytes is none of fewer, in whatever order.
differs-from : (b : ℕ) (xs : List ℕ) → Differs b xs → (ys : List ℕ) → every (λ y. among y xs) ys ≡ true → Differs b ys
differs-from b xs d [] h = tt
differs-from b xs d (y ∷ ys) h =
    let p = both (among y xs) (every (λ z. among z xs) ys) h in
    (λ e. false≢true (sym (not-among b xs d) ∙ ap (λ (x : ℕ). among x xs) e ∙ p.0), differs-from b xs d ys p.1)

-- What holds of each of some bytes and of every other byte holds of all.
by_bytes : (P : ℕ → Type 0) (b : ℕ) (xs : List ℕ) → Each P xs → (Differs b xs → P b) → P b
by_bytes P b [] all other = other tt
by_bytes P b (x ∷ xs) all other = elim (ℕ_discrete b x) [
  | yes e ↦ subst P (sym e) all.0
  | no n ↦ by_bytes P b xs all.1 (λ d. other (n, d))
]

-- The same of a test, which is computed for all of them at once.
by-test : (test : ℕ → Bool) (b : ℕ) (xs : List ℕ) → every test xs ≡ true → (Differs b xs → test b ≡ true) → test b ≡ true
by-test test b [] h other = other tt
by-test test b (x ∷ xs) h other =
    let p = both (test x) (every test xs) h in
    elim (ℕ_discrete b x) [
      | yes e ↦ ap test e ∙ p.0
      | no n ↦ by-test test b xs p.1 (λ d. other (n, d))
    ]

-- ---- The codes of one byte.

abbrev firsts : List (ℕ × ℕ) → List ℕ
firsts [] = []
firsts (x ∷ xs) = x.0 ∷ firsts xs

not-single : (b : ℕ) (xs : List (ℕ × ℕ)) → Differs b (firsts xs) → in_singles b xs ≡ in_others b others
unfolding in_singles
not-single b [] d = refl
not-single b (x ∷ xs) d = rw (ne_eqb b x.0 d.0, in_singles) (not-single b xs d.1)

abbrev code_bytes : List ℕ
code_bytes = 99 ∷ 115 ∷ 105 ∷ 108 ∷ 113 ∷ 67 ∷ 83 ∷ 73 ∷ 76 ∷ 81 ∷ 102 ∷ 100 ∷ 68 ∷ 66 ∷ 118 ∷ 42 ∷ 35 ∷ 58 ∷ 63 ∷ []

no_code_lem : (b : ℕ) → Differs b code_bytes → start b ≡ in_others b others
unfolding start singles
no_code_lem b d = not-single b singles d

-- What holds of each start of a table and of `nothing` holds of what is found there.
abbrev EachStart : (Start → Type 0) → List (ℕ × Start) → Type 0
EachStart P [] = Unit {0}
EachStart P (x ∷ xs) = P x.1 × EachStart P xs

each_start : (P : Start → Type 0) (b : ℕ) (xs : List (ℕ × Start)) → EachStart P xs → P nothing → P (in_others b xs)
unfolding in_others
each_start P b [] all n = n
each_start P b (x ∷ xs) all n = go (eqb b x.0) all.0 (each_start P b xs all.1 n)
  where
    go : (d : Bool) → P x.1 → P (in_others b xs) → P (elim d [ true ↦ x.1 | false ↦ in_others b xs ])
    go true p q = p
    go false p q = q

-- A start that is no code.
abbrev NoCode : Start → Type 0
NoCode s = code_of s ≡ None

others-code : (b : ℕ) → code_of (in_others b others) ≡ None
unfolding others code_of
others-code b = each_start NoCode b others (refl, (refl, (refl, (refl, (refl, (refl, (refl, (refl, (refl, (refl, (refl, tt))))))))))) refl

no-code-is : (b : ℕ) → Differs b code_bytes → None ≡ code_of (start b)
no-code-is b d = sym (ap code_of (no_code_lem b d) ∙ others-code b)

-- A code is the whole start.
code_is : (s : Start) (p : ℕ) → Some p ≡ code_of s → s ≡ single p
unfolding code_of
code_is (single q) p e = search rules
code_is complex p e = search rules
code_is object p e = search rules
code_is bits p e = search rules
code_is (indirection l) p e = search rules
code_is open_array p e = search rules
code_is close_array p e = search rules
code_is (open_container k) p e = search rules
code_is (close_container k) p e = search rules
code_is nothing p e = search rules

pub no-single : (s : Begun) → ((p : P.Primitive) → s ≡ Single p → ⊥) → code_of (start_of s) ≡ None
unfolding start_of code_of
no-single (Single p) n = absurd (n p refl)
no-single Complex n = refl
no-single Object n = refl
no-single Bits n = refl
no-single (Indirection Pointer) n = refl
no-single (Indirection Atomic) n = refl
no-single OpenArray n = refl
no-single CloseArray n = refl
no-single (OpenContainer k) n = refl
no-single (CloseContainer k) n = refl
no-single Nothing n = refl

pub single-code : (b p : ℕ) → Some p ≡ code_of (start b) → start b ≡ single p
single-code b p e = code_is (start b) p e

pub some-code : (b : ℕ) → is_code b ≡ true → start b ≡ single (unwrap_or (code_of (start b)) 0)
unfolding is_code
some-code b e = go (code_of (start b)) refl e
  where
    go : (x : Option ℕ) → code_of (start b) ≡ x → is_some x ≡ true → start b ≡ single (unwrap_or x 0)
    go None f t = absurd (false≢true t)
    go (Some p) f t = single-code b p (sym f)

-- ---- The types that a bitfield may have.

not-integral : (b : ℕ) → Differs b code_bytes → integral b ≡ false
unfolding integral among
not-integral b d =
    let types : List ℕ = bytes "csilqCSILQB" in
    not-among b types (differs-from b code_bytes d types refl)

abbrev pub integral_kind : ℕ → Bool
integral_kind p = ltb p 10 || eqb p 16

abbrev pub integral_code : Option ℕ → Bool
integral_code None = false
integral_code (Some p) = integral_kind p

pub integral-is : (b : ℕ) → integral b ≡ integral_code (code_of (start b))
unfolding start in_singles singles integral among code_of
integral-is b = by_bytes (λ x. integral x ≡ integral_code (code_of (start x))) b code_bytes
    (refl, (refl, (refl, (refl, (refl, (refl, (refl, (refl, (refl, (refl, (refl, (refl, (refl, (refl, (refl, (refl, (refl, (refl, (refl, tt)))))))))))))))))))
    (λ d. not-integral b d ∙ ap integral_code (no-code-is b d))

-- ---- The bytes that are no code.

abbrev heads : List (ℕ × Start) → List ℕ
heads [] = []
heads (x ∷ xs) = x.0 ∷ heads xs

not-other : (b : ℕ) (xs : List (ℕ × Start)) → Differs b (heads xs) → in_others b xs ≡ nothing
unfolding in_others
not-other b [] d = refl
not-other b (x ∷ xs) d = rw (ne_eqb b x.0 d.0, in_others) (not-other b xs d.1)

-- A byte whose start computes.
pub starts : (b k : ℕ) {S : Start} → b ≡ k → start k ≡ S → start b ≡ S
starts b k e s = ap start e ∙ s

-- The bytes of `codes::start`, in its order; any other begins nothing.
abbrev start_bytes : List ℕ
start_bytes = bytes "cislqCISLQfdBv*@#:[{(b^?DjA]})"

pub no-start : (b : ℕ) → Differs b start_bytes → nothing ≡ start b
unfolding among others
no-start b d = sym (no_code_lem b (differs-from b start_bytes d code_bytes refl) ∙ not-other b others (differs-from b start_bytes d (heads others) refl))

-- Only `@` begins an object.
abbrev object_at : Start → Bool → Bool
object_at (single p) d = true
object_at complex d = true
object_at object d = d
object_at bits d = true
object_at (indirection l) d = true
object_at open_array d = true
object_at close_array d = true
object_at (open_container k) d = true
object_at (close_container k) d = true
object_at nothing d = true

only_at_lem : (b : ℕ) → object_at (start b) (eqb b 64) ≡ true
unfolding start in_singles singles others in_others
only_at_lem b = by-test (λ x. object_at (start x) (eqb x 64)) b start_bytes refl (λ d. ap (λ (x : Start). object_at x (eqb b 64)) (sym (no-start b d)))

module _ (b : ℕ) (s : Begun) (e : start_of s ≡ start b) where
  pub begun-object : s ≡ Object → b ≡ 64
  unfolding start_of
  begun-object h = eqb-true b 64 (sym (ap (λ (x : Start). object_at x (eqb b 64)) (sym e ∙ ap start_of h)) ∙ only_at_lem b)

  pub begun-no-object : (s ≡ Object → ⊥) → b ≡ 64 → ⊥
  unfolding start_of start in_singles singles others in_others
  begun-no-object n h = is-object s n (e ∙ ap start h)
    where
      is-object : (s : Begun) → (s ≡ Object → ⊥) → start_of s ≡ object → ⊥
      is-object Object n f = n refl
      is-object (Single p) n f = search rules
      is-object Complex n f = search rules
      is-object Bits n f = search rules
      is-object (Indirection Pointer) n f = search rules
      is-object (Indirection Atomic) n f = search rules
      is-object OpenArray n f = search rules
      is-object CloseArray n f = search rules
      is-object (OpenContainer k) n f = search rules
      is-object (CloseContainer k) n f = search rules
      is-object Nothing n f = search rules

-- A pointer or an atomic has a part.
pub indirection-parts : (k : IndirectionKind) → has_parts (start_of (Indirection k)) ≡ true
unfolding start_of has_parts
indirection-parts Pointer = refl
indirection-parts Atomic = refl

-- ---- The bytes that begin nothing with parts.

abbrev pub WithoutParts : ℕ → Type 0
WithoutParts b = ((((b ≡ 94 → ⊥) × (b ≡ 65 → ⊥)) × (b ≡ 91 → ⊥)) × (b ≡ 123 → ⊥)) × (b ≡ 40 → ⊥)

other-parts : (b : ℕ) → Differs b code_bytes → WithoutParts b → has_parts (start b) ≡ false
unfolding others in_others has_parts
other-parts b d w = ap has_parts (no_code_lem b d) ∙ by_bytes (λ x. WithoutParts x → has_parts (in_others x others) ≡ false) b
    (106 ∷ 64 ∷ 98 ∷ 94 ∷ 65 ∷ 91 ∷ 93 ∷ 123 ∷ 125 ∷ 40 ∷ 41 ∷ []) (
      (λ _. refl),
      (
        (λ _. refl),
        (
          (λ _. refl),
          (
            (λ v. absurd (v.0.0.0.0 refl)),
            (
              (λ v. absurd (v.0.0.0.1 refl)),
              (
                (λ v. absurd (v.0.0.1 refl)),
                ((λ _. refl), ((λ v. absurd (v.0.1 refl)), ((λ _. refl), ((λ v. absurd (v.1 refl)), ((λ _. refl), tt))))),
              ),
            ),
          ),
        ),
      ),
    )
    (λ e _. ap has_parts (not-other b others e)) w

pub without-parts : (b : ℕ) → WithoutParts b → has_parts (start b) ≡ false
unfolding start in_singles singles has_parts
without-parts b = by_bytes (λ x. WithoutParts x → has_parts (start x) ≡ false) b code_bytes (
  (λ _. refl),
  (
    (λ _. refl),
    (
      (λ _. refl),
      (
        (λ _. refl),
        (
          (λ _. refl),
          (
            (λ _. refl),
            (
              (λ _. refl),
              (
                (λ _. refl),
                (
                  (λ _. refl),
                  (
                    (λ _. refl),
                    ((λ _. refl), ((λ _. refl), ((λ _. refl), ((λ _. refl), ((λ _. refl), ((λ _. refl), ((λ _. refl), ((λ _. refl), ((λ _. refl), tt))))))))),
                  ),
                ),
              ),
            ),
          ),
        ),
      ),
    ),
  ),
)
    (λ d. other-parts b d)

-- ---- Pointers and atomics.

pub record IndirectionIs (b : ℕ) : Type 0 where
  pub label : Label
  pub begins : start b ≡ indirection label

pub indirection-is : (b : ℕ) → is_indirection b ≡ true → IndirectionIs b
unfolding start in_singles singles in_others others
indirection-is b e = go (eqb b 94) refl
  where
    go : (d : Bool) → eqb b 94 ≡ d → IndirectionIs b
    go true x = rw (eqb-true b 94 x) (record { label = pointer; begins = refl })
    go false x = rw (eqb-true b 65 (ap (λ (y : Bool). y || eqb b 65) (sym x) ∙ e)) (record { label = atomic; begins = refl })

pub not-indirection : (b : ℕ) → is_indirection b ≡ false → (b ≡ 94 → ⊥) × (b ≡ 65 → ⊥)
not-indirection b e = (λ x. false≢true (sym e ∙ ap is_indirection x), λ x. false≢true (sym e ∙ ap is_indirection x))
