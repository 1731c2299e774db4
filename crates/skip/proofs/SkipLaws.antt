-- What skipping gives, from what skipping the parts gives.
use Prim.Native.Nat.{ℕ, zero, suc, ◌+◌, ◌-◌, ◌≤◌, ◌<◌}
use mathlib.Core.Path.{◌≡◌, refl, sym, ap, ◌∙◌, subst}
use mathlib.Core.Bool.{Bool, true, false, not, cond, false≢true}
use mathlib.Core.List.{List, [], ◌∷◌}
use native.Mathlib.Omega.{arith}
use lib.Dec.{eqb}
use lib.ListN.{length, take, drop, get_or, length-drop}
use borrow.Author.Tests.{eq-eqb, ne_eqb, eqb-true, ltb-true, not-true}
use Rattle.kinds.proofs.ListLaws.{unread, unread-end}
use Rattle.kinds.proofs.TableLaws.{both, each}
use Rattle.kinds.specs.Byte.{among}
use Rattle.kinds.specs.Container.{end_byte, same_container}
use Rattle.kinds.specs.Expect.{skip_items, remaining, mismatch}
use Rattle.kinds.specs.Parse as R
use Rattle.kinds.specs.Parse.{start, in_singles, singles, in_others, others, begin, leaf, encoding, refused}
use Rattle.kinds.specs.Parse.{parse_inner, parse_items, held, item, max_u64, qualifiers, is_qualifier, strip_leading_qualifiers, encoding_or_none, parse_encoding_or_none}
use Rattle.kinds.specs.Tree.{Label, end, node, primitive, bit_field, typed_bit_field, array, none}
use Rattle.kinds.specs.declared.ContainerKind.{ContainerKind}
use Rattle.kinds.specs.declared.ErrorKind.{ErrorKind}
use Rattle.kinds.specs.declared.ErrorKind.TheVariants.{WrongEndArray, WrongEndContainer, Unknown}
use Rattle.parser.proofs.RestLaws.{place-of-drop}
use Rattle.parser.proofs.RunLaws.{RunTo}
use Rattle.names.proofs.NameLaws.{NameRead}
use Rattle.codes.specs.Answer.{closed, closes_fields, code_of, is_code, is_indirection}
use Rattle.codes.specs.declared.Token.{Token}
use Rattle.codes.specs.declared.Token.TheVariants as T
use Rattle.codes.proofs.CodeLaws.{some-code, indirection-is}
use Rattle.codes.proofs.StepLaws.{parse-step, parse-nil, begins, begins-held, begins-item, next-is, fuel_on, closed_in, closed_is, closes-it, closes-not, same_self, closes_in, closes-starts}
use Rattle.codes.proofs.TokenLaws.{TokenIs}
use Rattle.skip.specs.Answer.{skipped_at, encoding_at}
use Rattle.skip.specs.Skips.{SkippedIs, Passed, Skips, SkippedItemsIs, SkipsItems, token_skipped, under_skipped}
use Rattle.skip.specs.Skips.{held_skipped, item_skipped, end_skipped, encoding_of, ends_object, object_alone}
use Rattle.skip.specs.declared.Skipped.{Skipped}
use Rattle.skip.specs.declared.Skipped.TheVariants.{Empty, Encoding, ContainerEnd, ArrayEnd}
use Rattle.std.specs.Prelude.{Option, Some, None, Result, Ok, Err}
use Rattle.std.specs.Result.{result_ok}
use Rattle.kinds.specs.Refusal.{parse_error}
use Rattle.kinds.specs.declared.ParseError.{ParseError}

-- ---- A byte.

module _ (text : List ℕ) (at : ℕ) where
  Begun : Result Skipped ParseError → Type 0
  Begun r = (g : ℕ) → length (drop (at + 1) text) + length (drop (at + 1) text) < g
      → SkippedIs text r (begin (get_or text at 0) (start (get_or text at 0)) (drop (at + 1) text) (λ t. parse_inner g t) (λ k t. parse_items g k t))

  begun : (r : Result Skipped ParseError) → at < length text → Begun r → (f : ℕ) → length (drop at text) + length (drop at text) ≤ f → SkippedIs text r (parse_inner f (drop at text))
  unfolding Begun
  begun r h s zero l = absurd (omega (arith, length-drop at text))
  begun r h s (suc g) l = subst (SkippedIs text r) (sym (parse-step text at g h)) (s g (omega (arith, length-drop at text, length-drop (at + 1) text)))

  pub skips-end : at ≡ length text → Skips text at (Ok Empty)
  skips-end e = record { bound = e; says = λ f l. ap (parse_inner f) (unread-end text at (omega arith)) ∙ parse-nil f }

-- Under a pointer or an atomic, refused or not.
abbrev under : Result Skipped ParseError → ℕ → Result Skipped ParseError
under (Ok s) to = Ok (under_skipped s to)
under (Err e) to = Err e

module _ (text : List ℕ) (at : ℕ) (h : at < length text) where
  -- ---- A byte without parts.

  tokened : (t : Token) → TokenIs text at t → Skips text at (token_skipped t)
  unfolding Begun
  tokened (T.Primitive p to) i = record { bound = i.bound; says = begun text at (Ok (Encoding to)) h (λ g f. record { label = primitive p; children = end; is = i.says _ _ }) }
  tokened (T.BitField n to d) i = record { bound = i.bound; says = begun text at (Ok (Encoding to)) h (λ g f. record { label = bit_field n; children = end; is = i.says _ _ }) }
  tokened (T.TypedBitField o p n to d) i = record {
    bound = (omega (arith, i.bound.0), i.bound.1);
    says = begun text at (Ok (Encoding to)) h (λ g f. record { label = typed_bit_field o n; children = node (primitive p) end end; is = i.says _ _ });
  }
  tokened (T.ArrayEnd to) i = record { bound = omega (arith, i.bound.0); says = begun text at (Ok (ArrayEnd to)) h (λ g f. i.says _ _) }
  tokened (T.ContainerEnd k to) i = record { bound = omega (arith, i.bound.0); says = begun text at (Ok (ContainerEnd k to)) h (λ g f. i.says _ _) }
  tokened (T.Refused why to d) i = record { bound = i.bound; says = begun text at (Err (parse_error why to)) h (λ g f. i.says _ _) }
  tokened T.Parts i = absurd i.bound
  tokened T.End i = absurd i.bound

  pub skips-token : (t : Token) (s : Result Skipped ParseError) → TokenIs text at t → s ≡ token_skipped t → Skips text at s
  skips-token t s i e = rw e (tokened t i)

  turn : (why : ErrorKind) (to : ℕ) → to ≤ length text → Begun text at (Err (parse_error why to)) → Skips text at (Err (parse_error why to))
  turn why to l b = record { bound = l; says = begun text at (Err (parse_error why to)) h b }

  -- ---- Pointers and atomics.

  module _ (l : Label) (st : start (get_or text at 0) ≡ R.indirection l) where
    none-held : (g : ℕ) → {q : R.Parsed} → parse_inner g (drop (at + 1) text) ≡ q → held l (drop (at + 1) text) q ≡ encoding l (node none end end) (drop (at + 1) text)
        → Passed text (at + 1) (begin (get_or text at 0) (start (get_or text at 0)) (drop (at + 1) text) (λ t. parse_inner g t) (λ k t. parse_items g k t))
    none-held g e f = record { label = l; children = node none end end; is = begins-held text at st g e ∙ f }

    skips-held : (p : Result Skipped ParseError) → Skips text (at + 1) p → Skips text at (under p (at + 1))
    unfolding Begun held
    skips-held (Ok Empty) r = record { bound = omega arith; says = begun text at (Ok (Encoding (at + 1))) h (λ g f. none-held g (r.says g (omega arith)) refl) }
    skips-held (Ok (Encoding to)) r = record {
      bound = omega (arith, r.bound);
      says = begun text at (Ok (Encoding to)) h (λ g f. let q = r.says g (omega arith) in record { label = l; children = node q.label q.children end; is = begins-held text at st g q.is });
    }
    skips-held (Ok (ContainerEnd c to)) r = record { bound = omega arith; says = begun text at (Ok (Encoding (at + 1))) h (λ g f. none-held g (r.says g (omega arith)) refl) }
    skips-held (Ok (ArrayEnd to)) r = record { bound = omega arith; says = begun text at (Ok (Encoding (at + 1))) h (λ g f. none-held g (r.says g (omega arith)) refl) }
    skips-held (Err e) r = turn e.«kind» e.«split_point» r.bound (λ g f. begins-held text at st g (r.says g (omega arith)))

  -- ---- Arrays.

  pub skips-no-number : (why : ErrorKind) (to : ℕ) → to ≤ length text → start (get_or text at 0) ≡ R.open_array → R.parse_number max_u64 (drop (at + 1) text) ≡ R.no_number why (drop to text)
      → Skips text at (Err (parse_error why to))
  unfolding Begun begin
  skips-no-number why to l st num = turn why to l (λ g f. begins text at st _ _ ∙ rw (num, begin) refl)

  module _ (len it : ℕ) (st : start (get_or text at 0) ≡ R.open_array) (num : R.parse_number max_u64 (drop (at + 1) text) ≡ R.value len (drop it text)) (on : at + 1 ≤ it) (in-text : it ≤ length text) where
    refuses : (why : ErrorKind) (to : ℕ) → to ≤ length text → ((g : ℕ) → length (drop it text) + length (drop it text) ≤ g → item len (parse_inner g (drop it text)) ≡ refused why (drop to text))
        → Skips text at (Err (parse_error why to))
    unfolding Begun
    refuses why to l e = turn why to l (λ g f. begins-item text at len it st num g refl ∙ e g (fuel_on text at it g on f))

    pick-item : (to : ℕ) → Skips text it (Ok (Encoding to)) → (d : Bool) → closed text to ≡ d → Skips text at (cond d (Ok (Encoding (to + 1))) (Err (parse_error WrongEndArray to)))
    unfolding Begun item
    pick-item to r true e = record {
      bound = omega (arith, r.bound, closed_in text to e);
      says = begun text at (Ok (Encoding (to + 1))) h (λ g f. let q = r.says g (fuel_on text at it g on f) in
          record { label = array len; children = node q.label q.children end; is = begins-item text at len it st num g q.is ∙ closes-it text len q.label q.children to (closed_in text to e) (closed_is text to e) });
    }
    pick-item to r false e = refuses _ _ r.bound.1 (λ g f. let q = r.says g f in ap (item len) q.is ∙ closes-not text len q.label q.children to e)

    itemized : (p : Skipped) → Skips text it (Ok p) → Skips text at (item_skipped p text)
    unfolding Begun item
    itemized Empty r = refuses _ _ (omega arith) (λ g f. ap (item len) (r.says g f) ∙ sym (ap (refused WrongEndArray) (unread-end text (length text) (omega arith))))
    itemized (Encoding to) r = pick-item to r (closed text to) refl
    itemized (ContainerEnd c to) r = refuses _ _ r.bound.1 (λ g f. ap (item len) (r.says g f))
    itemized (ArrayEnd to) r = record {
      bound = omega (arith, r.bound);
      says = begun text at (Ok (Encoding to)) h (λ g f. record { label = array len; children = node none end end; is = begins-item text at len it st num g (r.says g (fuel_on text at it g on f)) });
    }

    pub skips-item : (p : Skipped) (s : Result Skipped ParseError) → Skips text it (Ok p) → s ≡ item_skipped p text → Skips text at s
    skips-item p s r e = rw e (itemized p r)

    pub skips-no-item : (e : ParseError) → Skips text it (Err e) → Skips text at (Err e)
    unfolding Begun item
    skips-no-item e r = refuses e.«kind» e.«split_point» r.bound (λ g f. ap (item len) (r.says g f))

  -- ---- Containers.

  module _ (k : ContainerKind) (st : start (get_or text at 0) ≡ R.open_container k) where
    pub skips-no-name : (why : ErrorKind) (to : ℕ) → to ≤ length text → R.parse_name k [] (drop (at + 1) text) ≡ R.unnamed why (drop to text) → Skips text at (Err (parse_error why to))
    unfolding Begun begin
    skips-no-name why to l q = turn why to l (λ g f. begins text at st _ _ ∙ rw (q, begin) refl)

    module _ (e to : ℕ) (q : NameRead text (at + 1) e to (R.parse_name k [] (drop (at + 1) text))) where
      named : (g : ℕ) {i : R.Items} → parse_items g k (drop to text) ≡ i
          → begin (get_or text at 0) (start (get_or text at 0)) (drop (at + 1) text) (λ t. parse_inner g t) (λ j t. parse_items g j t) ≡ R.contained k (take (e - (at + 1)) (drop (at + 1) text)) i
      unfolding begin
      named g f = begins text at st (λ t. parse_inner g t) (λ j t. parse_items g j t) ∙ (rw (q.is, begin) refl) ∙ ap (R.contained k (take (e - (at + 1)) (drop (at + 1) text))) f

      fields-fuel : (g : ℕ) → length (drop (at + 1) text) + length (drop (at + 1) text) < g → length (drop to text) + length (drop to text) < g
      fields-fuel g l = omega (arith, q.some, q.passed, length-drop to text, length-drop (at + 1) text)

      pub skips-contained : (z : ℕ) → SkipsItems text to k (Ok z) → Skips text at (Ok (Encoding z))
      unfolding Begun R.contained
      skips-contained z r = record {
        bound = omega (arith, r.bound, q.some, q.passed);
        says = begun text at (Ok (Encoding z)) h (λ g f. let i = r.says g (fields-fuel g f) in
            record { label = R.container k (take (e - (at + 1)) (drop (at + 1) text)); children = i.trees; is = named g i.is });
      }

      pub skips-no-fields : (x : ParseError) → SkipsItems text to k (Err x) → Skips text at (Err x)
      unfolding Begun R.contained
      skips-no-fields x r = turn x.«kind» x.«split_point» r.bound (λ g f. named g (r.says g (fields-fuel g f)))

-- ---- Runs of pointers and atomics.

differ : (a b : ℕ) → eqb a b ≡ false → a ≡ b → ⊥
differ a b e f = false≢true (sym e ∙ eq-eqb a b f)

under-under : (p : Result Skipped ParseError) (to next : ℕ) → under (under p to) next ≡ under p to
under-under (Ok Empty) to next = refl
under-under (Ok (Encoding z)) to next = refl
under-under (Ok (ContainerEnd k z)) to next = refl
under-under (Ok (ArrayEnd z)) to next = refl
under-under (Err e) to next = refl

module _ (text : List ℕ) (to : ℕ) (p : Result Skipped ParseError) (r : Skips text to p) where
  Indirections : ℕ → Type 0
  Indirections at = (i : ℕ) → at ≤ i → i < to → is_indirection (get_or text i 0) ≡ true

  run : (k at : ℕ) → to ≤ length text → Indirections at → to ≡ at + suc k → Skips text at (under p to)
  unfolding Indirections
  run zero at l x e =
      let h : at < length text = omega arith in
      let i = indirection-is (get_or text at 0) (x at (omega arith) (omega arith)) in
      let f : to ≡ at + 1 = omega arith in
      subst (λ (j : ℕ). Skips text at (under p j)) (sym f) (skips-held text at h i.label i.begins p (subst (λ (j : ℕ). Skips text j p) f r))
  run (suc k) at l x e =
      let h : at < length text = omega arith in
      let i = indirection-is (get_or text at 0) (x at (omega arith) (omega arith)) in
      let q = run k (at + 1) l (λ j m n. x j (omega arith) n) (omega arith) in
      subst (λ (s : Result Skipped ParseError). Skips text at s) (under-under p to (at + 1)) (skips-held text at h i.label i.begins (under p to) q)

  ran : (at : ℕ) → RunTo is_indirection text at to → (d : Bool) → eqb at to ≡ d → Skips text at (cond d p (under p to))
  unfolding Indirections
  ran at x true f = subst (λ (j : ℕ). Skips text j p) (sym (eqb-true at to f)) r
  ran at x false f =
      let n : at ≡ to → ⊥ = differ at to f in
      run (to - at - 1) at x.within x.run (omega (arith, x.onward))

pub skips-run : (text : List ℕ) (to : ℕ) (p : Skipped) → Skips text to (Ok p) → (at : ℕ) (s : Skipped) → RunTo is_indirection text at to → s ≡ held_skipped p at to → Skips text at (Ok s)
skips-run text to p r at s x e = rw e (go (eqb at to) refl)
  where
    go : (d : Bool) → eqb at to ≡ d → Skips text at (Ok (cond d p (under_skipped p to)))
    go true f = ran text to (Ok p) r at x true f
    go false f = ran text to (Ok p) r at x false f

pub skips-no-run : (text : List ℕ) (to : ℕ) (e : ParseError) → Skips text to (Err e) → (at : ℕ) → RunTo is_indirection text at to → Skips text at (Err e)
skips-no-run text to e r at x = go (eqb at to) refl
  where
    go : (d : Bool) → eqb at to ≡ d → Skips text at (Err e)
    go true f = ran text to (Err e) r at x true f
    go false f = ran text to (Err e) r at x false f

-- ---- The fields of a container.

-- An outcome that ends the fields.
abbrev pub NotPassed : Skipped → Type 0
NotPassed Empty = Unit {0}
NotPassed (Encoding to) = ⊥
NotPassed (ContainerEnd kind to) = Unit {0}
NotPassed (ArrayEnd to) = Unit {0}

module _ (text : List ℕ) (at : ℕ) (kind : ContainerKind) where
  Continued : Result ℕ ParseError → Type 0
  Continued r = (g : ℕ) → length (drop at text) + length (drop at text) ≤ g → SkippedItemsIs text r (R.next_item kind (parse_inner g (drop at text)) (λ t. parse_items g kind t))

  continued : (r : Result ℕ ParseError) → Continued r → (f : ℕ) → length (drop at text) + length (drop at text) < f → SkippedItemsIs text r (parse_items f kind (drop at text))
  unfolding Continued parse_items
  continued r s zero l = absurd (omega arith)
  continued r s (suc g) l = s g (omega arith)

  end-container : (other : ContainerKind) (to : ℕ) → Skips text at (Ok (ContainerEnd other to)) → (d : Bool) → same_container kind other ≡ d
      → SkipsItems text at kind (cond d (Ok to) (Err (parse_error (Unknown (end_byte other)) to)))
  unfolding Continued R.next_item
  end-container other to r true e = record {
    bound = r.bound;
    says = continued (Ok to) (λ g l. record { trees = end; is = next-is text at kind g (r.says g l) ∙ (rw (e, R.next_item) refl) });
  }
  end-container other to r false e = record {
    bound = r.bound.1;
    says = continued (Err (parse_error (Unknown (end_byte other)) to)) (λ g l. next-is text at kind g (r.says g l) ∙ (rw (e, R.next_item) refl));
  }

  ended : (p : Skipped) → NotPassed p → Skips text at (Ok p) → SkipsItems text at kind (end_skipped p text kind)
  unfolding Continued R.next_item
  ended Empty x r = record {
    bound = omega arith;
    says = continued (Err (parse_error (WrongEndContainer kind) (length text)))
        (λ g l. next-is text at kind g (r.says g l) ∙ sym (ap (R.items_refused (WrongEndContainer kind)) (unread-end text (length text) (omega arith))));
  }
  ended (Encoding to) x r = absurd x
  ended (ContainerEnd other to) x r = end-container other to r (same_container kind other) refl
  ended (ArrayEnd to) x r = record { bound = r.bound.1; says = continued (Err (parse_error (Unknown 93) to)) (λ g l. next-is text at kind g (r.says g l)) }

  pub skipped-none : (e : ParseError) → Skips text at (Err e) → SkipsItems text at kind (Err e)
  unfolding Continued R.next_item
  skipped-none e r = record { bound = r.bound; says = continued (Err e) (λ g l. next-is text at kind g (r.says g l)) }

  pub skipped-end : (p : Skipped) (i : Result ℕ ParseError) → NotPassed p → Skips text at (Ok p) → i ≡ end_skipped p text kind → SkipsItems text at kind i
  skipped-end p i x r e = rw e (ended p x r)

  -- The container's own closer, found without a look at a type.
  pub skipped-closed : closes_fields text at kind ≡ true → SkipsItems text at kind (Ok (at + 1))
  unfolding begin
  skipped-closed e =
      let st = closes-starts text at kind e in
      let token : TokenIs text at (T.ContainerEnd kind (at + 1)) = record { bound = (refl, st); says = λ inner fields. begins text at st inner fields } in
      end-container kind (at + 1) (skips-token text at (closes_in text at kind e) (T.ContainerEnd kind (at + 1)) (Ok (ContainerEnd kind (at + 1))) token refl) true (same_self kind)

  -- One field, and the fields after it.
  pub skipped-more : (to : ℕ) (i : Result ℕ ParseError) → Skips text at (Ok (Encoding to)) → SkipsItems text to kind i → SkipsItems text at kind i
  unfolding Continued R.next_item R.add_item
  skipped-more to (Ok z) r s = record {
    bound = omega (arith, r.bound, s.bound);
    says = continued (Ok z) (λ g l.
        let f = r.says g l in
        let i = s.says g (omega (arith, r.bound, length-drop at text, length-drop to text)) in
        record { trees = node f.label f.children i.trees; is = next-is text at kind g f.is ∙ ap (R.add_item f.label f.children) i.is });
  }
  skipped-more to (Err x) r s = record {
    bound = s.bound;
    says = continued (Err x) (λ g l.
        let f = r.says g l in
        let i = s.says g (omega (arith, r.bound, length-drop at text, length-drop to text)) in
        next-is text at kind g f.is ∙ ap (R.add_item f.label f.children) i);
  }

-- ---- Runs of codes.

skips-code : (text : List ℕ) (at : ℕ) → at < length text → is_code (get_or text at 0) ≡ true → Skips text at (Ok (Encoding (at + 1)))
unfolding Begun begin leaf
skips-code text at h c =
    let st = some-code (get_or text at 0) c in
    record { bound = omega arith; says = begun text at (Ok (Encoding (at + 1))) h (λ g f. record { label = primitive _; children = end; is = begins text at st _ _ }) }

module _ (text : List ℕ) (to : ℕ) (kind : ContainerKind) (i : Result ℕ ParseError) (s : SkipsItems text to kind i) where
  Codes : ℕ → Type 0
  Codes at = (j : ℕ) → at ≤ j → j < to → is_code (get_or text j 0) ≡ true

  code-run : (k at : ℕ) → to ≤ length text → Codes at → to ≡ at + k → SkipsItems text at kind i
  unfolding Codes
  code-run zero at l x e = subst (λ (j : ℕ). SkipsItems text j kind i) (omega arith) s
  code-run (suc k) at l x e =
      let h : at < length text = omega arith in
      let q = code-run k (at + 1) l (λ j m n. x j (omega arith) n) (omega arith) in
      skipped-more text at kind (at + 1) i (skips-code text at h (x at (omega arith) (omega arith))) q

  pub skipped-codes : (at : ℕ) → RunTo is_code text at to → SkipsItems text at kind i
  unfolding Codes
  skipped-codes at x = code-run (to - at) at x.within x.run (omega (arith, x.onward))

-- ---- The answers.

pub answer-fields : (text : List ℕ) (at : ℕ) (kind : ContainerKind) (i : Result ℕ ParseError) (r : Option ℕ) → SkipsItems text at kind i → r ≡ result_ok i
    → r ≡ skipped_at text (skip_items kind (drop at text))
unfolding skipped_at skip_items
answer-fields text at kind (Ok to) r s x =
    let e = (s.says (suc (length (drop at text) + length (drop at text))) (omega arith)).is in
    let f : skip_items kind (drop at text) ≡ remaining (drop to text) = rw (e, skip_items) refl in
    x ∙ ap Some (sym (place-of-drop text to s.bound.1)) ∙ ap (skipped_at text) (sym f)
answer-fields text at kind (Err z) r s x =
    let e = s.says (suc (length (drop at text) + length (drop at text))) (omega arith) in
    let f : skip_items kind (drop at text) ≡ mismatch = rw (e, skip_items) refl in
    x ∙ ap (skipped_at text) (sym f)

pub answer-ended : (text : List ℕ) (at : ℕ) (kind : ContainerKind) → length text ≤ at → None ≡ skipped_at text (skip_items kind (drop at text))
unfolding skipped_at skip_items parse_items parse_inner R.next_item
answer-ended text at kind h = ap (λ (t : List ℕ). skipped_at text (skip_items kind t)) (sym (unread-end text at h))

-- ---- A type on its own, whose text after the qualifiers is `drop from text`.

module _ (text : List ℕ) (from : ℕ) (q : List ℕ) (strips : strip_leading_qualifiers q ≡ drop from text) where
  encoding-is : (p : R.Parsed) → parse_inner (length (drop from text) + length (drop from text)) (drop from text) ≡ p → parse_encoding_or_none q ≡ encoding_or_none p
  unfolding parse_encoding_or_none R.parse
  encoding-is p e = ap (λ (t : List ℕ). encoding_or_none (parse_inner (length t + length t) t)) strips ∙ ap encoding_or_none e

  answered-encoding : (p : Skipped) → Skips text from (Ok p) → encoding_of p text ≡ encoding_at text (parse_encoding_or_none q)
  unfolding encoding_at encoding_or_none
  answered-encoding Empty s = ap Ok (omega arith) ∙ sym (ap (encoding_at text) (encoding-is _ (s.says _ (omega arith))))
  answered-encoding (Encoding to) s =
      let i = s.says (length (drop from text) + length (drop from text)) (omega arith) in
      ap Ok (sym (place-of-drop text to s.bound.1)) ∙ sym (ap (encoding_at text) (encoding-is _ i.is))
  answered-encoding (ContainerEnd k to) s = ap (λ (x : ℕ). Err (parse_error (Unknown (end_byte k)) x)) (sym (place-of-drop text to s.bound.1)) ∙ sym (ap (encoding_at text) (encoding-is _ (s.says _ (omega arith))))
  answered-encoding (ArrayEnd to) s = ap (λ (x : ℕ). Err (parse_error (Unknown 93) x)) (sym (place-of-drop text to s.bound.1)) ∙ sym (ap (encoding_at text) (encoding-is _ (s.says _ (omega arith))))

  pub answer-no-encoding : (e : ParseError) → Skips text from (Err e) → Err e ≡ encoding_at text (parse_encoding_or_none q)
  unfolding encoding_at encoding_or_none
  answer-no-encoding e s = ap (λ (x : ℕ). Err (parse_error e.«kind» x)) (sym (place-of-drop text e.«split_point» s.bound)) ∙ sym (ap (encoding_at text) (encoding-is _ (s.says _ (omega arith))))

  pub answer-encoding : (p : Skipped) (r : Result ℕ ParseError) → Skips text from (Ok p) → r ≡ encoding_of p text → r ≡ encoding_at text (parse_encoding_or_none q)
  answer-encoding p r s e = e ∙ answered-encoding p s

pub answer-none : (text : List ℕ) (at : ℕ) → length text ≤ at → Ok (length text) ≡ encoding_at text (parse_encoding_or_none (drop at text))
unfolding encoding_at parse_encoding_or_none strip_leading_qualifiers R.parse parse_inner encoding_or_none
answer-none text at h = ap Ok (omega arith) ∙ sym (ap (λ (t : List ℕ). encoding_at text (parse_encoding_or_none t)) (unread-end text at h))

qualifier-no-code : (b : ℕ) → is_qualifier b ≡ true → is_code b ≡ false
unfolding is_qualifier qualifiers is_code code_of start in_singles singles in_others others
qualifier-no-code b q = each (λ (x : ℕ). is_code x ≡ false) qualifiers (refl, (refl, (refl, (refl, (refl, (refl, (refl, tt))))))) b q

-- A code is no qualifier, so it is the whole type.
code-unqualified : (b : ℕ) → is_code b ≡ true → is_qualifier b ≡ false
code-unqualified b c = go (is_qualifier b) refl
  where
    go : (x : Bool) → is_qualifier b ≡ x → is_qualifier b ≡ false
    go false e = e
    go true e = absurd (false≢true (sym (qualifier-no-code b e) ∙ c))

-- One byte that is no qualifier was the whole type.
answer-byte : (text : List ℕ) (at : ℕ) → at < length text → is_qualifier (get_or text at 0) ≡ false → Skips text at (Ok (Encoding (at + 1)))
    → Ok (at + 1) ≡ encoding_at text (parse_encoding_or_none (drop at text))
unfolding strip_leading_qualifiers
answer-byte text at h q s =
    let strips : strip_leading_qualifiers (drop at text) ≡ drop at text = ap strip_leading_qualifiers (unread text at h) ∙ rw (q, strip_leading_qualifiers) (sym (unread text at h)) in
    answered-encoding text at (drop at text) strips (Encoding (at + 1)) s

pub answer-code : (text : List ℕ) (at : ℕ) → at < length text → is_code (get_or text at 0) ≡ true → Ok (at + 1) ≡ encoding_at text (parse_encoding_or_none (drop at text))
answer-code text at h c = answer-byte text at h (code-unqualified _ c) (skips-code text at h c)

object-byte : (b : ℕ) (s : List ℕ) → object_alone b s ≡ true → b ≡ 64
object-byte b [] e = eqb-true b 64 e
object-byte b (c ∷ s) e = eqb-true b 64 (both (eqb b 64) (ends_object c) e).0

object-read : (b : ℕ) (s : List ℕ) → object_alone b s ≡ true → R.parse_object s ≡ encoding (primitive 19) end s
unfolding R.parse_object leaf
object-read b [] e = refl
object-read b (c ∷ s) e =
    let d = both (not (eqb c 63)) (not (eqb c 34)) (both (eqb b 64) (ends_object c) e).1 in
    rw (not-true (eqb c 63) d.0, R.parse_object) (rw (not-true (eqb c 34) d.1) refl)

pub answer-object : (text : List ℕ) (at : ℕ) → at < length text → object_alone (get_or text at 0) (drop (at + 1) text) ≡ true → Ok (at + 1) ≡ encoding_at text (parse_encoding_or_none (drop at text))
unfolding Begun begin start in_singles singles in_others others is_qualifier qualifiers among
answer-object text at h o =
    let b : get_or text at 0 ≡ 64 = object-byte (get_or text at 0) (drop (at + 1) text) o in
    let st : start (get_or text at 0) ≡ R.object = ap start b in
    let read = object-read (get_or text at 0) (drop (at + 1) text) o in
    answer-byte text at h (ap is_qualifier b)
    (record { bound = omega arith; says = begun text at (Ok (Encoding (at + 1))) h (λ g f. record { label = primitive 19; children = end; is = begins text at st _ _ ∙ read }) })

-- ---- An object of one byte at a place.

module _ (text : List ℕ) (at : ℕ) where
  pub alone-not : (get_or text at 0 ≡ 64 → ⊥) → false ≡ object_alone (get_or text at 0) (drop (at + 1) text)
  alone-not n = go (drop (at + 1) text)
    where
      go : (s : List ℕ) → false ≡ object_alone (get_or text at 0) s
      go [] = sym (ne_eqb _ _ n)
      go (c ∷ s) = sym (rw (ne_eqb _ _ n) refl)

  pub alone-end : get_or text at 0 ≡ 64 → length text ≤ at + 1 → true ≡ object_alone (get_or text at 0) (drop (at + 1) text)
  alone-end e l = sym (ap (object_alone (get_or text at 0)) (unread-end text (at + 1) l) ∙ eq-eqb _ _ e)

  pub alone-more : (r : Bool) → get_or text at 0 ≡ 64 → at + 1 < length text → r ≡ ends_object (get_or text (at + 1) 0) → r ≡ object_alone (get_or text at 0) (drop (at + 1) text)
  alone-more r e l x = x ∙ sym (ap (object_alone (get_or text at 0)) (unread text (at + 1) l) ∙ rw (eq-eqb _ _ e) refl)
