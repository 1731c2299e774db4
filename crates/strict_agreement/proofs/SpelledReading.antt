-- What is read strictly, in its short spelling, is the text of what it gives: over the cycle of reading, and for whole texts.
use Prim.Native.Nat.{ℕ, zero, suc, ◌+◌}
use native.Mathlib.Omega.{arith}
use mathlib.Core.Path.{◌≡◌, refl, sym, ap, subst, ◌∙◌}
use mathlib.Core.List.{List, [], ◌∷◌, ◌++◌, append_assoc, append-nil}
use mathlib.Core.Bool.{Bool, true, false, cond, ◌&&◌, false≢true}
use Rattle.std.specs.Prelude.{Option, Some, None}
use lib.Dec.{leb, eqb}
use lib.ListN.{length}
use borrow.Author.Tests.{eqb-true}
use Rattle.kinds.specs.Byte.{byte, bytes, among, is_digit}
use Rattle.kinds.specs.Container.{start_byte, end_byte}
use Rattle.kinds.specs.Parse.{container, max_u64, max_u8, Number, value, no_number, parse_number, Parsed, empty, encoding, container_end, array_end, refused, Items, items}
use Rattle.kinds.specs.Parse.{items_refused, Start, single, complex, object, bits, indirection, open_array, close_array, open_container, close_container, nothing, start, leaf, parse_complex}
use Rattle.kinds.specs.Parse.{parse_object, integral, single_kind, typed, untyped, parse_bit_field, parse_bits, Named, named, unnamed, parse_name, held, close_item, item, contained, add_item}
use Rattle.kinds.specs.Parse.{begin, next_item, parse_inner, parse_items, parse, encoding_or_none, parse_encoding_or_none, tree, whole, from_str}
use Rattle.kinds.specs.Primitive.{codes, code}
use Rattle.kinds.specs.Print.{decimal, print_node}
use Rattle.kinds.specs.Strict.{surplus_zero, typed_number, bits_numbers, numbers_of, numbers_inside, numbers_after, inner_numbers, items_numbers, numbers, numbers_met, first_surplus, unless_surplus}
use Rattle.kinds.specs.Strict.{from_str_strict}
use Rattle.kinds.specs.Tree as T
use Rattle.kinds.specs.Tree.{Label, Trees, end, node, primitive, is_end}
use Rattle.kinds.specs.declared.ContainerKind.{ContainerKind}
use Rattle.kinds.specs.declared.ContainerKind.TheVariants.{Struct, Union}
use Rattle.kinds.proofs.TableLaws.{both}
use Rattle.agreement.proofs.ReadLaws.{Well, well}
use Rattle.agreement.proofs.RoundTrip.{lacks-equals, body, container-text}
use Rattle.strict_agreement.specs.Spelling.{closes_container, short, level_by, spelled, unquoted, Registers}
use Rattle.strict_agreement.proofs.SpellingLaws.{Written, ◌then◌, respelled, one_byte, all-bytes, unquoted-later, NumberSays, number-says, by-equals, by-closer}
use Rattle.strict_agreement.proofs.SpellingLaws.{NameSays, name-says, Begins, begins, integral-code}

-- ---- Numbers without a surplus zero.

abbrev Strict : List (List ℕ) → Type 0
Strict ss = first_surplus ss ≡ None

strict-first : (s : List ℕ) (ss : List (List ℕ)) → Strict (s ∷ ss) → (surplus_zero s ≡ false) × Strict ss
unfolding first_surplus
strict-first s ss h = go (surplus_zero s) refl h
  where
    go : (t : Bool) → surplus_zero s ≡ t → cond t (Some s) (first_surplus ss) ≡ None → (surplus_zero s ≡ false) × Strict ss
    go true e i = let z : ◌≡◌ {A = ℕ} 0 1 = cc in absurd (omega arith)
    go false e i = (e, i)

strict-parts : (ss ts : List (List ℕ)) → Strict (ss ++ ts) → Strict ss × Strict ts
unfolding first_surplus
strict-parts [] ts h = (refl, h)
strict-parts (s ∷ ss) ts h =
    let i = strict-first s (ss ++ ts) h in
    let j = strict-parts ss ts i.1 in
    (rw (i.0, first_surplus) j.0, j.1)

-- ---- What reading says of the text that it was given.

-- The text of one tree.
abbrev Text : Label → Trees → List ℕ
Text l cs = print_node l (level_by cs) (spelled cs)

-- A type does not begin with a container's closer.
abbrev Says : List ℕ → Parsed → Type 0
Says s empty = Unit {0}
Says s (encoding l cs t) = Written s (Text l cs) t × (closes_container s ≡ false)
Says s (container_end k t) = s ≡ end_byte k ∷ t
Says s (array_end t) = s ≡ byte "]" ∷ t
Says s (refused e t) = Unit {0}

-- Items begin with the closer exactly if there are none.
abbrev ItemsSay : ContainerKind → List ℕ → Items → Type 0
ItemsSay k s (items ts t) = Written s (spelled ts ++ (end_byte k ∷ [])) t × (closes_container s ≡ is_end ts)
ItemsSay k s (items_refused e t) = Unit {0}

spelled-one : (l : Label) (cs : Trees) → Text l cs ≡ spelled (node l cs end)
unfolding spelled
spelled-one l cs = sym (append-nil (Text l cs))

-- ---- Leaves.

single-says : (b p : ℕ) (s : List ℕ) → Begins b (single p) → Says (b ∷ s) (leaf (primitive p) s)
unfolding leaf print_node closes_container
single-says b p s h = (respelled (sym h.0) (one_byte b s h.1.0), h.1.1)

two_bytes_lem : (a b c : ℕ) (s : List ℕ) → eqb a (byte "=") ≡ false → eqb b (byte "=") ≡ false → eqb c b ≡ true → Written (a ∷ c ∷ s) (a ∷ b ∷ []) s
two_bytes_lem a b c s e f h = subst (λ x. Written (a ∷ x ∷ s) (a ∷ b ∷ []) s) (sym (eqb-true c b h)) (one_byte a (b ∷ s) e then one_byte b s f)

complex-says : (s : List ℕ) → Says (byte "j" ∷ s) (parse_complex s)
unfolding parse_complex leaf print_node code codes closes_container among
complex-says [] = tt
complex-says (c ∷ s) = go (eqb c (byte "f")) refl (eqb c (byte "d")) refl (eqb c (byte "D")) refl
  where
    go : (x : Bool) → eqb c (byte "f") ≡ x → (y : Bool) → eqb c (byte "d") ≡ y → (z : Bool) → eqb c (byte "D") ≡ z → Says (byte "j" ∷ c ∷ s) (parse_complex (c ∷ s))
    go true e y f z g = rw (e, parse_complex) (two_bytes_lem (byte "j") (byte "f") c s refl refl e, refl)
    go false e true f z g = rw (e, parse_complex) (rw f (two_bytes_lem (byte "j") (byte "d") c s refl refl f, refl))
    go false e false f true g = rw (e, parse_complex) (rw f (rw g (two_bytes_lem (byte "j") (byte "D") c s refl refl g, refl)))
    go false e false f false g = rw (e, parse_complex) (rw f (rw g tt))

quoted : (b : ℕ) (s : List ℕ) → eqb b (byte "\"") ≡ true → unquoted (b ∷ s) ≡ false
unfolding unquoted among
quoted b s e = rw (eqb-true b (byte "\"") e)

object-says : (s : List ℕ) → unquoted s ≡ true → Says (byte "@" ∷ s) (parse_object s)
unfolding parse_object leaf print_node code codes closes_container among
object-says [] u = (one_byte (byte "@") [] refl, refl)
object-says (b ∷ s) u = go (eqb b (byte "?")) refl (eqb b (byte "\"")) refl
  where
    go : (x : Bool) → eqb b (byte "?") ≡ x → (y : Bool) → eqb b (byte "\"") ≡ y → Says (byte "@" ∷ b ∷ s) (parse_object (b ∷ s))
    go true e y f = rw (e, parse_object) (two_bytes_lem (byte "@") (byte "?") b s refl refl e, refl)
    go false e true f = absurd (false≢true (sym (quoted b s f) ∙ u))
    go false e false f = rw (e, parse_object) (rw f (one_byte (byte "@") (b ∷ s) refl, refl))

-- ---- Bitfields.

module _ (s : List ℕ) (n : ℕ) where
  untyped-says : (t : List ℕ) → Written s (decimal n) t → Says (byte "b" ∷ s) (untyped n t)
  unfolding untyped leaf print_node closes_container among
  untyped-says t w = go (leb n max_u8) refl
    where
      go : (x : Bool) → leb n max_u8 ≡ x → Says (byte "b" ∷ s) (untyped n t)
      go true e = rw (e, untyped) (one_byte (byte "b") s refl then w, refl)
      go false e = rw (e, untyped) tt

  typed-says : (b : ℕ) (t : List ℕ) → Written s (decimal n) (b ∷ t) → integral b ≡ true → (q : Number) → NumberSays t q → Says (byte "b" ∷ s) (typed n (single_kind (start b)) q)
  unfolding typed print_node spelled closes_container among
  typed-says b t w i (value m u) v =
      let c = integral-code b i in
      let type : b ∷ [] ≡ code (single_kind (start b)) ++ [] = sym c.0 ∙ sym (append-nil (code (single_kind (start b)))) in
      (one_byte (byte "b") s refl then w then respelled type (one_byte b t c.1) then v, refl)
  typed-says b t w i (no_number e u) v = tt

  field-says : (t : List ℕ) → Written s (decimal n) t → Strict (typed_number t) → Says (byte "b" ∷ s) (parse_bit_field n t)
  unfolding parse_bit_field typed_number
  field-says [] w h = untyped-says [] w
  field-says (b ∷ []) w h = untyped-says (b ∷ []) w
  field-says (b ∷ c ∷ t) w h = go (integral b && is_digit c) refl h
    where
      go : (x : Bool) → (integral b && is_digit c) ≡ x → Strict (cond x ((c ∷ t) ∷ []) []) → Says (byte "b" ∷ s) (parse_bit_field n (b ∷ c ∷ t))
      go true e i =
          rw (e, parse_bit_field)
          (typed-says b (c ∷ t) w (both (integral b) (is_digit c) e).0 (parse_number max_u8 (c ∷ t)) (number-says max_u8 (c ∷ t) (strict-first (c ∷ t) [] i).0))
      go false e i = rw (e, parse_bit_field) (untyped-says (b ∷ c ∷ t) w)

bits-say : (s : List ℕ) (q : Number) → NumberSays s q → Strict (elim q [ value n t ↦ typed_number t | no_number e t ↦ [] ]) → Says (byte "b" ∷ s) (parse_bits q)
unfolding parse_bits
bits-say s (value n t) w h = field-says s n t w h
bits-say s (no_number e t) w h = tt

-- ---- What holds others.

module _ (b : ℕ) (s : List ℕ) (l : Label) (h : Begins b (indirection l)) where
  bare-says : Says (b ∷ s) (encoding l (node T.none end end) s)
  unfolding spelled print_node closes_container
  bare-says = (respelled (sym (h.0 (node T.none end end))) (one_byte b s h.1.0), h.1.1)

  held-says : (q : Parsed) → Says s q → Says (b ∷ s) (held l s q)
  unfolding held closes_container
  held-says empty r = bare-says
  held-says (encoding m ds t) r =
      (respelled (sym (h.0 (node m ds end))) (one_byte b s h.1.0 then respelled (spelled-one m ds) r.0), h.1.1)
  held-says (container_end k t) r = bare-says
  held-says (array_end t) r = bare-says
  held-says (refused e t) r = tt

module _ (n : ℕ) (s t : List ℕ) (w : Written s (decimal n) t) where
  close-says : (m : Label) (ds : Trees) (u : List ℕ) → Written t (Text m ds) u → Says (byte "[" ∷ s) (close_item n m ds u)
  unfolding close_item print_node closes_container among
  close-says m ds [] v = tt
  close-says m ds (c ∷ u) v = go (eqb c (byte "]")) refl
    where
      go : (x : Bool) → eqb c (byte "]") ≡ x → Says (byte "[" ∷ s) (close_item n m ds (c ∷ u))
      go true e =
          let closer : Written (c ∷ u) (bytes "]") u = subst (λ x. Written (x ∷ u) (bytes "]") u) (sym (eqb-true c (byte "]") e)) (one_byte (byte "]") u refl) in
          rw (e, close_item) (one_byte (byte "[") s refl then w then respelled (spelled-one m ds) v then closer, refl)
      go false e = rw (e, close_item) tt

  item-says : (q : Parsed) → Says t q → Says (byte "[" ∷ s) (item n q)
  unfolding item print_node spelled closes_container among
  item-says empty r = tt
  item-says (encoding m ds u) r = close-says m ds u r.0
  item-says (container_end k u) r = tt
  item-says (array_end u) r = (one_byte (byte "[") s refl then w then subst (λ x. Written x (bytes "]") u) (sym r) (one_byte (byte "]") u refl), refl)
  item-says (refused e u) r = tt

closer-byte : (k : ContainerKind) (u : List ℕ) → (eqb (end_byte k) (byte "=") ≡ false) × (closes_container (end_byte k ∷ u) ≡ true)
unfolding closes_container among
closer-byte Struct u = (refl, refl)
closer-byte Union u = (refl, refl)

opener-byte : (k : ContainerKind) (u : List ℕ) → (eqb (start_byte k) (byte "=") ≡ false) × (closes_container (start_byte k ∷ u) ≡ false)
unfolding closes_container among
opener-byte Struct u = (refl, refl)
opener-byte Union u = (refl, refl)

module _ (k : ContainerKind) (t : List ℕ) (u : List ℕ) where
  -- `=` falls away exactly where no fields follow it.
  fields-written : (ts : Trees) → Written t (spelled ts ++ (end_byte k ∷ [])) u → closes_container t ≡ is_end ts → Written (byte "=" ∷ t) (body k (level_by ts) (spelled ts) []) u
  unfolding short spelled level_by body is_end
  fields-written end w c = record { text = rw (c, short) w.text; clean = λ h. w.clean (unquoted-later (byte "=") t h) }
  fields-written (node l cs ts) w c = record { text = rw (c, short) (ap (λ x. byte "=" ∷ x) w.text); clean = λ h. w.clean (unquoted-later (byte "=") t h) }

  -- No fields follow the closer.
  closer-written : (ts : Trees) → Written t (spelled ts ++ (end_byte k ∷ [])) u → is_end ts ≡ true → Written t (body k (level_by ts) (spelled ts) []) u
  unfolding spelled level_by body is_end
  closer-written end w c = w
  closer-written (node l cs ts) w c = absurd (false≢true c)

module _ (k : ContainerKind) (s : List ℕ) where
  rest-written : (m t u : List ℕ) (ts : Trees) → NameSays k s (named m t) → ItemsSay k t (items ts u) → Written s (m ++ body k (level_by ts) (spelled ts) []) u
  rest-written m t u ts (g, by-equals e) (w, c) =
      subst (λ x. Written x (m ++ body k (level_by ts) (spelled ts) []) u) (sym e) (all-bytes m (byte "=" ∷ t) (lacks-equals m g) then fields-written k t u ts w c)
  rest-written m t u ts (g, by-closer v f e) (w, c) =
      subst (λ x. Written x (m ++ body k (level_by ts) (spelled ts) []) u) (sym e)
      (all-bytes m t (lacks-equals m g) then closer-written k t u ts w (sym c ∙ ap closes_container f ∙ (closer-byte k v).1))

  contained-says : (m t : List ℕ) → NameSays k s (named m t) → (q : Items) → ItemsSay k t q → Says (start_byte k ∷ s) (contained k m q)
  unfolding contained
  contained-says m t g (items ts u) r =
      let whole-text : start_byte k ∷ (m ++ body k (level_by ts) (spelled ts) []) ≡ Text (container k m) ts
      = sym (container-text k (level_by ts) m (spelled ts) []) ∙ append-nil (Text (container k m) ts) in
      (respelled whole-text (one_byte (start_byte k) s (opener-byte k s).0 then rest-written m t u ts g r), (opener-byte k s).1)
  contained-says m t g (items_refused e u) r = tt

-- ---- The cycle.

-- What readers of types and of items say of the texts in which they meet no surplus zero.
module _ (s : List ℕ) (u : unquoted s ≡ true) (inner : List ℕ → Parsed) (fields : ContainerKind → List ℕ → Items)
    (met : List ℕ → List (List ℕ)) (fieldsMet : ContainerKind → List ℕ → List (List ℕ))
    (types : (t : List ℕ) → Strict (met t) → unquoted t ≡ true → Says t (inner t))
    (within : (k : ContainerKind) (t : List ℕ) → Strict (fieldsMet k t) → unquoted t ≡ true → ItemsSay k t (fields k t)) where
  array-says : (q : Number) → NumberSays s q → Strict (elim q [ value n t ↦ met t | no_number e t ↦ [] ])
      → Says (byte "[" ∷ s) (elim q [ value n t ↦ item n (inner t) | no_number e t ↦ refused e t ])
  array-says (value n t) w h = item-says n s t w (inner t) (types t h (w.clean u))
  array-says (no_number e t) w h = tt

  named-clean : (k : ContainerKind) (m t : List ℕ) → NameSays k s (named m t) → unquoted t ≡ true
  named-clean k m t (g, by-equals e) = unquoted-later (byte "=") t ((all-bytes m (byte "=" ∷ t) (lacks-equals m g)).clean (subst (λ x. unquoted x ≡ true) e u))
  named-clean k m t (g, by-closer v f e) = (all-bytes m t (lacks-equals m g)).clean (subst (λ x. unquoted x ≡ true) e u)

  container-says : (k : ContainerKind) (q : Named) → NameSays k s q → Strict (elim q [ named m t ↦ fieldsMet k t | unnamed e t ↦ [] ])
      → Says (start_byte k ∷ s) (elim q [ named m t ↦ contained k m (fields k t) | unnamed e t ↦ refused e t ])
  container-says k (named m t) g h = contained-says k s m t g (fields k t) (within k t h (named-clean k m t g))
  container-says k (unnamed e t) g h = tt

  begin-says : (b : ℕ) (S : Start) → Begins b S → Strict (numbers_of S s ++ numbers_inside S s met fieldsMet) → Says (b ∷ s) (begin b S s inner fields)
  unfolding begin numbers_of numbers_inside bits_numbers
  begin-says b (single p) g h = single-says b p s g
  begin-says b complex g h = rw g (complex-says s)
  begin-says b object g h = rw g (object-says s u)
  begin-says b bits g h =
      let i = strict-first s (elim (parse_number max_u64 s) [ value n t ↦ typed_number t | no_number e t ↦ [] ]) (strict-parts (bits_numbers s) [] h).0 in
      rw g (bits-say s (parse_number max_u64 s) (number-says max_u64 s i.0) i.1)
  begin-says b (indirection l) g h = held-says b s l g (inner s) (types s h u)
  begin-says b open_array g h =
      let i = strict-first s (elim (parse_number max_u64 s) [ value n t ↦ met t | no_number e t ↦ [] ]) h in
      rw g (array-says (parse_number max_u64 s) (number-says max_u64 s i.0) i.1)
  begin-says b close_array g h = ap (λ x. x ∷ s) g
  begin-says b (open_container k) g h = rw g (container-says k (parse_name k [] s) (name-says k s []) h)
  begin-says b (close_container k) g h = ap (λ x. x ∷ s) g
  begin-says b nothing g h = tt

add-says : (k : ContainerKind) (s t : List ℕ) (m : Label) (ds : Trees) → Says s (encoding m ds t) → (q : Items) → ItemsSay k t q → ItemsSay k s (add_item m ds q)
unfolding add_item spelled is_end
add-says k s t m ds r (items ts v) w = (respelled (sym (append_assoc (Text m ds) (spelled ts) (end_byte k ∷ []))) (r.0 then w.0), r.1)
add-says k s t m ds r (items_refused e v) w = tt

-- The closer of the container itself.
end-says : (k j : ContainerKind) (s t : List ℕ) → s ≡ end_byte j ∷ t → (more : List ℕ → Items) → ItemsSay k s (next_item k (container_end j t) more)
unfolding next_item spelled is_end
end-says k j s t e more = rw e (go k j)
  where
    go : (k j : ContainerKind) → ItemsSay k (end_byte j ∷ t) (next_item k (container_end j t) more)
    go Struct Struct = (one_byte (end_byte Struct) t refl, (closer-byte Struct t).1)
    go Struct Union = tt
    go Union Struct = tt
    go Union Union = (one_byte (end_byte Union) t refl, (closer-byte Union t).1)

next-says : (k : ContainerKind) (s : List ℕ) → unquoted s ≡ true → (more : List ℕ → Items) (met : List ℕ → List (List ℕ))
    → ((t : List ℕ) → Strict (met t) → unquoted t ≡ true → ItemsSay k t (more t)) → (q : Parsed) → Says s q → Strict (numbers_after q met) → ItemsSay k s (next_item k q more)
unfolding next_item numbers_after
next-says k s u more met rest empty r h = tt
next-says k s u more met rest (encoding m ds t) r h = add-says k s t m ds r (more t) (rest t h (r.0.clean u))
next-says k s u more met rest (container_end j t) r h = end-says k j s t r more
next-says k s u more met rest (array_end t) r h = tt
next-says k s u more met rest (refused e t) r h = tt

mutual
  unfolding parse_items items_numbers

  inner-says : (f : ℕ) (s : List ℕ) → Strict (inner_numbers f s) → unquoted s ≡ true → Says s (parse_inner f s)
  inner-says zero s h u = tt
  inner-says (suc f) [] h u = tt
  inner-says (suc f) (b ∷ s) h u =
      begin-says s (unquoted-later b s u) (λ t. parse_inner f t) (λ k t. parse_items f k t) (λ t. inner_numbers f t) (λ k t. items_numbers f k t)
      (λ t i v. inner-says f t i v) (λ k t i v. items-say f k t i v) b (start b) (begins b) h

  items-say : (f : ℕ) (k : ContainerKind) (s : List ℕ) → Strict (items_numbers f k s) → unquoted s ≡ true → ItemsSay k s (parse_items f k s)
  items-say zero k s h u = tt
  items-say (suc f) k s h u =
      let i = strict-parts (inner_numbers f s) (numbers_after (parse_inner f s) (λ t. items_numbers f k t)) h in
      next-says k s u (λ t. parse_items f k t) (λ t. items_numbers f k t) (λ t j v. items-say f k t j v) (parse_inner f s) (inner-says f s i.0 u) i.1

-- ---- Whole texts.

-- Strict reading gives a tree exactly as whole-text reading does, where it meets no surplus zero.
strict-read : (s : List ℕ) (l : Label) (cs : Trees) → from_str_strict s ≡ tree l cs → Strict (numbers_met s) × (from_str s ≡ tree l cs)
unfolding from_str_strict unless_surplus
strict-read s l cs h = go (first_surplus (numbers_met s)) refl h
  where
    go : (o : Option (List ℕ)) → first_surplus (numbers_met s) ≡ o → unless_surplus (length s) o (from_str s) ≡ tree l cs → Strict (numbers_met s) × (from_str s ≡ tree l cs)
    go (Some t) e i = let z : ◌≡◌ {A = ℕ} 0 1 = cc in absurd (omega arith)
    go None e i = (e, i)

nothing-short : (s : List ℕ) → length s ≡ 0 → short s ≡ []
unfolding short
nothing-short [] h = refl
nothing-short (b ∷ s) h = absurd (omega arith)

whole_says : (s : List ℕ) (n : ℕ) (l : Label) (cs : Trees) (q : Parsed) → Says s q → Well s q → whole n (encoding_or_none q) ≡ tree l cs → short s ≡ spelled (node l cs end)
unfolding encoding_or_none whole spelled print_node short
whole_says s n l cs empty r w h =
    let same : spelled (node T.none end end) ≡ spelled (node l cs end) = cc in
    nothing-short s w ∙ same
whole_says s n l cs (encoding m ds []) r w h =
    let same : spelled (node m ds end) ≡ spelled (node l cs end) = cc in
    r.0.text ∙ same
whole_says s n l cs (encoding m ds (b ∷ t)) r w h = let z : ◌≡◌ {A = ℕ} 0 1 = cc in absurd (omega arith)
whole_says s n l cs (container_end k t) r w h = let z : ◌≡◌ {A = ℕ} 0 1 = cc in absurd (omega arith)
whole_says s n l cs (array_end t) r w h = let z : ◌≡◌ {A = ℕ} 0 1 = cc in absurd (omega arith)
whole_says s n l cs (refused e t) r w h = let z : ◌≡◌ {A = ℕ} 0 1 = cc in absurd (omega arith)

pub text-spelled : (s : List ℕ) (l : Label) (cs : Trees) → Registers s l cs → short s ≡ spelled (node l cs end)
unfolding from_str parse_encoding_or_none numbers_met numbers parse
text-spelled s l cs g =
    let i = strict-read s l cs g.read in
    let met : Strict (numbers s) = rw g.unqualified at i.0 in
    let read : whole (length s) (encoding_or_none (parse s)) ≡ tree l cs = rw g.unqualified at i.1 in
    whole_says s (length s) l cs (parse s) (inner-says (length s + length s) s met g.no-class-name) (well (length s + length s) s (omega arith)) read
