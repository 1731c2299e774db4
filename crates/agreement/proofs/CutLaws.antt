-- What reading does not look at can be cut off: the bytes that a type was read from, cut out, are read as the same type.
use Prim.Native.Nat.{ℕ, zero, suc, ◌+◌, ◌≤◌, ◌<◌}
use native.Mathlib.Omega.{arith}
use mathlib.Core.Path.{◌≡◌, refl, ap, subst, ◌∙◌}
use mathlib.Core.List.{List, [], ◌∷◌, ◌++◌, append-nil, append_cancel_right}
use mathlib.Core.Bool.{Bool, true, false}
use lib.Dec.{eqb}
use lib.ListN.{length, length-append}
use Rattle.kinds.specs.Byte.{byte}
use Rattle.kinds.specs.Container.{end_byte, same_container}
use Rattle.kinds.specs.Name.{verify_name}
use Rattle.kinds.specs.Parse.{container, max_u64, Number, value, no_number, parse_number, Parsed, empty, encoding, container_end, array_end, refused, Items}
use Rattle.kinds.specs.Parse.{items, items_refused, Start, single, complex, object, bits, indirection, open_array, close_array, open_container, close_container, nothing, start, leaf}
use Rattle.kinds.specs.Parse.{named, unnamed, check_name, parse_name, held, close_item, item, contained, add_item, begin, next_item, parse_inner, parse_items, parse, is_qualifier}
use Rattle.kinds.specs.Parse.{strip_leading_qualifiers, Encoded, encoded, not_encoded, encoding_or_none, parse_encoding_or_none, tree, whole, from_str}
use Rattle.kinds.specs.Tree.{Label, Trees, end, node, primitive, array, none}
use Rattle.kinds.specs.declared.ContainerKind.{ContainerKind}
use Rattle.kinds.proofs.ParseLaws.{strip-shorter}
use Rattle.agreement.proofs.ReadLaws.{Well, well}
use Rattle.agreement.proofs.FuelLaws.{nothing-there, same-inner}
use Rattle.agreement.proofs.CutLeaves.{Cut, at_once, later, over, join, none_left, CutNumber, number_cut, Made, found, failed, made-later, made-join, made-last}
use Rattle.agreement.proofs.CutLeaves.{complex-cut, object-cut, bits-cut}

-- ---- What a reader of types gives, and a reader of items.

-- A pointer or an atomic holds nothing, whatever beginning of `s` follows it.
abbrev pub Bare : (List ℕ → Parsed) → List ℕ → Type 0
Bare read s = (t w : List ℕ) → s ≡ t ++ w → (l : Label) → held l t (read t) ≡ encoding l (node none end end) t

abbrev pub Cuts : (List ℕ → Parsed) → List ℕ → Parsed → Type 0
Cuts read s empty = Bare read s
Cuts read s (encoding l cs u) = Cut read (encoding l cs) s u
Cuts read s (container_end k u) = Cut read (container_end k) s u × Bare read s
Cuts read s (array_end u) = Cut read array_end s u × Bare read s
Cuts read s (refused e u) = Unit {0}

abbrev pub CutsItems : (List ℕ → Items) → List ℕ → Items → Type 0
CutsItems read s (items ts u) = Cut read (items ts) s u
CutsItems read s (items_refused e u) = Unit {0}

made-cuts : {read : List ℕ → Parsed} {s : List ℕ} {q : Parsed} → Made read s q → Cuts read s q
made-cuts (found c) = c
made-cuts failed = tt

closer-cuts : (b : ℕ) (s : List ℕ) (read made : List ℕ → Parsed) → read [] ≡ empty → ((x : List ℕ) → read (b ∷ x) ≡ made x)
    → ((l : Label) (t x : List ℕ) → held l t (made x) ≡ encoding l (node none end end) t) → Cut read made (b ∷ s) s × Bare read (b ∷ s)
unfolding held
closer-cuts b s read made z f g = (later b f (at_once (λ t w e. refl)), bare)
  where
    bare : Bare read (b ∷ s)
    bare [] w h l = rw z
    bare (c ∷ t) w h l = let i : c ≡ b = cc in rw (i, f t) (g l (b ∷ t) t)

-- ---- What holds others.

close-cut : (n : ℕ) (m : Label) (ds : Trees) (s : List ℕ) → Made (close_item n m ds) s (close_item n m ds s)
unfolding close_item
close-cut n m ds [] = failed
close-cut n m ds (c ∷ s) = go (eqb c (byte "]")) refl
  where
    go : (x : Bool) → eqb c (byte "]") ≡ x → Made (close_item n m ds) (c ∷ s) (close_item n m ds (c ∷ s))
    go true e = rw (e, close_item) (made-last (close_item n m ds) c (array n) (node m ds end) s (λ x. rw (e, close_item)))
    go false e = rw (e, close_item) failed

-- A container after the bytes `m` of its name.
abbrev after : (ContainerKind → List ℕ → Items) → ContainerKind → List ℕ → List ℕ → Parsed
after fields k m x = elim (parse_name k m x) [ named n t ↦ contained k n (fields k t) | unnamed e t ↦ refused e t ]

module _ (inner : List ℕ → Parsed) (fields : ContainerKind → List ℕ → Items) (types : (s : List ℕ) → Cuts inner s (inner s))
    (parts : (k : ContainerKind) (s : List ℕ) → CutsItems (fields k) s (fields k s)) (some : (k : ContainerKind) (ts : Trees) (u : List ℕ) → fields k [] ≡ items ts u → ⊥) where
  held_cut : (l : Label) (s : List ℕ) (q : Parsed) → Cuts inner s q → Made (λ x. held l x (inner x)) s (held l s q)
  unfolding held
  held_cut l s empty c = found (at_once (λ t w e. c t w e l))
  held_cut l s (encoding m ds u) c = found (over (λ x w y h e. ap (held l x) e) c)
  held_cut l s (container_end k u) c = found (at_once (λ t w e. c.1 t w e l))
  held_cut l s (array_end u) c = found (at_once (λ t w e. c.1 t w e l))
  held_cut l s (refused e u) c = failed

  item-cut : (n : ℕ) (s : List ℕ) (q : Parsed) → Cuts inner s q → Made (λ x. item n (inner x)) s (item n q)
  unfolding item
  item-cut n s empty c = failed
  item-cut n s (encoding m ds u) c = made-join (λ x y e. ap (item n) e) c (close-cut n m ds u)
  item-cut n s (container_end k u) c = failed
  item-cut n s (array_end u) c = found (over (λ x w y h e. ap (item n) e) c.0)
  item-cut n s (refused e u) c = failed

  array-cut : (s : List ℕ) (q : Number) → CutNumber (parse_number max_u64) s q
      → Made (λ x. elim (parse_number max_u64 x) [ value n t ↦ item n (inner t) | no_number e t ↦ refused e t ]) s (elim q [ value n t ↦ item n (inner t) | no_number e t ↦ refused e t ])
  array-cut s (value n u) c = made-join (λ x y e. rw e) c (item-cut n u (inner u) (types u))
  array-cut s (no_number e u) c = failed

  contained-cut : (k : ContainerKind) (m s : List ℕ) (q : Items) → CutsItems (fields k) s q → Made (λ x. contained k m (fields k x)) s (contained k m q)
  unfolding contained
  contained-cut k m s (items ts u) c = found (over (λ x w y h e. ap (contained k m) e) c)
  contained-cut k m s (items_refused e u) c = failed

  -- The closer that ends a name is taken with the fields, of which there are none.
  closer-cut : (k : ContainerKind) (m : List ℕ) (b : ℕ) (s : List ℕ) → ((x : List ℕ) → parse_name k m (b ∷ x) ≡ named m (b ∷ x)) → (q : Items) → CutsItems (fields k) (b ∷ s) q
      → Made (after fields k m) (b ∷ s) (contained k m q)
  unfolding contained
  closer-cut k m b s f (items ts u) c = found (over go c)
    where
      go : (x w y : List ℕ) → b ∷ s ≡ x ++ w → fields k x ≡ items ts y → after fields k m x ≡ encoding (container k m) ts y
      go [] w y h e = absurd (some k ts y e)
      go (d ∷ x) w y h e = let i : parse_name k m (d ∷ x) ≡ named m (d ∷ x) = cc (f x) in rw (i, after) (ap (contained k m) e)
  closer-cut k m b s f (items_refused e u) c = failed

  named-cut : (k : ContainerKind) (s m : List ℕ) → Made (after fields k m) s (after fields k m s)
  unfolding parse_name check_name
  named-cut k [] m = failed
  named-cut k (b ∷ s) m = go (eqb b (byte "=")) refl (eqb b (end_byte k)) refl (verify_name m) refl (named-cut k s (m ++ (b ∷ [])))
    where
      go : (x : Bool) → eqb b (byte "=") ≡ x → (y : Bool) → eqb b (end_byte k) ≡ y → (z : Bool) → verify_name m ≡ z
          → Made (after fields k (m ++ (b ∷ []))) s (after fields k (m ++ (b ∷ [])) s) → Made (after fields k m) (b ∷ s) (after fields k m (b ∷ s))
      go true e y f true g r = rw (e, g, parse_name, check_name, after) (made-later b (λ x. rw (e, g, parse_name, check_name, after)) (contained-cut k m s (fields k s) (parts k s)))
      go true e y f false g r = rw (e, g, parse_name, check_name, after) failed
      go false e true f true g r = rw (e, f, g, parse_name, check_name, after) (closer-cut k m b s (λ x. rw (e, f, g, parse_name, check_name)) (fields k (b ∷ s)) (parts k (b ∷ s)))
      go false e true f false g r = rw (e, f, g, parse_name, check_name, after) failed
      go false e false f z g r = rw (e, f, parse_name, after) (made-later b (λ x. rw (e, f, parse_name, after)) r)

  begin-cut : (b : ℕ) (s : List ℕ) (read : List ℕ → Parsed) → read [] ≡ empty → (S : Start) → ((x : List ℕ) → read (b ∷ x) ≡ begin b S x inner fields)
      → Cuts read (b ∷ s) (begin b S s inner fields)
  unfolding begin leaf held
  begin-cut b s read z (single p) f = made-cuts (made-last read b (primitive p) end s f)
  begin-cut b s read z complex f = made-cuts (made-later b f (complex-cut s))
  begin-cut b s read z object f = made-cuts (made-later b f (object-cut s))
  begin-cut b s read z bits f = made-cuts (made-later b f (bits-cut s (parse_number max_u64 s) (number_cut max_u64 s)))
  begin-cut b s read z (indirection l) f = made-cuts (made-later b f (held_cut l s (inner s) (types s)))
  begin-cut b s read z open_array f = made-cuts (made-later b f (array-cut s (parse_number max_u64 s) (number_cut max_u64 s)))
  begin-cut b s read z close_array f = closer-cuts b s read array_end z f (λ l t x. refl)
  begin-cut b s read z (open_container k) f = made-cuts (made-later b f (named-cut k s []))
  begin-cut b s read z (close_container k) f = closer-cuts b s read (container_end k) z f (λ l t x. refl)
  begin-cut b s read z nothing f = tt

-- ---- Items.

module _ (k : ContainerKind) (inner : List ℕ → Parsed) (more : List ℕ → Items) where
  add-cut : (m : Label) (ds : Trees) (s u : List ℕ) → Cut inner (encoding m ds) s u → (q : Items) → CutsItems more u q → CutsItems (λ x. next_item k (inner x) more) s (add_item m ds q)
  unfolding next_item add_item
  add-cut m ds s u c (items ts v) d = join (λ x y e. ap (λ q. next_item k q more) e) c (over (λ x w y h e. ap (add_item m ds) e) d)
  add-cut m ds s u c (items_refused e v) d = tt

  next-cut : ((s : List ℕ) → CutsItems more s (more s)) → (s : List ℕ) (q : Parsed) → Cuts inner s q → CutsItems (λ x. next_item k (inner x) more) s (next_item k q more)
  unfolding next_item
  next-cut r s empty c = tt
  next-cut r s (encoding m ds u) c = add-cut m ds s u c (more u) (r u)
  next-cut r s (container_end j u) c = go (same_container k j) refl
    where
      go : (x : Bool) → same_container k j ≡ x → CutsItems (λ x. next_item k (inner x) more) s (next_item k (container_end j u) more)
      go true e = rw (e, next_item) (over (λ x w y h i. ap (λ q. next_item k q more) i ∙ rw (e, next_item)) c.0)
      go false e = rw (e, next_item) tt
  next-cut r s (array_end u) c = tt
  next-cut r s (refused e u) c = tt

no_items : (f : ℕ) (k : ContainerKind) (ts : Trees) (u : List ℕ) → parse_items f k [] ≡ items ts u → ⊥
unfolding parse_items next_item
no_items zero k ts u e = let z : ◌≡◌ {A = ℕ} 0 1 = cc in omega arith
no_items (suc f) k ts u e =
    let i = rw (nothing-there f) at e in
    let z : ◌≡◌ {A = ℕ} 0 1 = cc in
    omega arith

-- ---- Both, by the fuel.

mutual
  unfolding parse_inner parse_items held

  pub inner_cut : (f : ℕ) (s : List ℕ) → Cuts (λ x. parse_inner f x) s (parse_inner f s)
  inner_cut zero s = λ t w e l. refl
  inner_cut (suc f) [] = λ t w e l. rw (none_left t w e)
  inner_cut (suc f) (b ∷ s) =
      begin-cut (λ t. parse_inner f t) (λ k t. parse_items f k t) (λ t. inner_cut f t) (λ k t. items-cut f k t) (no_items f) b s (λ x. parse_inner (suc f) x) refl (start b) (λ x. refl)

  items-cut : (f : ℕ) (k : ContainerKind) (s : List ℕ) → CutsItems (λ x. parse_items f k x) s (parse_items f k s)
  items-cut zero k s = tt
  items-cut (suc f) k s = next-cut k (λ x. parse_inner f x) (λ x. parse_items f k x) (λ t. items-cut f k t) s (parse_inner f s) (inner_cut f s)

-- ---- A type with its qualifiers.

abbrev CutEncoded : List ℕ → Encoded → Type 0
CutEncoded s (encoded l cs u) = Cut parse_encoding_or_none (encoded l cs) s u
CutEncoded s (not_encoded e u) = Unit {0}

qualified : (b : ℕ) → is_qualifier b ≡ true → (s : List ℕ) (q : Encoded) → CutEncoded s q → CutEncoded (b ∷ s) q
unfolding parse_encoding_or_none strip_leading_qualifiers
qualified b e s (encoded l cs u) c = later b (λ x. rw (e, strip_leading_qualifiers)) c
qualified b e s (not_encoded r u) c = tt

unqualified : (b : ℕ) → is_qualifier b ≡ false → (s : List ℕ) → parse_encoding_or_none (b ∷ s) ≡ encoding_or_none (parse (b ∷ s))
unfolding parse_encoding_or_none strip_leading_qualifiers
unqualified b e s = rw (e, strip_leading_qualifiers)

read-cut : (b : ℕ) → is_qualifier b ≡ false → (s : List ℕ) (f : ℕ) → length (b ∷ s) + length (b ∷ s) ≤ f → (q : Parsed) → Cuts (λ x. parse_inner f x) (b ∷ s) q → Well (b ∷ s) q
    → CutEncoded (b ∷ s) (encoding_or_none q)
unfolding encoding_or_none parse
read-cut b p s f enough empty c h = absurd (omega arith)
read-cut b p s f enough (encoding l cs u) c h = over go c
  where
    go : (x w y : List ℕ) → b ∷ s ≡ x ++ w → parse_inner f x ≡ encoding l cs y → parse_encoding_or_none x ≡ encoded l cs y
    go [] w y i e = cc (nothing-there f)
    go (d ∷ x) w y i e =
        let g : ℕ = length (d ∷ x) + length (d ∷ x) in
        unqualified d (cc) x ∙ ap encoding_or_none (same-inner g f (d ∷ x) (omega arith) (omega (arith, ap length i, length-append x w)) ∙ e)
read-cut b p s f enough (container_end k u) c h = tt
read-cut b p s f enough (array_end u) c h = tt
read-cut b p s f enough (refused e u) c h = tt

encoded-cut : (s : List ℕ) → CutEncoded s (parse_encoding_or_none s)
unfolding parse_encoding_or_none strip_leading_qualifiers parse parse_inner encoding_or_none
encoded-cut [] = at_once (λ t w e. rw (none_left t w e))
encoded-cut (b ∷ s) = go (is_qualifier b) refl (encoded-cut s)
  where
    go : (x : Bool) → is_qualifier b ≡ x → CutEncoded s (parse_encoding_or_none s) → CutEncoded (b ∷ s) (parse_encoding_or_none (b ∷ s))
    go true e r = rw (e, strip_leading_qualifiers) (qualified b e s (parse_encoding_or_none s) r)
    go false e r =
        let f = length (b ∷ s) + length (b ∷ s) in
        rw (unqualified b e s) (read-cut b e s f (omega arith) (parse_inner f (b ∷ s)) (inner_cut f (b ∷ s)) (well f (b ∷ s) (omega arith)))

cut_of : (s u : List ℕ) (l : Label) (cs : Trees) → parse_encoding_or_none s ≡ encoded l cs u → Cut parse_encoding_or_none (encoded l cs) s u
cut_of s u l cs e = subst (CutEncoded s) e (encoded-cut s)

-- ---- The laws.

-- The bytes that a type was read from, cut out, are read as the same type and nothing is left.
pub cut-encoding : (p u : List ℕ) (l : Label) (cs : Trees) → parse_encoding_or_none (p ++ u) ≡ encoded l cs u → parse_encoding_or_none p ≡ encoded l cs []
cut-encoding p u l cs e =
    let c = cut_of (p ++ u) u l cs e in
    rw (append_cancel_right p c.taken u c.is, ← append-nil c.taken) (c.cut [] u refl)

-- So whole-text reading accepts them.
pub cut-whole : (p u : List ℕ) (l : Label) (cs : Trees) → parse_encoding_or_none (p ++ u) ≡ encoded l cs u → from_str p ≡ tree l cs
unfolding from_str whole
cut-whole p u l cs e = ap (whole (length p)) (cut-encoding p u l cs e)

-- What is left after a type is the end of the text.
pub encoded-rest : (s : List ℕ) (l : Label) (cs : Trees) (t : List ℕ) → parse_encoding_or_none s ≡ encoded l cs t → (p : List ℕ) × (s ≡ p ++ t)
encoded-rest s l cs t e = let c = cut_of s t l cs e in (c.taken, c.is)

abbrev Left : ℕ → Encoded → Type 0
Left n (encoded l cs t) = length t < n
Left n (not_encoded e t) = Unit {0}

read_left : (n : ℕ) (s : List ℕ) → length s ≤ suc n → (q : Parsed) → Well s q → Left (suc n) (encoding_or_none q)
unfolding encoding_or_none
read_left n s i empty h = omega arith
read_left n s i (encoding l cs t) h = omega (arith, h.on)
read_left n s i (container_end k t) h = tt
read_left n s i (array_end t) h = tt
read_left n s i (refused e t) h = tt

-- A type that is read from a text that is not empty takes at least a byte.
pub encoded-some : (b : ℕ) (s : List ℕ) (l : Label) (cs : Trees) (t : List ℕ) → parse_encoding_or_none (b ∷ s) ≡ encoded l cs t → length t < length (b ∷ s)
unfolding parse_encoding_or_none parse
encoded-some b s l cs t e =
    let x = strip_leading_qualifiers (b ∷ s) in
    subst (Left (suc (length s))) e (read_left (length s) x (strip-shorter (b ∷ s)) (parse_inner (length x + length x) x) (well (length x + length x) x (omega arith)))
