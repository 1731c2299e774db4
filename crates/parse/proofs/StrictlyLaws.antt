-- The cycle that is not strict reads as `parse_inner` does; in a strict one a surplus zero among the numbers met comes first.
use Prim.Native.Nat.{ℕ, zero, suc, ◌+◌}
use mathlib.Core.Path.{◌≡◌, refl, sym, ap, ◌∙◌}
use mathlib.Core.Bool.{Bool, true, false, cond}
use mathlib.Core.List.{List, [], ◌∷◌, ◌++◌}
use Rattle.std.specs.Prelude.{Option, Some, None}
use lib.ListN.{length}
use Rattle.kinds.specs.Parse.{max_u64, Number, value, no_number, parse_number, Parsed, empty, encoding, container_end, array_end, refused, Items, items_refused, Start, single, complex, object, bits}
use Rattle.kinds.specs.Parse.{indirection, open_array, close_array, open_container, close_container, nothing, start, Named, named, unnamed, parse_name, held, item, contained, add_item, begin, next_item}
use Rattle.kinds.specs.Parse.{parse_inner, parse_items, parse, strip_leading_qualifiers, encoding_or_none, parse_encoding_or_none, whole, from_str}
use Rattle.kinds.specs.Strict.{surplus_zero, numbers_of, numbers_inside, numbers_after, inner_numbers, items_numbers, numbers, numbers_met, first_surplus, unless_surplus, from_str_strict}
use Rattle.kinds.specs.Tree.{Label, Trees}
use Rattle.kinds.specs.declared.ContainerKind.{ContainerKind}
use Rattle.kinds.specs.declared.ErrorKind.TheVariants.{SurplusZero}
use Rattle.kinds.proofs.BeginLaws.{same-begin, same_next}
use Rattle.parse.specs.Strictly.{or_surplus, judged, parse_inner_by, parse_items_by}

-- ---- Not strict.

mutual
  unfolding parse_inner parse_items parse_inner_by parse_items_by judged

  pub ordinary-inner : (f : ℕ) (s : List ℕ) → parse_inner_by false f s ≡ parse_inner f s
  ordinary-inner zero s = refl
  ordinary-inner (suc f) [] = refl
  ordinary-inner (suc f) (b ∷ s) =
      same-begin (λ t. Unit {0}) s (λ t. parse_inner_by false f t) (λ t. parse_inner f t) (λ k t. parse_items_by false f k t) (λ k t. parse_items f k t)
      (λ t a. ordinary-inner f t) (λ k t a. ordinary-items f k t) tt (λ n t e. tt) (λ k m t e. tt) b (start b)

  pub ordinary-items : (f : ℕ) (k : ContainerKind) (s : List ℕ) → parse_items_by false f k s ≡ parse_items f k s
  ordinary-items zero k s = refl
  ordinary-items (suc f) k s =
      ap (λ q. next_item k q (λ t. parse_items_by false f k t)) (ordinary-inner f s)
      ∙ same_next (λ t. Unit {0}) k (λ t. parse_items_by false f k t) (λ t. parse_items f k t) (λ t a. ordinary-items f k t) (parse_inner f s) (λ l ds t e. tt)

-- ---- Strict.

-- Of the items of a container.
unfoldable pub or_surplus_items : Option (List ℕ) → Items → Items
or_surplus_items (Some t) q = items_refused SurplusZero t
or_surplus_items None q = q

-- The numbers `xs` are met before `ys`: where `or` lets a surplus zero decide alone, the first of all is the first of `xs` or else of `ys`.
surplus-append : {A : Type 0} (or : Option (List ℕ) → A → A) → ((q : A) → or None q ≡ q) → ((t : List ℕ) (q r : A) → or (Some t) q ≡ or (Some t) r)
    → (xs ys : List (List ℕ)) (q : A) → or (first_surplus (xs ++ ys)) q ≡ or (first_surplus xs) (or (first_surplus ys) q)
unfolding first_surplus
surplus-append or n s [] ys q = sym (n (or (first_surplus ys) q))
surplus-append {A} or n s (x ∷ xs) ys q = go (surplus_zero x) (surplus-append or n s xs ys q)
  where
    go : (y : Bool) → or (first_surplus (xs ++ ys)) q ≡ or (first_surplus xs) (or (first_surplus ys) q)
        → or (cond y (Some x) (first_surplus (xs ++ ys))) q ≡ or (cond y (Some x) (first_surplus xs)) (or (first_surplus ys) q)
    go true e = s x q (or (first_surplus ys) q)
    go false e = e

-- A surplus zero inside is refused by what holds it too.
held-surplus : (l : Label) (s : List ℕ) (o : Option (List ℕ)) (q : Parsed) → held l s (or_surplus o q) ≡ or_surplus o (held l s q)
unfolding held or_surplus
held-surplus l s (Some t) q = refl
held-surplus l s None q = refl

item-surplus : (n : ℕ) (o : Option (List ℕ)) (q : Parsed) → item n (or_surplus o q) ≡ or_surplus o (item n q)
unfolding item or_surplus
item-surplus n (Some t) q = refl
item-surplus n None q = refl

contained-surplus : (k : ContainerKind) (m : List ℕ) (o : Option (List ℕ)) (q : Items) → contained k m (or_surplus_items o q) ≡ or_surplus o (contained k m q)
unfolding contained or_surplus or_surplus_items
contained-surplus k m (Some t) q = refl
contained-surplus k m None q = refl

next-surplus : (k : ContainerKind) (more : List ℕ → Items) (o : Option (List ℕ)) (q : Parsed) → next_item k (or_surplus o q) more
    ≡ or_surplus_items o (next_item k q more)
unfolding next_item or_surplus or_surplus_items
next-surplus k more (Some t) q = refl
next-surplus k more None q = refl

add-surplus : (m : Label) (ds : Trees) (o : Option (List ℕ)) (q : Items) → add_item m ds (or_surplus_items o q) ≡ or_surplus_items o (add_item m ds q)
unfolding add_item or_surplus_items
add-surplus m ds (Some t) q = refl
add-surplus m ds None q = refl

-- `strict` and `parts` read as `inner` and `fields` do, but for a surplus zero among the numbers that `inside` and `among` name.
module _ (s : List ℕ) (strict inner : List ℕ → Parsed) (parts fields : ContainerKind → List ℕ → Items) (inside : List ℕ → List (List ℕ))
    (among : ContainerKind → List ℕ → List (List ℕ))
    (types : (t : List ℕ) → strict t ≡ or_surplus (first_surplus (inside t)) (inner t))
    (within : (k : ContainerKind) (t : List ℕ) → parts k t ≡ or_surplus_items (first_surplus (among k t)) (fields k t)) where
  strict-array : (q : Number) → ◌≡◌ {A = Parsed} (elim q [ value n t ↦ item n (strict t) | no_number e t ↦ refused e t ])
      (or_surplus (first_surplus (elim q [ value n t ↦ inside t | no_number e t ↦ [] ])) (elim q [ value n t ↦ item n (inner t) | no_number e t ↦ refused e t ]))
  unfolding first_surplus or_surplus
  strict-array (value n t) = ap (item n) (types t) ∙ item-surplus n (first_surplus (inside t)) (inner t)
  strict-array (no_number e t) = refl

  strict-named : (k : ContainerKind) (q : Named) → ◌≡◌ {A = Parsed} (elim q [ named m t ↦ contained k m (parts k t) | unnamed e t ↦ refused e t ])
      (or_surplus (first_surplus (elim q [ named m t ↦ among k t | unnamed e t ↦ [] ]))
      (elim q [ named m t ↦ contained k m (fields k t) | unnamed e t ↦ refused e t ]))
  unfolding first_surplus or_surplus
  strict-named k (named m t) = ap (contained k m) (within k t) ∙ contained-surplus k m (first_surplus (among k t)) (fields k t)
  strict-named k (unnamed e t) = refl

  strict-begin : (b : ℕ) (S : Start) → begin b S s strict parts ≡ or_surplus (first_surplus (numbers_inside S s inside among)) (begin b S s inner fields)
  unfolding begin numbers_inside first_surplus or_surplus
  strict-begin b (single p) = refl
  strict-begin b complex = refl
  strict-begin b object = refl
  strict-begin b bits = refl
  strict-begin b (indirection l) = ap (held l s) (types s) ∙ held-surplus l s (first_surplus (inside s)) (inner s)
  strict-begin b open_array = strict-array (parse_number max_u64 s)
  strict-begin b close_array = refl
  strict-begin b (open_container k) = strict-named k (parse_name k [] s)
  strict-begin b (close_container k) = refl
  strict-begin b nothing = refl

strict_next : (k : ContainerKind) (parts fields : List ℕ → Items) (among : List ℕ → List (List ℕ))
    → ((t : List ℕ) → parts t ≡ or_surplus_items (first_surplus (among t)) (fields t))
    → (q : Parsed) → next_item k q parts ≡ or_surplus_items (first_surplus (numbers_after q among)) (next_item k q fields)
unfolding next_item numbers_after first_surplus or_surplus_items
strict_next k parts fields among e empty = refl
strict_next k parts fields among e (encoding m ds t) = ap (add_item m ds) (e t) ∙ add-surplus m ds (first_surplus (among t)) (fields t)
strict_next k parts fields among e (container_end j t) = refl
strict_next k parts fields among e (array_end t) = refl
strict_next k parts fields among e (refused r t) = refl

mutual
  unfolding parse_inner parse_items parse_inner_by parse_items_by judged inner_numbers items_numbers first_surplus or_surplus or_surplus_items

  pub strict-inner : (f : ℕ) (s : List ℕ) → parse_inner_by true f s ≡ or_surplus (first_surplus (inner_numbers f s)) (parse_inner f s)
  strict-inner zero s = refl
  strict-inner (suc f) [] = refl
  strict-inner (suc f) (b ∷ s) =
      ap (or_surplus (first_surplus (numbers_of (start b) s)))
      (strict-begin s (λ t. parse_inner_by true f t) (λ t. parse_inner f t) (λ k t. parse_items_by true f k t) (λ k t. parse_items f k t) (λ t. inner_numbers f t)
      (λ k t. items_numbers f k t)
      (λ t. strict-inner f t) (λ k t. strict-items f k t) b (start b))
      ∙ sym (surplus-append or_surplus (λ q. refl) (λ t q r. refl) (numbers_of (start b) s)
      (numbers_inside (start b) s (λ t. inner_numbers f t) (λ k t. items_numbers f k t)) (parse_inner (suc f) (b ∷ s)))

  pub strict-items : (f : ℕ) (k : ContainerKind) (s : List ℕ) → parse_items_by true f k s ≡ or_surplus_items (first_surplus (items_numbers f k s)) (parse_items f k s)
  strict-items zero k s = refl
  strict-items (suc f) k s =
      ap (λ q. next_item k q (λ t. parse_items_by true f k t)) (strict-inner f s)
      ∙ next-surplus k (λ t. parse_items_by true f k t) (first_surplus (inner_numbers f s)) (parse_inner f s)
      ∙ ap (or_surplus_items (first_surplus (inner_numbers f s)))
      (strict_next k (λ t. parse_items_by true f k t) (λ t. parse_items f k t) (λ t. items_numbers f k t) (λ t. strict-items f k t) (parse_inner f s))
      ∙ sym (surplus-append or_surplus_items (λ q. refl) (λ t q r. refl) (inner_numbers f s) (numbers_after (parse_inner f s) (λ t. items_numbers f k t))
      (parse_items (suc f) k s))

-- ---- Whole texts.

pub ordinary-encoded : (s : List ℕ)
    → encoding_or_none (parse_inner_by false (length (strip_leading_qualifiers s) + length (strip_leading_qualifiers s)) (strip_leading_qualifiers s))
    ≡ parse_encoding_or_none s
unfolding parse parse_encoding_or_none
ordinary-encoded s = ap encoding_or_none (ordinary-inner (length (strip_leading_qualifiers s) + length (strip_leading_qualifiers s)) (strip_leading_qualifiers s))

pub ordinary-whole : (s : List ℕ)
    → whole (length s) (encoding_or_none (parse_inner_by false (length (strip_leading_qualifiers s) + length (strip_leading_qualifiers s)) (strip_leading_qualifiers s)))
    ≡ from_str s
unfolding from_str
ordinary-whole s = ap (whole (length s)) (ordinary-encoded s)

whole-surplus : (n : ℕ) (o : Option (List ℕ)) (q : Parsed) → whole n (encoding_or_none (or_surplus o q)) ≡ unless_surplus n o (whole n (encoding_or_none q))
unfolding whole encoding_or_none or_surplus unless_surplus
whole-surplus n (Some t) q = refl
whole-surplus n None q = refl

pub strict-whole : (s : List ℕ)
    → whole (length s) (encoding_or_none (parse_inner_by true (length (strip_leading_qualifiers s) + length (strip_leading_qualifiers s)) (strip_leading_qualifiers s)))
    ≡ from_str_strict s
unfolding parse parse_encoding_or_none from_str numbers numbers_met from_str_strict
strict-whole s =
    let t = strip_leading_qualifiers s in
    let f = length t + length t in
    ap (λ q. whole (length s) (encoding_or_none q)) (strict-inner f t) ∙ whole-surplus (length s) (first_surplus (inner_numbers f t)) (parse_inner f t)
