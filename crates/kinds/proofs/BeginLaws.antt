-- Reading goes by what is read inside: two ways to read that agree wherever they are asked give the same.
use Prim.Native.Nat.{ℕ}
use mathlib.Core.Path.{◌≡◌, refl, ap}
use mathlib.Core.List.{List, []}
use Rattle.kinds.specs.Parse.{max_u64, Number, value, no_number, parse_number, Parsed, empty, encoding, container_end, array_end, refused, Items, Start, single, complex, object, bits, indirection}
use Rattle.kinds.specs.Parse.{open_array, close_array, open_container, close_container, nothing, Named, named, unnamed, parse_name, held, item, contained, add_item, begin, next_item}
use Rattle.kinds.specs.Tree.{Label, Trees}
use Rattle.kinds.specs.declared.ContainerKind.{ContainerKind}

-- Two ways to read a type, and two to read the items of a container, that agree on every text of which `Asked` holds: so on all that is asked for of `s`.
module _ (Asked : List ℕ → Type 0) (s : List ℕ) (inner other : List ℕ → Parsed) (fields parts : ContainerKind → List ℕ → Items)
    (types : (t : List ℕ) → Asked t → inner t ≡ other t) (within : (k : ContainerKind) (t : List ℕ) → Asked t → fields k t ≡ parts k t) where
  same-array : (q : Number) → ((n : ℕ) (t : List ℕ) → q ≡ value n t → Asked t)
      → ◌≡◌ {A = Parsed} (elim q [ value n t ↦ item n (inner t) | no_number e t ↦ refused e t ]) (elim q [ value n t ↦ item n (other t) | no_number e t ↦ refused e t ])
  same-array (value n t) h = ap (item n) (types t (h n t refl))
  same-array (no_number e t) h = refl

  same-named : (k : ContainerKind) (q : Named) → ((m t : List ℕ) → q ≡ named m t → Asked t)
      → ◌≡◌ {A = Parsed} (elim q [ named m t ↦ contained k m (fields k t) | unnamed e t ↦ refused e t ]) (elim q [ named m t ↦ contained k m (parts k t) | unnamed e t ↦ refused e t ])
  same-named k (named m t) h = ap (contained k m) (within k t (h m t refl))
  same-named k (unnamed e t) h = refl

  pub same-begin : Asked s → ((n : ℕ) (t : List ℕ) → parse_number max_u64 s ≡ value n t → Asked t) → ((k : ContainerKind) (m t : List ℕ) → parse_name k [] s ≡ named m t → Asked t)
      → (b : ℕ) (S : Start) → begin b S s inner fields ≡ begin b S s other parts
  unfolding begin
  same-begin a h g b (single p) = refl
  same-begin a h g b complex = refl
  same-begin a h g b object = refl
  same-begin a h g b bits = refl
  same-begin a h g b (indirection l) = ap (held l s) (types s a)
  same-begin a h g b open_array = same-array (parse_number max_u64 s) h
  same-begin a h g b close_array = refl
  same-begin a h g b (open_container k) = same-named k (parse_name k [] s) (g k)
  same-begin a h g b (close_container k) = refl
  same-begin a h g b nothing = refl

-- The same of what follows an item.
pub same_next : (Asked : List ℕ → Type 0) (k : ContainerKind) (more rest : List ℕ → Items) → ((t : List ℕ) → Asked t → more t ≡ rest t) → (q : Parsed)
    → ((l : Label) (ds : Trees) (t : List ℕ) → q ≡ encoding l ds t → Asked t) → next_item k q more ≡ next_item k q rest
unfolding next_item
same_next Asked k more rest e empty h = refl
same_next Asked k more rest e (encoding m ds t) h = ap (add_item m ds) (e t (h m ds t refl))
same_next Asked k more rest e (container_end j t) h = refl
same_next Asked k more rest e (array_end t) h = refl
same_next Asked k more rest e (refused r t) h = refl
