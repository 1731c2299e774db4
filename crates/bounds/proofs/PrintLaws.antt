-- How long the print of valid trees can be, by their nodes and name bytes.
use Prim.Native.Nat.{ℕ, suc, ◌+◌, ◌*◌, ◌/◌, ◌≤◌, ◌<◌}
use native.Mathlib.Omega.{arith}
use mathlib.Core.Path.{◌≡◌, refl, sym}
use mathlib.Core.List.{List, [], ◌∷◌, ◌++◌}
use mathlib.Core.Bool.{Bool, true, false, ◌&&◌, false≢true}
use borrow.Author.Tests.{ltb-true, ltb-false, leb-true}
use lib.Dec.{leb, ltb}
use lib.ListN.{length, length-append}
use Rattle.kinds.specs.Byte.{bytes}
use Rattle.kinds.specs.Parse.{max_u64, max_u8}
use Rattle.kinds.specs.Primitive.{codes, code}
use Rattle.kinds.specs.Print.{decimal, fields, print_node, print}
use Rattle.kinds.specs.Sheet.{names_of}
use Rattle.kinds.specs.Sound.{valid_label, valid_count, valid}
use Rattle.kinds.specs.Tree.{Label, Trees, end, node, primitive, bit_field, typed_bit_field, pointer, atomic, array, struct, union, none, inside, is_end, is_one, count, name}
use Rattle.kinds.specs.declared.NestingLevel.{NestingLevel}
use Rattle.kinds.specs.declared.NestingLevel.TheVariants.{Top, Within, Bottom}
use Rattle.kinds.proofs.TableLaws.{both, every_below, pass_below}
use Rattle.static_str.proofs.NumberLaws.{decimal-one, decimal-more, decimal-fits}

-- ---- A node's own text.

short-decimal : (k n : ℕ) → ((m : ℕ) → m ≤ k → length (decimal m) ≤ 2) → 9 ≤ k → n ≤ k * 10 + 9 → length (decimal n) ≤ 3
short-decimal k n more h l = go (ltb n 10) refl
  where
    go : (t : Bool) → ltb n 10 ≡ t → length (decimal n) ≤ 3
    go true e = omega (arith, decimal-one n (ltb-true n 10 e))
    go false e = omega (arith, decimal-more n (ltb-false n 10 e), more (n / 10) (omega arith))

two_digits : (n : ℕ) → n < 100 → length (decimal n) ≤ 2
two_digits n h = go (ltb n 10) refl
  where
    go : (t : Bool) → ltb n 10 ≡ t → length (decimal n) ≤ 2
    go true e = omega (arith, decimal-one n (ltb-true n 10 e))
    go false e = omega (arith, decimal-more n (ltb-false n 10 e), decimal-one (n / 10) (omega arith))

-- A bitfield's size has at most three digits, a number of 64 bits at most twenty.
size-digits : (n : ℕ) → leb n max_u8 ≡ true → length (decimal n) ≤ 3
size-digits n h = let l = leb-true n 255 h in short-decimal 99 n (λ m p. two_digits m (omega arith)) (omega arith) (omega arith)

number_digits : (n : ℕ) → leb n max_u64 ≡ true → length (decimal n) ≤ 20
number_digits n h = decimal-fits n (low (leb-true n max_u64 h))
  where
    low : n ≤ 18446744073709551615 → n < 18446744073709551616
    low p = omega arith

short-code : ℕ → Bool
short-code p = leb (length (code p)) 2

code-length : (p : ℕ) → ltb p 24 ≡ true → length (code p) ≤ 2
unfolding short-code every_below code codes
code-length p h = leb-true (length (code p)) 2 (pass_below short-code 24 refl p (ltb-true p 24 h))

fields-length : (v : NestingLevel) (c : List ℕ) → length (fields v c) ≤ suc (length c)
unfolding fields
fields-length Top c = omega arith
fields-length Within c = omega arith
fields-length Bottom c = omega arith

container-length : (b : ℕ) (s c r : List ℕ) (v : NestingLevel) → length (b ∷ (s ++ (fields v c ++ r))) ≤ 2 + length s + length c + length r
container-length b s c r v = omega (arith, length-append s (fields v c ++ r), length-append (fields v c) r, fields-length v c)

-- ---- Trees side by side. Where there are some, their print has 20 bytes less than 24 a node and one a name byte, and one less still where they have names.

abbrev Short : NestingLevel → Trees → Type 0
Short v t = is_end t ≡ false → (k : ℕ) → k ≤ 1 → k ≤ length (names_of t) → length (print v t) + 20 + k ≤ 24 * count t + length (names_of t)

-- What a node and its children print.
abbrev ShortNode : Label → NestingLevel → Trees → Type 0
ShortNode l v cs = (k : ℕ) → k ≤ 1 → k ≤ length (name l) + length (names_of cs)
    → length (print_node l v (print (inside l v) cs)) + 20 + k ≤ 24 * suc (count cs) + length (name l) + length (names_of cs)

pub one-some : (t : Trees) → is_one t ≡ true → is_end t ≡ false
unfolding is_one is_end
one-some end h = absurd (false≢true h)
one-some (node l cs ts) h = refl

no_names : (t : Trees) → is_end t ≡ true → length (names_of t) ≡ 0
unfolding is_end names_of
no_names end h = refl
no_names (node l cs ts) h = absurd (false≢true h)

pub within : (v : NestingLevel) (t : Trees) → Short v t → length (print v t) ≤ 24 * count t + length (names_of t)
unfolding is_end print count names_of
within v end s = omega arith
within v (node l cs ts) s = omega (arith, s refl 0 (omega arith) (omega arith))

short-node : (l : Label) (v : NestingLevel) (cs : Trees) → valid_label l ≡ true → valid_count l cs ≡ true → Short (inside l v) cs → ShortNode l v cs
unfolding valid_label valid_count name print_node
short-node (primitive p) v cs h c s k a b = omega (arith, code-length p h, no_names cs c)
short-node (bit_field n) v cs h c s k a b = omega (arith, size-digits n h, no_names cs c)
short-node (typed_bit_field o n) v cs h c s k a b =
    let t = both (leb o max_u64) (leb n max_u8) h in
    let p = print v cs in
    omega (arith, s (one-some cs c) k a (omega arith), number_digits o t.0, size-digits n t.1, length-append (decimal o) (p ++ decimal n), length-append p (decimal n))
short-node pointer v cs h c s k a b = omega (arith, s (one-some cs c) k a (omega arith))
short-node atomic v cs h c s k a b = omega (arith, s (one-some cs c) k a (omega arith))
short-node (array n) v cs h c s k a b =
    let p = print v cs in
    omega (arith, s (one-some cs c) k a (omega arith), number_digits n h, length-append (decimal n) (p ++ bytes "]"), length-append p (bytes "]"))
short-node (struct m) v cs h c s k a b = omega (arith, within Within cs s, container-length 123 m (print Within cs) (bytes "}") v)
short-node (union m) v cs h c s k a b = omega (arith, within Within cs s, container-length 40 m (print Within cs) (bytes ")") v)
short-node none v cs h c s k a b = omega (arith, no_names cs c)

-- A node's print before the print of the trees after it.
joined : (l : Label) (v : NestingLevel) (cs us : Trees) → ShortNode l v cs → Short v us → (k : ℕ) → k ≤ 1 → k ≤ length (name l ++ (names_of cs ++ names_of us))
    → length (print_node l v (print (inside l v) cs) ++ print v us) + 20 + k ≤ 24 * suc (count cs + count us) + length (name l ++ (names_of cs ++ names_of us))
unfolding is_end print count names_of
joined l v cs end own more k a b =
    let x = length-append (name l) (names_of cs ++ []) in
    let y = length-append (names_of cs) [] in
    omega (arith, own k a (omega arith), length-append (print_node l v (print (inside l v) cs)) [])
joined l v cs (node m ds us) own more k a b =
    let t = node m ds us in
    omega (
      arith,
      own 0 (omega arith) (omega arith),
      more refl 0 (omega arith) (omega arith),
      length-append (name l) (names_of cs ++ names_of t),
      length-append (names_of cs) (names_of t),
      length-append (print_node l v (print (inside l v) cs)) (print v t),
    )

pub short : (v : NestingLevel) (t : Trees) → valid t ≡ true → Short v t
unfolding valid is_end print count names_of
short v end h e k a b = absurd (false≢true (sym e))
short v (node l cs ts) h e k a b =
    let x = both (valid_label l && valid_count l cs) (valid cs && valid ts) h in
    let y = both (valid_label l) (valid_count l cs) x.0 in
    let z = both (valid cs) (valid ts) x.1 in
    joined l v cs ts (short-node l v cs y.0 y.1 (short (inside l v) cs z.0)) (short v ts z.1) k a b
