-- The tree that prints the most bytes: it is one that a sheet can hold, and the length of its print.
use Prim.Native.Nat.{ℕ, zero, suc, ◌+◌, ◌*◌}
use native.Mathlib.Omega.{arith}
use mathlib.Core.Path.{◌≡◌, refl, ap, ◌∙◌}
use mathlib.Core.List.{[], ◌∷◌, ◌++◌, append-nil}
use mathlib.Core.Bool.{true}
use lib.ListN.{length, length-append, length-replicate, replicate}
use Rattle.kinds.specs.Byte.{byte, bytes, is_digit}
use Rattle.kinds.specs.Name.{is_name_byte, all_name_bytes, verify_name}
use Rattle.kinds.specs.Parse.{max_u64, max_u8}
use Rattle.kinds.specs.Print.{digits, decimal, fields, print_node, print}
use Rattle.kinds.specs.Sheet.{names_of}
use Rattle.kinds.specs.Sound.{valid_label, valid_count, valid, good_name, good_names}
use Rattle.kinds.specs.Tree.{Trees, end, node, struct, is_end, is_one, count, name}
use Rattle.kinds.specs.declared.NestingLevel.{NestingLevel}
use Rattle.kinds.specs.declared.NestingLevel.TheVariants.{Top}
use Rattle.bounds.specs.Extremes.{bit_fields, named}

-- What a bitfield with type adds.
widest : (length (decimal max_u64) ≡ 20) × (length (decimal max_u8) ≡ 3)
unfolding decimal digits
widest = (refl, refl)

module _ (t : Trees) where
  pub fields-one : is_one t ≡ true → (n : ℕ) → is_one (bit_fields n t) ≡ true
  unfolding bit_fields is_one is_end
  fields-one h zero = h
  fields-one h (suc n) = refl

  pub fields-valid : is_one t ≡ true → valid t ≡ true → (n : ℕ) → valid (bit_fields n t) ≡ true
  unfolding bit_fields valid valid_label valid_count
  fields-valid o h zero = h
  fields-valid o h (suc n) = rw (fields-one o n, fields-valid o h n)

  pub fields-good : good_names t ≡ true → (n : ℕ) → good_names (bit_fields n t) ≡ true
  unfolding bit_fields good_names good_name
  fields-good h zero = h
  fields-good h (suc n) = rw (fields-good h n)

  pub fields-count : (n : ℕ) → count (bit_fields n t) ≡ n + count t
  unfolding bit_fields count
  fields-count zero = omega arith
  fields-count (suc n) = omega (arith, fields-count n)

  pub fields-names : (n : ℕ) → names_of (bit_fields n t) ≡ names_of t
  unfolding bit_fields names_of name
  fields-names zero = refl
  fields-names (suc n) = append-nil (names_of (bit_fields n t)) ∙ fields-names n

  pub fields-print : (v : NestingLevel) (n : ℕ) → length (print v (bit_fields n t)) ≡ 24 * n + length (print v t)
  unfolding bit_fields print print_node
  fields-print v zero = omega arith
  fields-print v (suc n) =
      let p = print v (bit_fields n t) in
      let a = length-append (decimal max_u64) (p ++ decimal max_u8) in
      let b = length-append p (decimal max_u8) in
      let c = length-append (98 ∷ (decimal max_u64 ++ (p ++ decimal max_u8))) [] in
      let x = widest.0 in
      let y = widest.1 in
      omega (arith, fields-print v n)

-- ---- The name.

all-name : (n b : ℕ) → is_name_byte b ≡ true → all_name_bytes (replicate n b) ≡ true
unfolding all_name_bytes
all-name zero b h = refl
all-name (suc n) b h = rw (h, all-name n b h)

pub name-good : (n b : ℕ) → is_name_byte b ≡ true → verify_name (replicate (suc (suc n)) b) ≡ true
unfolding verify_name
name-good n b h = rw (h, all-name (suc n) b h)

letter : is_name_byte (byte "R") ≡ true
unfolding is_name_byte is_digit
letter = refl

-- ---- The tree.

-- What the bitfields stand around.
abbrev core : ℕ → Trees
core m = node (struct (replicate m (byte "R"))) end end

module _ (n m : ℕ) where
  pub named-one : is_one (named n m) ≡ true
  unfolding named is_one is_end
  named-one = fields-one (core m) refl n

  pub named-valid : valid (named n m) ≡ true
  unfolding named is_one is_end valid valid_label valid_count
  named-valid = fields-valid (core m) refl refl n

  pub named_count : count (named n m) ≡ n + 1
  unfolding named count
  named_count = fields-count (core m) n

  pub named-names : length (names_of (named n m)) ≡ m
  unfolding named names_of name
  named-names = ap length (fields-names (core m) n ∙ append-nil (replicate m (byte "R"))) ∙ length-replicate m (byte "R")

  pub named-print : length (print Top (named n m)) ≡ 24 * n + m + 3
  unfolding named print print_node fields
  named-print =
      let s = replicate m (byte "R") in
      omega (arith, fields-print (core m) Top n, length-append s (bytes "=}"), length-replicate m (byte "R"), length-append (123 ∷ (s ++ bytes "=}")) [])

pub named-good : (n m : ℕ) → good_names (named n (suc (suc m))) ≡ true
unfolding named good_names good_name
named-good n m = fields-good (core (suc (suc m))) (rw (name-good m (byte "R") letter)) n
