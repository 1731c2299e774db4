-- A signature of `i0`, so many times.
use Prim.Native.Nat.{ℕ, zero, suc, ◌+◌, ◌*◌}
use native.Mathlib.Omega.{arith}
use mathlib.Core.Path.{◌≡◌, refl, ap}
use mathlib.Core.Bool.{true}
use lib.ListN.{length}
use Rattle.kinds.specs.Byte.{among, is_digit}
use Rattle.kinds.specs.Primitive.{codes, code}
use Rattle.kinds.specs.Print.{digits, decimal, print_node, print}
use Rattle.kinds.specs.Sound.{valid_label, valid_count, valid, good_name, good_names}
use Rattle.kinds.specs.Tree.{is_end, is_one}
use Rattle.kinds.specs.declared.NestingLevel.TheVariants.{Top}
use Rattle.agreement.specs.Sound.{unknown_next, clear_node, clear, sound}
use Rattle.signature.specs.Signature.{entries, signature}
use Rattle.signature_agreement.specs.Limits.{ints}
use Rattle.signature_agreement.specs.Written.{written, not_empty, ends_open, writable, all_writable, entries_for}
use Rattle.signature_agreement.proofs.WrittenLaws.{written_read}

ints-writable : (m : ℕ) → all_writable (ints m) ≡ true
unfolding all_writable ints writable sound is_one is_end valid valid_label valid_count good_names good_name clear clear_node unknown_next print print_node code codes not_empty ends_open is_digit among
ints-writable zero = refl
ints-writable (suc m) = ints-writable m

pub ints-read : (m : ℕ) → signature (written (ints (suc m))) ≡ entries (entries_for 0 (ints (suc m)))
unfolding ints
ints-read m = written_read _ (ints m) (ints-writable (suc m))

pub ints-length : (m : ℕ) → length (written (ints m)) ≡ 2 * m
unfolding written ints print print_node code codes decimal digits
ints-length zero = refl
ints-length (suc m) = omega (arith, ints-length m)

pub ints-entries : (m at : ℕ) → length (entries_for at (ints m)) ≡ m
unfolding entries_for ints
ints-entries zero at = refl
ints-entries (suc m) at = ap suc (ints-entries m _)
