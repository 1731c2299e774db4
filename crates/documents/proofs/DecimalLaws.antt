-- The documents' decimal numbers are ours.
use Prim.Native.Nat.{ℕ, zero, suc, ◌+◌, ◌/◌, ◌%◌}
use mathlib.Core.Path.{◌≡◌, refl, ◌∙◌}
use mathlib.Core.List.{List, [], ◌∷◌, ◌++◌, append_assoc, append-nil}
use mathlib.Core.Bool.{Bool, true, false}
use lib.Dec.{ltb}
use Rattle.kinds.specs.Byte.{byte}
use Rattle.kinds.specs.Print as K
use Rattle.documents.specs.Decimal.{digits, decimal}

same_digits : (most n : ℕ) (after : List ℕ) → K.digits most n after ≡ digits most n ++ after
unfolding K.digits digits
same_digits zero n after = refl
same_digits (suc most) n after = go (ltb n 10) refl (same_digits most (n / 10) ((byte "0" + n % 10) ∷ after))
  where
    go : (t : Bool) → ltb n 10 ≡ t → K.digits most (n / 10) ((byte "0" + n % 10) ∷ after) ≡ digits most (n / 10) ++ ((byte "0" + n % 10) ∷ after) → K.digits (suc most) n after ≡ digits (suc most) n ++ after
    go true e rec = rw (e, K.digits, digits)
    go false e rec = rw (e, K.digits, digits) (rec ∙ simp append_assoc)

pub same-decimal : (n : ℕ) → K.decimal n ≡ decimal n
unfolding K.decimal decimal
same-decimal n = same_digits (suc n) n [] ∙ append-nil (digits (suc n) n)
