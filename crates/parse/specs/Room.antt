-- How many nodes the unread bytes may still make (01, "A text of L bytes makes at most L + 1 nodes").
use Rattle.std.specs.Prelude.{ℕ, suc, Bool, true, false, cond, List, [], ◌∷◌, length}
use Rattle.kinds.specs.Parse.{Start, single, complex, object, bits, indirection, open_array, close_array, open_container, close_container, nothing, start}

unfoldable pub closes : Start → Bool
closes (single p) = false
closes complex = false
closes object = false
closes bits = false
closes (indirection l) = false
closes open_array = false
closes close_array = true
closes (open_container k) = false
closes (close_container k) = true
closes nothing = false

-- One a byte, and one more unless the bytes begin with a closer; none at the end.
unfoldable pub slack : List ℕ → ℕ
slack [] = 0
slack (b ∷ s) = cond (closes (start b)) (suc (length s)) (suc (suc (length s)))
