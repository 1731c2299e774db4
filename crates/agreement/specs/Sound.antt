-- 01's sound trees ("Sound"): the premise of demand 3.
use Rattle.std.specs.Prelude.{ℕ, Bool, true, false, cond, ◌&&◌, not, List, [], ◌∷◌, ◌++◌, eqb}
use Rattle.kinds.specs.Byte.{byte, bytes, among}
use Rattle.kinds.specs.Print.{decimal, print}
use Rattle.kinds.specs.Sound.{valid, good_names}
use Rattle.kinds.specs.Tree.{Label, Trees, end, node, primitive, bit_field, typed_bit_field, pointer, atomic, array, struct, union, none, is_one, kind, inside, shows}
use Rattle.kinds.specs.declared.NestingLevel.{NestingLevel}
use Rattle.kinds.specs.declared.NestingLevel.TheVariants.{Top}

-- The kinds of `c s i l q C S I L Q B`, the types that a bitfield may have.
unfoldable pub is_integral : Trees → Bool
is_integral end = false
is_integral (node l cs ts) = among (kind l) (0 ∷ 1 ∷ 2 ∷ 3 ∷ 4 ∷ 5 ∷ 6 ∷ 7 ∷ 8 ∷ 9 ∷ 16 ∷ [])

unfoldable pub is_none : Label → Bool
is_none (primitive p) = false
is_none (bit_field n) = false
is_none (typed_bit_field o n) = false
is_none pointer = false
is_none atomic = false
is_none (array n) = false
is_none (struct s) = false
is_none (union s) = false
is_none none = true

-- None of the trees is None.
unfoldable pub without_none : Trees → Bool
without_none end = true
without_none (node l cs ts) = not (is_none l) && without_none ts

unfoldable pub is_closer : ℕ → Bool
is_closer b = among b (bytes "]})")

-- A closing byte follows, or the print ends.
unfoldable pub closes : List ℕ → Bool
closes [] = true
closes (b ∷ r) = is_closer b

-- Unknown's `?` follows.
unfoldable pub unknown_next : List ℕ → Bool
unknown_next [] = false
unknown_next (b ∷ r) = eqb b (byte "?")

-- What follows a node's children in the print, where `r` follows the node.
unfoldable pub after_children : Label → List ℕ → List ℕ
after_children (primitive p) r = r
after_children (bit_field n) r = r
after_children (typed_bit_field o n) r = decimal n ++ r
after_children pointer r = r
after_children atomic r = r
after_children (array n) r = byte "]" ∷ r
after_children (struct s) r = byte "}" ∷ r
after_children (union s) r = byte ")" ∷ r
after_children none r = r

-- 01's three conditions on a shown node, after which the print goes on with `r`.
unfoldable pub clear_node : Label → Trees → List ℕ → Bool
clear_node (primitive p) cs r = not (eqb p 19 && unknown_next r)
clear_node (bit_field n) cs r = true
clear_node (typed_bit_field o n) cs r = is_integral cs
clear_node pointer cs r = true
clear_node atomic cs r = true
clear_node (array n) cs r = true
clear_node (struct s) cs r = without_none cs
clear_node (union s) cs r = without_none cs
clear_node none cs r = closes r

-- The same on the shown part of trees at a level.
unfoldable pub clear : NestingLevel → Trees → List ℕ → Bool
clear v end r = true
clear v (node l cs ts) r =
    cond (shows l v) (clear_node l cs (print v ts ++ r) && clear (inside l v) cs (after_children l (print v ts ++ r))) true
    && clear v ts r

-- 01's sound: one valid tree without bad names, clear from the top level down.
unfoldable pub sound : Trees → Bool
sound t = is_one t && (valid t && (good_names t && clear Top t []))
