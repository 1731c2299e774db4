-- The tree of a type that the guide defines is sound, where no `?` is printed after an `@`.
use Prim.Native.Nat.{ℕ, zero}
use mathlib.Core.Path.{◌≡◌, refl, ◌∙◌}
use mathlib.Core.List.{List, [], ◌∷◌, ◌++◌, append_assoc, append-nil}
use mathlib.Core.Bool.{Bool, true, false, ◌&&◌, ◌||◌, not, cond, false≢true}
use lib.Dec.{leb, eqb}
use Rattle.kinds.proofs.TableLaws.{both}
use Rattle.kinds.specs.Byte.{byte, is_digit}
use Rattle.kinds.specs.Name.{is_name_byte, all_name_bytes, verify_name}
use Rattle.kinds.specs.Parse.{max_u64, max_u8}
use Rattle.kinds.specs.Print as K
use Rattle.kinds.specs.Print.{print_node, print}
use Rattle.agreement.specs.Sound as S
use Rattle.kinds.specs.Sound.{valid_label, valid_count, valid, good_name, good_names}
use Rattle.agreement.specs.Sound.{without_none, unknown_next, after_children, clear_node, clear, sound}
use Rattle.kinds.specs.Tree as T
use Rattle.kinds.specs.Tree.{Label, Trees, end, node, inside, is_end}
use Rattle.kinds.specs.declared.NestingLevel.{NestingLevel}
use Rattle.kinds.specs.declared.NestingLevel.TheVariants.{Top, Within, Bottom}
use Rattle.documents.specs.Guide as G
use Rattle.documents.specs.Guide.{Meaning, Types, none, simple, long_double, array, structure, union, bit_field, pointer, code, encode, is_none, is_one, is_letter, is_word, is_name, defined, is_type}
use Rattle.documents.specs.Translation.{label, trees, without_long_double, counts_fit, without_block}
use Rattle.documents.proofs.GuidePrint.{label-print, closed, array_parts, structure-parts, pointer_parts, type-print}

-- ---- Names.

or_right : (a b : Bool) → b ≡ true → (a || b) ≡ true
or_right true b h = refl
or_right false b h = h

or_swap : (a b : Bool) → (a || b) ≡ true → (b || a) ≡ true
or_swap true b h = or_right b true refl
or_swap false true h = refl
or_swap false false h = h

letter-name : (b : ℕ) → is_letter b ≡ true → is_name_byte b ≡ true
unfolding is_letter is_name_byte
letter-name b h = or_right (is_digit b) (is_letter b) h

word-name : (s : List ℕ) → is_word s ≡ true → all_name_bytes s ≡ true
unfolding is_word all_name_bytes is_letter is_name_byte is_digit
word-name [] h = refl
word-name (b ∷ s) h =
    let p = both (is_letter b || is_digit b) (is_word s) h in
    rw (or_swap (is_letter b) (is_digit b) p.0, word-name s p.1)

or-either : (a b c : Bool) → (b ≡ true → c ≡ true) → (a || b) ≡ true → (a || c) ≡ true
or-either true b c f h = refl
or-either false b c f h = f h

name-good : (s : List ℕ) → is_name s ≡ true → verify_name s ≡ true
unfolding is_name verify_name
name-good [] h = absurd (false≢true h)
name-good (b ∷ []) h = or-either (eqb b (byte "?")) (is_letter b) (is_name_byte b) (letter-name b) h
name-good (b ∷ c ∷ s) h =
    let p = both (is_letter b) (is_word (c ∷ s)) h in
    rw (letter-name b p.0, word-name (c ∷ s) p.1)

-- ---- Counts and names of the tree.

no-type : (ts : Types) → is_end (trees ts) ≡ is_none ts
unfolding is_end is_none trees
no-type none = refl
no-type (simple m ts) = refl
no-type (long_double ts) = refl
no-type (array count t ts) = refl
no-type (structure s fs ts) = refl
no-type (union s fs ts) = refl
no-type (bit_field num ts) = refl
no-type (pointer t ts) = refl

one_type : (ts : Types) → T.is_one (trees ts) ≡ is_one ts
unfolding T.is_one is_one trees
one_type none = refl
one_type (simple m ts) = no-type ts
one_type (long_double ts) = no-type ts
one_type (array count t ts) = no-type ts
one_type (structure s fs ts) = no-type ts
one_type (union s fs ts) = no-type ts
one_type (bit_field num ts) = no-type ts
one_type (pointer t ts) = no-type ts

label-valid : (m : Meaning) → valid_label (label m) ≡ true
unfolding valid_label
label-valid G.char = refl
label-valid G.int = refl
label-valid G.short = refl
label-valid G.long = refl
label-valid G.long_long = refl
label-valid G.unsigned_char = refl
label-valid G.unsigned_int = refl
label-valid G.unsigned_short = refl
label-valid G.unsigned_long = refl
label-valid G.unsigned_long_long = refl
label-valid G.float = refl
label-valid G.double = refl
label-valid G.bool = refl
label-valid G.void = refl
label-valid G.string = refl
label-valid G.object = refl
label-valid G.class = refl
label-valid G.selector = refl
label-valid G.unknown = refl

-- A node is valid and has a good name where its parts do.
abbrev Good : Trees → Type 0
Good t = (valid t ≡ true) × (good_names t ≡ true)

node-good : (l : Label) (cs ts : Trees) → valid_label l ≡ true → valid_count l cs ≡ true → good_name l ≡ true → Good cs → Good ts → Good (node l cs ts)
unfolding valid good_names
node-good l cs ts a b g c d = (rw (a, b, c.0, d.0), rw (g, c.1, d.1))

trees-good : (r : Bool) (ts : Types) → defined r ts ≡ true → counts_fit ts ≡ true → Good (trees ts)
unfolding trees defined counts_fit valid good_names valid_label valid_count good_name is_end
trees-good r none h f = (refl, refl)
trees-good r (simple m ts) h f = node-good (label m) end (trees ts) (label-valid m) refl refl (refl, refl) (trees-good r ts h f)
trees-good r (long_double ts) h f = node-good (T.primitive 12) end (trees ts) refl refl refl (refl, refl) (trees-good r ts h f)
trees-good r (array count t ts) h f =
    let p = array_parts r count t ts h in
    let q = both (leb count max_u64) (counts_fit t && counts_fit ts) f in
    let u = both (counts_fit t) (counts_fit ts) q.1 in
    node-good (T.array count) (trees t) (trees ts) q.0 (one_type t ∙ p.0) refl (trees-good r t p.1 u.0) (trees-good r ts p.2 u.1)
trees-good r (structure s fs ts) h f =
    let p = structure-parts r s fs ts h in
    let q = both (counts_fit fs) (counts_fit ts) f in
    node-good (T.struct s) (trees fs) (trees ts) refl refl (name-good s p.0) (trees-good true fs p.1 q.0) (trees-good r ts p.2 q.1)
trees-good r (union s fs ts) h f =
    let p = structure-parts r s fs ts h in
    let q = both (counts_fit fs) (counts_fit ts) f in
    node-good (T.union s) (trees fs) (trees ts) refl refl (name-good s p.0) (trees-good true fs p.1 q.0) (trees-good r ts p.2 q.1)
trees-good r (bit_field num ts) h f =
    let q = both (leb num max_u8) (counts_fit ts) f in
    node-good (T.bit_field num) end (trees ts) q.0 refl refl (refl, refl) (trees-good r ts h q.1)
trees-good r (pointer t ts) h f =
    let p = pointer_parts r t ts h in
    let q = both (counts_fit t) (counts_fit ts) f in
    node-good T.pointer (trees t) (trees ts) refl (one_type t ∙ p.0) refl (trees-good r t p.2 q.0) (trees-good r ts p.3 q.1)

-- ---- What follows in the print.

pub without-after : (s t : List ℕ) → without_block (s ++ t) ≡ true → without_block t ≡ true
unfolding without_block
without-after [] t h = h
without-after (b ∷ s) t h = without-after s t (both (not (eqb b (byte "@") && unknown_next (s ++ t))) (without_block (s ++ t)) h).1

-- Inside a bracket or brace.
without-inner : (opener closer : ℕ) (a b after : List ℕ) → without_block ((opener ∷ (a ++ (b ++ (closer ∷ [])))) ++ after) ≡ true → without_block (b ++ (closer ∷ after)) ≡ true
without-inner opener closer a b after h = without-after (opener ∷ a) (b ++ (closer ∷ after)) (rw (closed opener closer a b after) at h)

without-none : (ts : Types) → without_none (trees ts) ≡ true
unfolding without_none S.is_none trees
without-none none = refl
without-none (simple m ts) = without-none ts
without-none (long_double ts) = without-none ts
without-none (array count t ts) = without-none ts
without-none (structure s fs ts) = without-none ts
without-none (union s fs ts) = without-none ts
without-none (bit_field num ts) = without-none ts
without-none (pointer t ts) = without-none ts

-- The object's node is the one that prints `@`.
object-code : (m : Meaning) (r : List ℕ) → clear_node (label m) end r ≡ not (eqb (code m) (byte "@") && unknown_next r)
unfolding clear_node code
object-code G.char r = refl
object-code G.int r = refl
object-code G.short r = refl
object-code G.long r = refl
object-code G.long_long r = refl
object-code G.unsigned_char r = refl
object-code G.unsigned_int r = refl
object-code G.unsigned_short r = refl
object-code G.unsigned_long r = refl
object-code G.unsigned_long_long r = refl
object-code G.float r = refl
object-code G.double r = refl
object-code G.bool r = refl
object-code G.void r = refl
object-code G.string r = refl
object-code G.object r = refl
object-code G.class r = refl
object-code G.selector r = refl
object-code G.unknown r = refl

-- The text of a node and of what follows it.
node-text : (v : NestingLevel) (l : Label) (cs ts : Trees) (r : List ℕ) → without_block (print v (node l cs ts) ++ r) ≡ true → without_block (print_node l v (print (inside l v) cs) ++ (print v ts ++ r)) ≡ true
unfolding print
node-text v l cs ts r h = rw (append_assoc (print_node l v (print (inside l v) cs)) (print v ts) r) at h

simple-clear : (m : Meaning) (v : NestingLevel) (s : List ℕ) → without_block (print_node (label m) v [] ++ s) ≡ true → clear_node (label m) end s ≡ true
unfolding without_block
simple-clear m v s h = rw (object-code m s) (both (not (eqb (code m) (byte "@") && unknown_next s)) (without_block s) (rw (label-print m v []) at h)).0

-- The fields of a record that shows them.
fields-clear : (opener closer : ℕ) (s : List ℕ) (fs : Types) (after : List ℕ)
    → (without_block (print Within (trees fs) ++ (closer ∷ after)) ≡ true → clear Within (trees fs) (closer ∷ after) ≡ true)
    → without_block ((opener ∷ (s ++ ((byte "=" ∷ print Within (trees fs)) ++ (closer ∷ [])))) ++ after) ≡ true
    → (without_none (trees fs) && clear Within (trees fs) (closer ∷ after)) ≡ true
fields-clear opener closer s fs after rec h =
    let c = print Within (trees fs) in
    rw (without-none fs) (rec (without-after (byte "=" ∷ []) (c ++ (closer ∷ after)) (without-inner opener closer s (byte "=" ∷ c) after h)))

-- What a node has to be clear of at a level.
abbrev ClearHere : NestingLevel → Label → Trees → List ℕ → Type 0
ClearHere v l cs after = cond (T.shows l v) (clear_node l cs after && clear (inside l v) cs (after_children l after)) true ≡ true

structure-clear : (s : List ℕ) (fs : Types) (v : NestingLevel) (after : List ℕ)
    → (without_block (print Within (trees fs) ++ (byte "}" ∷ after)) ≡ true → clear Within (trees fs) (byte "}" ∷ after) ≡ true)
    → without_block (print_node (T.struct s) v (print Within (trees fs)) ++ after) ≡ true
    → ClearHere v (T.struct s) (trees fs) after
unfolding print_node K.fields clear_node after_children
structure-clear s fs Top after rec h = fields-clear (byte "{") (byte "}") s fs after rec h
structure-clear s fs Within after rec h = fields-clear (byte "{") (byte "}") s fs after rec h
structure-clear s fs Bottom after rec h = refl

union-clear : (s : List ℕ) (fs : Types) (v : NestingLevel) (after : List ℕ)
    → (without_block (print Within (trees fs) ++ (byte ")" ∷ after)) ≡ true → clear Within (trees fs) (byte ")" ∷ after) ≡ true)
    → without_block (print_node (T.union s) v (print Within (trees fs)) ++ after) ≡ true
    → ClearHere v (T.union s) (trees fs) after
unfolding print_node K.fields clear_node after_children
union-clear s fs Top after rec h = fields-clear (byte "(") (byte ")") s fs after rec h
union-clear s fs Within after rec h = fields-clear (byte "(") (byte ")") s fs after rec h
union-clear s fs Bottom after rec h = refl

node-clear : (v : NestingLevel) (l : Label) (cs ts : Trees) (r : List ℕ)
    → (without_block (print_node l v (print (inside l v) cs) ++ (print v ts ++ r)) ≡ true → ClearHere v l cs (print v ts ++ r))
    → (without_block (print v ts ++ r) ≡ true → clear v ts r ≡ true) → without_block (print v (node l cs ts) ++ r) ≡ true → clear v (node l cs ts) r ≡ true
unfolding clear
node-clear v l cs ts r here rec h =
    let t = node-text v l cs ts r h in
    rw (here t, rec (without-after (print_node l v (print (inside l v) cs)) (print v ts ++ r) t))

trees-clear : (v : NestingLevel) (ts : Types) (r : List ℕ) → without_block (print v (trees ts) ++ r) ≡ true → clear v (trees ts) r ≡ true
unfolding trees clear print print_node clear_node after_children
trees-clear v none r h = refl
trees-clear v (simple m ts) r h = node-clear v (label m) end (trees ts) r (λ t. rw (simple-clear m v (print v (trees ts) ++ r) t)) (trees-clear v ts r) h
trees-clear v (long_double ts) r h = node-clear v (T.primitive 12) end (trees ts) r (λ t. refl) (trees-clear v ts r) h
trees-clear v (array count t ts) r h =
    let after = print v (trees ts) ++ r in
    node-clear v (T.array count) (trees t) (trees ts) r
    (λ x. trees-clear v t (byte "]" ∷ after) (without-inner (byte "[") (byte "]") (K.decimal count) (print v (trees t)) after x))
    (trees-clear v ts r)
    h
trees-clear v (structure s fs ts) r h =
    let after = print v (trees ts) ++ r in
    node-clear v (T.struct s) (trees fs) (trees ts) r (structure-clear s fs v after (trees-clear Within fs (byte "}" ∷ after))) (trees-clear v ts r) h
trees-clear v (union s fs ts) r h =
    let after = print v (trees ts) ++ r in
    node-clear v (T.union s) (trees fs) (trees ts) r (union-clear s fs v after (trees-clear Within fs (byte ")" ∷ after))) (trees-clear v ts r) h
trees-clear v (bit_field num ts) r h = node-clear v (T.bit_field num) end (trees ts) r (λ t. refl) (trees-clear v ts r) h
trees-clear v (pointer t ts) r h =
    let after = print v (trees ts) ++ r in
    let u = inside T.pointer v in
    node-clear v T.pointer (trees t) (trees ts) r (λ x. trees-clear u t after (without-after (byte "^" ∷ []) (print u (trees t) ++ after) x)) (trees-clear v ts r) h

pub type-sound : (t : Types) → is_type t ≡ true → without_long_double t ≡ true → counts_fit t ≡ true → without_block (encode zero t) ≡ true → sound (trees t) ≡ true
unfolding is_type sound
type-sound t h d f b =
    let p = both (is_one t) (defined false t) h in
    let g = trees-good false t p.1 f in
    let w : without_block (print Top (trees t) ++ []) ≡ true = rw (append-nil (print Top (trees t)), type-print t h d) b in
    rw (one_type t, p.0, g.0, g.1, trees-clear Top t [] w)
