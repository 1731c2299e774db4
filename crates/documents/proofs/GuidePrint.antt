-- The tree of a type that the guide defines prints as the guide encodes the type.
use Prim.Native.Nat.{ℕ, zero, suc}
use mathlib.Core.Path.{◌≡◌, refl}
use mathlib.Core.List.{List, [], ◌∷◌, ◌++◌, append_assoc}
use mathlib.Core.Bool.{Bool, true, false, ◌&&◌, ◌||◌, not, false≢true}
use Rattle.kinds.specs.Byte.{byte}
use Rattle.kinds.proofs.TableLaws.{both}
use Rattle.kinds.specs.Primitive as P
use Rattle.kinds.specs.Print as K
use Rattle.kinds.specs.Print.{print_node, print}
use Rattle.kinds.specs.Tree.{inside}
use Rattle.kinds.specs.Tree as T
use Rattle.kinds.specs.declared.NestingLevel.{NestingLevel}
use Rattle.kinds.specs.declared.NestingLevel.TheVariants.{Top, Within, Bottom}
use Rattle.documents.specs.Decimal.{decimal}
use Rattle.documents.specs.Guide.{Meaning, Types, none, simple, long_double, array, structure, union, bit_field, pointer, code, fields, encode, is_one, is_name, without_record, defined, is_type}
use Rattle.documents.specs.Guide as G
use Rattle.documents.specs.Translation.{label, trees, without_long_double}
use Rattle.documents.proofs.DecimalLaws.{same-decimal}

-- A code's node prints the code.
pub label-print : (m : Meaning) (v : NestingLevel) (c : List ℕ) → print_node (label m) v c ≡ code m ∷ []
unfolding print_node code P.code P.codes
label-print G.char v c = refl
label-print G.int v c = refl
label-print G.short v c = refl
label-print G.long v c = refl
label-print G.long_long v c = refl
label-print G.unsigned_char v c = refl
label-print G.unsigned_int v c = refl
label-print G.unsigned_short v c = refl
label-print G.unsigned_long v c = refl
label-print G.unsigned_long_long v c = refl
label-print G.float v c = refl
label-print G.double v c = refl
label-print G.bool v c = refl
label-print G.void v c = refl
label-print G.string v c = refl
label-print G.object v c = refl
label-print G.class v c = refl
label-print G.selector v c = refl
label-print G.unknown v c = refl

-- What goes on after a closer.
pub closed : (opener closer : ℕ) (a b after : List ℕ) → (opener ∷ (a ++ (b ++ (closer ∷ [])))) ++ after ≡ opener ∷ (a ++ (b ++ (closer ∷ after)))
closed opener closer a b after = simp append_assoc

-- Each form of type, its parts printed as they are encoded.
module _ (v : NestingLevel) (n : ℕ) where
  simple-print : (m : Meaning) (ts : Types) → print v (trees ts) ≡ encode n ts → print v (trees (simple m ts)) ≡ encode n (simple m ts)
  unfolding print trees encode
  simple-print m ts e = rw (label-print m v [], e)

  array-print : (count : ℕ) (t ts : Types) → print v (trees t) ≡ encode n t → print v (trees ts) ≡ encode n ts → print v (trees (array count t ts)) ≡ encode n (array count t ts)
  unfolding print trees encode print_node
  array-print count t ts d e = rw (d, e, same-decimal count) (closed (byte "[") (byte "]") (decimal count) (encode n t) (encode n ts))

  bit-field-print : (num : ℕ) (ts : Types) → print v (trees ts) ≡ encode n ts → print v (trees (bit_field num ts)) ≡ encode n (bit_field num ts)
  unfolding print trees encode print_node
  bit-field-print num ts e = rw (e, same-decimal num)

  pointer-print : (t ts : Types) → print (inside T.pointer v) (trees t) ≡ encode (suc n) t → print v (trees ts) ≡ encode n ts → print v (trees (pointer t ts)) ≡ encode n (pointer t ts)
  unfolding print trees encode print_node
  pointer-print t ts d e = rw (d, e)

-- Without records the level does not matter.
plain-print : (v : NestingLevel) (n : ℕ) (ts : Types) → without_record ts ≡ true → without_long_double ts ≡ true → print v (trees ts) ≡ encode n ts
unfolding without_record without_long_double print trees encode
plain-print v n none h w = refl
plain-print v n (simple m ts) h w = simple-print v n m ts (plain-print v n ts h w)
plain-print v n (long_double ts) h w = absurd (false≢true w)
plain-print v n (array count t ts) h w =
    let p = both (without_record t) (without_record ts) h in
    let q = both (without_long_double t) (without_long_double ts) w in
    array-print v n count t ts (plain-print v n t p.0 q.0) (plain-print v n ts p.1 q.1)
plain-print v n (structure s fs ts) h w = absurd (false≢true h)
plain-print v n (union s fs ts) h w = absurd (false≢true h)
plain-print v n (bit_field num ts) h w = bit-field-print v n num ts (plain-print v n ts h w)
plain-print v n (pointer t ts) h w =
    let p = both (without_record t) (without_record ts) h in
    let q = both (without_long_double t) (without_long_double ts) w in
    pointer-print v n t ts (plain-print (inside T.pointer v) (suc n) t p.0 q.0) (plain-print v n ts p.1 q.1)

-- The level behind `n` pointers.
abbrev pub level : ℕ → NestingLevel
level zero = Top
level (suc zero) = Within
level (suc (suc n)) = Bottom

one_more : (n : ℕ) → inside T.pointer (level n) ≡ level (suc n)
one_more zero = refl
one_more (suc zero) = refl
one_more (suc (suc n)) = refl

same-fields : (n : ℕ) (s : List ℕ) → K.fields (level n) s ≡ fields n s
unfolding K.fields fields
same-fields zero s = refl
same-fields (suc zero) s = refl
same-fields (suc (suc n)) s = refl

-- A record at a level where it goes on as behind `n` pointers.
module _ (v : NestingLevel) (n : ℕ) (same : (s : List ℕ) → K.fields v s ≡ fields n s) where
  structure-print : (s : List ℕ) (fs ts : Types) → print Within (trees fs) ≡ encode zero fs → print v (trees ts) ≡ encode n ts → print v (trees (structure s fs ts)) ≡ encode n (structure s fs ts)
  unfolding print trees encode print_node
  structure-print s fs ts d e = rw (d, e, same (encode zero fs)) (closed (byte "{") (byte "}") s (fields n (encode zero fs)) (encode n ts))

  union-print : (s : List ℕ) (fs ts : Types) → print Within (trees fs) ≡ encode zero fs → print v (trees ts) ≡ encode n ts → print v (trees (union s fs ts)) ≡ encode n (union s fs ts)
  unfolding print trees encode print_node
  union-print s fs ts d e = rw (d, e, same (encode zero fs)) (closed (byte "(") (byte ")") s (fields n (encode zero fs)) (encode n ts))

-- The parts of what the guide defines.
pub array_parts : (r : Bool) (count : ℕ) (t ts : Types) → defined r (array count t ts) ≡ true → (is_one t ≡ true) × (defined r t ≡ true) × (defined r ts ≡ true)
unfolding defined
array_parts r count t ts h =
    let a = both (is_one t) (defined r t && defined r ts) h in
    let b = both (defined r t) (defined r ts) a.1 in
    (a.0, b.0, b.1)

pub structure-parts : (r : Bool) (s : List ℕ) (fs ts : Types) → defined r (structure s fs ts) ≡ true → (is_name s ≡ true) × (defined true fs ≡ true) × (defined r ts ≡ true)
unfolding defined
structure-parts r s fs ts h =
    let a = both (is_name s) (defined true fs && defined r ts) h in
    let b = both (defined true fs) (defined r ts) a.1 in
    (a.0, b.0, b.1)

pub pointer_parts : (r : Bool) (t ts : Types) → defined r (pointer t ts) ≡ true → (is_one t ≡ true) × ((not r || without_record t) ≡ true) × (defined r t ≡ true) × (defined r ts ≡ true)
unfolding defined
pointer_parts r t ts h =
    let a = both (is_one t && (not r || without_record t)) (defined r t && defined r ts) h in
    let b = both (is_one t) (not r || without_record t) a.0 in
    let c = both (defined r t) (defined r ts) a.1 in
    (b.0, b.1, c.0, c.1)

-- The fields of a record.
fields-print : (ts : Types) → defined true ts ≡ true → without_long_double ts ≡ true → print Within (trees ts) ≡ encode zero ts
unfolding without_long_double print trees encode defined K.fields fields
fields-print none h w = refl
fields-print (simple m ts) h w = simple-print Within zero m ts (fields-print ts h w)
fields-print (long_double ts) h w = absurd (false≢true w)
fields-print (array count t ts) h w =
    let p = array_parts true count t ts h in
    let q = both (without_long_double t) (without_long_double ts) w in
    array-print Within zero count t ts (fields-print t p.1 q.0) (fields-print ts p.2 q.1)
fields-print (structure s fs ts) h w =
    let p = structure-parts true s fs ts h in
    let q = both (without_long_double fs) (without_long_double ts) w in
    structure-print Within zero (λ c. refl) s fs ts (fields-print fs p.1 q.0) (fields-print ts p.2 q.1)
fields-print (union s fs ts) h w =
    let p = structure-parts true s fs ts h in
    let q = both (without_long_double fs) (without_long_double ts) w in
    union-print Within zero (λ c. refl) s fs ts (fields-print fs p.1 q.0) (fields-print ts p.2 q.1)
fields-print (bit_field num ts) h w = bit-field-print Within zero num ts (fields-print ts h w)
fields-print (pointer t ts) h w =
    let p = pointer_parts true t ts h in
    let q = both (without_long_double t) (without_long_double ts) w in
    pointer-print Within zero t ts (plain-print Bottom (suc zero) t p.1 q.0) (fields-print ts p.3 q.1)

-- Types behind `n` pointers.
pub types-print : (n : ℕ) (ts : Types) → defined false ts ≡ true → without_long_double ts ≡ true → print (level n) (trees ts) ≡ encode n ts
unfolding without_long_double print trees encode defined
types-print n none h w = refl
types-print n (simple m ts) h w = simple-print (level n) n m ts (types-print n ts h w)
types-print n (long_double ts) h w = absurd (false≢true w)
types-print n (array count t ts) h w =
    let p = array_parts false count t ts h in
    let q = both (without_long_double t) (without_long_double ts) w in
    array-print (level n) n count t ts (types-print n t p.1 q.0) (types-print n ts p.2 q.1)
types-print n (structure s fs ts) h w =
    let p = structure-parts false s fs ts h in
    let q = both (without_long_double fs) (without_long_double ts) w in
    structure-print (level n) n (same-fields n) s fs ts (fields-print fs p.1 q.0) (types-print n ts p.2 q.1)
types-print n (union s fs ts) h w =
    let p = structure-parts false s fs ts h in
    let q = both (without_long_double fs) (without_long_double ts) w in
    union-print (level n) n (same-fields n) s fs ts (fields-print fs p.1 q.0) (types-print n ts p.2 q.1)
types-print n (bit_field num ts) h w = bit-field-print (level n) n num ts (types-print n ts h w)
types-print n (pointer t ts) h w =
    let p = pointer_parts false t ts h in
    let q = both (without_long_double t) (without_long_double ts) w in
    pointer-print (level n) n t ts (rw (one_more n) (types-print (suc n) t p.2 q.0)) (types-print n ts p.3 q.1)

pub type-print : (t : Types) → is_type t ≡ true → without_long_double t ≡ true → print Top (trees t) ≡ encode zero t
unfolding is_type
type-print t h w = types-print zero t (both (is_one t) (defined false t) h).1 w
