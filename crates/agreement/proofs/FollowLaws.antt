-- What may follow a tree in a print.
use Prim.Native.Nat.{ℕ, ◌<◌}
use mathlib.Core.Path.{◌≡◌, refl, ap}
use mathlib.Core.List.{List, [], ◌∷◌, ◌++◌, append_assoc}
use mathlib.Core.Bool.{Bool, true, false, ◌&&◌, not}
use lib.Dec.{eqb}
use borrow.Author.Tests.{ltb-true, not-true}
use Rattle.kinds.specs.Byte.{byte, bytes, among, is_digit, starts_digit}
use Rattle.kinds.specs.Container.{end_byte}
use Rattle.kinds.specs.Parse.{integral}
use Rattle.kinds.specs.Primitive.{codes, code}
use Rattle.kinds.specs.Print.{print_node, print}
use Rattle.kinds.specs.Tree.{Label, Trees, end, node, primitive, bit_field, typed_bit_field, pointer, atomic, array, struct, union, none, inside}
use Rattle.kinds.specs.declared.ContainerKind.{ContainerKind}
use Rattle.kinds.specs.declared.ContainerKind.TheVariants.{Struct, Union}
use Rattle.kinds.specs.declared.NestingLevel.{NestingLevel}
use Rattle.kinds.proofs.TableLaws.{both}
use Rattle.agreement.proofs.ByteLaws.{below, every, passes}
use Rattle.agreement.proofs.FitLaws.{fit_label, fit, fit_parts}

-- The bytes that may follow a tree in a print: those that begin a type, and the closers.
unfoldable pub next_bytes : List ℕ
next_bytes = bytes "csilqCSILQfdDjBv*@#:?b^A[{(]})"

unfoldable pub may_follow : List ℕ → Bool
may_follow [] = true
may_follow (b ∷ r) = among b next_bytes && not (integral b && starts_digit r)

pub next-byte : (test : ℕ → Bool) → every test next_bytes ≡ true → (b : ℕ) (r : List ℕ) → may_follow (b ∷ r) ≡ true → test b ≡ true
unfolding may_follow
next-byte test e b r h = passes test next_bytes e b (both (among b next_bytes) (not (integral b && starts_digit r)) h).0

pub no_digit : (r : List ℕ) → may_follow r ≡ true → starts_digit r ≡ false
unfolding starts_digit next_bytes every is_digit
no_digit [] h = refl
no_digit (b ∷ r) h = not-true (is_digit b) (next-byte (λ x. not (is_digit x)) refl b r h)

-- A bitfield's type and size begin here.
unfoldable pub starts_typed : List ℕ → Bool
starts_typed [] = false
starts_typed (b ∷ r) = integral b && starts_digit r

pub no-typed : (r : List ℕ) → may_follow r ≡ true → starts_typed r ≡ false
unfolding starts_typed may_follow
no-typed [] h = refl
no-typed (b ∷ r) h = not-true (integral b && starts_digit r) (both (among b next_bytes) (not (integral b && starts_digit r)) h).1

unfoldable pub starts_quote : List ℕ → Bool
starts_quote [] = false
starts_quote (b ∷ r) = eqb b (byte "\"")

pub no-quote : (r : List ℕ) → may_follow r ≡ true → starts_quote r ≡ false
unfolding starts_quote next_bytes every
no-quote [] h = refl
no-quote (b ∷ r) h = not-true (eqb b (byte "\"")) (next-byte (λ x. not (eqb x (byte "\""))) refl b r h)

pub closer-follows : (k : ContainerKind) (r : List ℕ) → may_follow (end_byte k ∷ r) ≡ true
unfolding may_follow next_bytes among integral
closer-follows Struct r = refl
closer-follows Union r = refl

pub bracket-follows : (r : List ℕ) → may_follow (byte "]" ∷ r) ≡ true
unfolding may_follow next_bytes among integral
bracket-follows r = refl

-- A primitive's code may follow where what comes after it may.
code-follows : (r : List ℕ) → starts_digit r ≡ false → (p : ℕ) → p < 24 → may_follow (code p ++ r) ≡ true
unfolding may_follow next_bytes among integral code codes
code-follows r h p = below (λ q. may_follow (code q ++ r) ≡ true) 24
    ((((((((((((((((((((((((tt, n), n), n), n), n), n), n), n), n), n), refl), refl), refl), refl), refl), refl), n), refl), refl), refl), refl), refl), refl), refl) p
  where
    n : not (starts_digit r) ≡ true
    n = ap not h

node-follows : (l : Label) (v : NestingLevel) (c r : List ℕ) → fit_label l ≡ true → may_follow r ≡ true → may_follow (print_node l v c ++ r) ≡ true
unfolding may_follow next_bytes among integral print_node fit_label
node-follows (primitive p) v c r g h = code-follows r (no_digit r h) p (ltb-true p 24 g)
node-follows (bit_field n) v c r g h = refl
node-follows (typed_bit_field o n) v c r g h = refl
node-follows pointer v c r g h = refl
node-follows atomic v c r g h = refl
node-follows (array n) v c r g h = refl
node-follows (struct s) v c r g h = refl
node-follows (union s) v c r g h = refl
node-follows none v c r g h = h

pub trees-follow : (v : NestingLevel) (ts : Trees) (r : List ℕ) → fit ts ≡ true → may_follow r ≡ true → may_follow (print v ts ++ r) ≡ true
unfolding print
trees-follow v end r g h = h
trees-follow v (node l cs ts) r g h = rw append_assoc (node-follows l v (print (inside l v) cs) (print v ts ++ r) (fit_parts l cs ts g).0 (trees-follow v ts r (fit_parts l cs ts g).3 h))
