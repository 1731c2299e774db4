-- A sound tree against the print of a sound tree is tree against tree.
use Prim.Native.Nat.{ℕ}
use mathlib.Core.Path.{◌≡◌, refl, sym, subst}
use mathlib.Core.List.{List, [], ◌∷◌, ◌++◌, append_assoc, append-nil}
use mathlib.Core.Bool.{Bool, true, false, ◌&&◌, ◌||◌, not, false≢true, true≢false, and_assoc}
use native.Mathlib.Omega.{arith}
use borrow.Author.Tests.{not-true}
use Rattle.kinds.specs.Byte.{among}
use Rattle.kinds.specs.Compare.{length_or_offset, bits, compare_labels, compare_children, compare_encodings, equivalent_to}
use Rattle.kinds.specs.Expect.{Expected, remaining, mismatch, ◌then◌, expect_encoding, is_empty, equivalent_to_str}
use Rattle.kinds.specs.Primitive.{is_object}
use Rattle.kinds.specs.Print.{fields, print_node, print}
use Rattle.agreement.specs.Sound.{is_none, without_none, sound}
use Rattle.kinds.specs.Tree.{Label, Trees, end, node, primitive, bit_field, typed_bit_field, pointer, atomic, array, struct, union, none, inside, shows, kind, name, is_container, is_end}
use Rattle.kinds.specs.declared.ContainerKind.TheVariants.{Struct, Union}
use Rattle.kinds.specs.declared.NestingLevel.{NestingLevel}
use Rattle.kinds.specs.declared.NestingLevel.TheVariants.{Top}
use Rattle.kinds.proofs.TableLaws.{both}
use Rattle.agreement.proofs.FitLaws.{fit, fit_parts, sound-parts}
use Rattle.agreement.proofs.FollowLaws.{may_follow, trees-follow}
use Rattle.agreement.proofs.RoundTrip.{is_none-none, clear-parts}
use Rattle.agreement.proofs.PrintsAlike.{unqualified}
use Rattle.agreement.proofs.OpeningLaws.{tried, same_opening, node-mismatch-closes}
use Rattle.agreement.proofs.AgreeLaws.{stuck, Agrees, missed, stuck-on, compare_tree, expect_tree, print_tree, MatchOne, MatchFirst, MatchFields, stuck-open, label_of, Alike}
use Rattle.agreement.proofs.AgreeLaws.{match-alike, alike_from, match_none, node_ok, match-child}
use Rattle.agreement.proofs.LeafLaws.{bits-bits, bits-typed, typed-bits, typed-typed, match-primitive}
use Rattle.agreement.proofs.HolderLaws.{pointer-pair, atomic-pair, array-pair, trees-open, container-pair}

alike-one : (l : Label) (cs : Trees) → MatchFirst cs → MatchFields cs → is_none l ≡ false → Alike l cs
unfolding is_none same_opening tried among is_object kind label_of
alike-one (primitive p) cs first fields o = match-primitive p cs
alike-one (bit_field n) cs first fields o = alike_from (bit_field n) cs ((omega arith, λ m. bits-bits n (bits m) cs), ((omega arith, λ m. bits-typed n (length_or_offset m) (bits m) cs), tt))
alike-one (typed_bit_field x n) cs first fields o = alike_from (typed_bit_field x n) cs
    ((omega arith, λ m. typed-bits x n (bits m) cs), ((omega arith, λ m. typed-typed x n (length_or_offset m) (bits m) cs), tt))
alike-one pointer cs first fields o = alike_from pointer cs ((omega arith, λ m. pointer-pair cs first), tt)
alike-one atomic cs first fields o = alike_from atomic cs ((omega arith, λ m. atomic-pair cs first), tt)
alike-one (array n) cs first fields o = alike_from (array n) cs ((omega arith, λ m. array-pair n (length_or_offset m) cs first), tt)
alike-one (struct s) cs first fields o = alike_from (struct s) cs ((omega arith, λ m. container-pair Struct s cs fields (name m)), tt)
alike-one (union s) cs first fields o = alike_from (union s) cs ((omega arith, λ m. container-pair Union s cs fields (name m)), tt)
alike-one none cs first fields o = absurd (true≢false o)

match-one : (l : Label) (cs : Trees) → MatchFirst cs → MatchFields cs → MatchOne l cs
match-one l cs first fields = go (is_none l) refl
  where
    go : (y : Bool) → is_none l ≡ y → MatchOne l cs
    go true e = subst (λ x. MatchOne x cs) (sym (is_none-none l e)) (match_none cs)
    go false e = match-alike l cs e (alike-one l cs first fields e)

-- The trees after the first.
onward : (v : NestingLevel) (ts : Trees) (ra rb rest : List ℕ) (t : Bool) (w : Expected) (t' : Bool) → fit ts ≡ true → without_none ts ≡ true → Agrees (print v ts ++ ra) rest t w
    → Agrees ra rb t' (expect_encoding v ts rest) → Agrees ra rb (t && t') (w then (λ x. expect_encoding v ts x))
unfolding ◌then◌
onward v ts ra rb rest true (remaining s) t' g n a b = rw a b
onward v ts ra rb rest true mismatch t' g n a b = absurd a
onward v ts ra rb rest false (remaining s) t' g n a b = stuck-on v ts ra rb s g n a
onward v ts ra rb rest false mismatch t' g n a b = tt

fields-end : MatchFields end
unfolding compare_encodings expect_encoding print
fields-end end v ra rb a c n q b d m p h = refl
fields-end (node l cs ts) v ra rb a c n q b d m p h = stuck-open ra (print v (node l cs ts) ++ rb) q (trees-open v l cs ts rb b m)

fields-node : (l : Label) (cs ts : Trees) → MatchOne l cs → MatchFields ts → MatchFields (node l cs ts)
unfolding compare_encodings expect_encoding print without_none ◌then◌ expect_tree print_tree compare_tree
fields-node l cs ts one fields end v ra rb a c n q b d m p h = missed ra rb (expect_tree v l cs rb then (λ x. expect_encoding v ts x))
    (rw (node-mismatch-closes l v (is_end cs) (λ t. expect_encoding (inside l v) cs t) rb (fit_parts l cs ts a).0 (not-true (is_none l) (both (not (is_none l)) (without_none ts) n).0) p))
fields-node l cs ts one fields (node k ds us) v ra rb a c n q b d m p h =
    let t = print v us ++ rb in
    let n' = (both (not (is_none l)) (without_none ts) n).1 in
    let m' = (both (not (is_none k)) (without_none us) m).1 in
    let a' = (fit_parts l cs ts a).3 in
    let b' = (fit_parts k ds us b).3 in
    rw (
      append_assoc (print_node k v (print (inside k v) ds)) (print v us) rb,
      sym (and_assoc (compare_labels l k) (compare_children (is_container l) (shows l v) (is_end cs || is_end ds) (compare_encodings false (inside l v) cs ds)) (compare_encodings false v ts us)),
    )
    (onward v ts ra rb t (compare_tree v l cs k ds) (expect_tree v l cs (print_tree v k ds ++ t)) (compare_encodings false v ts us) a' n'
    (one k ds v (print v ts ++ ra) t (node_ok v l cs ts ra a c) (node_ok v k ds us rb b d) (trees-follow v us rb b' h))
    (fields us v ra rb a' (clear-parts v l cs ts ra c).1 n' q b' (clear-parts v k ds us rb d).1 m' p h))

matches : (ts : Trees) → MatchFirst ts × MatchFields ts
matches end = (tt, fields-end)
matches (node l cs ts) = go (matches cs) (matches ts)
  where
    go : MatchFirst cs × MatchFields cs → MatchFirst ts × MatchFields ts → MatchOne l cs × MatchFields (node l cs ts)
    go i j = (match-one l cs i.0 i.1, fields-node l cs ts (match-one l cs i.0 i.1) j.1)

empty-agrees : (t : Bool) (w : Expected) → Agrees [] [] t w → t ≡ is_empty w
unfolding is_empty stuck
empty-agrees true (remaining s) a = rw a
empty-agrees true mismatch a = absurd a
empty-agrees false (remaining []) a = absurd (false≢true a)
empty-agrees false (remaining (b ∷ s)) a = refl
empty-agrees false mismatch a = refl

pub compare-agrees : (A B : Trees) → sound A ≡ true → sound B ≡ true → equivalent_to A B ≡ equivalent_to_str A (print Top B)
unfolding equivalent_to equivalent_to_str may_follow
compare-agrees A B a b =
    let a' = sound-parts A a in
    let b' = sound-parts B b in
    let r : Agrees [] [] (compare_encodings false Top A B) (expect_encoding Top A (print Top B)) = rw append-nil
    at (match-child A (matches A).0 B Top [] [] a'.0 b'.0 a'.1 b'.1 a'.2 b'.2 refl) in
    rw (unqualified B b'.1) (empty-agrees (compare_encodings false Top A B) (expect_encoding Top A (print Top B)) r)
