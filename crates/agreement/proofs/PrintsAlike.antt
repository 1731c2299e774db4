-- The print of a sound tree is read, from the whole text, as its shown part; so prints are equal exactly when shown parts are.
use Prim.Native.Nat.{ℕ, ◌+◌}
use mathlib.Core.Path.{◌≡◌, refl, sym, ap, subst, ◌∙◌}
use mathlib.Core.List.{List, [], ◌∷◌, append-nil}
use mathlib.Core.Bool.{Bool, true, false, not, false≢true}
use mathlib.Core.Logic.{◌↔◌}
use native.Mathlib.Omega.{arith}
use lib.ListN.{length}
use borrow.Author.Tests.{not-true}
use Rattle.kinds.specs.Byte.{among}
use Rattle.kinds.specs.Parse.{encoded, encoding_or_none, parse_encoding_or_none, parse_inner, parse, qualifiers, is_qualifier, strip_leading_qualifiers, from_str, whole}
use Rattle.kinds.specs.Print.{print_node, print}
use Rattle.agreement.specs.Sound.{is_none, clear, sound}
use Rattle.kinds.specs.Tree.{Label, Trees, end, node, none, inside, shows, keep, shown, is_end, is_one}
use Rattle.kinds.specs.declared.NestingLevel.TheVariants.{Top}
use Rattle.agreement.specs.ReadTree.{trees, read_tree}
use Rattle.agreement.proofs.ByteLaws.{every}
use Rattle.agreement.proofs.FitLaws.{fit, fit_parts, sound-parts}
use Rattle.agreement.proofs.ShownLaws.{print-shown}
use Rattle.agreement.proofs.FollowLaws.{next_bytes, may_follow, next-byte, trees-follow}
use Rattle.agreement.proofs.RoundTrip.{is_none-none, clear-parts, none-parts, read_back}

-- No print begins with a qualifier.
not-qualified : (s : List ℕ) → may_follow s ≡ true → strip_leading_qualifiers s ≡ s
unfolding strip_leading_qualifiers is_qualifier qualifiers next_bytes every among
not-qualified [] h = refl
not-qualified (b ∷ s) h = rw (not-true (is_qualifier b) (next-byte (λ x. not (is_qualifier x)) refl b s h), strip_leading_qualifiers)

pub unqualified : (t : Trees) → fit t ≡ true → strip_leading_qualifiers (print Top t) ≡ print Top t
unfolding may_follow
unqualified t g = not-qualified (print Top t) (rw append-nil at (trees-follow Top t [] g refl))

-- What the print of a tree is read as.
encoded-tree : (l : Label) (cs : Trees) → is_none l ≡ false → fit (node l cs end) ≡ true → clear Top (node l cs end) [] ≡ true
    → encoding_or_none (parse (print Top (node l cs end))) ≡ encoded l (keep (shows l Top) (shown (inside l Top) cs)) []
unfolding encoding_or_none parse print may_follow
encoded-tree l cs o g c =
    let t = print Top (node l cs end) in
    let g' = fit_parts l cs end g in
    rw ((read_back (node l cs end)).0 Top [] (length t + length t) g'.0 g'.1 g'.2 (clear-parts Top l cs end [] c).0 o refl (omega arith))

encoded-none : (cs : Trees) → fit (node none cs end) ≡ true → clear Top (node none cs end) [] ≡ true → encoding_or_none (parse (print Top (node none cs end)))
    ≡ encoded none (keep (shows none Top) (shown (inside none Top) cs)) []
unfolding encoding_or_none parse parse_inner print print_node shown keep
encoded-none cs g c = rw (none-parts Top cs [] g c).0

encoded-one : (l : Label) (cs : Trees) → fit (node l cs end) ≡ true → clear Top (node l cs end) [] ≡ true → encoding_or_none (parse (print Top (node l cs end)))
    ≡ encoded l (keep (shows l Top) (shown (inside l Top) cs)) []
encoded-one l cs g c = go (is_none l) refl
  where
    Read : Label → Type 0
    Read x = fit (node x cs end) ≡ true → clear Top (node x cs end) [] ≡ true → encoding_or_none (parse (print Top (node x cs end))) ≡ encoded x (keep (shows x Top) (shown (inside x Top) cs)) []

    go : (t : Bool) → is_none l ≡ t → encoding_or_none (parse (print Top (node l cs end))) ≡ encoded l (keep (shows l Top) (shown (inside l Top) cs)) []
    go true e = subst Read (sym (is_none-none l e)) (encoded-none cs) g c
    go false e = encoded-tree l cs e g c

-- A sound tree's print is read as its shown part.
pub print-read : (t : Trees) → sound t ≡ true → read_tree (print Top t) ≡ shown Top t
unfolding is_one is_end read_tree trees from_str parse_encoding_or_none whole shown
print-read end h = absurd (false≢true (sound-parts end h).0)
print-read (node l cs (node m ds us)) h = absurd (false≢true (sound-parts (node l cs (node m ds us)) h).0)
print-read (node l cs end) h =
    let p = sound-parts (node l cs end) h in
    rw (unqualified (node l cs end) p.1, encoded-one l cs p.1 p.2)

pub print-agrees : (A B : Trees) → sound A ≡ true → sound B ≡ true → (print Top A ≡ print Top B) ↔ (shown Top A ≡ shown Top B)
print-agrees A B a b = (λ e. sym (print-read A a) ∙ ap read_tree e ∙ print-read B b, λ e. sym (print-shown Top A) ∙ ap (print Top) e ∙ print-shown Top B)
