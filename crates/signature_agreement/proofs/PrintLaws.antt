-- A print that does not end in a digit, `^` or `A` is read as its tree's shown part where a digit follows it.
use Prim.Native.Nat.{ℕ, zero, suc, ◌+◌, ◌*◌, ◌/◌, ◌%◌, ◌≤◌}
use mathlib.Core.Path.{◌≡◌, refl, sym, ap, ◌∙◌}
use mathlib.Core.List.{List, [], ◌∷◌, ◌++◌, append-nil, append_assoc}
use mathlib.Core.Bool.{Bool, true, false, ◌&&◌, ◌||◌, not, cond, false≢true, true≢false}
use native.Mathlib.Omega.{arith}
use lib.Dec.{eqb, ltb}
use lib.ListN.{length}
use borrow.Author.Tests.{ltb-true}
use Rattle.kinds.specs.Byte.{byte, bytes, among, is_digit, starts_digit}
use Rattle.kinds.specs.Container.{end_byte}
use Rattle.kinds.specs.Level.{shows_fields}
use Rattle.kinds.specs.Parse.{encoding, parse_inner, held, begin, start, in_singles, in_others, singles, others}
use Rattle.kinds.specs.Print.{digits, decimal, print_node, print}
use Rattle.kinds.specs.Sound.{valid_count}
use Rattle.kinds.specs.Tree.{Label, Trees, end, node, primitive, bit_field, typed_bit_field, pointer, atomic, array, struct, union, none, inside, shows, keep, shown, is_end, is_one}
use Rattle.kinds.specs.declared.ContainerKind.{ContainerKind}
use Rattle.kinds.specs.declared.ContainerKind.TheVariants.{Struct, Union}
use Rattle.kinds.specs.declared.NestingLevel.{NestingLevel}
use Rattle.kinds.specs.declared.NestingLevel.TheVariants.{Within}
use Rattle.kinds.proofs.TableLaws.{both}
use Rattle.agreement.specs.Sound.{closes, unknown_next, without_none, after_children, clear_node, clear}
use Rattle.agreement.proofs.ByteLaws.{apart}
use Rattle.agreement.proofs.DigitLaws.{digit-byte, decimal-start}
use Rattle.agreement.proofs.FitLaws.{fit_label, fit, fit_parts}
use Rattle.agreement.proofs.FollowLaws.{starts_quote}
use Rattle.agreement.proofs.RoundTrip.{ClearTree, clear-parts, code-length, is_end-end, read_back, read-primitive, tree-read-array, tree-read-container}
use Rattle.signature_agreement.specs.Tiling.{all_digits}
use Rattle.signature_agreement.specs.Written.{not_empty, ends_open}

-- ---- Clear trees: of what follows them only the first byte counts.

abbrev Alike : List ℕ → List ℕ → Type 0
Alike [] [] = Unit {0}
Alike [] (c ∷ s) = ⊥
Alike (b ∷ r) [] = ⊥
Alike (b ∷ r) (c ∷ s) = b ≡ c

alike-append : (p r s : List ℕ) → Alike r s → Alike (p ++ r) (p ++ s)
alike-append [] r s h = h
alike-append (b ∷ p) r s h = refl

unknown-alike : (r s : List ℕ) → Alike r s → unknown_next r ≡ unknown_next s
unfolding unknown_next
unknown-alike [] [] h = refl
unknown-alike [] (c ∷ s) h = absurd h
unknown-alike (b ∷ r) [] h = absurd h
unknown-alike (b ∷ r) (c ∷ s) h = rw h

closes-alike : (r s : List ℕ) → Alike r s → closes r ≡ closes s
unfolding closes
closes-alike [] [] h = refl
closes-alike [] (c ∷ s) h = absurd h
closes-alike (b ∷ r) [] h = absurd h
closes-alike (b ∷ r) (c ∷ s) h = rw h

node_alike : (l : Label) (cs : Trees) (r s : List ℕ) → Alike r s → clear_node l cs r ≡ clear_node l cs s
unfolding clear_node
node_alike (primitive p) cs r s h = rw (unknown-alike r s h)
node_alike (bit_field n) cs r s h = refl
node_alike (typed_bit_field o n) cs r s h = refl
node_alike pointer cs r s h = refl
node_alike atomic cs r s h = refl
node_alike (array n) cs r s h = refl
node_alike (struct m) cs r s h = refl
node_alike (union m) cs r s h = refl
node_alike none cs r s h = closes-alike r s h

after-alike : (l : Label) (r s : List ℕ) → Alike r s → Alike (after_children l r) (after_children l s)
unfolding after_children
after-alike (primitive p) r s h = h
after-alike (bit_field n) r s h = h
after-alike (typed_bit_field o n) r s h = alike-append (decimal n) r s h
after-alike pointer r s h = h
after-alike atomic r s h = h
after-alike (array n) r s h = refl
after-alike (struct m) r s h = refl
after-alike (union m) r s h = refl
after-alike none r s h = h

clear-alike : (v : NestingLevel) (ts : Trees) (r s : List ℕ) → Alike r s → clear v ts r ≡ clear v ts s
unfolding clear
clear-alike v end r s h = refl
clear-alike v (node l cs ts) r s h =
    let a = alike-append (print v ts) r s h in
    rw (
      node_alike l cs (print v ts ++ r) (print v ts ++ s) a,
      clear-alike (inside l v) cs (after_children l (print v ts ++ r)) (after_children l (print v ts ++ s)) (after-alike l (print v ts ++ r) (print v ts ++ s) a),
      clear-alike v ts r s h,
    )

-- ---- How a text ends.

all-digits-open : (b : ℕ) (s : List ℕ) → all_digits (b ∷ s) ≡ true → ends_open (b ∷ s) ≡ true
unfolding all_digits ends_open
all-digits-open b [] h = rw (both (is_digit b) true h).0
all-digits-open b (c ∷ s) h = all-digits-open c s (both (is_digit b) (all_digits (c ∷ s)) h).1

digits-all : (f n : ℕ) (acc : List ℕ) → all_digits acc ≡ true → all_digits (digits f n acc) ≡ true
unfolding digits all_digits
digits-all zero n acc h = h
digits-all (suc f) n acc h = go (ltb n 10) refl (digits-all f (n / 10) ((byte "0" + n % 10) ∷ acc))
  where
    go : (t : Bool) → ltb n 10 ≡ t → (all_digits ((byte "0" + n % 10) ∷ acc) ≡ true → all_digits (digits f (n / 10) ((byte "0" + n % 10) ∷ acc)) ≡ true) → all_digits (digits (suc f) n acc) ≡ true
    go true e ih = rw (e, digits) (rw (digit-byte n (ltb-true n 10 e)) h)
    go false e ih = rw (e, digits) (ih (rw (digit-byte (n % 10) (omega arith)) h))

pub decimal-digits : (n : ℕ) → all_digits (decimal n) ≡ true
unfolding decimal all_digits
decimal-digits n = digits-all (suc n) n [] refl

-- A text that ends as its last part does.
open-append : (p s : List ℕ) (b : ℕ) → ends_open (p ++ (b ∷ s)) ≡ ends_open (b ∷ s)
unfolding ends_open
open-append [] s b = refl
open-append (x ∷ []) s b = refl
open-append (x ∷ y ∷ p) s b = open-append (y ∷ p) s b

decimal-open : (p : List ℕ) (n : ℕ) → ends_open (p ++ decimal n) ≡ true
unfolding starts_digit
decimal-open p n = go (decimal n) (decimal-digits n) (rw append-nil at (decimal-start n []))
  where
    go : (d : List ℕ) → all_digits d ≡ true → starts_digit d ≡ true → ends_open (p ++ d) ≡ true
    go [] a s = absurd (false≢true s)
    go (b ∷ d) a s = open-append p d b ∙ all-digits-open b d a

-- What a pointer or an atomic prints: the text of what it holds, which is there.
after_open : (b : ℕ) (c : List ℕ) → among b (bytes "^A") ≡ true → ends_open (b ∷ c) ≡ false → (not_empty c ≡ true) × (ends_open c ≡ false)
unfolding ends_open not_empty
after_open b [] a h = absurd (go (is_digit b) h)
  where
    go : (t : Bool) → (t || among b (bytes "^A")) ≡ false → ⊥
    go true k = true≢false k
    go false k = true≢false (sym a ∙ k)
after_open b (x ∷ c) a h = (refl, h)

-- ---- A digit is neither `?` nor a quote.

digit-plain : (r : List ℕ) → starts_digit r ≡ true → (unknown_next r ≡ false) × (starts_quote r ≡ false)
unfolding starts_digit unknown_next starts_quote is_digit
digit-plain [] h = absurd (false≢true h)
digit-plain (b ∷ r) h = (apart is_digit b (byte "?") h refl, apart is_digit b (byte "\"") h refl)

-- ---- One tree.

abbrev pub PieceRead : Label → Trees → Type 0
PieceRead l cs = (v : NestingLevel) (r : List ℕ) (f : ℕ) → starts_digit r ≡ true → fit_label l ≡ true → valid_count l cs ≡ true → fit cs ≡ true → ClearTree l v cs []
    → not_empty (print_node l v (print (inside l v) cs)) ≡ true → ends_open (print_node l v (print (inside l v) cs)) ≡ false
    → 2 * length (print_node l v (print (inside l v) cs) ++ r) ≤ f → parse_inner f (print_node l v (print (inside l v) cs) ++ r) ≡ encoding l (keep (shows l v) (shown (inside l v) cs)) r

abbrev FirstPiece : Trees → Type 0
FirstPiece end = Unit {0}
FirstPiece (node l cs ts) = PieceRead l cs

piece-primitive : (p : ℕ) (cs : Trees) → PieceRead (primitive p) cs
unfolding fit_label valid_count print_node shown keep
piece-primitive p cs v r zero d a b g c k o n = absurd (omega (arith, code-length r p (ltb-true p 24 a)))
piece-primitive p cs v r (suc f) d a b g c k o n = rw (is_end-end cs b) (read-primitive f r (digit-plain r d).1 p (ltb-true p 24 a) (rw (digit-plain r d).0 (go (eqb p 19))))
  where
    go : (t : Bool) → not (t && false) ≡ true
    go true = refl
    go false = refl

-- What a pointer or an atomic holds.
held-piece : (l : Label) (cs : Trees) → FirstPiece cs → is_one cs ≡ true → (v : NestingLevel) (r : List ℕ) (f : ℕ) → starts_digit r ≡ true → fit cs ≡ true → clear v cs [] ≡ true
    → not_empty (print v cs) ≡ true → ends_open (print v cs) ≡ false → 2 * length (print v cs ++ r) ≤ f → held l (print v cs ++ r) (parse_inner f (print v cs ++ r)) ≡ encoding l (shown v cs) r
unfolding is_one is_end print shown held
held-piece l end first one v r f d g c k o n = absurd (false≢true one)
held-piece l (node m ds (node x ys zs)) first one v r f d g c k o n = absurd (false≢true one)
held-piece l (node m ds end) first one v r f d g c k o n =
    let g' = fit_parts m ds end g in
    rw (append-nil (print_node m v (print (inside m v) ds)), first v r f d g'.0 g'.1 g'.2 (clear-parts v m ds end [] c).0 (rw append-nil at k) (rw append-nil at o) (rw append-nil at n))

container-clear : (k : ContainerKind) (v : NestingLevel) (cs : Trees) (r : List ℕ) → cond (shows_fields v) (without_none cs && clear Within cs (end_byte k ∷ [])) true ≡ true
    → cond (shows_fields v) (without_none cs && clear Within cs (end_byte k ∷ r)) true ≡ true
container-clear k v cs r h = rw (clear-alike Within cs (end_byte k ∷ r) (end_byte k ∷ []) refl) h

piece-read : (l : Label) (cs : Trees) → FirstPiece cs → PieceRead l cs
unfolding print_node keep fit_label valid_count clear_node after_children not_empty parse_inner begin start in_singles in_others singles others among
piece-read (primitive p) cs first v r f d a b g c k o n = piece-primitive p cs v r f d a b g c k o n
piece-read (bit_field m) cs first v r f d a b g c k o n = absurd (true≢false (sym (decimal-open (bytes "b") m) ∙ o))
piece-read (typed_bit_field i m) cs first v r f d a b g c k o n =
    absurd (true≢false (sym (decimal-open (byte "b" ∷ (decimal i ++ print v cs)) m) ∙ ap (λ x. ends_open (byte "b" ∷ x)) (append_assoc (decimal i) (print v cs) (decimal m)) ∙ o))
piece-read pointer cs first v r zero d a b g c k o n = absurd (omega arith)
piece-read pointer cs first v r (suc f) d a b g c k o n =
    let w = inside pointer v in
    let e = after_open (byte "^") (print w cs) refl o in
    held-piece pointer cs first b w r f d g c e.0 e.1 (omega arith)
piece-read atomic cs first v r zero d a b g c k o n = absurd (omega arith)
piece-read atomic cs first v r (suc f) d a b g c k o n =
    let w = inside atomic v in
    let e = after_open (byte "A") (print w cs) refl o in
    held-piece atomic cs first b w r f d g c e.0 e.1 (omega arith)
piece-read (array m) cs first v r f d a b g c k o n = tree-read-array m cs (read_back cs).0 v r f a b g (rw (clear-alike v cs (byte "]" ∷ r) (byte "]" ∷ []) refl) c) n
piece-read (struct s) cs first v r f d a b g c k o n = tree-read-container Struct s cs (read_back cs).1 v r f a g (container-clear Struct v cs r c) n
piece-read (union s) cs first v r f d a b g c k o n = tree-read-container Union s cs (read_back cs).1 v r f a g (container-clear Union v cs r c) n
piece-read none cs first v r f d a b g c k o n = absurd (false≢true k)

pub first_piece : (ts : Trees) → FirstPiece ts
first_piece end = tt
first_piece (node l cs ts) = piece-read l cs (first_piece cs)
