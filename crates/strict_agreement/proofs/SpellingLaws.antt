-- The short spelling of what strict reading takes at once: bytes, numbers and names; and which byte begins what.
use Prim.Native.Nat.{ℕ, suc, ◌+◌, ◌*◌, ◌-◌, ◌/◌, ◌%◌, ◌<◌}
use native.Mathlib.Omega.{arith}
use mathlib.Core.Path.{◌≡◌, refl, sym, ap, subst, ◌∙◌}
use mathlib.Core.List.{List, [], ◌∷◌, ◌++◌, append_assoc, append-nil}
use mathlib.Core.Bool.{Bool, true, false, not, ◌||◌, false≢true}
use lib.Dec.{leb, eqb}
use borrow.Author.Tests.{eqb-true, eqb-false, leb-true, not-true, lt-ltb}
use Rattle.kinds.specs.Byte.{byte, bytes, among, is_digit, starts_digit}
use Rattle.kinds.specs.Container.{start_byte, end_byte}
use Rattle.kinds.specs.Name.{verify_name}
use Rattle.kinds.specs.Parse.{Number, value, no_number, more_digits, bounded, parse_number}
use Rattle.kinds.specs.Parse.{Start, single, complex, object, bits, indirection, open_array, close_array, open_container, close_container, nothing}
use Rattle.kinds.specs.Parse.{singles, others, in_singles, in_others, start, integral, single_kind}
use Rattle.kinds.specs.Parse.{Named, named, unnamed, check_name, parse_name}
use Rattle.kinds.specs.Primitive.{codes, code}
use Rattle.kinds.specs.Print.{decimal, print_node}
use Rattle.kinds.specs.Strict.{digit_count, surplus_zero}
use Rattle.kinds.specs.Tree.{Trees}
use Rattle.kinds.specs.declared.ContainerKind.{ContainerKind}
use Rattle.kinds.proofs.DecimalLaws.{decimal-low, decimal-high}
use Rattle.kinds.proofs.TableLaws.{both, each}
use Rattle.agreement.proofs.ByteLaws.{apart, lacks, ◌also◌}
use Rattle.agreement.proofs.DigitLaws.{digits-stop}
use Rattle.agreement.proofs.ReadLaws.{digit-read}
use Rattle.strict_agreement.specs.Spelling.{short, level_by, spelled, unquoted}

-- ---- Text and its short spelling.

infixr 20 ◌then◌
-- The text `s` is in short `x` before `t`, and holds the quotes of `t`.
pub record Written (s x t : List ℕ) : Type 0 where
  pub text : short s ≡ x ++ short t
  pub clean : unquoted s ≡ true → unquoted t ≡ true

at_once : (s : List ℕ) → Written s [] s
at_once s = record { text = refl; clean = λ h. h }

pub ◌then◌ : {s x t y u : List ℕ} → Written s x t → Written t y u → Written s (x ++ y) u
◌then◌ {s} {x} {t} {y} {u} a b = record { text = a.text ∙ ap (λ z. x ++ z) b.text ∙ sym (append_assoc x y (short u)); clean = λ h. b.clean (a.clean h) }

pub respelled : {s x y t : List ℕ} → x ≡ y → Written s x t → Written s y t
respelled {s} {x} {y} {t} e w = subst (λ z. Written s z t) e w

neither : (a b : Bool) → not (a || b) ≡ true → not b ≡ true
neither true b h = absurd (false≢true h)
neither false b h = h

pub unquoted-later : (b : ℕ) (s : List ℕ) → unquoted (b ∷ s) ≡ true → unquoted s ≡ true
unfolding unquoted among
unquoted-later b s h = neither (eqb (byte "\"") b) (among (byte "\"") s) h

short-later : (b : ℕ) (s : List ℕ) → eqb b (byte "=") ≡ false → short (b ∷ s) ≡ b ∷ short s
unfolding short
short-later b s e = rw (e, short)

pub one_byte : (b : ℕ) (s : List ℕ) → eqb b (byte "=") ≡ false → Written (b ∷ s) (b ∷ []) s
one_byte b s e = record { text = short-later b s e; clean = unquoted-later b s }

-- Bytes of which none is `=`.
pub all-bytes : (x t : List ℕ) → lacks (byte "=") x ≡ true → Written (x ++ t) x t
unfolding lacks
all-bytes [] t h = at_once t
all-bytes (b ∷ x) t h =
    let i = both (not (eqb b (byte "="))) (lacks (byte "=") x) h in
    one_byte b (x ++ t) (not-true (eqb b (byte "=")) i.0) then all-bytes x t i.1

-- ---- Numbers.

one-digit-byte : (b : ℕ) (s : List ℕ) → is_digit b ≡ true → Written (b ∷ s) (b ∷ []) s
unfolding is_digit
one-digit-byte b s h = one_byte b s (apart is_digit b (byte "=") h refl)

digit_value : (b : ℕ) → is_digit b ≡ true → (byte "0" + (b - byte "0") ≡ b) × (b - byte "0" < 10)
unfolding is_digit
digit_value b h =
    let i = both (leb (byte "0") b) (leb b (byte "9")) h in
    (omega (arith, leb-true (byte "0") b i.0), omega (arith, leb-true b (byte "9") i.1))

-- A digit more.
decimal-grown : (n d : ℕ) → 0 < n → d < 10 → decimal (n * 10 + d) ≡ decimal n ++ ((byte "0" + d) ∷ [])
decimal-grown n d h l =
    let tenth : (n * 10 + d) / 10 ≡ n = omega arith in
    let last : (n * 10 + d) % 10 ≡ d = omega arith in
    decimal-high (n * 10 + d) (omega arith) ∙ rw (tenth, last)

decimal_digit : (b : ℕ) → is_digit b ≡ true → decimal (b - byte "0") ≡ b ∷ []
decimal_digit b h = let i = digit_value b h in decimal-low (b - byte "0") i.1 ∙ ap (λ x. x ∷ []) i.0

-- The digits `x` that follow those of `n`.
abbrev MoreSay : ℕ → List ℕ → Number → Type 0
MoreSay n s (value m t) = (x : List ℕ) × (decimal m ≡ decimal n ++ x) × Written s x t
MoreSay n s (no_number e t) = Unit {0}

digit-more : (n b : ℕ) (s : List ℕ) (q : Number) → 0 < n → is_digit b ≡ true → MoreSay (n * 10 + (b - byte "0")) s q → MoreSay n (b ∷ s) q
digit-more n b s (value m t) h d (x, e, w) =
    let i = digit_value b d in
    let g : decimal (n * 10 + (b - byte "0")) ≡ decimal n ++ (b ∷ []) = decimal-grown n (b - byte "0") h i.1 ∙ ap (λ z. decimal n ++ (z ∷ [])) i.0 in
    (b ∷ x, e ∙ ap (λ z. z ++ x) g ∙ append_assoc (decimal n) (b ∷ []) x, one-digit-byte b s d then w)
digit-more n b s (no_number e t) h d r = tt

more-say : (s : List ℕ) (n : ℕ) → 0 < n → MoreSay n s (more_digits n s)
unfolding more_digits
more-say [] n h = ([], sym (append-nil (decimal n)), at_once [])
more-say (b ∷ s) n h = go (is_digit b) refl (λ m i. more-say s m i)
  where
    go : (t : Bool) → is_digit b ≡ t → ((m : ℕ) → 0 < m → MoreSay m s (more_digits m s)) → MoreSay n (b ∷ s) (more_digits n (b ∷ s))
    go true e rec = rw (digit-read n b e s) (digit-more n b s (more_digits (n * 10 + (b - byte "0")) s) h e (rec (n * 10 + (b - byte "0")) (omega arith)))
    go false e rec = rw (e, more_digits) ([], sym (append-nil (decimal n)), at_once (b ∷ s))

abbrev pub NumberSays : List ℕ → Number → Type 0
NumberSays s (value n t) = Written s (decimal n) t
NumberSays s (no_number e t) = Unit {0}

bounded-says : (limit : ℕ) (s : List ℕ) (q : Number) → NumberSays s q → NumberSays s (bounded limit q)
unfolding bounded
bounded-says limit s (value n t) w = go (leb n limit) refl
  where
    go : (x : Bool) → leb n limit ≡ x → NumberSays s (bounded limit (value n t))
    go true e = rw (e, bounded) w
    go false e = rw (e, bounded) tt
bounded-says limit s (no_number e t) w = tt

counted-surplus : (b c : ℕ) (s : List ℕ) → is_digit b ≡ true → is_digit c ≡ true → eqb b (byte "0") ≡ true → surplus_zero (b ∷ c ∷ s) ≡ true
unfolding surplus_zero digit_count
counted-surplus b c s d e z = rw (d, e, z, digit_count) (rw (lt-ltb 1 (suc (suc (digit_count s))) (omega arith)))

one-zero : (b : ℕ) (s : List ℕ) → is_digit b ≡ true → eqb b (byte "0") ≡ true → surplus_zero (b ∷ s) ≡ false → starts_digit s ≡ false
unfolding starts_digit
one-zero b [] d z h = refl
one-zero b (c ∷ s) d z h = go (is_digit c) refl
  where
    go : (t : Bool) → is_digit c ≡ t → is_digit c ≡ false
    go true e = absurd (false≢true (sym h ∙ counted-surplus b c s d e z))
    go false e = e

-- The digits from the first on.
first_says : (b : ℕ) (s : List ℕ) (q : Number) → is_digit b ≡ true → MoreSay (b - byte "0") s q → NumberSays (b ∷ s) q
first_says b s (value m t) d (x, e, w) = respelled (sym (e ∙ ap (λ z. z ++ x) (decimal_digit b d))) (one-digit-byte b s d then w)
first_says b s (no_number e t) d r = tt

digits-say : (b : ℕ) (s : List ℕ) → is_digit b ≡ true → surplus_zero (b ∷ s) ≡ false → NumberSays (b ∷ s) (more_digits (b - byte "0") s)
digits-say b s d h = go (eqb b (byte "0")) refl
  where
    go : (t : Bool) → eqb b (byte "0") ≡ t → NumberSays (b ∷ s) (more_digits (b - byte "0") s)
    go true e = rw (digits-stop (b - byte "0") s (one-zero b s d e h)) (respelled (sym (decimal_digit b d)) (one-digit-byte b s d))
    go false e = first_says b s (more_digits (b - byte "0") s) d (more-say s (b - byte "0") (omega (arith, (digit_value b d).0, eqb-false b (byte "0") e)))

pub number-says : (limit : ℕ) (s : List ℕ) → surplus_zero s ≡ false → NumberSays s (parse_number limit s)
unfolding parse_number
number-says limit [] h = tt
number-says limit (b ∷ s) h = go (is_digit b) refl
  where
    go : (t : Bool) → is_digit b ≡ t → NumberSays (b ∷ s) (parse_number limit (b ∷ s))
    go true e =
        let first : more_digits 0 (b ∷ s) ≡ more_digits (b - byte "0") s = digit-read 0 b e s ∙ ap (λ x. more_digits x s) (omega arith) in
        rw (e, parse_number) (rw first (bounded-says limit (b ∷ s) (more_digits (b - byte "0") s) (digits-say b s e h)))
    go false e = rw (e, parse_number) tt

-- ---- Names.

-- The name `m` goes up to `=`, or up to the closer, which is left.
pub data NameEnd (k : ContainerKind) (s m t : List ℕ) : Type 0 where
  by-equals : s ≡ m ++ (byte "=" ∷ t) → NameEnd k s m t
  by-closer : (u : List ℕ) → t ≡ end_byte k ∷ u → s ≡ m ++ t → NameEnd k s m t

abbrev pub NameSays : ContainerKind → List ℕ → Named → Type 0
NameSays k s (named m t) = (verify_name m ≡ true) × NameEnd k s m t
NameSays k s (unnamed e t) = Unit {0}

checked-says : (k : ContainerKind) (s m here next : List ℕ) → NameEnd k s m next → NameSays k s (check_name k m here next)
unfolding check_name
checked-says k s m here next h = go (verify_name m) refl
  where
    go : (t : Bool) → verify_name m ≡ t → NameSays k s (check_name k m here next)
    go true e = rw (e, check_name) (e, h)
    go false e = rw (e, check_name) tt

pub name-says : (k : ContainerKind) (s m : List ℕ) → NameSays k (m ++ s) (parse_name k m s)
unfolding parse_name
name-says k [] m = tt
name-says k (b ∷ s) m = go (eqb b (byte "=")) refl (eqb b (end_byte k)) refl (name-says k s (m ++ (b ∷ [])))
  where
    go : (x : Bool) → eqb b (byte "=") ≡ x → (y : Bool) → eqb b (end_byte k) ≡ y → NameSays k ((m ++ (b ∷ [])) ++ s) (parse_name k (m ++ (b ∷ [])) s)
        → NameSays k (m ++ (b ∷ s)) (parse_name k m (b ∷ s))
    go true e y f r = rw (e, parse_name) (checked-says k (m ++ (b ∷ s)) m (b ∷ s) s (by-equals (ap (λ x. m ++ (x ∷ s)) (eqb-true b (byte "=") e))))
    go false e true f r = rw (e, parse_name) (rw f (checked-says k (m ++ (b ∷ s)) m (b ∷ s) (b ∷ s) (by-closer s (ap (λ x. x ∷ s) (eqb-true b (end_byte k) f)) refl)))
    go false e false f r = rw (e, parse_name) (rw f (subst (λ x. NameSays k x (parse_name k (m ++ (b ∷ [])) s)) (append_assoc m (b ∷ []) s) r))

-- ---- What a byte begins.

-- It is neither `=` nor a container's closer.
abbrev pub Plain : ℕ → Type 0
Plain b = (eqb b (byte "=") ≡ false) × (among b (bytes "})") ≡ false)

-- Which byte it is.
abbrev pub Begins : ℕ → Start → Type 0
Begins b (single p) = (code p ≡ b ∷ []) × Plain b
Begins b complex = b ≡ byte "j"
Begins b object = b ≡ byte "@"
Begins b bits = b ≡ byte "b"
Begins b (indirection l) = ((cs : Trees) → print_node l (level_by cs) (spelled cs) ≡ b ∷ spelled cs) × Plain b
Begins b open_array = b ≡ byte "["
Begins b close_array = b ≡ byte "]"
Begins b (open_container k) = b ≡ start_byte k
Begins b (close_container k) = b ≡ end_byte k
Begins b nothing = Unit {0}

abbrev AllOthers : List (ℕ × Start) → Type 0
AllOthers [] = Unit {0}
AllOthers (x ∷ xs) = Begins x.0 x.1 × AllOthers xs

abbrev AllSingles : List (ℕ × ℕ) → Type 0
AllSingles [] = Unit {0}
AllSingles (x ∷ xs) = Begins x.0 (single x.1) × AllSingles xs

in-others : (b : ℕ) (xs : List (ℕ × Start)) → AllOthers xs → Begins b (in_others b xs)
unfolding in_others
in-others b [] a = tt
in-others b (x ∷ xs) a = go (eqb b x.0) refl (in-others b xs a.1)
  where
    go : (t : Bool) → eqb b x.0 ≡ t → Begins b (in_others b xs) → Begins b (in_others b (x ∷ xs))
    go true e r = rw (e, in_others) (subst (λ c. Begins c x.1) (sym (eqb-true b x.0 e)) a.0)
    go false e r = rw (e, in_others) r

in-singles : (b : ℕ) (xs : List (ℕ × ℕ)) → AllSingles xs → Begins b (in_others b others) → Begins b (in_singles b xs)
unfolding in_singles
in-singles b [] a h = h
in-singles b (x ∷ xs) a h = go (eqb b x.0) refl (in-singles b xs a.1 h)
  where
    go : (t : Bool) → eqb b x.0 ≡ t → Begins b (in_singles b xs) → Begins b (in_singles b (x ∷ xs))
    go true e r = rw (e, in_singles) (subst (λ c. Begins c (single x.1)) (sym (eqb-true b x.0 e)) a.0)
    go false e r = rw (e, in_singles) r

all_others : AllOthers others
unfolding others print_node among
all_others =
    refl also refl also refl also ((λ cs. refl), (refl, refl)) also ((λ cs. refl), (refl, refl)) also refl also refl
    also refl also refl also refl also refl also tt

all-singles : AllSingles singles
unfolding singles code codes among
all-singles =
    (refl, (refl, refl)) also (refl, (refl, refl)) also (refl, (refl, refl)) also (refl, (refl, refl)) also (refl, (refl, refl))
    also (refl, (refl, refl)) also (refl, (refl, refl)) also (refl, (refl, refl)) also (refl, (refl, refl)) also (refl, (refl, refl))
    also (refl, (refl, refl)) also (refl, (refl, refl)) also (refl, (refl, refl)) also (refl, (refl, refl)) also (refl, (refl, refl))
    also (refl, (refl, refl)) also (refl, (refl, refl)) also (refl, (refl, refl)) also (refl, (refl, refl)) also tt

pub begins : (b : ℕ) → Begins b (start b)
unfolding start
begins b = in-singles b singles all-singles (in-others b others all_others)

-- The type of a bitfield is one byte.
pub integral-code : (b : ℕ) → integral b ≡ true → (code (single_kind (start b)) ≡ b ∷ []) × (eqb b (byte "=") ≡ false)
unfolding integral start singles in_singles single_kind code codes
integral-code b h = each (λ c. (code (single_kind (start c)) ≡ c ∷ []) × (eqb c (byte "=") ≡ false)) (bytes "csilqCSILQB")
    ((refl, refl) also (refl, refl) also (refl, refl) also (refl, refl) also (refl, refl) also (refl, refl)
    also (refl, refl) also (refl, refl) also (refl, refl) also (refl, refl) also (refl, refl) also tt)
    b
    h
