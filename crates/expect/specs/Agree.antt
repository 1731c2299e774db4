-- What the walkers' outcomes say, against the definitions of tree against text (kinds, Expect). `w` is the words from the first node on.
use Rattle.std.specs.Prelude.{ℕ, ◌+◌, ◌-◌, ◌≤◌, Bool, cond, ◌≡◌, List, ◌∷◌, ◌++◌, leb, eqb, length, get_or, drop}
use Rattle.kinds.specs.Byte.{byte, bytes}
use Rattle.kinds.specs.Container.{end_byte, prefix_byte}
use Rattle.kinds.specs.Expect as E
use Rattle.kinds.specs.Expect.{remaining, mismatch, ◌then◌, or_else, expect_byte, expect_bytes, expect_number, expect_primitive, expect_fields, expect_node, expect_encoding}
use Rattle.kinds.specs.Kind.{container_of, is_indirection, inside_kind}
use Rattle.kinds.specs.Parse.{max_u64, max_u8}
use Rattle.kinds.specs.Primitive.{code}
use Rattle.kinds.specs.Sheet.{kind_at, second_at, count_at, label_at, trees}
use Rattle.kinds.specs.Tree.{is_end, inside}
use Rattle.kinds.specs.declared.ContainerKind.{ContainerKind}
use Rattle.kinds.specs.declared.IndirectionKind.{IndirectionKind}
use Rattle.kinds.specs.declared.IndirectionKind.TheVariants.{Atomic, Pointer}
use Rattle.kinds.specs.declared.NestingLevel.{NestingLevel}
use Rattle.kinds.specs.declared.NestingLevel.TheVariants.{Within}
use Rattle.std.specs.Prelude.{Option, Some, None, Result, Ok, Err}
use Rattle.kinds.specs.declared.ParseError.{ParseError}
use Rattle.expect.specs.declared.Opened.{Opened}
use Rattle.expect.specs.declared.Opened.TheVariants as O

-- The place after what was taken stands for the text from there on.
abbrev pub ExpectedIs : List ℕ → Option ℕ → E.Expected → Type 0
ExpectedIs text (Some to) q = (q ≡ remaining (drop to text)) × (to ≤ length text)
ExpectedIs text None q = q ≡ mismatch

-- The place after a number that was read, if it is `n`.
abbrev pub number_end : ℕ → Result (ℕ × ℕ) ParseError → Option ℕ
number_end n (Ok x) = cond (eqb x.0 n) (Some x.1) None
number_end n (Err e) = None

-- The node at `at`, its children included.
unfoldable pub expect_at : List ℕ → List ℕ → ℕ → NestingLevel → List ℕ → E.Expected
expect_at names w at v s =
    expect_node (label_at names w at) v (is_end (trees names w (count_at w at - 1) (at + 4)))
    (λ t. expect_encoding (inside (label_at names w at) v) (trees names w (count_at w at - 1) (at + 4)) t) s

-- The codes of Block, Object and Class.
unfoldable pub any_object : List ℕ → E.Expected
any_object s = or_else (expect_bytes (code 20) s) (or_else (expect_bytes (code 19) s) (expect_bytes (code 21) s))

-- A primitive of kind `k`, or a bitfield of size `n`.
abbrev pub expect_leaf : ℕ → ℕ → List ℕ → E.Expected
expect_leaf k n s = cond (leb k 23) (expect_primitive k s) (expect_byte (byte "b") s then (λ t. expect_number max_u8 n t))

-- The first byte of a bitfield with a type, and of an array.
abbrev pub opening_byte : ℕ → ℕ
opening_byte k = cond (eqb k 25) (byte "b") (byte "[")

-- What stands before the type of a bitfield and before the item of an array; `a` is the node's first number.
unfoldable pub opening : ℕ → ℕ → List ℕ → E.Expected
opening k a s = expect_byte (opening_byte k) s then (λ t. expect_number max_u64 a t)

-- What stands after the children of a bitfield, an array or a container; `b` is the node's second number.
unfoldable pub closing : ℕ → ℕ → List ℕ → E.Expected
closing k b s = cond (eqb k 25) (expect_number max_u8 b s) (cond (eqb k 28) (expect_byte (byte "]") s) (expect_byte (end_byte (container_of k)) s))

-- A container after its name, at a level that includes fields; `e` says that it has none, and `inner` takes them.
abbrev pub after_name : ContainerKind → Bool → (List ℕ → E.Expected) → List ℕ → E.Expected
after_name k e inner s = expect_byte (byte "=") s then (λ t. expect_fields k e inner t)

-- The place after what was taken lies within the text.
abbrev pub InText : List ℕ → Option ℕ → Type 0
InText text (Some to) = to ≤ length text
InText text None = Unit {0}

-- A container up to its fields, whatever `inner` makes of them: taken whole, no match, or its fields, at level `u`, and its closer are still to come.
abbrev pub OpenedIs : List ℕ → ContainerKind → NestingLevel → Option Opened → ((List ℕ → E.Expected) → E.Expected) → Type 0
OpenedIs text k u (Some (O.Taken to)) q = ((inner : List ℕ → E.Expected) → q inner ≡ remaining (drop to text)) × (to ≤ length text)
OpenedIs text k u None q = (inner : List ℕ → E.Expected) → q inner ≡ mismatch
OpenedIs text k u (Some (O.Fields to v)) q = ((inner : List ℕ → E.Expected) → q inner ≡ (inner (drop to text) then (λ t. expect_byte (end_byte k) t))) × (to ≤ length text) × (v ≡ u)

-- The container at `at` up to its fields, in the text from `place` on.
abbrev pub ContainerOpenedAt : List ℕ → List ℕ → ℕ → NestingLevel → List ℕ → ℕ → Option Opened → Type 0
ContainerOpenedAt names w at v text place r =
    OpenedIs text (container_of (kind_at w at)) Within r
    (λ inner. expect_node (label_at names w at) v (is_end (trees names w (count_at w at - 1) (at + 4))) inner (drop place text))

-- The indirection of a kind word, 26 or 27.
abbrev pub indirection_of : ℕ → IndirectionKind
indirection_of k = cond (eqb k 26) Pointer Atomic

-- The codes of one byte that no other primitive is compared as, by kind; 0 for the other primitives.
abbrev pub code_bytes_by_kind : List ℕ
code_bytes_by_kind = bytes "csilqCSILQfdD" ++ 0 ∷ 0 ∷ 0 ∷ bytes "Bv*" ++ 0 ∷ 0 ∷ 0 ∷ bytes ":?"

unfoldable pub code_byte : ℕ → ℕ
code_byte k = get_or code_bytes_by_kind k 0

-- The byte of a node of whose own text it is the whole, or 0.
unfoldable pub own_byte : ℕ → ℕ
own_byte k = cond (is_indirection k) (prefix_byte (indirection_of k)) (code_byte k)

-- The level after such a node: what it holds comes next, or the next tree at the level `v`.
unfoldable pub level_after : ℕ → NestingLevel → NestingLevel → NestingLevel
level_after k v here = cond (is_indirection k) (inside_kind k here) v

-- A node without children, from the outcome of its text; one whose children, at the level `v`, are still to come, from that of what stands before them.
abbrev pub taken_of : Option ℕ → Option Opened
taken_of None = None
taken_of (Some to) = Some (O.Taken to)

abbrev pub fields_of : Option ℕ → NestingLevel → Option Opened
fields_of None v = None
fields_of (Some to) v = Some (O.Fields to v)

-- The node at `at` up to its children: taken whole, no match, or its children, at a level, and what stands after them are still to come.
abbrev pub OpenedAt : List ℕ → List ℕ → ℕ → NestingLevel → List ℕ → ℕ → Option Opened → Type 0
OpenedAt names w at v text place (Some (O.Taken to)) = (expect_at names w at v (drop place text) ≡ remaining (drop to text)) × (to ≤ length text)
OpenedAt names w at v text place None = expect_at names w at v (drop place text) ≡ mismatch
OpenedAt names w at v text place (Some (O.Fields to u)) =
    (expect_at names w at v (drop place text) ≡ (expect_encoding u (trees names w (count_at w at - 1) (at + 4)) (drop to text) then (λ t. closing (kind_at w at) (second_at w at) t))) × (to ≤ length text)
