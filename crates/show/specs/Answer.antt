-- What the calls answer: what is shown of texts and trees.
use Rattle.std.specs.Prelude.{ℕ, zero, suc, ◌+◌, ◌-◌, ◌*◌, Bool, cond, ◌&&◌, ◌||◌, List, [], ◌∷◌, ◌++◌, leb, ltb, eqb, length, take, drop, get_or}
use Rattle.kinds.specs.Byte.{byte, bytes}
use Rattle.kinds.specs.Print.{decimal}
use Rattle.std.specs.Prelude.{Option, Some, None, Result, Ok, Err}
use Rattle.kinds.specs.declared.Refusal.{Refusal}
use Rattle.lines.specs.Answer.{until, each, decimals, is_decimals}
use Rattle.reason.specs.Reason as R

-- How often a byte stands in a text.
unfoldable pub count_of : ℕ → List ℕ → ℕ
count_of b [] = 0
count_of b (x ∷ s) = cond (eqb x b) (suc (count_of b s)) (count_of b s)

-- A byte that is no printable ASCII shows as a dot.
unfoldable pub shown_byte : ℕ → List ℕ
shown_byte b = cond (leb (byte " ") b && leb b (byte "~")) b (byte ".") ∷ []

unfoldable pub shown_text : List ℕ → List ℕ
shown_text s = each shown_byte s

-- The same bytes several times.
unfoldable pub times : ℕ → List ℕ → List ℕ
times zero s = []
times (suc n) s = s ++ times n s

-- How many of the first `n` nodes hold node `i`: those whose subtree reaches beyond it. `w` is the words of a sheet from its first node on.
unfoldable pub holders : List ℕ → ℕ → ℕ → ℕ
holders w i zero = 0
holders w i (suc j) = holders w i j + cond (ltb (i - j) (get_or w (4 * j + 3) 0)) 1 0

-- The depth of node `i`: how many of those before it hold it.
unfoldable pub depth_of : List ℕ → ℕ → ℕ
depth_of w i = holders w i i

-- The line of a table with the number `k`, from 0 on.
unfoldable pub line_of : ℕ → List ℕ → List ℕ
line_of zero table = take (until (byte "\n") table) table
line_of (suc k) table = line_of k (drop (until (byte "\n") table + 1) table)

-- A number and its unit, in the plural but for 1.
unfoldable pub count_text : ℕ → List ℕ → List ℕ
count_text n unit = decimal n ++ (bytes " " ++ cond (eqb n 1) unit (unit ++ bytes "s"))

-- What stands before a node's numbers or its name, a line for each kind.
unfoldable pub kind_names : List ℕ
kind_names =
    bytes "char\nshort\nint\nlong\nlong long\nunsigned char\nunsigned short\nunsigned int\nunsigned long\nunsigned long long\n"
    ++ (bytes "float\ndouble\nlong double\ncomplex float\ncomplex double\ncomplex long double\nbool\nvoid\nC string\n"
    ++ (bytes "object\nblock\nclass\nselector\nunknown\n"
    ++ bytes "bitfield of \nbitfield at offset \npointer\natomic\narray of \nstruct \nunion \nnothing"))

-- A node's numbers or its name, by its kind and its two numbers.
unfoldable pub values_text : List ℕ → ℕ → ℕ → ℕ → List ℕ
values_text names k m n =
    cond (eqb k 24) (count_text n (bytes "bit"))
    (cond (eqb k 25) (decimal m ++ (bytes " of " ++ count_text n (bytes "bit")))
    (cond (eqb k 28) (decimal m)
    (cond (eqb k 29 || eqb k 30) (take n (drop m names)) [])))

-- A number in a column that is as wide as `widest`.
unfoldable pub right_text : ℕ → ℕ → List ℕ
right_text n widest = times (length (decimal widest) - length (decimal n)) (bytes " ") ++ decimal n

-- A node's kind with its numbers or its name, two columns deeper than its parent's.
unfoldable pub type_text : List ℕ → List ℕ → ℕ → List ℕ
type_text w names i =
    times (depth_of w i) (bytes "  ")
    ++ (line_of (get_or w (4 * i) 0) kind_names
    ++ values_text names (get_or w (4 * i) 0) (get_or w (4 * i + 1) 0) (get_or w (4 * i + 2) 0))

-- The line of node `i`: its number, in a column for the last one's, and its type.
unfoldable pub node_text : List ℕ → List ℕ → ℕ → ℕ → List ℕ
node_text w names i last = right_text i last ++ (bytes " " ++ type_text w names i)

-- A number of a table, two columns behind what stands before it.
unfoldable pub column_text : ℕ → ℕ → List ℕ
column_text n widest = bytes "  " ++ right_text n widest

-- The line of entry `k` of a signature, of which the list has three numbers: its own number, the type's start, its length, its number, and its bytes.
unfoldable pub entry_text : List ℕ → List ℕ → ℕ → List ℕ
entry_text text list k =
    right_text k 1000
    ++ (column_text (get_or list (3 * k) 0) 10000
    ++ (column_text (get_or list (3 * k + 1) 0) 100000
    ++ (column_text (get_or list (3 * k + 2) 0) 1000000000
    ++ (bytes "  "
    ++ shown_text (take (get_or list (3 * k + 1) 0) (drop (get_or list (3 * k) 0) text))))))

-- ---- A layout, a node or a hole a line.

-- The offset of a field, and an empty column for what is none.
unfoldable pub offset_text : Bool → ℕ → List ℕ
offset_text field offset = cond field (column_text offset 1000000000) (bytes "            ")

-- The size and the alignment of a node, by the library's answer for what it holds as a tree of its own; nothing of a node that is not laid out. Such a part
-- can be too large where the whole is not: it is the item of an array of length 0.
unfoldable pub extent_text : Result (Option (ℕ × ℕ)) Refusal → List ℕ
extent_text (Err why) = bytes "   too large       "
extent_text (Ok None) = bytes "                   "
extent_text (Ok (Some (n, a))) = column_text n 1000000000 ++ column_text a 10000

-- The line of node `i`: its number, its offset if it is a field, its size and alignment, and its type.
unfoldable pub laid_text : List ℕ → List ℕ → ℕ → Bool → ℕ → Result (Option (ℕ × ℕ)) Refusal → List ℕ
laid_text w names i field offset x = right_text i 1000 ++ (offset_text field offset ++ (extent_text x ++ (bytes "  " ++ type_text w names i)))

-- The line of the padding after node `i`: where it begins, its bytes, and the word, as deep as the node.
unfoldable pub padding_text : List ℕ → ℕ → ℕ → ℕ → List ℕ
padding_text w i begin n =
    bytes "    "
    ++ (column_text begin 1000000000
    ++ (column_text n 1000000000
    ++ (bytes "         "
    ++ (times (depth_of w i) (bytes "  ")
    ++ bytes "padding"))))

-- The last line: the size and the alignment of the whole.
unfoldable pub whole_text : ℕ → ℕ → List ℕ
whole_text n a = count_text n (bytes "byte") ++ (bytes ", alignment " ++ decimal a)

-- ---- Sizes.

-- That a size is above the largest of its row.
unfoldable pub limit_text : ℕ → List ℕ
limit_text row = cond (eqb row 2) (bytes "above 2^32 - 1 bytes") (bytes "above 2^64 - 1 bytes")

-- A size in a row. A tree that was read is refused in a row of the table only for its size.
unfoldable pub size_text : ℕ → Result (Option ℕ) Refusal → List ℕ
size_text row (Err why) = limit_text row
size_text row (Ok None) = bytes "no size"
size_text row (Ok (Some n)) = count_text n (bytes "byte")

-- The machines, a line for each row.
unfoldable pub machine_names : List ℕ
machine_names = bytes "  64-bit Apple ARM  \n  x86_64            \n  32-bit ARM        \n  the guide's long  "

-- The line of a row: its number, its machine and the size there.
unfoldable pub size_line : ℕ → Result (Option ℕ) Refusal → List ℕ
size_line row s = right_text row 100 ++ (line_of row machine_names ++ size_text row s)

-- One number of 1 to 20 digits that is below 2^64.
unfoldable pub is_number : List ℕ → Bool
is_number s = ltb 0 (length s) && (leb (length s) 20 && (is_decimals 0 s && leb (length (decimals 0 s)) 1))

-- The byte that a refusal names: itself, or its number where it does not show.
unfoldable pub byte_text : ℕ → List ℕ
byte_text b = cond (ltb 32 b && ltb b 127) (b ∷ []) (bytes "byte " ++ decimal b)

unfoldable pub container_text : ℕ → List ℕ
container_text kind = cond (eqb kind 30) (bytes "union") (bytes "struct")

-- A text of more than 2,000 bytes shows its first 60.
unfoldable pub shown_or_cut : List ℕ → List ℕ
shown_or_cut text = cond (leb (length text) 2000) (shown_text text) (shown_text (take 60 text) ++ bytes "...")

-- Why an input was turned away, a line for each number of a refusal. A line says first what the refusal carries (`-` nothing, `^` a place, `b` a
-- place and a byte, `c` a place and a container, `n` a node) and then the reason, up to the byte, container or node that it names. A refusal more is a line here.
unfoldable pub refusals : List ℕ
refusals =
    bytes "-\n- the text has more than 2,000 bytes\n- the lists are too short for the tree\n- the lists hold no tree\n"
    ++ (bytes "- a name is neither ? nor letters, digits and underscores\n- the output is too short for the text\n- the size or an offset is above 2^64 - 1 bytes, or in row 2 above 2^32 - 1\n"
    ++ (bytes "^ the text ends where another byte must stand\nb no type starts with \nb f, d or D must follow j, not \n^ a digit must stand here\n"
    ++ (bytes "^ a number is above 2^64 - 1, or a bitfield's size above 255\n^ no ] follows the array's item\n"
    ++ (bytes "c the text ends inside the \nc neither ? nor letters, digits and underscores name the \n^ bytes remain after the type\n"
    ++ (bytes "^ no digit follows the type\n^ the number is above 4294967295\n- the signature is empty\n^ the number starts with a surplus zero\n"
    ++ bytes "- there is no row of that number: they are 0 to 3\nn a bitfield cannot be laid out: node ")))))

-- A line with a mark under the place, unless the refusal has none in the text.
unfoldable pub mark_text : ℕ → ℕ → List ℕ
mark_text carried place = cond (eqb carried (byte "-") || eqb carried (byte "n")) [] (bytes "\n" ++ (times place (bytes " ") ++ bytes "^"))

-- The byte, the container or the node that a refusal names; a node's number stands where other refusals have a place.
unfoldable pub named_text : ℕ → ℕ → ℕ → ℕ → List ℕ
named_text carried place b container =
    cond (eqb carried (byte "b")) (byte_text b)
    (cond (eqb carried (byte "c")) (container_text container)
    (cond (eqb carried (byte "n")) (decimal place) []))

-- A refusal by its line of `refusals`: the text, a mark under the place if there is one, and the reason.
unfoldable pub refused_by : List ℕ → List ℕ → List ℕ → List ℕ
refused_by line text why =
    shown_or_cut text
    ++ (mark_text (get_or line 0 0) (get_or why 1 0)
    ++ (bytes "\nrefused ("
    ++ (decimal (get_or why 0 0)
    ++ (bytes "): "
    ++ (drop (until (byte " ") line + 1) line
    ++ named_text (get_or line 0 0) (get_or why 1 0) (get_or why 2 0) (get_or why 3 0))))))

unfoldable pub refused_text : List ℕ → List ℕ → List ℕ
refused_text text why = refused_by (line_of (get_or why 0 0) refusals) text why

-- ---- The reason for a no, in a sentence.

-- What stands before the first `b`, and what stands after it.
unfoldable pub before : ℕ → List ℕ → List ℕ
before b s = take (until b s) s

unfoldable pub after : ℕ → List ℕ → List ℕ
after b s = drop (until b s + 1) s

-- The kinds from 24 on, a line each.
unfoldable pub compound_names : List ℕ
compound_names = bytes "bitfield\nbitfield with a type\npointer\natomic\narray\nstruct\nunion\nnothing"

-- A kind, without its node's numbers or name.
unfoldable pub kind_text : ℕ → List ℕ
kind_text k = cond (ltb k 24) (line_of k kind_names) (line_of (k - 24) compound_names)

-- Where the difference is, by the path to it.
unfoldable pub place_text : List ℕ → List ℕ
place_text path = cond (eqb (length path) 0) (bytes "the whole type") (bytes "item " ++ path)

-- What is said of the size and of the count besides; each of the six words begins with another byte.
unfoldable pub unit_text : ℕ → List ℕ
unit_text b = cond (eqb b (byte "s")) (bytes " in bits") (cond (eqb b (byte "c")) (bytes " of fields") [])

-- A value: a kind's number in words, all others as they are.
unfoldable pub value_text : ℕ → List ℕ → List ℕ
value_text b v = cond (eqb b (byte "k")) (kind_text (get_or (decimals 0 v) 0 0)) v

-- The sentence by the reason's path, its word and the values of both sides.
unfoldable pub difference_by : List ℕ → List ℕ → List ℕ → List ℕ → List ℕ
difference_by path word v w =
    bytes "in "
    ++ (place_text path
    ++ (bytes ": the "
    ++ (word
    ++ (unit_text (get_or word 0 0)
    ++ (bytes " is "
    ++ (value_text (get_or word 0 0) v
    ++ (bytes " in the first, "
    ++ (value_text (get_or word 0 0) w
    ++ bytes " in the second"))))))))

-- By the reason's bytes: a value is what stands after its length and a colon.
unfoldable pub difference_text : List ℕ → List ℕ
difference_text reason =
    difference_by (before (byte ":") reason) (before (byte " ") (after (byte ":") reason))
    (after (byte ":") (before (byte " ") (after (byte " ") (after (byte ":") reason))))
    (after (byte ":") (after (byte " ") (after (byte " ") (after (byte ":") reason))))

-- The sentence that a reason is to make: the place, what differs, and the values of both sides, kinds in words.
unfoldable pub said : List ℕ → List ℕ → List ℕ → List ℕ → List ℕ
said place what v w = bytes "in " ++ (place ++ (bytes ": the " ++ (what ++ (bytes " is " ++ (v ++ (bytes " in the first, " ++ (w ++ bytes " in the second")))))))

unfoldable pub sentence : List ℕ → R.Difference → List ℕ
sentence place (R.kind a b) = said place (bytes "kind") (kind_text a) (kind_text b)
sentence place (R.size a b) = said place (bytes "size in bits") (decimal a) (decimal b)
sentence place (R.offset a b) = said place (bytes "offset") (decimal a) (decimal b)
sentence place (R.length a b) = said place (bytes "length") (decimal a) (decimal b)
sentence place (R.name s t) = said place (bytes "name") s t
sentence place (R.count a b) = said place (bytes "count of fields") (decimal a) (decimal b)
