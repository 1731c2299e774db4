-- What the private functions that end a reading step answer and write, as functions of what was read.
use Rattle.parse.specs.declared.Parsed.TheVariants.{Empty, Encoding, ContainerEnd, ArrayEnd}
use Rattle.parse.specs.declared.Parsed.{Parsed}
use Rattle.parse.specs.declared.NotRead.{NotRead}
use Rattle.parse.specs.declared.NotRead.TheVariants.{Away, Refused}
use Rattle.kinds.specs.declared.Refusal.{Refusal}
use Rattle.kinds.specs.declared.Refusal.TheVariants.{Parse}
use Rattle.std.specs.Prelude.{ℕ, ◌+◌, ◌*◌, ◌-◌, ◌≤◌, Bool, true, false, cond, ◌||◌, List, [], ◌∷◌, ◌++◌, drop, replicate, eqb}
use Rattle.std.proofs.lemmas.List.Edits.{sets}
use Rattle.kinds.specs.Byte.{byte}
use Rattle.kinds.specs.Container.{end_byte, same_container}
use Rattle.kinds.specs.declared.ContainerKind.{ContainerKind}
use Rattle.kinds.specs.declared.ContainerKind.TheVariants.{Struct, Union}
use Rattle.kinds.specs.declared.ErrorKind.TheVariants.{Unknown, WrongEndArray, WrongEndContainer}
use Rattle.kinds.specs.Sheet.{words_used, header_for}
use Rattle.codes.specs.Answer.{closed}
use Rattle.codes.specs.declared.Token.{Token}
use Rattle.codes.specs.declared.Token.TheVariants as T
use Rattle.parse.specs.Answer.{used, kind_word}
use Rattle.std.specs.Prelude.{Result, Ok, Err}
use Rattle.kinds.specs.declared.ParseError.{ParseError}
use Rattle.kinds.specs.Refusal.{parse_error}

-- Why a text is refused, whether anything was read or not.
abbrev pub refusal_of : NotRead → Refusal
refusal_of (Away why) = why
refusal_of (Refused e) = Parse e.«kind» e.«split_point»

-- The words with node `n` put, where there is room for it.
abbrev pub node_put : List ℕ → ℕ → ℕ → ℕ → ℕ → ℕ → List ℕ
node_put w n kind first second count = sets w (4 * n) (kind ∷ first ∷ second ∷ count ∷ [])

abbrev pub token_out : Token → ℕ → ℕ → Result Parsed ParseError
token_out (T.Primitive p to) n m = Ok (Encoding to (n + 1) m)
token_out (T.BitField size to d) n m = Ok (Encoding to (n + 1) m)
token_out (T.TypedBitField offset p size to d) n m = Ok (Encoding to (n + 2) m)
token_out (T.ArrayEnd to) n m = Ok (ArrayEnd to)
token_out (T.ContainerEnd kind to) n m = Ok (ContainerEnd kind to)
token_out (T.Refused why to d) n m = Err (parse_error why to)
token_out T.Parts n m = Ok Empty
token_out T.End n m = Ok Empty

abbrev pub token_words : Token → ℕ → List ℕ → List ℕ
token_words (T.Primitive p to) n w = node_put w n p 0 0 1
token_words (T.BitField size to d) n w = node_put w n 24 0 size 1
token_words (T.TypedBitField offset p size to d) n w = node_put (node_put w (n + 1) p 0 0 1) n 25 offset size 2
token_words (T.ArrayEnd to) n w = w
token_words (T.ContainerEnd kind to) n w = w
token_words (T.Refused why to d) n w = w
token_words T.Parts n w = w
token_words T.End n w = w

-- Room for a token's nodes in `l` words.
abbrev pub TokenRoom : Token → ℕ → ℕ → Type 0
TokenRoom (T.Primitive p to) n l = 4 * n + 4 ≤ l
TokenRoom (T.BitField size to d) n l = 4 * n + 4 ≤ l
TokenRoom (T.TypedBitField offset p size to d) n l = 4 * n + 8 ≤ l
TokenRoom (T.ArrayEnd to) n l = Unit {0}
TokenRoom (T.ContainerEnd kind to) n l = Unit {0}
TokenRoom (T.Refused why to d) n l = Unit {0}
TokenRoom T.Parts n l = Unit {0}
TokenRoom T.End n l = Unit {0}

-- What a node asks of the outcome of reading its child.
abbrev pub After : Result Parsed ParseError → ℕ → Type 0
After (Ok Empty) n = Unit {0}
After (Ok (Encoding to k l)) n = n ≤ k
After (Ok (ContainerEnd kind to)) n = Unit {0}
After (Ok (ArrayEnd to)) n = Unit {0}
After (Err e) n = Unit {0}

-- A node with no child read: one None under it.
abbrev pub none_under : ℕ → ℕ → ℕ → List ℕ → List ℕ
none_under kind first n w = node_put (node_put w (n + 1) 31 0 0 1) n kind first 0 2

abbrev pub hold_out : Result Parsed ParseError → ℕ → ℕ → ℕ → Result Parsed ParseError
hold_out (Ok Empty) next n m = Ok (Encoding next (n + 2) m)
hold_out (Ok (Encoding to k l)) next n m = Ok (Encoding to k l)
hold_out (Ok (ContainerEnd kind to)) next n m = Ok (Encoding next (n + 2) m)
hold_out (Ok (ArrayEnd to)) next n m = Ok (Encoding next (n + 2) m)
hold_out (Err e) next n m = Err e

abbrev pub hold_words : Result Parsed ParseError → ℕ → ℕ → List ℕ → List ℕ
hold_words (Ok Empty) kind n w = none_under kind 0 n w
hold_words (Ok (Encoding to k l)) kind n w = node_put w n kind 0 0 (k - n)
hold_words (Ok (ContainerEnd c to)) kind n w = none_under kind 0 n w
hold_words (Ok (ArrayEnd to)) kind n w = none_under kind 0 n w
hold_words (Err e) kind n w = w

-- The kind word of the pointer or atomic that begins.
abbrev pub indirection_word : ℕ → ℕ
indirection_word b = cond (eqb b 94) 26 27

abbrev pub pick_parsed : Bool → Result Parsed ParseError → Result Parsed ParseError → Result Parsed ParseError
pick_parsed true a b = a
pick_parsed false a b = b

abbrev pub pick_list : Bool → List ℕ → List ℕ → List ℕ
pick_list true a b = a
pick_list false a b = b

abbrev pub item_out : Result Parsed ParseError → List ℕ → ℕ → ℕ → ℕ → Result Parsed ParseError
item_out (Ok Empty) text item n m = Err (parse_error WrongEndArray item)
item_out (Ok (Encoding to k l)) text item n m = pick_parsed (closed text to) (Ok (Encoding (to + 1) k l)) (Err (parse_error WrongEndArray to))
item_out (Ok (ContainerEnd kind to)) text item n m = Err (parse_error (Unknown (end_byte kind)) to)
item_out (Ok (ArrayEnd to)) text item n m = Ok (Encoding to (n + 2) m)
item_out (Err e) text item n m = Err e

abbrev pub item_words : Result Parsed ParseError → List ℕ → ℕ → ℕ → List ℕ → List ℕ
item_words (Ok Empty) text len n w = w
item_words (Ok (Encoding to k l)) text len n w = pick_list (closed text to) (node_put w n 28 len 0 (k - n)) w
item_words (Ok (ContainerEnd kind to)) text len n w = w
item_words (Ok (ArrayEnd to)) text len n w = none_under 28 len n w
item_words (Err e) text len n w = w

-- A struct or a union begins.
abbrev pub opens_container : ℕ → Bool
opens_container b = eqb b (byte "{") || eqb b (byte "(")

abbrev pub pick_container : Bool → ContainerKind → ContainerKind → ContainerKind
pick_container true a b = a
pick_container false a b = b

-- Which of the two.
abbrev pub opened_container : ℕ → ContainerKind
opened_container b = pick_container (eqb b (byte "{")) Struct Union

abbrev pub AfterItems : Result (ℕ × ℕ × ℕ) ParseError → ℕ → Type 0
AfterItems (Ok (to, k, l)) n = n ≤ k
AfterItems (Err e) n = Unit {0}

abbrev pub contain_out : Result (ℕ × ℕ × ℕ) ParseError → Result Parsed ParseError
contain_out (Ok (to, k, l)) = Ok (Encoding to k l)
contain_out (Err e) = Err e

abbrev pub contain_words : Result (ℕ × ℕ × ℕ) ParseError → ContainerKind → ℕ → ℕ → ℕ → List ℕ → List ℕ
contain_words (Ok (to, k, l)) kind n m named w = node_put w n (kind_word kind) m (named - m) (k - n)
contain_words (Err e) kind n m named w = w

abbrev pub pick_items : Bool → Result (ℕ × ℕ × ℕ) ParseError → Result (ℕ × ℕ × ℕ) ParseError → Result (ℕ × ℕ × ℕ) ParseError
pick_items true a b = a
pick_items false a b = b

-- The outcome that ends a container's fields.
abbrev pub end_out : Parsed → ContainerKind → ℕ → ℕ → ℕ → Result (ℕ × ℕ × ℕ) ParseError
end_out Empty kind at n m = Err (parse_error (WrongEndContainer kind) at)
end_out (Encoding to k l) kind at n m = Err (parse_error (WrongEndContainer kind) at)
end_out (ContainerEnd other to) kind at n m = pick_items (same_container kind other) (Ok (to, n, m)) (Err (parse_error (Unknown (end_byte other)) to))
end_out (ArrayEnd to) kind at n m = Err (parse_error (Unknown 93) to)

-- ---- The whole text.

abbrev pub cleared : ℕ → List ℕ → List ℕ
cleared n xs = replicate n 0 ++ drop n xs

abbrev pub headed : ℕ → ℕ → List ℕ → List ℕ
headed k l w = sets w 0 (header_for k l)

-- The sheet of None alone.
abbrev pub none_sheet : List ℕ → List ℕ
none_sheet w = sets w 0 (header_for 1 0 ++ (31 ∷ 0 ∷ 0 ∷ 1 ∷ []))

-- The sheet of a primitive alone, in the words that a text of one byte uses.
abbrev pub code_sheet : ℕ → List ℕ → List ℕ
code_sheet p w = sets (cleared (used 1) w) 0 (header_for 1 0 ++ (p ∷ 0 ∷ 0 ∷ 1 ∷ []))

-- The nodes found fit the words.
abbrev pub Fits : Result Parsed ParseError → ℕ → Type 0
Fits (Ok Empty) n = Unit {0}
Fits (Ok (Encoding to k l)) n = words_used k ≤ n
Fits (Ok (ContainerEnd kind to)) n = Unit {0}
Fits (Ok (ArrayEnd to)) n = Unit {0}
Fits (Err e) n = Unit {0}

abbrev pub encoded_out : Result Parsed ParseError → ℕ → Result ℕ NotRead
encoded_out (Ok Empty) n = Ok n
encoded_out (Ok (Encoding to k l)) n = Ok to
encoded_out (Ok (ContainerEnd kind to)) n = Err (Refused (parse_error (Unknown (end_byte kind)) to))
encoded_out (Ok (ArrayEnd to)) n = Err (Refused (parse_error (Unknown 93) to))
encoded_out (Err e) n = Err (Refused e)

abbrev pub encoded_words : Result Parsed ParseError → ℕ → List ℕ → List ℕ
encoded_words (Ok Empty) n w = none_sheet w
encoded_words (Ok (Encoding to k l)) n w = headed k l w
encoded_words (Ok (ContainerEnd kind to)) n w = cleared (used n) w
encoded_words (Ok (ArrayEnd to)) n w = cleared (used n) w
encoded_words (Err e) n w = cleared (used n) w

abbrev pub encoded_names : Result Parsed ParseError → ℕ → List ℕ → List ℕ
encoded_names (Ok Empty) n ns = ns
encoded_names (Ok (Encoding to k l)) n ns = ns
encoded_names (Ok (ContainerEnd kind to)) n ns = cleared n ns
encoded_names (Ok (ArrayEnd to)) n ns = cleared n ns
encoded_names (Err e) n ns = cleared n ns
