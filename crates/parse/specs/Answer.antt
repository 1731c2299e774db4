-- The readings (encoding_box.rs; strict reading, 02, N3): what they answer, and what the lent lists hold after (01, "The sheet" and "Why an input is turned away").
use Rattle.std.specs.Prelude.{ℕ, ◌+◌, ◌-◌, ◌≡◌, Bool, cond, ◌&&◌, List, [], ◌∷◌, ◌++◌, leb, ltb, length, drop, replicate}
use Rattle.std.specs.Prelude.{Option, Some, None}
use Rattle.std.specs.Borrow.{Bor}
use Rattle.kinds.specs.Parse.{Whole, tree, refusal, FromStart, tree_then, from_str, from_start_of_str}
use Rattle.kinds.specs.Strict.{from_str_strict}
use Rattle.kinds.specs.Refusal as R
use Rattle.kinds.specs.Sheet.{words_used, max_text, sheet_of, names_of}
use Rattle.kinds.specs.Tree.{Trees, end, node}
use Rattle.kinds.specs.declared.ContainerKind.{ContainerKind}
use Rattle.kinds.specs.declared.Refusal.{Refusal}
use Rattle.kinds.specs.declared.Refusal.TheVariants.{TextTooLong, ListTooShort, Parse}
use Rattle.std.specs.Prelude.{Result, Ok, Err}

-- ---- Refusals 1 and 2, before reading.

-- The words that reading a text of `l` bytes uses: those of a sheet of the most nodes that it can make.
abbrev pub used : ℕ → ℕ
used l = words_used (l + 1)

-- The lent lists are as long as reading needs.
unfoldable pub has_room : List ℕ → List ℕ → List ℕ → Bool
has_room text words names = leb (used (length text)) (length words) && leb (length text) (length names)

unfoldable pub turned_away : List ℕ → List ℕ → List ℕ → Option Refusal
turned_away text words names = cond (ltb max_text (length text)) (Some TextTooLong) (cond (has_room text words names) None (Some ListTooShort))

-- ---- The lists after reading.

-- The list with zeros after it, up to `n`.
unfoldable pub padded : ℕ → List ℕ → List ℕ
padded n xs = xs ++ replicate (n - length xs) 0

-- The first `n` of `list` hold `xs` and zeros; what lies beyond is kept.
unfoldable pub filled : ℕ → List ℕ → List ℕ → List ℕ
filled n xs list = padded n xs ++ drop n list

unfoldable pub sheet_words : Option Trees → List ℕ
sheet_words (Some t) = sheet_of t
sheet_words None = []

unfoldable pub sheet_names : Option Trees → List ℕ
sheet_names (Some t) = names_of t
sheet_names None = []

-- A list after an input that refusals 1 and 2 turn away, and else.
unfoldable pub unless_away : Option Refusal → List ℕ → List ℕ → List ℕ
unless_away (Some r) before after = before
unless_away None before after = after

-- The words after reading a tree or none from the text.
unfoldable pub words_after : List ℕ → List ℕ → List ℕ → Option Trees → List ℕ
words_after text words names t = unless_away (turned_away text words names) words (filled (used (length text)) (sheet_words t) words)

-- The name bytes after it.
unfoldable pub names_after : List ℕ → List ℕ → List ℕ → Option Trees → List ℕ
names_after text words names t = unless_away (turned_away text words names) names (filled (length text) (sheet_names t) names)

-- ---- Whole-text reading.

unfoldable pub whole_tree : Whole → Option Trees
whole_tree (tree l cs) = Some (node l cs end)
whole_tree (refusal e place) = None

unfoldable pub whole_reading : Whole → Result (Unit {0}) Refusal
whole_reading (tree l cs) = Ok tt
whole_reading (refusal e place) = Err (Parse e place)

unfoldable pub answer_or : Option Refusal → Result (Unit {0}) Refusal → Result (Unit {0}) Refusal
answer_or (Some r) a = Err r
answer_or None a = a

-- The answer of `from_str`.
unfoldable pub from_str_answer : List ℕ → List ℕ → List ℕ → Result (Unit {0}) Refusal
from_str_answer text words names = answer_or (turned_away text words names) (whole_reading (from_str text))

-- The words after `from_str`.
unfoldable pub from_str_words : List ℕ → List ℕ → List ℕ → List ℕ
from_str_words text words names = words_after text words names (whole_tree (from_str text))

-- The name bytes after `from_str`.
unfoldable pub from_str_names : List ℕ → List ℕ → List ℕ → List ℕ
from_str_names text words names = names_after text words names (whole_tree (from_str text))

-- ---- Strict whole-text reading (02, N3).

-- The answer of `from_str_strict`.
unfoldable pub from_str_strict_answer : List ℕ → List ℕ → List ℕ → Result (Unit {0}) Refusal
from_str_strict_answer text words names = answer_or (turned_away text words names) (whole_reading (from_str_strict text))

-- The words after `from_str_strict`.
unfoldable pub from_str_strict_words : List ℕ → List ℕ → List ℕ → List ℕ
from_str_strict_words text words names = words_after text words names (whole_tree (from_str_strict text))

-- The name bytes after `from_str_strict`.
unfoldable pub from_str_strict_names : List ℕ → List ℕ → List ℕ → List ℕ
from_str_strict_names text words names = names_after text words names (whole_tree (from_str_strict text))

-- ---- Reading from the start.

unfoldable pub start_tree : FromStart → Option Trees
start_tree (tree_then l cs t) = Some (node l cs end)
start_tree (refusal e place) = None

unfoldable pub start_reading : FromStart → Result (Unit {0}) Refusal
start_reading (tree_then l cs t) = Ok tt
start_reading (refusal e place) = Err (Parse e place)

-- The answer of `from_start_of_str`.
unfoldable pub from_start_answer : List ℕ → List ℕ → List ℕ → Result (Unit {0}) Refusal
from_start_answer text words names = answer_or (turned_away text words names) (start_reading (from_start_of_str text))

-- The words after `from_start_of_str`.
unfoldable pub from_start_words : List ℕ → List ℕ → List ℕ → List ℕ
from_start_words text words names = words_after text words names (start_tree (from_start_of_str text))

-- The name bytes after `from_start_of_str`.
unfoldable pub from_start_names : List ℕ → List ℕ → List ℕ → List ℕ
from_start_names text words names = names_after text words names (start_tree (from_start_of_str text))

-- What a refusal leaves unread is the whole text.
unfoldable pub start_rest : List ℕ → FromStart → List ℕ
start_rest text (tree_then l cs t) = t
start_rest text (refusal e place) = text

-- The rest that `from_start_of_str` hands back.
unfoldable pub from_start_rest : List ℕ → List ℕ → List ℕ → List ℕ
from_start_rest text words names = unless_away (turned_away text words names) text (start_rest text (from_start_of_str text))

-- `part` is the end of the caller's own `text` and no copy: the same memory, further on by as many bytes as `part` is shorter.
pub record EndOf (text part : Bor (List ℕ)) : Type 0 where
  pub same_block : part.ref_ptr.0 ≡ text.ref_ptr.0
  pub further-on : part.ref_ptr.1 ≡ text.ref_ptr.1 + (length text.now - length part.now)
  pub same_bytes : part.now ≡ drop (length text.now - length part.now) text.now

-- ---- An answer as four words.

-- The kind word of a container.
abbrev pub kind_word : ContainerKind → ℕ
kind_word k = R.container_word (Some k)

-- 0 for a tree, else the refusal's number; its place; its byte; the kind word of its container; 0 for what it does not carry.
abbrev pub answer_words : Result (Unit {0}) Refusal → List ℕ
answer_words (Ok tt) = 0 ∷ 0 ∷ 0 ∷ 0 ∷ []
answer_words (Err r) = R.number r ∷ R.values r
