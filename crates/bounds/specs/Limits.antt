-- The bounds that the header gives a caller (include/berzhotun.h), each under the name of its macro.
use Rattle.std.specs.Prelude.{ℕ, ◌+◌, ◌*◌}

-- BERZHOTUN_MAX_TEXT: the most bytes of a text.
abbrev pub max_text : ℕ
max_text = 2000

-- BERZHOTUN_MAX_NODES, BERZHOTUN_MAX_WORDS and BERZHOTUN_MAX_NAMES: the most nodes, words and name bytes of a sheet.
abbrev pub max_nodes : ℕ
max_nodes = 2001

abbrev pub max_words : ℕ
max_words = 8008

abbrev pub max_names : ℕ
max_names = 2000

-- BERZHOTUN_MAX_PRINT: the most bytes that any sheet prints.
abbrev pub max_print : ℕ
max_print = 50003

-- BERZHOTUN_WORDS_FOR and BERZHOTUN_NAMES_FOR: the words and the name bytes that reading a text of `l` bytes needs.
abbrev pub words_for : ℕ → ℕ
words_for l = 4 + 4 * (l + 1)

abbrev pub names_for : ℕ → ℕ
names_for l = l
