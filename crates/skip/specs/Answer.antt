-- What passing answers: of the fields of a container, the place after its closer, or that they cannot be read (parse.rs, `expect_encoding`, a container
-- without fields); of a type with its qualifiers, the place after it, or why it cannot be read and where (`parse_encoding_or_none`).
use Rattle.std.specs.Prelude.{ℕ, List}
use Rattle.kinds.specs.Expect.{Expected, remaining, mismatch}
use Rattle.kinds.specs.Parse.{Encoded, encoded, not_encoded}
use Rattle.parser.specs.Place.{place_of}
use Rattle.std.specs.Prelude.{Option, Some, None}
use Rattle.std.specs.Prelude.{Result, Ok, Err}
use Rattle.kinds.specs.Refusal.{parse_error}
use Rattle.kinds.specs.declared.ParseError.{ParseError}

unfoldable pub skipped_at : List ℕ → Expected → Option ℕ
skipped_at text (remaining t) = Some (place_of text t)
skipped_at text mismatch = None

unfoldable pub encoding_at : List ℕ → Encoded → Result ℕ ParseError
encoding_at text (encoded l cs t) = Ok (place_of text t)
encoding_at text (not_encoded e t) = Err (parse_error e (place_of text t))
