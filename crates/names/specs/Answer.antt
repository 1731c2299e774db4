-- What reading a container's name at a place answers: where the name ends and the place after it, or why there is none and where (parse.rs, `parse_container`).
use Rattle.std.specs.Prelude.{ℕ, ◌+◌, List, length}
use Rattle.kinds.specs.Parse.{Named, named, unnamed}
use Rattle.parser.specs.Place.{place_of}
use Rattle.std.specs.Prelude.{Result, Ok, Err}
use Rattle.kinds.specs.declared.ParseError.{ParseError}
use Rattle.kinds.specs.Refusal.{parse_error}

unfoldable pub name_at : List ℕ → ℕ → Named → Result (ℕ × ℕ) ParseError
name_at text at (named m t) = Ok (at + length m, place_of text t)
name_at text at (unnamed e t) = Err (parse_error e (place_of text t))
