use Rattle.parse.specs.Answer.{from_str_strict_answer, from_str_strict_words, from_str_strict_names}
use Rattle.parse.proofs.from_str_strict.Goals as goal

pub returns : goal.returns
unfolding from_str_strict_answer from_str_strict_words from_str_strict_names
returns c = let p = c.read_whole.ensures in record { answers = p.answers; fills = p.fills; names = p.names }
