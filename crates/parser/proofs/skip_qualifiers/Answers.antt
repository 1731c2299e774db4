use Rattle.std.proofs.Common.{ap, ◌∙◌}
use Rattle.parser.specs.declared.Parser.{Parser}
use Rattle.parser.specs.Answer.{remaining, strip_qualifiers}
use Rattle.parser.proofs.PlaceLaws.{stripped-remains}
use Rattle.parser.proofs.skip_qualifiers.Goals as goal

pub returns : goal.returns
returns c = c.remaining.ensures
    ∙ (ap remaining c.strip_leading_qualifiers.ensures
    ∙ (ap (λ (x : Parser). remaining (strip_qualifiers x)) c.new.ensures ∙ stripped-remains c.args.text))
