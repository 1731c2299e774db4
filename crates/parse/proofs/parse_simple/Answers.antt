use mathlib.Core.Path.{refl}
use mathlib.Core.Bool.{false}
use Rattle.codes.proofs.TokenLaws.{token-is}
use Rattle.parse.specs.Strictly.{judged}
use Rattle.parse.proofs.Sheets.{token-room, simple-token}
use Rattle.parse.proofs.parse_simple.Goals as goal

pub returns-then-strict : goal.returns-then-strict
returns-then-strict c =
    rw c.if-strict.true c.parse_strictly.ensures

pub put_token-requires : goal.put_token-requires
put_token-requires c =
    let a = c.args in
    let h = c.requires.at_place in
    token-room a.text.now a.at a.n 0 a.words.now h _ (token-is _ _ h _ c.requires.plain c.token_here.ensures) c.requires.words-room

pub returns : goal.returns
unfolding judged
returns c =
    let w = c.put_token.ensures in
    let a = c.args in
    let h = c.requires.at_place in
    rw (w.0, w.1, c.if-strict.false) (simple-token a.text.now a.at a.n a.m a.words.now h false (λ q. refl) _
    (token-is _ _ h _ c.requires.plain c.token_here.ensures))
