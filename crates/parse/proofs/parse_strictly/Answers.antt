use mathlib.Core.Bool.{true}
use native.Mathlib.Omega.{arith}
use Rattle.codes.proofs.TokenLaws.{token-is}
use Rattle.parse.proofs.Judge.{token-place, clean-token, surplus-token}
use Rattle.parse.proofs.Sheets.{token-room, simple-token, simple-surplus}
use Rattle.parse.proofs.parse_strictly.Goals as goal

pub token_surplus-place-requires : goal.token_surplus-place-requires
token_surplus-place-requires c =
    let a = c.args in
    (token-place a.text.now a.at c.requires.at_place c.token_here-t.result c.requires.plain c.token_here-t.ensures).1

pub returns-then-place-gt0 : goal.returns-then-place-gt0
returns-then-place-gt0 c =
    let a = c.args in
    let h = c.requires.at_place in
    let t = c.token_here-t.result in
    let x = token-place a.text.now a.at h t c.requires.plain c.token_here-t.ensures in
    let some = rw c.token_surplus-place.ensures at c.if-place-gt0.true in
    rw c.token_surplus-place.ensures (simple-surplus a.text.now a.at a.n a.m a.words.now h true _ x.0.within
    (surplus-token a.text.now a.at h t x some))

pub put_token-requires : goal.put_token-requires
put_token-requires c =
    let a = c.args in
    let h = c.requires.at_place in
    token-room a.text.now a.at a.n 0 a.words.now h _ (token-is _ _ h _ c.requires.plain c.token_here-t.ensures) c.requires.words-room

pub returns : goal.returns
returns c =
    let w = c.put_token.ensures in
    let a = c.args in
    let h = c.requires.at_place in
    let t = c.token_here-t.result in
    let x = token-place a.text.now a.at h t c.requires.plain c.token_here-t.ensures in
    let clean = clean-token a.text.now a.at h t x (omega (arith, c.token_surplus-place.ensures, c.if-place-gt0.false)) in
    rw (w.0, w.1) (simple-token a.text.now a.at a.n a.m a.words.now h true clean t
    (token-is _ _ h _ c.requires.plain c.token_here-t.ensures))
