-- `lines::put_sheet` meets its contract. Assumes nothing.
use Prim.Native.Nat.{ℕ}
use mathlib.Core.Path.{ap, ◌∙◌}
use lib.ListN.{take}
use Rattle.lines.proofs.FieldLaws.{front_bytes}
use Rattle.lines.proofs.PutLaws.{put_same, put-append, words-joined, sheet-is}
use Rattle.lines.proofs.put_sheet.Goals as goal

pub returns : goal.returns
returns c =
    put_same (sheet-is c.args.words.now c.args.names.now _ _
    (c.front_words.ensures ∙ ap (λ (n : ℕ). take n c.args.words.now) c.word_at-used.ensures)
    (front_bytes _ _ c.front.ensures ∙ ap (λ (n : ℕ). take n c.args.names.now) c.word_at-bytes.ensures))
    (put-append _ _ c.put_bytes-first.ensures (put-append _ _ (put_same (words-joined _) c.put_joined-second.ensures) (put-append _ _ c.put_byte-third.ensures c.put_hex.ensures)))
