use Rattle.lines.proofs.PutLaws.{put_same, put-append}
use Rattle.reason.proofs.ReasonLaws.{yes-fitted, yes-placed, short-fitted, short-placed, bytes-fitted, bytes-placed, codes_reason, codes_same, codes-differ, codes-text, codes-length}
use Rattle.reason.proofs.write_codes.Goals as goal

pub returns-then-equivalent_kinds : goal.returns-then-equivalent_kinds
returns-then-equivalent_kinds c = record {
  answers = λ all. yes-fitted (codes_same all _ _ c.equivalent_kinds.ensures c.if-equivalent_kinds.true) _;
  writes = λ all. yes-placed
      (codes_same all _ _ c.equivalent_kinds.ensures c.if-equivalent_kinds.true) _;
}

pub returns-then-out-len : goal.returns-then-out-len
returns-then-out-len c = let a = c.args in
    let r = codes_reason a.k a.j in
    let l = codes-length _ _ c.number_len.ensures.0 c.number_len-2.ensures.0 in record {
      answers = λ all. short-fitted r (codes-differ all _ _ c.equivalent_kinds.ensures c.if-equivalent_kinds.false) l a.out.now c.if-out-len.true;
      writes = λ all. short-placed
          r (codes-differ all _ _ c.equivalent_kinds.ensures c.if-equivalent_kinds.false) l a.out.now c.if-out-len.true;
    }

pub returns : goal.returns
returns c = let a = c.args in
    let r = codes_reason a.k a.j in
    let l = codes-length _ _ c.number_len.ensures.0 c.number_len-2.ensures.0 in
    let p = put_same (codes-text _ _) (put-append _ _ c.put_bytes-word.ensures
    (put-append _ _ c.put_number_value-first.ensures c.put_number_value.ensures)) in record {
      answers = λ all. bytes-fitted r (codes-differ all _ _ c.equivalent_kinds.ensures c.if-equivalent_kinds.false) l a.out.now c.if-out-len.false;
      writes = λ all.
          bytes-placed r (codes-differ all _ _ c.equivalent_kinds.ensures c.if-equivalent_kinds.false) l a.out.now c.if-out-len.false p;
    }
