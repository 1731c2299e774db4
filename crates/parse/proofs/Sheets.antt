-- What reading a byte without parts gives, against the definitions.
use Rattle.parse.specs.declared.Parsed.TheVariants.{Encoding}
use Rattle.parse.specs.declared.Parsed.{Parsed}
use Prim.Native.Nat.{ℕ, suc, ◌+◌, ◌*◌, ◌-◌, ◌≤◌, ◌<◌}
use mathlib.Core.Path.{◌≡◌, refl, sym, ap, ◌∙◌, subst}
use mathlib.Core.List.{List, [], ◌∷◌}
use mathlib.Core.Bool.{Bool, true, false}
use native.Mathlib.Nat.{add-zero}
use native.Mathlib.Decide.{dec_lt}
use native.Mathlib.Omega.{arith}
use lib.ListN.{length, drop, get_or, length-drop}
use Rattle.kinds.specs.Parse as R
use Rattle.kinds.specs.Parse.{start, begin, encoding, refused, leaf}
use Rattle.kinds.specs.Sheet.{nodes, names_of, first, second}
use Rattle.kinds.specs.Tree.{Label, Trees, end, node, count, primitive, bit_field, typed_bit_field, kind, name}
use Rattle.codes.specs.declared.Token.{Token}
use Rattle.codes.specs.declared.Token.TheVariants as T
use Rattle.codes.proofs.StepLaws.{begins}
use Rattle.codes.proofs.TokenLaws.{TokenIs}
use Rattle.parse.specs.Agree.{lists, ParsedIs, Simple, FoundBound}
use Rattle.parse.specs.Out.{token_out, token_words, TokenRoom, node_put}
use Rattle.parse.specs.Room.{slack, closes}
use Rattle.kinds.specs.declared.ContainerKind.{ContainerKind}
use Rattle.kinds.specs.declared.ErrorKind.TheVariants.{UnexpectedEnd, SurplusZero}
use Rattle.std.specs.Prelude.{Ok, Err}
use Rattle.kinds.specs.Refusal.{parse_error}
use Rattle.kinds.proofs.ListLaws.{unread, unread-end}
use Rattle.parse.specs.Strictly.{judged}
use Rattle.parse.proofs.Judge.{Clean, clean-single}
use Rattle.kinds.proofs.StoreLaws.{sets-front-append}

-- ---- Room.

pub slack-open : (text : List ℕ) (at : ℕ) → at < length text → closes (start (get_or text at 0)) ≡ false → slack (drop at text) ≡ length text - at + 1
unfolding slack
slack-open text at h e =
    let n : length (drop (at + 1) text) ≡ length text - (at + 1) = length-drop (at + 1) text in
    let d : slack (drop at text) ≡ suc (suc (length (drop (at + 1) text))) = ap slack (unread text at h) ∙ rw (e, slack) refl in
    d ∙ omega arith

pub slack-closed : (text : List ℕ) (at : ℕ) → at < length text → closes (start (get_or text at 0)) ≡ true → slack (drop at text) ≡ length text - at
unfolding slack
slack-closed text at h e =
    let n : length (drop (at + 1) text) ≡ length text - (at + 1) = length-drop (at + 1) text in
    let d : slack (drop at text) ≡ suc (length (drop (at + 1) text)) = ap slack (unread text at h) ∙ rw (e, slack) refl in
    d ∙ omega arith

pub slack-end : (text : List ℕ) (at : ℕ) → length text ≤ at → slack (drop at text) ≡ 0
unfolding slack
slack-end text at h = ap slack (unread-end text at h)

pub slack-le : (text : List ℕ) (at : ℕ) → slack (drop at text) ≤ length text - at + 1
slack-le text at = elim (dec_lt at (length text)) [
  | yes h ↦ go h (closes (start (get_or text at 0))) refl
  | no n ↦ omega (arith, slack-end text at (omega arith))
]
  where
    go : at < length text → (d : Bool) → closes (start (get_or text at 0)) ≡ d → slack (drop at text) ≤ length text - at + 1
    go h true e = omega (arith, slack-closed text at h e)
    go h false e = omega (arith, slack-open text at h e)

-- ---- A byte without parts.

-- What gives a tree begins with no closer.
opens-tree : (b : ℕ) (S : R.Start) (s : List ℕ) {l : Label} {cs : Trees} {t : List ℕ} → begin b S s (λ t. R.empty) (λ k t. R.items_refused UnexpectedEnd t)
    ≡ encoding l cs t → closes S ≡ false
unfolding closes begin
opens-tree b (R.single p) s e = refl
opens-tree b R.complex s e = refl
opens-tree b R.object s e = refl
opens-tree b R.bits s e = refl
opens-tree b (R.indirection l) s e = refl
opens-tree b R.open_array s e = refl
opens-tree b R.close_array s e = let z : ◌≡◌ {A = ℕ} 0 1 = cc in absurd (omega arith)
opens-tree b (R.open_container k) s e = refl
opens-tree b (R.close_container k) s e = let z : ◌≡◌ {A = ℕ} 0 1 = cc in absurd (omega arith)
opens-tree b R.nothing s e = refl

module _ (text : List ℕ) (at n m : ℕ) (w : List ℕ) (h : at < length text) where
  open-slack : {l : Label} {cs : Trees} {t : List ℕ}
      → ((inner : List ℕ → R.Parsed) (fields : ContainerKind → List ℕ → R.Items) → begin (get_or text at 0) (start (get_or text at 0)) (drop (at + 1) text) inner
      fields ≡ encoding l cs t)
      → slack (drop at text) ≡ length text - at + 1
  open-slack e = slack-open text at h (opens-tree (get_or text at 0) (start (get_or text at 0)) (drop (at + 1) text)
      (e (λ t. R.empty) (λ k t. R.items_refused UnexpectedEnd t)))

  -- One node or two that were written, and no name.
  found-bound : (to k : ℕ) → at < to → to ≤ length text → n < k → k + at ≤ n + to → slack (drop at text) ≡ length text - at + 1 → FoundBound text at n m to k m
  found-bound to k l i o r e = record {
    onward = l;
    within = i;
    more = o;
    room = omega (arith, slack-le text to);
    names-on = omega arith;
    names-room =
        omega arith;
  }

  plain-token : (t : Token) → TokenIs text at t → Simple false text at n m w (token_words t n w) (token_out t n m)
  unfolding nodes count names_of kind first name second closes judged
  plain-token (T.Primitive p to) i = record {
    bound = λ ns. found-bound to (n + 1) i.bound.0 i.bound.1 (omega arith) (omega (arith, i.bound.0)) (open-slack i.says);
    says = λ ns inner fields. record {
      label = primitive p;
      children = end;
      is = i.says inner fields;
      count-is = refl;
      names-is = sym (add-zero m);
      words_are = refl;
      names-are = refl;
    };
  }
  plain-token (T.BitField size to d) i = record {
    bound = λ ns. found-bound to (n + 1) i.bound.0 i.bound.1 (omega arith) (omega (arith, i.bound.0)) (open-slack i.says);
    says = λ ns inner fields. record {
      label = bit_field size;
      children = end;
      is = i.says inner fields;
      count-is = refl;
      names-is = sym (add-zero m);
      words_are = refl;
      names-are = refl;
    };
  }
  plain-token (T.TypedBitField offset p size to d) i = record {
    bound = λ ns. found-bound to (n + 2) (omega (arith, i.bound.0)) i.bound.1 (omega arith) (omega (arith, i.bound.0)) (open-slack i.says);
    says = λ ns inner fields. record {
      label = typed_bit_field offset size;
      children = node (primitive p) end end;
      is = i.says inner fields;
      count-is = refl;
      names-is = sym (add-zero m);
      words_are = sets-front-append w (4 * n) (4 * (n + 1)) (25 ∷ offset ∷ size ∷ 2 ∷ []) (p ∷ 0 ∷ 0 ∷ 1 ∷ []) (omega arith);
      names-are = refl;
    };
  }
  plain-token (T.ArrayEnd to) i = record {
    bound = λ ns. record {
      next = i.bound.0;
      within = omega (arith, i.bound.0);
      closer = slack-closed text at h (ap closes i.bound.1);
      kept =
          record { words-kept = refl; names-kept = refl };
    };
    says = λ ns inner fields. i.says inner fields;
  }
  plain-token (T.ContainerEnd k to) i = record {
    bound = λ ns. record {
      next = i.bound.0;
      within = omega (arith, i.bound.0);
      closer = slack-closed text at h (ap closes i.bound.1);
      kept =
          record { words-kept = refl; names-kept = refl };
    };
    says = λ ns inner fields. i.says inner fields;
  }
  plain-token (T.Refused why to d) i = record {
    bound = λ ns. (i.bound, record { words-frame = λ e _. refl; names-frame = λ e _. refl });
    says = λ ns inner fields. i.says inner fields;
  }
  plain-token T.Parts i = absurd i.bound
  plain-token T.End i = absurd i.bound

  -- The same where no number of it is judged.
  pub simple-token : (strict : Bool) → Clean strict text at → (t : Token) → TokenIs text at t → Simple strict text at n m w (token_words t n w) (token_out t n m)
  unfolding judged
  simple-token strict clean t i =
      let p = plain-token t i in
      record {
        bound = p.bound;
        says = λ ns inner fields. subst (ParsedIs text n m (lists w ns) (lists (token_words t n w) ns) (token_out t n m)) (sym (clean _))
            (p.says ns inner fields);
      }

  -- A bitfield with a surplus zero, where reading is strict.
  pub simple-surplus : (strict : Bool) (p : ℕ) → p ≤ length text
      → ((q : R.Parsed) → judged strict (start (get_or text at 0)) (drop (at + 1) text) q ≡ refused SurplusZero (drop p text))
      → Simple strict text at n m w w (Err (parse_error SurplusZero p))
  simple-surplus strict p l e = record {
    bound = λ ns. (l, record { words-frame = λ e _. refl; names-frame = λ e _. refl });
    says = λ ns inner fields. e _;
  }

  -- Room for the nodes of a token.
  pub token-room : (t : Token) → TokenIs text at t → 4 * (n + slack (drop at text)) ≤ length w → TokenRoom t n (length w)
  token-room (T.Primitive p to) i r = omega (arith, open-slack i.says)
  token-room (T.BitField size to d) i r = omega (arith, open-slack i.says)
  token-room (T.TypedBitField offset p size to d) i r = omega (arith, open-slack i.says)
  token-room (T.ArrayEnd to) i r = tt
  token-room (T.ContainerEnd k to) i r = tt
  token-room (T.Refused why to d) i r = tt
  token-room T.Parts i r = tt
  token-room T.End i r = tt

  pub simple-code : (strict : Bool) (p : ℕ) → start (get_or text at 0) ≡ R.single p
      → Simple strict text at n m w (node_put w n p 0 0 1) (Ok (Encoding (at + 1) (n + 1) m))
  unfolding begin leaf
  simple-code strict p e = simple-token strict (clean-single strict text at e) (T.Primitive p (at + 1))
      (record { bound = omega arith; says = λ inner fields. begins text at e inner fields })

pub slack-some : (text : List ℕ) (at : ℕ) → at < length text → 1 ≤ slack (drop at text)
slack-some text at h = go (closes (start (get_or text at 0))) refl
  where
    go : (d : Bool) → closes (start (get_or text at 0)) ≡ d → 1 ≤ slack (drop at text)
    go true e = omega (arith, slack-closed text at h e)
    go false e = omega (arith, slack-open text at h e)
