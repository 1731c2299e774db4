-- Each piece of a signature is a type.
use Prim.Native.Nat.{ℕ, ◌+◌}
use mathlib.Core.Path.{◌≡◌, refl, sym, ap, subst, ◌∙◌}
use mathlib.Core.List.{List, [], ◌∷◌, ◌++◌, append_assoc}
use native.Mathlib.Omega.{arith}
use lib.ListN.{length, length-append, drop}
use lib.Seq.{take_at, drop_at}
use Rattle.kinds.specs.Parse.{parse_encoding_or_none, from_start, from_start_of_str}
use Rattle.agreement.proofs.CutLaws.{cut-whole}
use Rattle.signature.specs.Signature.{Entry, entry, entries, signature}
use Rattle.signature_agreement.specs.Pieces.{piece, IsType, EachIsType}
use Rattle.signature_agreement.proofs.WalkLaws.{Read, Walk, walk-all}

module _ (p s : List ℕ) (at size number : ℕ) (h : length p ≡ at) (r : Read s size number) where
  piece-type : piece (p ++ s) (entry at size number) ≡ r.tile.type
  unfolding piece
  piece-type = rw (drop_at p s at h, r.tile.parts) (take_at r.tile.type (r.tile.digits ++ r.tile.rest) size r.tile.type-size)

  after-piece : drop (at + size) (p ++ s) ≡ r.tile.digits ++ r.tile.rest
  after-piece =
      let t = r.tile in
      let q : p ++ s ≡ (p ++ t.type) ++ (t.digits ++ t.rest) = ap (λ x. p ++ x) t.parts ∙ sym (append_assoc p t.type (t.digits ++ t.rest)) in
      ap (drop (at + size)) q ∙ drop_at (p ++ t.type) (t.digits ++ t.rest) (at + size) (omega (arith, length-append p t.type, t.type-size))

  is-type : IsType (p ++ s) at size number
  unfolding from_start_of_str from_start
  is-type = record {
    label = r.label;
    children = r.children;
    whole = rw piece-type (cut-whole r.tile.type (r.tile.digits ++ r.tile.rest) r.label r.children (ap parse_encoding_or_none (sym r.tile.parts) ∙ r.reads));
    from_start = rw (drop_at p s at h, after-piece, r.reads);
  }

types_of : (es : List Entry) (p s : List ℕ) (at : ℕ) → length p ≡ at → Walk s at es → EachIsType (p ++ s) es
types_of [] p s at h w = tt
types_of (entry start size number ∷ es) p s at h w =
    let t = w.1.tile in
    let q : (p ++ (t.type ++ t.digits)) ++ t.rest ≡ p ++ s = simp append_assoc (ap (λ x. p ++ x) (sym t.parts)) in (
      subst (λ x. IsType (p ++ s) x size number) (sym w.0) (is-type p s at size number h w.1),
      subst (λ x. EachIsType x es) q
          (types_of es (p ++ (t.type ++ t.digits)) t.rest (at + size + length t.digits)
          (omega (arith, length-append p (t.type ++ t.digits), length-append t.type t.digits, t.type-size)) w.2),
    )

pub types : (s : List ℕ) (es : List Entry) → signature s ≡ entries es → EachIsType s es
types s es h = types_of es [] s 0 refl (walk-all s es h)
