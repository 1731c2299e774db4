-- What is told of a tree, refusal by refusal.
use Prim.Native.Nat.{ℕ, zero, suc, ◌≤◌}
use native.Mathlib.Omega.{arith}
use mathlib.Core.Bool.{Bool, true, false, cond, ◌&&◌, false≢true}
use mathlib.Core.List.{List, [], ◌∷◌}
use mathlib.Core.Logic.{◌↔◌}
use Rattle.std.specs.Prelude.{Option, Some, None}
use mathlib.Core.Path.{◌≡◌, refl, sym, ◌∙◌, ap}
use borrow.Author.Tests.{le-leb, leb-true}
use lib.Dec.{leb}
use lib.ListN.{get_or}
use Rattle.kinds.specs.Primitive.{widths}
use Rattle.kinds.specs.Tree.{Trees}
use Rattle.kinds.specs.declared.NestingLevel.TheVariants.{Top}
use Rattle.kinds.specs.declared.Refusal.{Refusal}
use Rattle.kinds.specs.declared.Refusal.TheVariants as R
use Rattle.kinds.proofs.TableLaws.{both}
use Rattle.helper.specs.Answer.{max_size}
use Rattle.layout.specs.Answer.{offsets_in, all_within, fitted, unless_bit_field, layout_of}
use Rattle.layout.specs.Layout.{Part, laid_out, first_bit_field, any_sizeless, extent}
use Rattle.std.specs.Prelude.{Result, Ok, Err}
use Rattle.layout.proofs.EndLaws.{all-below}
use Rattle.layout_agreement.specs.Laid.{Fits}

-- ---- Numbers within a limit.

pub within_all : (m : ℕ) (ns : List ℕ) → all_within m ns ≡ true → (i : ℕ) → get_or ns i 0 ≤ m
unfolding all_within
within_all m [] h i = omega arith
within_all m (n ∷ ns) h zero = leb-true n m (both (leb n m) (all_within m ns) h).0
within_all m (n ∷ ns) h (suc i) = within_all m ns (both (leb n m) (all_within m ns) h).1 i

-- ---- What is told of a tree: by its first bitfield, whether a node has no size, and whether all fits.

abbrev tells : Option ℕ → Bool → Bool → ℕ → ℕ → Result (Option (ℕ × ℕ)) Refusal
tells o b f n a = unless_bit_field o (cond b (Ok None) (cond f (Ok (Some (n, a))) (Err R.SizeTooLarge)))

tells-bits : (o : Option ℕ) (b f : Bool) (n a i : ℕ) → tells o b f n a ≡ Err (R.BitFieldInLayout i) → o ≡ Some i
tells-bits (Some j) b f n a i e = cc
tells-bits None true f n a i e = let z : ◌≡◌ {A = ℕ} 0 1 = cc in absurd (omega arith)
tells-bits None false true n a i e = let z : ◌≡◌ {A = ℕ} 0 1 = cc in absurd (omega arith)
tells-bits None false false n a i e = let z : ◌≡◌ {A = ℕ} 0 1 = cc in absurd (omega arith)

-- It is neither that there is no row nor that the list is too short.
tells-other : (r : Refusal) → ((i : ℕ) → R.BitFieldInLayout i ≡ r → ⊥) → (R.SizeTooLarge ≡ r → ⊥) → (o : Option ℕ) (b f : Bool) (n a : ℕ) → tells o b f n a ≡ Err r → ⊥
tells-other r p q (Some i) b f n a e = p i (cc)
tells-other r p q None true f n a e = let z : ◌≡◌ {A = ℕ} 0 1 = cc in omega arith
tells-other r p q None false true n a e = let z : ◌≡◌ {A = ℕ} 0 1 = cc in omega arith
tells-other r p q None false false n a e = q (cc)

tells-nothing : (b f : Bool) (n a : ℕ) → tells None b f n a ≡ Ok None → b ≡ true
tells-nothing true f n a e = refl
tells-nothing false true n a e = let z : ◌≡◌ {A = ℕ} 0 1 = cc in absurd (omega arith)
tells-nothing false false n a e = let z : ◌≡◌ {A = ℕ} 0 1 = cc in absurd (omega arith)

tells-bytes : (f : Bool) (n a m c : ℕ) → tells None false f n a ≡ Ok (Some (m, c)) → (f ≡ true) × (n ≡ m) × (a ≡ c)
tells-bytes true n a m c e = let d : ◌≡◌ {A = ℕ × ℕ} (n, a) (m, c) = cc in (refl, ap (λ (x : ℕ × ℕ). x.0) d, ap (λ (x : ℕ × ℕ). x.1) d)
tells-bytes false n a m c e = let z : ◌≡◌ {A = ℕ} 0 1 = cc in absurd (omega arith)

-- Bytes are told where nothing else is.
tells_all : (o : Option ℕ) (b f : Bool) (n a m c : ℕ) → tells o b f n a ≡ Ok (Some (m, c)) → (o ≡ None) × (b ≡ false) × (f ≡ true) × (n ≡ m) × (a ≡ c)
tells_all (Some i) b f n a m c e = let z : ◌≡◌ {A = ℕ} 0 1 = cc in absurd (omega arith)
tells_all None true f n a m c e = let z : ◌≡◌ {A = ℕ} 0 1 = cc in absurd (omega arith)
tells_all None false f n a m c e = let p = tells-bytes f n a m c e in (refl, refl, p.0, p.1, p.2)

tells-large : (f : Bool) (n a : ℕ) → tells None false f n a ≡ Err R.SizeTooLarge → f ≡ false
tells-large true n a e = let z : ◌≡◌ {A = ℕ} 0 1 = cc in absurd (omega arith)
tells-large false n a e = refl

module _ (row : ℕ) (t : Trees) where
  abbrev parts : List Part
  parts = laid_out Top 0 t

  abbrev fits : Bool
  fits = leb (extent (widths row) t).bytes (max_size row) && all_within (max_size row) (offsets_in row t)

  pub layout-tells : layout_of row t ≡ tells (first_bit_field parts) (any_sizeless (widths row) parts) fits (extent (widths row) t).bytes (extent (widths row) t).alignment
  unfolding layout_of fitted
  layout-tells = refl

  layout-not : (r : Refusal) → ((i : ℕ) → R.BitFieldInLayout i ≡ r → ⊥) → (R.SizeTooLarge ≡ r → ⊥) → layout_of row t ≡ Err r → ⊥
  layout-not r p q e = tells-other r p q (first_bit_field parts) (any_sizeless (widths row) parts) fits (extent (widths row) t).bytes (extent (widths row) t).alignment (sym layout-tells ∙ e)

  pub layout-not-short : layout_of row t ≡ Err R.ListTooShort → ⊥
  layout-not-short = layout-not R.ListTooShort (λ i e. let z : ◌≡◌ {A = ℕ} 0 1 = cc in omega arith) (λ e. let z : ◌≡◌ {A = ℕ} 0 1 = cc in omega arith)

  pub layout-not-row : layout_of row t ≡ Err R.NoSuchRow → ⊥
  layout-not-row = layout-not R.NoSuchRow (λ i e. let z : ◌≡◌ {A = ℕ} 0 1 = cc in omega arith) (λ e. let z : ◌≡◌ {A = ℕ} 0 1 = cc in omega arith)

  fits-says : fits ≡ true → Fits row t
  fits-says e =
      let p = both (leb (extent (widths row) t).bytes (max_size row)) (all_within (max_size row) (offsets_in row t)) e in
      (leb-true (extent (widths row) t).bytes (max_size row) p.0, within_all (max_size row) (offsets_in row t) p.1)

  says-fits : Fits row t → fits ≡ true
  says-fits f = rw (le-leb (extent (widths row) t).bytes (max_size row) f.0, all-below (max_size row) (offsets_in row t) f.1)

  pub layout-bits : (i : ℕ) → (layout_of row t ≡ Err (R.BitFieldInLayout i)) ↔ (first_bit_field parts ≡ Some i)
  layout-bits i = (
    λ e. tells-bits (first_bit_field parts) (any_sizeless (widths row) parts) fits (extent (widths row) t).bytes (extent (widths row) t).alignment i (sym layout-tells ∙ e),
    λ e. layout-tells ∙ rw e,
  )

  module _ (o : first_bit_field parts ≡ None) where
    pub layout-nothing : (layout_of row t ≡ Ok None) ↔ (any_sizeless (widths row) parts ≡ true)
    layout-nothing = (
      λ e. tells-nothing (any_sizeless (widths row) parts) fits (extent (widths row) t).bytes (extent (widths row) t).alignment (rw o at (sym layout-tells ∙ e)),
      λ e. layout-tells ∙ rw (o, e),
    )

    module _ (b : any_sizeless (widths row) parts ≡ false) where
      fit-tells : layout_of row t ≡ tells None false fits (extent (widths row) t).bytes (extent (widths row) t).alignment
      fit-tells = layout-tells ∙ rw (o, b)

      pub layout-bytes : (n a : ℕ) → (layout_of row t ≡ Ok (Some (n, a))) ↔ (((extent (widths row) t).bytes ≡ n) × ((extent (widths row) t).alignment ≡ a) × Fits row t)
      layout-bytes n a = (
        λ e. let p = tells-bytes fits (extent (widths row) t).bytes (extent (widths row) t).alignment n a (sym fit-tells ∙ e) in (p.1, p.2, fits-says p.0),
        λ e. fit-tells ∙ rw (says-fits e.2, e.0, e.1),
      )

      pub layout-large : (layout_of row t ≡ Err R.SizeTooLarge) ↔ (Fits row t → ⊥)
      layout-large = (
        λ e f. false≢true (sym (tells-large fits (extent (widths row) t).bytes (extent (widths row) t).alignment (sym fit-tells ∙ e)) ∙ says-fits f),
        λ h. fit-tells ∙ go fits refl h,
      )
        where
          go : (f : Bool) → fits ≡ f → (Fits row t → ⊥) → tells None false f (extent (widths row) t).bytes (extent (widths row) t).alignment ≡ Err R.SizeTooLarge
          go true e h = absurd (h (fits-says e))
          go false e h = refl

  -- What is so of a tree that is laid out.
  pub record Laid (n a : ℕ) : Type 0 where
    pub no_bits : first_bit_field parts ≡ None
    pub all-sized : any_sizeless (widths row) parts ≡ false
    pub bytes : (extent (widths row) t).bytes ≡ n
    pub alignment : (extent (widths row) t).alignment ≡ a
    pub fit : Fits row t

  pub layout-laid : {n a : ℕ} → layout_of row t ≡ Ok (Some (n, a)) → Laid n a
  layout-laid {n} {a} e =
      let p = tells_all (first_bit_field parts) (any_sizeless (widths row) parts) fits (extent (widths row) t).bytes (extent (widths row) t).alignment n a (sym layout-tells ∙ e) in
      record { no_bits = p.0; all-sized = p.1; bytes = p.3; alignment = p.4; fit = fits-says p.2 }
