-- Valid trees without bad names, as one test on each node.
use mathlib.Core.Path.{◌≡◌, refl}
use mathlib.Core.Bool.{Bool, true, ◌&&◌}
use mathlib.Core.List.{[]}
use lib.Dec.{leb, ltb}
use Rattle.kinds.specs.Name.{verify_name}
use Rattle.kinds.specs.Parse.{max_u64, max_u8}
use Rattle.kinds.specs.Sound.{valid_label, valid_count, valid, good_name, good_names}
use Rattle.agreement.specs.Sound.{clear, sound}
use Rattle.kinds.specs.Tree.{Label, Trees, end, node, primitive, bit_field, typed_bit_field, pointer, atomic, array, struct, union, none, is_one}
use Rattle.kinds.specs.declared.NestingLevel.TheVariants.{Top}
use Rattle.kinds.proofs.TableLaws.{both}

-- The label's numbers are in range and its name is good.
unfoldable pub fit_label : Label → Bool
fit_label (primitive p) = ltb p 24
fit_label (bit_field n) = leb n max_u8
fit_label (typed_bit_field o n) = leb o max_u64 && leb n max_u8
fit_label pointer = true
fit_label atomic = true
fit_label (array n) = leb n max_u64
fit_label (struct s) = verify_name s
fit_label (union s) = verify_name s
fit_label none = true

unfoldable pub fit : Trees → Bool
fit end = true
fit (node l cs ts) = (fit_label l && valid_count l cs) && (fit cs && fit ts)

pub fit_parts : (l : Label) (cs ts : Trees) → fit (node l cs ts) ≡ true → (fit_label l ≡ true) × (valid_count l cs ≡ true) × (fit cs ≡ true) × (fit ts ≡ true)
unfolding fit
fit_parts l cs ts h =
    let a = both (fit_label l && valid_count l cs) (fit cs && fit ts) h in
    let b = both (fit_label l) (valid_count l cs) a.0 in
    let c = both (fit cs) (fit ts) a.1 in
    (b.0, b.1, c.0, c.1)

fit-label : (l : Label) → valid_label l ≡ true → good_name l ≡ true → fit_label l ≡ true
unfolding fit_label valid_label good_name
fit-label (primitive p) v g = v
fit-label (bit_field n) v g = v
fit-label (typed_bit_field o n) v g = v
fit-label pointer v g = v
fit-label atomic v g = v
fit-label (array n) v g = v
fit-label (struct s) v g = g
fit-label (union s) v g = g
fit-label none v g = v

fit-valid : (ts : Trees) → valid ts ≡ true → good_names ts ≡ true → fit ts ≡ true
unfolding fit valid good_names
fit-valid end v g = refl
fit-valid (node l cs ts) v g =
    let a = both (valid_label l && valid_count l cs) (valid cs && valid ts) v in
    let b = both (valid_label l) (valid_count l cs) a.0 in
    let c = both (valid cs) (valid ts) a.1 in
    let d = both (good_name l) (good_names cs && good_names ts) g in
    let e = both (good_names cs) (good_names ts) d.1 in
    rw (fit-label l b.0 d.0, b.1, fit-valid cs c.0 e.0, fit-valid ts c.1 e.1)

-- What a sound tree is: one tree, fit, and clear.
pub sound-parts : (t : Trees) → sound t ≡ true → (is_one t ≡ true) × (fit t ≡ true) × (clear Top t [] ≡ true)
unfolding sound
sound-parts t h =
    let a = both (is_one t) (valid t && (good_names t && clear Top t [])) h in
    let b = both (valid t) (good_names t && clear Top t []) a.1 in
    let c = both (good_names t) (clear Top t []) b.1 in
    (a.0, fit-valid t b.0 c.0, c.1)
