-- Of a node's parts, its own, those of what it holds and those of the trees after it: none of them without a size, none a bitfield.
use Prim.Native.Nat.{ℕ, ◌+◌}
use native.Mathlib.Omega.{arith}
use mathlib.Core.Bool.{Bool, true, false, cond, not, ◌&&◌, ◌||◌, true≢false}
use mathlib.Core.List.{List, [], ◌∷◌, ◌++◌}
use Rattle.std.specs.Prelude.{Option, Some, None}
use mathlib.Core.Path.{◌≡◌, refl, sym, subst, ◌∙◌}
use Rattle.kinds.specs.Primitive.{Widths}
use Rattle.kinds.specs.Tree.{Label, Trees, node, is_end, count, inside, shows}
use Rattle.kinds.specs.declared.NestingLevel.{NestingLevel}
use Rattle.layout.specs.Layout.{Part, is_pointer, laid_out, is_bit_field, first_bit_field, sizeless, any_sizeless}

pub neither : (a b : Bool) → (a || b) ≡ false → (a ≡ false) × (b ≡ false)
neither true b h = absurd (true≢false h)
neither false b h = (refl, h)

infixr 20 ◌or_else◌
-- The first of two, if there is one, else the second.
abbrev pub ◌or_else◌ : Option ℕ → Option ℕ → Option ℕ
None or_else b = b
Some i or_else b = Some i

pub first-append : (ps qs : List Part) → first_bit_field (ps ++ qs) ≡ (first_bit_field ps or_else first_bit_field qs)
unfolding first_bit_field
first-append [] qs = refl
first-append (p ∷ ps) qs = go (is_bit_field p.label) (first-append ps qs)
  where
    go : (b : Bool) → first_bit_field (ps ++ qs) ≡ (first_bit_field ps or_else first_bit_field qs)
        → cond b (Some p.number) (first_bit_field (ps ++ qs)) ≡ (cond b (Some p.number) (first_bit_field ps) or_else first_bit_field qs)
    go true e = refl
    go false e = e

pub neither-first : (a b : Option ℕ) → (a or_else b) ≡ None → (a ≡ None) × (b ≡ None)
neither-first None b h = (refl, h)
neither-first (Some i) b h = let z : ◌≡◌ {A = ℕ} 0 1 = cc in absurd (omega arith)

pub any_append : (w : Widths) (ps qs : List Part) → any_sizeless w (ps ++ qs) ≡ (any_sizeless w ps || any_sizeless w qs)
unfolding any_sizeless
any_append w [] qs = refl
any_append w (p ∷ ps) qs = go (sizeless w p.label p.showing p.empty) (any_append w ps qs)
  where
    go : (b : Bool) → any_sizeless w (ps ++ qs) ≡ (any_sizeless w ps || any_sizeless w qs) → (b || any_sizeless w (ps ++ qs)) ≡ ((b || any_sizeless w ps) || any_sizeless w qs)
    go true e = refl
    go false e = e

-- ---- A node's.

module _ (v : NestingLevel) (i : ℕ) (l : Label) (cs ts : Trees) where
  -- The parts of what it holds, of which there are none if it hides its fields or is a pointer.
  abbrev pub held : List Part
  held = cond (shows l v && not (is_pointer l)) (laid_out (inside l v) (i + 1) cs) []

  pub record Sized (w : Widths) : Type 0 where
    pub own : sizeless w l (shows l v) (is_end cs) ≡ false
    pub inner : (shows l v && not (is_pointer l)) ≡ true → any_sizeless w (laid_out (inside l v) (i + 1) cs) ≡ false
    pub after : any_sizeless w (laid_out v (i + 1 + count cs) ts) ≡ false

  pub sized-parts : (w : Widths) → any_sizeless w (laid_out v i (node l cs ts)) ≡ false → Sized w
  unfolding laid_out any_sizeless
  sized-parts w h =
      let a = neither (sizeless w l (shows l v) (is_end cs)) (any_sizeless w (held ++ laid_out v (i + 1 + count cs) ts)) h in
      let b = neither (any_sizeless w held) (any_sizeless w (laid_out v (i + 1 + count cs) ts)) (sym (any_append w held (laid_out v (i + 1 + count cs) ts)) ∙ a.1) in
      record { own = a.0; inner = λ q. subst (λ x. any_sizeless w (cond x (laid_out (inside l v) (i + 1) cs) []) ≡ false) q b.0; after = b.1 }

  pub record BitFree : Type 0 where
    pub own : is_bit_field l ≡ false
    pub inner : (shows l v && not (is_pointer l)) ≡ true → first_bit_field (laid_out (inside l v) (i + 1) cs) ≡ None
    pub after : first_bit_field (laid_out v (i + 1 + count cs) ts) ≡ None

  pub plain-parts : first_bit_field (laid_out v i (node l cs ts)) ≡ None → BitFree
  unfolding laid_out first_bit_field
  plain-parts h = go (is_bit_field l) refl h
    where
      go : (b : Bool) → is_bit_field l ≡ b → cond b (Some i) (first_bit_field (held ++ laid_out v (i + 1 + count cs) ts)) ≡ None → BitFree
      go true e h = let z : ◌≡◌ {A = ℕ} 0 1 = cc in absurd (omega arith)
      go false e h =
          let b = neither-first (first_bit_field held) (first_bit_field (laid_out v (i + 1 + count cs) ts)) (sym (first-append held (laid_out v (i + 1 + count cs) ts)) ∙ h) in
          record { own = e; inner = λ q. subst (λ x. first_bit_field (cond x (laid_out (inside l v) (i + 1) cs) []) ≡ None) q b.0; after = b.1 }
