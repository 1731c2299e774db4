-- What the theorems over the call speak of: bitfields among the nodes that are laid out, and what fits a row.
use Rattle.std.specs.Prelude.{ℕ, ◌≤◌, true, ◌≡◌, get_or}
use mathlib.Core.List.{List, Memᴰ}
use Rattle.kinds.specs.Primitive.{widths}
use Rattle.kinds.specs.Tree.{Trees}
use Rattle.helper.specs.Answer.{max_size}
use Rattle.layout.specs.Answer.{offsets_in}
use Rattle.layout.specs.Layout.{Part, is_bit_field, extent}

-- One of the nodes is a bitfield and has this number.
abbrev pub BitFieldAt : List Part → ℕ → Type 0
BitFieldAt ps i = (p : Part) × Memᴰ p ps × (is_bit_field p.label ≡ true) × (p.number ≡ i)

-- The padded size of the tree and every offset are at most the largest size of the row.
abbrev pub Fits : ℕ → Trees → Type 0
Fits row t = ((extent (widths row) t).bytes ≤ max_size row) × ((i : ℕ) → get_or (offsets_in row t) i 0 ≤ max_size row)
