-- Where a name ends: at `=`, at the container's own closer, or with the text (what the private `name_end` promises).
use Rattle.std.specs.Prelude.{ℕ, ◌-◌, ◌≤◌, ◌<◌, ◌≡◌, Bool, not, ◌||◌, eqb, List, [], length, take, drop, get_or}
use Rattle.kinds.specs.Container.{end_byte}
use Rattle.kinds.specs.Parse.{parse_name}
use Rattle.kinds.specs.declared.ContainerKind.{ContainerKind}

-- A name goes on with this byte.
unfoldable pub goes_on : ContainerKind → ℕ → Bool
goes_on k b = not (eqb b 61 || eqb b (end_byte k))

pub record NameEnd (text : List ℕ) (at : ℕ) (kind : ContainerKind) (r : ℕ) : Type 0 where
  pub onward : at ≤ r
  pub within : r ≤ length text
  pub scanned : parse_name kind [] (drop at text) ≡ parse_name kind (take (r - at) (drop at text)) (drop r text)
  pub stopped : r < length text → (get_or text r 0 ≡ 61 → ⊥) → get_or text r 0 ≡ end_byte kind
