-- `static_str::open_container` meets its contract. Assumes nothing.
use Rattle.static_str.proofs.OutputLaws.{wrote-same, three-second, three_third, three-written}
use mathlib.Core.List.{[], ◌∷◌}
use Prim.Native.Nat.{ℕ}
use mathlib.Core.Path.{ap}
use Rattle.kinds.specs.Container.{start_byte}
use Rattle.kinds.specs.Print.{fields}
use Rattle.static_str.proofs.open_container.Goals as goal

pub put_bytes-after_name-requires : goal.put_bytes-after_name-requires
put_bytes-after_name-requires c =
    let a = c.args in three-second (start_byte a.kind ∷ []) a.name.now (fields a.level []) c.requires
    (wrote-same (ap (λ (x : ℕ). x ∷ []) c.start_byte.ensures) c.put-after_start.ensures)

pub put_equals-requires : goal.put_equals-requires
put_equals-requires c =
    let a = c.args in three_third (start_byte a.kind ∷ []) a.name.now (fields a.level []) c.requires
    (wrote-same (ap (λ (x : ℕ). x ∷ []) c.start_byte.ensures) c.put-after_start.ensures) c.put_bytes-after_name.ensures

pub returns : goal.returns
returns c =
    let a = c.args in three-written (start_byte a.kind ∷ []) a.name.now (fields a.level []) c.requires
    (wrote-same (ap (λ (x : ℕ). x ∷ []) c.start_byte.ensures) c.put-after_start.ensures) c.put_bytes-after_name.ensures c.put_equals.ensures
