-- What a node's kind word says of it by itself: which container it is, and the level of its children (01, "Levels").
use Rattle.std.specs.Prelude.{ℕ, Bool, cond, ◌||◌, eqb}
use Rattle.kinds.specs.Level.{indirection, container_include_fields}
use Rattle.kinds.specs.Sheet.{is_container_kind}
use Rattle.kinds.specs.declared.ContainerKind.{ContainerKind}
use Rattle.kinds.specs.declared.ContainerKind.TheVariants.{Struct, Union}
use Rattle.std.specs.Prelude.{Option, Some}
use Rattle.kinds.specs.declared.IndirectionKind.TheVariants.{Atomic, Pointer}
use Rattle.kinds.specs.declared.NestingLevel.{NestingLevel}
use Rattle.kinds.specs.declared.NestingLevel.TheVariants.{Within}

-- A container kind as the code's enum.
abbrev pub container_of : ℕ → ContainerKind
container_of k = cond (eqb k 29) Struct Union

-- Pointer and atomic.
abbrev pub is_indirection : ℕ → Bool
is_indirection k = eqb k 26 || eqb k 27

-- The level of the children of a node of kind `k`.
unfoldable pub inside_kind : ℕ → NestingLevel → NestingLevel
inside_kind k v = cond (is_container_kind k) Within (cond (eqb k 26) (indirection Pointer v) (cond (eqb k 27) (indirection Atomic v) v))

-- The same, or that they are not shown.
unfoldable pub children_level : ℕ → NestingLevel → Option NestingLevel
children_level k v = cond (is_container_kind k) (container_include_fields v) (Some (inside_kind k v))
