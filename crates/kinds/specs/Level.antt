-- Levels (01, "Levels"; helper.rs, `NestingLevel`).
use Rattle.std.specs.Prelude.{Bool, true, false}
use Rattle.std.specs.Prelude.{Option, Some, None}
use Rattle.kinds.specs.declared.IndirectionKind.{IndirectionKind}
use Rattle.kinds.specs.declared.IndirectionKind.TheVariants.{Atomic, Pointer}
use Rattle.kinds.specs.declared.NestingLevel.{NestingLevel}
use Rattle.kinds.specs.declared.NestingLevel.TheVariants.{Top, Within, Bottom}

-- The level of what a pointer or an atomic holds.
abbrev pub indirection : IndirectionKind → NestingLevel → NestingLevel
indirection Atomic v = Bottom
indirection Pointer Top = Within
indirection Pointer Within = Bottom
indirection Pointer Bottom = Bottom

-- Whether a container includes its fields at a level, and then their level.
abbrev pub container_include_fields : NestingLevel → Option NestingLevel
container_include_fields Top = Some Within
container_include_fields Within = Some Within
container_include_fields Bottom = None

abbrev pub shows_fields : NestingLevel → Bool
shows_fields Top = true
shows_fields Within = true
shows_fields Bottom = false
