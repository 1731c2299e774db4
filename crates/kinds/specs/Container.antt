-- The bytes around what a container, a pointer or an atomic holds (helper.rs, `ContainerKind` and `IndirectionKind`).
use Rattle.std.specs.Prelude.{ℕ, Bool, true, false}
use Rattle.kinds.specs.Byte.{byte}
use Rattle.kinds.specs.declared.ContainerKind.{ContainerKind}
use Rattle.kinds.specs.declared.ContainerKind.TheVariants.{Struct, Union}
use Rattle.kinds.specs.declared.IndirectionKind.{IndirectionKind}
use Rattle.kinds.specs.declared.IndirectionKind.TheVariants.{Atomic, Pointer}

abbrev pub start_byte : ContainerKind → ℕ
start_byte Struct = byte "{"
start_byte Union = byte "("

abbrev pub end_byte : ContainerKind → ℕ
end_byte Struct = byte "}"
end_byte Union = byte ")"

abbrev pub prefix_byte : IndirectionKind → ℕ
prefix_byte Atomic = byte "A"
prefix_byte Pointer = byte "^"

abbrev pub same_container : ContainerKind → ContainerKind → Bool
same_container Struct Struct = true
same_container Struct Union = false
same_container Union Struct = false
same_container Union Union = true
