-- Signatures and what becomes of them, as one table: the cases of 02's N1 and those at the edges of its rules.
use Rattle.std.specs.Prelude.{ℕ, ◌≡◌, List, [], ◌∷◌, ◌++◌}
use Rattle.std.specs.Prelude.{Some, None}
use Rattle.kinds.specs.Byte.{byte, bytes}
use Rattle.kinds.specs.declared.ContainerKind.{ContainerKind}
use Rattle.kinds.specs.declared.ContainerKind.TheVariants.{Struct, Union}
use Rattle.agreement.specs.MarkedCases.{Refused, refused_by}
use Rattle.agreement.specs.MarkedCases as M
use Rattle.signature.specs.Signature as S
use Rattle.signature.specs.Signature.{Entry, entry, Signature, entries, signature}

-- The entries, or a refusal by its number, with the place, the byte and the container kind that it carries.
pub data Outcome : Type 0 where
  gives : List Entry → Outcome
  refuses : Refused → Outcome

unfoldable pub outcome : Signature → Outcome
outcome (entries es) = gives es
outcome (S.refused r) = refuses (refused_by r)

abbrev pub refused : ℕ → ℕ → Outcome
refused n at = refuses (M.refused n (Some at) None None)

abbrev pub refused_at : ℕ → ℕ → ℕ → Outcome
refused_at n at b = refuses (M.refused n (Some at) (Some b) None)

abbrev pub refused_in : ℕ → ℕ → ContainerKind → Outcome
refused_in n at k = refuses (M.refused n (Some at) None (Some k))

abbrev pub Case : Type 0
Case = List ℕ × Outcome

abbrev pub AllHold : List Case → Type 0
AllHold [] = Unit {0}
AllHold (c ∷ cs) = (outcome (signature c.0) ≡ c.1) × AllHold cs

-- Signatures that are read.
unfoldable pub read : List Case
read =
    (bytes "v24@0:8@16", gives (entry 0 1 24 ∷ entry 3 1 0 ∷ entry 5 1 8 ∷ entry 7 1 16 ∷ []))
    -- a qualifier belongs to its type
    ∷ (bytes "Vv24@0:8rn*16", gives (entry 0 2 24 ∷ entry 4 1 0 ∷ entry 6 1 8 ∷ entry 8 3 16 ∷ []))
    ∷ (bytes "rn*16", gives (entry 0 3 16 ∷ []))
    ∷ (bytes "rnNoORVi8", gives (entry 0 8 8 ∷ []))
    -- longer types
    ∷ (bytes "{CGPoint=dd}24@0:8", gives (entry 0 12 24 ∷ entry 14 1 0 ∷ entry 16 1 8 ∷ []))
    ∷ (bytes "{R=i^v}16", gives (entry 0 7 16 ∷ []))
    ∷ (bytes "@\"Rate\"8", gives (entry 0 7 8 ∷ []))
    ∷ (bytes "^{R=b3b4}8", gives (entry 0 9 8 ∷ []))
    ∷ (bytes "@?8^?16", gives (entry 0 2 8 ∷ entry 3 2 16 ∷ []))
    ∷ (bytes "[3]8", gives (entry 0 3 8 ∷ []))
    -- as many entries as half the bytes
    ∷ (bytes "v1v2", gives (entry 0 1 1 ∷ entry 2 1 2 ∷ []))
    -- the largest number, and zeros before one
    ∷ (bytes "v4294967295", gives (entry 0 1 4294967295 ∷ []))
    ∷ (bytes "v007", gives (entry 0 1 7 ∷ []))
    ∷ (bytes "v000000000000000000000000@8", gives (entry 0 1 0 ∷ entry 25 1 8 ∷ []))
    ∷ []

-- A digit where a type should begin: refusal 8 at its own place.
unfoldable pub digit_for_type : List Case
digit_for_type =
    (bytes "16@", refused_at 8 0 (byte "1"))
    ∷ (bytes "r5", refused_at 8 1 (byte "5"))
    ∷ (bytes "^5", refused_at 8 1 (byte "5"))
    ∷ (bytes "A5", refused_at 8 1 (byte "5"))
    ∷ (bytes "^^5", refused_at 8 2 (byte "5"))
    ∷ (bytes "[3^5]8", refused_at 8 3 (byte "5"))
    ∷ (bytes "{x=5c", refused_at 8 3 (byte "5"))
    ∷ (bytes "(x=i5)8", refused_at 8 4 (byte "5"))
    ∷ (bytes "v24^5", refused_at 8 4 (byte "5"))
    -- elsewhere a digit keeps its own refusal
    ∷ (bytes "j5", refused_at 9 1 (byte "5"))
    ∷ (bytes "[3i5]8", refused 12 3)
    ∷ []

-- What reading from the start refuses, at the place where it does: refusal 8 stands behind its byte.
unfoldable pub no_type : List Case
no_type =
    (bytes "x5", refused_at 8 1 (byte "x"))
    ∷ (bytes "v24@0:8x16", refused_at 8 8 (byte "x"))
    ∷ (bytes "v24 @0", refused_at 8 4 (byte " "))
    ∷ (bytes "}5", refused_at 8 1 (byte "}"))
    ∷ (bytes "]5", refused_at 8 1 (byte "]"))
    ∷ (bytes "{x=i)8", refused_at 8 5 (byte ")"))
    -- a qualifier inside a type
    ∷ (bytes "^r5", refused_at 8 2 (byte "r"))
    ∷ (bytes "{x=r5}8", refused_at 8 4 (byte "r"))
    ∷ (bytes "b", refused 7 1)
    ∷ (bytes "@\"Rate", refused 7 6)
    ∷ (bytes "[i]4", refused 10 1)
    ∷ (bytes "b0i788", refused 11 6)
    ∷ (bytes "[18446744073709551616i]8", refused 11 21)
    ∷ (bytes "[3", refused 12 2)
    ∷ (bytes "v24{", refused_in 13 4 Struct)
    ∷ (bytes "(}5", refused_in 13 3 Union)
    ∷ (bytes "{}5", refused_in 14 1 Struct)
    ∷ []

-- 16: a type that is not followed by a digit.
unfoldable pub no_number : List Case
no_number =
    (bytes "v", refused 16 1)
    ∷ (bytes "v24@", refused 16 4)
    -- digits are taken greedily
    ∷ (bytes "b168", refused 16 4)
    ∷ (bytes "b0i78", refused 16 5)
    -- a qualifier is followed by nothing, or stands where a digit must
    ∷ (bytes "r", refused 16 1)
    ∷ (bytes "v24r", refused 16 4)
    ∷ (bytes "vr24", refused 16 1)
    -- a pointer or an atomic gives a closer back
    ∷ (bytes "^]5", refused 16 1)
    ∷ (bytes "A}5", refused 16 1)
    -- signed offsets, and the signature of a block
    ∷ (bytes "v+8", refused 16 1)
    ∷ (bytes "v-8", refused 16 1)
    ∷ (bytes "@?<v@?>16", refused 16 2)
    ∷ []

-- 17: a number above 4,294,967,295; 18: no byte.
unfoldable pub bad_number : List Case
bad_number =
    (bytes "v4294967296", refused 17 11)
    ∷ (bytes "v4294967296@0", refused 17 11)
    ∷ (bytes "v4@04294967296", refused 17 14)
    ∷ (bytes "v18446744073709551616", refused 17 21)
    ∷ ([], refuses (M.refused 18 None None None))
    ∷ []

unfoldable pub cases : List Case
cases = read ++ (digit_for_type ++ (no_type ++ (no_number ++ bad_number)))
