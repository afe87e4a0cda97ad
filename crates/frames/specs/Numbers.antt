-- The kinds and the refusals of src/, by the documents' numbers. Definitions only.
use Rattle.std.specs.Prelude.{ℕ, ◌≡◌, Result, Ok, Err, false}
use Rattle.rounding.specs.declared.UnknownDirection.{UnknownDirection}
use Rattle.sheets.specs.Sheet.{bad_line_number}
use Rattle.sheets.specs.declared.BadLine.{BadLine}
use Rattle.frames.specs.Frame.{is_kind}
use Rattle.frames.specs.declared.Kind.{Kind}
use Rattle.frames.specs.declared.Kind.TheVariants.{Scores, Fused, Directed, Report, Sheet}
use Rattle.frames.specs.declared.Refusal.{Refusal}
use Rattle.frames.specs.declared.Refusal.TheVariants.{TooShort, TooLong, BadVersion, BadKind, BadPayload, BadDirection, BadForm, BadNumber}

abbrev pub kind_number : Kind → ℕ
kind_number Scores = 1
kind_number Fused = 2
kind_number Directed = 3
kind_number Report = 4
kind_number Sheet = 5

abbrev pub number_of : Refusal → ℕ
number_of TooShort = 1
number_of TooLong = 2
number_of BadVersion = 3
number_of BadKind = 4
number_of BadPayload = 5
number_of BadDirection = 11
number_of BadForm = 14
number_of BadNumber = 15

-- that of an error, or 0
abbrev pub numbered : {A : Type 0} → Result A Refusal → ℕ
numbered (Ok x) = 0
numbered (Err refusal) = number_of refusal

-- a bad line is refused by its own number
abbrev pub SameNumber : BadLine → Refusal → Type 0
SameNumber bad refusal = number_of refusal ≡ bad_line_number bad

-- a byte that names no direction is refused by 11
abbrev pub IsDirections : UnknownDirection → Refusal → Type 0
IsDirections unknown refusal = number_of refusal ≡ 11

-- a byte is read as the kind of that number, and one that is no kind's is refused
abbrev pub IsKind : ℕ → Result Kind Refusal → Type 0
IsKind number (Ok kind) = kind_number kind ≡ number
IsKind number (Err refusal) = (refusal ≡ BadKind) × (is_kind number ≡ false)
