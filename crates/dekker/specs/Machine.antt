-- What the functions of this crate say of each other. Nothing here is part of what an operation means. Definitions only.
use Rattle.std.specs.Prelude.{ℕ, ◌+◌, ◌*◌, ◌/◌}

-- the pattern of a number's high half: of the number rounded to 26 digits
abbrev pub high_half : ℕ → ℕ
high_half b = (b + 0x4000000) / 0x8000000 * 0x8000000
