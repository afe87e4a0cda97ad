-- A weight as its 8 bytes. Nothing here is part of what screening means. Definitions only.
use Rattle.std.specs.Prelude.{List, ℕ, Bool}
use Rattle.std.specs.Int.{w64, from_be_bytes}
use Rattle.screening.specs.Screening.{is_nan}

abbrev pub is_missing : List ℕ → Bool
is_missing weight = is_nan (from_be_bytes w64 weight)
