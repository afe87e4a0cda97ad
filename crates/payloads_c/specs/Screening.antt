-- A reply of screening as a tag and a number. Definitions only.
use Rattle.std.specs.Prelude.{ℕ, Option, Some, None, Result, Ok, Err}
use Rattle.payloads_c.specs.declared.Screening.{Screening}

-- the tag 0 comes with the refusal's number, 1 with 0, and 2 with a place
abbrev pub encoded : Result (Option ℕ) ℕ → Screening
encoded (Err n) = record { tag = 0; number = n }
encoded (Ok None) = record { tag = 1; number = 0 }
encoded (Ok (Some i)) = record { tag = 2; number = i }
