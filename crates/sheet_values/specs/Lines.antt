-- What the functions on lines ask of their callers, and what they say of the size of values. Nothing here is part of what a sheet means. Definitions only.
use Rattle.std.specs.Prelude.{ℕ, ◌^◌, ◌≤◌, ◌<◌, ◌≡◌, List}
use Rattle.sheets.specs.Sheet.{first_refusal}
use Rattle.sheet_values.specs.Values.{value_of}

-- there are no more lines than a payload of 512 bytes has, and none of them is refused
pub record GoodLines (n : ℕ) (payload : List ℕ) : Type 0 where
  pub few : n ≤ 56
  pub good : first_refusal payload n ≡ 0

-- the values of the first n lines are 64-bit words
abbrev pub Words : ℕ → List ℕ → Type 0
Words n payload = (i : ℕ) → i < n → value_of payload i < 2 ^ 64
