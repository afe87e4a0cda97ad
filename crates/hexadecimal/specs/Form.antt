-- What is shown of the form (proofs/Form.antt): a text has one reading at most, and the test decides whether it has one. Definitions only.
use Rattle.std.specs.Prelude.{◌≡◌, List, ℕ, T}
use Rattle.hexadecimal.specs.Text.{Parts, Spells, HasForm, parts_of}
use Rattle.hexadecimal.specs.Test.{has_form}

-- a text has one reading at most
abbrev pub OneReading : Type 0
OneReading = (text : List ℕ) (a b : Parts) → Spells a text → Spells b text → a ≡ b

-- the test is passed exactly by the texts that parts spell, and those parts are parts_of
pub record Decides (text : List ℕ) : Type 0 where
  pub passed : T (has_form text) → Spells (parts_of text) text
  pub needed : HasForm text → T (has_form text)
