-- Request A.8 line by line: what each line of a sheet that is not refused is, and what its value is. proofs/Sheets.antt proves it. Definitions
-- only.
use Rattle.std.specs.Prelude.{ℕ, ◌<◌, ◌≡◌, List, Some, None}
use Rattle.sheets.specs.Sheet.{line_of, line_count, sheet_refusal}
use Rattle.sheets.specs.declared.Line.TheVariants.{Weight, Sum}
use Rattle.sums.specs.Sum.{sum_bits}
use Rattle.sheet_values.specs.Values.{value_of}

-- for every line i of a sheet p that is not refused
pub record Sheets : Type 0 where
  -- it has one of the two forms
  pub forms : (p : List ℕ) → sheet_refusal p ≡ 0 → (i : ℕ) → i < line_count p → line_of p i ≡ None → ⊥
  -- the value of the first form is the weight
  pub weight : (p : List ℕ) → sheet_refusal p ≡ 0 → (i x : ℕ) → i < line_count p → line_of p i ≡ Some (Weight x) → value_of p i ≡ x
  -- the second form names earlier lines, and its value is the sum of theirs
  pub sum : (p : List ℕ) → sheet_refusal p ≡ 0 → (i first second : ℕ) → i < line_count p → line_of p i ≡ Some (Sum first second)
      → (first < i) × (second < i) × (value_of p i ≡ sum_bits (value_of p first) (value_of p second))
