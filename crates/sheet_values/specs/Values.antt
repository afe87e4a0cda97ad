-- The values of a sheet's lines (document 02, A.8). Each value is made of those of earlier lines; lines and their refusals come before it, in
-- crates/sheets/specs/Sheet.antt, and the scores of the values behind it, in crates/answers/specs/Answers.antt. Definitions only.
use Rattle.std.specs.Prelude.{ℕ, zero, suc, List, [], ◌∷◌, ◌++◌, get_or, Option, Some, None}
use Rattle.sheets.specs.Sheet.{line_of}
use Rattle.sheets.specs.declared.Line.{Line}
use Rattle.sheets.specs.declared.Line.TheVariants.{Weight, Sum}
use Rattle.sums.specs.Sum.{sum_bits}

-- the value of a line from those of the lines before it: the weight, or the float sum of the two named lines, first plus second; that of a
-- line which is refused is not asked
unfoldable pub value_from : List ℕ → Option Line → ℕ
unfolding sum_bits
value_from before (Some (Weight x)) = x
value_from before (Some (Sum first second)) = sum_bits (get_or before first 0) (get_or before second 0)
value_from before None = 0

-- the values of the first n lines
unfoldable pub values_of : List ℕ → ℕ → List ℕ
unfolding line_of value_from
values_of p zero = []
values_of p (suc n) = values_of p n ++ (value_from (values_of p n) (line_of p n) ∷ [])

-- the value of line i
unfoldable pub value_of : List ℕ → ℕ → ℕ
unfolding values_of
value_of p i = value_from (values_of p i) (line_of p i)
