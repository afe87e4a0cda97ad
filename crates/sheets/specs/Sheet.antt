-- Household sheets (document 02, A.8): the lines of a payload, and the refusal by which the first bad line decides. The values of the lines
-- come behind it, in crates/sheet_values/specs/Values.antt. Definitions only.
use Rattle.std.specs.Prelude.{ℕ, zero, suc, ◌+◌, ◌*◌, ◌/◌, List, [], ◌∷◌, Bool, true, cond, ◌&&◌, length, get_or, take, drop, ltb, eqb, Option, Some, None, Result, Ok, Err}
use Rattle.words.specs.Bytes.{number_at}
use Rattle.sheets.specs.declared.Line.{Line}
use Rattle.sheets.specs.declared.Line.TheVariants.{Weight, Sum}
use Rattle.sheets.specs.declared.BadLine.{BadLine}
use Rattle.sheets.specs.declared.BadLine.TheVariants.{Form, Number}

-- ---- lines

-- the bytes of a line
abbrev pub line_bytes : ℕ
line_bytes = 9

abbrev pub all_zero : List ℕ → Bool
all_zero [] = true
all_zero (b ∷ bytes) = eqb b 0 && all_zero bytes

-- the line at a place of a payload: byte 0 and a weight; or byte 1, two line numbers of one byte each, and six zero bytes; or neither
unfoldable pub line_at : List ℕ → ℕ → Option Line
unfolding number_at
line_at p at =
    cond (eqb (get_or p at 0) 0) (Some (Weight (number_at 8 p (at + 1))))
    (cond (eqb (get_or p at 0) 1 && all_zero (take 6 (drop (at + 3) p))) (Some (Sum (get_or p (at + 1) 0) (get_or p (at + 2) 0)))
    None)

-- line i, counted from 0
unfoldable pub line_of : List ℕ → ℕ → Option Line
unfolding line_at
line_of p i = line_at p (i * line_bytes)

-- the whole lines of a payload
abbrev pub line_count : List ℕ → ℕ
line_count p = length p / line_bytes

-- ---- refusals

-- the refusal of line i, or 0: 14 where it has neither form, and after it 15 where it names its own number or a greater one, whether the sheet
-- has that line or not
unfoldable pub refusal_of : ℕ → Option Line → ℕ
refusal_of i (Some (Weight x)) = 0
refusal_of i (Some (Sum first second)) = cond (ltb first i && ltb second i) 0 15
refusal_of i None = 14

-- the numbers of the errors of src/
abbrev pub bad_line_number : BadLine → ℕ
bad_line_number Form = 14
bad_line_number Number = 15

-- that of a result, or 0
abbrev pub sheet_numbered : Result (Unit {0}) BadLine → ℕ
sheet_numbered (Ok good) = 0
sheet_numbered (Err bad) = bad_line_number bad

-- the first of two numbers that is not 0, or 0
abbrev pub or_else : ℕ → ℕ → ℕ
or_else zero n = n
or_else (suc m) n = suc m

-- that of the first bad line among the first n, or 0
unfoldable pub first_refusal : List ℕ → ℕ → ℕ
unfolding line_of refusal_of
first_refusal p zero = 0
first_refusal p (suc n) = or_else (first_refusal p n) (refusal_of n (line_of p n))

unfoldable pub sheet_refusal : List ℕ → ℕ
unfolding first_refusal
sheet_refusal p = first_refusal p (line_count p)
