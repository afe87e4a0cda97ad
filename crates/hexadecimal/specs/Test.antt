-- The test of a text's form, byte by byte: how far into the form a text has come. Form.antt says what it decides. Definitions only.
use Rattle.std.specs.Prelude.{ℕ, Bool, true, false, cond, List, [], ◌∷◌}
use Rattle.hexadecimal.specs.Text.{is_hexadecimal, is_decimal, is_sign, is_zero, is_x, is_point, is_p, digit_of}
use Rattle.hexadecimal.specs.declared.Stage.{Stage}
use Rattle.hexadecimal.specs.declared.Stage.TheVariants.{Start, Signed, Zero, Prefix, Whole, LonePoint, Point, Fraction, P, ExponentSigned, Exponent, Malformed}

-- the stage after one more byte
unfoldable pub next_stage : Stage → ℕ → Stage
unfolding digit_of
next_stage Start b = cond (is_sign b) Signed (cond (is_zero b) Zero Malformed)
next_stage Signed b = cond (is_zero b) Zero Malformed
next_stage Zero b = cond (is_x b) Prefix Malformed
next_stage Prefix b = cond (is_hexadecimal b) Whole (cond (is_point b) LonePoint Malformed)
next_stage Whole b = cond (is_hexadecimal b) Whole (cond (is_point b) Point (cond (is_p b) P Malformed))
next_stage LonePoint b = cond (is_hexadecimal b) Fraction Malformed
next_stage Point b = cond (is_hexadecimal b) Fraction (cond (is_p b) P Malformed)
next_stage Fraction b = cond (is_hexadecimal b) Fraction (cond (is_p b) P Malformed)
next_stage P b = cond (is_sign b) ExponentSigned (cond (is_decimal b) Exponent Malformed)
next_stage ExponentSigned b = cond (is_decimal b) Exponent Malformed
next_stage Exponent b = cond (is_decimal b) Exponent Malformed
next_stage Malformed b = Malformed

unfoldable pub stage_from : Stage → List ℕ → Stage
unfolding next_stage
stage_from s [] = s
stage_from s (b ∷ text) = stage_from (next_stage s b) text

-- whether a text may end here
abbrev pub is_last : Stage → Bool
is_last Start = false
is_last Signed = false
is_last Zero = false
is_last Prefix = false
is_last Whole = false
is_last LonePoint = false
is_last Point = false
is_last Fraction = false
is_last P = false
is_last ExponentSigned = false
is_last Exponent = true
is_last Malformed = false

unfoldable pub has_form : List ℕ → Bool
unfolding stage_from
has_form text = is_last (stage_from Start text)
