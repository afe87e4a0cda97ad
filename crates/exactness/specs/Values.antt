-- A float by a whole number, since every finite value of a format is a whole number of the format's smallest value, 2 ^ -1074 for binary64. Definitions only.
use Rattle.std.specs.Prelude.{ℕ, ◌*◌, ◌/◌, ◌^◌, Bool, true, false, ℤ, pos, neg_ℤ, Float}
use Rattle.std.specs.Float.{nan, inf, fin, Format}
use Rattle.std.specs.Float.Ieee.{low, up, down}

-- the size in units of the format's smallest value; 0 for a NaN and an infinity
abbrev pub magnitude : Format → Float → ℕ
magnitude f nan = 0
magnitude f (inf s) = 0
magnitude f (fin s m e) = m * up e * 2 ^ low f / down e

abbrev pub sign : Float → Bool
sign nan = false
sign (inf s) = s
sign (fin s m e) = s

abbrev pub signed : Bool → ℕ → ℤ
signed true n = neg_ℤ (pos n)
signed false n = pos n

abbrev pub value : Format → Float → ℤ
value f x = signed (sign x) (magnitude f x)
