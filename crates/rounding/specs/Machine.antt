-- What the functions of this crate say of each other: patterns with their signs, and significands that stand for exact sizes.
-- Nothing here is part of what rounding means. Definitions only.
use Rattle.std.specs.Prelude.{◌≡◌, ℕ, ◌+◌, ◌-◌, ◌*◌, ◌^◌, ◌<◌, Bool, true, false, not, cond, ltb}
use Rattle.std.specs.Float.Ieee.{to_bits}
use Rattle.std.specs.Float.{binary64}
use Rattle.wide.specs.Words.{jammed}
use Rattle.rounding.specs.declared.Direction.{Direction}
use Rattle.rounding.specs.declared.Direction.TheVariants.{Nearest, TowardZero, Up, Down}
use Rattle.rounding.specs.Rounding.{whole, round_to}

-- the pattern of a sign alone
abbrev pub sign_bit : Bool → ℕ
sign_bit s = cond s 0x8000000000000000 0

abbrev pub to_nearest : Direction → Bool
to_nearest Nearest = true
to_nearest TowardZero = false
to_nearest Up = false
to_nearest Down = false

-- whether a directed rounding moves a size away from zero
abbrev pub rounds_away : Direction → Bool → Bool
rounds_away Nearest s = false
rounds_away TowardZero s = false
rounds_away Up s = not s
rounds_away Down s = s

-- the patterns, without a sign, of what an overflow becomes
abbrev pub overflow_bits : Direction → Bool → ℕ
overflow_bits d s = cond (to_nearest d) 0x7ff0000000000000 (cond (rounds_away d s) 0x7ff0000000000000 0x7fefffffffffffff)

-- the size b of a result, which is an infinity's or more where it overflows; and the pattern of such a size and a sign
abbrev pub bounded_bits : Direction → Bool → ℕ → ℕ
bounded_bits d s b = cond (ltb b 0x7ff0000000000000) b (overflow_bits d s)

abbrev pub packed : Direction → Bool → ℕ → ℕ
packed d s b = sign_bit s + bounded_bits d s b

-- what is added before the low k digits are cut off, so that a direction's whole number is left; odd is the last digit that stays
abbrev pub increment : Direction → Bool → ℕ → ℕ → ℕ
increment d s odd k = cond (to_nearest d) (2 ^ (k - 1) - 1 + odd) (cond (rounds_away d s) (2 ^ k - 1) 0)

-- the pattern, without a sign, of m * 2 ^ e in units of 2 ^ -2337, where m has 64 digits and the result is at least the least normal number
abbrev pub normal_bits : Direction → Bool → ℕ → ℕ → ℕ
normal_bits d s m e = (e - 1252) * 0x10000000000000 + whole d s m (2 ^ 11)

-- num / den, in units of 2 ^ -b, is a whole number, and m is what is left of it when e digits are cut off, with a sticky bit
pub record Stands (b num den m e : ℕ) : Type 0 where
  pub size : ℕ
  pub den_pos : 0 < den
  pub same : num * 2 ^ b ≡ size * den
  pub cut : m ≡ jammed size (2 ^ e)

-- r is the pattern of what w stands for, in units of 2 ^ -2273, rounded. A w of one word has to stand for itself.
abbrev pub Rounds : Direction → Bool → ℕ → ℕ → ℕ → Type 0
Rounds d s w e r = (num den : ℕ) → Stands 2273 num den w e → (w < 2 ^ 64 → num * 2 ^ 2273 ≡ w * 2 ^ e * den) → r ≡ to_bits binary64 (round_to d binary64 s num den)

-- the same for a w of one word, which has to stand for itself only where it has fewer than 62 digits
abbrev pub RoundsWord : Direction → Bool → ℕ → ℕ → ℕ → Type 0
RoundsWord d s w e r = (num den : ℕ) → Stands 2273 num den w e → (w < 2 ^ 61 → num * 2 ^ 2273 ≡ w * 2 ^ e * den) → r ≡ to_bits binary64 (round_to d binary64 s num den)
