-- What the functions of this crate, and of the crates that compute the operations, say of each other. Nothing here is part of what an
-- operation means. Definitions only.
use Rattle.std.specs.Prelude.{◌≡◌, ◌≢◌, ◌⊎◌, ℕ, ◌+◌, ◌-◌, ◌*◌, ◌/◌, ◌%◌, ◌^◌, ◌≤◌, ◌<◌, Bool, cond, ℤ, pos, negsuc, leb, ltb}
use Rattle.std.specs.Float.Ieee.{of_bits, to_bits}
use Rattle.std.specs.Float.{binary64}
use Rattle.std.specs.Float.Ieee.Exact.{HasValue}
use Rattle.rounding.specs.declared.Direction.{Direction}
use Rattle.rounding.specs.Machine.{sign_bit, Stands, Rounds}
use Rattle.ieee754.specs.Operations.{zero_sign, fused_multiply_add}
use Rattle.operands.specs.declared.parts.Parts.{Parts}

-- ---- patterns

-- the sign of a pattern, and the pattern without it
abbrev pub sign_of : ℕ → Bool
sign_of b = leb 0x8000000000000000 b

abbrev pub magnitude : ℕ → ℕ
magnitude b = b % 0x8000000000000000

-- the exponent field
abbrev pub field_of : ℕ → ℕ
field_of b = magnitude b / 0x10000000000000

-- an exponent field that is far from both ends
abbrev pub Middle : ℕ → Type 0
Middle x = (600 ≤ x) × (x < 1500)

-- b is a pattern of a finite number that is not zero
abbrev pub Regular : ℕ → Type 0
Regular b = (0 < magnitude b) × (magnitude b < 0x7ff0000000000000)

-- p is the finite number that b is a pattern of
abbrev pub Reads : ℕ → Parts → Type 0
Reads b p = HasValue (of_bits binary64 b) (sign_of b) (p.m * 2 ^ p.e) (2 ^ 1126)

-- the exponent e + n + 1200; past 0 and 4000 every rounding is the same
abbrev pub scaled_exponent : ℕ → ℤ → ℕ
scaled_exponent e (pos k) = cond (ltb 4000 (e + k + 1200)) 4000 (e + k + 1200)
scaled_exponent e (negsuc k) = cond (ltb (e + 1199) k) 0 (e + 1199 - k)

-- ---- sums, in units of 2 ^ -2273

-- a product or an addend, brought to 126 or 127 digits
pub record Ready (w : ℕ) : Type 0 where
  pub low : 2 ^ 125 ≤ w
  pub high : w < 2 ^ 127
  pub tail : w % 2 ^ 21 ≡ 0

abbrev pub product_size : Parts → Parts → ℕ
product_size a b = a.m * 1024 * (b.m * 2048) * 2 ^ (a.e + b.e)

abbrev pub addend_size : Parts → ℕ
addend_size c = c.m * 1024 * 2 ^ 64 * 2 ^ (c.e + 1073)

-- A / c is x * 2 ^ e, and y stands for B / c
pub record Summands (A B c x y e : ℕ) : Type 0 where
  pub first : A * 2 ^ 2273 ≡ x * 2 ^ e * c
  pub second : Stands 2273 B c y e
  pub even : x % 2 ≡ 0

-- where y does not stand for itself, x is much the larger
pub record Addends (A B c x y e : ℕ) : Type 0 where
  pub both : Summands A B c x y e
  pub far : (B * 2 ^ 2273 ≡ y * 2 ^ e * c) ⊎ (y + 2 ^ 64 ≤ x)

-- w with the sign neg is x with the sign s and y with the sign t, added
pub record SumOf (s t : Bool) (x y : ℕ) (neg : Bool) (w : ℕ) : Type 0 where
  pub like : s ≡ t → (neg ≡ s) × (w ≡ x + y)
  pub unlike : s ≢ t → ((neg ≡ s) × (x ≡ y + w)) ⊎ ((neg ≡ t) × (y ≡ x + w))

-- r is the pattern of what w stands for, rounded, where 0 is an exact zero sum of unlike signs
abbrev pub RoundsSum : Direction → Bool → ℕ → ℕ → ℕ → Type 0
RoundsSum d s w e r = (w ≡ 0 → r ≡ sign_bit (zero_sign d)) × (0 < w → Rounds d s w e r)

-- a * b + c as a pattern, where none of the three is a NaN
abbrev pub fused_floats : Direction → ℕ → ℕ → ℕ → ℕ
fused_floats d a b c = to_bits binary64 (fused_multiply_add d (of_bits binary64 a) (of_bits binary64 b) (of_bits binary64 c))
