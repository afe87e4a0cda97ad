-- What the functions of this crate say of each other. Nothing here is part of what an operation means. Definitions only.
use Rattle.std.specs.Prelude.{ℕ, ◌+◌, ◌≤◌, ◌<◌}
use Rattle.operands.specs.declared.parts.Parts.{Parts}
use Rattle.operands.specs.Machine.{Middle}

-- three exponent fields: the last digit of the third's number is one of the product of the others, or at most 20 above it
pub record Near (x y z : ℕ) : Type 0 where
  pub first : Middle x
  pub second : Middle y
  pub over : x + y ≤ z + 1075
  pub under : z + 1003 ≤ x + y

-- the same of the parts
pub record NearParts (x y z : Parts) : Type 0 where
  pub over : x.e + y.e ≤ z.e + 1126
  pub under : z.e + 1054 ≤ x.e + y.e

-- three exponent fields: the product of the first two numbers is below 2 ^ -19 of the third
pub record Small (x y z : ℕ) : Type 0 where
  pub first : Middle x
  pub second : Middle y
  pub third : Middle z
  pub over : x + y ≤ z + 1002

-- the same of the parts
pub record SmallParts (x y z : Parts) : Type 0 where
  pub middle : (651 ≤ z.e) × (z.e < 1551)
  pub over : x.e + y.e ≤ z.e + 1053
