-- `multiply_add::fused_special` meets its contract. Assumes nothing.
use Rattle.std.proofs.Common.{◌≡◌, ◌∙◌, ℕ, ◌%◌, ◌^◌, ◌≤◌, ◌<◌, rules}
use Rattle.rounding.specs.declared.Direction.{Direction}
use Rattle.ieee754.specs.Operations.{quiet, fused_bits}
use Rattle.ieee754.proofs.Nans.{nan_first, number_first, fused_by, fused_numbers}
use Rattle.operands.specs.Machine.{fused_floats}
use Rattle.multiply_add.proofs.fused_special.Goals as goal
use Rattle.multiply_add.proofs.fused_special.Goals.{Else-z-gt-INFINITY}

-- a NaN comes back where those before it are none

nan_a : (d : Direction) (a b c : ℕ) {r : ℕ} → 0x7ff0000000000000 < a % 2 ^ 63 → r ≡ quiet a → r ≡ fused_bits d a b c
nan_a d a b c h e = e ∙ nan_first a _ _ h ∙ fused_by d a b c

nan_b : (d : Direction) (a b c : ℕ) {r : ℕ} → a % 2 ^ 63 ≤ 0x7ff0000000000000 → 0x7ff0000000000000 < b % 2 ^ 63 → r ≡ quiet b → r ≡ fused_bits d a b c
nan_b d a b c f h e = e ∙ nan_first b _ _ h ∙ number_first a _ _ f ∙ fused_by d a b c

nan_c : (d : Direction) (a b c : ℕ) {r : ℕ} → a % 2 ^ 63 ≤ 0x7ff0000000000000 → b % 2 ^ 63 ≤ 0x7ff0000000000000 → 0x7ff0000000000000 < c % 2 ^ 63 → r ≡ quiet c → r ≡ fused_bits d a b c
nan_c d a b c f g h e = e ∙ nan_first c _ _ h ∙ number_first b _ _ g ∙ number_first a _ _ f ∙ fused_by d a b c

pub returns-then-x-gt-INFINITY : goal.returns-then-x-gt-INFINITY
returns-then-x-gt-INFINITY c = search (rules, nan_a)

pub returns-then-y-gt-INFINITY : goal.returns-then-y-gt-INFINITY
returns-then-y-gt-INFINITY c = search (rules, nan_b)

pub returns-then-z-gt-INFINITY : goal.returns-then-z-gt-INFINITY
returns-then-z-gt-INFINITY c = search (rules, nan_c)

-- past the tests for NaNs

numbers : (e : Else-z-gt-INFINITY) → let a = e.args in fused_floats a.dir a.a a.b a.c ≡ fused_bits a.dir a.a a.b a.c
numbers e = fused_numbers _ _ _ _ e.if-x-gt-INFINITY.false e.if-y-gt-INFINITY.false e.if-z-gt-INFINITY.false

pub returns-then-x-eq-INFINITY : goal.returns-then-x-eq-INFINITY
returns-then-x-eq-INFINITY c = let e = (goal.at.returns-then-x-eq-INFINITY c).Else-z-gt-INFINITY in c.fused_infinite.ensures e.args.dir ∙ numbers e

pub returns : goal.returns
returns c = c.fused_finite.ensures ∙ numbers (goal.at.returns c).Else-z-gt-INFINITY
