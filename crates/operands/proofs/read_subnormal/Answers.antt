-- `operands::read_subnormal` meets its contract. Assumes nothing.
use mathlib.Core.Path.{◌≡◌, sym, subst}
use Prim.Native.Nat.{ℕ, ◌-◌, ◌*◌, ◌%◌, ◌^◌, ◌≤◌, ◌<◌}
use native.Mathlib.Nat.{lt_of_lt_of_le, mod-eq_of_lt}
use lib.Dec.{lit≤}
use lib.Count.{count_leading_zeros}
use native.Mathlib.Omega.{arith}
use Rattle.rounding.proofs.Leading.{Leads, leads, Fills, fills}
use Rattle.operands.proofs.Reading.{raised_same}
use Rattle.operands.proofs.read_subnormal.Goals as goal
use Rattle.operands.proofs.read_subnormal.Goals.{Start}

lead : (c : Start) → Leads c.args.fraction (count_leading_zeros 64 c.args.fraction)
lead c = leads c.args.fraction c.requires.0 (lt_of_lt_of_le c.requires.1 (lit≤ tt))

fill : (c : Start) → Fills 11 c.args.fraction (count_leading_zeros 64 c.args.fraction)
fill c = fills 11 c.args.fraction (count_leading_zeros 64 c.args.fraction) (lit≤ tt) (lt_of_lt_of_le c.requires.1 (lit≤ tt)) (lead c)

small : (z : ℕ) → 52 - z ≤ 2097
small z = omega arith

few : (z : ℕ) → z ≤ 63 → z - 11 ≤ 52
few z h = omega arith

-- no digit is shifted out
whole : (c : Start) → c.args.fraction * 2 ^ (count_leading_zeros 64 c.args.fraction - 11) % 2 ^ 64 ≡ c.args.fraction * 2 ^ (count_leading_zeros 64 c.args.fraction - 11)
whole c = mod-eq_of_lt (lt_of_lt_of_le (fill c).high (lit≤ tt))

pub overflow_cast-z : goal.overflow_cast-z
overflow_cast-z c = omega (arith, lead c)

pub overflow_sub-z : goal.overflow_sub-z
overflow_sub-z c = (fill c).zeros

pub overflow_shl-result : goal.overflow_shl-result
overflow_shl-result c = omega (arith, lead c)

pub overflow_sub-result : goal.overflow_sub-result
overflow_sub-result c = omega (arith, lead c)

pub returns : goal.returns
returns c =
    let f = c.args.fraction in
    raised_same f (count_leading_zeros 64 f - 11) (whole (goal.at.returns c).Start) (few (count_leading_zeros 64 f) (lead (goal.at.returns c).Start).few)

pub invariant_of-result-clause-low : goal.invariant_of-result-clause-low
invariant_of-result-clause-low c = subst (λ (x : ℕ). 2 ^ 52 ≤ x) (sym (whole (goal.at.invariant_of-result-clause-low c).Start)) (fill (goal.at.invariant_of-result-clause-low c).Start).low

pub invariant_of-result-clause-high : goal.invariant_of-result-clause-high
invariant_of-result-clause-high c = subst (λ (x : ℕ). x < 2 ^ 53) (sym (whole (goal.at.invariant_of-result-clause-high c).Start)) (fill (goal.at.invariant_of-result-clause-high c).Start).high
