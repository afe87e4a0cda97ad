-- The phases of exp2m1.rs over IEEE operations, with the source's operands and association. Definitions only.
use Rattle.std.specs.Prelude.{◌%◌, ◌^◌, Bool, cond, leb, unwrap_or, Float}
use Rattle.std.specs.Float.{binary64}
use Rattle.std.specs.Float.Ieee.{add, mul, neg, le, to_bits}
use Rattle.pair.specs.declared.Pair.{Pair}
use Rattle.pair.specs.Pair.{bits, pair}
use Rattle.double_double.specs.Pairs.{fma, fast_two_sum, a_mul, s_mul}
use Rattle.exceptions.specs.declared.Stretch.TheVariants.{Wide}
use Rattle.exceptions.specs.Lookup.{find, entries}
use Rattle.exponential.specs.Constants.{LN2H, LN2L}
use Rattle.exponential.specs.Exponential.{exp1, exp2}
use Rattle.exp2m1_tiny.specs.declared.Estimate.{Estimate}
use Rattle.exp2m1_tiny.specs.Tiny.{estimate, exp2m1_fast_tiny, exp2m1_accurate_tiny}
use Rattle.exp2m1.specs.Constants.{two106, two_m106, C2, minus_one}

abbrev pub zero : Float
zero = bits 0

-- ---- step 4, other than zero: the steps scaled by 2 ^ 106
unfoldable pub exp2m1_scaled : Float → Float
exp2m1_scaled x0 =
    -- scale x by 2 ^ 106
    let x = mul binary64 x0 two106 in
    let p = a_mul LN2H x in
    let lo = fma LN2L x p.lo in
    -- round to 53 digits, and scale back
    let h2 = mul binary64 (add binary64 p.hi lo) two_m106 in
    -- subtract h2 * 2 ^ 106 from hi to get the correction term, and add lo
    let hi = add binary64 (fma (neg h2) two106 p.hi) lo in
    -- h2 + hi * 2 ^ -106
    fma hi two_m106 h2

-- ---- step 5, after the exceptional cases: hi + (lo + C2 * x * x), the product taken from the left
unfoldable pub exp2m1_two_terms : Float → Float
exp2m1_two_terms x =
    -- hi + lo approximates the first term x * log(2)
    let p = a_mul LN2H x in
    let lo = fma LN2L x p.lo in
    add binary64 p.hi (add binary64 lo (mul binary64 (mul binary64 C2 x) x))

-- ---- step 7
-- p - 1, for p about 2 ^ x
unfoldable pub subtract_one : Float → Pair → Pair
subtract_one x p =
    -- the operand that is larger in size stands first
    let s = cond (le zero x) (fast_two_sum p.hi minus_one) (fast_two_sum minus_one p.hi) in
    pair s.hi (add binary64 p.lo s.lo)

-- tiny: |x| <= 0.125; else exp(x * log(2)) is approximated and 1 subtracted
unfoldable pub exp2m1_fast : Float → Bool → Estimate
exp2m1_fast x tiny =
    let p = subtract_one x (exp1 (s_mul x (pair LN2H LN2L))) in
    cond tiny (exp2m1_fast_tiny x) (estimate p (mul binary64 (bits 0x3b84200000000000) p.hi))

-- ---- step 8: the exceptional cases, then the polynomial for |x| <= 0.125, or exp_2
unfoldable pub exp2m1_accurate : Float → Float
exp2m1_accurate x =
    let ax = to_bits binary64 x % 2 ^ 63 in
    let p = subtract_one x (exp2 x) in
    cond (leb ax 0x3fc0000000000000) (exp2m1_accurate_tiny x) (unwrap_or (find (entries Wide) x) (add binary64 p.hi p.lo))
