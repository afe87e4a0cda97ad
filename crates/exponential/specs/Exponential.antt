-- exp_1, exp_2, q_1 and q_2 of exp2m1.rs over IEEE operations, with the source's operands and association. Definitions only.
use Rattle.std.specs.Prelude.{ℕ, suc, ◌+◌, ◌-◌, ◌*◌, ◌/◌, ◌%◌, ◌^◌, cond, ℤ, pos, negsuc, eqb, get_or, Float}
use Rattle.std.specs.Float.{binary64}
use Rattle.std.specs.Float.Ieee.{add, sub, mul, neg, to_signed}
use Rattle.rounding.specs.declared.Direction.TheVariants.{Nearest}
use Rattle.ieee754.specs.Operations.{round_to_integral}
use Rattle.pair.specs.declared.Pair.{Pair}
use Rattle.pair.specs.Pair.{bits, pair}
use Rattle.double_double.specs.Pairs.{fma, fast_two_sum, fast_sum, a_mul, s_mul, d_mul}
use Rattle.exponential.specs.Constants.{LN2H, LN2L, INVLOG2, LOG2H, LOG2L, Q1, Q2}
use Rattle.power_tables.specs.Tables.{T1, T2, no_pair}

-- exp(z) for the fast path, |z| < 2 ^ -12.88
unfoldable pub q1 : Pair → Pair
q1 z =
    let s = add binary64 z.hi z.lo in
    let c3 = fma (Q1 4) z.hi (Q1 3) in
    let c2 = fma c3 s (Q1 2) in
    let p = fast_two_sum (Q1 1) (mul binary64 c2 s) in
    fast_sum (Q1 0) (d_mul z p)

-- exp(z) for the accurate path, |z| < 2 ^ -12.88
unfoldable pub q2 : Pair → Pair
q2 z =
    let s = add binary64 z.hi z.lo in
    let c6 = fma (Q2 8) z.hi (Q2 7) in
    let c5 = fma c6 s (Q2 6) in
    let c4 = fma c5 s (Q2 5) in
    -- multiply c4 by z and add Q2 3 + Q2 4
    let p = a_mul c4 s in
    let t = fast_two_sum (Q2 3) p.hi in
    let p3 = pair t.hi (add binary64 p.lo (add binary64 t.lo (Q2 4))) in
    -- multiply by z and add the next coefficient, three times
    let p2 = fast_sum (Q2 2) (d_mul p3 z) in
    let p1 = fast_sum (Q2 1) (d_mul p2 z) in
    fast_sum (Q2 0) (d_mul p1 z)

-- k in two's complement of 64 bits
abbrev pub twos_complement : ℤ → ℕ
twos_complement (pos n) = n
twos_complement (negsuc n) = 2 ^ 64 - suc n

-- its bits 6 to 11 and 0 to 5
abbrev pub i2 : ℤ → ℕ
i2 k = twos_complement k / 64 % 64

abbrev pub i1 : ℤ → ℕ
i1 k = twos_complement k % 64

-- the exponent word (k >> 12) + 0x3ff, for k from -1023 * 2 ^ 12 on; a shift of a negative number rounds down
abbrev pub exponent_word : ℤ → ℕ
exponent_word (pos n) = n / 4096 + 0x3ff
exponent_word (negsuc n) = 0x3ff - suc (n / 4096)

abbrev pub times : Pair → Float → Pair
times p c = pair (mul binary64 p.hi c) (mul binary64 p.lo c)

-- p scaled by the power of two with the exponent word m; 0x7ff encodes an infinity, so there p is doubled and the word is 0x7fe
unfoldable pub scaled : Pair → ℕ → Pair
scaled p m = cond (eqb m 0x7ff) (times (times p (bits 0x4000000000000000)) (bits (0x7fe * 2 ^ 52))) (times p (bits (m * 2 ^ 52)))

-- q * 2 ^ (k / 2 ^ 12)
unfoldable pub times_power : ℤ → Pair → Pair
times_power k q = scaled (d_mul (d_mul (get_or T2 (i1 k) no_pair) (get_or T1 (i2 k) no_pair)) q) (exponent_word k)

-- exp(x)
unfoldable pub exp1 : Pair → Pair
exp1 x =
    let k = round_to_integral Nearest (mul binary64 x.hi INVLOG2) in
    -- x - k * log(2) / 2 ^ 12
    let kp = s_mul k (pair LOG2H LOG2L) in
    let y = fast_two_sum (sub binary64 x.hi kp.hi) x.lo in
    -- k is an integer, this is just a conversion
    times_power (to_signed 63 k) (q1 (pair y.hi (sub binary64 y.lo kp.lo)))

-- 2 ^ x
unfoldable pub exp2 : Float → Pair
exp2 x =
    let k = round_to_integral Nearest (mul binary64 x (bits 0x40b0000000000000)) in
    -- x - k * 2 ^ -12, exact
    let yh = fma (neg k) (bits 0x3f30000000000000) x in
    times_power (to_signed 63 k) (q2 (s_mul yh (pair LN2H LN2L)))
