-- The phases of exp2m1.rs for |x| <= 0.125 over IEEE operations, with the source's operands and association. Definitions only.
use Rattle.std.specs.Prelude.{Float, unwrap_or}
use Rattle.std.specs.Float.{binary64}
use Rattle.std.specs.Float.Ieee.{add, mul}
use Rattle.pair.specs.declared.Pair.{Pair}
use Rattle.pair.specs.Pair.{bits, pair}
use Rattle.double_double.specs.Pairs.{fma, fast_two_sum, fast_sum, a_mul, s_mul}
use Rattle.exceptions.specs.declared.Stretch.TheVariants.{Tiny}
use Rattle.exceptions.specs.Lookup.{find, entries}
use Rattle.exp2m1_tiny.specs.declared.Estimate.{Estimate}
use Rattle.exp2m1_tiny.specs.Coefficients.{P, Q}

-- an approximation hi + lo, and the bound of its error
abbrev pub estimate : Pair → Float → Estimate
estimate p e = record { pair = p; err = e }

-- multiply p by x and add ch + cl
unfoldable pub horner_step : Float → Pair → Float → Float → Pair
horner_step x p ch cl =
    let q = s_mul x p in
    let t = fast_two_sum ch q.hi in
    pair t.hi (add binary64 q.lo (add binary64 t.lo cl))

-- the coefficients of degree 4 or higher of the fast phase, in double precision
unfoldable pub degree4 : Float → Float
degree4 x =
    let x2 = mul binary64 x x in
    let x4 = mul binary64 x2 x2 in
    let c8 = fma (P 10) x (P 9) in
    let c6 = fma (P 8) x (P 7) in
    let c4 = fma (P 6) x (P 5) in
    let d8 = fma (P 11) x2 c8 in
    let d4 = fma c6 x2 c4 in
    fma d8 x4 d4

-- the fast phase
unfoldable pub exp2m1_fast_tiny : Float → Estimate
unfolding degree4
exp2m1_fast_tiny x =
    let e4 = degree4 x in
    -- multiply e4 by x and add P 4, then multiply by x and add P 2 + P 3, P 0 + P 1
    let p3 = fast_sum (P 4) (a_mul e4 x) in
    let p2 = horner_step x p3 (P 2) (P 3) in
    let p1 = horner_step x p2 (P 0) (P 1) in
    -- multiply by x
    let p = s_mul x p1 in
    estimate p (mul binary64 (bits 0x3bd4e00000000000) p.hi)

-- the polynomial of the accurate phase
unfoldable pub polynomial_q : Float → Pair
polynomial_q x =
    let x2 = mul binary64 x x in
    let x4 = mul binary64 x2 x2 in
    let c13 = fma (Q 20) x (Q 19) in
    let c11 = fma (Q 18) x (Q 17) in
    let d13 = fma (Q 21) x2 c13 in
    -- add Q 16 * x + c11 * x2 + d13 * x4 to Q 15
    let p9 = fast_two_sum (Q 15) (add binary64 (add binary64 (mul binary64 (Q 16) x) (mul binary64 c11 x2)) (mul binary64 d13 x4)) in
    -- multiply by x and add Q 14
    let s = s_mul x p9 in
    let t = fast_two_sum (Q 14) s.hi in
    let p8 = pair t.hi (add binary64 s.lo t.lo) in
    -- multiply by x and add the coefficients of degree 7 to 1
    let p7 = horner_step x p8 (Q 12) (Q 13) in
    let p6 = horner_step x p7 (Q 10) (Q 11) in
    let p5 = horner_step x p6 (Q 8) (Q 9) in
    let p4 = horner_step x p5 (Q 6) (Q 7) in
    let p3 = horner_step x p4 (Q 4) (Q 5) in
    let p2 = horner_step x p3 (Q 2) (Q 3) in
    let p1 = horner_step x p2 (Q 0) (Q 1) in
    -- multiply by x
    s_mul x p1

-- the accurate phase: the exceptional cases, then the polynomial
unfoldable pub exp2m1_accurate_tiny : Float → Float
exp2m1_accurate_tiny x =
    let p = polynomial_q x in
    unwrap_or (find (entries Tiny) x) (add binary64 p.hi p.lo)
