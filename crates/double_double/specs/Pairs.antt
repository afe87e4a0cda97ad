-- The double-double helpers of exp2m1.rs over IEEE operations, with the source's operands and association. Definitions only.
use Rattle.std.specs.Prelude.{Float}
use Rattle.std.specs.Float.{binary64}
use Rattle.std.specs.Float.Ieee.{add, sub, mul, neg}
use Rattle.rounding.specs.declared.Direction.TheVariants.{Nearest}
use Rattle.ieee754.specs.Operations.{fused_multiply_add}
use Rattle.pair.specs.declared.Pair.{Pair}
use Rattle.pair.specs.Pair.{pair}

-- x * y + z, rounded once
abbrev pub fma : Float → Float → Float → Float
fma x y z = fused_multiply_add Nearest x y z

-- a + b, assuming |a| >= |b|
unfoldable pub fast_two_sum : Float → Float → Pair
fast_two_sum a b =
    let hi = add binary64 a b in
    let e = sub binary64 hi a in
    pair hi (sub binary64 b e)

-- a + (bh + bl), assuming |a| >= |bh|
unfoldable pub fast_sum : Float → Pair → Pair
fast_sum a b =
    let s = fast_two_sum a b.hi in
    pair s.hi (add binary64 s.lo b.lo)

-- a * b
unfoldable pub a_mul : Float → Float → Pair
a_mul a b =
    let hi = mul binary64 a b in
    pair hi (fma a b (neg hi))

-- a * (bh + bl)
unfoldable pub s_mul : Float → Pair → Pair
s_mul a b =
    let p = a_mul a b.hi in
    pair p.hi (fma a b.lo p.lo)

-- (ah + al) * (bh + bl) - al * bl
unfoldable pub d_mul : Pair → Pair → Pair
d_mul a b =
    let p = a_mul a.hi b.hi in
    pair p.hi (fma a.lo b.hi (fma a.hi b.lo p.lo))
