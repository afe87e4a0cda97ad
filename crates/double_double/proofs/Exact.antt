-- The definitions of fast_two_sum and a_mul lose nothing where specs/Exactness.antt says so: TwoSum and TwoProduct of the crate exactness have
-- the argument. Then both statements at their bounds, computed. Assumes nothing.
use Prim.Native.Nat.{ℕ, ◌+◌, ◌*◌, ◌^◌}
use mathlib.Core.Path.{◌≡◌, refl, sym, subst}
use mathlib.Core.Logic.{inl, inr}
use lib.Dec.{T, lit≤}
use lib.IntN.{ℤ, pos, ◌+ℤ◌, ◌*ℤ◌}
use lib.Ieee.{Float, binary64, add, sub, mul, neg, fits, of_bits}
use Rattle.exactness.specs.Values.{value}
use Rattle.exactness.proofs.Units.{neg_finite}
use Rattle.exactness.proofs.Nearest.{fused_nearest}
use Rattle.exactness.proofs.TwoSum.{two_sum_exact}
use Rattle.exactness.proofs.TwoProduct.{Exact, two_product_exact}
use Rattle.pair.specs.declared.Pair.{Pair}
use Rattle.double_double.specs.Pairs.{fast_two_sum, a_mul}
use Rattle.double_double.specs.Exactness.{SumExact, ProductExact}

pub fast_two_sum-exact : (a b : Float) → T (fits binary64 a) → T (fits binary64 b) → SumExact a b (fast_two_sum a b)
unfolding fast_two_sum
fast_two_sum-exact a b fa fb = two_sum_exact binary64 a b fa fb

pub a_mul-exact : (a b : Float) → T (fits binary64 a) → T (fits binary64 b) → ProductExact a b (a_mul a b)
unfolding a_mul
a_mul-exact a b fa fb na nb h =
    let hi = mul binary64 a b in
    let E = two_product_exact binary64 a b fa fb na nb h in
    subst (λ (lo : Float). Exact binary64 a b hi lo) (sym (fused_nearest a b (neg hi) na nb (neg_finite hi E.0))) E

-- ---- examples

abbrev float : ℕ → Float
float x = of_bits binary64 x

abbrev one : Float
one = float 0x3ff0000000000000

abbrev minus_one : Float
minus_one = float 0xbff0000000000000

-- 2 ^ -60
abbrev small : Float
small = float 0x3c30000000000000

-- 1 + 2 ^ -52
abbrev after_one : Float
after_one = float 0x3ff0000000000001

-- 2 ^ -484, whose square is 2 ^ -968
abbrev root : Float
root = float 0x21b0000000000000

abbrev largest : Float
largest = float 0x7fefffffffffffff

abbrev value_of : Pair → ℤ
value_of r = value binary64 r.hi +ℤ value binary64 r.lo

-- b as large in size as a; b that is lost in hi
pub sums : (value_of (fast_two_sum one minus_one) ≡ pos 0) × (value_of (fast_two_sum one small) ≡ pos (2 ^ 1074 + 2 ^ 1014))
unfolding fast_two_sum add sub of_bits fits
sums = ((fast_two_sum-exact one minus_one tt tt tt tt (lit≤ tt) tt).1, (fast_two_sum-exact one small tt tt tt tt (lit≤ tt) tt).1)

-- a product of zero; of 2 ^ -968; of more digits than hi has
pub products :
    (value_of (a_mul largest (float 0)) *ℤ pos (2 ^ 1074) ≡ pos 0)
    × (value_of (a_mul root root) *ℤ pos (2 ^ 1074) ≡ pos (2 ^ 1180))
    × (value_of (a_mul after_one after_one) *ℤ pos (2 ^ 1074) ≡ pos ((2 ^ 52 + 1) * (2 ^ 52 + 1) * 2 ^ 2044))
unfolding a_mul mul of_bits fits
products = (
  (a_mul-exact largest (float 0) tt tt tt tt (inl refl)).2,
  (a_mul-exact root root tt tt tt tt (inr (lit≤ tt, tt))).2,
  (a_mul-exact after_one after_one tt tt tt tt (inr (lit≤ tt, tt))).2,
)
