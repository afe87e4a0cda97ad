-- The range of k: a product with a positive constant and the nearest whole number keep the order, so k lies between the whole numbers at the ends of the range, and its cast
-- loses nothing. Below zero the sign goes through the product and the rounding. Assumes nothing.
use mathlib.Core.Path.{◌≡◌, refl, sym, subst, ◌∙◌, ap}
use mathlib.Core.Bool.{Bool, true, false, cond}
use Prim.Native.Nat.{ℕ, zero, suc, ◌-◌, ◌*◌, ◌+◌, ◌<◌, ◌≤◌, ◌^◌, ◌/◌}
use native.Mathlib.Nat.{le_refl, le_trans, lt_of_lt_of_le, lt_irrefl}
use native.Mathlib.Omega.{arith}
use lib.Dec.{T, ltb, le→leb, lt→ltb, lit≤, lit<}
use lib.IntN.{ℤ}
use lib.Ieee.{Float, nan, inf, fin, Format, binary64, low, emax, prec, size, odd, units, neg, le, mul, of_bits, round, up, down, in_signed, to_signed, in_float, of_int}
use lib.Ieee.Positive.{positive, mul_mono, between, num, den, den_pos, le→cross, cross→le}
use lib.Ieee.Nearest.{closest, closest_mono}
use lib.Ieee.Fits.{round_is}
use lib.Ieee.Back.{positive_back, negative_back}
use lib.Ieee.Casts.{to_signed_in}
use mir.Syntax.{w64}
use mir.Val.{of_z, to_z}
use mir.ValLaws.{to_z-of_z}
use Rattle.rounding.specs.declared.Direction.TheVariants.{Nearest}
use Rattle.ieee754.specs.Operations.{round_to_integral}
use Rattle.pair.specs.Pair.{bits}
use Rattle.math.proofs.Shift.{integral}
use Rattle.exponential.specs.Constants.{LN2H, INVLOG2}
use Rattle.exponential.specs.Range.{Between, above, below, least, most, deepest, InRange, InLogRange, Index}

-- ---- the sign goes through a rounding and a product
odd_neg : (d q k l : ℕ) → odd d false q k l ≡ neg (odd d true q k l)
unfolding odd neg
odd_neg d zero k l = refl
odd_neg d (suc q) k l = refl

units_neg : (f : Format) (q k : ℕ) → units f false q k ≡ neg (units f true q k)
unfolding units neg
units_neg f q k = go (ltb (q * 2 ^ k) (2 ^ (low f + suc (emax f))))
  where
    go : (b : Bool) → cond b (odd (suc (prec f)) false q k (low f)) (inf false) ≡ neg (cond b (odd (suc (prec f)) true q k (low f)) (inf true))
    go true = odd_neg (suc (prec f)) q k (low f)
    go false = refl

round_neg : (f : Format) (a c : ℕ) → round f false a c ≡ neg (round f true a c)
round_neg f a c =
    let n = a * 2 ^ low f in
    let k = size (n / c) - prec f in
    round_is f false a c ∙ units_neg f (closest n (c * 2 ^ k)) k ∙ ap neg (sym (round_is f true a c))

neg_mul : (x y : Float) → T (positive (neg x)) → T (positive y) → mul binary64 (neg x) y ≡ neg (mul binary64 x y)
unfolding mul neg
neg_mul (fin true m e) (fin false n d) p q = round_neg binary64 (m * up e * (n * up d)) (down e * down d)
neg_mul (fin true m e) (fin true n d) p q = absurd q
neg_mul (fin true m e) nan p q = absurd q
neg_mul (fin true m e) (inf t) p q = absurd q
neg_mul (fin false m e) y p q = absurd p
neg_mul nan y p q = absurd p
neg_mul (inf s) y p q = absurd p

-- ---- products
pub record Ends (a b c : Float) : Type 0 where
  pub first : T (positive a)
  pub second : T (positive b)
  pub third : T (positive c)

same : (x : Float) → T (positive x) → T (le x x)
same x p = cross→le x x p p (le_refl _)

pub mul_between : (a b c x y : Float) → Ends a b c → T (positive y) → Between a b c x → Between (mul binary64 a y) (mul binary64 b y) (mul binary64 c y) (mul binary64 x y)
mul_between a b c x y E Y (above h l) =
    let X = between a x b E.first E.second h l in
    above (mul_mono binary64 a x y y E.first X Y Y h (same y Y)) (mul_mono binary64 x b y y X E.second Y Y l (same y Y))
mul_between a b c x y E Y (below h l) =
    let X = between a (neg x) c E.first E.third h l in
    let e = neg_mul x y X Y in
    below (subst (λ (v : Float). T (le (mul binary64 a y) v)) e (mul_mono binary64 a (neg x) y y E.first X Y Y h (same y Y)))
    (subst (λ (v : Float). T (le v (mul binary64 c y))) e (mul_mono binary64 (neg x) c y y X E.third Y Y l (same y Y)))

-- ---- the nearest whole number
abbrev whole_of : Float → ℕ
whole_of v = closest (num v) (den v)

mono : (v w : Float) → T (positive v) → T (positive w) → T (le v w) → whole_of v ≤ whole_of w
mono v w p q h = closest_mono (num v) (den v) (num w) (den w) (den_pos v) (den_pos w) (le→cross v w p q h)

-- what the cast of k asks, and the k that it gives
pub record Casts (k : Float) : Type 0 where
  pub fits : T (in_signed binary64 63 k)
  pub index : Index (to_signed 63 k)

-- the k that a callee sees
pub arrives : (k : Float) → to_z w64 (of_z w64 (to_signed 63 k)) ≡ to_signed 63 k
arrives k = to_z-of_z w64 (to_signed 63 k) (record { sfits = to_signed_in 63 k })

pub index_arrives : (k : Float) → Index (to_signed 63 k) → Index (to_z w64 (of_z w64 (to_signed 63 k)))
index_arrives k h = subst (λ (z : ℤ). Index z) (sym (arrives k)) h

casts_above : (v : Float) → T (positive v) → whole_of v ≤ 4194304 → Casts (round_to_integral Nearest v)
unfolding of_int in_float
casts_above (fin false m e) p h =
    let n = closest (m * up e) (down e) in
    let B = positive_back binary64 63 n (le→leb n (2 ^ 53) (le_trans h (lit≤ tt))) (omega arith) in
    subst (λ (k : Float). Casts k) (sym (integral false m e)) (record { fits = B.0; index = subst (λ (z : ℤ). Index z) (sym B.1) h })
casts_above (fin true m e) p h = absurd p
casts_above nan p h = absurd p
casts_above (inf s) p h = absurd p

casts_below : (v : Float) → T (positive (neg v)) → 0 < whole_of (neg v) → whole_of (neg v) ≤ 221184 → Casts (round_to_integral Nearest v)
unfolding neg of_int in_float
casts_below (fin true m e) p z h = subst (λ (k : Float). Casts k) (sym (integral true m e)) (go (closest (m * up e) (down e)) z h)
  where
    go : (n : ℕ) → 0 < n → n ≤ 221184 → Casts (round binary64 true n 1)
    go zero a b = absurd (lt_irrefl 0 a)
    go (suc n) a b = let B = negative_back binary64 63 n (lt→ltb n (2 ^ 53) (omega arith)) (omega arith) in record { fits = B.0; index = subst (λ (z : ℤ). Index z) (sym B.1) b }
casts_below (fin false m e) p z h = absurd p
casts_below nan p z h = absurd p
casts_below (inf s) p z h = absurd p

pub casts_between : (a b c z : Float) → Ends a b c → 0 < whole_of a → whole_of b ≤ 4194304 → whole_of c ≤ 221184 → Between a b c z → Casts (round_to_integral Nearest z)
casts_between a b c z E p q r (above h l) =
    let Z = between a z b E.first E.second h l in
    casts_above z Z (le_trans (mono z b Z E.second l) q)
casts_between a b c z E p q r (below h l) =
    let Z = between a (neg z) c E.first E.third h l in
    casts_below z Z (lt_of_lt_of_le p (mono a (neg z) E.first Z h)) (le_trans (mono (neg z) c Z E.third l) r)

-- ---- k of exp_1 and of exp_2
abbrev by : Float → Float → Float
by x y = mul binary64 x y

weights : Ends least most deepest
unfolding of_bits
weights = record { first = tt; second = tt; third = tt }

logs : Ends (by least LN2H) (by most LN2H) (by deepest LN2H)
unfolding of_bits mul
logs = record { first = tt; second = tt; third = tt }

pub in_log_range : (x : Float) → InRange x → InLogRange (by x LN2H)
unfolding of_bits
in_log_range x r = mul_between least most deepest x LN2H weights tt r

pub exp_1_casts : (y : Float) → InLogRange y → Casts (round_to_integral Nearest (by y INVLOG2))
unfolding of_bits mul
exp_1_casts y r =
    casts_between (by (by least LN2H) INVLOG2) (by (by most LN2H) INVLOG2) (by (by deepest LN2H) INVLOG2) (by y INVLOG2) (record { first = tt; second = tt; third = tt }) (lit< tt) (lit≤ tt) (lit≤ tt)
    (mul_between (by least LN2H) (by most LN2H) (by deepest LN2H) y INVLOG2 logs tt r)

pub exp_2_casts : (x : Float) → InRange x → Casts (round_to_integral Nearest (by x (bits 0x40b0000000000000)))
unfolding of_bits mul
exp_2_casts x r =
    let two12 = bits 0x40b0000000000000 in
    casts_between (by least two12) (by most two12) (by deepest two12) (by x two12) (record { first = tt; second = tt; third = tt }) (lit< tt) (lit≤ tt) (lit≤ tt)
    (mul_between least most deepest x two12 weights tt r)
