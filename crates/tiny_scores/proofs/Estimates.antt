-- The estimates of TwoTerms over plain whole numbers: w is the last place of x, v = w / 2 ^ 50, g the spacing of the result. Assumes nothing.
use mathlib.Core.Path.{◌≡◌, ap}
use Prim.Native.Nat.{ℕ, ◌+◌, ◌*◌, ◌^◌, ◌≤◌, ◌<◌}
use native.Mathlib.Nat.{mul-le-mul_left, mul-le-mul_right}
use native.Mathlib.Omega.{arith}
use mathlib.Core.Bool.{Bool, true, false}
use Rattle.exactness.proofs.Multiples.{distance}
use Rattle.exactness.proofs.Signed.{pos_part, neg_part, IsDifference}
use Rattle.rounding_errors.proofs.Results.{Within}
use Rattle.tiny_scores.specs.TinyScores.{share}

-- ---- sizes
pub v_small : (v w : ℕ) → w ≡ 2 ^ 50 * v → 4 * v ≤ w
v_small v w e = omega arith

-- LN2L * x and the rest of LN2H * x
pub rest_le : (B rest X w : ℕ) → 2 ^ 55 * B ≤ 1 * X → X < 2 ^ 53 * w → 2 * rest ≤ w → B + rest ≤ w
rest_le B rest X w a b c = omega arith

-- C2 * x * x
pub square_le : (Cx c_x square X w : ℕ) → 2 ^ 50 * square ≤ 1 * c_x → 2 * distance Cx c_x ≤ w → 4 * Cx ≤ 1 * X → X < 2 ^ 53 * w → square ≤ 3 * w
square_le Cx c_x square X w a b c d = last square c_x w a (mid Cx c_x w b (first Cx X w c d))
  where
    first : (Cx X w : ℕ) → 4 * Cx ≤ 1 * X → X < 2 ^ 53 * w → Cx ≤ 2 ^ 51 * w
    first Cx X w a b = omega arith

    mid : (Cx c_x w : ℕ) → 2 * distance Cx c_x ≤ w → Cx ≤ 2 ^ 51 * w → c_x ≤ (2 ^ 51 + 1) * w
    mid Cx c_x w a b = omega arith

    last : (square c_x w : ℕ) → 2 ^ 50 * square ≤ 1 * c_x → c_x ≤ (2 ^ 51 + 1) * w → square ≤ 3 * w
    last square c_x w a b = omega arith

pub low_le : (lo m Q square v w : ℕ) → lo ≤ m + v → m ≤ w → distance square Q ≤ v → square ≤ 3 * w → 4 * v ≤ w → lo + Q ≤ 5 * w
low_le lo m Q square v w a b c d e = omega arith

pub mid_le : (mid m v w : ℕ) → mid ≤ m + v → m ≤ 5 * w → 4 * v ≤ w → mid ≤ 6 * w
mid_le mid m v w a b c = omega arith

pub high_ge : (A X w : ℕ) → 1 * X ≤ 2 * A → 2 ^ 52 * w ≤ X → 2 ^ 51 * w ≤ A
high_ge A X w a b = omega arith

pub end_ge : (hi mid n w : ℕ) → 2 ^ 51 * w ≤ hi → mid ≤ 6 * w → hi ≤ n + mid → 2 ^ 50 * w ≤ n
end_ge hi mid n w a b c = omega arith

pub end_le : (hi mid n w : ℕ) → hi ≤ 2 ^ 53 * w → mid ≤ 6 * w → n ≤ hi + mid → n ≤ 2 ^ 54 * w
end_le hi mid n w a b c = omega arith

-- all but the last sum is exact in w, and rounded within v
pub below_wide : (n m w v : ℕ) → n ≤ m * w → m ≤ 8 → w ≡ 2 ^ 50 * v → 0 < v → n < 2 ^ 54 * v
below_wide n m w v a b c d = let k : m * w ≤ 8 * w = mul-le-mul_right w b in omega arith

pub large : (u q : Bool) (h m : ℕ) → h ≤ distance (pos_part u h + pos_part q m) (neg_part u h + neg_part q m) + m
large false false h m = omega arith
large false true h m = omega arith
large true false h m = omega arith
large true true h m = omega arith

-- ---- errors
pub final : (s : Bool) (n r P N g : ℕ) → IsDifference s n P N → 2 * distance n r ≤ g → Within (2 * pos_part s r) (2 * neg_part s r) (2 * P) (2 * N) g
final true n r P N g i h = record { over = omega arith; under = omega arith }
final false n r P N g i h = record { over = omega arith; under = omega arith }

pub apart_within : (a b e : ℕ) → distance a b ≤ e → Within b 0 a 0 e
apart_within a b e h = record { over = omega arith; under = omega arith }

-- hi and rest are A; lo is B and rest, mid is lo and Q, end is hi and mid, each but for its rounding. A name with p and one with n for each number.
pub together : (hp hn rp rn lp ln mp mn ep en xp xn yp yn Q square v g : ℕ)
    → hp + rp + xn ≡ xp + (hn + rn)
    → Within lp ln (yp + rp) (yn + rn) v
    → Within Q 0 square 0 v
    → Within mp mn (lp + Q) (ln + 0) v
    → Within (2 * ep) (2 * en) (2 * (hp + mp)) (2 * (hn + mn)) g
    → Within (2 * ep) (2 * en) (2 * (xp + yp + square)) (2 * (xn + yn)) (g + 6 * v)
together hp hn rp rn lp ln mp mn ep en xp xn yp yn Q square v g i j k l m = record { over = omega arith; under = omega arith }

-- the product of the rounded C2 * x and x, where that of the exact one is meant
pub drift : (Cx c_x X w v U square : ℕ) → square * U ≡ c_x * X → 2 * distance Cx c_x ≤ w → w ≡ 2 ^ 50 * v → 2 ^ 50 * X ≤ 1 * U → Within (square * U) 0 (Cx * X) 0 (v * U)
drift Cx c_x X w v U square e h k l =
    let o : c_x ≤ Cx + w = omega arith in
    let u : Cx ≤ c_x + w = omega arith in
    let po : c_x * X ≤ (Cx + w) * X = mul-le-mul_right X o in
    let pu : Cx * X ≤ (c_x + w) * X = mul-le-mul_right X u in
    let q : v * (2 ^ 50 * X) ≤ v * (1 * U) = mul-le-mul_left v l in
    let r : w * X ≡ 2 ^ 50 * v * X = ap (λ (y : ℕ). y * X) k in
    record { over = omega arith; under = omega arith }

-- all times U * U, with the exact D in place of the square
pub scaled : (ep en xp xn square Z D v g U : ℕ) → Within (2 * ep) (2 * en) (2 * (xp + square)) (2 * xn) (g + 6 * v) → Within (square * U) 0 Z 0 (v * U) → Z * U ≡ D → 2 ^ 48 * v ≤ g
    → 2 ^ 40 * distance (ep * (U * U) + xn * (U * U)) (en * (U * U) + (xp * (U * U) + D)) ≤ share * (g * (U * U))
scaled ep en xp xn square Z D v g U h k e l =
    let ho = mul-le-mul_right (U * U) h.over in
    let hu = mul-le-mul_right (U * U) h.under in
    let ko = mul-le-mul_right U k.over in
    let ku = mul-le-mul_right U k.under in
    let lg = mul-le-mul_right (U * U) l in
    omega arith
