-- The result of each operation is a value that binary64 holds. Assumes nothing.
use Prim.Native.Nat.{ℕ, ◌+◌, ◌-◌, ◌*◌, ◌<◌}
use native.Mathlib.Nat.{mul-pos}
use mathlib.Core.Bool.{Bool, true, false, cond, beq}
use lib.IntN.{ℤ, pos}
use lib.Dec.{T, ltb, eqb, lit<}
use lib.Ieee.{Float, nan, inf, fin, binary64, unlike, up, down, fits}
use lib.Ieee.Fits.{cond-fits, nan-fits, inf-fits, down_pos}
use Rattle.rounding.specs.declared.Direction.{Direction}
use Rattle.rounding.specs.Rounding.{whole, round_to}
use Rattle.rounding.proofs.Fits.{rounded_fits}
use Rattle.ieee754.specs.Operations.{Product, invalid, infinite, exactly, product, zero_sign, sum_to, plus, fused_multiply_add, round_to_integral, scale_b}

zero_fits : (s : Bool) → T (fits binary64 (fin s 0 (pos 0)))
unfolding fits
zero_fits s = tt

sum_fits : (d : Direction) (s : Bool) (a : ℕ) (t : Bool) (b c : ℕ) → 0 < c → T (fits binary64 (sum_to d s a t b c))
unfolding sum_to
sum_fits d s a t b c C =
    cond-fits binary64 (beq s t) (round_to d binary64 s (a + b) c) (cond (ltb a b) (round_to d binary64 t (b - a) c) (cond (ltb b a) (round_to d binary64 s (a - b) c) (fin (zero_sign d) 0 (pos 0)))) (rounded_fits d s (a + b) c C)
    (cond-fits binary64 (ltb a b) (round_to d binary64 t (b - a) c) (cond (ltb b a) (round_to d binary64 s (a - b) c) (fin (zero_sign d) 0 (pos 0))) (rounded_fits d t (b - a) c C)
    (cond-fits binary64 (ltb b a) (round_to d binary64 s (a - b) c) (fin (zero_sign d) 0 (pos 0)) (rounded_fits d s (a - b) c C) (zero_fits (zero_sign d))))

-- the divisor of an exact product is above 0
abbrev Sound : Product → Type 0
Sound invalid = 0 < 1
Sound (infinite s) = 0 < 1
Sound (exactly s a c) = 0 < c

zero_or : (b : Bool) (p : Product) → Sound p → Sound (cond b invalid p)
zero_or true p h = lit< tt
zero_or false p h = h

product_sound : (x y : Float) → Sound (product x y)
product_sound nan y = lit< tt
product_sound (inf s) nan = lit< tt
product_sound (inf s) (inf t) = lit< tt
product_sound (inf s) (fin t n d) = zero_or (eqb n 0) (infinite (unlike s t)) (lit< tt)
product_sound (fin s m e) nan = lit< tt
product_sound (fin s m e) (inf t) = zero_or (eqb m 0) (infinite (unlike s t)) (lit< tt)
product_sound (fin s m e) (fin t n d) = mul-pos (down_pos e) (down_pos d)

plus_fits : (d : Direction) (p : Product) (z : Float) → Sound p → T (fits binary64 (plus d p z))
unfolding plus
plus_fits d invalid z P = nan-fits binary64
plus_fits d (infinite s) nan P = nan-fits binary64
plus_fits d (infinite s) (inf t) P = cond-fits binary64 (beq s t) (inf s) nan (inf-fits binary64 s) (nan-fits binary64)
plus_fits d (infinite s) (fin t n e) P = inf-fits binary64 s
plus_fits d (exactly s a c) nan P = nan-fits binary64
plus_fits d (exactly s a c) (inf t) P = inf-fits binary64 t
plus_fits d (exactly s a c) (fin t n e) P = sum_fits d s (a * down e) t (n * up e * c) (c * down e) (mul-pos P (down_pos e))

pub fused_fits : (d : Direction) (x y z : Float) → T (fits binary64 (fused_multiply_add d x y z))
unfolding fused_multiply_add
fused_fits d x y z = plus_fits d (product x y) z (product_sound x y)

pub integral_fits : (d : Direction) (x : Float) → T (fits binary64 (round_to_integral d x))
unfolding round_to_integral
integral_fits d nan = nan-fits binary64
integral_fits d (inf s) = inf-fits binary64 s
integral_fits d (fin s m e) = rounded_fits d s (whole d s (m * up e) (down e)) 1 (lit< tt)

pub scale_fits : (d : Direction) (x : Float) (n : ℤ) → T (fits binary64 (scale_b d x n))
unfolding scale_b
scale_fits d nan n = nan-fits binary64
scale_fits d (inf s) n = inf-fits binary64 s
scale_fits d (fin s m e) n = rounded_fits d s (m * up e * up n) (down e * down n) (mul-pos (down_pos e) (down_pos n))
