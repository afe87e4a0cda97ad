-- What is rounded is a value that binary64 holds. Assumes nothing.
use mathlib.Core.Path.{subst}
use Prim.Native.Nat.{ℕ, ◌-◌, ◌*◌, ◌/◌, ◌^◌, ◌≤◌, ◌<◌}
use native.Mathlib.Nat.{le_trans, lt_of_le_of_lt, mul-pos, div-div-eq-div-mul}
use mathlib.Core.Bool.{Bool, true, false, cond}
use lib.Dec.{T, ltb, ltb→lt, lit<}
use lib.Pow.{pow_pos}
use lib.Ieee.{Float, nan, inf, fin, binary64, size, odd, units, fits}
use lib.Ieee.Fits.{odd-fits, inf-fits, kept-lt}
use Rattle.rounding.specs.declared.Direction.{Direction}
use Rattle.rounding.specs.declared.Direction.TheVariants.{Nearest, TowardZero, Up, Down}
use Rattle.rounding.specs.Rounding.{whole, overflow, bounded, round_to}
use Rattle.rounding.proofs.Place.{whole_next}

units_fit : (s : Bool) (q k : ℕ) → q ≤ 2 ^ 53 → T (fits binary64 (units binary64 s q k))
unfolding units
units_fit s q k h = go (ltb (q * 2 ^ k) (2 ^ 2098)) (ltb→lt (q * 2 ^ k) (2 ^ 2098))
  where
    go : (b : Bool) → (T b → q * 2 ^ k < 2 ^ 2098) → T (fits binary64 (cond b (odd 54 s q k 1074) (inf s)))
    go true f = odd-fits binary64 54 s q k (lt_of_le_of_lt h (lit< tt)) h (f tt)
    go false f = inf-fits binary64 s

overflow_fits : (d : Direction) (s : Bool) → T (fits binary64 (overflow d binary64 s))
unfolding fits
overflow_fits Nearest s = inf-fits binary64 s
overflow_fits TowardZero true = tt
overflow_fits TowardZero false = tt
overflow_fits Up true = tt
overflow_fits Up false = inf-fits binary64 false
overflow_fits Down true = inf-fits binary64 true
overflow_fits Down false = tt

bounded_fits : (d : Direction) (x : Float) → T (fits binary64 x) → T (fits binary64 (bounded d binary64 x))
bounded_fits d nan h = h
bounded_fits d (inf s) h = overflow_fits d s
bounded_fits d (fin s m e) h = h

pub rounded_fits : (d : Direction) (s : Bool) (num den : ℕ) → 0 < den → T (fits binary64 (round_to d binary64 s num den))
unfolding round_to
rounded_fits d s num den D =
    let n = num * 2 ^ 1074 in
    let k = size (n / den) - 53 in
    let u = den * 2 ^ k in
    bounded_fits d (units binary64 s (whole d s n u) k)
    (units_fit s (whole d s n u) k (le_trans (whole_next d s n u (mul-pos D (pow_pos k))) (subst (λ (x : ℕ). x < 2 ^ 53) (div-div-eq-div-mul n den (2 ^ k)) (kept-lt 53 (n / den)))))
