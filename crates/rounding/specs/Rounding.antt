-- Rounding in a direction: IEEE 754-2019 4.3, over the floats and formats of lib.Ieee. Definitions only.
-- An exact number is a sign (true: negative) and a size, the fraction num / den with den above 0.
use Prim.Native.Nat.{ℕ, suc, ◌-◌, ◌*◌, ◌/◌, ◌%◌, ◌^◌, compare}
use Rattle.std.specs.Prelude.{◌≡◌, Bool, cond, eqb, pos}
use lib.Ieee.{Float, nan, inf, fin, Format, prec, emax, low, size, nearest, units, round}
use Rattle.rounding.specs.declared.Direction.{Direction}
use Rattle.rounding.specs.declared.Direction.TheVariants.{Nearest, TowardZero, Up, Down}

-- the least whole number that is not below n / u
abbrev pub ceiling : ℕ → ℕ → ℕ
ceiling n u = cond (eqb (n % u) 0) (n / u) (suc (n / u))

-- the size of ±n / u as a whole number: to nearest with ties to even (4.3.1), or directed (4.3.2)
abbrev pub whole : Direction → Bool → ℕ → ℕ → ℕ
whole Nearest s n u = nearest (n / u) (compare (n % u * 2) u)
whole TowardZero s n u = n / u
whole Up s n u = cond s (n / u) (ceiling n u)
whole Down s n u = cond s (ceiling n u) (n / u)

-- the largest finite number: (2 ^ prec - 1) * 2 ^ (emax - prec + 1)
abbrev pub largest : Format → Bool → Float
largest f s = fin s (2 ^ prec f - 1) (pos (suc (emax f) - prec f))

-- what a result beyond the largest finite number becomes (7.4)
abbrev pub overflow : Direction → Format → Bool → Float
overflow Nearest f s = inf s
overflow TowardZero f s = largest f s
overflow Up f s = cond s (largest f s) (inf s)
overflow Down f s = cond s (inf s) (largest f s)

abbrev pub bounded : Direction → Format → Float → Float
bounded d f nan = nan
bounded d f (inf s) = overflow d f s
bounded d f (fin s m e) = fin s m e

-- ±num / den in the format f. In units of f's smallest value the size is n / den; of its whole part the `prec` leading digits are kept
-- and k are dropped, as in lib.Ieee.
unfoldable pub round_to : Direction → Format → Bool → ℕ → ℕ → Float
unfolding size units
round_to d f s num den =
    let n = num * 2 ^ low f in
    let k = size (n / den) - prec f in
    bounded d f (units f s (whole d s n (den * 2 ^ k)) k)

-- to nearest it is lib.Ieee's own (`nearest_is_round` of proofs/Rounding.antt)
abbrev pub NearestIsRound : Type 0
NearestIsRound = (f : Format) (s : Bool) (num den : ℕ) → round_to Nearest f s num den ≡ round f s num den
