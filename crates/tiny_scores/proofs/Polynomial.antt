-- The constants and a weight of step 5 as whole numbers of 1 / N, and how far a number lies from the exact sum, by positive and negative parts. Assumes nothing.
use mathlib.Core.Path.{◌≡◌, refl, ap, ◌∙◌, subst}
use mathlib.Core.Bool.{Bool, true, false}
use Prim.Native.Nat.{ℕ, ◌+◌, ◌*◌}
use native.Mathlib.Omega.{arith}
use lib.Dec.{T}
use lib.IntN.{ℤ, pos, nat_abs, sub_ℕ, ◌+ℤ◌, ◌-ℤ◌, ◌*ℤ◌}
use lib.Ieee.{Float, binary64, fits, of_bits, unlike}
use lib.Ieee.Bits.{of_bits-fits}
use lib.Ieee.Exact.{HasValue}
use lib.Ieee.Scale.{finite}
use Rattle.exactness.specs.Values.{magnitude, sign, signed, value}
use Rattle.exactness.proofs.Multiples.{distance}
use Rattle.exactness.proofs.Precision.{Representable}
use Rattle.exactness.proofs.Signed.{pos_part, neg_part, signed_is, sub_add, signed_mul, unlike_false}
use Rattle.exactness.proofs.Units.{in_units_lem, value_is}
use Rattle.rounding_errors.specs.Spacing.{value_of, size_of}
use Rattle.rounding_errors.proofs.Integers.{abs_apart}
use Rattle.pair.specs.Pair.{bits}
use Rattle.exponential.specs.Constants.{LN2H, LN2L}
use Rattle.exp2m1.specs.Constants.{C2}
use Rattle.tiny_scores.specs.TinyScores.{N, exact}
use Rattle.tiny_scores.proofs.Weights.{Weight}

-- ---- a number with the sign s, of 53 digits
pub record Number (c : Float) (s : Bool) : Type 0 where
  pub val : HasValue c s (magnitude binary64 c) N
  pub rep : Representable 53 (magnitude binary64 c)

number : (c : Float) (s : Bool) → T (fits binary64 c) → T (finite c) → sign c ≡ s → Number c s
number c s t r e = let K = in_units_lem binary64 c t r in record { val = subst (λ (z : Bool). HasValue c z (magnitude binary64 c) N) e K.val; rep = K.rep }

-- the constants
pub number_H : Number LN2H false
unfolding of_bits fits
number_H = number LN2H false tt tt refl

pub number_L : Number LN2L false
unfolding of_bits fits
number_L = number LN2L false tt tt refl

pub number_C : Number C2 false
unfolding of_bits fits
number_C = number C2 false tt tt refl

-- their sizes, in the source's order
abbrev pub h : ℕ
h = magnitude binary64 LN2H

abbrev pub l : ℕ
l = magnitude binary64 LN2L

abbrev pub c : ℕ
c = magnitude binary64 C2

pub number_x : (ux : ℕ) → Weight ux → Number (bits ux) (sign (bits ux))
number_x ux W = number (bits ux) (sign (bits ux)) (of_bits-fits binary64 ux) W.number refl

-- ---- how far ±n is from ±a + d
apart : (q : Bool) (n : ℕ) (u : Bool) (a d : ℕ) → nat_abs (signed q n -ℤ (signed u a +ℤ pos d)) ≡ distance (pos_part q n + neg_part u a) (neg_part q n + (pos_part u a + d))
apart q n u a d =
    ap (λ (z : ℤ). nat_abs (signed q n -ℤ (z +ℤ pos d))) (signed_is u a)
    ∙ ap (λ (z : ℤ). nat_abs (signed q n -ℤ (sub_ℕ (pos_part u a) (neg_part u a) +ℤ z))) (signed_is false d)
    ∙ ap (λ (z : ℤ). nat_abs (signed q n -ℤ z)) (sub_add (pos_part u a) (neg_part u a) d 0)
    ∙ ap (λ (z : ℤ). nat_abs (z -ℤ sub_ℕ (pos_part u a + d) (neg_part u a + 0))) (signed_is q n)
    ∙ abs_apart (pos_part q n) (neg_part q n) (pos_part u a + d) (neg_part u a + 0)
    ∙ zero (pos_part q n) (neg_part u a) (neg_part q n + (pos_part u a + d))
  where
    zero : (x y z : ℕ) → distance (x + (y + 0)) z ≡ distance (x + y) z
    zero x y z = omega arith

pub unlike_back : (s : Bool) → unlike (unlike false s) s ≡ false
unlike_back true = refl
unlike_back false = refl

module _ (ux : ℕ) (W : Weight ux) where
  abbrev X : ℕ
  X = size_of ux

  abbrev s : Bool
  s = sign (bits ux)

  -- the sign of every product of a constant with x
  abbrev u : Bool
  u = unlike false s

  first_term : (value binary64 LN2H +ℤ value binary64 LN2L) *ℤ value_of ux *ℤ pos N ≡ signed u ((h + l) * X * N)
  first_term =
      ap (λ (z : ℤ). (z +ℤ value binary64 LN2L) *ℤ value_of ux *ℤ pos N) (value_is binary64 LN2H false h number_H.val)
      ∙ ap (λ (z : ℤ). (pos h +ℤ z) *ℤ value_of ux *ℤ pos N) (value_is binary64 LN2L false l number_L.val)
      ∙ ap (λ (z : ℤ). z *ℤ pos N) (signed_mul false (h + l) s X)
      ∙ signed_mul u ((h + l) * X) false N
      ∙ ap (λ (b : Bool). signed b ((h + l) * X * N)) (unlike_false u)

  second_term : value binary64 C2 *ℤ value_of ux *ℤ value_of ux ≡ pos (c * X * X)
  second_term =
      ap (λ (z : ℤ). z *ℤ value_of ux *ℤ value_of ux) (value_is binary64 C2 false c number_C.val)
      ∙ ap (λ (z : ℤ). z *ℤ value_of ux) (signed_mul false c s X)
      ∙ signed_mul u (c * X) s X
      ∙ ap (λ (b : Bool). signed b (c * X * X)) (unlike_back s)

  -- ±n times M, from the exact sum
  pub away_is : (q : Bool) (n M : ℕ)
      → nat_abs (signed q n *ℤ pos M -ℤ exact (value_of ux)) ≡ distance (pos_part q (n * M) + neg_part u ((h + l) * X * N)) (neg_part q (n * M) + (pos_part u ((h + l) * X * N) + c * X * X))
  away_is q n M =
      ap (λ (z : ℤ). nat_abs (z -ℤ exact (value_of ux))) (signed_mul q n false M ∙ ap (λ (b : Bool). signed b (n * M)) (unlike_false q))
      ∙ ap (λ (z : ℤ). nat_abs (signed q (n * M) -ℤ (z +ℤ value binary64 C2 *ℤ value_of ux *ℤ value_of ux))) first_term
      ∙ ap (λ (z : ℤ). nat_abs (signed q (n * M) -ℤ (signed u ((h + l) * X * N) +ℤ z))) second_term
      ∙ apart q (n * M) u ((h + l) * X * N) (c * X * X)
