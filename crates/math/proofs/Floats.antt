-- From an operation on patterns to the same on floats. A float that fits is read back from its own pattern. Assumes nothing.
use mathlib.Core.Path.{◌≡◌, refl, sym, ap, ◌∙◌, subst}
use Prim.Native.Nat.{ℕ, ◌%◌, ◌≤◌, ◌<◌}
use mathlib.Core.Bool.{Bool, true, not, true≢false}
use lib.Dec.{T}
use lib.Ieee.{Float, nan, inf, fin, binary64, is_nan, fits, nan_bits, of_bits, to_bits}
use lib.Ieee.Bits.{of_bits-to_bits}
use Rattle.rounding.specs.declared.Direction.{Direction}
use Rattle.rounding.specs.declared.Direction.TheVariants.{Nearest, Down}
use Rattle.ieee754.specs.Operations.{fused_multiply_add, round_to_integral, fused_bits, round_bits, floor_bits}
use Rattle.ieee754.proofs.Nans.{nan_pattern, number_pattern, nan_read, same_floats}

-- ---- the patterns of NaNs

pub a_nan : (x : Float) → is_nan x ≡ true → 0x7ff8000000000000 ≡ to_bits binary64 x
unfolding is_nan to_bits
a_nan nan e = refl
a_nan (inf s) e = absurd (true≢false (sym e))
a_nan (fin s m x) e = absurd (true≢false (sym e))

pub pattern_nan : (b : ℕ) → 0x7ff0000000000000 < b % 0x8000000000000000 → nan ≡ of_bits binary64 b
pattern_nan b h = sym (nan_read b (nan_pattern b h))

pub pattern_number : (b : ℕ) → b % 0x8000000000000000 ≤ 0x7ff0000000000000 → T (not (nan_bits binary64 b))
pattern_number b h = subst (λ (t : Bool). T (not t)) (sym (number_pattern b h)) tt

-- ---- a float from its pattern

pub back : (x : Float) (a : ℕ) → fits binary64 x ≡ true → a ≡ to_bits binary64 x → of_bits binary64 a ≡ x
back x a f e = ap (of_bits binary64) e ∙ of_bits-to_bits binary64 x (subst (λ (t : Bool). T t) (sym f) tt)

-- ---- operations

pub fused_read : (d : Direction) (a b c w : ℕ) → w ≡ fused_bits d a b c → of_bits binary64 w ≡ fused_multiply_add d (of_bits binary64 a) (of_bits binary64 b) (of_bits binary64 c)
fused_read d a b c w e = ap (of_bits binary64) e ∙ same_floats.fused d a b c

pub round_floats : (x r : Float) (a w : ℕ) → fits binary64 x ≡ true → a ≡ to_bits binary64 x → w ≡ round_bits a → r ≡ of_bits binary64 w → r ≡ round_to_integral Nearest x
round_floats x r a w f ea ew er = er ∙ ap (of_bits binary64) ew ∙ same_floats.round a ∙ ap (round_to_integral Nearest) (back x a f ea)

pub floor_floats : (x r : Float) (a w : ℕ) → fits binary64 x ≡ true → a ≡ to_bits binary64 x → w ≡ floor_bits a → r ≡ of_bits binary64 w → r ≡ round_to_integral Down x
floor_floats x r a w f ea ew er = er ∙ ap (of_bits binary64) ew ∙ same_floats.floor a ∙ ap (round_to_integral Down) (back x a f ea)
