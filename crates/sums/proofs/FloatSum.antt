-- x × 1 + z, fused, is the float sum x + z. Assumes nothing.
use Prim.Native.Nat.{ℕ, ◌*◌}
use mathlib.Core.Path.{◌≡◌, refl, sym, ap, ◌∙◌}
use mathlib.Core.List.{[], ◌∷◌}
use mathlib.Core.Bool.{Bool, true, false, cond, true≢false}
use native.Mathlib.Nat.{mul-one}
use lib.IntN.{pos}
use lib.Dec.{lit≤}
use lib.Ieee.{Float, nan, inf, fin, binary64, up, down, unlike, is_nan, nan_bits, of_bits, to_bits, sum, add}
use Rattle.rounding.specs.declared.Direction.TheVariants.{Nearest}
use Rattle.ieee754.specs.Operations.{infinite, plus, fused_multiply_add, quiet, first_nan}
use Rattle.ieee754.proofs.Nans.{number_first, nan_read, fused_by}
use Rattle.exactness.proofs.Nearest.{fused_nearest}
use Rattle.sums.specs.Sum.{one, sum_bits, float_sum, FloatSum}

-- ---- on floats

one_float : of_bits binary64 one ≡ fin false 1 (pos 0)
unfolding of_bits
one_float = refl

same_sign : (s : Bool) → unlike s false ≡ s
same_sign true = refl
same_sign false = refl

fused_one : (x z : Float) → fused_multiply_add Nearest x (fin false 1 (pos 0)) z ≡ add binary64 x z
unfolding fused_multiply_add plus add
fused_one nan z = refl
fused_one (inf s) nan = refl
fused_one (inf s) (inf t) = ap (λ (u : Bool). plus Nearest (infinite u) (inf t)) (same_sign s)
fused_one (inf s) (fin t n d) = ap inf (same_sign s)
fused_one (fin s m e) nan = refl
fused_one (fin s m e) (inf t) = refl
fused_one (fin s m e) (fin t n d) =
    fused_nearest (fin s m e) (fin false 1 (pos 0)) (fin t n d) tt tt tt
    ∙ (λ i. sum binary64 (same_sign s i) (mul-one (m * up e) i * down d) t (n * up d * mul-one (down e) i) (mul-one (down e) i * down d))

-- ---- on patterns

past_one : (a b r : ℕ) → first_nan (a ∷ one ∷ b ∷ []) r ≡ first_nan (a ∷ b ∷ []) r
unfolding first_nan
past_one a b r = ap (λ (n : ℕ). cond (nan_bits binary64 a) (quiet a) n) (sym (number_first one (b ∷ []) r (lit≤ tt)))

pub sum_patterns : (a b : ℕ) → sum_bits a b ≡ first_nan (a ∷ b ∷ []) (to_bits binary64 (float_sum a b))
unfolding sum_bits
sum_patterns a b =
    sym (fused_by Nearest a one b)
    ∙ ap (λ (x : Float). first_nan (a ∷ one ∷ b ∷ []) (to_bits binary64 (fused_multiply_add Nearest (of_bits binary64 a) x (of_bits binary64 b)))) one_float
    ∙ ap (λ (x : Float). first_nan (a ∷ one ∷ b ∷ []) (to_bits binary64 x)) (fused_one (of_bits binary64 a) (of_bits binary64 b))
    ∙ past_one a b _

-- a sum with a NaN is one
nan_left : (x y : Float) → x ≡ nan → is_nan (add binary64 x y) ≡ true
unfolding add is_nan
nan_left x y e = ap (λ (z : Float). is_nan (add binary64 z y)) e

nan_right : (x y : Float) → y ≡ nan → is_nan (add binary64 x y) ≡ true
unfolding add is_nan
nan_right nan y e = refl
nan_right (inf s) y e = ap (λ (z : Float). is_nan (add binary64 (inf s) z)) e
nan_right (fin s m d) y e = ap (λ (z : Float). is_nan (add binary64 (fin s m d) z)) e

pub sum_numbers : (a b : ℕ) → is_nan (float_sum a b) ≡ false → sum_bits a b ≡ to_bits binary64 (float_sum a b)
unfolding first_nan
sum_numbers a b h = sum_patterns a b ∙ go (nan_bits binary64 a) (nan_bits binary64 b) refl refl
  where
    go : (s t : Bool) → nan_bits binary64 a ≡ s → nan_bits binary64 b ≡ t → first_nan (a ∷ b ∷ []) (to_bits binary64 (float_sum a b)) ≡ to_bits binary64 (float_sum a b)
    go true t e f = absurd (true≢false (sym (nan_left _ _ (nan_read a e)) ∙ h))
    go false true e f = absurd (true≢false (sym (nan_right _ _ (nan_read b f)) ∙ h))
    go false false e f = rw (e, f) refl

pub float_sum_lem : FloatSum
float_sum_lem = record { numbers = sum_numbers; patterns = sum_patterns }
