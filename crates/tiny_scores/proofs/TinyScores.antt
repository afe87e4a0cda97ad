-- Request A.9: the scores of step 5, by the two terms or by an entry, and that what is close to the exact sum is a number. Assumes nothing.
use mathlib.Core.Path.{◌≡◌, refl, sym, ap, ◌∙◌, subst}
use mathlib.Core.Bool.{Bool, true, false}
use mathlib.Core.Logic.{inl, inr}
use Prim.Native.Nat.{ℕ, ◌+◌, ◌*◌, ◌%◌, ◌^◌, ◌≤◌, ◌<◌}
use native.Mathlib.Nat.{le_trans, le_of_eq, lt_of_le_of_lt, lt_of_lt_of_le, mul-le-mul_left, mul-lt-mul_of_pos_right, mul_right_comm, zero-mul}
use native.Mathlib.Omega.{arith}
use lib.Dec.{T, lit≤, lit<}
use lib.IntN.{ℤ, pos, nat_abs, ◌-ℤ◌, ◌*ℤ◌}
use lib.Ieee.{Float, nan, inf, fin, binary64, fits, of_bits, to_bits, unlike, add, mul}
use lib.Ieee.Bits.{of_bits-to_bits}
use lib.Ieee.Fits.{add-fits}
use lib.Ieee.Scale.{finite}
use Rattle.wide.proofs.Nat.{le_or_gt}
use Rattle.ieee754.proofs.Nans.{number_last}
use Rattle.operands.proofs.Reading as reading
use Rattle.operands.proofs.Reading.{Finite, units}
use Rattle.exactness.specs.Values.{magnitude, sign, value}
use Rattle.exactness.proofs.Multiples.{distance}
use Rattle.exactness.proofs.Precision.{dropped}
use Rattle.exactness.proofs.Signed.{pos_part, neg_part}
use Rattle.exactness.proofs.Units.{value_is, magnitude_is, has_finite}
use Rattle.rounding_errors.specs.Spacing.{value_of, size_of, spacing}
use Rattle.rounding_errors.proofs.Spacing.{spacings, spacing_is, under_largest, no_number, finite_is}
use Rattle.pair.specs.Pair.{bits}
use Rattle.double_double.specs.Pairs.{fma, a_mul}
use Rattle.exceptions.specs.declared.Stretch.TheVariants.{First}
use Rattle.std.specs.Prelude.{Option, unwrap_or}
use Rattle.exceptions.specs.Lookup.{reply_of, nth, find, entries, Finds, present, absent}
use Rattle.exceptions.proofs.Scan.{finds}
use Rattle.exponential.specs.Constants.{LN2H, LN2L}
use Rattle.exp2m1.specs.Constants.{C2}
use Rattle.exp2m1.specs.Phases.{exp2m1_two_terms}
use Rattle.exp2m1.specs.Score.{steps, score_bits}
use Rattle.exp2m1.proofs.Steps.{step_5}
use Rattle.tiny_scores.specs.TinyScores.{N, exact, away, share, Close, Tiny, TinyScores, CloseIsFinite}
use Rattle.tiny_scores.proofs.Entries.{entry_meets}
use Rattle.tiny_scores.proofs.Weights.{Weight, weight, equal_value}
use Rattle.tiny_scores.proofs.Polynomial.{h, l, c, away_is}
use Rattle.tiny_scores.proofs.TwoTerms.{two_terms_near}

-- ---- the two terms
sum_fits : (x : Float) → T (fits binary64 (exp2m1_two_terms x))
unfolding exp2m1_two_terms
sum_fits x = let p = a_mul LN2H x in add-fits binary64 p.hi (add binary64 (fma LN2L x p.lo) (mul binary64 (mul binary64 C2 x) x))

two_terms_close : (ux : ℕ) → Weight ux → Close (value_of ux) (to_bits binary64 (exp2m1_two_terms (bits ux)))
two_terms_close ux W =
    let r = exp2m1_two_terms (bits ux) in
    let b = to_bits binary64 r in
    let K = two_terms_near ux W in
    let e : bits b ≡ r = of_bits-to_bits binary64 r (sum_fits (bits ux)) in
    let m : size_of b ≡ K.size = ap (magnitude binary64) e ∙ magnitude_is binary64 r K.side K.size K.val in
    let t = subst (λ (z : Float). T (finite z)) (sym e) (has_finite r K.side K.size N K.val) in
    let s : spacing b ≡ 2 ^ dropped 53 K.size = spacing_is b (under_largest b t (lt_of_le_of_lt (le_trans (le_of_eq m) K.most) (lit< tt))) ∙ ap (λ (n : ℕ). 2 ^ dropped 53 n) m in
    subst (λ (g : ℕ). 2 ^ 40 * away (value_of ux) b ≤ share * (g * (N * N))) (sym s)
    (subst (λ (z : ℤ). 2 ^ 40 * nat_abs (z *ℤ pos (N * N) -ℤ exact (value_of ux)) ≤ share * (2 ^ dropped 53 K.size * (N * N)))
    (sym (ap (value binary64) e ∙ value_is binary64 r K.side K.size K.val)) K.near)

-- ---- an entry that was found, or the two terms
step_close : (ux : ℕ) → Weight ux → (e : Option Float) → Finds (entries First) (bits ux) e → Close (value_of ux) (to_bits binary64 (unwrap_or e (exp2m1_two_terms (bits ux))))
step_close ux W e (present i p k) =
    let M = entry_meets i p in
    subst (λ (v : ℤ). Close v (to_bits binary64 (reply_of (nth (entries First) i)))) (sym (equal_value binary64 (bits ux) (nth (entries First) i).x W.number M.number k)) M.close
step_close ux W e (absent none) = two_terms_close ux W

pub tiny_scores : TinyScores
unfolding score_bits
tiny_scores ux l t =
    let W = weight ux t in
    let p = W.pattern in
    let u = t.upto in
    subst (λ (r : ℕ). Close (value_of ux) r)
    (ap (to_bits binary64) (sym (step_5 (entries First) ux (bits ux) (omega arith) (omega arith) p (omega arith)))
    ∙ number_last ux (to_bits binary64 (steps (entries First) ux (bits ux))) (omega arith))
    (step_close ux W (find (entries First) (bits ux)) (finds (entries First) (bits ux)))

-- ---- a NaN and an infinity count as 0 and have the spacing 0, and 0 is away from the exact sum
no_value : (z : Float) → (T (finite z) → ⊥) → value binary64 z ≡ pos 0
no_value nan k = refl
no_value (inf true) k = refl
no_value (inf false) k = refl
no_value (fin s m e) k = absurd (k tt)

-- the square is less than the first term
square_less : (ux : ℕ) → Weight ux → c * size_of ux * size_of ux < (h + l) * size_of ux * N
unfolding of_bits
square_less ux W =
    let X = size_of ux in
    let P : 0 < X = lt_of_lt_of_le (lit< tt) W.least in
    lt_of_lt_of_le (mul-lt-mul_of_pos_right (lt_of_le_of_lt (mul-le-mul_left c W.most) (lit< tt)) P) (le_of_eq (mul_right_comm (h + l) N X))

zero_away : (u : Bool) (A D M : ℕ) → D < A → 0 < distance (pos_part false (0 * M) + neg_part u A) (neg_part false (0 * M) + (pos_part u A + D))
zero_away true A D M k = omega arith
zero_away false A D M k = omega arith

not_close : (ux r : ℕ) → Weight ux → 0x7ff0000000000000 ≤ r % 2 ^ 63 → Close (value_of ux) r → ⊥
not_close ux r W k =
    none (away (value_of ux) r) (spacing r) (N * N)
    (subst (λ (n : ℕ). 0 < n)
    (sym (ap (λ (v : ℤ). nat_abs (v *ℤ pos (N * N) -ℤ exact (value_of ux))) (no_value (bits r) (no_number r k)) ∙ away_is ux W false 0 (N * N)))
    (zero_away (unlike false (sign (bits ux))) ((h + l) * size_of ux * N) (c * size_of ux * size_of ux) (N * N) (square_less ux W)))
    (spacings.nowhere r (le_trans (lit≤ tt) k))
  where
    none : (a g w : ℕ) → 0 < a → g ≡ 0 → 2 ^ 40 * a ≤ share * (g * w) → ⊥
    none a g w p e i = let z : g * w ≡ 0 = ap (λ (n : ℕ). n * w) e ∙ zero-mul w in omega arith

pub close-is_finite : CloseIsFinite
close-is_finite ux r t k =
    elim (le_or_gt 0x7ff0000000000000 (r % 2 ^ 63)) [
      | inl g ↦ absurd (not_close ux r (weight ux t) g k)
      | inr g ↦ go (reading.finite r g)
    ]
  where
    go : Finite r → T (finite (bits r))
    go (units q i u) = finite_is r q i u

-- ---- applied to the ends of the range
pub first_weight : Tiny 0x3970000000000001
unfolding of_bits
first_weight = record { above = lit< tt; upto = lit≤ tt }

pub last_weight : Tiny 0xbcc0527dbd87e24d
unfolding of_bits
last_weight = record { above = lit< tt; upto = lit≤ tt }

pub at_the_ends : Close (value_of 0x3970000000000001) (score_bits 0x3970000000000001) × Close (value_of 0xbcc0527dbd87e24d) (score_bits 0xbcc0527dbd87e24d)
at_the_ends = (tiny_scores 0x3970000000000001 (lit< tt) first_weight, tiny_scores 0xbcc0527dbd87e24d (lit< tt) last_weight)

-- a NaN and an infinity are not close to the last
pub no_nan : Close (value_of 0xbcc0527dbd87e24d) 0x7ff8000000000000 → ⊥
no_nan k = no_number 0x7ff8000000000000 (lit≤ tt) (close-is_finite 0xbcc0527dbd87e24d 0x7ff8000000000000 last_weight k)

pub no_infinity : Close (value_of 0xbcc0527dbd87e24d) 0xfff0000000000000 → ⊥
no_infinity k = no_number 0xfff0000000000000 (lit≤ tt) (close-is_finite 0xbcc0527dbd87e24d 0xfff0000000000000 last_weight k)
