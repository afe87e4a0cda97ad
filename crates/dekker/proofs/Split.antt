-- Veltkamp's splitting on patterns: where the exponent field is far from both ends, a pattern rounded to a multiple of 2 ^ 27 is that of the number rounded to 26 digits.
-- So Dekker's product of two such numbers is the fused multiply-add. Assumes nothing.
use mathlib.Core.Path.{◌≡◌, refl, sym, ap, ◌∙◌, subst}
use mathlib.Core.Logic.{inl, inr}
use Prim.Native.Nat.{ℕ, suc, ◌+◌, ◌-◌, ◌*◌, ◌/◌, ◌%◌, ◌^◌, ◌≤◌, ◌<◌}
use native.Mathlib.Nat.{dvd-mul_left, mul_assoc, pow-succ'}
use native.Mathlib.Omega.{arith}
use mathlib.Core.Bool.{Bool, not}
use lib.Dec.{T}
use borrow.Author.Tests.{le-leb, lt-leb, le-ltb}
use lib.Ieee.{Float, fin, binary64, mul, neg, is_nan, nan_bits, of_bits, nan, inf}
use lib.Ieee.Exact.{HasValue}
use lib.Ieee.Bits.{nan_bits_above}
use lib.Ieee.Scale.{finite}
use Rattle.rounding.specs.declared.Direction.TheVariants.{Nearest}
use Rattle.ieee754.specs.Operations.{fused_multiply_add}
use Rattle.operands.specs.Machine.{sign_of, field_of, Middle}
use Rattle.operands.proofs.Reading.{units_mid}
use Rattle.dekker.specs.Machine.{high_half}
use Rattle.wide.proofs.Nat.{le_or_gt}
use Rattle.exactness.proofs.Units.{neg_finite, has_finite}
use Rattle.exactness.proofs.Nearest.{fused_nearest}
use Rattle.exactness.proofs.Dekker.{HighHalf, remainder_of, hi_finite, dekker}

-- ---- the pattern of the high half
abbrev significand : ℕ → ℕ
significand b = 0x10000000000000 + b % 0x10000000000000

abbrev place : ℕ → ℕ
place b = field_of b - 1

-- the sign stays
sign_stays : (b : ℕ) → Middle (field_of b) → sign_of (high_half b) ≡ sign_of b
sign_stays b h =
    elim (le_or_gt 0x8000000000000000 b) [
      | inl g ↦ le-leb 0x8000000000000000 (high_half b) (omega arith) ∙ sym (le-leb 0x8000000000000000 b g)
      | inr g ↦ lt-leb 0x8000000000000000 (high_half b) (omega arith) ∙ sym (lt-leb 0x8000000000000000 b g)
    ]

high_at : (b x : ℕ) (s : Bool) (H i : ℕ) → sign_of b ≡ s → field_of b ≡ suc x → b % 0x8000000000000000 < 0x7ff0000000000000 → significand b * 2 ^ x ≡ H * 2 ^ i
    → HasValue (of_bits binary64 b) s (H * 2 ^ i) (2 ^ 1074)
high_at b x s H i e g l h = subst (λ (t : Bool). HasValue (of_bits binary64 b) t (H * 2 ^ i) (2 ^ 1074)) e (subst (λ (n : ℕ). HasValue (of_bits binary64 b) (sign_of b) n (2 ^ 1074)) h (units_mid b x g l).value)

-- the significand rounded
abbrev cut : ℕ → ℕ
cut b = (significand b + 0x4000000) / 0x8000000 * 0x8000000

high_value : (b : ℕ) → Middle (field_of b) → HasValue (of_bits binary64 (high_half b)) (sign_of b) (cut b * 2 ^ place b) (2 ^ 1074)
high_value b h =
    elim (le_or_gt 0x10000000000000 (b % 0x10000000000000 + 0x4000000)) [
      | inl g ↦ high_at (high_half b) (suc (place b)) (sign_of b) (cut b) (place b) (sign_stays b h) (next b (high_half b) h (carry b g)) (omega (arith, next b (high_half b) h (carry b g)))
          (ap (λ (x : ℕ). x * 2 ^ suc (place b)) (carried b g) ∙ ap (λ (x : ℕ). 0x10000000000000 * x) (pow-succ' 2 (place b)) ∙ sym (mul_assoc 0x10000000000000 2 (2 ^ place b)) ∙ ap (λ (x : ℕ). x * 2 ^ place b) (sym (full b g)))
      | inr g ↦ high_at (high_half b) (place b) (sign_of b) (cut b) (place b) (sign_stays b h) (omega arith) (omega arith) (ap (λ (x : ℕ). x * 2 ^ place b) (kept b g))
    ]
  where
    carry : (b : ℕ) → 0x10000000000000 ≤ b % 0x10000000000000 + 0x4000000 → high_half b + b % 0x10000000000000 ≡ b + 0x10000000000000
    carry b g = omega arith

    next : (b c : ℕ) → Middle (field_of b) → c + b % 0x10000000000000 ≡ b + 0x10000000000000 → field_of c ≡ suc (suc (place b))
    next b c h e = omega arith

    carried : (b : ℕ) → 0x10000000000000 ≤ b % 0x10000000000000 + 0x4000000 → significand (high_half b) ≡ 0x10000000000000
    carried b g = omega arith

    full : (b : ℕ) → 0x10000000000000 ≤ b % 0x10000000000000 + 0x4000000 → cut b ≡ 0x20000000000000
    full b g = omega arith

    kept : (b : ℕ) → b % 0x10000000000000 + 0x4000000 < 0x10000000000000 → significand (high_half b) ≡ cut b
    kept b g = omega arith

pub high_half_lem : (b : ℕ) → Middle (field_of b) → HighHalf binary64 (place b) (sign_of b) (of_bits binary64 b) (of_bits binary64 (high_half b)) (significand b) (cut b)
high_half_lem b h = record {
  value = (units_mid b (place b) (omega arith) (omega arith)).value;
  high = high_value b h;
  least = omega arith;
  small = omega arith;
  some = omega arith;
  most = omega arith;
  whole = dvd-mul_left (2 ^ 27) ((significand b + 0x4000000) / 0x8000000);
  over = omega arith;
  under = omega arith;
  room = omega arith;
}

-- the pattern of a high half is no NaN's
pub high_number : (b : ℕ) → Middle (field_of b) → T (not (nan_bits binary64 (high_half b)))
high_number b h = subst (λ (t : Bool). T (not t)) (sym (nan_bits_above binary64 (high_half b) ∙ le-ltb 0x7ff0000000000000 (high_half b % 0x8000000000000000) (omega arith))) tt

number : (x : Float) → T (finite x) → T (not (is_nan x))
unfolding is_nan
number nan t = elim t [ ]
number (inf _) t = elim t [ ]
number (fin s m e) t = tt

-- ---- the theorem
pub error_is : {a b ah bh hi : Float} (x y : ℕ) → of_bits binary64 x ≡ a → of_bits binary64 y ≡ b → Middle (field_of x) → Middle (field_of y) → hi ≡ mul binary64 a b → ah ≡ of_bits binary64 (high_half x) → bh ≡ of_bits binary64 (high_half y)
    → (remainder_of binary64 a b ah bh hi ≡ fused_multiply_add Nearest a b (neg hi)) × T (not (is_nan (remainder_of binary64 a b ah bh hi)))
error_is {a} {b} {ah} {bh} {hi} x y ea eb p q e g h =
    let X = split a x ea p in
    let Y = split b y eb q in
    let w = place x + place y - 1074 in
    let o : place x + place y ≡ w + 1074 = omega arith in
    let room : w + 108 ≤ 2098 = omega arith in
    let na = has_finite a (sign_of x) (significand x * 2 ^ place x) (2 ^ 1074) X.value in
    let nb = has_finite b (sign_of y) (significand y * 2 ^ place y) (2 ^ 1074) Y.value in
    let nh = neg_finite (mul binary64 a b) (hi_finite binary64 refl w o room X Y) in
    let d = dekker binary64 refl w o room X Y in
    let n : remainder_of binary64 a b ah bh hi ≡ remainder_of binary64 a b (of_bits binary64 (high_half x)) (of_bits binary64 (high_half y)) (mul binary64 a b) = λ i. remainder_of binary64 a b (g i) (h i) (e i) in (
      n ∙ d.0 ∙ sym (fused_nearest a b (neg (mul binary64 a b)) na nb nh) ∙ ap (λ (z : Float). fused_multiply_add Nearest a b (neg z)) (sym e),
      number (remainder_of binary64 a b ah bh hi) (subst (λ (z : Float). T (finite z)) (sym n) d.1),
    )
  where
    split : (z : Float) (x : ℕ) → of_bits binary64 x ≡ z → Middle (field_of x) → HighHalf binary64 (place x) (sign_of x) z (of_bits binary64 (high_half x)) (significand x) (cut x)
    split z x f m = subst (λ (v : Float). HighHalf binary64 (place x) (sign_of x) v (of_bits binary64 (high_half x)) (significand x) (cut x)) f (high_half_lem x m)
