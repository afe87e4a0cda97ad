-- The pattern of a rounded value: its size in bits is k * 2 ^ 52 + q, where q units of 2 ^ k are kept. A q of 2 ^ 53 carries into the
-- exponent field, and from an infinity's pattern on the result overflows. Assumes nothing.
use mathlib.Core.Path.{◌≡◌, refl, sym, ap, ◌∙◌, subst}
use mathlib.Core.Logic.{◌⊎◌, inl, inr, ⊎_elim}
use Prim.Native.Nat.{ℕ, ◌+◌, ◌-◌, ◌*◌, ◌/◌, ◌^◌, ◌≤◌, ◌<◌}
use native.Mathlib.Nat.{le_refl, le_trans, le_of_eq, lt_of_lt_of_le, lt_of_not-le, not-le_of_lt, eq-or-lt_of_le, mul-one, mul-le-mul_right, mul-lt-mul_of_pos_right, mul-div_cancel, add_assoc, div-one, le_of_lt}
use native.Mathlib.Omega.{arith}
use mathlib.Core.Bool.{Bool, true, false, cond}
use lib.Dec.{ltb, lit<}
use lib.Pow.{pow-add, pow_pos, pow_mono, pow-lt}
use lib.Ieee.{Float, nan, inf, fin, binary64, down, size, odd, units, to_bits}
use lib.Ieee.Digits.{size-lt, size-le}
use lib.Ieee.Fits.{down_pos}
use lib.Ieee.Exact.{HasValue, odd_sign}
use borrow.Author.Tests.{lt-ltb, le-ltb}
use Rattle.wide.proofs.Nat.{le_or_gt}
use Rattle.rounding.specs.declared.Direction.{Direction}
use Rattle.rounding.specs.declared.Direction.TheVariants.{Nearest, TowardZero, Up, Down}
use Rattle.rounding.specs.Rounding.{overflow, bounded}
use Rattle.rounding.specs.Machine.{sign_bit, overflow_bits, packed, bounded_bits}

-- ---- the largest patterns

pub sign_le : (s : Bool) {x : ℕ} → x ≡ sign_bit s → x ≤ 0x8000000000000000
sign_le true e = omega arith
sign_le false e = omega arith

-- ---- how many digits a number has

pub size_exact : (a n : ℕ) → 2 ^ a ≤ n → n < 2 ^ (a + 1) → size n ≡ a + 1
size_exact a n lo hi = between (size n) a (size-le n (a + 1) hi) (lt_of_not-le (λ (g : size n ≤ a). not-le_of_lt (lt_of_lt_of_le (size-lt n) (pow_mono g)) lo))
  where
    between : (z a : ℕ) → z ≤ a + 1 → a < z → z ≡ a + 1
    between z a h k = omega arith

-- ---- the bits of a finite value of the size a, in units of the smallest value

bits : Bool → ℕ → ℕ
bits s a = sign_bit s + (size a - 53) * 0x10000000000000 + a / 2 ^ (size a - 53)

bits_value : (s : Bool) (a : ℕ) (x : Float) → HasValue x s a (2 ^ 1074) → to_bits binary64 x ≡ bits s a
unfolding to_bits bits
bits_value s a nan h = absurd h
bits_value s a (inf t) h = absurd h
bits_value s a (fin t m e) h =
    ap (λ (b : Bool). to_bits binary64 (fin b m e)) h.0
    ∙ ap (λ (x : ℕ). sign_bit s + (size x - 53) * 0x10000000000000 + x / 2 ^ (size x - 53)) (ap (λ (x : ℕ). x / down e) h.1 ∙ mul-div_cancel a (down_pos e))

-- at most 52 digits: the exponent field is 0
bits_low : (s : Bool) (q : ℕ) → q < 2 ^ 52 → bits s q ≡ sign_bit s + q
unfolding bits
bits_low s q h =
    ap (λ (k : ℕ). sign_bit s + k * 0x10000000000000 + q / 2 ^ k) (few (size q) (size-le q 52 h)) ∙ ap (λ (x : ℕ). sign_bit s + 0 + x) (div-one q) ∙ tidy (sign_bit s) q
  where
    few : (z : ℕ) → z ≤ 52 → z - 53 ≡ 0
    few z h = omega arith

    tidy : (c q : ℕ) → c + 0 + q ≡ c + q
    tidy c q = omega arith

-- 53 digits, and k zeros
bits_mid : (s : Bool) (q k : ℕ) → 2 ^ 52 ≤ q → q < 2 ^ 53 → bits s (q * 2 ^ k) ≡ sign_bit s + (k * 0x10000000000000 + q)
unfolding bits
bits_mid s q k lo hi =
    let a = q * 2 ^ k in
    let l : 2 ^ (52 + k) ≤ a = subst (λ (x : ℕ). x ≤ a) (sym (pow-add 2 52 k)) (mul-le-mul_right (2 ^ k) lo) in
    let h : a < 2 ^ (53 + k) = subst (λ (x : ℕ). a < x) (sym (pow-add 2 53 k)) (mul-lt-mul_of_pos_right hi (pow_pos k)) in
    let z : size a - 53 ≡ k = drop (size a) k (size_exact (52 + k) a l (subst (λ (x : ℕ). a < 2 ^ x) (shift k) h)) in
    ap (λ (j : ℕ). sign_bit s + j * 0x10000000000000 + a / 2 ^ j) z
    ∙ ap (λ (x : ℕ). sign_bit s + k * 0x10000000000000 + x) (mul-div_cancel q (pow_pos k))
    ∙ add_assoc (sign_bit s) (k * 0x10000000000000) q
  where
    shift : (k : ℕ) → 53 + k ≡ 52 + k + 1
    shift k = omega arith

    drop : (z k : ℕ) → z ≡ 52 + k + 1 → z - 53 ≡ k
    drop z k h = omega arith

-- 2 ^ 53 is 2 ^ 52 with one more zero
bits_top : (s : Bool) (k : ℕ) → bits s (2 ^ 53 * 2 ^ k) ≡ sign_bit s + (k * 0x10000000000000 + 2 ^ 53)
bits_top s k =
    ap (bits s) (sym (pow-add 2 53 k) ∙ ap (λ (x : ℕ). 2 ^ x) (shift k) ∙ pow-add 2 52 (k + 1))
    ∙ bits_mid s (2 ^ 52) (k + 1) (le_refl (2 ^ 52)) (lit< tt)
    ∙ ap (λ (x : ℕ). sign_bit s + x) (tidy k)
  where
    shift : (k : ℕ) → 53 + k ≡ 52 + (k + 1)
    shift k = omega arith

    tidy : (k : ℕ) → (k + 1) * 0x10000000000000 + 0x10000000000000 ≡ k * 0x10000000000000 + 0x20000000000000
    tidy k = omega arith

-- q units of 2 ^ k, as many as a rounding keeps
abbrev pub Kept : ℕ → ℕ → Type 0
Kept q k = (q ≤ 2 ^ 53) × ((k ≡ 0) ⊎ (2 ^ 52 ≤ q))

bits_kept : (s : Bool) (q k : ℕ) → Kept q k → bits s (q * 2 ^ k) ≡ sign_bit s + (k * 0x10000000000000 + q)
bits_kept s q k (hi, o) = go (eq-or-lt_of_le hi) o
  where
    at_zero : (k : ℕ) → k ≡ 0 → q < 2 ^ 52 → bits s (q * 2 ^ k) ≡ sign_bit s + (k * 0x10000000000000 + q)
    at_zero k e l = ap (λ (x : ℕ). bits s (q * 2 ^ x)) e ∙ ap (bits s) (mul-one q) ∙ bits_low s q l ∙ ap (λ (x : ℕ). sign_bit s + x) (tidy k q e)
      where
        tidy : (k q : ℕ) → k ≡ 0 → q ≡ k * 0x10000000000000 + q
        tidy k q e = omega arith

    go : (q ≡ 2 ^ 53) ⊎ (q < 2 ^ 53) → (k ≡ 0) ⊎ (2 ^ 52 ≤ q) → bits s (q * 2 ^ k) ≡ sign_bit s + (k * 0x10000000000000 + q)
    go (inl e) o = ap (λ (x : ℕ). bits s (x * 2 ^ k)) e ∙ bits_top s k ∙ ap (λ (x : ℕ). sign_bit s + (k * 0x10000000000000 + x)) (sym e)
    go (inr l) (inr g) = bits_mid s q k g l
    go (inr l) (inl z) = ⊎_elim (λ g. bits_mid s q k g l) (λ u. at_zero k z u) (le_or_gt (2 ^ 52) q)

-- ---- the two tests for an overflow agree

under_infinity : (q k : ℕ) → Kept q k → k * 0x10000000000000 + q < 0x7ff0000000000000 → q * 2 ^ k < 2 ^ 2098
under_infinity q k (hi, o) h = go (eq-or-lt_of_le hi)
  where
    go : (q ≡ 2 ^ 53) ⊎ (q < 2 ^ 53) → q * 2 ^ k < 2 ^ 2098
    go (inl e) =
        let j : k ≤ 2044 = omega arith in
        subst (λ (x : ℕ). x * 2 ^ k < 2 ^ 2098) (sym e) (subst (λ (x : ℕ). x < 2 ^ 2098) (pow-add 2 53 k) (pow-lt (few k j)))
      where
        few : (k : ℕ) → k ≤ 2044 → 53 + k < 2098
        few k h = omega arith
    go (inr l) =
        let j : k ≤ 2045 = ⊎_elim (λ z. omega arith) (λ g. omega arith) o in
        lt_of_lt_of_le (mul-lt-mul_of_pos_right l (pow_pos k)) (le_trans (le_of_eq (sym (pow-add 2 53 k))) (pow_mono (few k j)))
      where
        few : (k : ℕ) → k ≤ 2045 → 53 + k ≤ 2098
        few k h = omega arith

from_infinity : (q k : ℕ) → Kept q k → 0x7ff0000000000000 ≤ k * 0x10000000000000 + q → 2 ^ 2098 ≤ q * 2 ^ k
from_infinity q k (hi, o) h = go (eq-or-lt_of_le hi) o
  where
    go : (q ≡ 2 ^ 53) ⊎ (q < 2 ^ 53) → (k ≡ 0) ⊎ (2 ^ 52 ≤ q) → 2 ^ 2098 ≤ q * 2 ^ k
    go u (inl z) = absurd (omega arith)
    go (inl e) (inr g) =
        let j : 2045 ≤ k = omega arith in
        subst (λ (x : ℕ). 2 ^ 2098 ≤ x * 2 ^ k) (sym e) (le_trans (pow_mono (few k j)) (le_of_eq (pow-add 2 53 k)))
      where
        few : (k : ℕ) → 2045 ≤ k → 2098 ≤ 53 + k
        few k h = omega arith
    go (inr l) (inr g) =
        let j : 2046 ≤ k = omega arith in
        le_trans (le_trans (pow_mono (few k j)) (le_of_eq (pow-add 2 52 k))) (mul-le-mul_right (2 ^ k) g)
      where
        few : (k : ℕ) → 2046 ≤ k → 2098 ≤ 52 + k
        few k h = omega arith

-- ---- the pattern of what a rounding makes

overflow_bits_lem : (d : Direction) (s : Bool) → to_bits binary64 (overflow d binary64 s) ≡ sign_bit s + overflow_bits d s
unfolding to_bits
overflow_bits_lem Nearest true = refl
overflow_bits_lem Nearest false = refl
overflow_bits_lem TowardZero true = refl
overflow_bits_lem TowardZero false = refl
overflow_bits_lem Up true = refl
overflow_bits_lem Up false = refl
overflow_bits_lem Down true = refl
overflow_bits_lem Down false = refl

bounded_finite : (d : Direction) (s : Bool) (a : ℕ) (x : Float) → HasValue x s a (2 ^ 1074) → bounded d binary64 x ≡ x
bounded_finite d s a nan h = refl
bounded_finite d s a (inf t) h = absurd h
bounded_finite d s a (fin t m e) h = refl

pub units_bits : (d : Direction) (s : Bool) (q k : ℕ) → Kept q k → to_bits binary64 (bounded d binary64 (units binary64 s q k)) ≡ packed d s (k * 0x10000000000000 + q)
unfolding units
units_bits d s q k K = go (le_or_gt 0x7ff0000000000000 (k * 0x10000000000000 + q))
  where
    go : (0x7ff0000000000000 ≤ k * 0x10000000000000 + q) ⊎ (k * 0x10000000000000 + q < 0x7ff0000000000000)
        → to_bits binary64 (bounded d binary64 (cond (ltb (q * 2 ^ k) (2 ^ 2098)) (odd 54 s q k 1074) (inf s))) ≡ sign_bit s + cond (ltb (k * 0x10000000000000 + q) 0x7ff0000000000000) (k * 0x10000000000000 + q) (overflow_bits d s)
    go (inr l) =
        ap (λ (b : Bool). to_bits binary64 (bounded d binary64 (cond b (odd 54 s q k 1074) (inf s)))) (lt-ltb (q * 2 ^ k) (2 ^ 2098) (under_infinity q k K l))
        ∙ ap (to_bits binary64) (bounded_finite d s (q * 2 ^ k) (odd 54 s q k 1074) (odd_sign 54 s q k 1074))
        ∙ bits_value s (q * 2 ^ k) (odd 54 s q k 1074) (odd_sign 54 s q k 1074)
        ∙ bits_kept s q k K
        ∙ sym (ap (λ (b : Bool). sign_bit s + cond b (k * 0x10000000000000 + q) (overflow_bits d s)) (lt-ltb (k * 0x10000000000000 + q) 0x7ff0000000000000 l))
    go (inl l) =
        ap (λ (b : Bool). to_bits binary64 (bounded d binary64 (cond b (odd 54 s q k 1074) (inf s)))) (le-ltb (q * 2 ^ k) (2 ^ 2098) (from_infinity q k K l))
        ∙ overflow_bits_lem d s
        ∙ sym (ap (λ (b : Bool). sign_bit s + cond b (k * 0x10000000000000 + q) (overflow_bits d s)) (le-ltb (k * 0x10000000000000 + q) 0x7ff0000000000000 l))

overflow_le : (d : Direction) (s : Bool) {x : ℕ} → x ≡ overflow_bits d s → x ≤ 0x7ff0000000000000
overflow_le Nearest s e = omega arith
overflow_le TowardZero s e = omega arith
overflow_le Up true e = omega arith
overflow_le Up false e = omega arith
overflow_le Down true e = omega arith
overflow_le Down false e = omega arith

pub bounded_le : (d : Direction) (s : Bool) (b : ℕ) {x : ℕ} → x ≡ bounded_bits d s b → x ≤ 0x7ff0000000000000
bounded_le d s b {x} e = ⊎_elim
    (λ h. overflow_le d s (e ∙ ap (λ (t : Bool). cond t b (overflow_bits d s)) (le-ltb b 0x7ff0000000000000 h)))
    (λ h. le_of_lt (subst (λ (y : ℕ). y < 0x7ff0000000000000) (sym (e ∙ ap (λ (t : Bool). cond t b (overflow_bits d s)) (lt-ltb b 0x7ff0000000000000 h))) h))
    (le_or_gt 0x7ff0000000000000 b)
