-- A product and an addend with all their digits in two words, and their sum, over plain numbers. Assumes nothing.
use mathlib.Core.Path.{◌≡◌, sym, ap, ◌∙◌}
use mathlib.Core.Logic.{inl}
use Prim.Native.Nat.{ℕ, ◌+◌, ◌-◌, ◌*◌, ◌/◌, ◌%◌, ◌^◌, ◌≤◌, ◌<◌}
use native.Mathlib.Nat.{lt_of_lt_of_le, lt_of_le_of_lt, mod-eq_of_lt, add-zero, mul_comm, mul_assoc, mul_left_comm, add-mul, mul-mod_left, div-add-mod', mul-le-mul_left, mul-lt-mul_of_pos_right, le_trans, le_of_lt}
use native.Mathlib.Omega.{arith}
use mathlib.Core.Bool.{Bool}
use lib.Dec.{lit≤}
use lib.Pow.{pow-add, pow_pos, pow_mono}
use lib.Ieee.{binary64, to_bits}
use Rattle.wide.proofs.Nat.{shl}
use Rattle.rounding.specs.declared.Direction.{Direction}
use Rattle.operands.specs.declared.parts.Parts.{Parts}
use Rattle.ieee754.specs.Operations.{sum_to}
use Rattle.operands.specs.Machine.{Addends, SumOf, RoundsSum}
use Rattle.operands.proofs.Reading.{stands_just}
use Rattle.multiply_add.proofs.Sums.{sum_answer}

-- ---- a left shift into two words

pub shifted : (m k : ℕ) → k ≤ 64 → m / 2 ^ (64 - k) * 2 ^ 64 + m * 2 ^ k % 2 ^ 64 ≡ m * 2 ^ k
shifted m k h =
    ap (λ (x : ℕ). m / 2 ^ (64 - k) * 2 ^ 64 + x) (shl m k h)
    ∙ algebra m (m / 2 ^ (64 - k)) (m % 2 ^ (64 - k)) (2 ^ (64 - k)) (2 ^ k) (2 ^ 64) (sym (pow-add 2 (64 - k) k) ∙ ap (λ (x : ℕ). 2 ^ x) (back k h)) (div-add-mod' m (2 ^ (64 - k)))
  where
    back : (k : ℕ) → k ≤ 64 → 64 - k + k ≡ 64
    back k h = omega arith

    algebra : (m q r U K W : ℕ) → U * K ≡ W → q * U + r ≡ m → q * W + r * K ≡ m * K
    algebra m q r U K W e f =
        ap (λ (x : ℕ). q * x + r * K) (sym e) ∙ ap (λ (x : ℕ). x + r * K) (sym (mul_assoc q U K)) ∙ sym (add-mul (q * U) r K) ∙ ap (λ (x : ℕ). x * K) f

pub shifted_more : (m k : ℕ) → m < 2 ^ 53 → 64 ≤ k → k ≤ 73 → m * 2 ^ (k - 64) % 2 ^ 64 * 2 ^ 64 + 0 ≡ m * 2 ^ k
shifted_more m k h l t =
    add-zero (m * 2 ^ (k - 64) % 2 ^ 64 * 2 ^ 64)
    ∙ ap (λ (x : ℕ). x * 2 ^ 64) (mod-eq_of_lt (lt_of_lt_of_le (mul-lt-mul_of_pos_right h (pow_pos (k - 64))) (le_trans (mul-le-mul_left (2 ^ 53) (pow_mono {i = k - 64} {j = 9} (few k t))) (lit≤ tt))))
    ∙ mul_assoc m (2 ^ (k - 64)) (2 ^ 64)
    ∙ ap (λ (x : ℕ). m * x) (sym (pow-add 2 (k - 64) 64) ∙ ap (λ (x : ℕ). 2 ^ x) (back k l))
  where
    few : (k : ℕ) → k ≤ 73 → k - 64 ≤ 9
    few k h = omega arith

    back : (k : ℕ) → 64 ≤ k → k - 64 + 64 ≡ k
    back k h = omega arith

-- ---- the product and c in one unit

pub product_lt : (a b : ℕ) → a < 2 ^ 53 → b < 2 ^ 53 → a * 2 * b < 2 ^ 127
product_lt a b h k = lt_of_le_of_lt (mul-le-mul_left (a * 2) (le_of_lt k)) (lt_of_lt_of_le (mul-lt-mul_of_pos_right (double a h) (pow_pos 53)) (lit≤ tt))
  where
    double : (a : ℕ) → a < 2 ^ 53 → a * 2 < 2 ^ 54
    double a h = omega arith

pub addend_lt : (m k : ℕ) → m < 2 ^ 53 → k ≤ 73 → m * 2 ^ k < 2 ^ 127
addend_lt m k h l = lt_of_lt_of_le (mul-lt-mul_of_pos_right h (pow_pos k)) (le_trans (mul-le-mul_left (2 ^ 53) (pow_mono {i = k} {j = 73} l)) (lit≤ tt))

module _ (x y z : Parts) (A B c k : ℕ) (K : k + (x.e + y.e + 20) ≡ z.e + 1147) (C : 0 < c) (p : A * 2 ^ 2273 ≡ x.m * 2 ^ x.e * (y.m * 2 ^ y.e) * 2 ^ 21 * c) (q : B * 2 ^ 2273 ≡ z.m * 2 ^ z.e * 2 ^ 1147 * c) where
  first : A * 2 ^ 2273 ≡ x.m * 2 * y.m * 2 ^ (x.e + y.e + 20) * c
  first = p ∙ ap (λ (v : ℕ). v * c) (unit x.m y.m (2 ^ x.e) (2 ^ y.e) (2 ^ 20) ∙ ap (λ (v : ℕ). x.m * 2 * y.m * v) (ap (λ (v : ℕ). v * 2 ^ 20) (sym (pow-add 2 x.e y.e)) ∙ sym (pow-add 2 (x.e + y.e) 20)))
    where
      unit : (a b A B C : ℕ) → a * A * (b * B) * (2 * C) ≡ a * 2 * b * (A * B * C)
      unit a b A B C = simp (mul_assoc, mul_comm, mul_left_comm)

  second : B * 2 ^ 2273 ≡ z.m * 2 ^ k * 2 ^ (x.e + y.e + 20) * c
  second = q ∙ ap (λ (v : ℕ). v * c) (mul_assoc z.m (2 ^ z.e) (2 ^ 1147) ∙ ap (λ (v : ℕ). z.m * v) (sym (pow-add 2 z.e 1147) ∙ ap (λ (v : ℕ). 2 ^ v) (sym K) ∙ pow-add 2 k (x.e + y.e + 20)) ∙ sym (mul_assoc z.m (2 ^ k) (2 ^ (x.e + y.e + 20))))

  addends : Addends A B c (x.m * 2 * y.m) (z.m * 2 ^ k) (x.e + y.e + 20)
  addends = record { both = record { first = first; second = stands_just C second; even = even x.m y.m }; far = inl second }
    where
      even : (a b : ℕ) → a * 2 * b % 2 ≡ 0
      even a b = ap (λ (v : ℕ). v % 2) (mul_assoc a 2 b ∙ mul_left_comm a 2 b ∙ mul_comm 2 (a * b)) ∙ mul-mod_left (a * b) 2

  pub near_answer : (d : Direction) (s t neg : Bool) (w r : ℕ) → 0 < z.m * 2 ^ k → SumOf s t (x.m * 2 * y.m) (z.m * 2 ^ k) neg w → RoundsSum d neg w (x.e + y.e + 20) r → r ≡ to_bits binary64 (sum_to d s A t B c)
  near_answer d s t neg w r o h f = sum_answer addends d s t r neg w (some (x.m * 2 * y.m) (z.m * 2 ^ k) o) h f
    where
      some : (p q : ℕ) → 0 < q → 0 < p + q
      some p q h = omega arith
