-- The pattern after that of a number's size is one last place more, which is the next larger number. Assumes nothing.
use mathlib.Core.Path.{◌≡◌, sym, ap, ◌∙◌, subst}
use mathlib.Core.Logic.{◌⊎◌, inl, inr}
use Prim.Native.Nat.{ℕ, suc, ◌+◌, ◌-◌, ◌*◌, ◌%◌, ◌^◌, ◌≤◌, ◌<◌}
use native.Mathlib.Nat.{le_trans, le_antisymm, le_of_eq, not-le_of_lt, mul-le-mul, mul-le-mul_right, suc-mul, pow-suc, eq-or-lt_of_le}
use native.Mathlib.Omega.{arith}
use lib.Dec.{T, lit≤, lit<}
use lib.Pow.{pow-add, pow_pos, pow_mono, shl_lt}
use lib.Ieee.{Float, nan, inf, fin, binary64, fits, of_bits}
use lib.Ieee.Bits.{of_bits-fits}
use lib.Ieee.Scale.{finite}
use Rattle.wide.proofs.Nat.{le_or_gt}
use Rattle.operands.specs.Machine.{sign_of}
use Rattle.operands.proofs.Reading as reading
use Rattle.operands.proofs.Reading.{Units, Finite, units, read_nan, read_inf}
use Rattle.exactness.specs.Values.{magnitude}
use Rattle.exactness.proofs.Precision.{dropped, Representable, rep_zero, dropped_le, dropped_ge}
use Rattle.exactness.proofs.Units.{in_units_lem, magnitude_is, has_finite}
use Rattle.rounding_errors.specs.Spacing.{size_of, next, spacing, NextLarger, Spacings}
use Rattle.rounding_errors.proofs.Digits.{next_least}

-- ---- q units of 2 ^ k: the last place is 2 ^ k
place : (q k : ℕ) → q < 2 ^ 53 → (k ≡ 0) ⊎ (2 ^ 52 ≤ q) → dropped 53 (q * 2 ^ k) ≡ k
place q k s h = le_antisymm (dropped_le 53 (q * 2 ^ k) k (shl_lt 53 k s)) (go h)
  where
    at : (k : ℕ) → 52 + k ≡ 53 + k - 1
    at k = omega arith

    go : (k ≡ 0) ⊎ (2 ^ 52 ≤ q) → k ≤ dropped 53 (q * 2 ^ k)
    go (inl e) = omega arith
    go (inr l) = dropped_ge 53 (q * 2 ^ k) k (lit< tt) (le_trans (le_of_eq (ap (λ (i : ℕ). 2 ^ i) (sym (at k)) ∙ pow-add 2 52 k)) (mul-le-mul_right (2 ^ k) l))

-- ---- the pattern after it: one more of the same, or the first of the next power
abbrev After : ℕ → ℕ → ℕ → ℕ → Type 0
After q k q' k' = ((k' ≡ k) × (q' ≡ suc q)) ⊎ ((k' ≡ suc k) × (q' ≡ 2 ^ 52) × (suc q ≡ 2 ^ 53))

after : (q k q' k' : ℕ) → q < 2 ^ 53 → (k ≡ 0) ⊎ (2 ^ 52 ≤ q) → q' < 2 ^ 53 → (k' ≡ 0) ⊎ (2 ^ 52 ≤ q') → k' * 0x10000000000000 + q' ≡ suc (k * 0x10000000000000 + q) → After q k q' k'
after q k q' k' s h s' h' e =
    elim (le_or_gt k' k) [
      | inl l ↦ inl (same h h' l)
      | inr l ↦ inr (up h' l)
    ]
  where
    same : (k ≡ 0) ⊎ (2 ^ 52 ≤ q) → (k' ≡ 0) ⊎ (2 ^ 52 ≤ q') → k' ≤ k → (k' ≡ k) × (q' ≡ suc q)
    same (inl a) b l = (omega arith, omega arith)
    same (inr a) (inl b) l = (omega arith, omega arith)
    same (inr a) (inr b) l = (omega arith, omega arith)

    up : (k' ≡ 0) ⊎ (2 ^ 52 ≤ q') → k < k' → (k' ≡ suc k) × (q' ≡ 2 ^ 52) × (suc q ≡ 2 ^ 53)
    up (inl b) l = absurd (let z : ⊥ = omega arith in z)
    up (inr b) l = (omega arith, omega arith, omega arith)

one_more : (q k q' k' : ℕ) → After q k q' k' → q' * 2 ^ k' ≡ q * 2 ^ k + 2 ^ k
one_more q k q' k' (inl h) = ap (λ (i : ℕ). q' * 2 ^ i) h.0 ∙ ap (λ (i : ℕ). i * 2 ^ k) h.1 ∙ suc-mul q (2 ^ k)
one_more q k q' k' (inr h) =
    ap (λ (i : ℕ). q' * 2 ^ i) h.0 ∙ ap (λ (i : ℕ). i * 2 ^ suc k) h.1
    ∙ twice (2 ^ k) (2 ^ suc k) (pow-suc 2 k) ∙ ap (λ (i : ℕ). i * 2 ^ k) (sym h.2) ∙ suc-mul q (2 ^ k)
  where
    twice : (a b : ℕ) → b ≡ a * 2 → 0x10000000000000 * b ≡ 0x20000000000000 * a
    twice a b e = omega arith

-- ---- a number and the one after it
pub size_is : (b q k : ℕ) → Units b q k → size_of b ≡ q * 2 ^ k
size_is b q k u = magnitude_is binary64 (of_bits binary64 b) (sign_of b) (q * 2 ^ k) u.value

pub finite_is : (b q k : ℕ) → Units b q k → T (finite (of_bits binary64 b))
finite_is b q k u = has_finite (of_bits binary64 b) (sign_of b) (q * 2 ^ k) (2 ^ 1074) u.value

-- an infinity, or a NaN
pub no_number : (b : ℕ) → 0x7ff0000000000000 ≤ b % 2 ^ 63 → T (finite (of_bits binary64 b)) → ⊥
no_number b h t =
    elim (eq-or-lt_of_le h) [
      | inl e ↦ subst (λ (z : Float). T (finite z)) (read_inf b (sym e)) t
      | inr l ↦ subst (λ (z : Float). T (finite z)) (read_nan b l) t
    ]

-- what follows b is larger by its last place
follows : (b : ℕ) → b % 2 ^ 63 < 0x7fefffffffffffff → size_of (next b) ≡ size_of b + 2 ^ dropped 53 (size_of b)
follows b h = go (reading.finite b (omega arith)) (reading.finite (next b) (omega arith))
  where
    back : (a : ℕ) → a < 0x7fefffffffffffff → suc a % 0x8000000000000000 ≡ suc a
    back a l = omega arith

    go : Finite b → Finite (next b) → size_of (next b) ≡ size_of b + 2 ^ dropped 53 (size_of b)
    go (units q k u) (units q' k' w) =
        size_is (next b) q' k' w
        ∙ one_more q k q' k' (after q k q' k' u.small u.kept w.small w.kept (sym w.pattern ∙ back (b % 2 ^ 63) h ∙ ap suc u.pattern))
        ∙ sym (ap (λ (i : ℕ). size_of b + 2 ^ i) (ap (dropped 53) (size_is b q k u) ∙ place q k u.small u.kept) ∙ ap (λ (n : ℕ). n + 2 ^ k) (size_is b q k u))

pub spacing_is : (b : ℕ) → b % 2 ^ 63 < 0x7fefffffffffffff → spacing b ≡ 2 ^ dropped 53 (size_of b)
spacing_is b h = less (size_of (next b)) (size_of b) (2 ^ dropped 53 (size_of b)) (follows b h)
  where
    less : (x y z : ℕ) → x ≡ y + z → x - y ≡ z
    less x y z e = omega arith

-- ---- a number of this size is not the largest
pub under_largest : (b : ℕ) → T (finite (of_bits binary64 b)) → size_of b < 2 ^ 2097 → b % 2 ^ 63 < 0x7fefffffffffffff
under_largest b t h =
    elim (le_or_gt 0x7ff0000000000000 (b % 2 ^ 63)) [
      | inl l ↦ absurd (no_number b l t)
      | inr l ↦ go (reading.finite b l)
    ]
  where
    place_ge : (a q k : ℕ) → a ≡ k * 0x10000000000000 + q → q < 2 ^ 53 → (k ≡ 0) ⊎ (2 ^ 52 ≤ q) → 0x7fefffffffffffff ≤ a → (2 ^ 52 ≤ q) × (2045 ≤ k)
    place_ge a q k e s (inl z) g = absurd (let w : ⊥ = omega arith in w)
    place_ge a q k e s (inr i) g = (i, omega arith)

    go : Finite b → b % 2 ^ 63 < 0x7fefffffffffffff
    go (units q k u) =
        elim (le_or_gt 0x7fefffffffffffff (b % 2 ^ 63)) [
          | inl g ↦
              let f = place_ge (b % 2 ^ 63) q k u.pattern u.small u.kept g in
              absurd (not-le_of_lt (subst (λ (n : ℕ). n < 2 ^ 2097) (size_is b q k u) h) (le_trans (lit≤ tt) (mul-le-mul f.0 (pow_mono f.1))))
          | inr g ↦ g
        ]

-- ---- the theorem
after_none : (n : ℕ) → 0x7ff0000000000000 ≤ n → n ≤ 2 ^ 63 → size_of n ≡ 0
unfolding of_bits
after_none n a b =
    elim (eq-or-lt_of_le b) [
      | inl e ↦ ap size_of e
      | inr l ↦
          elim (eq-or-lt_of_le a) [
            | inl e ↦ ap size_of (sym e)
            | inr k ↦ ap (magnitude binary64) (read_nan n (let m : 0x7ff0000000000000 < n % 0x8000000000000000 = omega arith in m))
          ]
    ]

-- 53 digits write every size
rep_size : (c : ℕ) → Representable 53 (size_of c)
rep_size c = go (of_bits binary64 c) (of_bits-fits binary64 c)
  where
    go : (x : Float) → T (fits binary64 x) → Representable 53 (magnitude binary64 x)
    go nan t = rep_zero 53
    go (inf s) t = rep_zero 53
    go (fin s m e) t = (in_units_lem binary64 (fin s m e) t tt).rep

pub spacings : Spacings
spacings = record { there = there; nowhere = nowhere }
  where
    larger : (x y z : ℕ) → 0 < z → x ≡ y + z → y < x
    larger x y z h e = omega arith

    there : (b : ℕ) → b % 2 ^ 63 < 0x7fefffffffffffff → NextLarger b (next b)
    there b h = record {
      larger = larger (size_of (next b)) (size_of b) (2 ^ dropped 53 (size_of b)) (pow_pos (dropped 53 (size_of b))) (follows b h);
      least = λ c l. le_trans (le_of_eq (follows b h)) (next_least 53 (size_of b) (size_of c) (rep_size b) (rep_size c) l);
    }

    less : (x y : ℕ) → x ≡ 0 → x - y ≡ 0
    less x y e = omega arith

    nowhere : (b : ℕ) → 0x7fefffffffffffff ≤ b % 2 ^ 63 → spacing b ≡ 0
    nowhere b h = less (size_of (next b)) (size_of b) (after_none (next b) (omega arith) (omega arith))

-- ---- applied to -1, to the largest but one, and to the largest
pub minus_one : NextLarger 0xbff0000000000000 0x3ff0000000000001
minus_one = spacings.there 0xbff0000000000000 (lit< tt)

pub after_one : (size_of 0xbff0000000000000 < size_of 0x3ff0000000000001) × (size_of 0x3ff0000000000001 ≤ size_of 0xbff0000000000002)
unfolding of_bits
after_one = (minus_one.larger, minus_one.least 0xbff0000000000002 (lit< tt))

pub second_largest : NextLarger 0x7feffffffffffffe 0x7fefffffffffffff
second_largest = spacings.there 0x7feffffffffffffe (lit< tt)

pub largest : spacing 0xffefffffffffffff ≡ 0
largest = spacings.nowhere 0xffefffffffffffff (lit≤ tt)
