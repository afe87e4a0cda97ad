-- A whole number rounded to p binary digits (`to_digits`), and the numbers that p digits write (`Representable`). Three facts carry error-free sums and products:
-- a representable number is kept, no representable number is nearer, and a multiple of 2 ^ j rounds to one. Assumes nothing.
use mathlib.Core.Path.{◌≡◌, sym, subst}
use mathlib.Core.Logic.{inl, inr}
use Prim.Native.Nat.{ℕ, ◌+◌, ◌-◌, ◌*◌, ◌^◌, ◌≤◌, ◌<◌, ◌∣◌}
use native.Mathlib.Nat.{le_refl, lt_of_lt_of_le, lt_of_le_of_lt, dvd_refl, dvd-zero, one-dvd, not-le_of_lt, lt_of_not-le, mul-dvd-mul_right, eq-or-lt_of_le}
use native.Mathlib.Omega.{arith}
use lib.Pow.{pow-add, pow_pos, pow_mono, pow-lt, shl_lt}
use lib.Ieee.{size}
use lib.Ieee.Digits.{size-lt, size-le, size_reaches}
use lib.Ieee.Nearest.{closest}
use Rattle.wide.proofs.Nat.{le_or_gt}
use Rattle.exactness.proofs.Multiples.{coarser, pow_dvd, Near, closest_near, nearest_below, nearest_above}

-- ---- rounding to p digits
-- how many digits are dropped
abbrev pub dropped : ℕ → ℕ → ℕ
dropped p n = size n - p

unfoldable pub to_digits : ℕ → ℕ → ℕ
to_digits p n = closest n (2 ^ dropped p n) * 2 ^ dropped p n

-- p digits write n: it is a multiple of 2 ^ j, and there are fewer than 2 ^ p of those in it
pub record Representable (p n : ℕ) : Type 0 where
  pub unit : ℕ
  pub whole : 2 ^ unit ∣ n
  pub small : n < 2 ^ (p + unit)

pub to_digits-near : (p n : ℕ) → Near n (2 ^ dropped p n) (to_digits p n)
unfolding to_digits
to_digits-near p n = closest_near n (2 ^ dropped p n) (pow_pos (dropped p n))

-- ---- how many digits
size_mono : (a b : ℕ) → a ≤ b → size a ≤ size b
size_mono a b h = size-le a (size b) (lt_of_le_of_lt h (size-lt b))

size_gt : (n j : ℕ) → 2 ^ j ≤ n → j < size n
size_gt n j h = lt_of_not-le (λ (g : size n ≤ j). not-le_of_lt (lt_of_lt_of_le (size-lt n) (pow_mono g)) h)

pub dropped_lt : (p n : ℕ) → n < 2 ^ (p + dropped p n)
dropped_lt p n = lt_of_lt_of_le (size-lt n) (pow_mono (omega arith))

pub dropped_le : (p n j : ℕ) → n < 2 ^ (p + j) → dropped p n ≤ j
dropped_le p n j h = let k = size-le n (p + j) h in omega arith

pub dropped_mono : (p a b : ℕ) → a ≤ b → dropped p a ≤ dropped p b
dropped_mono p a b h = let k = size_mono a b h in omega arith

-- where digits are dropped, n has p digits above them
pub dropped_full : (p n j : ℕ) → j < dropped p n → 2 ^ (p + j) ≤ n
dropped_full p n j h = size_reaches n (p + j) (omega arith)

pub dropped_ge : (p n j : ℕ) → 0 < p → 2 ^ (p + j - 1) ≤ n → j ≤ dropped p n
dropped_ge p n j P h = let k = size_gt n (p + j - 1) h in omega arith

-- ---- the three facts
close : (a h u : ℕ) → 0 < u → u ∣ a → Near a u h → h ≡ a
close a h u U d N =
    let k = nearest_below a u h a U N d (le_refl a) in
    let l = nearest_above a u h a U N d (le_refl a) in
    omega arith

pub to_digits-keeps : (p n : ℕ) → Representable p n → to_digits p n ≡ n
to_digits-keeps p n r = close n (to_digits p n) (2 ^ dropped p n) (pow_pos (dropped p n)) (coarser (dropped p n) r.unit n (dropped_le p n r.unit r.small) r.whole) (to_digits-near p n)

-- a number that p digits write is a multiple of the place to which it would be rounded
pub rep_whole : (p n : ℕ) → Representable p n → 2 ^ dropped p n ∣ n
rep_whole p n r = coarser (dropped p n) r.unit n (dropped_le p n r.unit r.small) r.whole

pub to_digits-whole : (p n j : ℕ) → 2 ^ j ∣ n → 2 ^ j ∣ to_digits p n
to_digits-whole p n j d =
    elim (le_or_gt j (dropped p n)) [
      | inl a ↦ coarser j (dropped p n) (to_digits p n) a (to_digits-near p n).whole
      | inr b ↦ subst (λ (x : ℕ). 2 ^ j ∣ x) (sym (to_digits-keeps p n (record { unit = j; whole = d; small = lt_of_lt_of_le (dropped_lt p n) (pow_mono (omega arith)) }))) d
    ]

-- a power between: with r written by a unit finer than the place of rounding, the power below n is a multiple of that place
module _ (p n r : ℕ) (P : 0 < p) (R : Representable p r) where
  step : (R.unit < dropped p n) → (r < 2 ^ (p + dropped p n - 1)) × (2 ^ (p + dropped p n - 1) ≤ n) × (2 ^ dropped p n ∣ 2 ^ (p + dropped p n - 1))
  step l = (
    lt_of_lt_of_le R.small (pow_mono (omega arith)),
    size_reaches n (p + dropped p n - 1) (omega arith),
    pow_dvd (dropped p n) (p + dropped p n - 1) (omega arith),
  )

  pub to_digits-below : r ≤ n → (r ≤ to_digits p n) × (to_digits p n + r ≤ 2 * n)
  to_digits-below h =
      elim (le_or_gt (dropped p n) R.unit) [
        | inl a ↦ nearest_below n (2 ^ dropped p n) (to_digits p n) r (pow_pos (dropped p n)) (to_digits-near p n) (coarser (dropped p n) R.unit r a R.whole) h
        | inr b ↦
            let s = step b in
            let t = nearest_below n (2 ^ dropped p n) (to_digits p n) (2 ^ (p + dropped p n - 1)) (pow_pos (dropped p n)) (to_digits-near p n) s.2 s.1 in
            let s0 : r < 2 ^ (p + dropped p n - 1) = s.0 in
            let t0 : 2 ^ (p + dropped p n - 1) ≤ to_digits p n = t.0 in
            let t1 : to_digits p n + 2 ^ (p + dropped p n - 1) ≤ 2 * n = t.1 in
            (omega arith, omega arith)
      ]

  pub to_digits-above : n ≤ r → (to_digits p n ≤ r) × (2 * n ≤ to_digits p n + r)
  to_digits-above h =
      elim (le_or_gt (dropped p n) R.unit) [
        | inl a ↦ nearest_above n (2 ^ dropped p n) (to_digits p n) r (pow_pos (dropped p n)) (to_digits-near p n) (coarser (dropped p n) R.unit r a R.whole) h
        | inr b ↦ let s = step b in absurd (not-le_of_lt (lt_of_lt_of_le s.0 s.1) h)
      ]

-- ---- more of what p digits write
pub rep_zero : (p : ℕ) → Representable p 0
rep_zero p = record { unit = 0; whole = dvd-zero (2 ^ 0); small = pow_pos (p + 0) }

pub rep_few : (p n : ℕ) → n < 2 ^ p → Representable p n
rep_few p n h = record { unit = 0; whole = one-dvd n; small = lt_of_lt_of_le h (pow_mono (omega arith)) }

pub rep_le : (p j n : ℕ) → 0 < p → 2 ^ j ∣ n → n ≤ 2 ^ (p + j) → Representable p n
rep_le p j n P d h =
    elim (eq-or-lt_of_le h) [
      | inl e ↦ record { unit = p + j; whole = subst (λ (x : ℕ). 2 ^ (p + j) ∣ x) (sym e) (dvd_refl (2 ^ (p + j))); small = lt_of_le_of_lt h (pow-lt (omega arith)) }
      | inr l ↦ record { unit = j; whole = d; small = l }
    ]

pub rep_as : (p m n : ℕ) → m ≡ n → Representable p n → Representable p m
rep_as p m n e r = subst (λ (x : ℕ). Representable p x) (sym e) r

pub rep_times : (p n k : ℕ) → Representable p n → Representable p (n * 2 ^ k)
rep_times p n k r = record {
  unit = r.unit + k;
  whole = subst (λ (x : ℕ). x ∣ n * 2 ^ k) (sym (pow-add 2 r.unit k)) (mul-dvd-mul_right (2 ^ r.unit) r.whole (2 ^ k));
  small = subst (λ (x : ℕ). n * 2 ^ k < 2 ^ x) (join p r.unit k) (shl_lt (p + r.unit) k r.small);
}
  where
    join : (p j k : ℕ) → p + j + k ≡ p + (j + k)
    join p j k = omega arith

pub rep_twice : (p n : ℕ) → Representable p n → Representable p (2 * n)
rep_twice p n r = rep_as p (2 * n) (n * 2 ^ 1) (omega arith) (rep_times p n 1 r)
