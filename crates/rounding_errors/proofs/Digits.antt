-- A whole number rounded to p digits: how far it moves, which powers of two it does not pass, and the next larger number that p digits write. Assumes nothing.
use mathlib.Core.Path.{◌≡◌, refl, sym, ap, ◌∙◌, subst}
use mathlib.Core.Logic.{inl, inr}
use Prim.Native.Nat.{ℕ, zero, suc, ◌+◌, ◌-◌, ◌*◌, ◌^◌, ◌≤◌, ◌<◌}
use native.Mathlib.Nat.{le_refl, le_of_eq, le_of_lt, lt_of_lt_of_le, eq-or-lt_of_le, dvd_refl, two-pow-succ}
use native.Mathlib.Omega.{arith}
use lib.Pow.{pow_mono, pow-lt}
use Rattle.exactness.proofs.Multiples.{apart, coarser, distance}
use Rattle.exactness.proofs.Precision.{to_digits, dropped, Representable, to_digits-near, to_digits-above, to_digits-below, dropped_le, dropped_ge, dropped_full, dropped_lt, dropped_mono, rep_whole}

-- ---- half of the last place
pub error_half : (p n : ℕ) → 2 * distance n (to_digits p n) ≤ 2 ^ dropped p n
error_half p n = omega (arith, (to_digits-near p n).under, (to_digits-near p n).over)

pub error_le : (p n j : ℕ) → n < 2 ^ (p + suc j) → distance n (to_digits p n) ≤ 2 ^ j
error_le p n j h =
    let k : 2 ^ dropped p n ≤ 2 ^ suc j = pow_mono (dropped_le p n (suc j) h) in
    let e = error_half p n in
    let d = two-pow-succ j in
    omega arith

-- ---- powers of two
pub rep_pow : (p j : ℕ) → 0 < p → Representable p (2 ^ j)
rep_pow p j P = record { unit = j; whole = dvd_refl (2 ^ j); small = pow-lt (omega arith) }

pub to_digits-le_pow : (p n j : ℕ) → 0 < p → n ≤ 2 ^ j → to_digits p n ≤ 2 ^ j
to_digits-le_pow p n j P h = (to_digits-above p n (2 ^ j) P (rep_pow p j P) h).0

pub to_digits-ge_pow : (p n j : ℕ) → 0 < p → 2 ^ j ≤ n → 2 ^ j ≤ to_digits p n
to_digits-ge_pow p n j P h = (to_digits-below p n (2 ^ j) P (rep_pow p j P) h).0

-- where digits are dropped, the power that n reaches
full : (p n i : ℕ) → dropped p n ≡ suc i → 2 ^ (p + i) ≤ n
full p n i e = dropped_full p n i (subst (λ (x : ℕ). i < x) (sym e) (le_refl (suc i)))

-- ---- what is rounded
-- its last place is no finer
pub dropped-to_digits : (p n : ℕ) → 0 < p → dropped p n ≤ dropped p (to_digits p n)
dropped-to_digits p n P = go (dropped p n) refl
  where
    at : (p i : ℕ) → 0 < p → p + suc i - 1 ≡ p + i
    at p i h = omega arith

    go : (k : ℕ) → dropped p n ≡ k → k ≤ dropped p (to_digits p n)
    go zero e = omega arith
    go (suc i) e = dropped_ge p (to_digits p n) (suc i) P (subst (λ (x : ℕ). 2 ^ x ≤ to_digits p n) (sym (at p i P)) (to_digits-ge_pow p n (p + i) P (full p n i e)))

-- p digits write it
pub rep-to_digits : (p n : ℕ) → 0 < p → Representable p (to_digits p n)
rep-to_digits p n P =
    elim (eq-or-lt_of_le (to_digits-le_pow p n (p + dropped p n) P (le_of_lt (dropped_lt p n)))) [
      | inl e ↦ subst (λ (x : ℕ). Representable p x) (sym e) (rep_pow p (p + dropped p n) P)
      | inr h ↦ record { unit = dropped p n; whole = (to_digits-near p n).whole; small = h }
    ]

-- it is half of the number at least
pub to_digits-half : (p n : ℕ) → 0 < p → n ≤ 2 * to_digits p n
to_digits-half p n P = go (dropped p n) refl
  where
    shift : (i : ℕ) → p + suc i ≡ suc (p + i)
    shift i = omega arith

    go : (k : ℕ) → dropped p n ≡ k → n ≤ 2 * to_digits p n
    go zero e = let u : 2 ^ dropped p n ≡ 1 = ap (λ (x : ℕ). 2 ^ x) e in let h = error_half p n in omega arith
    go (suc i) e =
        let a : 2 ^ (p + i) ≤ to_digits p n = to_digits-ge_pow p n (p + i) P (full p n i e) in
        let b : n < 2 ^ (p + i) + 2 ^ (p + i) = lt_of_lt_of_le (dropped_lt p n) (le_of_eq (ap (λ (x : ℕ). 2 ^ x) (ap (λ (x : ℕ). p + x) e ∙ shift i) ∙ two-pow-succ (p + i))) in
        omega arith

-- ---- of the numbers that p digits write, a larger one is larger by one last place at least
pub next_least : (p n m : ℕ) → Representable p n → Representable p m → n < m → n + 2 ^ dropped p n ≤ m
next_least p n m r q h = apart (2 ^ dropped p n) n m (rep_whole p n r) (coarser (dropped p n) (dropped p m) m (dropped_mono p n m (le_of_lt h)) (rep_whole p m q)) h
