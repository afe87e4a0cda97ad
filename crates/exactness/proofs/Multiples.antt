-- The multiple of u nearest to a whole number: it is at most half of u away, and no multiple of u is nearer. Assumes nothing.
use mathlib.Core.Path.{◌≡◌, refl, sym, ap, ◌∙◌, subst}
use mathlib.Core.Logic.{◌⊎◌, inl, inr}
use Prim.Native.Nat.{ℕ, zero, suc, ◌+◌, ◌-◌, ◌*◌, ◌/◌, ◌%◌, ◌^◌, ◌≤◌, ◌<◌, ◌∣◌, compare, Ordering}
use native.Mathlib.Nat.{le_of_eq, le_of_lt, le_of_dvd, dvd-sub, dvd-add, dvd_trans, dvd-mul_left, div-add-mod', mod-lt, suc-mul, eq-or-lt_of_le, sub-add_cancel}
use native.Mathlib.Omega.{arith}
use lib.Pow.{pow-add, pow_pos}
use lib.Ieee.{nearest}
use lib.Ieee.Nearest.{closest}
use lib.Dec.{T, is_le, compare_is_eq, leb→le, nleb→lt, eqb→eq}
use mathlib.Core.Bool.{not}
use Rattle.wide.proofs.Nat.{le_or_gt}

-- ---- small things
-- two multiples of u that differ are u apart
pub apart : (u a b : ℕ) → u ∣ a → u ∣ b → a < b → a + u ≤ b
apart u a b p q h = let k : u ≤ b - a = le_of_dvd (omega arith) (dvd-sub u q p) in omega arith

pub pow_dvd : (j k : ℕ) → j ≤ k → 2 ^ j ∣ 2 ^ k
pow_dvd j k h = subst (λ (x : ℕ). 2 ^ j ∣ x) (sym (pow-add 2 (k - j) j) ∙ ap (λ (x : ℕ). 2 ^ x) (sub-add_cancel h)) (dvd-mul_left (2 ^ j) (2 ^ (k - j)))

pub coarser : (j k n : ℕ) → j ≤ k → 2 ^ k ∣ n → 2 ^ j ∣ n
coarser j k n h d = dvd_trans (2 ^ j) (pow_dvd j k h) d

-- how far apart two numbers are
abbrev pub distance : ℕ → ℕ → ℕ
distance a b = (a - b) + (b - a)

pub distance_dvd : (u a b : ℕ) → u ∣ a → u ∣ b → u ∣ distance a b
distance_dvd u a b p q = dvd-add u (dvd-sub u p q) (dvd-sub u q p)

-- ---- the nearest multiple of u
abbrev Cmp : Ordering → ℕ → ℕ → Type 0
Cmp Ordering.lt a b = a ≤ b
Cmp Ordering.eq a b = a ≡ b
Cmp Ordering.gt a b = b < a

cmp : (a b : ℕ) → Cmp (compare a b) a b
cmp a b = go (compare a b) (leb→le a b) (nleb→lt a b) (eqb→eq a b)
  where
    go : (o : Ordering) → (T (is_le o) → a ≤ b) → (T (not (is_le o)) → b < a) → (T (compare_is_eq o) → a ≡ b) → Cmp o a b
    go Ordering.lt h k e = h tt
    go Ordering.eq h k e = e tt
    go Ordering.gt h k e = k tt

-- h is a multiple of u, and no further from n than half of u
pub record Near (n u h : ℕ) : Type 0 where
  pub whole : u ∣ h
  pub under : 2 * n ≤ 2 * h + u
  pub over : 2 * h ≤ 2 * n + u

parity : (q : ℕ) → (q + q % 2 ≡ q) ⊎ (q + q % 2 ≡ suc q)
parity q = go (q % 2) (mod-lt q (pow_pos 1))
  where
    go : (r : ℕ) → r < 2 → (q + r ≡ q) ⊎ (q + r ≡ suc q)
    go zero h = inl (omega arith)
    go (suc zero) h = inr (omega arith)
    go (suc (suc r)) h = absurd (big r h)
      where
        big : (r : ℕ) → suc (suc r) < 2 → ⊥
        big r h = omega arith

down_case : (n u q r h : ℕ) → q * u + r ≡ n → r < u → r * 2 ≤ u → h ≡ q → Near n u (h * u)
down_case n u q r h e l c p =
    let k : h * u ≡ q * u = ap (λ (x : ℕ). x * u) p in
    record { whole = dvd-mul_left u h; under = omega arith; over = omega arith }

up_case : (n u q r h : ℕ) → q * u + r ≡ n → r < u → u ≤ r * 2 → h ≡ suc q → Near n u (h * u)
up_case n u q r h e l c p =
    let k : h * u ≡ q * u + u = ap (λ (x : ℕ). x * u) p ∙ suc-mul q u in
    record { whole = dvd-mul_left u h; under = omega arith; over = omega arith }

pub closest_near : (n u : ℕ) → 0 < u → Near n u (closest n u * u)
closest_near n u U = go (compare (n % u * 2) u) (cmp (n % u * 2) u)
  where
    go : (o : Ordering) → Cmp o (n % u * 2) u → Near n u (nearest (n / u) o * u)
    go Ordering.lt c = down_case n u (n / u) (n % u) (n / u) (div-add-mod' n u) (mod-lt n U) c refl
    go Ordering.eq c =
        elim (parity (n / u)) [
          | inl p ↦ down_case n u (n / u) (n % u) (n / u + n / u % 2) (div-add-mod' n u) (mod-lt n U) (le_of_eq c) p
          | inr p ↦ up_case n u (n / u) (n % u) (n / u + n / u % 2) (div-add-mod' n u) (mod-lt n U) (le_of_eq (sym c)) p
        ]
    go Ordering.gt c = up_case n u (n / u) (n % u) (suc (n / u)) (div-add-mod' n u) (mod-lt n U) (le_of_lt c) refl

-- no multiple of u is nearer, from below and from above
module _ (n u h r : ℕ) (U : 0 < u) (N : Near n u h) (R : u ∣ r) where
  pub nearest_below : r ≤ n → (r ≤ h) × (h + r ≤ 2 * n)
  nearest_below l =
      elim (le_or_gt r h) [
        | inl a ↦ elim (eq-or-lt_of_le a) [ inl e ↦ (omega (arith, N.under), omega (arith, N.over)) | inr b ↦ let k = apart u r h R N.whole b in (omega arith, omega (arith, N.over)) ]
        | inr b ↦ let k = apart u h r N.whole R b in (omega (arith, N.under), omega (arith, N.under))
      ]

  pub nearest_above : n ≤ r → (h ≤ r) × (2 * n ≤ h + r)
  nearest_above l =
      elim (le_or_gt h r) [
        | inl a ↦ elim (eq-or-lt_of_le a) [ inl e ↦ (omega arith, omega arith) | inr b ↦ let k = apart u h r N.whole R b in (omega arith, omega (arith, N.under)) ]
        | inr b ↦ let k = apart u r h R N.whole b in (omega (arith, N.over), omega (arith, N.over))
      ]
