-- `increment`, added to the digits that are cut off, carries exactly where the direction rounds up. Assumes nothing.
use mathlib.Core.Path.{◌≡◌, sym, ap, ◌∙◌, subst}
use Prim.Native.Nat.{ℕ, zero, suc, ◌+◌, ◌-◌, ◌*◌, ◌/◌, ◌%◌, ◌^◌, ◌≤◌, ◌<◌, compare, Ordering}
use native.Mathlib.Nat.{mod-eq_of_lt, mod-lt, one-mul, add-zero, div-eq_of_lt}
use native.Mathlib.Numerals.{add-one}
use native.Mathlib.Omega.{arith}
use mathlib.Core.Bool.{Bool, cond, true, false}
use lib.Dec.{eqb}
use lib.Arith.{digits_div}
use lib.Pow.{pow-add, pow_pos, pow-lt}
use lib.Ieee.{nearest}
use borrow.Author.Tests.{ne_eqb}
use Rattle.rounding.proofs.Place.{Compares, compares}
use Rattle.rounding.specs.declared.Direction.{Direction}
use Rattle.rounding.specs.declared.Direction.TheVariants.{Nearest, TowardZero, Up, Down}
use Rattle.rounding.specs.Machine.{increment}

-- 1 << k
pub one_shl : (k : ℕ) → k ≤ 63 → 1 * 2 ^ k % 2 ^ 64 ≡ 2 ^ k
one_shl k h = ap (λ (x : ℕ). x % 2 ^ 64) (one-mul (2 ^ k)) ∙ mod-eq_of_lt (pow-lt {i = k} {j = 64} (omega arith))

pub one_shl-pos : (k : ℕ) → k ≤ 63 → 0 < 1 * 2 ^ k % 2 ^ 64
one_shl-pos k h = subst (λ (x : ℕ). 0 < x) (sym (one_shl k h)) (pow_pos k)

double : (k : ℕ) → 1 ≤ k → 2 ^ k ≡ 2 ^ (k - 1) * 2
double k h = ap (λ (x : ℕ). 2 ^ x) (back k h) ∙ pow-add 2 (k - 1) 1
  where
    back : (k : ℕ) → 1 ≤ k → k ≡ k - 1 + 1
    back k h = omega arith

-- the carry: x / u, for an x below 2 * u
none : (q x u : ℕ) → x < u → q + x / u ≡ q
none q x u h = ap (λ (y : ℕ). q + y) (div-eq_of_lt h) ∙ add-zero q

one : (q x u : ℕ) → u ≤ x → x < u + u → q + x / u ≡ suc q
one q x u h l = ap (λ (y : ℕ). q + y) (ap (λ (y : ℕ). y / u) (back x u h) ∙ digits_div 1 (rest x u h l)) ∙ add-one q
  where
    back : (x u : ℕ) → u ≤ x → x ≡ 1 * u + (x - u)
    back x u h = let e : 1 * u ≡ u = one-mul u in omega arith

    rest : (x u : ℕ) → u ≤ x → x < u + u → x - u < u
    rest x u h l = omega arith

module _ (q r u : ℕ) (R : r < u) where
  to_nearest_lem : (h : ℕ) → u ≡ h * 2 → 0 < h → nearest q (compare (r * 2) u) ≡ q + (r + (h - 1 + q % 2)) / u
  to_nearest_lem h U P = go (compare (r * 2) u) (compares (r * 2) u)
    where
      tie : (b : ℕ) → b < 2 → r * 2 ≡ u → q + b ≡ q + (r + (h - 1 + b)) / u
      tie zero l e = add-zero q ∙ sym (none q (r + (h - 1 + 0)) u (omega arith))
      tie (suc zero) l e = add-one q ∙ sym (one q (r + (h - 1 + 1)) u (omega arith) (omega arith))
      tie (suc (suc b)) l e = absurd (omega arith)

      go : (o : Ordering) → Compares o (r * 2) u → nearest q o ≡ q + (r + (h - 1 + q % 2)) / u
      go Ordering.lt c = let b : q % 2 < 2 = mod-lt q (omega arith) in sym (none q (r + (h - 1 + q % 2)) u (omega arith))
      go Ordering.eq c = tie (q % 2) (mod-lt q (omega arith)) c
      go Ordering.gt c = let b : q % 2 < 2 = mod-lt q (omega arith) in sym (one q (r + (h - 1 + q % 2)) u (omega arith) (omega arith))

  to_ceiling : cond (eqb r 0) q (suc q) ≡ q + (r + (u - 1)) / u
  to_ceiling = go r R
    where
      go : (r : ℕ) → r < u → cond (eqb r 0) q (suc q) ≡ q + (r + (u - 1)) / u
      go zero l = sym (none q (0 + (u - 1)) u (omega arith))
      go (suc r) l = ap (λ (b : Bool). cond b q (suc q)) (ne_eqb (suc r) 0 (λ e. omega arith)) ∙ sym (one q (suc r + (u - 1)) u (omega arith) (omega arith))

  to_floor : q ≡ q + (r + 0) / u
  to_floor = sym (none q (r + 0) u (omega arith))

pub increment_lt : (d : Direction) (s : Bool) (odd k : ℕ) → 1 ≤ k → odd ≤ 1 → increment d s odd k < 2 ^ k
increment_lt d s odd k K O = go d s (2 ^ (k - 1)) (2 ^ k) (double k K) (pow_pos (k - 1))
  where
    go : (d : Direction) (s : Bool) (h u : ℕ) → u ≡ h * 2 → 0 < h → increment d s odd k < 2 ^ k
    go Nearest s h u e p = least (2 ^ (k - 1)) (2 ^ k) (double k K) (pow_pos (k - 1))
      where
        least : (h u : ℕ) → u ≡ h * 2 → 0 < h → h - 1 + odd < u
        least h u e p = omega arith
    go TowardZero s h u e p = pow_pos k
    go Up true h u e p = pow_pos k
    go Up false h u e p = before (2 ^ k) (pow_pos k)
      where
        before : (u : ℕ) → 0 < u → u - 1 < u
        before u p = omega arith
    go Down true h u e p = before (2 ^ k) (pow_pos k)
      where
        before : (u : ℕ) → 0 < u → u - 1 < u
        before u p = omega arith
    go Down false h u e p = pow_pos k
