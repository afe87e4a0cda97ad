-- Floats that are P - N times 2 ^ w units. A sum or a product of two such is exact where p digits write it, and a sum is known by its P - N alone, unless its first
-- part is -0. Assumes nothing.
use mathlib.Core.Path.{◌≡◌, refl, sym, ap, ◌∙◌, subst}
use Prim.Native.Nat.{ℕ, zero, suc, ◌+◌, ◌*◌, ◌^◌, ◌≤◌, ◌<◌}
use native.Mathlib.Nat.{mul-one, mul_assoc, mul-mul-mul_comm, zero-mul}
use native.Mathlib.Omega.{arith}
use mathlib.Core.Bool.{Bool, true, false, not}
use lib.Dec.{lit<, ltb}
use lib.Pow.{pow-add, pow_pos}
use borrow.Author.Tests.{le-ltb}
use lib.Ieee.{Float, Format, prec, low, unlike, round, sum, add, mul, neg}
use lib.Ieee.Exact.{HasValue}
use lib.Ieee.Scale.{overflow}
use Rattle.exactness.proofs.Multiples.{distance}
use Rattle.exactness.proofs.Precision.{Representable, rep_times}
use Rattle.exactness.proofs.Signed.{pos_part, neg_part, IsDifference, NotMinusZero, size_is, sign_is, is_difference, same_difference, product_is}
use Rattle.exactness.proofs.Units.{sum_is, add_is, neg_is, round_keeps}
use Rattle.exactness.proofs.TwoProduct.{mul_is}

-- ---- sums of fractions
-- the sum of ±a, which is P - N, and ±b, which is Q - M, times u
pub sum_round_at : (f : Format) (s : Bool) (a : ℕ) (t : Bool) (b c P N Q M u : ℕ) → 0 < u → NotMinusZero s a → IsDifference s a P N → IsDifference t b Q M
    → sum f s (a * u) t (b * u) c ≡ round f (ltb (P + Q) (N + M)) (distance (P + Q) (N + M) * u) c
sum_round_at f s a t b c P N Q M u U z i j =
    let e = same_difference (pos_part s (a * u) + pos_part t (b * u)) (neg_part s (a * u) + neg_part t (b * u)) (P + Q) (N + M) u U
    (lines (pos_part s (a * u)) (neg_part s (a * u)) (pos_part t (b * u)) (neg_part t (b * u)) (pos_part s a) (neg_part s a) (pos_part t b) (neg_part t b) (ap (λ (x : ℕ). x * u) i) (ap (λ (x : ℕ). x * u) j) (pos_mul s a) (neg_mul s a) (pos_mul t b) (neg_mul t b)) in
    sum_is f s (a * u) t (b * u) c (not_minus a z) ∙ (λ i. round f (e.0 i) (e.1 i) c)
  where
    pos_mul : (s : Bool) (n : ℕ) → pos_part s (n * u) ≡ pos_part s n * u
    pos_mul true n = sym (zero-mul u)
    pos_mul false n = refl

    neg_mul : (s : Bool) (n : ℕ) → neg_part s (n * u) ≡ neg_part s n * u
    neg_mul true n = refl
    neg_mul false n = sym (zero-mul u)

    not_minus : (n : ℕ) → NotMinusZero s n → NotMinusZero s (n * u)
    not_minus zero k e = k refl
    not_minus (suc n) k e = absurd (omega arith)

    lines : (A A' B B' a a' b b' : ℕ) → (a + N) * u ≡ (P + a') * u → (b + M) * u ≡ (Q + b') * u → A ≡ a * u → A' ≡ a' * u → B ≡ b * u → B' ≡ b' * u → A + B + (N + M) * u ≡ (P + Q) * u + (A' + B')
    lines A A' B B' a a' b b' h k p q r s = omega arith

-- and it is known by the difference alone
pub round_same_difference : (f : Format) (P N P' N' u c : ℕ) → P + N' ≡ P' + N → round f (ltb P N) (distance P N * u) c ≡ round f (ltb P' N') (distance P' N' * u) c
round_same_difference f P N P' N' u c h =
    let e = same_difference P N P' N' 1 (lit< tt) (omega arith) in
    λ i. round f (e.0 i) ((e.1 ∙ mul-one (distance P' N')) i * u) c

-- ---- floats
-- x is ±n, which is P - N, times 2 ^ w units
pub record Scaled (f : Format) (w : ℕ) (x : Float) (n P N : ℕ) : Type 0 where
  pub side : Bool
  pub val : HasValue x side (n * 2 ^ w) (2 ^ low f)
  pub is : IsDifference side n P N

-- x is P - N times 2 ^ w units, and not -0
pub record Difference (f : Format) (w : ℕ) (x : Float) (P N : ℕ) : Type 0 where
  pub val : HasValue x (ltb P N) (distance P N * 2 ^ w) (2 ^ low f)

pub of_side : (f : Format) (w : ℕ) (x : Float) (s : Bool) (n : ℕ) → HasValue x s (n * 2 ^ w) (2 ^ low f) → Scaled f w x n (pos_part s n) (neg_part s n)
of_side f w x s n v = record { side = s; val = v; is = refl }

pub of_difference : {f : Format} {w : ℕ} {x : Float} {P N : ℕ} → Difference f w x P N → Scaled f w x (distance P N) P N
of_difference {f} {w} {x} {P} {N} X = record { side = ltb P N; val = X.val; is = is_difference P N }

module _ {f : Format} {w : ℕ} {x : Float} {n P N : ℕ} (X : Scaled f w x n P N) where
  pub not_zero : 0 < n → Difference f w x P N
  not_zero h = record {
    val = subst (λ (s : Bool). HasValue x s (distance P N * 2 ^ w) (2 ^ low f)) (sign_is X.side n P N (λ z. absurd (omega arith)) X.is)
        (subst (λ (k : ℕ). HasValue x X.side (k * 2 ^ w) (2 ^ low f)) (size_is X.side n P N X.is) X.val);
  }

  pub within : (P ≤ N + n) × (N ≤ P + n)
  within = go X.side X.is
    where
      go : (s : Bool) → IsDifference s n P N → (P ≤ N + n) × (N ≤ P + n)
      go true h = (omega arith, omega arith)
      go false h = (omega arith, omega arith)

  pub neg_scaled : Scaled f w (neg x) n N P
  neg_scaled = record { side = not X.side; val = neg_is x X.side (n * 2 ^ w) (2 ^ low f) X.val; is = turn X.side X.is }
    where
      turn : (s : Bool) → IsDifference s n P N → IsDifference (not s) n N P
      turn true h = omega arith
      turn false h = omega arith

-- ---- sums and products of floats
module _ {f : Format} {w : ℕ} {x y : Float} {b P N Q M : ℕ} (X : Difference f w x P N) (Y : Scaled f w y b Q M) where
  pub add_round : add f x y ≡ round f (ltb (P + Q) (N + M)) (distance (P + Q) (N + M) * 2 ^ w) (2 ^ low f)
  add_round =
      add_is f x y (ltb P N) (distance P N * 2 ^ w) Y.side (b * 2 ^ w) X.val Y.val
      ∙ sum_round_at f (ltb P N) (distance P N) Y.side b (2 ^ low f) P N Q M (2 ^ w) (pow_pos w) (λ e. le-ltb P N (omega arith)) (is_difference P N) Y.is

  pub add_exact : Representable (prec f) (distance (P + Q) (N + M)) → distance (P + Q) (N + M) * 2 ^ w < overflow f → Difference f w (add f x y) (P + Q) (N + M)
  add_exact r l =
      let q = ltb (P + Q) (N + M) in
      let n = distance (P + Q) (N + M) in
      record { val = subst (λ (z : Float). HasValue z q (n * 2 ^ w) (2 ^ low f)) (sym add_round) (round_keeps f q (n * 2 ^ w) (rep_times (prec f) n w r) l) }

pub powers : (a i b j w l : ℕ) → i + j ≡ w + l → a * 2 ^ i * (b * 2 ^ j) ≡ a * b * 2 ^ w * 2 ^ l
powers a i b j w l e = mul-mul-mul_comm a (2 ^ i) b (2 ^ j) ∙ ap (λ (z : ℕ). a * b * z) (sym (pow-add 2 i j) ∙ ap (λ (z : ℕ). 2 ^ z) e ∙ pow-add 2 w l) ∙ sym (mul_assoc (a * b) (2 ^ w) (2 ^ l))

pub mul_exact : {f : Format} {i j : ℕ} (w : ℕ) {x y : Float} {a b P N Q M : ℕ} → i + j ≡ w + low f → Scaled f i x a P N → Scaled f j y b Q M → Representable (prec f) (a * b) → a * b * 2 ^ w < overflow f
    → Scaled f w (mul f x y) (a * b) (P * Q + N * M) (P * M + N * Q)
mul_exact {f} {i} {j} w {x} {y} {a} {b} {P} {N} {Q} {M} e X Y r l =
    let s = X.side in
    let t = Y.side in
    record {
      side = unlike s t;
      val = subst (λ (z : Float). HasValue z (unlike s t) (a * b * 2 ^ w) (2 ^ low f)) (sym (mul_is f x y s (a * 2 ^ i) t (b * 2 ^ j) (a * b * 2 ^ w) X.val Y.val (powers a i b j w (low f) e)))
          (round_keeps f (unlike s t) (a * b * 2 ^ w) (rep_times (prec f) (a * b) w r) l);
      is = lines (pos_part s a) (neg_part s a) (pos_part t b) (neg_part t b) (ap (λ (z : ℕ). z * Q) X.is) (ap (λ (z : ℕ). z * M) X.is) (ap (λ (z : ℕ). pos_part s a * z) Y.is) (ap (λ (z : ℕ). neg_part s a * z) Y.is) (product_is s a t b).0 (product_is s a t b).1;
    }
  where
    lines : (a a' b b' : ℕ) {A B : ℕ} → (a + N) * Q ≡ (P + a') * Q → (a + N) * M ≡ (P + a') * M → a * (b + M) ≡ a * (Q + b') → a' * (b + M) ≡ a' * (Q + b') → A ≡ a * b + a' * b' → B ≡ a * b' + a' * b
        → A + (P * M + N * Q) ≡ P * Q + N * M + B
    lines a a' b b' h1 h2 h3 h4 h5 h6 = omega arith
