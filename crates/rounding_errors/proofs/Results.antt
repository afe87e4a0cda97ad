-- How far a rounded sum or product of floats is from the exact one, in units of the format's smallest value and with signs: two inequalities between positive and negative parts,
-- which `omega` reads. Assumes nothing.
use mathlib.Core.Path.{◌≡◌, sym, ap, ◌∙◌, subst}
use Prim.Native.Nat.{ℕ, suc, ◌+◌, ◌*◌, ◌^◌, ◌≤◌, ◌<◌}
use native.Mathlib.Nat.{le_trans, le_of_eq, le_of_lt, lt_of_le_of_lt, mul_assoc, mul_right_comm, mul-le-mul_right, le_of_mul-le-mul_right}
use native.Mathlib.Omega.{arith}
use mathlib.Core.Bool.{Bool, true, false}
use lib.Ieee.{Float, Format, prec, low, unlike, sum, add, mul}
use lib.Ieee.Fits.{two, two-le_pos}
use lib.Ieee.Exact.{HasValue}
use lib.Ieee.Scale.{overflow}
use Rattle.exactness.proofs.Multiples.{distance}
use Rattle.exactness.proofs.Precision.{to_digits}
use Rattle.exactness.proofs.Signed.{pos_part, neg_part, IsDifference, size_is}
use Rattle.exactness.proofs.Units.{sum_round, round_to-digits, add_is}
use Rattle.exactness.proofs.Nearest.{fused}
use Rattle.exactness.proofs.TwoProduct.{mul_is, fused_is}
use Rattle.rounding_errors.proofs.Digits.{error_le, to_digits-le_pow}

-- P - N and P' - N' are no more than e apart
pub record Within (P N P' N' e : ℕ) : Type 0 where
  pub over : P + N' ≤ P' + N + e
  pub under : P' + N ≤ P + N' + e

-- ±r for ±n, which is P - N
pub rounded_within : (s : Bool) (n r P N e : ℕ) → IsDifference s n P N → distance n r ≤ e → Within (pos_part s r) (neg_part s r) P N e
rounded_within true n r P N e i h = record { over = omega arith; under = omega arith }
rounded_within false n r P N e i h = record { over = omega arith; under = omega arith }

pub sum_size : (s : Bool) (a : ℕ) (t : Bool) (b : ℕ) → distance (pos_part s a + pos_part t b) (neg_part s a + neg_part t b) ≤ a + b
sum_size false a false b = omega arith
sum_size false a true b = omega arith
sum_size true a false b = omega arith
sum_size true a true b = omega arith

-- ---- a result that is P - N within e, and m + e units in size at most
pub record Result (f : Format) (z : Float) (P N m e : ℕ) : Type 0 where
  pub side : Bool
  pub size : ℕ
  pub val : HasValue z side size (2 ^ low f)
  pub near : Within (pos_part side size) (neg_part side size) P N e
  pub most : size ≤ m + e

-- where the sizes are below 2 ^ (prec + 1 + j) together, e is 2 ^ j
module _ (f : Format) (j : ℕ) (o : 2 ^ (prec f + suc j) < overflow f) where
  sum_near : (s : Bool) (a : ℕ) (t : Bool) (b : ℕ) → a + b < 2 ^ (prec f + suc j)
      → Result f (sum f s a t b (2 ^ low f)) (pos_part s a + pos_part t b) (neg_part s a + neg_part t b) (a + b) (2 ^ j)
  sum_near s a t b h =
      let p = prec f in
      let P : 0 < p = two-le_pos p (two f) in
      let R = sum_round f s a t b (2 ^ low f) in
      let n = R.size in
      let k : n ≤ a + b = le_trans (le_of_eq (size_is R.side n (pos_part s a + pos_part t b) (neg_part s a + neg_part t b) R.is)) (sum_size s a t b) in
      let e : distance n (to_digits p n) ≤ 2 ^ j = error_le p n j (lt_of_le_of_lt k h) in
      let u = lt_of_le_of_lt (to_digits-le_pow p n (p + suc j) P (le_of_lt (lt_of_le_of_lt k h))) o in
      record {
        side = R.side;
        size = to_digits p n;
        val = subst (λ (z : Float). HasValue z R.side (to_digits p n) (2 ^ low f)) (sym R.same) (round_to-digits f R.side n u);
        near = rounded_within R.side n (to_digits p n) (pos_part s a + pos_part t b) (neg_part s a + neg_part t b) (2 ^ j) R.is e;
        most = omega arith;
      }

  pub add_near : (x y : Float) (s : Bool) (a : ℕ) (t : Bool) (b : ℕ) → HasValue x s a (2 ^ low f) → HasValue y t b (2 ^ low f) → a + b < 2 ^ (prec f + suc j)
      → Result f (add f x y) (pos_part s a + pos_part t b) (neg_part s a + neg_part t b) (a + b) (2 ^ j)
  add_near x y s a t b v w h =
      subst (λ (z : Float). Result f z (pos_part s a + pos_part t b) (neg_part s a + neg_part t b) (a + b) (2 ^ j)) (sym (add_is f x y s a t b v w)) (sum_near s a t b h)

  -- x * y + z, for a product of c units
  pub fused_near : (x y z : Float) (s : Bool) (a : ℕ) (t : Bool) (b : ℕ) (u : Bool) (k c : ℕ) → HasValue x s a (2 ^ low f) → HasValue y t b (2 ^ low f) → HasValue z u k (2 ^ low f)
      → a * b ≡ c * 2 ^ low f → c + k < 2 ^ (prec f + suc j)
      → Result f (fused f x y z) (pos_part (unlike s t) c + pos_part u k) (neg_part (unlike s t) c + neg_part u k) (c + k) (2 ^ j)
  fused_near x y z s a t b u k c v w r e h =
      subst (λ (q : Float). Result f q (pos_part (unlike s t) c + pos_part u k) (neg_part (unlike s t) c + neg_part u k) (c + k) (2 ^ j)) (sym (fused_is f x y z s a t b u k c v w r e))
      (sum_near (unlike s t) c u k h)

-- a product of c units, rounded
pub mul_rounded : (f : Format) (x y : Float) (s : Bool) (a : ℕ) (t : Bool) (b c : ℕ) → HasValue x s a (2 ^ low f) → HasValue y t b (2 ^ low f) → a * b ≡ c * 2 ^ low f
    → to_digits (prec f) c < overflow f → HasValue (mul f x y) (unlike s t) (to_digits (prec f) c) (2 ^ low f)
mul_rounded f x y s a t b c v w e h =
    subst (λ (z : Float). HasValue z (unlike s t) (to_digits (prec f) c) (2 ^ low f)) (sym (mul_is f x y s a t b c v w e)) (round_to-digits f (unlike s t) c h)

-- ---- a product c with c * U = a * x, by what is known of a against U
pub part_le : (m k a x c U : ℕ) → 0 < U → a * x ≡ c * U → m * a ≤ k * U → m * c ≤ k * x
part_le m k a x c U P e h =
    le_of_mul-le-mul_right
    (le_trans (le_of_eq (mul_assoc m c U ∙ ap (λ (z : ℕ). m * z) (sym e) ∙ sym (mul_assoc m a x))) (le_trans (mul-le-mul_right x h) (le_of_eq (mul_right_comm k U x)))) P

pub part_ge : (m k a x c U : ℕ) → 0 < U → a * x ≡ c * U → k * U ≤ m * a → k * x ≤ m * c
part_ge m k a x c U P e h =
    le_of_mul-le-mul_right
    (le_trans (le_of_eq (mul_right_comm k x U)) (le_trans (mul-le-mul_right x h) (le_of_eq (mul_assoc m a x ∙ ap (λ (z : ℕ). m * z) e ∙ sym (mul_assoc m c U))))) P
