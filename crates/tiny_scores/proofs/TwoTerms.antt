-- The two terms of step 5, hi + (lo + C2 * x * x), lie within 1/2 + 2 ^ -40 of their own spacing from the exact sum. Assumes nothing.
-- In units of 1 / N, with w the last place of x, and v = w / 2 ^ 50: LN2H * x = hi + rest exactly, with rest at most w / 2; LN2L * x + rest, C2 * x * x and their sum are at most 6 w,
-- so each is rounded within v; C2 * x is rounded within w / 2, which is v or less after the second factor x; hi + (..) is rounded within half of its spacing g. With 2 ^ 48 * v at most g
-- that is g / 2 + 4 v in all.
use mathlib.Core.Path.{◌≡◌, sym, ap, ◌∙◌, subst}
use mathlib.Core.Bool.{Bool, true, false, not}
use Prim.Native.Nat.{ℕ, suc, ◌+◌, ◌-◌, ◌*◌, ◌^◌, ◌≤◌, ◌<◌}
use native.Mathlib.Nat.{le_trans, le_of_eq, le_of_lt, lt_of_lt_of_le, lt_of_le_of_lt, add-mul, mul_assoc, mul_comm, mul_right_comm, mul-le-mul_left, mul-le-mul_right, le_of_mul-le-mul_right}
use native.Mathlib.Omega.{arith}
use lib.Dec.{lit≤, lit<}
use lib.IntN.{pos, nat_abs, ◌-ℤ◌, ◌*ℤ◌}
use lib.Pow.{pow-add, pow_pos, pow_mono}
use lib.Ieee.{Float, binary64, of_bits, unlike, sum, add, mul, neg}
use lib.Ieee.Exact.{HasValue}
use lib.Ieee.Scale.{overflow}
use Rattle.exactness.specs.Values.{sign, signed}
use Rattle.exactness.proofs.Multiples.{distance}
use Rattle.exactness.proofs.Precision.{to_digits, dropped, dropped_lt, dropped_le, dropped_ge, dropped_full}
use Rattle.exactness.proofs.Signed.{pos_part, neg_part, size_is, balance}
use Rattle.exactness.proofs.Units.{Rounded, sum_round, add_is, neg_is, has_finite, round_to-digits}
use Rattle.exactness.proofs.Nearest.{fused_nearest}
use Rattle.exactness.proofs.TwoProduct.{Product, product, Remainder, remainder}
use Rattle.rounding_errors.specs.Spacing.{value_of, size_of}
use Rattle.rounding_errors.proofs.Digits.{error_half, error_le, rep-to_digits, to_digits-half, to_digits-le_pow, to_digits-ge_pow, dropped-to_digits}
use Rattle.rounding_errors.proofs.Results.{Within, sum_size, Result, add_near, fused_near, mul_rounded, part_le, part_ge}
use Rattle.pair.specs.Pair.{bits}
use Rattle.double_double.specs.Pairs.{fma, a_mul}
use Rattle.exponential.specs.Constants.{LN2H, LN2L}
use Rattle.exp2m1.specs.Constants.{C2}
use Rattle.exp2m1.specs.Phases.{exp2m1_two_terms}
use Rattle.tiny_scores.specs.TinyScores.{N, exact, share}
use Rattle.tiny_scores.proofs.Weights.{Weight}
use Rattle.tiny_scores.proofs.Polynomial.{number_H, number_L, number_C, number_x, h, l, c, unlike_back, away_is}
use Rattle.tiny_scores.proofs.Estimates.{v_small, rest_le, square_le, low_le, mid_le, high_ge, end_ge, end_le, below_wide, large, final, apart_within, together, drift, scaled}

-- LN2H from 1/2 to 3/4, LN2L up to 2 ^ -55, C2 up to 1/4
sizes : (4 * h ≤ 3 * N) × (1 * N ≤ 2 * h) × (2 ^ 55 * l ≤ 1 * N) × (4 * c ≤ 1 * N)
unfolding of_bits
sizes = (lit≤ tt, lit≤ tt, lit≤ tt, lit≤ tt)

-- the products with the least weight keep all their digits, and that of C2 after it is rounded
products : (2 ^ 1180 ≤ h * 2 ^ 970) × (2 ^ 1180 ≤ l * 2 ^ 970) × (2 ^ 1180 ≤ c * 2 ^ 970) × (2 ^ 966 * (2 * N) ≤ c * 2 ^ 970)
unfolding of_bits
products = (lit≤ tt, lit≤ tt, lit≤ tt, lit≤ tt)

one : (n : ℕ) → n ≡ 1 * n
one n = omega arith

at_most-x : (n m X : ℕ) → m ≤ 4 → 4 * n ≤ m * X → n ≤ X
at_most-x n m X g i = let k = mul-le-mul_right X g in omega arith

multiple : (q u : Bool) (n a b d M : ℕ) → distance (pos_part q (n * M) + neg_part u ((a + b) * M)) (neg_part q (n * M) + (pos_part u ((a + b) * M) + d))
    ≡ distance (pos_part q n * M + (neg_part u a + neg_part u b) * M) (neg_part q n * M + ((pos_part u a + pos_part u b) * M + d))
multiple true true n a b d M = omega arith
multiple true false n a b d M = omega arith
multiple false true n a b d M = omega arith
multiple false false n a b d M = omega arith

-- the two terms are ±size, and close to the exact sum
pub record Near (ux : ℕ) : Type 0 where
  pub side : Bool
  pub size : ℕ
  pub val : HasValue (exp2m1_two_terms (bits ux)) side size N
  pub most : size ≤ N
  pub near : 2 ^ 40 * nat_abs (signed side size *ℤ pos (N * N) -ℤ exact (value_of ux)) ≤ share * (2 ^ dropped 53 size * (N * N))

module _ (ux : ℕ) (W : Weight ux) where
  abbrev x : Float
  x = bits ux

  abbrev X : ℕ
  X = size_of ux

  abbrev s : Bool
  s = sign x

  -- the sign of every product of a constant with x
  abbrev u : Bool
  u = unlike false s

  vx : HasValue x s X N
  vx = (number_x ux W).val

  x_under : 2 ^ 50 * X ≤ 1 * N
  x_under = le_trans (mul-le-mul_left (2 ^ 50) W.most) (lit≤ tt)

  -- ---- the last place of x, and one 50 digits finer
  abbrev k : ℕ
  k = dropped 53 X

  abbrev j : ℕ
  j = k - 50

  abbrev w : ℕ
  w = 2 ^ k

  abbrev v : ℕ
  v = 2 ^ j

  k_large : 51 ≤ k
  k_large = dropped_ge 53 X 51 (lit< tt) (le_trans (lit≤ tt) W.least)

  w_is : w ≡ 2 ^ 50 * v
  w_is = ap (λ (i : ℕ). 2 ^ i) e ∙ pow-add 2 50 j
    where
      e : k ≡ 50 + (k - 50)
      e = omega (arith, k_large)

  v_le : 4 * v ≤ w
  v_le = v_small v w w_is

  x_pow : X < 2 ^ (53 + k)
  x_pow = dropped_lt 53 X

  x_lt : X < 2 ^ 53 * w
  x_lt = lt_of_lt_of_le x_pow (le_of_eq (pow-add 2 53 k))

  x_ge : 2 ^ 52 * w ≤ X
  x_ge = le_trans (le_of_eq (sym (pow-add 2 52 k) ∙ ap (λ (i : ℕ). 2 ^ i) e)) (dropped_full 53 X (k - 1) (omega (arith, k_large)))
    where
      e : 52 + k ≡ 53 + (k - 1)
      e = omega (arith, k_large)

  next_pow : (i : ℕ) → 2 ^ (53 + suc i) ≡ 2 ^ 54 * 2 ^ i
  next_pow i = ap (λ (n : ℕ). 2 ^ n) (e i) ∙ pow-add 2 54 i
    where
      e : (i : ℕ) → 53 + suc i ≡ 54 + i
      e i = omega arith

  -- nothing exceeds 1
  top_le : 2 ^ (53 + suc k) ≤ N
  top_le = le_trans (le_of_eq (next_pow k)) (a w X N x_ge x_under)
    where
      a : (w X U : ℕ) → 2 ^ 52 * w ≤ X → 2 ^ 50 * X ≤ 1 * U → 2 ^ 54 * w ≤ U
      a w X U g i = omega arith

  top_under : 2 ^ (53 + suc k) < overflow binary64
  top_under = lt_of_le_of_lt top_le (lit< tt)

  wide_under : 2 ^ (53 + suc j) < overflow binary64
  wide_under = lt_of_le_of_lt (pow_mono (omega arith)) top_under

  small_under : (n : ℕ) → n ≤ X → to_digits 53 n < overflow binary64
  small_under n g = lt_of_le_of_lt (to_digits-le_pow 53 n (53 + suc k) (lit< tt) (le_trans g (le_of_lt (lt_of_lt_of_le x_pow (pow_mono (omega arith)))))) top_under

  -- a number no larger than x is rounded within half of w, and one of a few w within v
  half_w : (n : ℕ) → n ≤ X → 2 * distance n (to_digits 53 n) ≤ w
  half_w n g = le_trans (error_half 53 n) (pow_mono (dropped_le 53 n k (lt_of_le_of_lt g x_pow)))

  wide : (n m : ℕ) → n ≤ m * w → m ≤ 8 → n < 2 ^ (53 + suc j)
  wide n m a b = lt_of_lt_of_le (below_wide n m w v a b w_is (pow_pos j)) (le_of_eq (sym (next_pow j)))

  -- ---- the products, exactly
  enough : (n : ℕ) → 2 ^ 1180 ≤ n * 2 ^ 970 → 2 ^ 1180 ≤ n * X
  enough n g = le_trans g (mul-le-mul_left n W.least)

  Hx : Product 53 1074 h X
  Hx = product 53 1074 h X number_H.rep (number_x ux W).rep (enough h products.0)

  Lx : Product 53 1074 l X
  Lx = product 53 1074 l X number_L.rep (number_x ux W).rep (enough l products.1)

  Cx : Product 53 1074 c X
  Cx = product 53 1074 c X number_C.rep (number_x ux W).rep (enough c products.2)

  Hx_le : Hx.count ≤ X
  Hx_le = at_most-x Hx.count 3 X (lit≤ tt) (part_le 4 3 h X Hx.count N (pow_pos 1074) Hx.same sizes.0)

  Cx_quarter : 4 * Cx.count ≤ 1 * X
  Cx_quarter = part_le 4 1 c X Cx.count N (pow_pos 1074) Cx.same sizes.3

  Cx_le : Cx.count ≤ X
  Cx_le = at_most-x Cx.count 1 X (lit≤ tt) Cx_quarter

  -- ---- hi, and rest, what it leaves of LN2H * x
  abbrev hi : Float
  hi = mul binary64 LN2H x

  abbrev high : ℕ
  high = to_digits 53 Hx.count

  rest : Remainder binary64 LN2H x u Hx.count
  rest = remainder binary64 LN2H x false h s X number_H.val vx Hx (small_under Hx.count Hx_le)

  abbrev rest_float : Float
  rest_float = fma LN2H x (neg hi)

  rest_val : HasValue rest_float rest.side rest.size N
  rest_val =
      subst (λ (z : Float). HasValue z rest.side rest.size N)
      (sym (fused_nearest LN2H x (neg hi) (has_finite LN2H false h N number_H.val) W.number (has_finite (neg hi) (not u) high N (neg_is hi u high N rest.high)))) rest.rest

  -- ---- lo: LN2L * x and the rest
  abbrev lo_float : Float
  lo_float = fma LN2L x rest_float

  low_sum : Lx.count + rest.size ≤ 1 * w
  low_sum =
      le_trans (rest_le Lx.count rest.size X w (part_le (2 ^ 55) 1 l X Lx.count N (pow_pos 1074) Lx.same sizes.2) x_lt
      (subst (λ (n : ℕ). 2 * n ≤ w) (sym rest.apart) (half_w Hx.count Hx_le))) (le_of_eq (one w))

  lo : Result binary64 lo_float (pos_part u Lx.count + pos_part rest.side rest.size) (neg_part u Lx.count + neg_part rest.side rest.size) (Lx.count + rest.size) v
  lo =
      subst (λ (z : Float). Result binary64 z (pos_part u Lx.count + pos_part rest.side rest.size) (neg_part u Lx.count + neg_part rest.side rest.size) (Lx.count + rest.size) v)
      (sym (fused_nearest LN2L x rest_float (has_finite LN2L false l N number_L.val) W.number (has_finite rest_float rest.side rest.size N rest_val)))
      (fused_near binary64 j wide_under LN2L x rest_float false l s X rest.side rest.size Lx.count number_L.val vx rest_val Lx.same
      (wide (Lx.count + rest.size) 1 low_sum (lit≤ tt)))

  -- ---- C2 * x, rounded, and its product with x, rounded
  abbrev c_x : ℕ
  c_x = to_digits 53 Cx.count

  c_x-near : 2 * distance Cx.count c_x ≤ w
  c_x-near = half_w Cx.count Cx_le

  c_x-val : HasValue (mul binary64 C2 x) u c_x N
  c_x-val = mul_rounded binary64 C2 x false c s X Cx.count number_C.val vx Cx.same (small_under Cx.count Cx_le)

  -- it is half of C2 * x at least
  c_x-enough : 2 ^ 1180 ≤ c_x * 2 ^ 970
  c_x-enough =
      let a : 2 ^ 966 * (2 * N) ≤ c_x * (2 * N) = le_trans products.3 (le_trans (mul-le-mul_left c W.least) (le_trans (le_of_eq Cx.same) (twice Cx.count c_x N (to_digits-half 53 Cx.count (lit< tt))))) in
      let b : 2 ^ 966 ≤ c_x = le_of_mul-le-mul_right a (lit< tt) in
      le_trans (lit≤ tt) (mul-le-mul_right (2 ^ 970) b)
    where
      twice : (a b U : ℕ) → a ≤ 2 * b → a * U ≤ b * (2 * U)
      twice a b U g = le_trans (mul-le-mul_right U g) (le_of_eq (ap (λ (z : ℕ). z * U) (mul_comm 2 b) ∙ mul_assoc b 2 U))

  Cxx : Product 53 1074 c_x X
  Cxx = product 53 1074 c_x X (rep-to_digits 53 Cx.count (lit< tt)) (number_x ux W).rep (enough c_x c_x-enough)

  abbrev square : ℕ
  square = Cxx.count

  square_small : square ≤ 3 * w
  square_small = square_le Cx.count c_x square X w (part_le (2 ^ 50) 1 X c_x square N (pow_pos 1074) (mul_comm X c_x ∙ Cxx.same) x_under) c_x-near Cx_quarter x_lt

  abbrev Q : ℕ
  Q = to_digits 53 square

  Q_near : distance square Q ≤ v
  Q_near = error_le 53 square j (wide square 3 square_small (lit≤ tt))

  abbrev Q_float : Float
  Q_float = mul binary64 (mul binary64 C2 x) x

  Q_val : HasValue Q_float false Q N
  Q_val =
      subst (λ (b : Bool). HasValue Q_float b Q N) (unlike_back s)
      (mul_rounded binary64 (mul binary64 C2 x) x u c_x s X square c_x-val vx Cxx.same (small_under square (a square X w square_small x_ge)))
    where
      a : (n X w : ℕ) → n ≤ 3 * w → 2 ^ 52 * w ≤ X → n ≤ X
      a n X w g i = omega arith

  -- ---- their sum
  mid_sum : lo.size + Q ≤ 5 * w
  mid_sum = low_le lo.size (Lx.count + rest.size) Q square v w lo.most (le_trans low_sum (le_of_eq (sym (one w)))) Q_near square_small v_le

  mid : Result binary64 (add binary64 lo_float Q_float) (pos_part lo.side lo.size + Q) (neg_part lo.side lo.size + 0) (lo.size + Q) v
  mid = add_near binary64 j wide_under lo_float Q_float lo.side lo.size false Q lo.val Q_val (wide (lo.size + Q) 5 mid_sum (lit≤ tt))

  mid_small : mid.size ≤ 6 * w
  mid_small = mid_le mid.size (lo.size + Q) v w mid.most mid_sum v_le

  -- ---- the last sum: n before it is rounded, r after
  abbrev P : ℕ
  P = pos_part u high + pos_part mid.side mid.size

  abbrev M : ℕ
  M = neg_part u high + neg_part mid.side mid.size

  end : Rounded binary64 u high (sum binary64 u high mid.side mid.size N) P M N
  end = sum_round binary64 u high mid.side mid.size N

  abbrev n : ℕ
  n = end.size

  abbrev r : ℕ
  r = to_digits 53 n

  n_is : n ≡ distance P M
  n_is = size_is end.side n P M end.is

  high_least : 2 ^ 51 * w ≤ high
  high_least =
      le_trans (le_of_eq (sym (pow-add 2 51 k)))
      (to_digits-ge_pow 53 Hx.count (51 + k) (lit< tt)
      (le_trans (le_of_eq (pow-add 2 51 k)) (high_ge Hx.count X w (part_ge 2 1 h X Hx.count N (pow_pos 1074) Hx.same sizes.1) x_ge)))

  high_most : high ≤ 2 ^ 53 * w
  high_most = le_trans (to_digits-le_pow 53 Hx.count (53 + k) (lit< tt) (le_of_lt (lt_of_le_of_lt Hx_le x_pow))) (le_of_eq (pow-add 2 53 k))

  n_least : 2 ^ 50 * w ≤ n
  n_least = end_ge high mid.size n w high_least mid_small (subst (λ (i : ℕ). high ≤ i + mid.size) (sym n_is) (large u mid.side high mid.size))

  r_most : r ≤ 2 ^ (53 + suc k)
  r_most =
      to_digits-le_pow 53 n (53 + suc k) (lit< tt)
      (le_trans (end_le high mid.size n w high_most mid_small (le_trans (le_of_eq n_is) (sum_size u high mid.side mid.size))) (le_of_eq (sym (next_pow k))))

  r_val : HasValue (add binary64 hi (add binary64 lo_float Q_float)) end.side r N
  r_val =
      subst (λ (z : Float). HasValue z end.side r N) (sym (add_is binary64 hi (add binary64 lo_float Q_float) u high mid.side mid.size rest.high mid.val ∙ end.same))
      (round_to-digits binary64 end.side n (lt_of_le_of_lt r_most top_under))

  -- the spacing of r, at a power of two the wider one
  abbrev g : ℕ
  g = 2 ^ dropped 53 r

  g_least : 2 ^ 48 * v ≤ g
  g_least =
      le_trans (le_of_eq (sym (pow-add 2 48 j)))
      (pow_mono (le_trans (dropped_ge 53 n (48 + j) (lit< tt) (le_trans (le_of_eq (ap (λ (i : ℕ). 2 ^ i) place ∙ pow-add 2 50 k)) n_least)) (dropped-to_digits 53 n (lit< tt))))
    where
      place : 53 + (48 + j) - 1 ≡ 50 + k
      place = omega (arith, k_large)

  g_half : 2 * distance n r ≤ g
  g_half = le_trans (error_half 53 n) (pow_mono (dropped-to_digits 53 n (lit< tt)))

  -- ---- all the errors; A - B is the first term
  abbrev A : ℕ
  A = pos_part u Hx.count + pos_part u Lx.count

  abbrev B : ℕ
  B = neg_part u Hx.count + neg_part u Lx.count

  all_errors : Within (2 * pos_part end.side r) (2 * neg_part end.side r) (2 * (A + square)) (2 * B) (g + 6 * v)
  all_errors =
      together (pos_part u high) (neg_part u high) (pos_part rest.side rest.size) (neg_part rest.side rest.size) (pos_part lo.side lo.size) (neg_part lo.side lo.size)
      (pos_part mid.side mid.size) (neg_part mid.side mid.size) (pos_part end.side r) (neg_part end.side r) (pos_part u Hx.count) (neg_part u Hx.count) (pos_part u Lx.count) (neg_part u Lx.count) Q square v g
      (balance u rest.side Hx.count high rest.size rest.is) lo.near (apart_within square Q v Q_near) mid.near (final end.side n r P M g end.is g_half)

  first_is : (h + l) * X * N ≡ (Hx.count + Lx.count) * (N * N)
  first_is =
      ap (λ (i : ℕ). i * N) (add-mul h l X ∙ ap (λ (i : ℕ). i + l * X) Hx.same ∙ ap (λ (i : ℕ). Hx.count * N + i) Lx.same ∙ sym (add-mul Hx.count Lx.count N))
      ∙ mul_assoc (Hx.count + Lx.count) N N

  away_scaled : nat_abs (signed end.side r *ℤ pos (N * N) -ℤ exact (value_of ux)) ≡ distance (pos_part end.side r * (N * N) + B * (N * N)) (neg_part end.side r * (N * N) + (A * (N * N) + c * X * X))
  away_scaled =
      away_is ux W end.side r (N * N)
      ∙ ap (λ (a : ℕ). distance (pos_part end.side (r * (N * N)) + neg_part u a) (neg_part end.side (r * (N * N)) + (pos_part u a + c * X * X))) first_is
      ∙ multiple end.side u r Hx.count Lx.count (c * X * X) (N * N)

  pub two_terms_near : Near ux
  unfolding exp2m1_two_terms a_mul
  two_terms_near = record {
    side = end.side;
    size = r;
    val = r_val;
    most = le_trans r_most top_le;
    near = subst (λ (a : ℕ). 2 ^ 40 * a ≤ share * (g * (N * N))) (sym away_scaled)
        (scaled (pos_part end.side r) (neg_part end.side r) A B square (Cx.count * X) (c * X * X) v g N
        all_errors (drift Cx.count c_x X w v N square (sym Cxx.same) c_x-near w_is x_under) (mul_right_comm Cx.count X N ∙ ap (λ (i : ℕ). i * X) (sym Cx.same)) g_least);
  }
