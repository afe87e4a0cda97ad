-- A product and its fused remainder lose nothing: with hi = x * y and lo = x * y - hi fused, hi + lo is exactly x * y where the product is zero before rounding,
-- or is 2 ^ (2 * prec) of the format's smallest value at least (binary64: 2 ^ -968) and hi is finite. The product has at most 2 * prec digits, so prec digits
-- write what hi leaves of it (ErrorFree). Assumes nothing.
use mathlib.Core.Path.{◌≡◌, sym, ap, ◌∙◌, subst}
use mathlib.Core.Logic.{◌⊎◌, inl, inr}
use Prim.Native.Nat.{ℕ, suc, ◌+◌, ◌-◌, ◌*◌, ◌/◌, ◌^◌, ◌≤◌, ◌<◌, ◌∣◌}
use native.Mathlib.Nat.{lt_of_le_of_lt, lt_of_not-le, not-le_of_lt, le_of_eq, le_trans, mul_assoc, mul_comm, mul_right_comm, mul-mul-mul_comm, mul-pos, zero-mul, mul-lt-mul_of_pos_right, lt_of_mul-lt-mul_right, mul-le-mul_left, mul-dvd-mul, dvd_trans, dvd-zero, dvd_of_mul-dvd-mul_right, div-mul_cancel, eq_of_mul-eq-mul_right}
use native.Mathlib.Omega.{arith}
use mathlib.Core.Bool.{Bool, false, not}
use lib.IntN.{ℤ, pos, ◌+ℤ◌, ◌*ℤ◌}
use lib.Dec.{T}
use lib.Pow.{pow-add, pow_pos, pow_mono}
use lib.Ieee.{Float, fin, Format, prec, low, emax, up, down, unlike, mul, neg, sum, round, fits, nan, inf}
use lib.Ieee.Fits.{two, two-le_pos, down_pos}
use lib.Ieee.Exact.{HasValue}
use lib.Ieee.Scale.{round_same, finite, overflow}
use Rattle.exactness.specs.Values.{magnitude, sign, signed, value}
use Rattle.exactness.proofs.Multiples.{distance, pow_dvd}
use Rattle.exactness.proofs.Precision.{to_digits, Representable, rep_zero, rep_as, to_digits-keeps}
use Rattle.exactness.proofs.ErrorFree.{wide_rest, wide_error_le}
use Rattle.exactness.proofs.Signed.{pos_part, neg_part, IsDifference, apart_is, balance, unlike_false, two_is_one, signed_mul}
use Rattle.exactness.proofs.Units.{sum_round, sum_same, neg_is, round_under, round_to-digits, round_keeps, in_units_lem, values_sum, has_finite}
use Rattle.exactness.proofs.Nearest.{fused}

-- ---- the product of two whole numbers that p digits write, in units of 2 ^ l: it is whole, and has at most 2 p digits above its own unit
pub record Product (p l a b : ℕ) : Type 0 where
  pub count : ℕ
  pub unit : ℕ
  pub same : a * b ≡ count * 2 ^ l
  pub whole : 2 ^ unit ∣ count
  pub small : count < 2 ^ (p + (p + unit))

exponent_lt : (i j : ℕ) → 2 ^ i < 2 ^ j → i < j
exponent_lt i j h = lt_of_not-le (λ (g : j ≤ i). not-le_of_lt h (pow_mono g))

pub product : (p l a b : ℕ) → Representable p a → Representable p b → 2 ^ (p + p + l) ≤ a * b → Product p l a b
product p l a b A B h =
    let i = A.unit in
    let j = B.unit in
    let d : 2 ^ (i + j) ∣ a * b = subst (λ (x : ℕ). x ∣ a * b) (sym (pow-add 2 i j)) (mul-dvd-mul (2 ^ i) (2 ^ j) A.whole B.whole) in
    let s : a * b < 2 ^ (p + i + (p + j)) = subst (λ (x : ℕ). a * b < x) (sym (pow-add 2 (p + i) (p + j)))
    (lt_of_le_of_lt (mul-le-mul_left a (le_of_lt' B.small)) (mul-lt-mul_of_pos_right A.small (pow_pos (p + j)))) in
    let g : p + p + l < p + i + (p + j) = exponent_lt (p + p + l) (p + i + (p + j)) (lt_of_le_of_lt h s) in
    let k = i + j - l in
    let c = a * b / 2 ^ l in
    let same : a * b ≡ c * 2 ^ l = sym (div-mul_cancel (2 ^ l) (dvd_trans (2 ^ l) (pow_dvd l (i + j) (omega arith)) d)) in
    let e1 : i + j ≡ k + l = omega arith in
    let e2 : p + i + (p + j) ≡ p + (p + k) + l = omega arith in
    record {
      count = c;
      unit = k;
      same = same;
      whole = dvd_of_mul-dvd-mul_right (2 ^ k) (pow_pos l) (subst (λ (x : ℕ). 2 ^ k * 2 ^ l ∣ x) same (subst (λ (x : ℕ). x ∣ a * b) (ap (λ (x : ℕ). 2 ^ x) e1 ∙ pow-add 2 k l) d));
      small = lt_of_mul-lt-mul_right (2 ^ l) (subst (λ (x : ℕ). x < 2 ^ (p + (p + k)) * 2 ^ l) same (subst (λ (x : ℕ). a * b < x) (ap (λ (x : ℕ). 2 ^ x) e2 ∙ pow-add 2 (p + (p + k)) l) s));
    }
  where
    le_of_lt' : {x y : ℕ} → x < y → x ≤ y
    le_of_lt' {x} {y} q = omega arith

none : (p l a b : ℕ) → a * b ≡ 0 → Product p l a b
none p l a b z = record { count = 0; unit = 0; same = z ∙ sym (zero-mul (2 ^ l)); whole = dvd-zero (2 ^ 0); small = pow_pos (p + (p + 0)) }

-- ---- `mul` and `fused` at such a product
cross : (X Y L a b c de dd : ℕ) → 0 < L → X * L ≡ a * de → Y * L ≡ b * dd → a * b ≡ c * L → X * Y * L ≡ c * (de * dd)
cross X Y L a b c de dd P x y e =
    eq_of_mul-eq-mul_right L P (X * Y * L) (c * (de * dd))
    (mul_assoc (X * Y) L L
    ∙ mul-mul-mul_comm X Y L L
    ∙ ap (λ (z : ℕ). z * (Y * L)) x
    ∙ ap (λ (z : ℕ). a * de * z) y
    ∙ mul-mul-mul_comm a de b dd
    ∙ ap (λ (z : ℕ). z * (de * dd)) e
    ∙ mul_right_comm c L (de * dd))

pub mul_is : (f : Format) (x y : Float) (s : Bool) (a : ℕ) (t : Bool) (b c : ℕ) → HasValue x s a (2 ^ low f) → HasValue y t b (2 ^ low f) → a * b ≡ c * 2 ^ low f
    → mul f x y ≡ round f (unlike s t) c (2 ^ low f)
unfolding mul
mul_is f nan y s a t b c v w h = elim v [ ]
mul_is f (inf _) y s a t b c v w h = elim v [ ]
mul_is f (fin s' m e) nan s a t b c v w h = elim w [ ]
mul_is f (fin s' m e) (inf _) s a t b c v w h = elim w [ ]
mul_is f (fin s' m e) (fin t' n d) s a t b c v w h =
    let L = 2 ^ low f in
    ap (λ (z : Bool). round f (unlike z t') (m * up e * (n * up d)) (down e * down d)) v.0
    ∙ ap (λ (z : Bool). round f (unlike s z) (m * up e * (n * up d)) (down e * down d)) w.0
    ∙ round_same f (unlike s t) (m * up e * (n * up d)) (down e * down d) c L (mul-pos (down_pos e) (down_pos d)) (pow_pos (low f))
    (cross (m * up e) (n * up d) L a b c (down e) (down d) (pow_pos (low f)) v.1 w.1 h)

pub fused_is : (f : Format) (x y z : Float) (s : Bool) (a : ℕ) (t : Bool) (b : ℕ) (u : Bool) (k c : ℕ)
    → HasValue x s a (2 ^ low f) → HasValue y t b (2 ^ low f) → HasValue z u k (2 ^ low f) → a * b ≡ c * 2 ^ low f
    → fused f x y z ≡ sum f (unlike s t) c u k (2 ^ low f)
fused_is f nan y z s a t b u k c v w r h = elim v [ ]
fused_is f (inf _) y z s a t b u k c v w r h = elim v [ ]
fused_is f (fin s' m e) nan z s a t b u k c v w r h = elim w [ ]
fused_is f (fin s' m e) (inf _) z s a t b u k c v w r h = elim w [ ]
fused_is f (fin s' m e) (fin t' n d) nan s a t b u k c v w r h = elim r [ ]
fused_is f (fin s' m e) (fin t' n d) (inf _) s a t b u k c v w r h = elim r [ ]
fused_is f (fin s' m e) (fin t' n d) (fin u' p g) s a t b u k c v w r h =
    let L = 2 ^ low f in
    let A = m * up e * (n * up d) in
    let D = down e * down d in
    ap (λ (q : Bool). sum f (unlike q t') (A * down g) u' (p * up g * D) (D * down g)) v.0
    ∙ ap (λ (q : Bool). sum f (unlike s q) (A * down g) u' (p * up g * D) (D * down g)) w.0
    ∙ ap (λ (q : Bool). sum f (unlike s t) (A * down g) q (p * up g * D) (D * down g)) r.0
    ∙ sum_same f (unlike s t) (A * down g) u (p * up g * D) (D * down g) c k L (mul-pos (mul-pos (down_pos e) (down_pos d)) (down_pos g)) (pow_pos (low f))
    (mul_right_comm A (down g) L ∙ ap (λ (q : ℕ). q * down g) (cross (m * up e) (n * up d) L a b c (down e) (down d) (pow_pos (low f)) v.1 w.1 h) ∙ mul_assoc c D (down g))
    (mul_right_comm (p * up g) D L ∙ ap (λ (q : ℕ). q * D) r.1 ∙ mul_assoc k (down g) D ∙ ap (λ (q : ℕ). k * q) (mul_comm (down g) D))

-- ---- the theorem
-- hi and lo are finite, and hi + lo is exactly x * y
abbrev pub Exact : Format → Float → Float → Float → Float → Type 0
Exact f x y hi lo = T (finite hi) × T (finite lo) × ((value f hi +ℤ value f lo) *ℤ pos (2 ^ low f) ≡ value f x *ℤ value f y)

-- hi and lo of x = ±a and y = ±b, whose product is c units: hi is c rounded, and lo is what c is more than that
pub record Remainder (f : Format) (x y : Float) (u : Bool) (c : ℕ) : Type 0 where
  pub high : HasValue (mul f x y) u (to_digits (prec f) c) (2 ^ low f)
  pub side : Bool
  pub size : ℕ
  pub rest : HasValue (fused f x y (neg (mul f x y))) side size (2 ^ low f)
  pub is : IsDifference side size (pos_part u c + pos_part (not u) (to_digits (prec f) c)) (neg_part u c + neg_part (not u) (to_digits (prec f) c))
  pub apart : size ≡ distance c (to_digits (prec f) c)

pub remainder : (f : Format) (x y : Float) (s : Bool) (a : ℕ) (t : Bool) (b : ℕ) → HasValue x s a (2 ^ low f) → HasValue y t b (2 ^ low f) → (G : Product (prec f) (low f) a b)
    → to_digits (prec f) G.count < overflow f → Remainder f x y (unlike s t) G.count
remainder f x y s a t b X Y G under =
    let p = prec f in
    let L = 2 ^ low f in
    let P : 0 < p = two-le_pos p (two f) in
    let u = unlike s t in
    let c = G.count in
    let h = to_digits p c in
    let hi = mul f x y in
    let v1 : HasValue hi u h L = subst (λ (z : Float). HasValue z u h L) (sym (mul_is f x y s a t b c X Y G.same)) (round_to-digits f u c under) in
    let R = sum_round f u c (not u) h L in
    let q = R.side in
    let n = R.size in
    let g : n ≡ distance c h = apart_is u q c h n R.is in
    record {
      high = v1;
      side = q;
      size = n;
      rest = subst (λ (z : Float). HasValue z q n L) (sym (fused_is f x y (neg hi) s a t b (not u) h c X Y (neg_is hi u h L v1) G.same ∙ R.same))
          (round_keeps f q n (rep_as p n (distance c h) g (wide_rest p c G.unit P G.whole G.small))
          (lt_of_le_of_lt (le_trans (le_of_eq g) (wide_error_le p c G.unit P G.whole G.small)) under));
      is = R.is;
      apart = g;
    }

module _ (f : Format) (x y : Float) (fx : T (fits f x)) (fy : T (fits f y)) (nx : T (finite x)) (ny : T (finite y)) where
  with_product : (G : Product (prec f) (low f) (magnitude f x) (magnitude f y)) → to_digits (prec f) G.count < overflow f → Exact f x y (mul f x y) (fused f x y (neg (mul f x y)))
  with_product G under =
      let L = 2 ^ low f in
      let s = sign x in
      let a = magnitude f x in
      let t = sign y in
      let b = magnitude f y in
      let u = unlike s t in
      let c = G.count in
      let h = to_digits (prec f) c in
      let hi = mul f x y in
      let lo = fused f x y (neg hi) in
      let M = remainder f x y s a t b (in_units_lem f x fx nx).val (in_units_lem f y fy ny).val G under in
      let q = M.side in
      let n = M.size in
      let total : value f hi +ℤ value f lo ≡ signed u c =
      values_sum f hi lo u h q n M.high M.rest
      ∙ two_is_one u h q n u c (balance u q c h n M.is) in (
        has_finite hi u h L M.high,
        has_finite lo q n L M.rest,
        ap (λ (z : ℤ). z *ℤ pos L) total
            ∙ signed_mul u c false L
            ∙ ap (λ (z : Bool). signed z (c * L)) (unlike_false u)
            ∙ ap (λ (z : ℕ). signed u z) (sym G.same)
            ∙ sym (signed_mul s a t b),
      )

  pub two_product_exact : (magnitude f x * magnitude f y ≡ 0) ⊎ ((2 ^ (prec f + prec f + low f) ≤ magnitude f x * magnitude f y) × T (finite (mul f x y)))
      → Exact f x y (mul f x y) (fused f x y (neg (mul f x y)))
  unfolding none
  two_product_exact (inl z) =
      with_product (none (prec f) (low f) (magnitude f x) (magnitude f y) z) (subst (λ (n : ℕ). n < overflow f) (sym (to_digits-keeps (prec f) 0 (rep_zero (prec f)))) (pow_pos (low f + suc (emax f))))
  two_product_exact (inr h) =
      let X = in_units_lem f x fx nx in
      let Y = in_units_lem f y fy ny in
      let G = product (prec f) (low f) (magnitude f x) (magnitude f y) X.rep Y.rep h.0 in
      let e = mul_is f x y (sign x) (magnitude f x) (sign y) (magnitude f y) G.count X.val Y.val G.same in
      with_product G (round_under f (unlike (sign x) (sign y)) G.count (subst (λ (z : Float). T (finite z)) e h.1))
