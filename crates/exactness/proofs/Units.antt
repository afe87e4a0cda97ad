-- Floats as signed whole numbers of the format's smallest value: `HasValue x s n (2 ^ low f)` says that x is finite, has the sign s and is n units in size.
-- A sum of two such values is `round` at a whole number; where p digits write that number nothing is lost, and else the result is `to_digits` of it. Assumes nothing.
use mathlib.Core.Path.{◌≡◌, refl, sym, ap, ◌∙◌, subst}
use Prim.Native.Nat.{ℕ, zero, suc, ◌+◌, ◌-◌, ◌*◌, ◌%◌, ◌^◌, ◌≤◌, ◌<◌, ◌∣◌}
use native.Mathlib.Nat.{le_of_eq, lt_of_lt_of_le, lt_of_le_of_lt, mul_assoc, mul_comm, mul_right_comm, mul-one, mul-pos, add-mul, mul-div_cancel, mul-lt-mul_of_pos_right, lt_of_mul-lt-mul_right, dvd-mul_left, div-eq_of_eq-mul_left, sub-add_cancel, not-le_of_lt, lt_of_not-le, zero-mul, le_of_suc-le-suc}
use native.Mathlib.Omega.{arith}
use mathlib.Core.Bool.{Bool, true, false, not, ◌&&◌, beq, cond}
use lib.IntN.{ℤ, pos, negsuc, ◌+ℤ◌}
use lib.Dec.{T, ltb, leb, eqb, ltb→lt, lt→ltb, nltb→le, leb→le}
use lib.Pow.{pow-add, pow_pos, pow-lt, shl_lt}
use lib.Ieee.{Float, nan, inf, fin, Format, prec, emax, low, up, down, size, odd, units, round, sum, add, neg, fits, sub}
use lib.Ieee.Fits.{core, round_is, and_l, and_r, down_pos}
use lib.Ieee.Exact.{HasValue, units_val}
use lib.Ieee.Nearest.{closest, closest_same}
use lib.Ieee.Scale.{round_same, finite, overflow}
use Rattle.wide.proofs.Nat.{sub_mul}
use Rattle.exactness.specs.Values.{magnitude, sign, signed, value}
use Rattle.exactness.proofs.Multiples.{distance}
use Rattle.exactness.proofs.Precision.{rep_as, dropped, to_digits, Representable, rep_zero, to_digits-keeps}
use Rattle.exactness.proofs.Signed.{pos_part, neg_part, IsDifference, NotMinusZero, size_is, sign_is, pos_part-not, neg_part-not}

-- ---- `round` at a whole number of units
pub round_grid : (f : Format) (s : Bool) (n : ℕ) → round f s n (2 ^ low f) ≡ units f s (closest n (2 ^ dropped (prec f) n)) (dropped (prec f) n)
round_grid f s n =
    let l = 2 ^ low f in
    let k = dropped (prec f) n in
    round_is f s n l
    ∙ ap (λ (x : ℕ). core f s (n * l) l (size x - prec f)) (mul-div_cancel n (pow_pos (low f)))
    ∙ ap (λ (x : ℕ). units f s x k) (closest_same (n * l) (l * 2 ^ k) n (2 ^ k) (mul-pos (pow_pos (low f)) (pow_pos k)) (pow_pos k) (mul_assoc n l (2 ^ k)))

units_under : (f : Format) (s : Bool) (q k : ℕ) → T (finite (units f s q k)) → q * 2 ^ k < overflow f
unfolding units
units_under f s q k = go (ltb (q * 2 ^ k) (overflow f)) (ltb→lt (q * 2 ^ k) (overflow f))
  where
    go : (b : Bool) → (T b → q * 2 ^ k < overflow f) → T (finite (cond b (odd (suc (prec f)) s q k (low f)) (inf s))) → q * 2 ^ k < overflow f
    go true h t = h tt
    go false h t = absurd t

pub round_under : (f : Format) (s : Bool) (n : ℕ) → T (finite (round f s n (2 ^ low f))) → to_digits (prec f) n < overflow f
unfolding to_digits
round_under f s n t = units_under f s (closest n (2 ^ dropped (prec f) n)) (dropped (prec f) n) (subst (λ (z : Float). T (finite z)) (round_grid f s n) t)

pub round_to-digits : (f : Format) (s : Bool) (n : ℕ) → to_digits (prec f) n < overflow f → HasValue (round f s n (2 ^ low f)) s (to_digits (prec f) n) (2 ^ low f)
unfolding to_digits
round_to-digits f s n h = subst (λ (z : Float). HasValue z s (to_digits (prec f) n) (2 ^ low f)) (sym (round_grid f s n)) (units_val f s (closest n (2 ^ dropped (prec f) n)) (dropped (prec f) n) h)

pub round_keeps : (f : Format) (s : Bool) (n : ℕ) → Representable (prec f) n → n < overflow f → HasValue (round f s n (2 ^ low f)) s n (2 ^ low f)
round_keeps f s n r h =
    let e = to_digits-keeps (prec f) n r in
    subst (λ (x : ℕ). HasValue (round f s n (2 ^ low f)) s x (2 ^ low f)) e (round_to-digits f s n (subst (λ (x : ℕ). x < overflow f) (sym e) h))

-- ---- `sum` sees only the values of its fractions
T_ext : (p q : Bool) → (T p → T q) → (T q → T p) → p ≡ q
T_ext true true h k = refl
T_ext true false h k = absurd (h tt)
T_ext false true h k = absurd (k tt)
T_ext false false h k = refl

scaled_lt : (a b c A B C : ℕ) → 0 < c → 0 < C → a * C ≡ A * c → b * C ≡ B * c → a < b → A < B
scaled_lt a b c A B C p q x y h = lt_of_mul-lt-mul_right c (let k : a * C < b * C = mul-lt-mul_of_pos_right h q in omega arith)

scaled_test : (a b c A B C : ℕ) → 0 < c → 0 < C → a * C ≡ A * c → b * C ≡ B * c → ltb a b ≡ ltb A B
scaled_test a b c A B C p q x y =
    T_ext (ltb a b) (ltb A B) (λ (h : T (ltb a b)). lt→ltb A B (scaled_lt a b c A B C p q x y (ltb→lt a b h)))
    (λ (h : T (ltb A B)). lt→ltb a b (scaled_lt A B C a b c q p (sym x) (sym y) (ltb→lt A B h)))

pub sum_same : (f : Format) (s : Bool) (a : ℕ) (t : Bool) (b c A B C : ℕ) → 0 < c → 0 < C → a * C ≡ A * c → b * C ≡ B * c → sum f s a t b c ≡ sum f s A t B C
unfolding sum
sum_same f s a t b c A B C p q x y =
    let both : (a + b) * C ≡ (A + B) * c = add-mul a b C ∙ omega arith ∙ sym (add-mul A B c) in
    let first : (a - b) * C ≡ (A - B) * c = sub_mul a b C ∙ ap (λ (z : ℕ). z - b * C) x ∙ ap (λ (z : ℕ). A * c - z) y ∙ sym (sub_mul A B c) in
    let second : (b - a) * C ≡ (B - A) * c = sub_mul b a C ∙ ap (λ (z : ℕ). z - a * C) y ∙ ap (λ (z : ℕ). B * c - z) x ∙ sym (sub_mul B A c) in
    λ i. cond (beq s t) (round_same f s (a + b) c (A + B) C p q both i) (cond (scaled_test a b c A B C p q x y i) (round_same f t (b - a) c (B - A) C p q second i) (apart2 (scaled_test b a c B A C p q y x) first i))
  where
    apart2 : ltb b a ≡ ltb B A → (a - b) * C ≡ (A - B) * c → round f (s && ltb b a) (a - b) c ≡ round f (s && ltb B A) (A - B) C
    apart2 l e = ap (λ (z : Bool). round f (s && z) (a - b) c) l ∙ round_same f (s && ltb B A) (a - b) c (A - B) C p q e

-- ---- `sum` is `round` at one whole number with a sign
pub record Rounded (f : Format) (s : Bool) (a : ℕ) (x : Float) (P N c : ℕ) : Type 0 where
  pub side : Bool
  pub size : ℕ
  pub same : x ≡ round f side size c
  pub is : IsDifference side size P N
  pub not_minus : NotMinusZero s a → NotMinusZero side size

pub sum_round : (f : Format) (s : Bool) (a : ℕ) (t : Bool) (b c : ℕ) → Rounded f s a (sum f s a t b c) (pos_part s a + pos_part t b) (neg_part s a + neg_part t b) c
unfolding sum
sum_round f false a false b c = record { side = false; size = a + b; same = refl; is = omega arith; not_minus = λ k z. refl }
sum_round f true a true b c = record { side = true; size = a + b; same = refl; is = omega arith; not_minus = λ k z. k (omega arith) }
sum_round f false a true b c = go (ltb a b) (ltb→lt a b) (nltb→le a b)
  where
    go : (z : Bool) → (T z → a < b) → (T (not z) → b ≤ a) → Rounded f false a (cond z (round f true (b - a) c) (round f false (a - b) c)) (a + 0) (0 + b) c
    go true h k = let l = h tt in record { side = true; size = b - a; same = refl; is = omega arith; not_minus = λ k z. absurd (omega arith) }
    go false h k = let l = k tt in record { side = false; size = a - b; same = refl; is = omega arith; not_minus = λ k z. refl }
sum_round f true a false b c = go (ltb a b) (ltb→lt a b) (nltb→le a b) (ltb b a) (ltb→lt b a) (nltb→le b a)
  where
    go : (z : Bool) → (T z → a < b) → (T (not z) → b ≤ a) → (w : Bool) → (T w → b < a) → (T (not w) → a ≤ b) → Rounded f true a (cond z (round f false (b - a) c) (round f w (a - b) c)) (0 + b) (a + 0) c
    go true h k w i m = let l = h tt in record { side = false; size = b - a; same = refl; is = omega arith; not_minus = λ k z. refl }
    go false h k true i m = let l = i tt in record { side = true; size = a - b; same = refl; is = omega arith; not_minus = λ k z. absurd (omega arith) }
    go false h k false i m = let l = k tt in let n = m tt in record { side = false; size = a - b; same = refl; is = omega arith; not_minus = λ k z. refl }

-- where the first is not -0, the sum is known by the difference alone
pub sum_is : (f : Format) (s : Bool) (a : ℕ) (t : Bool) (b c : ℕ) → NotMinusZero s a
    → sum f s a t b c ≡ round f (ltb (pos_part s a + pos_part t b) (neg_part s a + neg_part t b)) (distance (pos_part s a + pos_part t b) (neg_part s a + neg_part t b)) c
sum_is f s a t b c z =
    let R = sum_round f s a t b c in
    let P = pos_part s a + pos_part t b in
    let N = neg_part s a + neg_part t b in
    R.same ∙ (λ i. round f (sign_is R.side R.size P N (R.not_minus z) R.is i) (size_is R.side R.size P N R.is i) c)

-- ---- the sum of two values
pub add_is : (f : Format) (x y : Float) (s : Bool) (a : ℕ) (t : Bool) (b : ℕ) → HasValue x s a (2 ^ low f) → HasValue y t b (2 ^ low f) → add f x y ≡ sum f s a t b (2 ^ low f)
unfolding add
add_is f nan y s a t b p q = elim p [ ]
add_is f (inf _) y s a t b p q = elim p [ ]
add_is f (fin s' m e) nan s a t b p q = elim q [ ]
add_is f (fin s' m e) (inf _) s a t b p q = elim q [ ]
add_is f (fin s' m e) (fin t' n d) s a t b p q =
    let L = 2 ^ low f in
    ap (λ (z : Bool). sum f z (m * up e * down d) t' (n * up d * down e) (down e * down d)) p.0
    ∙ ap (λ (z : Bool). sum f s (m * up e * down d) z (n * up d * down e) (down e * down d)) q.0
    ∙ sum_same f s (m * up e * down d) t (n * up d * down e) (down e * down d) a b L (mul-pos (down_pos e) (down_pos d)) (pow_pos (low f))
    (mul_right_comm (m * up e) (down d) L ∙ ap (λ (z : ℕ). z * down d) p.1 ∙ mul_assoc a (down e) (down d))
    (mul_right_comm (n * up d) (down e) L ∙ ap (λ (z : ℕ). z * down e) q.1 ∙ mul_assoc b (down d) (down e) ∙ ap (λ (z : ℕ). b * z) (mul_comm (down d) (down e)))

pub neg_is : (x : Float) (s : Bool) (a c : ℕ) → HasValue x s a c → HasValue (neg x) (not s) a c
unfolding neg
neg_is nan s a c v = elim v [ ]
neg_is (inf _) s a c v = elim v [ ]
neg_is (fin t m e) s a c v = (ap not v.0, v.1)

pub neg_finite : (x : Float) → T (finite x) → T (finite (neg x))
unfolding neg
neg_finite nan t = elim t [ ]
neg_finite (inf _) t = elim t [ ]
neg_finite (fin s m e) t = t

-- ---- a value by its whole number
pub record InUnits (f : Format) (x : Float) : Type 0 where
  pub val : HasValue x (sign x) (magnitude f x) (2 ^ low f)
  pub rep : Representable (prec f) (magnitude f x)
  pub under : magnitude f x < overflow f

-- n units, and all that is asked of n
record Units (f : Format) (m : ℕ) (e : ℤ) : Type 0 where
  count : ℕ
  same : m * up e * 2 ^ low f ≡ count * down e
  rep : Representable (prec f) count
  under : count < overflow f

exponent_le : (i j : ℕ) → 2 ^ i ≤ 2 ^ j → i ≤ j
exponent_le i j h = le_of_suc-le-suc (lt_of_not-le (λ (g : suc j ≤ i). not-le_of_lt (pow-lt g) h))

units_of : (f : Format) (m : ℕ) (e : ℤ) → m < 2 ^ prec f → down e ≤ 2 ^ low f → m * up e < 2 ^ suc (emax f) * down e → Units f m e
units_of f m (pos k) a b c =
    let l = low f in
    let n = m * 2 ^ k * 2 ^ l in
    let v : n ≡ m * 2 ^ (k + l) = mul_assoc m (2 ^ k) (2 ^ l) ∙ ap (λ (x : ℕ). m * x) (sym (pow-add 2 k l)) in
    record {
      count = n;
      same = sym (mul-one n);
      rep = record {
        unit = k + l;
        whole = subst (λ (x : ℕ). 2 ^ (k + l) ∣ x) (sym v) (dvd-mul_left (2 ^ (k + l)) m);
        small = subst (λ (x : ℕ). x < 2 ^ (prec f + (k + l))) (sym v) (shl_lt (prec f) (k + l) a);
      };
      under = lt_of_lt_of_le (mul-lt-mul_of_pos_right (lt_of_lt_of_le c (le_of_eq (mul-one (2 ^ suc (emax f))))) (pow_pos l)) (le_of_eq (mul_comm (2 ^ suc (emax f)) (2 ^ l)
          ∙ sym (pow-add 2 l (suc (emax f)))));
    }
units_of f m (negsuc k) a b c =
    let l = low f in
    let i = l - suc k in
    let w : 2 ^ i * 2 ^ suc k ≡ 2 ^ l = sym (pow-add 2 i (suc k)) ∙ ap (λ (x : ℕ). 2 ^ x) (sub-add_cancel (exponent_le (suc k) l b)) in
    record {
      count = m * 2 ^ i;
      same = ap (λ (x : ℕ). x * 2 ^ l) (mul-one m) ∙ ap (λ (x : ℕ). m * x) (sym w) ∙ sym (mul_assoc m (2 ^ i) (2 ^ suc k));
      rep = record { unit = i; whole = dvd-mul_left (2 ^ i) m; small = shl_lt (prec f) i a };
      under = lt_of_lt_of_le (mul-lt-mul_of_pos_right (lt_of_le_of_lt (le_of_eq (sym (mul-one m))) c) (pow_pos i))
          (le_of_eq (mul_assoc (2 ^ suc (emax f)) (2 ^ suc k) (2 ^ i) ∙ ap (λ (x : ℕ). 2 ^ suc (emax f) * x) (mul_comm (2 ^ suc k) (2 ^ i) ∙ w) ∙ mul_comm (2 ^ suc (emax f)) (2 ^ l)
          ∙ sym (pow-add 2 l (suc (emax f)))));
    }

-- a value's whole number is found by the fact that it is one
pub magnitude_is : (f : Format) (x : Float) (s : Bool) (n : ℕ) → HasValue x s n (2 ^ low f) → magnitude f x ≡ n
magnitude_is f nan s n v = elim v [ ]
magnitude_is f (inf _) s n v = elim v [ ]
magnitude_is f (fin t m e) s n v = div-eq_of_eq-mul_left (down_pos e) v.1

from_units : (f : Format) (s : Bool) (m : ℕ) (e : ℤ) → Units f m e → InUnits f (fin s m e)
from_units f s m e u =
    let k : magnitude f (fin s m e) ≡ u.count = magnitude_is f (fin s m e) s u.count (refl, u.same) in
    record {
      val = (refl, u.same ∙ ap (λ (x : ℕ). x * down e) (sym k));
      rep = subst (λ (x : ℕ). Representable (prec f) x) (sym k) u.rep;
      under = subst (λ (x : ℕ). x < overflow f) (sym k) u.under;
    }

pub in_units_lem : (f : Format) (x : Float) → T (fits f x) → T (finite x) → InUnits f x
unfolding fits
in_units_lem f nan t r = absurd r
in_units_lem f (inf s) t r = absurd r
in_units_lem f (fin s zero e) t r =
    from_units f s zero e (record {
      count = 0;
      same = ap (λ (x : ℕ). x * 2 ^ low f) (zero-mul (up e)) ∙ zero-mul (2 ^ low f)
          ∙ sym (zero-mul (down e));
      rep = rep_zero (prec f);
      under = pow_pos (low f + suc (emax f));
    })
in_units_lem f (fin s (suc m) e) t r =
    let a : Bool = eqb (suc m % 2) 1 in
    let b : Bool = ltb (suc m) (2 ^ prec f) in
    let c : Bool = leb (down e) (2 ^ low f) in
    let d : Bool = ltb (suc m * up e) (2 ^ suc (emax f) * down e) in
    from_units f s (suc m) e
    (units_of f (suc m) e (ltb→lt (suc m) (2 ^ prec f) (and_r a b (and_l (a && b) c (and_l (a && b && c) d t)))) (leb→le (down e) (2 ^ low f) (and_r (a && b) c (and_l (a && b && c) d t)))
    (ltb→lt (suc m * up e) (2 ^ suc (emax f) * down e) (and_r (a && b && c) d t)))

pub value_is : (f : Format) (x : Float) (s : Bool) (n : ℕ) → HasValue x s n (2 ^ low f) → value f x ≡ signed s n
value_is f nan s n v = elim v [ ]
value_is f (inf _) s n v = elim v [ ]
value_is f (fin t m e) s n v = ap (λ (z : Bool). signed z (magnitude f (fin t m e))) v.0 ∙ ap (λ (z : ℕ). signed s z) (magnitude_is f (fin t m e) s n v)

pub has_finite : (x : Float) (s : Bool) (n c : ℕ) → HasValue x s n c → T (finite x)
has_finite nan s n c v = elim v [ ]
has_finite (inf _) s n c v = elim v [ ]
has_finite (fin t m e) s n c v = tt

pub values_sum : (f : Format) (x y : Float) (s : Bool) (a : ℕ) (t : Bool) (b : ℕ) → HasValue x s a (2 ^ low f) → HasValue y t b (2 ^ low f) → value f x +ℤ value f y ≡ signed s a +ℤ signed t b
values_sum f x y s a t b v w = ap (λ (z : ℤ). z +ℤ value f y) (value_is f x s a v) ∙ ap (λ (z : ℤ). signed s a +ℤ z) (value_is f y t b w)

-- ---- a difference that the format holds is exact
pub record Exactly (f : Format) (z : Float) (P N : ℕ) : Type 0 where
  pub side : Bool
  pub size : ℕ
  pub val : HasValue z side size (2 ^ low f)
  pub is : IsDifference side size P N

pub sub_exact : (f : Format) (x y : Float) (s : Bool) (a : ℕ) (t : Bool) (b : ℕ) → HasValue x s a (2 ^ low f) → HasValue y t b (2 ^ low f)
    → Representable (prec f) (distance (pos_part s a + neg_part t b) (neg_part s a + pos_part t b)) → distance (pos_part s a + neg_part t b) (neg_part s a + pos_part t b) < overflow f
    → Exactly f (sub f x y) (pos_part s a + neg_part t b) (neg_part s a + pos_part t b)
unfolding sub
sub_exact f x y s a t b v w r u =
    let L = 2 ^ low f in
    let R = sum_round f s a (not t) b L in
    let q = R.side in
    let n = R.size in
    let i : pos_part q n + (neg_part s a + pos_part t b) ≡ pos_part s a + neg_part t b + neg_part q n =
    ap (λ (z : ℕ). pos_part q n + (neg_part s a + z)) (sym (neg_part-not t b)) ∙ R.is ∙ ap (λ (z : ℕ). pos_part s a + z + neg_part q n) (pos_part-not t b) in
    let g = size_is q n (pos_part s a + neg_part t b) (neg_part s a + pos_part t b) i in
    record {
      side = q;
      size = n;
      val = subst (λ (z : Float). HasValue z q n L) (sym (add_is f x (neg y) s a (not t) b v (neg_is y t b L w) ∙ R.same))
          (round_keeps f q n (rep_as (prec f) n (distance (pos_part s a + neg_part t b) (neg_part s a + pos_part t b)) g r) (lt_of_le_of_lt (le_of_eq g) u));
      is = i;
    }
