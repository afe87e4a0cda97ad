-- Dekker's fast sum loses nothing: with hi = x + y and lo = y - (hi - x), hi + lo is exactly x + y where y is not larger in size than x and hi is finite.
-- hi - x and y - (hi - x) are numbers that p digits write (ErrorFree), so neither difference rounds. Assumes nothing.
use mathlib.Core.Path.{◌≡◌, sym, ◌∙◌, subst}
use Prim.Native.Nat.{ℕ, ◌+◌, ◌-◌, ◌*◌, ◌^◌, ◌≤◌, ◌<◌}
use native.Mathlib.Nat.{lt_of_le_of_lt}
use native.Mathlib.Omega.{arith}
use mathlib.Core.Bool.{Bool, true, false}
use lib.IntN.{◌+ℤ◌}
use lib.Dec.{T}
use lib.Ieee.{Float, Format, prec, low, add, sub, round, fits}
use lib.Ieee.Fits.{two, two-le_pos}
use lib.Ieee.Exact.{HasValue}
use lib.Ieee.Scale.{finite, overflow}
use Rattle.exactness.specs.Values.{magnitude, sign, value}
use Rattle.exactness.proofs.Multiples.{distance}
use Rattle.exactness.proofs.Precision.{to_digits, Representable, rep_zero, rep_as, to_digits-below}
use Rattle.exactness.proofs.ErrorFree.{like_ge, like_error, like_rest, like_part, unlike_le, unlike_error, unlike_rest, unlike_part}
use Rattle.exactness.proofs.Signed.{pos_part, neg_part, IsDifference, two_is_two}
use Rattle.exactness.proofs.Units.{sum_round, add_is, round_under, round_to-digits, in_units_lem, values_sum, has_finite, sub_exact}

-- ---- signs written out
-- the part ±h - ±a in size, r the sign of h and s that of a
abbrev part_of : Bool → Bool → ℕ → ℕ → ℕ
part_of r s h a = distance (pos_part r h + neg_part s a) (neg_part r h + pos_part s a)

-- that part is b' - a'
abbrev IsPart : Bool → Bool → ℕ → ℕ → ℕ → ℕ → Type 0
IsPart r s h a b' a' = b' + (neg_part r h + pos_part s a) ≡ pos_part r h + neg_part s a + a'

-- what ±b is more than b' - a', in size
abbrev rest_of : Bool → ℕ → ℕ → ℕ → ℕ
rest_of t b b' a' = distance (pos_part t b + a') (neg_part t b + b')

-- h is the rounded sum of ±a and ±b. p digits write the part ±h - ±a, and what ±b is more than it.
record Parts (p a b h : ℕ) (s t r : Bool) : Type 0 where
  part : Representable p (part_of r s h a)
  part_under : (w : ℕ) → h < w → a < w → part_of r s h a < w
  rest : (b' a' : ℕ) → IsPart r s h a b' a' → Representable p (rest_of t b b' a')
  rest_le : (b' a' : ℕ) → IsPart r s h a b' a' → rest_of t b b' a' ≤ b

module _ (p a b : ℕ) (P : 0 < p) (A : Representable p a) (B : Representable p b) (O : b ≤ a) where
  twice : (n : ℕ) → to_digits p n ≤ 2 * n
  twice n = let k = (to_digits-below p n 0 P (rep_zero p) (omega arith)).1 in omega arith

  -- the sum w, its rounding h and the part d, without signs
  parts_at : (h w d : ℕ) (s t r : Bool) → (distance w h ≤ b) × Representable p (distance w h) × Representable p d → ((v : ℕ) → h < v → a < v → d < v) → part_of r s h a ≡ d
      → ((b' a' : ℕ) → IsPart r s h a b' a' → rest_of t b b' a' ≡ distance w h) → Parts p a b h s t r
  parts_at h w d s t r k u x y = record {
    part = rep_as p (part_of r s h a) d x k.2;
    part_under = λ v e l. subst (λ (z : ℕ). z < v) (sym x) (u v e l);
    rest = λ b' a' g. rep_as p (rest_of t b b' a') (distance w h) (y b' a' g) k.1;
    rest_le = λ b' a' g. subst (λ (z : ℕ). z ≤ b) (sym (y b' a' g)) k.0;
  }

  -- like signs add, and unlike signs subtract
  like_parts : (s t r : Bool) → (a ≤ to_digits p (a + b) → to_digits p (a + b) ≤ 2 * (a + b) → part_of r s (to_digits p (a + b)) a ≡ to_digits p (a + b) - a)
      → (a ≤ to_digits p (a + b) → to_digits p (a + b) ≤ 2 * (a + b) → (b' a' : ℕ) → IsPart r s (to_digits p (a + b)) a b' a' → rest_of t b b' a' ≡ distance (a + b) (to_digits p (a + b)))
      → Parts p a b (to_digits p (a + b)) s t r
  like_parts s t r x y =
      let l = like_ge p a b P A B O in
      let u = twice (a + b) in
      parts_at (to_digits p (a + b)) (a + b) (to_digits p (a + b) - a) s t r (like_error p a b P A B O, like_rest p a b P A B O, like_part p a b P A B O) (λ v e f. omega arith) (x l u) (y l u)

  unlike_parts : (s t r : Bool) → (to_digits p (a - b) ≤ a → to_digits p (a - b) ≤ 2 * (a - b) → part_of r s (to_digits p (a - b)) a ≡ a - to_digits p (a - b))
      → (to_digits p (a - b) ≤ a → to_digits p (a - b) ≤ 2 * (a - b) → (b' a' : ℕ) → IsPart r s (to_digits p (a - b)) a b' a' → rest_of t b b' a' ≡ distance (a - b) (to_digits p (a - b)))
      → Parts p a b (to_digits p (a - b)) s t r
  unlike_parts s t r x y =
      let l = unlike_le p a b P A B O in
      let u = twice (a - b) in
      parts_at (to_digits p (a - b)) (a - b) (a - to_digits p (a - b)) s t r (unlike_error p a b P A B O, unlike_rest p a b P A B O, unlike_part p a b P A B O) (λ v e f. omega arith) (x l u) (y l u)

  as_sum : (n w : ℕ) (s t r : Bool) → n ≡ w → Parts p a b (to_digits p w) s t r → Parts p a b (to_digits p n) s t r
  as_sum n w s t r e q = subst (λ (m : ℕ). Parts p a b (to_digits p m) s t r) (sym e) q

  parts : (s t r : Bool) (n : ℕ) → IsDifference r n (pos_part s a + pos_part t b) (neg_part s a + neg_part t b) → Parts p a b (to_digits p n) s t r
  parts false false false n i = as_sum n (a + b) false false false (omega arith) (like_parts false false false (omega arith) (omega arith))
  parts false false true n i = as_sum n (a + b) false false true (omega arith) (like_parts false false true (omega arith) (omega arith))
  parts true true false n i = as_sum n (a + b) true true false (omega arith) (like_parts true true false (omega arith) (omega arith))
  parts true true true n i = as_sum n (a + b) true true true (omega arith) (like_parts true true true (omega arith) (omega arith))
  parts false true false n i = as_sum n (a - b) false true false (omega arith) (unlike_parts false true false (omega arith) (omega arith))
  parts false true true n i = as_sum n (a - b) false true true (omega arith) (unlike_parts false true true (omega arith) (omega arith))
  parts true false false n i = as_sum n (a - b) true false false (omega arith) (unlike_parts true false false (omega arith) (omega arith))
  parts true false true n i = as_sum n (a - b) true false true (omega arith) (unlike_parts true false true (omega arith) (omega arith))

-- ---- the theorem
pub two_sum_exact : (f : Format) (x y : Float) → T (fits f x) → T (fits f y) → T (finite x) → T (finite y) → magnitude f y ≤ magnitude f x → T (finite (add f x y))
    → T (finite (sub f y (sub f (add f x y) x))) × (value f (add f x y) +ℤ value f (sub f y (sub f (add f x y) x)) ≡ value f x +ℤ value f y)
two_sum_exact f x y fx fy nx ny O t =
    let p = prec f in
    let L = 2 ^ low f in
    let X = in_units_lem f x fx nx in
    let Y = in_units_lem f y fy ny in
    let s = sign x in
    let a = magnitude f x in
    let r = sign y in
    let b = magnitude f y in
    -- hi = x + y, rounded
    let hi = add f x y in
    let R = sum_round f s a r b L in
    let q = R.side in
    let n = R.size in
    let e : hi ≡ round f q n L = add_is f x y s a r b X.val Y.val ∙ R.same in
    let h = to_digits p n in
    let under : h < overflow f = round_under f q n (subst (λ (z : Float). T (finite z)) e t) in
    let v : HasValue hi q h L = subst (λ (z : Float). HasValue z q h L) (sym e) (round_to-digits f q n under) in
    -- hi - x and y - (hi - x), exactly
    let D = parts p a b (two-le_pos p (two f)) X.rep Y.rep O s r q n R.is in
    let E = sub_exact f hi x q h s a v X.val D.part (D.part_under (overflow f) under X.under) in
    let b' = pos_part E.side E.size in
    let a' = neg_part E.side E.size in
    let lo = sub f y (sub f hi x) in
    let F = sub_exact f y (sub f hi x) r b E.side E.size Y.val E.val (D.rest b' a' E.is) (lt_of_le_of_lt (D.rest_le b' a' E.is) Y.under) in
    let k = F.side in
    let m = F.size in (
      has_finite lo k m L F.val,
      values_sum f hi lo q h k m v F.val
          ∙ two_is_two q h k m s a r b (close (pos_part q h) (neg_part q h) (pos_part k m) (neg_part k m) (pos_part s a) (neg_part s a) (pos_part r b) (neg_part r b) b' a' E.is F.is),
    )
  where
    close : (ph mh p3 m3 pa ma pb mb p2 m2 : ℕ) → p2 + (mh + pa) ≡ ph + ma + m2 → p3 + (mb + p2) ≡ pb + m2 + m3 → ph + p3 + (ma + mb) ≡ pa + pb + (mh + m3)
    close ph mh p3 m3 pa ma pb mb p2 m2 i j = omega arith
