-- What rounding loses of a sum, a difference or a product of whole numbers that p digits write is again written by p digits: Dekker's fast sum and the
-- product with a fused remainder, over whole numbers without sign. The error is a multiple of the finer unit and no more than the smaller operand. Assumes nothing.
use mathlib.Core.Path.{◌≡◌, refl, sym, ap, ◌∙◌, subst}
use mathlib.Core.Logic.{inl, inr}
use Prim.Native.Nat.{ℕ, zero, suc, ◌+◌, ◌-◌, ◌*◌, ◌/◌, ◌^◌, ◌≤◌, ◌<◌, ◌∣◌, min}
use native.Mathlib.Nat.{le_refl, le_trans, le_of_eq, lt_of_lt_of_le, lt_of_le_of_lt, dvd-sub, dvd-add, dvd-zero, dvd-mul_left, div-mul_cancel, two-pow-succ, eq-zero-or-pos, min-le_left, min-le_right}
use native.Mathlib.Omega.{arith}
use lib.Pow.{pow_pos, pow_mono}
use Rattle.wide.proofs.Nat.{le_or_gt}
use Rattle.exactness.proofs.Multiples.{apart, coarser, distance, distance_dvd}
use Rattle.exactness.proofs.Precision.{dropped, to_digits, Representable, to_digits-near, dropped_lt, dropped_le, dropped_mono, dropped_full, dropped_ge, to_digits-keeps, rep_whole, to_digits-whole, to_digits-below, to_digits-above, rep_few, rep_twice}

-- ---- the sum of two numbers that p digits write, a the larger, and the rounded sum: the error is no more than b, and p digits write it
module _ (p a b : ℕ) (P : 0 < p) (A : Representable p a) (B : Representable p b) (O : b ≤ a) where
  fine_a : 2 ^ min A.unit B.unit ∣ a
  fine_a = coarser (min A.unit B.unit) A.unit a (min-le_left A.unit B.unit) A.whole

  fine_b : 2 ^ min A.unit B.unit ∣ b
  fine_b = coarser (min A.unit B.unit) B.unit b (min-le_right A.unit B.unit) B.whole

  -- a multiple of both units that is no more than b
  pub rep_fine : (n : ℕ) → 2 ^ min A.unit B.unit ∣ n → n ≤ b → Representable p n
  rep_fine n d l =
      elim (le_or_gt A.unit B.unit) [
        | inl h ↦ record { unit = min A.unit B.unit; whole = d; small = lt_of_le_of_lt (le_trans l O) (lt_of_lt_of_le A.small (pow_mono (omega arith))) }
        | inr h ↦ record { unit = min A.unit B.unit; whole = d; small = lt_of_le_of_lt l (lt_of_lt_of_le B.small (pow_mono (omega arith))) }
      ]

  pub like_ge : a ≤ to_digits p (a + b)
  like_ge = (to_digits-below p (a + b) a P A (omega arith)).0

  pub like_error : distance (a + b) (to_digits p (a + b)) ≤ b
  like_error = let k : to_digits p (a + b) + a ≤ 2 * (a + b) = (to_digits-below p (a + b) a P A (omega arith)).1 in let l = like_ge in omega arith

  pub like_rest : Representable p (distance (a + b) (to_digits p (a + b)))
  like_rest = let d = dvd-add (2 ^ min A.unit B.unit) fine_a fine_b in
      rep_fine (distance (a + b) (to_digits p (a + b))) (distance_dvd (2 ^ min A.unit B.unit) (a + b) (to_digits p (a + b)) d (to_digits-whole p (a + b) (min A.unit B.unit) d)) like_error

  pub like_part : Representable p (to_digits p (a + b) - a)
  like_part =
      let t : to_digits p (a + b) ≤ 2 * a = (to_digits-above p (a + b) (2 * a) P (rep_twice p a A) (omega arith)).0 in
      record {
        unit = dropped p a;
        whole = dvd-sub (2 ^ dropped p a) (coarser (dropped p a) (dropped p (a + b)) (to_digits p (a + b)) (dropped_mono p a (a + b) (omega arith)) (to_digits-near p (a + b)).whole) (rep_whole p a A);
        small = lt_of_le_of_lt (omega arith) (dropped_lt p a);
      }

  -- ---- and their difference
  pub unlike_le : to_digits p (a - b) ≤ a
  unlike_le = (to_digits-above p (a - b) a P A (omega arith)).0

  pub unlike_error : distance (a - b) (to_digits p (a - b)) ≤ b
  unlike_error = let k : 2 * (a - b) ≤ to_digits p (a - b) + a = (to_digits-above p (a - b) a P A (omega arith)).1 in let l = unlike_le in omega arith

  pub fine_sub : 2 ^ min A.unit B.unit ∣ a - b
  fine_sub = dvd-sub (2 ^ min A.unit B.unit) fine_a fine_b

  pub unlike_rest : Representable p (distance (a - b) (to_digits p (a - b)))
  unlike_rest = rep_fine (distance (a - b) (to_digits p (a - b))) (distance_dvd (2 ^ min A.unit B.unit) (a - b) (to_digits p (a - b)) fine_sub (to_digits-whole p (a - b) (min A.unit B.unit) fine_sub)) unlike_error

  -- where the difference itself is written by p digits, nothing is lost, and the part is b
  kept_part : Representable p (a - b) → Representable p (a - to_digits p (a - b))
  kept_part r = subst (λ (x : ℕ). Representable p x) (sym (back (to_digits p (a - b)) (to_digits-keeps p (a - b) r))) B
    where
      back : (h : ℕ) → h ≡ a - b → a - h ≡ b
      back h e = omega arith

  -- b is neg_part than half of a, and the last place of a is no unit: so half of a is a number that p digits write
  half_part : (i : ℕ) → dropped p a ≡ suc i → b + b < a → Representable p (a - to_digits p (a - b))
  half_part i e l =
      let D : 2 ^ suc i ∣ a = subst (λ (x : ℕ). 2 ^ x ∣ a) e (rep_whole p a A) in
      let q = a / 2 ^ suc i in
      let r = q * 2 ^ i in
      let v : r + r ≡ a = twice q i ∙ div-mul_cancel (2 ^ suc i) D in
      let s : r + r < 2 ^ (p + i) + 2 ^ (p + i) = subst (λ (x : ℕ). r + r < x) (ap (λ (x : ℕ). 2 ^ x) (ap (λ (x : ℕ). p + x) e ∙ shift) ∙ two-pow-succ (p + i)) (lt_of_le_of_lt (le_of_eq v) (dropped_lt p a)) in
      let rs : r < 2 ^ (p + i) = omega arith in
      let R : Representable p r = record { unit = i; whole = dvd-mul_left (2 ^ i) q; small = rs } in
      let t : r ≤ to_digits p (a - b) = (to_digits-below p (a - b) r P R (omega arith)).0 in
      let full : 2 ^ (p + i) ≤ a = dropped_full p a i (subst (λ (x : ℕ). i < x) (sym e) (le_refl (suc i))) in
      let halves : 2 ^ (p + i - 1) + 2 ^ (p + i - 1) ≡ 2 ^ (p + i) = sym (two-pow-succ (p + i - 1)) ∙ ap (λ (x : ℕ). 2 ^ x) unshift in
      let k : i ≤ dropped p (a - b) = dropped_ge p (a - b) i P (omega arith) in
      record {
        unit = i;
        whole = dvd-sub (2 ^ i) (coarser i (suc i) a (omega arith) D) (coarser i (dropped p (a - b)) (to_digits p (a - b)) k (to_digits-near p (a - b)).whole);
        small = lt_of_le_of_lt (omega arith) rs;
      }
    where
      twice : (q i : ℕ) → q * 2 ^ i + q * 2 ^ i ≡ q * 2 ^ suc i
      twice q i = let h = two-pow-succ i in ap (λ (x : ℕ). x) (omega (arith, ap (λ (x : ℕ). q * x) h))

      shift : p + suc i ≡ suc (p + i)
      shift = omega arith

      unshift : suc (p + i - 1) ≡ p + i
      unshift = omega arith

  pub unlike_part : Representable p (a - to_digits p (a - b))
  unlike_part =
      elim (le_or_gt a (b + b)) [
        | inl h ↦ kept_part (rep_fine (a - b) fine_sub (omega arith))
        | inr h ↦ go (dropped p a) refl h
      ]
    where
      go : (z : ℕ) → dropped p a ≡ z → b + b < a → Representable p (a - to_digits p (a - b))
      go zero e h = kept_part (rep_few p (a - b) (lt_of_le_of_lt (omega arith) (lt_of_lt_of_le (dropped_lt p a) (pow_mono (omega arith)))))
      go (suc i) e h = half_part i e h

-- ---- a number of at most 2 p digits above its unit, as a product of two has, and the number rounded: p digits write the error
module _ (p n j : ℕ) (P : 0 < p) (D : 2 ^ j ∣ n) (S : n < 2 ^ (p + (p + j))) where
  pub wide_error : 2 * distance n (to_digits p n) ≤ 2 ^ dropped p n
  wide_error = omega (arith, (to_digits-near p n).under, (to_digits-near p n).over)

  pub wide_rest : Representable p (distance n (to_digits p n))
  wide_rest = record {
    unit = j;
    whole = distance_dvd (2 ^ j) n (to_digits p n) D (to_digits-whole p n j D);
    small = let k : 2 ^ dropped p n ≤ 2 ^ (p + j) = pow_mono (dropped_le p n (p + j) S) in let e = wide_error in let z = pow_pos (p + j) in omega arith;
  }

  -- the error is no more than the rounded number
  pub wide_error_le : distance n (to_digits p n) ≤ to_digits p n
  wide_error_le =
      elim (eq-zero-or-pos (to_digits p n)) [
        | inl z ↦ none z (dropped p n) refl
        | inr h ↦ let k : 0 + 2 ^ dropped p n ≤ to_digits p n = apart (2 ^ dropped p n) 0 (to_digits p n) (dvd-zero (2 ^ dropped p n)) (to_digits-near p n).whole h in let e = wide_error in omega arith
      ]
    where
      none : to_digits p n ≡ 0 → (k : ℕ) → dropped p n ≡ k → distance n (to_digits p n) ≤ to_digits p n
      none z zero e = let u : 2 ^ dropped p n ≡ 1 = ap (λ (x : ℕ). 2 ^ x) e in let h = wide_error in omega arith
      none z (suc i) e =
          let f : 2 ^ (p + i) ≤ n = dropped_full p n i (subst (λ (x : ℕ). i < x) (sym e) (le_refl (suc i))) in
          let g : 2 ^ suc i ≤ 2 ^ (p + i) = pow_mono (omega arith) in
          let u : 2 ^ dropped p n ≡ 2 ^ suc i = ap (λ (x : ℕ). 2 ^ x) e in
          let h = wide_error in
          let w = pow_pos (suc i) in
          omega arith
