-- A product that is small beside an addend, in the units of the addend's word, and their sum, over plain numbers. Assumes nothing.
use mathlib.Core.Path.{◌≡◌, refl, sym, ap, ◌∙◌, subst}
use mathlib.Core.Logic.{◌≢◌, ⊎_elim}
use mathlib.Core.Bool.{Bool, true, false, cond, beq}
use Prim.Native.Nat.{min, ℕ, ◌+◌, ◌-◌, ◌*◌, ◌%◌, ◌^◌, ◌≤◌, ◌<◌}
use Rattle.std.proofs.Math.Nat.{min-eq_left, min-eq_right}
use native.Mathlib.Nat.{le_of_lt, le_of_eq, le_trans, lt_of_lt_of_le, zero-add, mul_assoc}
use native.Mathlib.Omega.{arith}
use lib.Arith.{digits_lt}
use lib.Dec.{lit≤}
use lib.Pow.{pow-add, pow_pos, pow_mono}
use lib.Ieee.{binary64, to_bits}
use Rattle.wide.specs.Words.{sticky, jammed}
use Rattle.wide.proofs.Nat.{le_or_gt}
use Rattle.wide.proofs.Sticky.{Jam, jam_of, jam_is, jam_scale, jam_below}
use Rattle.wide.proofs.Shifts.{word_jammed, two_steps, far}
use Rattle.rounding.specs.declared.Direction.{Direction}
use Rattle.rounding.specs.Machine.{Stands, RoundsWord}
use Rattle.operands.specs.declared.parts.Parts.{Parts}
use Rattle.ieee754.specs.Operations.{sum_to}
use Rattle.operands.specs.Machine.{Summands, product_size, addend_size}
use Rattle.operands.proofs.Signs.{beq_true, beq_false}
use Rattle.multiply_add.proofs.Sums.{sum_like, sum_more, sum_comm, add_stands, sub_stands, sub_order}
use Rattle.multiply_add.proofs.Products.{product_ready}

-- ---- the high word, shifted down by k more; from 63 on all that is left is the sticky bit

pub down : (h l top n k r : ℕ) → h < 2 ^ 64 → l < 2 ^ 64 → top ≡ sticky h l → n ≡ min k 63 → r ≡ jammed top (2 ^ n) → r ≡ jammed (h * 2 ^ 64 + l) (2 ^ (64 + k))
down h l top n k r H L et en er = ⊎_elim
    (λ (g : 63 ≤ k). far (h * 2 ^ 64 + l) (64 + k) r (digits_lt H L) (more k g) (at 63 (en ∙ min-eq_right g)))
    (λ (g : k < 63). at k (en ∙ min-eq_left (le_of_lt g)))
    (le_or_gt 63 k)
  where
    more : (k : ℕ) → 63 ≤ k → 127 ≤ 64 + k
    more k g = omega arith

    back : (m : ℕ) → m ≡ 64 + m - 64
    back m = omega arith

    first : (m : ℕ) → 64 ≤ 64 + m
    first m = omega arith

    at : (m : ℕ) → n ≡ m → r ≡ jammed (h * 2 ^ 64 + l) (2 ^ (64 + m))
    at m e = two_steps (h * 2 ^ 64 + l) top r (64 + m) (first m) (sym (zero-add top) ∙ word_jammed h l top L et) (er ∙ ap (λ (x : ℕ). jammed top (2 ^ x)) (e ∙ back m))

-- ---- the sum

module _ (d : Direction) (s t : Bool) {A B c x y e : ℕ} (h : Summands B A c x y e) (lo : 2 ^ 62 ≤ x) (u : y < 2 ^ 61) (w r : ℕ) (f : RoundsWord d t w e r) where
  add_answer : s ≡ t → w ≡ x + y → r ≡ to_bits binary64 (sum_to d s A t B c)
  add_answer l q =
      f (B + A) c (subst (λ (n : ℕ). Stands 2273 (B + A) c n e) (sym q) (add_stands h)) (λ g. absurd (long x y w lo q g))
      ∙ ap (to_bits binary64) (sym (sum_like d t B A c) ∙ ap (λ (b : Bool). sum_to d t B b A c) (sym l) ∙ sym (sum_comm d s t A B c))
    where
      long : (x y w : ℕ) → 2 ^ 62 ≤ x → w ≡ x + y → w < 2 ^ 61 → ⊥
      long x y w a b c = omega arith

  sub_answer : s ≢ t → w ≡ x - y → r ≡ to_bits binary64 (sum_to d s A t B c)
  sub_answer n q =
      f (B - A) c (subst (λ (m : ℕ). Stands 2273 (B - A) c m e) (sym q) (sub_stands h less)) (λ g. absurd (long x y w lo u q g))
      ∙ ap (to_bits binary64) (sym (sum_more d t s B A c (λ g. n (sym g)) (sub_order h less)) ∙ sym (sum_comm d s t A B c))
    where
      less : y < x
      less = lt_of_lt_of_le u (le_trans (lit≤ tt) lo)

      long : (x y w : ℕ) → 2 ^ 62 ≤ x → y < 2 ^ 61 → w ≡ x - y → w < 2 ^ 61 → ⊥
      long x y w a b c d = omega arith

  pub small_answer : (same : Bool) → same ≡ beq s t → w ≡ cond same (x + y) (x - y) → r ≡ to_bits binary64 (sum_to d s A t B c)
  small_answer true e q = add_answer (beq_true s t (sym e)) q
  small_answer false e q = sub_answer (beq_false s t (sym e)) q

-- ---- the product and the addend in the units of the addend's word

module _ (x y z : Parts) (v k A B c : ℕ) (K : 64 + k + (x.e + y.e) ≡ z.e + 1137) (hv : v ≡ jammed (x.m * 1024 * (y.m * 2048)) (2 ^ (64 + k))) where
  pub small_lt : 2 ≤ k → v < 2 ^ 61
  small_lt l =
      jam_below (2 ^ 61) refl (lt_of_lt_of_le (product_ready x y (x.m * 1024 * (y.m * 2048)) refl).high (le_trans (pow_mono {i = 127} {j = 61 + (64 + k)} (more k l)) (le_of_eq (pow-add 2 61 (64 + k))))) (jam_of (pow_pos (64 + k)) hv)
    where
      more : (k : ℕ) → 2 ≤ k → 127 ≤ 61 + (64 + k)
      more k l = omega arith

  pub summands : 0 < c → A * 2 ^ 2273 ≡ product_size x y * c → B * 2 ^ 2273 ≡ addend_size z * c → Summands B A c (z.m * 1024) v (z.e + 1137)
  summands C p q =
      record {
        first = q ∙ ap (λ (n : ℕ). n * c) (mul_assoc (z.m * 1024) (2 ^ 64) (2 ^ (z.e + 1073)) ∙ ap (λ (n : ℕ). z.m * 1024 * n) (sym (pow-add 2 64 (z.e + 1073)) ∙ ap (λ (n : ℕ). 2 ^ n) (sum z.e)));
        second =
            record {
              size = product_size x y;
              den_pos = C;
              same = p;
              cut = jam_is (pow_pos (z.e + 1137)) (subst (λ (n : ℕ). Jam (product_size x y) n v) (sym (pow-add 2 (64 + k) (x.e + y.e)) ∙ ap (λ (n : ℕ). 2 ^ n) K) (jam_scale (2 ^ (x.e + y.e)) (pow_pos (x.e + y.e)) (jam_of (pow_pos (64 + k)) hv)));
            };
        even = even z.m;
      }
    where
      sum : (n : ℕ) → 64 + (n + 1073) ≡ n + 1137
      sum n = omega arith

      even : (n : ℕ) → n * 1024 % 2 ≡ 0
      even n = omega arith
