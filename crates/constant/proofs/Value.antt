-- The reply to what is kept of a number: zero, more digits than a float has, an exponent far from the digits' places, or a number by its places.
-- Assumes nothing.
use mathlib.Core.Path.{◌≡◌, refl, sym, ap, ap₂, ◌∙◌}
use mathlib.Core.Logic.{inl, ⊎_elim}
use mathlib.Core.Bool.{Bool, true, false, cond}
use Prim.Native.Nat.{ℕ, ◌+◌, ◌-◌, ◌*◌, ◌/◌, ◌%◌, ◌^◌, ◌≤◌, ◌<◌}
use native.Mathlib.Nat.{le_trans, le_of_eq, lt_of_lt_of_le, not-le_of_lt, mul_assoc, mul_comm, mul_left_comm, mul_right_comm, mul-pos, mul-one, one-le-mul, one-mul, zero-mul, add-zero, add_assoc, mul-le-mul_left, mul-le-mul_right, le_of_mul-le-mul_right, eq_of_mul-eq-mul_right, mul-mod_left, mul-add-mod_self_right, mod-eq_of_lt, le-mul_of_pos_right, le-add_right}
use native.Mathlib.Omega.{arith}
use lib.Dec.{ltb, lit≤, lit<}
use lib.Pow.{pow-add, pow_pos, pow_mono, shl_lt}
use borrow.Author.Tests.{eqb-true, eqb-false, eq-eqb, ne_eqb, ltb-false}
use Rattle.std.specs.Prelude.{Result, Ok, Err}
use Rattle.wide.proofs.Nat.{le_or_gt}
use Rattle.rounding.specs.Machine.{sign_bit}
use Rattle.constant.specs.declared.Significand.{Significand}
use Rattle.constant.specs.declared.Power.{Power}
use Rattle.constant.specs.Constant.{exactly}
use Rattle.constant.specs.Machine.{most, most_places, Kept, Holds, RepliesPlaced}
use Rattle.constant.proofs.Exactly.{Finite, exactly_bits, exactly_none}
use Rattle.constant.proofs.Places.{sixteen, pow16_pos, small_none, large_none, positive, line_pos}

-- ---- digits beyond 53

-- n has digits in the place 2 ^ (t + 53) and higher, and a digit below 2 ^ t
lost_none : (n q a b t v rest : ℕ) → n ≡ v * 2 ^ t + rest → rest < 2 ^ t → (rest ≡ 0 → ⊥) → 2 ^ 53 ≤ v → q < 2 ^ 53 → n * 2 ^ a ≡ q * 2 ^ b → ⊥
lost_none n q a b t v rest is less some wide Q h = ⊎_elim low high (le_or_gt (a + t) b)
  where
    join : (a t b : ℕ) → a + t ≤ b → b ≡ b - (a + t) + (t + a)
    join a t b l = omega arith

    -- then n is a multiple of 2 ^ t
    low : a + t ≤ b → ⊥
    low l =
        some (sym (mul-add-mod_self_right v (2 ^ t) rest ∙ mod-eq_of_lt less)
        ∙ ap (λ (x : ℕ). x % 2 ^ t) (sym is ∙ eq_of_mul-eq-mul_right (2 ^ a) (pow_pos a) n (q * 2 ^ (b - (a + t)) * 2 ^ t) (h ∙ ap (λ (x : ℕ). q * 2 ^ x) (join a t b l) ∙ ap (λ (x : ℕ). q * x) (pow-add 2 (b - (a + t)) (t + a) ∙ ap (λ (x : ℕ). 2 ^ (b - (a + t)) * x) (pow-add 2 t a)) ∙ simp mul_assoc))
        ∙ mul-mod_left (q * 2 ^ (b - (a + t))) (2 ^ t))

    more : (a t b : ℕ) → b < a + t → 53 + b ≤ 53 + (t + a)
    more a t b l = omega arith

    high : b < a + t → ⊥
    high l =
        not-le_of_lt (lt_of_lt_of_le (shl_lt 53 b Q) (le_trans (pow_mono {i = 53 + b} {j = 53 + (t + a)} (more a t b l)) (le_trans (le_of_eq (pow-add 2 53 (t + a) ∙ ap (λ (x : ℕ). 2 ^ 53 * x) (pow-add 2 t a) ∙ sym (mul_assoc (2 ^ 53) (2 ^ t) (2 ^ a)))) (mul-le-mul_right (2 ^ a) (le_trans (mul-le-mul_right (2 ^ t) wide) (le_trans (le-add_right (v * 2 ^ t) rest) (le_of_eq (sym is)))))))) (le_of_eq h)

-- ---- what is kept

-- where no digit is dropped, nothing is left over
nothing : (d r : ℕ) → d ≡ 0 → r < 16 ^ d → r ≡ 0
nothing d r g l = let m : 16 ^ d ≡ 1 = ap (λ (x : ℕ). 16 ^ x) g in omega arith

kept_number : (s : Significand) (n places : ℕ) → Kept s n places → s.lost ≡ 0 → n * 16 ^ s.lowered ≡ s.value * (16 ^ s.raised * 16 ^ places)
kept_number s n places k l =
    ap (λ (x : ℕ). x * 16 ^ s.lowered) (k.is ∙ ap (λ (x : ℕ). s.value * 16 ^ k.dropped + x) (eqb-true k.rest 0 (sym k.lost ∙ eq-eqb s.lost 0 l)) ∙ add-zero (s.value * 16 ^ k.dropped))
    ∙ mul_assoc s.value (16 ^ k.dropped) (16 ^ s.lowered)
    ∙ ap (λ (x : ℕ). s.value * x) (sym (pow-add 16 k.dropped s.lowered) ∙ ap (λ (x : ℕ). 16 ^ x) k.counted ∙ pow-add 16 s.raised places)

-- a quotient that is counted to the end, or not
counted_le : (q n : ℕ) → q ≡ cond (ltb n most) n most → q ≤ n
counted_le q n e = go (ltb n most) refl e
  where
    go : (b : Bool) → ltb n most ≡ b → q ≡ cond b n most → q ≤ n
    go true l e = le_of_eq e
    go false l e = le_trans (le_of_eq e) (ltb-false n most l)

counted : (q n : ℕ) → q ≡ cond (ltb n most) n most → q < most → q ≡ n
counted q n e h = go (ltb n most) e
  where
    go : (b : Bool) → q ≡ cond b n most → q ≡ n
    go true e = e
    go false e = absurd (not-le_of_lt h (le_of_eq (sym e)))

quarters : (n q r : ℕ) → q ≡ n / 4 → r ≡ n % 4 → n ≡ 4 * q + r
quarters n q r a b = omega arith

beyond : (n q p : ℕ) → q ≤ n / 4 → p < q → 4 * (p + 1) ≤ n
beyond n q p a b = omega arith

-- ---- the cases

den_pos : (b : Bool) (places power : ℕ) {den : ℕ} → den ≡ 16 ^ places * cond b (2 ^ power) 1 → 0 < den
den_pos b places power h = lt_of_lt_of_le (line_pos b places power) (le_of_eq (sym h))

module _ (s : Significand) (e : Power) (inverse neg : Bool) where
  pub zero_value : (sign : ℕ) → s.value ≡ 0 → sign ≡ sign_bit neg → (num den : ℕ) → Holds s e inverse num den → Ok sign ≡ exactly neg num den
  zero_value sign v b num den h = ap Ok (b ∙ sym (add-zero (sign_bit neg))) ∙ sym (exactly_bits neg num den 0 0 (den_pos inverse h.places h.power h.den_is) (record { small = lit< tt; kept = inl refl; most = lit≤ tt; is = ap (λ (x : ℕ). x * 2 ^ 1074) none ∙ zero-mul (2 ^ 1074) ∙ sym (zero-mul den) }))
    where
      number_zero : (k : Kept s h.number h.places) → h.number ≡ 0
      number_zero k = ⊎_elim (λ g. k.is ∙ ap₂ (λ (x y : ℕ). x * 16 ^ k.dropped + y) v (nothing k.dropped k.rest g k.less) ∙ add-zero (0 * 16 ^ k.dropped) ∙ zero-mul (16 ^ k.dropped)) (λ g. absurd (full s.value v g)) k.full
        where
          full : (x : ℕ) → x ≡ 0 → 0x100000000000000 ≤ x → ⊥
          full x a b = omega arith

      none : num ≡ 0
      none = h.num_is ∙ ap (λ (x : ℕ). x * cond inverse 1 (2 ^ h.power)) (number_zero h.kept) ∙ zero-mul (cond inverse 1 (2 ^ h.power))

  pub lost_value : (s.lost ≡ 0 → ⊥) → (num den : ℕ) → Holds s e inverse num den → Err 10 ≡ exactly neg num den
  lost_value l num den h = sym (exactly_none neg num den (den_pos inverse h.places h.power h.den_is) none)
    where
      k : Kept s h.number h.places
      k = h.kept

      some : k.rest ≡ 0 → ⊥
      some = eqb-false k.rest 0 (sym k.lost ∙ ne_eqb s.lost 0 l)

      digits : 2 ^ 53 ≤ s.value
      digits = ⊎_elim (λ g. absurd (some (nothing k.dropped k.rest g k.less))) (λ g. le_trans (lit≤ tt) g) k.full

      number_is : h.number ≡ s.value * 2 ^ (4 * k.dropped) + k.rest
      number_is = k.is ∙ ap (λ (x : ℕ). s.value * x + k.rest) (sixteen k.dropped)

      less : k.rest < 2 ^ (4 * k.dropped)
      less = lt_of_lt_of_le k.less (le_of_eq (sixteen k.dropped))

      -- the power of two stands above the line or below it
      sides : (b : Bool) (q j : ℕ) → h.number * cond b 1 (2 ^ h.power) * 2 ^ 1074 ≡ q * 2 ^ j * (16 ^ h.places * cond b (2 ^ h.power) 1) → q < 2 ^ 53 → ⊥
      sides true q j f Q = lost_none h.number q 1074 (j + (4 * h.places + h.power)) (4 * k.dropped) s.value k.rest number_is less some digits Q (ap (λ (x : ℕ). x * 2 ^ 1074) (sym (mul-one h.number)) ∙ f ∙ below)
        where
          below : q * 2 ^ j * (16 ^ h.places * 2 ^ h.power) ≡ q * 2 ^ (j + (4 * h.places + h.power))
          below = ap (λ (x : ℕ). q * 2 ^ j * (x * 2 ^ h.power)) (sixteen h.places) ∙ ap (λ (x : ℕ). q * 2 ^ j * x) (sym (pow-add 2 (4 * h.places) h.power)) ∙ mul_assoc q (2 ^ j) (2 ^ (4 * h.places + h.power)) ∙ ap (λ (x : ℕ). q * x) (sym (pow-add 2 j (4 * h.places + h.power)))
      sides false q j f Q = lost_none h.number q (h.power + 1074) (j + 4 * h.places) (4 * k.dropped) s.value k.rest number_is less some digits Q (above ∙ f ∙ below)
        where
          above : h.number * 2 ^ (h.power + 1074) ≡ h.number * 2 ^ h.power * 2 ^ 1074
          above = ap (λ (x : ℕ). h.number * x) (pow-add 2 h.power 1074) ∙ sym (mul_assoc h.number (2 ^ h.power) (2 ^ 1074))

          below : q * 2 ^ j * (16 ^ h.places * 1) ≡ q * 2 ^ (j + 4 * h.places)
          below = ap (λ (x : ℕ). q * 2 ^ j * x) (mul-one (16 ^ h.places) ∙ sixteen h.places) ∙ mul_assoc q (2 ^ j) (2 ^ (4 * h.places)) ∙ ap (λ (x : ℕ). q * x) (sym (pow-add 2 j (4 * h.places)))

      none : (q j : ℕ) → Finite num den q j → ⊥
      none q j f = sides inverse q j (ap (λ (x : ℕ). x * 2 ^ 1074) (sym h.num_is) ∙ f.is ∙ ap (λ (x : ℕ). q * 2 ^ j * x) h.den_is) f.small

  module _ (l : s.lost ≡ 0) (num den : ℕ) (h : Holds s e inverse num den) where
    number_is : h.number * 16 ^ s.lowered ≡ s.value * (16 ^ s.raised * 16 ^ h.places)
    number_is = kept_number s h.number h.places h.kept l

    positive_den : 0 < den
    positive_den = den_pos inverse h.places h.power h.den_is

    module _ (n : inverse ≡ false) where
      num_above : num ≡ h.number * 2 ^ h.power
      num_above = h.num_is ∙ ap (λ (b : Bool). h.number * cond b 1 (2 ^ h.power)) n

      den_above : den ≡ 16 ^ h.places
      den_above = h.den_is ∙ ap (λ (b : Bool). 16 ^ h.places * cond b (2 ^ h.power) 1) n ∙ mul-one (16 ^ h.places)

      size_above : num * 16 ^ s.lowered ≡ s.value * (16 ^ s.raised * 16 ^ h.places) * 2 ^ h.power
      size_above = ap (λ (x : ℕ). x * 16 ^ s.lowered) num_above ∙ mul_right_comm h.number (2 ^ h.power) (16 ^ s.lowered) ∙ ap (λ (x : ℕ). x * 2 ^ h.power) number_is

      pub large_value : 0 < s.value → s.lowered + 256 < e.quotient → Err 10 ≡ exactly neg num den
      large_value v g = sym (exactly_none neg num den positive_den (large_none num den positive_den much))
        where
          far : (p n : ℕ) → 4 * (p + 256 + 1) ≤ n → 4 * (257 + p) ≤ n
          far p n h = omega arith

          around : (a b c : ℕ) → a * b * c ≡ b * (a * c)
          around a b c = simp (mul_assoc, mul_left_comm)

          inside : (a b c d : ℕ) → a * b * (c * d) ≡ a * (b * c) * d
          inside a b c d = simp mul_assoc

          much : 16 ^ 257 * den ≤ num
          much =
              le_of_mul-le-mul_right
              (le_trans (le_of_eq (around (16 ^ 257) den (16 ^ s.lowered) ∙ ap (λ (x : ℕ). den * x) (sym (pow-add 16 257 s.lowered) ∙ sixteen (257 + s.lowered))))
              (le_trans (mul-le-mul_left den (pow_mono {i = 4 * (257 + s.lowered)} {j = h.power} (far s.lowered h.power (beyond h.power e.quotient (s.lowered + 256) (counted_le e.quotient (h.power / 4) h.counts.quotient) g))))
              (le_trans (le_of_eq (ap (λ (x : ℕ). x * 2 ^ h.power) den_above ∙ sym (one-mul (16 ^ h.places * 2 ^ h.power))))
              (le_trans (mul-le-mul_right (16 ^ h.places * 2 ^ h.power) (one-le-mul v (pow16_pos s.raised)))
              (le_of_eq (inside s.value (16 ^ s.raised) (16 ^ h.places) (2 ^ h.power) ∙ sym size_above))))))
              (pow16_pos s.lowered)

      pub above_value : s.raised + s.lowered ≤ most_places → e.quotient ≤ s.lowered + 256 → (r : Result ℕ ℕ) → RepliesPlaced neg s.value e.remainder (s.raised + e.quotient) s.lowered r → r ≡ exactly neg num den
      above_value p g r f =
          f num den positive_den
          (size_above
          ∙ ap (λ (x : ℕ). s.value * (16 ^ s.raised * 16 ^ h.places) * x) (ap (λ (x : ℕ). 2 ^ x) power_is ∙ pow-add 2 (4 * e.quotient) e.remainder ∙ ap (λ (x : ℕ). x * 2 ^ e.remainder) (sym (sixteen e.quotient)))
          ∙ turned s.value (16 ^ s.raised) (16 ^ h.places) (16 ^ e.quotient) (2 ^ e.remainder)
          ∙ ap₂ (λ (x y : ℕ). s.value * 2 ^ e.remainder * x * y) (sym (pow-add 16 s.raised e.quotient)) (sym den_above))
        where
          below : (a b q : ℕ) → a + b ≤ most_places → q ≤ b + 256 → q < most
          below a b q h g = omega arith

          power_is : h.power ≡ 4 * e.quotient + e.remainder
          power_is = quarters h.power e.quotient e.remainder (counted e.quotient (h.power / 4) h.counts.quotient (below s.raised s.lowered e.quotient p g)) h.counts.remainder

          turned : (a b c d f : ℕ) → a * (b * c) * (d * f) ≡ a * f * (b * d) * c
          turned a b c d f = simp (mul_assoc, mul_comm, mul_left_comm)

    module _ (n : inverse ≡ true) where
      num_below : num ≡ h.number
      num_below = h.num_is ∙ ap (λ (b : Bool). h.number * cond b 1 (2 ^ h.power)) n ∙ mul-one h.number

      den_below : den ≡ 16 ^ h.places * 2 ^ h.power
      den_below = h.den_is ∙ ap (λ (b : Bool). 16 ^ h.places * cond b (2 ^ h.power) 1) n

      size_below : num * 16 ^ s.lowered ≡ s.value * (16 ^ s.raised * 16 ^ h.places)
      size_below = ap (λ (x : ℕ). x * 16 ^ s.lowered) num_below ∙ number_is

      pub small_value : 0 < s.value → s.value ≤ 0x1000000000000000 → s.raised + 284 < e.quotient → Err 10 ≡ exactly neg num den
      small_value v w g = sym (exactly_none neg num den positive_den (small_none num den positive_den some little))
        where
          some : 0 < num
          some = positive num (16 ^ s.lowered) (s.value * (16 ^ s.raised * 16 ^ h.places)) (mul-pos v (mul-pos (pow16_pos s.raised) (pow16_pos h.places))) size_below

          far : (p n : ℕ) → 4 * (p + 284 + 1) ≤ n → 4 * (284 + p) ≤ n
          far p n h = omega arith

          turned : (a b c d : ℕ) → a * (b * c) * d ≡ c * (a * d * b)
          turned a b c d = simp (mul_assoc, mul_comm, mul_left_comm)

          little : num * 16 ^ 269 ≤ den
          little =
              le_trans (mul-le-mul_right (16 ^ 269) (le_trans (le-mul_of_pos_right num (pow16_pos s.lowered)) (le_trans (le_of_eq size_below) (mul-le-mul_right (16 ^ s.raised * 16 ^ h.places) w))))
              (le_trans (le_of_eq (turned (16 ^ 15) (16 ^ s.raised) (16 ^ h.places) (16 ^ 269) ∙ ap (λ (x : ℕ). 16 ^ h.places * x) (sym (pow-add 16 284 s.raised) ∙ sixteen (284 + s.raised))))
              (le_trans (mul-le-mul_left (16 ^ h.places) (pow_mono {i = 4 * (284 + s.raised)} {j = h.power} (far s.raised h.power (beyond h.power e.quotient (s.raised + 284) (counted_le e.quotient (h.power / 4) h.counts.quotient) g))))
              (le_of_eq (sym den_below))))

      pub below_value : s.raised + s.lowered ≤ most_places → e.quotient ≤ s.raised + 284 → (r : Result ℕ ℕ) → RepliesPlaced neg s.value (4 - e.remainder) s.raised (s.lowered + e.quotient + 1) r → r ≡ exactly neg num den
      below_value p g r f =
          f num den positive_den
          (ap (λ (x : ℕ). num * x) (ap (λ (x : ℕ). 16 ^ x) (add_assoc s.lowered e.quotient 1) ∙ pow-add 16 s.lowered (e.quotient + 1))
          ∙ sym (mul_assoc num (16 ^ s.lowered) (16 ^ (e.quotient + 1)))
          ∙ ap₂ (λ (x y : ℕ). x * y) size_below (sixteen (e.quotient + 1) ∙ ap (λ (x : ℕ). 2 ^ x) power_is ∙ pow-add 2 (4 - e.remainder) h.power)
          ∙ turned s.value (16 ^ s.raised) (16 ^ h.places) (2 ^ (4 - e.remainder)) (2 ^ h.power)
          ∙ ap (λ (x : ℕ). s.value * 2 ^ (4 - e.remainder) * 16 ^ s.raised * x) (sym den_below))
        where
          under : (a b q : ℕ) → a + b ≤ most_places → q ≤ a + 284 → q < most
          under a b q h g = omega arith

          whole : (n q r : ℕ) → q ≡ n / 4 → r ≡ n % 4 → 4 * (q + 1) ≡ 4 - r + n
          whole n q r a b = omega arith

          power_is : 4 * (e.quotient + 1) ≡ 4 - e.remainder + h.power
          power_is = whole h.power e.quotient e.remainder (counted e.quotient (h.power / 4) h.counts.quotient (under s.raised s.lowered e.quotient p g)) h.counts.remainder

          turned : (a b c d f : ℕ) → a * (b * c) * (d * f) ≡ a * d * b * (c * f)
          turned a b c d f = simp (mul_assoc, mul_comm, mul_left_comm)
