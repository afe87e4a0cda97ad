-- The leading digits of a number, shifted to the top of a word, and what they stand for. Assumes nothing.
use mathlib.Core.Path.{◌≡◌, sym, ap, ap₂, ◌∙◌, subst}
use Prim.Native.Nat.{ℕ, suc, ◌+◌, ◌-◌, ◌*◌, ◌/◌, ◌%◌, ◌^◌, ◌≤◌, ◌<◌}
use native.Mathlib.Nat.{le_trans, le_of_eq, lt_of_lt_of_le, lt_of_le_of_lt, lt_of_mul-lt-mul_right, le_of_mul-le-mul_right, mod-eq_of_lt, mul_comm, mul_assoc, mul_right_comm, add_comm, le-add_right, mul-le-mul_left, mul-le-mul_right, mul-lt-mul_of_pos_right, zero-mul, add-mul-div_right, add-mul-mod_self_right, not-le_of_lt}
use native.Mathlib.Omega.{arith}
use mathlib.Core.Bool.{Bool}
use mathlib.Core.Logic.{⊎_elim}
use lib.Arith.{digits_lt}
use lib.Pow.{pow-add, pow_pos, pow_mono, shr_lt, shr-shr}
use lib.Count.{count_leading_zeros, leading_top}
use lib.Ieee.{binary64, to_bits}
use Rattle.wide.specs.Words.{sticky, jammed}
use Rattle.wide.proofs.Nat.{le_or_gt, mul_zero, shl}
use Rattle.wide.proofs.Sticky.{Jam, just, sticky_rest, jam_of, jam_is, jam_jam, jam_ge, jam_scale, even_pow}
use Rattle.rounding.specs.declared.Direction.{Direction}
use Rattle.rounding.specs.Rounding.{round_to}
use Rattle.rounding.specs.Machine.{packed, normal_bits, Stands}
use Rattle.rounding.proofs.Place.{whole_same}
use Rattle.rounding.proofs.Rounded.{bits_leading, bits_normal}

-- w, shifted up by its leading zeros, fills a word
pub record Leads (w z : ℕ) : Type 0 where
  pub few : z ≤ 63
  pub low : 2 ^ 63 ≤ w * 2 ^ z
  pub high : w * 2 ^ z < 2 ^ 64

pub leads : (w : ℕ) → 0 < w → w < 2 ^ 64 → Leads w (count_leading_zeros 64 w)
leads w W h =
    let top = leading_top 64 w W h in
    let z = count_leading_zeros 64 w in
    let j = top.0 in
    record {
      few = few z j top.1;
      low = le_trans (le_of_eq (ap (λ (x : ℕ). 2 ^ x) (last z j top.1) ∙ pow-add 2 j z)) (mul-le-mul_right (2 ^ z) top.2);
      high = lt_of_lt_of_le (mul-lt-mul_of_pos_right top.3 (pow_pos z)) (le_of_eq (sym (pow-add 2 (suc j) z) ∙ ap (λ (x : ℕ). 2 ^ x) (all z j top.1)));
    }
  where
    few : (z j : ℕ) → z + suc j ≡ 64 → z ≤ 63
    few z j e = omega arith

    last : (z j : ℕ) → z + suc j ≡ 64 → 63 ≡ j + z
    last z j e = omega arith

    all : (z j : ℕ) → z + suc j ≡ 64 → suc j + z ≡ 64
    all z j e = omega arith

-- a number of at most 64 - j digits, shifted up to that many
pub record Fills (j w z : ℕ) : Type 0 where
  pub zeros : j ≤ z
  pub low : 2 ^ (63 - j) ≤ w * 2 ^ (z - j)
  pub high : w * 2 ^ (z - j) < 2 ^ (64 - j)

pub fills : (j w z : ℕ) → j ≤ 63 → w < 2 ^ (64 - j) → Leads w z → Fills j w z
fills j w z J h l = record { zeros = zeros; low = le_of_mul-le-mul_right (le_trans (le_of_eq (sym (split 63 J))) (le_trans l.low (le_of_eq shifted))) (pow_pos j); high = lt_of_mul-lt-mul_right (2 ^ j) (lt_of_lt_of_le (lt_of_le_of_lt (le_of_eq (sym shifted)) l.high) (le_of_eq (split 64 (more j J)))) }
  where
    more : (j : ℕ) → j ≤ 63 → j ≤ 64
    more j h = omega arith

    split : (n : ℕ) → j ≤ n → 2 ^ n ≡ 2 ^ (n - j) * 2 ^ j
    split n h = ap (λ (x : ℕ). 2 ^ x) (back n j h) ∙ pow-add 2 (n - j) j
      where
        back : (n j : ℕ) → j ≤ n → n ≡ n - j + j
        back n j h = omega arith

    zeros : j ≤ z
    zeros = ⊎_elim (λ g. g) (λ g. absurd (not-le_of_lt (lt_of_lt_of_le (mul-lt-mul_of_pos_right h (pow_pos z)) (le_trans (le_of_eq (sym (pow-add 2 (64 - j) z))) (pow_mono {i = 64 - j + z} {j = 63} (under j z J g)))) l.low)) (le_or_gt j z)
      where
        under : (j z : ℕ) → j ≤ 63 → z < j → 64 - j + z ≤ 63
        under j z a b = omega arith

    shifted : w * 2 ^ z ≡ w * 2 ^ (z - j) * 2 ^ j
    shifted = ap (λ (x : ℕ). w * x) (split z zeros) ∙ sym (mul_assoc w (2 ^ (z - j)) (2 ^ j))

-- ---- the 64 leading digits of two words

module _ (h l z : ℕ) (L : l < 2 ^ 64) (Z : Leads h z) where
  sixty_four : 2 ^ 64 ≡ 2 ^ z * 2 ^ (64 - z)
  sixty_four = ap (λ (x : ℕ). 2 ^ x) (back z Z.few) ∙ pow-add 2 z (64 - z)
    where
      back : (z : ℕ) → z ≤ 63 → 64 ≡ z + (64 - z)
      back z h = omega arith

  -- as the code makes them
  high_is : h * 2 ^ z % 2 ^ 64 ≡ h * 2 ^ z
  high_is = mod-eq_of_lt Z.high

  low_is : l / 2 / 2 ^ (63 - z) ≡ l / 2 ^ (64 - z)
  low_is = shr-shr l 1 (63 - z) ∙ ap (λ (x : ℕ). l / 2 ^ x) (one_more z Z.few)
    where
      one_more : (z : ℕ) → z ≤ 63 → 1 + (63 - z) ≡ 64 - z
      one_more z h = omega arith

  pub top_fits : h * 2 ^ z % 2 ^ 64 + l / 2 / 2 ^ (63 - z) < 2 ^ 64
  top_fits = subst (λ (x : ℕ). x < 2 ^ 64) (sym (ap₂ (λ (x y : ℕ). x + y) high_is low_is)) (lt_of_lt_of_le (digits_lt few (shr_lt z (64 - z) (subst (λ (x : ℕ). l < x) (sixty_four ∙ sym (pow-add 2 z (64 - z))) L))) (le_of_eq (sym sixty_four')))
    where
      sixty_four' : 2 ^ 64 ≡ 2 ^ (64 - z) * 2 ^ z
      sixty_four' = sixty_four ∙ mul_comm (2 ^ z) (2 ^ (64 - z))

      few : h < 2 ^ (64 - z)
      few = lt_of_mul-lt-mul_right (2 ^ z) (lt_of_lt_of_le Z.high (le_of_eq sixty_four'))

  pub top_jammed : (m : ℕ) → m ≡ sticky (h * 2 ^ z % 2 ^ 64 + l / 2 / 2 ^ (63 - z)) (l * 2 ^ z % 2 ^ 64) → m ≡ jammed (h * 2 ^ 64 + l) (2 ^ (64 - z))
  top_jammed m e =
      let U = 2 ^ (64 - z) in
      let g : h * 2 ^ 64 + l ≡ l + h * 2 ^ z * U = ap (λ (x : ℕ). h * x + l) sixty_four ∙ ap (λ (x : ℕ). x + l) (sym (mul_assoc h (2 ^ z) U)) ∙ add_comm (h * 2 ^ z * U) l in
      let d : (h * 2 ^ 64 + l) / U ≡ h * 2 ^ z + l / U = ap (λ (x : ℕ). x / U) g ∙ add-mul-div_right l (h * 2 ^ z) (pow_pos (64 - z)) ∙ add_comm (l / U) (h * 2 ^ z) in
      let r : (h * 2 ^ 64 + l) % U ≡ l % U = ap (λ (x : ℕ). x % U) g ∙ add-mul-mod_self_right l (h * 2 ^ z) U in
      let s : l * 2 ^ z % 2 ^ 64 ≡ l % U * 2 ^ z = shl l z (most z Z.few) in
      e
      ∙ ap (λ (x : ℕ). sticky x (l * 2 ^ z % 2 ^ 64)) (ap₂ (λ (x y : ℕ). x + y) high_is low_is)
      ∙ sticky_rest (h * 2 ^ z + l / U) (l * 2 ^ z % 2 ^ 64) (l % U) (λ w. mul_zero (l % U) (2 ^ z) (pow_pos z) (sym s ∙ w)) (λ w. s ∙ ap (λ (x : ℕ). x * 2 ^ z) w ∙ zero-mul (2 ^ z))
      ∙ ap₂ (λ (x y : ℕ). sticky x y) (sym d) (sym r)
    where
      most : (z : ℕ) → z ≤ 63 → z ≤ 64
      most z h = omega arith

  -- the leading digit is set
  pub top_low : (m : ℕ) → m ≡ sticky (h * 2 ^ z % 2 ^ 64 + l / 2 / 2 ^ (63 - z)) (l * 2 ^ z % 2 ^ 64) → 2 ^ 63 ≤ m
  top_low m e = jam_ge (2 ^ 63) (pow_pos (64 - z)) bound (jam_of (pow_pos (64 - z)) (top_jammed m e))
    where
      bound : 2 ^ 63 * 2 ^ (64 - z) ≤ h * 2 ^ 64 + l
      bound = le_trans (mul-le-mul_right (2 ^ (64 - z)) Z.low) (le_trans (le_of_eq (mul_assoc h (2 ^ z) (2 ^ (64 - z)) ∙ ap (λ (x : ℕ). h * x) (sym sixty_four))) (le-add_right (h * 2 ^ 64) l))

-- ---- from units of 2 ^ -2273 to units of 2 ^ -2337

regroup : (num A B S den : ℕ) → num * A ≡ S * den → num * (A * B) ≡ S * B * den
regroup num A B S den e = sym (mul_assoc num A B) ∙ ap (λ (x : ℕ). x * B) e ∙ mul_right_comm S den B

pub stands_top : {num den w e : ℕ} (m z : ℕ) → z ≤ 63 → Stands 2273 num den w e → m ≡ jammed w (2 ^ (64 - z)) → Stands 2337 num den m (e + 128 - z)
stands_top {num} {den} {w} {e} m z Z s c =
    record {
      size = s.size * 2 ^ 64;
      den_pos = s.den_pos;
      same = regroup num (2 ^ 2273) (2 ^ 64) s.size den s.same;
      cut = jam_is (pow_pos (e + 128 - z)) (subst (λ (x : ℕ). Jam (s.size * 2 ^ 64) x m) unit (jam_scale (2 ^ 64) (pow_pos 64) (jam_jam (pow_pos e) (even_pow (64 - z) (some z Z)) (jam_of (pow_pos e) s.cut) (jam_of (pow_pos (64 - z)) c))));
    }
  where
    some : (z : ℕ) → z ≤ 63 → 0 < 64 - z
    some z h = omega arith

    unit : 2 ^ (64 - z) * 2 ^ e * 2 ^ 64 ≡ 2 ^ (e + 128 - z)
    unit = ap (λ (x : ℕ). x * 2 ^ 64) (sym (pow-add 2 (64 - z) e)) ∙ sym (pow-add 2 (64 - z + e) 64) ∙ ap (λ (x : ℕ). 2 ^ x) (sum z e Z)
      where
        sum : (z e : ℕ) → z ≤ 63 → 64 - z + e + 64 ≡ e + 128 - z
        sum z e h = omega arith

-- one word, which stands for itself
pub stands_word : (num den w e z : ℕ) → z ≤ 63 → 0 < den → num * 2 ^ 2273 ≡ w * 2 ^ e * den → Stands 2337 num den (w * 2 ^ z) (e + 64 - z)
stands_word num den w e z Z D h =
    record {
      size = w * 2 ^ e * 2 ^ 64;
      den_pos = D;
      same = regroup num (2 ^ 2273) (2 ^ 64) (w * 2 ^ e) den h;
      cut = jam_is (pow_pos (e + 64 - z)) (just unit);
    }
  where
    unit : w * 2 ^ e * 2 ^ 64 ≡ w * 2 ^ z * 2 ^ (e + 64 - z)
    unit =
        mul_assoc w (2 ^ e) (2 ^ 64)
        ∙ ap (λ (x : ℕ). w * x) (sym (pow-add 2 e 64) ∙ ap (λ (x : ℕ). 2 ^ x) (sum z e Z) ∙ pow-add 2 z (e + 64 - z))
        ∙ sym (mul_assoc w (2 ^ z) (2 ^ (e + 64 - z)))
      where
        sum : (z e : ℕ) → z ≤ 63 → e + 64 ≡ z + (e + 64 - z)
        sum z e h = omega arith

-- one word: it stands for itself, or it has at least 62 digits, of which 9 or more are dropped
module _ (d : Direction) (s : Bool) {num den w e : ℕ} (z : ℕ) (Z : Leads w z) (h : Stands 2273 num den w e) where
  finer : Stands 2337 num den w (e + 64)
  finer =
      record {
        size = h.size * 2 ^ 64;
        den_pos = h.den_pos;
        same = regroup num (2 ^ 2273) (2 ^ 64) h.size den h.same;
        cut = jam_is (pow_pos (e + 64)) (subst (λ (x : ℕ). Jam (h.size * 2 ^ 64) x w) (sym (pow-add 2 e 64)) (jam_scale (2 ^ 64) (pow_pos 64) (jam_of (pow_pos e) h.cut)));
      }

  long : 1251 ≤ e → z ≤ 2 → to_bits binary64 (round_to d binary64 s num den) ≡ packed d s (normal_bits d s (w * 2 ^ z) (e + 64 - z))
  long E l =
      bits_leading d s finer (11 - z) (e + 64 - z - 1252) (few z l) (le_of_mul-le-mul_right (le_trans (le_of_eq (split 52 z l)) Z.low) (pow_pos z)) (lt_of_mul-lt-mul_right (2 ^ z) (lt_of_lt_of_le Z.high (le_of_eq (sym (split 53 z l))))) (place e z E l)
      ∙ ap (λ (x : ℕ). packed d s ((e + 64 - z - 1252) * 0x10000000000000 + x)) (whole_same d s w (2 ^ (11 - z)) (w * 2 ^ z) (2 ^ 11) (pow_pos (11 - z)) (pow_pos 11) (ap (λ (x : ℕ). w * x) (ap (λ (x : ℕ). 2 ^ x) (back z l) ∙ pow-add 2 z (11 - z)) ∙ sym (mul_assoc w (2 ^ z) (2 ^ (11 - z)))))
    where
      few : (z : ℕ) → z ≤ 2 → 2 ≤ 11 - z
      few z l = omega arith

      back : (z : ℕ) → z ≤ 2 → 11 ≡ z + (11 - z)
      back z l = omega arith

      place : (e z : ℕ) → 1251 ≤ e → z ≤ 2 → 11 - z + (e + 64) ≡ 1263 + (e + 64 - z - 1252)
      place e z E l = omega arith

      split : (n z : ℕ) → z ≤ 2 → 2 ^ (n + (11 - z)) * 2 ^ z ≡ 2 ^ (n + 11)
      split n z l = sym (pow-add 2 (n + (11 - z)) z) ∙ ap (λ (x : ℕ). 2 ^ x) (all n z l)
        where
          all : (n z : ℕ) → z ≤ 2 → n + (11 - z) + z ≡ n + 11
          all n z l = omega arith

  pub bits_word : (w < 2 ^ 61 → num * 2 ^ 2273 ≡ w * 2 ^ e * den) → 1251 ≤ e → to_bits binary64 (round_to d binary64 s num den) ≡ packed d s (normal_bits d s (w * 2 ^ z) (e + 64 - z))
  bits_word x E = ⊎_elim
      (λ (l : z ≤ 2). long E l)
      (λ (l : 2 < z). bits_normal d s (stands_word num den w e z Z.few h.den_pos (x (short l))) Z.low Z.high (normal e z E Z.few))
      (le_or_gt z 2)
    where
      normal : (e z : ℕ) → 1251 ≤ e → z ≤ 63 → 1252 ≤ e + 64 - z
      normal e z E l = omega arith

      short : 2 < z → w < 2 ^ 61
      short l = lt_of_mul-lt-mul_right (2 ^ 3) (lt_of_le_of_lt (mul-le-mul_left w (pow_mono {i = 3} {j = z} l)) Z.high)
