-- A number times a power of two: exactly, past every finite value, and below half of the smallest. Assumes nothing.
use mathlib.Core.Path.{◌≡◌, refl, sym, ap, ◌∙◌, subst}
use mathlib.Core.Logic.{inl, ⊎_elim}
use Prim.Native.Nat.{ℕ, suc, ◌+◌, ◌-◌, ◌*◌, ◌^◌, ◌≤◌, ◌<◌}
use native.Mathlib.Nat.{le_trans, le_of_eq, le_of_lt, lt_of_lt_of_le, lt_of_le_of_lt, mul-one, one-mul, mul_comm, mul_assoc, mul_left_comm, add-zero, zero-add, zero-mul, mul-pos, mul-le-mul_right, mul-le-mul_left, mul-lt-mul_of_pos_right, lt_of_mul-lt-mul_right}
use native.Mathlib.Omega.{arith}
use mathlib.Core.Bool.{Bool, cond}
use mathlib.Core.List.{[]}
use lib.IntN.{ℤ, pos, negsuc}
use lib.Dec.{lit≤, lit<}
use lib.Pow.{pow-add, pow_pos, pow_mono}
use borrow.Author.Tests.{lt-ltb, le-ltb}
use lib.Ieee.{Float, nan, inf, fin, binary64, up, down, of_bits, to_bits}
use lib.Ieee.Exact.{HasValue}
use lib.Ieee.Fits.{down_pos}
use Rattle.wide.proofs.Nat.{le_or_gt}
use Rattle.wide.proofs.Sticky.{just, jam_is}
use Rattle.rounding.specs.declared.Direction.{Direction}
use Rattle.rounding.specs.declared.Direction.TheVariants.{Nearest}
use Rattle.rounding.specs.Rounding.{whole, round_to}
use Rattle.rounding.specs.Machine.{sign_bit, overflow_bits, packed, Stands}
use Rattle.rounding.proofs.Place.{under, whole_at, Sits}
use Rattle.rounding.proofs.Rounded.{bits_at, bits_normal}
use Rattle.ieee754.specs.Operations.{scale_b, quiet, scale_bits}
use Rattle.ieee754.proofs.Nans.{nan_first, number_last}
use Rattle.operands.specs.Machine.{sign_of, magnitude, scaled_exponent}
use Rattle.operands.proofs.Reading.{inf_back, pattern_back, zero_round, read_inf, read_zero}

pub scale_is : (a : ℕ) (n : ℤ) → magnitude a ≤ 0x7ff0000000000000 → to_bits binary64 (scale_b Nearest (of_bits binary64 a) n) ≡ scale_bits a n
unfolding scale_bits
scale_is a n h = number_last a _ h

-- what `round_pack` ensures
abbrev pub Packs : Direction → Bool → ℕ → ℕ → ℕ → Type 0
Packs d s m e r = (num den : ℕ) → Stands 2337 num den m e → r ≡ to_bits binary64 (round_to d binary64 s num den)

-- any number has a fraction that it stands for
self : (m e : ℕ) → Stands 2337 (m * 2 ^ e) (2 ^ 2337) m e
self m e = record { size = m * 2 ^ e; den_pos = pow_pos 2337; same = refl; cut = jam_is (pow_pos e) (just refl) }

-- ---- up

module _ (d : Direction) (s : Bool) (m e k r : ℕ) (lo : 2 ^ 52 ≤ m) (hi : m < 2 ^ 53) where
  up_stands : (M U D : ℕ) → 0 < D → M * U * 2 ^ 1126 ≡ m * 2 ^ e * D → Stands 2337 (M * U * 2 ^ k) (D * 1) (m * 2048) (e + k + 1200)
  up_stands M U D P h =
      record {
        size = m * 2048 * 2 ^ (e + k + 1200);
        den_pos = mul-pos P (pow_pos 0);
        same =
            ordered (M * U) (2 ^ k) (2 ^ 1126) (2 ^ 1211)
            ∙ ap (λ (x : ℕ). x * (2 ^ k * 2 ^ 1211)) h
            ∙ spread m (2 ^ e) D (2 ^ k) 2048 (2 ^ 1200)
            ∙ ap (λ (x : ℕ). m * 2048 * x * (D * 1)) (sym (pow-add 2 (e + k) 1200 ∙ ap (λ (x : ℕ). x * 2 ^ 1200) (pow-add 2 e k)));
        cut = jam_is (pow_pos (e + k + 1200)) (just refl);
      }
    where
      ordered : (x a b c : ℕ) → x * a * (b * c) ≡ x * b * (a * c)
      ordered x a b c = simp (mul_assoc, mul_comm, mul_left_comm)

      spread : (m E D K p G : ℕ) → m * E * D * (K * (p * G)) ≡ m * p * (E * K * G) * (D * 1)
      spread m E D K p G = simp (mul_assoc, mul_comm, mul_left_comm, mul-one, one-mul)

  up_answer : (v : Float) → HasValue v s (m * 2 ^ e) (2 ^ 1126) → Packs d s (m * 2048) (e + k + 1200) r → r ≡ to_bits binary64 (scale_b d v (pos k))
  unfolding scale_b
  up_answer nan h f = absurd h
  up_answer (inf t) h f = absurd h
  up_answer (fin t M E) h f =
      f (M * up E * 2 ^ k) (down E * 1) (up_stands M (up E) (down E) (down_pos E) h.1)
      ∙ ap (λ (u : Bool). to_bits binary64 (round_to d binary64 u (M * up E * 2 ^ k) (down E * 1))) (sym h.0)

  -- past every finite value
  large : (x num den : ℕ) → 4000 ≤ x → Stands 2337 num den (m * 2048) x → to_bits binary64 (round_to d binary64 s num den) ≡ sign_bit s + overflow_bits d s
  large x num den h st =
      let b = (x - 1252) * 0x10000000000000 + whole d s (m * 2048) (2 ^ 11) in
      bits_normal d s st (omega arith) (omega arith) (omega arith)
      ∙ ap (λ (t : Bool). sign_bit s + cond t b (overflow_bits d s)) (le-ltb b 0x7ff0000000000000 (past x (whole d s (m * 2048) (2 ^ 11)) h))
    where
      past : (x c : ℕ) → 4000 ≤ x → 0x7ff0000000000000 ≤ (x - 1252) * 0x10000000000000 + c
      past x c h = omega arith

  over_answer : (v : Float) → 4000 < e + k + 1200 → HasValue v s (m * 2 ^ e) (2 ^ 1126) → Packs d s (m * 2048) 4000 r → r ≡ to_bits binary64 (scale_b d v (pos k))
  unfolding scale_b
  over_answer nan l h f = absurd h
  over_answer (inf t) l h f = absurd h
  over_answer (fin t M E) l h f =
      f (m * 2048 * 2 ^ 4000) (2 ^ 2337) (self (m * 2048) 4000)
      ∙ large 4000 (m * 2048 * 2 ^ 4000) (2 ^ 2337) (lit≤ tt) (self (m * 2048) 4000)
      ∙ sym (large (e + k + 1200) (M * up E * 2 ^ k) (down E * 1) (le_of_lt l) (up_stands M (up E) (down E) (down_pos E) h.1))
      ∙ ap (λ (u : Bool). to_bits binary64 (round_to d binary64 u (M * up E * 2 ^ k) (down E * 1))) (sym h.0)

  -- ---- down
  down_stands : (M U D : ℕ) → 0 < D → k ≤ e + 1199 → M * U * 2 ^ 1126 ≡ m * 2 ^ e * D → Stands 2337 (M * U * 1) (D * 2 ^ suc k) (m * 2048) (e + 1199 - k)
  down_stands M U D P l h =
      record {
        size = m * 2048 * 2 ^ (e + 1199 - k);
        den_pos = mul-pos P (pow_pos (suc k));
        same =
            ap (λ (x : ℕ). x * 2 ^ 2337) (mul-one (M * U))
            ∙ sym (mul_assoc (M * U) (2 ^ 1126) (2 ^ 1211))
            ∙ ap (λ (x : ℕ). x * 2 ^ 1211) h
            ∙ spread m (2 ^ e) D 2048 (2 ^ 1200)
            ∙ ap (λ (x : ℕ). m * 2048 * x * D) (sym (pow-add 2 e 1200) ∙ ap (λ (x : ℕ). 2 ^ x) (join e k l) ∙ pow-add 2 (e + 1199 - k) (suc k))
            ∙ again m 2048 (2 ^ (e + 1199 - k)) (2 ^ suc k) D;
        cut = jam_is (pow_pos (e + 1199 - k)) (just refl);
      }
    where
      spread : (m E D p G : ℕ) → m * E * D * (p * G) ≡ m * p * (E * G) * D
      spread m E D p G = simp (mul_assoc, mul_comm, mul_left_comm)

      again : (m p X Y D : ℕ) → m * p * (X * Y) * D ≡ m * p * X * (D * Y)
      again m p X Y D = simp (mul_assoc, mul_comm, mul_left_comm)

      join : (e k : ℕ) → k ≤ e + 1199 → e + 1200 ≡ e + 1199 - k + suc k
      join e k l = omega arith

  down_answer : (v : Float) → k ≤ e + 1199 → HasValue v s (m * 2 ^ e) (2 ^ 1126) → Packs d s (m * 2048) (e + 1199 - k) r → r ≡ to_bits binary64 (scale_b d v (negsuc k))
  unfolding scale_b
  down_answer nan l h f = absurd h
  down_answer (inf t) l h f = absurd h
  down_answer (fin t M E) l h f =
      f (M * up E * 1) (down E * 2 ^ suc k) (down_stands M (up E) (down E) (down_pos E) l h.1)
      ∙ ap (λ (u : Bool). to_bits binary64 (round_to d binary64 u (M * up E * 1) (down E * 2 ^ suc k))) (sym h.0)

  -- below half of the smallest value
  tiny : (num den : ℕ) → 0 < num → num * 2 ^ 1074 * 2 < den → to_bits binary64 (round_to d binary64 s num den) ≡ packed d s (whole_at d s 0 under)
  tiny num den N l =
      bits_at d s num den 0 0 under (positive (num * 2 ^ 1074 * 2) den l) (lit< tt) (inl refl)
      (subst (λ (u : ℕ). Sits (num * 2 ^ 1074) u 0 under) (sym (mul-one den))
      (record { rest = num * 2 ^ 1074; is = sym (ap (λ (x : ℕ). x + num * 2 ^ 1074) (zero-mul den) ∙ zero-add (num * 2 ^ 1074)); less = half (num * 2 ^ 1074) den l; at = (mul-pos N (pow_pos 1074), l) }))
      ∙ ap (packed d s) (zero-add (whole_at d s 0 under))
    where
      positive : (x y : ℕ) → x < y → 0 < y
      positive x y h = omega arith

      half : (x y : ℕ) → x * 2 < y → x < y
      half x y h = omega arith

  tiny_answer : (v : Float) → e + 1199 < k → HasValue v s (m * 2 ^ e) (2 ^ 1126) → Packs d s (m * 2048) 0 r → r ≡ to_bits binary64 (scale_b d v (negsuc k))
  unfolding scale_b
  tiny_answer nan l h f = absurd h
  tiny_answer (inf t) l h f = absurd h
  tiny_answer (fin t M E) l h f =
      let N = M * up E * 1 in
      let D = down E * 2 ^ suc k in
      let eq : N * 2 ^ 1126 ≡ m * 2 ^ e * down E = ap (λ (x : ℕ). x * 2 ^ 1126) (mul-one (M * up E)) ∙ h.1 in
      let M0 : 0 < m = lt_of_lt_of_le (pow_pos 52) lo in
      let N0 : 0 < N = lt_of_mul-lt-mul_right (2 ^ 1126) (lt_of_le_of_lt (le_of_eq (zero-mul (2 ^ 1126))) (subst (λ (x : ℕ). 0 < x) (sym eq) (mul-pos (mul-pos M0 (pow_pos e)) (down_pos E)))) in
      let a : m * 2 ^ e * down E < 2 ^ 53 * 2 ^ e * down E = mul-lt-mul_of_pos_right (mul-lt-mul_of_pos_right hi (pow_pos e)) (down_pos E) in
      let b : 2 ^ 53 * 2 ^ e * down E ≤ D = le_trans (mul-le-mul_right (down E) (le_trans (le_of_eq (sym (pow-add 2 53 e))) (pow_mono {i = 53 + e} {j = suc k} (more e k l)))) (le_of_eq (mul_comm (2 ^ suc k) (down E))) in
      let q : N * 2 ^ 1074 * 2 < D = lt_of_le_of_lt (le_trans (le_of_eq (mul_assoc N (2 ^ 1074) 2)) (mul-le-mul_left N (lit≤ tt))) (lt_of_le_of_lt (le_of_eq eq) (lt_of_lt_of_le a b)) in
      f (m * 2048 * 2 ^ 0) (2 ^ 2337) (self (m * 2048) 0)
      ∙ tiny (m * 2048 * 2 ^ 0) (2 ^ 2337) (mul-pos (mul-pos M0 (lit< tt)) (pow_pos 0)) least
      ∙ sym (tiny N D N0 q)
      ∙ ap (λ (u : Bool). to_bits binary64 (round_to d binary64 u N D)) (sym h.0)
    where
      more : (e k : ℕ) → e + 1199 < k → 53 + e ≤ suc k
      more e k l = omega arith

      least : m * 2048 * 2 ^ 0 * 2 ^ 1074 * 2 < 2 ^ 2337
      least = lt_of_lt_of_le (mul-lt-mul_of_pos_right (mul-lt-mul_of_pos_right (mul-lt-mul_of_pos_right (mul-lt-mul_of_pos_right hi (lit< tt)) (pow_pos 0)) (pow_pos 1074)) (lit< tt)) (lit≤ tt)

-- ---- the exponent of `scaled_exponent`

pub scaled_over : (e k : ℕ) → 4000 < e + k + 1200 → scaled_exponent e (pos k) ≡ 4000
scaled_over e k h = ap (λ (b : Bool). cond b 4000 (e + k + 1200)) (lt-ltb 4000 (e + k + 1200) h)

pub scaled_up : (e k : ℕ) → e + k + 1200 ≤ 4000 → scaled_exponent e (pos k) ≡ e + k + 1200
scaled_up e k h = ap (λ (b : Bool). cond b 4000 (e + k + 1200)) (le-ltb 4000 (e + k + 1200) h)

pub scaled_tiny : (e k : ℕ) → e + 1199 < k → scaled_exponent e (negsuc k) ≡ 0
scaled_tiny e k h = ap (λ (b : Bool). cond b 0 (e + 1199 - k)) (lt-ltb (e + 1199) k h)

pub scaled_down : (e k : ℕ) → k ≤ e + 1199 → scaled_exponent e (negsuc k) ≡ e + 1199 - k
scaled_down e k h = ap (λ (b : Bool). cond b 0 (e + 1199 - k)) (le-ltb (e + 1199) k h)

pub scaled_le : (e : ℕ) (n : ℤ) → e ≤ 2097 → scaled_exponent e n ≤ 4322
scaled_le e (pos k) E = ⊎_elim
    (λ h. le_trans (le_of_eq (scaled_up e k h)) (le_trans h (lit≤ tt)))
    (λ h. le_trans (le_of_eq (scaled_over e k h)) (lit≤ tt))
    (le_or_gt (e + k + 1200) 4000)
scaled_le e (negsuc k) E = ⊎_elim
    (λ h. le_trans (le_of_eq (scaled_down e k h)) (few e k E))
    (λ h. le_trans (le_of_eq (scaled_tiny e k h)) (lit≤ tt))
    (le_or_gt k (e + 1199))
  where
    few : (e k : ℕ) → e ≤ 2097 → e + 1199 - k ≤ 4322
    few e k h = omega arith

pub scaled_answer : (d : Direction) (s : Bool) (m e r : ℕ) (n : ℤ) (v : Float) → 2 ^ 52 ≤ m → m < 2 ^ 53 → HasValue v s (m * 2 ^ e) (2 ^ 1126) → Packs d s (m * 2048) (scaled_exponent e n) r → r ≡ to_bits binary64 (scale_b d v n)
scaled_answer d s m e r (pos k) v lo hi h f = ⊎_elim
    (λ l. up_answer d s m e k r lo hi v h (subst (λ (x : ℕ). Packs d s (m * 2048) x r) (scaled_up e k l) f))
    (λ l. over_answer d s m e k r lo hi v l h (subst (λ (x : ℕ). Packs d s (m * 2048) x r) (scaled_over e k l) f))
    (le_or_gt (e + k + 1200) 4000)
scaled_answer d s m e r (negsuc k) v lo hi h f = ⊎_elim
    (λ l. down_answer d s m e k r lo hi v l h (subst (λ (x : ℕ). Packs d s (m * 2048) x r) (scaled_down e k l) f))
    (λ l. tiny_answer d s m e k r lo hi v l h (subst (λ (x : ℕ). Packs d s (m * 2048) x r) (scaled_tiny e k l) f))
    (le_or_gt k (e + 1199))

-- ---- a zero, an infinity or a NaN

pub scale_nan : (a : ℕ) (n : ℤ) → 0x7ff0000000000000 < magnitude a → quiet a ≡ scale_bits a n
unfolding scale_bits
scale_nan a n h = nan_first a [] _ h

pub scale_inf : (a : ℕ) (n : ℤ) → a < 2 ^ 64 → magnitude a ≡ 0x7ff0000000000000 → a ≡ scale_bits a n
unfolding scale_b
scale_inf a n A h = inf_back a A h ∙ ap (λ (v : Float). to_bits binary64 (scale_b Nearest v n)) (sym (read_inf a h)) ∙ scale_is a n (le_of_eq h)

pub scale_zero : (a : ℕ) (n : ℤ) → a < 2 ^ 64 → magnitude a ≡ 0 → a ≡ scale_bits a n
unfolding scale_b
scale_zero a n A h =
    sym (pattern_back a 0 A h) ∙ add-zero (sign_bit (sign_of a)) ∙ zero_round Nearest (sign_of a) (0 * up n) (1 * down n) (zero-mul (up n)) (mul-pos (pow_pos 0) (down_pos n))
    ∙ ap (λ (v : Float). to_bits binary64 (scale_b Nearest v n)) (sym (read_zero a h)) ∙ scale_is a n (le_trans (le_of_eq h) (lit≤ tt))
