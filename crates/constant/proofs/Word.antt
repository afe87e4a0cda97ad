-- The reply to m * 2 ^ e in units of 2 ^ -1136, by the word w = m * 2 ^ z that its digits fill. Assumes nothing.
use mathlib.Core.Path.{◌≡◌, refl, sym, ap, ◌∙◌}
use mathlib.Core.Logic.{◌⊎◌, inl, inr, ⊎_elim}
use mathlib.Core.Bool.{Bool, true, false, cond}
use Prim.Native.Nat.{ℕ, ◌+◌, ◌-◌, ◌*◌, ◌/◌, ◌%◌, ◌^◌, ◌≤◌, ◌<◌}
use native.Mathlib.Nat.{le_trans, le_of_eq, lt_of_lt_of_le, not-le_of_lt, mul_assoc, mul_comm, mul_right_comm, mul-le-mul_right, mul-mod_left, eq_of_mul-eq-mul_right, le-div_iff_mul-le, div-mul_cancel, dvd_of_mod-eq-zero, mod-eq_of_lt}
use native.Mathlib.Omega.{arith}
use lib.Dec.{eqb}
use lib.Pow.{pow-add, pow_pos, pow_mono, shl_lt, shr_lt}
use borrow.Author.Tests.{eqb-true, eqb-false}
use Rattle.std.specs.Prelude.{Ok, Err}
use Rattle.wide.proofs.Nat.{le_or_gt}
use Rattle.rounding.specs.Machine.{sign_bit}
use Rattle.constant.specs.Constant.{exactly}
use Rattle.constant.specs.Machine.{whole_bits}
use Rattle.constant.proofs.Exactly.{Finite, exactly_bits, exactly_none}

-- ---- q of 53 digits, and w of 64

-- q * 2 ^ x can only be w * 2 ^ e where x is larger by 11 at least
digits_apart : (w q x e : ℕ) → 2 ^ 63 ≤ w → q < 2 ^ 53 → q * 2 ^ x ≡ w * 2 ^ e → e + 11 ≤ x
digits_apart w q x e W Q h = ⊎_elim (λ g. g) (λ g. absurd (not-le_of_lt (lt_of_lt_of_le (shl_lt 53 x Q) (le_trans (pow_mono {i = 53 + x} {j = 63 + e} (near x e g)) (le_trans (le_of_eq (pow-add 2 63 e)) (mul-le-mul_right (2 ^ e) W)))) (le_of_eq (sym h)))) (le_or_gt (e + 11) x)
  where
    near : (x e : ℕ) → x < e + 11 → 53 + x ≤ 63 + e
    near x e g = omega arith

-- and then w is a multiple
multiple : (w q x e t : ℕ) → e + t ≤ x → q * 2 ^ x ≡ w * 2 ^ e → w % 2 ^ t ≡ 0
multiple w q x e t l h =
    ap (λ (y : ℕ). y % 2 ^ t) (eq_of_mul-eq-mul_right (2 ^ e) (pow_pos e) w (q * 2 ^ (x - (e + t)) * 2 ^ t) (sym h ∙ ap (λ (y : ℕ). q * 2 ^ y) (join x e t l) ∙ ap (λ (y : ℕ). q * y) (pow-add 2 (x - (e + t)) (t + e) ∙ ap (λ (y : ℕ). 2 ^ (x - (e + t)) * y) (pow-add 2 t e)) ∙ simp (mul_assoc)))
    ∙ mul-mod_left (q * 2 ^ (x - (e + t))) (2 ^ t)
  where
    join : (x e t : ℕ) → e + t ≤ x → x ≡ x - (e + t) + (t + e)
    join x e t l = omega arith

module _ (num den m e z : ℕ) (D : 0 < den) (is : num * 2 ^ 1136 ≡ m * 2 ^ e * den) where
  -- the size of num / den, both ways
  crossed : (q k : ℕ) → num * 2 ^ 1074 ≡ q * 2 ^ k * den → q * 2 ^ (k + (62 + z)) ≡ m * 2 ^ z * 2 ^ e
  crossed q k h =
      let f : q * 2 ^ k * 2 ^ 62 ≡ m * 2 ^ e =
      eq_of_mul-eq-mul_right den D (q * 2 ^ k * 2 ^ 62) (m * 2 ^ e)
      (mul_right_comm (q * 2 ^ k) (2 ^ 62) den ∙ ap (λ (y : ℕ). y * 2 ^ 62) (sym h) ∙ mul_assoc num (2 ^ 1074) (2 ^ 62) ∙ is) in
      ap (λ (y : ℕ). q * y) (pow-add 2 k (62 + z) ∙ ap (λ (y : ℕ). 2 ^ k * y) (pow-add 2 62 z))
      ∙ four q (2 ^ k) (2 ^ 62) (2 ^ z)
      ∙ ap (λ (y : ℕ). y * 2 ^ z) f
      ∙ mul_right_comm m (2 ^ e) (2 ^ z)
    where
      four : (a b c d : ℕ) → a * (b * (c * d)) ≡ a * b * c * d
      four a b c d = simp mul_assoc

  -- the quotient of the word is the size, where nothing is left over
  quotient : (k t : ℕ) → t + e ≡ k + (62 + z) → m * 2 ^ z % 2 ^ t ≡ 0 → num * 2 ^ 1074 ≡ m * 2 ^ z / 2 ^ t * 2 ^ k * den
  quotient k t h r =
      let q = m * 2 ^ z / 2 ^ t in
      eq_of_mul-eq-mul_right (2 ^ (62 + z)) (pow_pos (62 + z)) (num * 2 ^ 1074) (q * 2 ^ k * den)
      (ap (λ (y : ℕ). num * 2 ^ 1074 * y) (pow-add 2 62 z)
      ∙ sym (mul_assoc (num * 2 ^ 1074) (2 ^ 62) (2 ^ z))
      ∙ ap (λ (y : ℕ). y * 2 ^ z) (mul_assoc num (2 ^ 1074) (2 ^ 62) ∙ is)
      ∙ apart m (2 ^ e) den (2 ^ z)
      ∙ ap (λ (y : ℕ). y * 2 ^ e * den) (sym (div-mul_cancel (2 ^ t) (dvd_of_mod-eq-zero (2 ^ t) r)))
      ∙ ap (λ (y : ℕ). y * den) (mul_assoc q (2 ^ t) (2 ^ e) ∙ ap (λ (y : ℕ). q * y) (sym (pow-add 2 t e) ∙ ap (λ (y : ℕ). 2 ^ y) h ∙ pow-add 2 k (62 + z)))
      ∙ within q (2 ^ k) (2 ^ (62 + z)) den)
    where
      apart : (a b c d : ℕ) → a * b * c * d ≡ a * d * b * c
      apart a b c d = simp (mul_assoc, mul_comm)

      within : (a b c d : ℕ) → a * (b * c) * d ≡ a * b * d * c
      within a b c d = simp (mul_assoc, mul_comm)

  module _ (low : 2 ^ 63 ≤ m * 2 ^ z) (high : m * 2 ^ z < 2 ^ 64) where
    pub word_bits : (s : Bool) (k t : ℕ) → t + e ≡ k + (62 + z) → 11 ≤ t → k ≤ 2045 → (k ≡ 0) ⊎ (t ≡ 11) → whole_bits s (m * 2 ^ z) k t ≡ exactly s num den
    word_bits s k t h t11 most kind = go (eqb (m * 2 ^ z % 2 ^ t) 0) refl
      where
        more : (t : ℕ) → 11 ≤ t → 64 ≤ 53 + t
        more t h = omega arith

        full : t ≡ 11 → 2 ^ 52 * 2 ^ t ≤ m * 2 ^ z
        full g = le_trans (le_of_eq (ap (λ (y : ℕ). 2 ^ 52 * 2 ^ y) g)) low

        first : (t k z k' : ℕ) → t + e ≡ k + (62 + z) → k ≡ 0 → e + t ≤ k' + (62 + z)
        first t k z k' h g = omega arith

        whole : m * 2 ^ z % 2 ^ t ≡ 0 → Finite num den (m * 2 ^ z / 2 ^ t) k
        whole r =
            record {
              small = shr_lt 53 t (lt_of_lt_of_le high (pow_mono {i = 64} {j = 53 + t} (more t t11)));
              kept = ⊎_elim (λ g. inl g) (λ g. inr ((le-div_iff_mul-le (pow_pos t)).1 (full g))) kind;
              most = most;
              is = quotient k t h r;
            }

        none : (m * 2 ^ z % 2 ^ t ≡ 0 → ⊥) → (q k' : ℕ) → Finite num den q k' → ⊥
        none r q k' f =
            let c = crossed q k' f.is in
            r (multiple (m * 2 ^ z) q (k' + (62 + z)) e t (⊎_elim (λ g. first t k z k' h g) (λ g. le_trans (le_of_eq (ap (λ (y : ℕ). e + y) g)) (digits_apart (m * 2 ^ z) q (k' + (62 + z)) e low f.small c)) kind) c)

        go : (b : Bool) → eqb (m * 2 ^ z % 2 ^ t) 0 ≡ b → cond b (Ok (sign_bit s + (k * 0x10000000000000 + m * 2 ^ z / 2 ^ t))) (Err 10) ≡ exactly s num den
        go true r = sym (exactly_bits s num den (m * 2 ^ z / 2 ^ t) k D (whole (eqb-true (m * 2 ^ z % 2 ^ t) 0 r)))
        go false r = sym (exactly_none s num den D (none (eqb-false (m * 2 ^ z % 2 ^ t) 0 r)))

    pub word_large : (s : Bool) → z + 2097 ≤ e → Err 10 ≡ exactly s num den
    word_large s g = sym (exactly_none s num den D (λ q k f. not-le_of_lt (lt_of_lt_of_le (shl_lt 53 (k + (62 + z)) f.small) (le_trans (pow_mono {i = 53 + (k + (62 + z))} {j = 63 + e} (more k z f.most g)) (le_trans (le_of_eq (pow-add 2 63 e)) (mul-le-mul_right (2 ^ e) low)))) (le_of_eq (sym (crossed q k f.is)))))
      where
        more : (k z : ℕ) → k ≤ 2045 → z + 2097 ≤ e → 53 + (k + (62 + z)) ≤ 63 + e
        more k z a b = omega arith

    pub word_small : (s : Bool) → e + 64 ≤ z + 62 → Err 10 ≡ exactly s num den
    word_small s g = sym (exactly_none s num den D (λ q k f. zero (m * 2 ^ z) low (sym (mod-eq_of_lt high) ∙ multiple (m * 2 ^ z) q (k + (62 + z)) e 64 (more k z g) (crossed q k f.is))))
      where
        more : (k z : ℕ) → e + 64 ≤ z + 62 → e + 64 ≤ k + (62 + z)
        more k z a = omega arith

        zero : (w : ℕ) → 2 ^ 63 ≤ w → w ≡ 0 → ⊥
        zero w l e = omega arith
