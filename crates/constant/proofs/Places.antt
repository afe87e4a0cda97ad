-- The reply to m * 2 ^ t * 16 ^ above / 16 ^ below. Assumes nothing.
use mathlib.Core.Path.{◌≡◌, refl, sym, ap, ◌∙◌, subst}
use mathlib.Core.Bool.{Bool, true, false, cond}
use Prim.Native.Nat.{ℕ, zero, suc, ◌+◌, ◌-◌, ◌*◌, ◌^◌, ◌≤◌, ◌<◌}
use native.Mathlib.Nat.{le_trans, le_of_eq, lt_of_lt_of_le, lt_irrefl, not-le_of_lt, mul_assoc, mul_comm, mul_left_comm, mul_right_comm, mul-pos, one-le-mul, one-mul, zero-mul, mul-le-mul, mul-le-mul_left, mul-le-mul_right, mul-lt-mul_of_pos_left, mul-lt-mul_of_pos_right, le_of_mul-le-mul_right, eq_of_mul-eq-mul_right, pow-le-pow_right, pow-suc, zero-lt-suc}
use native.Mathlib.Omega.{arith}
use lib.Dec.{lit≤, lit<}
use lib.Pow.{pow-add, pow_pos, pow_mono, shl_lt}
use Rattle.std.specs.Prelude.{Result, Err}
use Rattle.constant.specs.Machine.{RepliesBits, RepliesPlaced}
use Rattle.constant.proofs.Exactly.{Finite, exactly_none}

-- ---- powers of 16

pub sixteen : (x : ℕ) → 16 ^ x ≡ 2 ^ (4 * x)
sixteen zero = refl
sixteen (suc x) = pow-suc 16 x ∙ ap (λ (y : ℕ). y * 16) (sixteen x) ∙ sym (pow-add 2 (4 * x) 4) ∙ ap (λ (y : ℕ). 2 ^ y) (next x)
  where
    next : (x : ℕ) → 4 * x + 4 ≡ 4 * suc x
    next x = omega arith

pub pow16_pos : (x : ℕ) → 0 < 16 ^ x
pow16_pos x = subst (λ (y : ℕ). 0 < y) (sym (sixteen x)) (pow_pos (4 * x))

pub pow16_mono : {x y : ℕ} → x ≤ y → 16 ^ x ≤ 16 ^ y
pow16_mono h = pow-le-pow_right (zero-lt-suc 15) h

-- what stands below the line of a text's value
pub line_pos : (b : Bool) (places power : ℕ) → 0 < 16 ^ places * cond b (2 ^ power) 1
line_pos true places power = mul-pos (pow16_pos places) (pow_pos power)
line_pos false places power = mul-pos (pow16_pos places) (lit< tt)

-- ---- what no finite float is

pub small_none : (num den : ℕ) → 0 < den → 0 < num → num * 16 ^ 269 ≤ den → (q k : ℕ) → Finite num den q k → ⊥
small_none num den D N h zero k f = lt_irrefl 0 (lt_of_lt_of_le (mul-pos N (pow_pos 1074)) (le_of_eq (f.is ∙ ap (λ (x : ℕ). x * den) (zero-mul (2 ^ k)) ∙ zero-mul den)))
small_none num den D N h (suc q) k f = not-le_of_lt (lt_of_lt_of_le (mul-lt-mul_of_pos_left {m = 2 ^ 1074} {n = 16 ^ 269} (lit< tt) N) h) (le_trans (le_of_eq (sym (one-mul den))) (le_trans (mul-le-mul_right den (one-le-mul (zero-lt-suc q) (pow_pos k))) (le_of_eq (sym f.is))))

pub large_none : (num den : ℕ) → 0 < den → 16 ^ 257 * den ≤ num → (q k : ℕ) → Finite num den q k → ⊥
large_none num den D h q k f =
    not-le_of_lt
    (lt_of_lt_of_le (mul-lt-mul_of_pos_right (lt_of_lt_of_le (shl_lt 53 k f.small) (pow_mono {i = 53 + k} {j = 2098} (few k f.most))) D)
    (le_trans (mul-le-mul_right {m = 2 ^ 2098} {n = 16 ^ 257 * 2 ^ 1074} den (lit≤ tt)) (le_trans (le_of_eq (mul_right_comm (16 ^ 257) (2 ^ 1074) den)) (mul-le-mul_right (2 ^ 1074) h))))
    (le_of_eq f.is)
  where
    few : (k : ℕ) → k ≤ 2045 → 53 + k ≤ 2098
    few k h = omega arith

-- ---- by places

pub positive : (a b c : ℕ) → 0 < c → a * b ≡ c → 0 < a
positive zero b c h e = absurd (lt_irrefl 0 (lt_of_lt_of_le h (le_of_eq (sym e ∙ zero-mul b))))
positive (suc a) b c h e = zero-lt-suc a

swapped : (a b c : ℕ) → a * b * c ≡ c * (b * a)
swapped a b c = simp (mul_assoc, mul_comm, mul_left_comm)

module _ (s : Bool) (m t above below : ℕ) (M : 0 < m) where
  pub placed_small : m ≤ 0x1000000000000000 → t ≤ 4 → above + 284 < below → RepliesPlaced s m t above below (Err 10)
  placed_small m60 t4 h num den D is = sym (exactly_none s num den D (small_none num den D some little))
    where
      some : 0 < num
      some = positive num (16 ^ below) (m * 2 ^ t * 16 ^ above * den) (mul-pos (mul-pos (mul-pos M (pow_pos t)) (pow16_pos above)) D) is

      far : (a b : ℕ) → a + 284 < b → 269 + (a + 16) ≤ b
      far a b h = omega arith

      little : num * 16 ^ 269 ≤ den
      little =
          le_of_mul-le-mul_right
          (le_trans (le_of_eq (mul_assoc num (16 ^ 269) (16 ^ (above + 16)) ∙ ap (λ (x : ℕ). num * x) (sym (pow-add 16 269 (above + 16)))))
          (le_trans (mul-le-mul_left num (pow16_mono {x = 269 + (above + 16)} {y = below} (far above below h)))
          (le_trans (le_of_eq is)
          (le_trans (mul-le-mul_right den (mul-le-mul_right (16 ^ above) (mul-le-mul {m₁ = 2 ^ t} {m₂ = 2 ^ 4} m60 (pow_mono t4))))
          (le_of_eq (swapped (16 ^ 16) (16 ^ above) den ∙ ap (λ (x : ℕ). den * x) (sym (pow-add 16 above 16))))))))
          (pow16_pos (above + 16))

  pub placed_large : below + 256 < above → RepliesPlaced s m t above below (Err 10)
  placed_large h num den D is = sym (exactly_none s num den D (large_none num den D much))
    where
      far : (a b : ℕ) → b + 256 < a → 257 + b ≤ a
      far a b h = omega arith

      much : 16 ^ 257 * den ≤ num
      much =
          le_of_mul-le-mul_right
          (le_trans (le_of_eq (mul_right_comm (16 ^ 257) den (16 ^ below) ∙ ap (λ (x : ℕ). x * den) (sym (pow-add 16 257 below))))
          (le_trans (mul-le-mul_right den (le_trans (pow16_mono {x = 257 + below} {y = above} (far above below h)) (le_trans (le_of_eq (sym (one-mul (16 ^ above)))) (mul-le-mul_right (16 ^ above) (one-le-mul M (pow_pos t))))))
          (le_of_eq (sym is))))
          (pow16_pos below)

  pub placed_bits : (r : Result ℕ ℕ) → below ≤ above + 284 → RepliesBits s m (4 * (above + 284 - below) + t) r → RepliesPlaced s m t above below r
  placed_bits r h f num den D is =
      f num den D
      (eq_of_mul-eq-mul_right (16 ^ below) (pow16_pos below) (num * 2 ^ 1136) (m * 2 ^ (4 * d + t) * den)
      (mul_right_comm num (2 ^ 1136) (16 ^ below)
      ∙ ap (λ (x : ℕ). x * 16 ^ 284) is
      ∙ outer m (2 ^ t) (16 ^ above) den (16 ^ 284)
      ∙ ap (λ (x : ℕ). m * 2 ^ t * x * den) (sym (pow-add 16 above 284) ∙ ap (λ (x : ℕ). 16 ^ x) (join above below h) ∙ pow-add 16 d below ∙ ap (λ (x : ℕ). x * 16 ^ below) (sixteen d))
      ∙ inner m (2 ^ t) (2 ^ (4 * d)) (16 ^ below) den
      ∙ ap (λ (x : ℕ). m * x * den * 16 ^ below) (sym (pow-add 2 (4 * d) t))))
    where
      d : ℕ
      d = above + 284 - below

      outer : (a b c e f : ℕ) → a * b * c * e * f ≡ a * b * (c * f) * e
      outer a b c e f = simp (mul_assoc, mul_comm)

      inner : (a b c e f : ℕ) → a * b * (c * e) * f ≡ a * (c * b) * f * e
      inner a b c e f = simp (mul_assoc, mul_comm)

      join : (a b : ℕ) → b ≤ a + 284 → a + 284 ≡ a + 284 - b + b
      join a b h = omega arith
