-- Small laws of natural numbers that the kit's libraries leave out. Assumes nothing.
use Rattle.std.proofs.Common.{◌≡◌, ℕ, zero, suc, ◌+◌, ◌-◌, ◌*◌, ◌%◌, ◌^◌, ◌<◌, ◌≤◌, Bool, true, false, not, T, leb, ◌⊎◌, sym, refl, ap, ◌∙◌, ap₂, inl, inr, add-zero, mul_comm, add-mul, mul-pos, one-mul, mul-div_cancel, arith, leb→le, pow_pos, pow-add}
use native.Mathlib.Nat.{mul-sub, mul-mod_left}
use lib.Arith.{mod-mul}
use lib.Dec.{nleb→lt}

pub le_or_gt : (a b : ℕ) → (a ≤ b) ⊎ (b < a)
le_or_gt a b = go (leb a b) (leb→le a b) (nleb→lt a b)
  where
    go : (t : Bool) → (T t → a ≤ b) → (T (not t) → b < a) → (a ≤ b) ⊎ (b < a)
    go true f g = inl (f tt)
    go false f g = inr (g tt)

pub next_mul : (m u : ℕ) → (m + 1) * u ≡ m * u + u
next_mul m u = add-mul m 1 u ∙ ap (λ (x : ℕ). m * u + x) (one-mul u)

pub sub_mul : (x m u : ℕ) → (x - m) * u ≡ x * u - m * u
sub_mul x m u = mul_comm (x - m) u ∙ mul-sub u x m ∙ ap₂ (λ (a b : ℕ). a - b) (mul_comm u x) (mul_comm u m)

pub mul_zero : (x b : ℕ) → 0 < b → x * b ≡ 0 → x ≡ 0
mul_zero zero b B h = refl
mul_zero (suc x) b B h = absurd (no (suc x * b) (mul-pos {m = suc x} {n = b} (omega arith) B) h)
  where
    no : (y : ℕ) → 0 < y → y ≡ 0 → ⊥
    no y a b = omega arith

-- n << k, in a word
pub shl : (n k : ℕ) → k ≤ 64 → n * 2 ^ k % 2 ^ 64 ≡ n % 2 ^ (64 - k) * 2 ^ k
shl n k l =
    ap (λ (x : ℕ). n * 2 ^ k % x) (sym (ap (λ (x : ℕ). 2 ^ x) (back k l)) ∙ pow-add 2 (64 - k) k)
    ∙ mod-mul (n * 2 ^ k) (pow_pos (64 - k)) (pow_pos k)
    ∙ ap₂ (λ (x y : ℕ). x % 2 ^ (64 - k) * 2 ^ k + y) (mul-div_cancel n (pow_pos k)) (mul-mod_left n (2 ^ k))
    ∙ add-zero (n % 2 ^ (64 - k) * 2 ^ k)
  where
    back : (k : ℕ) → k ≤ 64 → 64 - k + k ≡ 64
    back k l = omega arith
