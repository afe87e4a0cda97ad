-- Numbers with a sign: ±n as the difference of two natural numbers, so that equations with signs are linear over ℕ, and the same in ℤ. Assumes nothing.
use mathlib.Core.Path.{◌≡◌, refl, sym, ap, ◌∙◌}
use mathlib.Core.Logic.{inl, inr}
use Prim.Native.Nat.{ℕ, zero, suc, ◌+◌, ◌-◌, ◌*◌, ◌≤◌, ◌<◌, ◌∣◌}
use native.Mathlib.Nat.{mul-zero, zero-mul, mul-le-mul_right, mul-lt-mul_of_pos_right, dvd-zero}
use native.Mathlib.Omega.{arith}
use mathlib.Core.Bool.{Bool, true, false, not, cond, true≢false}
use lib.IntN.{ℤ, pos, negsuc, neg_ℤ, sub_ℕ, ◌+ℤ◌, ◌*ℤ◌, +ℤ_assoc, +ℤ_comm, +ℤ_idl, +ℤ_idr, neg_ℤ-+ℤ}
use lib.Dec.{T, ltb, ltb→lt, nltb→le}
use borrow.Author.Tests.{lt-ltb, le-ltb}
use lib.Ieee.{unlike}
use Rattle.wide.proofs.Nat.{sub_mul}
use Rattle.exactness.specs.Values.{signed}
use Rattle.wide.proofs.Nat.{le_or_gt}
use Rattle.exactness.proofs.Multiples.{distance}

-- ---- the positive and the negative part of a number with a sign
abbrev pub pos_part : Bool → ℕ → ℕ
pos_part true n = 0
pos_part false n = n

abbrev pub neg_part : Bool → ℕ → ℕ
neg_part true n = n
neg_part false n = 0

-- ±n is P - N
abbrev pub IsDifference : Bool → ℕ → ℕ → ℕ → Type 0
IsDifference s n P N = pos_part s n + N ≡ P + neg_part s n

pub size_is : (s : Bool) (n P N : ℕ) → IsDifference s n P N → n ≡ distance P N
size_is true n P N h = omega arith
size_is false n P N h = omega arith

pub pos_part-not : (s : Bool) (n : ℕ) → pos_part (not s) n ≡ neg_part s n
pos_part-not true n = refl
pos_part-not false n = refl

pub neg_part-not : (s : Bool) (n : ℕ) → neg_part (not s) n ≡ pos_part s n
neg_part-not true n = refl
neg_part-not false n = refl

pub apart_is : (u q : Bool) (c h n : ℕ) → IsDifference q n (pos_part u c + pos_part (not u) h) (neg_part u c + neg_part (not u) h) → n ≡ distance c h
apart_is false q c h n i = size_is q n (c + 0) (0 + h) i ∙ omega arith
apart_is true q c h n i = size_is q n (0 + h) (c + 0) i ∙ omega arith

pub unlike_false : (u : Bool) → unlike u false ≡ u
unlike_false true = refl
unlike_false false = refl

pub balance : (u q : Bool) (c h n : ℕ) → IsDifference q n (pos_part u c + pos_part (not u) h) (neg_part u c + neg_part (not u) h)
    → pos_part u h + pos_part q n + neg_part u c ≡ pos_part u c + (neg_part u h + neg_part q n)
balance false q c h n i = let j : pos_part q n + (0 + h) ≡ c + 0 + neg_part q n = i in omega arith
balance true q c h n i = let j : pos_part q n + (c + 0) ≡ 0 + h + neg_part q n = i in omega arith

pub dvd-pos_part : (d : ℕ) (s : Bool) (n : ℕ) → d ∣ n → d ∣ pos_part s n
dvd-pos_part d true n h = dvd-zero d
dvd-pos_part d false n h = h

pub dvd-neg_part : (d : ℕ) (s : Bool) (n : ℕ) → d ∣ n → d ∣ neg_part s n
dvd-neg_part d true n h = h
dvd-neg_part d false n h = dvd-zero d

-- a product by positive and negative parts
pub product_is : (s : Bool) (m : ℕ) (t : Bool) (n : ℕ)
    → (pos_part (unlike s t) (m * n) ≡ pos_part s m * pos_part t n + neg_part s m * neg_part t n) × (neg_part (unlike s t) (m * n) ≡ pos_part s m * neg_part t n + neg_part s m * pos_part t n)
product_is true m true n = (omega arith, omega arith)
product_is true m false n = (omega arith, omega arith)
product_is false m true n = (omega arith, omega arith)
product_is false m false n = (omega arith, omega arith)

-- ---- a difference has one size and, if it is not -0, one sign
abbrev pub NotMinusZero : Bool → ℕ → Type 0
NotMinusZero s n = n ≡ 0 → s ≡ false

pub is_difference : (P N : ℕ) → IsDifference (ltb P N) (distance P N) P N
is_difference P N = go (ltb P N) (ltb→lt P N) (nltb→le P N)
  where
    go : (q : Bool) → (T q → P < N) → (T (not q) → N ≤ P) → IsDifference q (distance P N) P N
    go true h k = let l = h tt in omega arith
    go false h k = let l = k tt in omega arith

pub sign_is : (s : Bool) (n P N : ℕ) → NotMinusZero s n → IsDifference s n P N → s ≡ ltb P N
sign_is true zero P N z i = absurd (true≢false (z refl))
sign_is true (suc n) P N z i = sym (lt-ltb P N (omega arith))
sign_is false n P N z i = sym (le-ltb P N (omega arith))

-- P - N is P' - N' times u
pub same_difference : (P N P' N' u : ℕ) → 0 < u → P + N' * u ≡ P' * u + N → (ltb P N ≡ ltb P' N') × (distance P N ≡ distance P' N' * u)
same_difference P N P' N' u U e =
    elim (le_or_gt N' P') [
      | inl h ↦ let l = mul-le-mul_right u h in (le-ltb P N (omega arith) ∙ sym (le-ltb P' N' h), sym (times (omega arith)))
      | inr h ↦ let l = mul-lt-mul_of_pos_right h U in (lt-ltb P N (omega arith) ∙ sym (lt-ltb P' N' h), sym (times (omega arith)))
    ]
  where
    times : {d : ℕ} → P' * u - N' * u + (N' * u - P' * u) ≡ d → distance P' N' * u ≡ d
    times {d} h = let p = sub_mul P' N' u in let q = sub_mul N' P' u in omega arith

-- ---- ℤ by positive and negative parts
pub sub_is : (a b : ℕ) → sub_ℕ a b ≡ pos a +ℤ neg_ℤ (pos b)
sub_is a zero = go (ltb a 0) (ltb→lt a 0)
  where
    go : (z : Bool) → (T z → a < 0) → cond z (negsuc (0 - suc a)) (pos (a - 0)) ≡ pos (a + 0)
    go true h = absurd (none (h tt))
      where
        none : a < 0 → ⊥
        none l = omega arith
    go false h = ap pos (omega arith)
sub_is a (suc b) = refl

pub signed_is : (s : Bool) (n : ℕ) → signed s n ≡ sub_ℕ (pos_part s n) (neg_part s n)
signed_is false n = sym (sub_is n 0 ∙ +ℤ_idr (pos n))
signed_is true n = sym (sub_is 0 n ∙ +ℤ_idl (neg_ℤ (pos n)))

pub sub_add : (a b c d : ℕ) → sub_ℕ a b +ℤ sub_ℕ c d ≡ sub_ℕ (a + c) (b + d)
sub_add a b c d =
    ap (λ (z : ℤ). z +ℤ sub_ℕ c d) (sub_is a b)
    ∙ ap (λ (z : ℤ). pos a +ℤ neg_ℤ (pos b) +ℤ z) (sub_is c d)
    ∙ +ℤ_assoc (pos a) (neg_ℤ (pos b)) (pos c +ℤ neg_ℤ (pos d))
    ∙ ap (λ (z : ℤ). pos a +ℤ z) (sym (+ℤ_assoc (neg_ℤ (pos b)) (pos c) (neg_ℤ (pos d))) ∙ ap (λ (z : ℤ). z +ℤ neg_ℤ (pos d)) (+ℤ_comm (neg_ℤ (pos b)) (pos c))
    ∙ +ℤ_assoc (pos c) (neg_ℤ (pos b)) (neg_ℤ (pos d)))
    ∙ sym (+ℤ_assoc (pos a) (pos c) (neg_ℤ (pos b) +ℤ neg_ℤ (pos d)))
    ∙ ap (λ (z : ℤ). pos (a + c) +ℤ z) (sym (neg_ℤ-+ℤ (pos b) (pos d)))
    ∙ sym (sub_is (a + c) (b + d))

pub sub_eq : (a b c d : ℕ) → a + d ≡ c + b → sub_ℕ a b ≡ sub_ℕ c d
sub_eq a b c d e = go (ltb a b) (ltb→lt a b) (nltb→le a b) (ltb c d) (ltb→lt c d) (nltb→le c d)
  where
    go : (z : Bool) → (T z → a < b) → (T (not z) → b ≤ a) → (w : Bool) → (T w → c < d) → (T (not w) → d ≤ c)
        → cond z (negsuc (b - suc a)) (pos (a - b)) ≡ cond w (negsuc (d - suc c)) (pos (c - d))
    go true h k true i j = let x = h tt in let y = i tt in ap negsuc (omega arith)
    go true h k false i j = absurd (no (h tt) (j tt))
      where
        no : a < b → d ≤ c → ⊥
        no x y = omega arith
    go false h k true i j = absurd (no (k tt) (i tt))
      where
        no : b ≤ a → c < d → ⊥
        no x y = omega arith
    go false h k false i j = let x = k tt in let y = j tt in ap pos (omega arith)

pub two_is_two : (s : Bool) (a : ℕ) (t : Bool) (b : ℕ) (q : Bool) (c : ℕ) (r : Bool) (d : ℕ)
    → pos_part s a + pos_part t b + (neg_part q c + neg_part r d) ≡ pos_part q c + pos_part r d + (neg_part s a + neg_part t b) → signed s a +ℤ signed t b ≡ signed q c +ℤ signed r d
two_is_two s a t b q c r d e =
    ap (λ (z : ℤ). z +ℤ signed t b) (signed_is s a) ∙ ap (λ (z : ℤ). sub_ℕ (pos_part s a) (neg_part s a) +ℤ z) (signed_is t b) ∙ sub_add (pos_part s a) (neg_part s a) (pos_part t b) (neg_part t b)
    ∙ sub_eq (pos_part s a + pos_part t b) (neg_part s a + neg_part t b) (pos_part q c + pos_part r d) (neg_part q c + neg_part r d) e
    ∙ sym (ap (λ (z : ℤ). z +ℤ signed r d) (signed_is q c) ∙ ap (λ (z : ℤ). sub_ℕ (pos_part q c) (neg_part q c) +ℤ z) (signed_is r d)
    ∙ sub_add (pos_part q c) (neg_part q c) (pos_part r d) (neg_part r d))

pub two_is_one : (s : Bool) (a : ℕ) (t : Bool) (b : ℕ) (q : Bool) (c : ℕ) → pos_part s a + pos_part t b + neg_part q c ≡ pos_part q c + (neg_part s a + neg_part t b)
    → signed s a +ℤ signed t b ≡ signed q c
two_is_one s a t b q c e =
    ap (λ (z : ℤ). z +ℤ signed t b) (signed_is s a) ∙ ap (λ (z : ℤ). sub_ℕ (pos_part s a) (neg_part s a) +ℤ z) (signed_is t b) ∙ sub_add (pos_part s a) (neg_part s a) (pos_part t b) (neg_part t b)
    ∙ sub_eq (pos_part s a + pos_part t b) (neg_part s a + neg_part t b) (pos_part q c) (neg_part q c) e
    ∙ sym (signed_is q c)

pub signed_mul : (s : Bool) (a : ℕ) (t : Bool) (b : ℕ) → signed s a *ℤ signed t b ≡ signed (unlike s t) (a * b)
signed_mul false a false b = refl
signed_mul false a true zero = ap pos (mul-zero a) ∙ sym (ap (λ (x : ℕ). neg_ℤ (pos x)) (mul-zero a))
signed_mul false a true (suc b) = refl
signed_mul true zero false b = ap pos (zero-mul b) ∙ sym (ap (λ (x : ℕ). neg_ℤ (pos x)) (zero-mul b))
signed_mul true (suc a) false b = refl
signed_mul true zero true zero = refl
signed_mul true zero true (suc b) = ap (λ (x : ℕ). neg_ℤ (pos x)) (zero-mul (suc b)) ∙ ap pos (sym (zero-mul (suc b)))
signed_mul true (suc a) true zero = ap (λ (x : ℕ). neg_ℤ (pos x)) (mul-zero (suc a)) ∙ ap pos (sym (mul-zero (suc a)))
signed_mul true (suc a) true (suc b) = refl
