-- When `exactly` replies with a pattern: just where num / den is q * 2 ^ k units, as a finite binary64 has them. Assumes nothing.
use mathlib.Core.Path.{◌≡◌, refl, sym, ap, ◌∙◌}
use mathlib.Core.Logic.{◌⊎◌, inl, inr, ⊎_elim}
use mathlib.Core.Bool.{Bool, true, false, ◌&&◌, cond}
use Prim.Native.Nat.{ℕ, zero, suc, ◌+◌, ◌-◌, ◌*◌, ◌/◌, ◌^◌, ◌≤◌, ◌<◌}
use native.Mathlib.Nat.{le_trans, le_of_eq, le_antisymm, div-eq_of_eq-mul_left, mul-le-mul_right, le-div_iff_mul-le}
use native.Mathlib.Omega.{arith}
use lib.Dec.{leb, eqb}
use lib.Pow.{pow-add, pow_pos, shl_lt, shr_lt, shl-shr}
use borrow.Author.Tests.{eq-eqb, le-leb, eqb-true, leb-true}
use Rattle.std.specs.Prelude.{Result, Ok, Err}
use Rattle.rounding.specs.Machine.{sign_bit}
use Rattle.exactness.proofs.Precision.{dropped, dropped_lt, dropped_le, dropped_full, dropped_ge}
use Rattle.constant.specs.Constant.{reply_with, exactly}

-- num / den is q * 2 ^ k units of 2 ^ -1074, and a finite binary64
pub record Finite (num den q k : ℕ) : Type 0 where
  pub small : q < 2 ^ 53
  pub kept : (k ≡ 0) ⊎ (2 ^ 52 ≤ q)
  pub most : k ≤ 2045
  pub is : num * 2 ^ 1074 ≡ q * 2 ^ k * den

-- by the digits that are dropped
exactly_is : (s : Bool) (num den : ℕ) → exactly s num den ≡ reply_with s (num * 2 ^ 1074) den (dropped 53 (num * 2 ^ 1074 / den)) (num * 2 ^ 1074 / den / 2 ^ dropped 53 (num * 2 ^ 1074 / den))
unfolding exactly
exactly_is s num den = refl

digits : (q k : ℕ) → q < 2 ^ 53 → (k ≡ 0) ⊎ (2 ^ 52 ≤ q) → dropped 53 (q * 2 ^ k) ≡ k
digits q k h kept = le_antisymm (dropped_le 53 (q * 2 ^ k) k (shl_lt 53 k h)) (⊎_elim none full kept)
  where
    none : k ≡ 0 → k ≤ dropped 53 (q * 2 ^ k)
    none e = omega arith

    less : (k : ℕ) → 53 + k - 1 ≡ 52 + k
    less k = omega arith

    full : 2 ^ 52 ≤ q → k ≤ dropped 53 (q * 2 ^ k)
    full l = dropped_ge 53 (q * 2 ^ k) k (omega arith) (le_trans (le_of_eq (ap (λ (x : ℕ). 2 ^ x) (less k) ∙ pow-add 2 52 k)) (mul-le-mul_right (2 ^ k) l))

tried : (s : Bool) (n den k q : ℕ) → ((q * 2 ^ k * den ≡ n) × (k ≤ 2045) × (reply_with s n den k q ≡ Ok (sign_bit s + (k * 0x10000000000000 + q)))) ⊎ (reply_with s n den k q ≡ Err 10)
unfolding reply_with
tried s n den k q = go (eqb (q * 2 ^ k * den) n) (leb k 2045) refl refl
  where
    go : (a b : Bool) → eqb (q * 2 ^ k * den) n ≡ a → leb k 2045 ≡ b → let r : Result ℕ ℕ = cond (a && b) (Ok (sign_bit s + (k * 0x10000000000000 + q))) (Err 10) in ((q * 2 ^ k * den ≡ n) × (k ≤ 2045) × (r ≡ Ok (sign_bit s + (k * 0x10000000000000 + q)))) ⊎ (r ≡ Err 10)
    go true true e l = inl (eqb-true (q * 2 ^ k * den) n e, leb-true k 2045 l, refl)
    go true false e l = inr refl
    go false true e l = inr refl
    go false false e l = inr refl

pub exactly_bits : (s : Bool) (num den q k : ℕ) → 0 < den → Finite num den q k → exactly s num den ≡ Ok (sign_bit s + (k * 0x10000000000000 + q))
unfolding reply_with
exactly_bits s num den q k D f =
    let n = num * 2 ^ 1074 in
    let e : n / den ≡ q * 2 ^ k = div-eq_of_eq-mul_left D f.is in
    exactly_is s num den
    ∙ ap (λ (x : ℕ). reply_with s n den (dropped 53 x) (x / 2 ^ dropped 53 x)) e
    ∙ ap (λ (x : ℕ). reply_with s n den x (q * 2 ^ k / 2 ^ x)) (digits q k f.small f.kept)
    ∙ ap (reply_with s n den k) (shl-shr q k)
    ∙ ap (λ (t : Bool). cond (t && leb k 2045) (Ok (sign_bit s + (k * 0x10000000000000 + q))) (Err 10)) (eq-eqb (q * 2 ^ k * den) n (sym f.is))
    ∙ ap (λ (t : Bool). cond t (Ok (sign_bit s + (k * 0x10000000000000 + q))) (Err 10)) (le-leb k 2045 f.most)

-- what is left of a number, when all but 53 digits are dropped
kept : (a : ℕ) → (dropped 53 a ≡ 0) ⊎ (2 ^ 52 ≤ a / 2 ^ dropped 53 a)
kept a = go (dropped 53 a) refl
  where
    more : (j : ℕ) → 52 + suc j ≡ 53 + j
    more j = omega arith

    go : (k : ℕ) → dropped 53 a ≡ k → (dropped 53 a ≡ 0) ⊎ (2 ^ 52 ≤ a / 2 ^ dropped 53 a)
    go zero e = inl e
    go (suc j) e =
        inr ((le-div_iff_mul-le (pow_pos (dropped 53 a))).1
        (le_trans (le_of_eq (ap (λ (x : ℕ). 2 ^ 52 * 2 ^ x) e ∙ sym (pow-add 2 52 (suc j)) ∙ ap (λ (x : ℕ). 2 ^ x) (more j))) (dropped_full 53 a j (le_of_eq (sym e)))))

-- what `exactly` replies
pub data Outcome (s : Bool) (num den : ℕ) : Type 0 where
  float : (q k : ℕ) → Finite num den q k → exactly s num den ≡ Ok (sign_bit s + (k * 0x10000000000000 + q)) → Outcome s num den
  none : ((q k : ℕ) → Finite num den q k → ⊥) → exactly s num den ≡ Err 10 → Outcome s num den

pub outcome : (s : Bool) (num den : ℕ) → 0 < den → Outcome s num den
outcome s num den D = ⊎_elim found lacking (tried s (num * 2 ^ 1074) den k q)
  where
    k : ℕ
    k = dropped 53 (num * 2 ^ 1074 / den)

    q : ℕ
    q = num * 2 ^ 1074 / den / 2 ^ k

    found : (q * 2 ^ k * den ≡ num * 2 ^ 1074) × (k ≤ 2045) × (reply_with s (num * 2 ^ 1074) den k q ≡ Ok (sign_bit s + (k * 0x10000000000000 + q))) → Outcome s num den
    found h = float q k (record { small = shr_lt 53 k (dropped_lt 53 (num * 2 ^ 1074 / den)); kept = kept (num * 2 ^ 1074 / den); most = h.1; is = sym h.0 }) (exactly_is s num den ∙ h.2)

    lacking : reply_with s (num * 2 ^ 1074) den k q ≡ Err 10 → Outcome s num den
    lacking h = none (λ j i f. differ _ _ (sym (exactly_bits s num den j i D f) ∙ exactly_is s num den ∙ h)) (exactly_is s num den ∙ h)
      where
        differ : (b c : ℕ) → (let r : Result ℕ ℕ = Ok b in r ≡ Err c) → ⊥
        differ b c e = cc

pub exactly_none : (s : Bool) (num den : ℕ) → 0 < den → ((q k : ℕ) → Finite num den q k → ⊥) → exactly s num den ≡ Err 10
exactly_none s num den D h = go (outcome s num den D)
  where
    go : Outcome s num den → exactly s num den ≡ Err 10
    go (float q k f e) = absurd (h q k f)
    go (none n e) = e
