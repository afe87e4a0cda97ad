-- The size of a difference of integers, by positive and negative parts. Assumes nothing.
use mathlib.Core.Path.{◌≡◌, sym, ap, ◌∙◌}
use Prim.Native.Nat.{ℕ, suc, ◌+◌, ◌-◌, ◌≤◌, ◌<◌}
use native.Mathlib.Omega.{arith}
use mathlib.Core.Bool.{Bool, true, false, not, cond}
use lib.IntN.{ℤ, pos, negsuc, neg_ℤ, nat_abs, sub_ℕ, ◌+ℤ◌, ◌-ℤ◌, +ℤ_comm, neg_ℤ-+ℤ, neg_ℤ-neg_ℤ}
use lib.Dec.{T, ltb, ltb→lt, nltb→le}
use Rattle.exactness.proofs.Multiples.{distance}
use Rattle.exactness.proofs.Signed.{sub_is, sub_add}

neg_sub : (a b : ℕ) → neg_ℤ (sub_ℕ a b) ≡ sub_ℕ b a
neg_sub a b =
    ap neg_ℤ (sub_is a b) ∙ neg_ℤ-+ℤ (pos a) (neg_ℤ (pos b)) ∙ ap (λ (z : ℤ). neg_ℤ (pos a) +ℤ z) (neg_ℤ-neg_ℤ (pos b)) ∙ +ℤ_comm (neg_ℤ (pos a)) (pos b) ∙ sym (sub_is b a)

abs_sub : (a b : ℕ) → nat_abs (sub_ℕ a b) ≡ distance a b
abs_sub a b = go (ltb a b) (ltb→lt a b) (nltb→le a b)
  where
    go : (z : Bool) → (T z → a < b) → (T (not z) → b ≤ a) → nat_abs (cond z (negsuc (b - suc a)) (pos (a - b))) ≡ distance a b
    go true h k = let l = h tt in omega arith
    go false h k = let l = k tt in omega arith

-- how far P - N is from P' - N'
pub abs_apart : (P N P' N' : ℕ) → nat_abs (sub_ℕ P N -ℤ sub_ℕ P' N') ≡ distance (P + N') (N + P')
abs_apart P N P' N' = ap nat_abs (ap (λ (z : ℤ). sub_ℕ P N +ℤ z) (neg_sub P' N') ∙ sub_add P N N' P') ∙ abs_sub (P + N') (N + P')
