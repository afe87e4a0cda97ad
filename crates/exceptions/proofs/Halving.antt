-- What one look at the entry m says of the search through a part of a sequence whose x rise: x is found there, or the search through one half finds what the search through both does. Assumes nothing.
use mathlib.Core.Path.{◌≡◌, sym, subst}
use mathlib.Core.Bool.{Bool, true, false, not}
use mathlib.Core.Logic.{inl, inr}
use Prim.Native.Nat.{ℕ, suc, ◌+◌, ◌-◌, ◌<◌, ◌≤◌}
use native.Mathlib.Nat.{eq-or-lt_of_le}
use native.Mathlib.Omega.{arith}
use lib.Dec.{T}
use lib.Ieee.{Float, eq, lt}
use lib.Ieee.Scale.{finite}
use Rattle.exceptions.specs.declared.Entry.{Entry}
use Rattle.std.specs.Prelude.{Some, None}
use Rattle.exceptions.specs.Lookup.{reply_of}
use Rattle.exceptions.proofs.Order.{miss_below, miss_above, miss_at, hit_not_below}
use Rattle.exceptions.proofs.Scan.{scan, none, skip, cut, hit}

yes : {b : Bool} → b ≡ true → T b
yes e = subst T (sym e) tt

nay : {b : Bool} → b ≡ false → T (not b)
nay e = subst (λ (b : Bool). T (not b)) (sym e) tt

never : (b : Bool) → b ≡ false → T b → ⊥
never b e t = subst T e t

-- the x from the entry first up to past - 1 are finite and rise
pub record Rising (entry : ℕ → Entry) (first past : ℕ) : Type 0 where
  pub finite_at : (i : ℕ) → first ≤ i → i < past → T (finite (entry i).x)
  pub rises : (i j : ℕ) → first ≤ i → i < j → j < past → T (lt (entry i).x (entry j).x)

module _ (entry : ℕ → Entry) (first past : ℕ) (R : Rising entry first past) (x : Float) (m : ℕ) (a : first ≤ m) (b : m < past) where
  finite_m : T (finite (entry m).x)
  finite_m = R.finite_at m a b

  pub hit_at : eq x (entry m).x ≡ true → Some (reply_of (entry m)) ≡ scan entry first (past - first) x
  hit_at e =
      sym (hit entry x (m - first) (past - suc m) (past - first) first m (omega arith) (omega arith)
      (λ j p q. miss_below x (entry j).x (entry m).x (R.finite_at j p (omega arith)) finite_m (R.rises j m p q b) (hit_not_below x (entry m).x finite_m (yes e))) e)

  pub left_at : lt x (entry m).x ≡ true → scan entry first (m - first) x ≡ scan entry first (past - first) x
  left_at e =
      sym (cut entry x (m - first) (past - first) first (omega arith)
      (λ j p q.
      let p' : m ≤ j = omega arith in
      elim (eq-or-lt_of_le p') [
        | inl o ↦ subst (λ (i : ℕ). T (eq x (entry i).x) → ⊥) o (miss_at x (entry m).x finite_m (yes e))
        | inr o ↦ miss_above x (entry j).x (entry m).x (R.finite_at j (omega arith) (omega arith)) finite_m (R.rises m j a o (omega arith)) (yes e)
      ]))

  pub right_at : eq x (entry m).x ≡ false → lt x (entry m).x ≡ false → scan entry (m + 1) (past - (m + 1)) x ≡ scan entry first (past - first) x
  right_at d e =
      sym (skip entry x (m + 1 - first) (past - (m + 1)) (past - first) first (m + 1) (omega arith) (omega arith)
      (λ j p q.
      let q' : j ≤ m = omega arith in
      elim (eq-or-lt_of_le q') [
        | inl o ↦ subst (λ (i : ℕ). T (eq x (entry i).x) → ⊥) (sym o) (never (eq x (entry m).x) d)
        | inr o ↦ miss_below x (entry j).x (entry m).x (R.finite_at j p (omega arith)) finite_m (R.rises j m p o b) (nay e)
      ]))

pub empty : (entry : ℕ → Entry) (first past : ℕ) (x : Float) → past ≤ first → None ≡ scan entry first (past - first) x
empty entry first past x h = sym (none entry x (past - first) first (λ j p q. absurd (let z : ⊥ = omega arith in z)))
