-- One look at the middle entry of a part of the table, as the search makes it: Halving, for the table. Assumes nothing.
use mathlib.Core.Path.{◌≡◌, ap, ◌∙◌, subst}
use mathlib.Core.Bool.{true, false}
use mathlib.Core.List.{List}
use Prim.Native.Nat.{ℕ, ◌+◌, ◌-◌, ◌*◌, ◌/◌, ◌<◌, ◌≤◌}
use native.Mathlib.Omega.{arith}
use lib.ListN.{get_or}
use lib.Ieee.{Float, nan, binary64, add, eq, lt}
use Rattle.exceptions.specs.Table.{exceptions}
use Rattle.std.specs.Prelude.{Option, Some}
use Rattle.exceptions.specs.Lookup.{entry_at, Part}
use Rattle.exceptions.proofs.Ascent.{ascending, end_le}
use Rattle.exceptions.proofs.Scan.{scan}
use Rattle.exceptions.proofs.Halving as halving
use Rattle.exceptions.proofs.Halving.{Rising}

abbrev pub middle : ℕ → ℕ → ℕ
middle first past = first + (past - first) / 2

rising : {first past : ℕ} → Part first past → Rising entry_at first past
rising S =
    let a = S.from in
    let b = S.upto in
    record {
      finite_at = λ i p q. ascending.finite_at S.of i (omega arith) (omega arith);
      rises = λ i j p q r. ascending.ascends S.of i j (omega arith) q (omega arith);
    }

module _ (table : List Float) (E : table ≡ exceptions) (first past : ℕ) (x : Float) (S : Part first past) (h : first < past) where
  pub hit_at : eq x (get_or table (middle first past * 3) nan) ≡ true
      → Some (add binary64 (get_or table (middle first past * 3 + 1) nan) (get_or table (middle first past * 3 + 2) nan)) ≡ scan entry_at first (past - first) x
  unfolding entry_at
  hit_at e =
      ap (λ (t : List Float). Some (add binary64 (get_or t (middle first past * 3 + 1) nan) (get_or t (middle first past * 3 + 2) nan))) E
      ∙ halving.hit_at entry_at first past (rising S) x (middle first past) (omega arith) (omega arith) (subst (λ (t : List Float). eq x (get_or t (middle first past * 3) nan) ≡ true) E e)

  pub left_at : {r : Option Float} → lt x (get_or table (middle first past * 3) nan) ≡ true → r ≡ scan entry_at first (middle first past - first) x → r ≡ scan entry_at first (past - first) x
  unfolding entry_at
  left_at e r = r ∙ halving.left_at entry_at first past (rising S) x (middle first past) (omega arith) (omega arith) (subst (λ (t : List Float). lt x (get_or t (middle first past * 3) nan) ≡ true) E e)

  pub right_at : {r : Option Float} → eq x (get_or table (middle first past * 3) nan) ≡ false → lt x (get_or table (middle first past * 3) nan) ≡ false
      → r ≡ scan entry_at (middle first past + 1) (past - (middle first past + 1)) x → r ≡ scan entry_at first (past - first) x
  unfolding entry_at
  right_at d e r =
      r
      ∙ halving.right_at entry_at first past (rising S) x (middle first past) (omega arith) (omega arith)
      (subst (λ (t : List Float). eq x (get_or t (middle first past * 3) nan) ≡ false) E d)
      (subst (λ (t : List Float). lt x (get_or t (middle first past * 3) nan) ≡ false) E e)

pub narrow : {first past : ℕ} (first' past' : ℕ) → first ≤ first' → past' ≤ past → Part first past → Part first' past'
narrow first' past' p q S = let a = S.from in let b = S.upto in record { of = S.of; from = omega arith; upto = omega arith }

pub part_end : {first past : ℕ} → Part first past → past ≤ 208
part_end S = let a = S.upto in let b = end_le S.of in omega arith
