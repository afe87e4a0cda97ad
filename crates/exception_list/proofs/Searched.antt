-- One look at the middle entry of a part of a good list, as the search makes it: exceptions' Halving, for the list; and the part that is the whole list. Assumes nothing.
use mathlib.Core.Path.{◌≡◌, refl, ◌∙◌, ap}
use mathlib.Core.Bool.{true, false}
use mathlib.Core.List.{List, [], ◌∷◌}
use Prim.Native.Nat.{ℕ, zero, suc, ◌+◌, ◌-◌, ◌/◌, ◌<◌, ◌≤◌}
use native.Mathlib.Nat.{sub-zero}
use native.Mathlib.Omega.{arith}
use lib.ListN.{length}
use lib.Ieee.{Float, eq, lt}
use Rattle.std.specs.Prelude.{Option, Some}
use Rattle.exceptions.specs.declared.Entry.{Entry}
use Rattle.exceptions.specs.Lookup.{reply_of, find, nth, entries_from}
use Rattle.exceptions.proofs.Halving as halving
use Rattle.exceptions.proofs.Halving.{Rising}
use Rattle.exceptions.proofs.Scan.{scan}
use Rattle.exception_list.specs.List.{refusal_of}
use Rattle.exception_list.specs.Search.{middle}
use Rattle.exception_list.proofs.Rises.{rising}

part : (list : List Entry) (first past : ℕ) → past ≤ length list → refusal_of list ≡ 0 → Rising (nth list) first past
part list first past k good =
    let R = rising list good in
    record { finite_at = λ i p q. R.finite_at i (omega arith) (omega arith); rises = λ i j p q r. R.rises i j (omega arith) q (omega arith) }

module _ (list : List Entry) (first past : ℕ) (x : Float) (k : past ≤ length list) (h : first < past) where
  pub hit_at : eq x (nth list (middle first past)).x ≡ true → refusal_of list ≡ 0 → Some (reply_of (nth list (middle first past))) ≡ scan (nth list) first (past - first) x
  hit_at e good = halving.hit_at (nth list) first past (part list first past k good) x (middle first past) (omega arith) (omega arith) e

  pub left_at : {r : Option Float} → lt x (nth list (middle first past)).x ≡ true → (refusal_of list ≡ 0 → r ≡ scan (nth list) first (middle first past - first) x)
      → refusal_of list ≡ 0 → r ≡ scan (nth list) first (past - first) x
  left_at e r good = r good ∙ halving.left_at (nth list) first past (part list first past k good) x (middle first past) (omega arith) (omega arith) e

  pub right_at : {r : Option Float} → eq x (nth list (middle first past)).x ≡ false → lt x (nth list (middle first past)).x ≡ false
      → (refusal_of list ≡ 0 → r ≡ scan (nth list) (middle first past + 1) (past - (middle first past + 1)) x) → refusal_of list ≡ 0 → r ≡ scan (nth list) first (past - first) x
  right_at d e r good = r good ∙ halving.right_at (nth list) first past (part list first past k good) x (middle first past) (omega arith) (omega arith) d e

shifted : (e : Entry) (es : List Entry) (i n : ℕ) → entries_from (nth (e ∷ es)) (suc i) n ≡ entries_from (nth es) i n
unfolding entries_from
shifted e es i zero = refl
shifted e es i (suc n) = ap (λ (l : List Entry). nth es i ∷ l) (shifted e es (suc i) n)

all : (list : List Entry) → entries_from (nth list) 0 (length list) ≡ list
unfolding entries_from
all [] = refl
all (e ∷ es) = ap (λ (l : List Entry). e ∷ l) (shifted e es 0 (length es) ∙ all es)

pub from_first : (list : List Entry) (x : Float) → find (entries_from (nth list) 0 (length list - 0)) x ≡ find list x
from_first list x = ap (λ (n : ℕ). find (entries_from (nth list) 0 n) x) (sub-zero (length list)) ∙ ap (λ (l : List Entry). find l x) (all list)
