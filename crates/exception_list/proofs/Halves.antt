-- One look at the middle entry of a part of any list comes to what `searched` says. Assumes nothing.
use mathlib.Core.Path.{◌≡◌, refl, ◌∙◌}
use mathlib.Core.Bool.{true, false}
use mathlib.Core.List.{List}
use Prim.Native.Nat.{ℕ, zero, suc, ◌+◌, ◌-◌, ◌<◌, ◌≤◌}
use native.Mathlib.Omega.{arith}
use borrow.Author.Tests.{lt-ltb, le-ltb}
use lib.Ieee.{Float, eq, lt}
use Rattle.std.specs.Prelude.{Option, Some, None}
use Rattle.exceptions.specs.declared.Entry.{Entry}
use Rattle.exceptions.specs.Lookup.{reply_of, nth}
use Rattle.exception_list.specs.Search.{middle, searched}

module _ (list : List Entry) (first past : ℕ) (x : Float) where
  pub none : (k : ℕ) → past ≤ first → None ≡ searched k list first past x
  unfolding searched
  none zero h = refl
  none (suc k) h = rw (le-ltb first past h) refl

  pub hit : (k : ℕ) → past - first ≤ k → first < past → eq x (nth list (middle first past)).x ≡ true
      → Some (reply_of (nth list (middle first past))) ≡ searched k list first past x
  unfolding searched
  hit zero n h e = absurd (omega arith)
  hit (suc k) n h e = rw (lt-ltb first past h, e) refl

  pub left : {r : Option Float} (k : ℕ) → past - first ≤ k → first < past → eq x (nth list (middle first past)).x ≡ false → lt x (nth list (middle first past)).x ≡ true
      → ((j : ℕ) → middle first past - first ≤ j → r ≡ searched j list first (middle first past) x) → r ≡ searched k list first past x
  unfolding searched
  left zero n h d e go = absurd (omega arith)
  left (suc k) n h d e go = go k (omega arith) ∙ rw (lt-ltb first past h, d, e) refl

  pub right : {r : Option Float} (k : ℕ) → past - first ≤ k → first < past → eq x (nth list (middle first past)).x ≡ false → lt x (nth list (middle first past)).x ≡ false
      → ((j : ℕ) → past - (middle first past + 1) ≤ j → r ≡ searched j list (middle first past + 1) past x) → r ≡ searched k list first past x
  unfolding searched
  right zero n h d e go = absurd (omega arith)
  right (suc k) n h d e go = go k (omega arith) ∙ rw (lt-ltb first past h, d, e) refl
