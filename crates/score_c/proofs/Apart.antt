-- A refusal can be told from a score, since its number is not 0; and that at an empty list and at one that is refused. Assumes nothing.
use Prim.Native.Nat.{ℕ, zero, suc}
use mathlib.Core.Path.{◌≡◌, refl, subst}
use mathlib.Core.Bool.{cond}
use mathlib.Core.List.{[], ◌∷◌}
use native.Mathlib.Omega.{arith}
use lib.Dec.{eqb, eqb-suc-zero}
use lib.Ieee.{nan}
use Rattle.std.specs.Prelude.{Result, Ok, Err}
use Rattle.reply.specs.Told.{number, Apart}
use Rattle.exception_list.specs.List.{is_good, all_good, ascending, refusal_of}
use Rattle.exp2m1.specs.Score.{score_with}
use Rattle.score_with.specs.Score.{scored_with}
use Rattle.score_c.specs.Told.{TellsApart}

apart : (n b : ℕ) → Apart (cond (eqb n 0) (Ok b) (Err n))
apart zero b e = (b, refl)
apart (suc n) b e = absurd (nonzero (subst (λ (t : Result ℕ ℕ). number t ≡ 0) refused e))
  where
    refused : cond (eqb (suc n) 0) (Ok b) (Err (suc n)) ≡ Err (suc n)
    refused = rw (eqb-suc-zero n)

    nonzero : suc n ≡ 0 → ⊥
    nonzero h = omega arith

pub tells_apart : TellsApart
unfolding scored_with
tells_apart list x = apart (refusal_of list) (score_with list x)

pub told : (b : ℕ) × (scored_with [] 0 ≡ Ok b)
unfolding scored_with refusal_of all_good ascending
told = tells_apart [] 0 refl

pub refused : number (scored_with (record { x = nan; hi = nan; lo = nan } ∷ []) 0) ≡ 13
unfolding scored_with refusal_of all_good ascending is_good
refused = refl
