-- The computed reply of specs/Screening.antt is what Screens says, and no other is. Assumes nothing.
use Prim.Native.Nat.{ℕ, zero, suc, ◌+◌, ◌-◌, ◌/◌}
use mathlib.Core.Path.{◌≡◌, refl, sym, ap, ◌∙◌}
use mathlib.Core.List.{List}
use mathlib.Core.Bool.{Bool, true, false, cond}
use native.Mathlib.Omega.{arith}
use lib.ListN.{length}
use Rattle.screening.proofs.Found.{found}
use Rattle.screening.specs.Screening.{bad_weights, first_nan, screened, NoneBefore, Screens, Settles}
use Rattle.std.specs.Prelude.{Option, Some, None, Result, Ok, Err}

-- where none is before the place i, the search of all weights is the search from i on
passed : (p : List ℕ) (i n : ℕ) → i + n ≡ length p / 8 → NoneBefore p i → first_nan p 0 (length p / 8) ≡ first_nan p i n
passed p zero n e none = ap (first_nan p 0) {x = length p / 8} {y = n} (omega arith)
passed p (suc i) n e none =
    passed p i (suc n) (omega arith) (λ k h. none k (omega arith))
    ∙ ap (λ (b : Bool). cond b (Some i) (first_nan p (suc i) n)) (none i (omega arith))

-- refusal 5, or a search from the front
abbrev reply_for : List ℕ → Bool → Result (Option ℕ) ℕ
reply_for p bad = cond bad (Err 5) (Ok (first_nan p 0 (length p / 8)))

screens : (p : List ℕ) (bad : Bool) → bad_weights p ≡ bad → Screens p (reply_for p bad)
screens p true h = (refl, h)
screens p false h = found p 0 (length p / 8) h (omega arith) (λ k l. absurd (omega arith))

only : (p : List ℕ) (r : Result (Option ℕ) ℕ) → Screens p r → r ≡ reply_for p (bad_weights p)
only p (Err n) s = ap Err s.0 ∙ sym (ap (reply_for p) s.1)
only p (Ok None) s = sym (ap (reply_for p) s.0 ∙ ap Ok (passed p (length p / 8) 0 (omega arith) s.1))
only p (Ok (Some i)) s =
    let rest = length p / 8 - suc i in
    sym
    (ap (reply_for p) s.0
    ∙ ap Ok (passed p i (suc rest) (omega arith) s.3)
    ∙ ap (λ (b : Bool). Ok (cond b (Some i) (first_nan p (suc i) rest))) s.2)

pub settles : (p : List ℕ) → Settles p
unfolding screened
settles p = record { screens = screens p (bad_weights p) refl; only = only p }
