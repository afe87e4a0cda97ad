-- What a search from a place on finds, where none is before, is what Screens says. Assumes nothing.
use Prim.Native.Nat.{ℕ, zero, suc, ◌+◌, ◌/◌}
use mathlib.Core.Path.{◌≡◌, refl}
use mathlib.Core.List.{List}
use mathlib.Core.Bool.{Bool, true, false, cond}
use native.Mathlib.Omega.{arith}
use borrow.Author.Count.{below_more}
use lib.ListN.{length}
use Rattle.screening.specs.Screening.{bad_weights, is_nan, weight_at, first_nan, NoneBefore, Screens}
use Rattle.std.specs.Prelude.{Some, Ok}

pub found : (p : List ℕ) (i n : ℕ) → bad_weights p ≡ false → i + n ≡ length p / 8 → NoneBefore p i → Screens p (Ok (first_nan p i n))
found p i zero good e none = (good, λ k h. none k (omega arith))
found p i (suc n) good e none = held (is_nan (weight_at p i)) refl (λ h. found p (suc i) n good (omega arith) (λ k l. below_more _ _ none h k (omega arith))) where
  held : (b : Bool) → is_nan (weight_at p i) ≡ b → (is_nan (weight_at p i) ≡ false → Screens p (Ok (first_nan p (suc i) n))) → Screens p (Ok (cond b (Some i) (first_nan p (suc i) n)))
  held true h next = (good, omega arith, h, none)
  held false h next = next h
