-- No refusal has the number of a frame that is not refused. Assumes nothing.
use mathlib.Core.Path.{◌≡◌}
use native.Mathlib.Omega.{arith}
use Rattle.frames.specs.Numbers.{number_of}
use Rattle.frames.specs.declared.Refusal.{Refusal}
use Rattle.frames.specs.declared.Refusal.TheVariants.{TooShort, TooLong, BadVersion, BadKind, BadPayload, BadDirection, BadForm, BadNumber}

pub some_number : (refusal : Refusal) → number_of refusal ≡ 0 → ⊥
some_number TooShort e = omega arith
some_number TooLong e = omega arith
some_number BadVersion e = omega arith
some_number BadKind e = omega arith
some_number BadPayload e = omega arith
some_number BadDirection e = omega arith
some_number BadForm e = omega arith
some_number BadNumber e = omega arith
