-- The refusals of src/ by the document's numbers, and what refuses a call before anything else. Definitions only.
use Rattle.std.specs.Prelude.{ℕ, Result, Ok, Err, cond, ltb}
use Rattle.frames.specs.Frame.{answer_room}
use Rattle.service.specs.Service.{is_good}
use Rattle.service.specs.declared.State.{State}
use Rattle.service.specs.declared.Refusal.{Refusal}
use Rattle.service.specs.declared.Refusal.TheVariants.{SmallBuffer, BadState, Unfinished}

abbrev pub number_of : Refusal → ℕ
number_of SmallBuffer = 6
number_of BadState = 7
number_of Unfinished = 8

-- a small buffer, then a bad state
abbrev pub checked : State → ℕ → Result Unit Refusal
checked s room = cond (ltb room answer_room) (Err SmallBuffer) (cond (is_good s) (Ok tt) (Err BadState))
