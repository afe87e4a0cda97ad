-- What the program does with one piece that it read. Definitions only.
use Rattle.std.specs.Prelude.{◌≡◌, List, true, ℕ}
use Rattle.service.specs.Service.{is_good}
use Rattle.service.specs.declared.State.{State}
use Rattle.delivery.specs.Handed.{handed_to_end}

-- where the output took all answers: the piece was handed on to its end, and the state t after it is good
pub record Serves (s : State) (piece before : List ℕ) (t : State) (after : List ℕ) : Type 0 where
  pub good : is_good t ≡ true
  pub state : t ≡ (handed_to_end s piece before).state
  pub buffer : after ≡ (handed_to_end s piece before).buffer
