-- hand_on, repeated on a piece's unused end until nothing is left. Definitions only.
use Rattle.std.specs.Prelude.{ℕ, zero, suc, List, [], ◌∷◌, ◌++◌, length, take, drop}
use Rattle.service.specs.Book.{Reply}
use Rattle.service.specs.declared.State.{State}
use Rattle.delivery.specs.Delivery.{hand_on}

-- the answers that a call left at the buffer's front
abbrev pub front : Reply → List ℕ
front r = take r.len r.buffer

-- the answers one after another, and after it the state, the buffer and what is left of the piece
pub record Handed : Type 0 where
  pub answers : List ℕ
  pub state : State
  pub buffer : List ℕ
  pub left : List ℕ

abbrev pub behind : List ℕ → Handed → Handed
behind answers h = record { answers = answers ++ h.answers; state = h.state; buffer = h.buffer; left = h.left }

-- at most n times
abbrev pub handed : ℕ → State → List ℕ → List ℕ → Handed
handed zero s piece buffer = record { answers = []; state = s; buffer = buffer; left = piece }
handed (suc n) s [] buffer = record { answers = []; state = s; buffer = buffer; left = [] }
handed (suc n) s (x ∷ piece) buffer =
    let r = hand_on s (x ∷ piece) buffer in
    behind (front r) (handed n r.state (drop r.used (x ∷ piece)) r.buffer)

-- as often as the piece has bytes
abbrev pub handed_to_end : State → List ℕ → List ℕ → Handed
handed_to_end s piece buffer = handed (length piece) s piece buffer
