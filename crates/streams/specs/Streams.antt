-- Demand 3 for pieces that hand_on hands on, and for whole streams. proofs/Streams.antt proves it. Definitions only.
use Rattle.std.specs.Prelude.{ℕ, ◌+◌, ◌*◌, ◌≤◌, ◌<◌, ◌≡◌, false, length, take}
use mathlib.Core.List.{List, [], ◌∷◌, ◌++◌, map, flatten}
use Rattle.frames.specs.Frame.{answer_room}
use Rattle.service.specs.Book.{empty_book, Call, is_small}
use Rattle.service.specs.Service.{fresh_state, close_of, state_after}
use Rattle.demands.specs.Stream.{byte, closing, joined, parted, answers_from, written}
use Rattle.demands.specs.Demands.{run, book_after, handed_on, AllLarge}
use Rattle.service.specs.declared.State.{State}
use Rattle.delivery.specs.Delivery.{hand_on}
use Rattle.delivery.specs.Handed.{front, handed_to_end}

-- What the program writes: the answers to each piece that it reads, handed on to its end with one buffer, and then what close answers
-- into another.
abbrev pub output_of : State → List (List ℕ) → List ℕ → List ℕ → List ℕ
output_of s [] buffer last = front (close_of s last)
output_of s (piece ∷ pieces) buffer last =
    let h = handed_to_end s piece buffer in
    h.answers ++ output_of h.state pieces h.buffer last

-- ---- the statement

-- the calls cs, and then a piece handed on by takes with these buffers
abbrev pub handed_after : List Call → List ℕ → List (List ℕ) → List Call
handed_after cs piece buffers = cs ++ handed_on (book_after empty_book cs) piece buffers

-- After the calls cs, so many bytes of a piece were handed on by takes with buffers that are large enough: these takes have the same
-- answers and leave the same state.
pub record ByTakes (cs : List Call) (piece : List ℕ) (used : ℕ) (answers : List ℕ) (state : State) : Type 0 where
  pub buffers : List (List ℕ)
  pub large : AllLarge buffers
  pub moves : joined (handed_after cs piece buffers) ≡ joined cs ++ map byte (take used piece)
  pub writes : flatten (written (run (handed_after cs piece buffers))) ≡ flatten (written (run cs)) ++ answers
  pub leaves : state_after fresh_state (handed_after cs piece buffers) ≡ state

-- for every list of calls from a fresh service, every piece, and every buffer that 6 does not refuse
pub record Streams : Type 0 where
  pub takes : (cs : List Call) (piece buffer : List ℕ) → is_small buffer ≡ false
      → let r = hand_on (state_after fresh_state cs) piece buffer in ByTakes cs piece r.used (front r) r.state
  -- one call stops before the piece's end only where it leaves no room for an answer
  pub stops : (cs : List Call) (piece buffer : List ℕ) → is_small buffer ≡ false
      → let r = hand_on (state_after fresh_state cs) piece buffer in r.used < length piece → length buffer < r.len + answer_room
  -- so one call hands on the whole piece where the buffer has seven times its length, as a report has of its frame, and room for two answers
  pub once : (cs : List Call) (piece buffer : List ℕ) → 7 * length piece + 2 * answer_room ≤ length buffer → (hand_on (state_after fresh_state cs) piece buffer).used ≡ length piece
  -- repeated, it hands on the whole piece
  pub whole : (cs : List Call) (piece buffer : List ℕ) → is_small buffer ≡ false
      → let h = handed_to_end (state_after fresh_state cs) piece buffer in (h.left ≡ []) × ByTakes cs piece (length piece) h.answers h.state
  -- the program's output is, in order, the answers to the frames of the bytes that it read, and to their unfinished end
  pub output : (pieces : List (List ℕ)) (buffer last : List ℕ) → is_small buffer ≡ false → is_small last ≡ false
      → output_of fresh_state pieces buffer last ≡ flatten (answers_from empty_book.memory (parted (map byte (flatten pieces) ++ (closing ∷ []))).points)
