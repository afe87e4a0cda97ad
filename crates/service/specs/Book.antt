-- The plain book (document 01): it is fed the calls with their pieces and buffers, and sees no state. What it remembers of its answers is in
-- crates/memory/specs/Memory.antt. Definitions only.
use Rattle.std.specs.Prelude.{ℕ, suc, List, [], ◌∷◌, ◌++◌, Bool, cond, length, drop, ltb}
use Rattle.frames.specs.Frame.{answer_room, whole, refusal_frame}
use Rattle.answers.specs.Answers.{Answer}
use Rattle.partial_frame.specs.State.{frame_of}
use Rattle.partial_frame.specs.declared.PartialFrame.{PartialFrame}
use Rattle.memory.specs.Memory.{Memory, start_memory, view_of, answer_with, remembered}
use Rattle.memory.specs.declared.View.{View}
use Rattle.service.specs.declared.State.{State}

pub data Call : Type 0 where
  Take : (piece buffer : List ℕ) → Call
  Close : (buffer : List ℕ) → Call

-- the bytes that it holds, and what it remembers
pub record Book : Type 0 where
  pub held : List ℕ
  pub memory : Memory

abbrev pub emptied : Memory → Book
emptied m = record { held = []; memory = m }

abbrev pub empty_book : Book
empty_book = emptied start_memory

-- what it gives for one call, and the book after it
pub record Entry : Type 0 where
  pub used : ℕ
  pub answer : List ℕ
  pub number : ℕ
  pub book : Book

-- ---- take

-- bytes are moved from the piece's front, one by one, until the book holds a whole frame or the piece is used up
pub record Moved : Type 0 where
  pub held : List ℕ
  pub used : ℕ

abbrev pub one_more : Moved → Moved
one_more m = record { held = m.held; used = suc m.used }

abbrev pub move : List ℕ → List ℕ → Moved
move held [] = record { held = held; used = 0 }
move held (b ∷ piece) =
    cond (whole (held ++ (b ∷ [])))
    (record { held = held ++ (b ∷ []); used = 1 })
    (one_more (move (held ++ (b ∷ [])) piece))

-- a whole frame is answered and the book emptied
abbrev pub answered_by : Answer → ℕ → List ℕ → Memory → Entry
answered_by a used f m = record { used = used; answer = a.bytes; number = a.number; book = emptied (remembered f a m) }

abbrev pub answered : Moved → Memory → Entry
answered m c = answered_by (answer_with (view_of c) m.held) m.used m.held c

-- with no whole frame, answer length and number are 0
abbrev pub waiting : Moved → Memory → Entry
waiting m c = record { used = m.used; answer = []; number = 0; book = record { held = m.held; memory = c } }

abbrev pub settled : Moved → Memory → Entry
settled m c = cond (whole m.held) (answered m c) (waiting m c)

abbrev pub book_take : Book → List ℕ → Entry
book_take b piece = settled (move b.held piece) b.memory

-- ---- close

-- refusal 8 if the book holds a byte; then it is empty
abbrev pub closed_with : List ℕ → Memory → Entry
closed_with [] m = record { used = 0; answer = []; number = 0; book = emptied m }
closed_with (b ∷ held) m = record { used = 0; answer = refusal_frame 8; number = 8; book = emptied m }

abbrev pub book_close : Book → Entry
book_close b = closed_with b.held b.memory

-- ---- every call

abbrev pub is_small : List ℕ → Bool
is_small buffer = ltb (length buffer) answer_room

-- refusal 6: nothing changes
abbrev pub refused6 : Book → Entry
refused6 b = record { used = 0; answer = []; number = 6; book = b }

abbrev pub book_call : Book → Call → Entry
book_call b (Take piece buffer) = cond (is_small buffer) (refused6 b) (book_take b piece)
book_call b (Close buffer) = cond (is_small buffer) (refused6 b) (book_close b)

-- ---- what the caller gets

-- all that a call returns, and the answer buffer after it
pub record Reply : Type 0 where
  pub used : ℕ
  pub len : ℕ
  pub number : ℕ
  pub state : State
  pub buffer : List ℕ

abbrev pub state_with : PartialFrame → View → State
state_with frame v = record { frame = frame; view = v }

-- the state for the bytes in the book, and for what it remembers
abbrev pub state_of : Book → State
state_of b = state_with (frame_of b.held) (view_of b.memory)

-- an answer fills the buffer's front; the rest keeps its content
abbrev pub reply_of : Entry → List ℕ → Reply
reply_of e buffer =
    record { used = e.used; len = length e.answer; number = e.number; state = state_of e.book; buffer = e.answer ++ drop (length e.answer) buffer }

abbrev pub buffer_of : Call → List ℕ
buffer_of (Take piece buffer) = buffer
buffer_of (Close buffer) = buffer

-- the replies to a list of calls
abbrev pub book_replies : Book → List Call → List Reply
book_replies b [] = []
book_replies b (c ∷ cs) = reply_of (book_call b c) (buffer_of c) ∷ book_replies (book_call b c).book cs
