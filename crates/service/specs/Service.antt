-- What take and close return for every state, piece and buffer, and a run of the service over a list of calls. Definitions only.
use Rattle.std.specs.Prelude.{ℕ, List, [], ◌∷◌, Bool, cond, ◌&&◌}
use Rattle.partial_frame.specs.State.{empty_frame, bytes_in, is_left}
use Rattle.memory.specs.Memory.{start_memory, view_of, recalled, is_view}
use Rattle.service.specs.Book.{Book, Call, Take, Close, Reply, state_with, reply_of, book_take, book_close, is_small}
use Rattle.service.specs.declared.State.{State}
use Rattle.service.specs.declared.Taken.{Taken}
use Rattle.service.specs.declared.Closed.{Closed}

abbrev pub fresh_state : State
fresh_state = state_with empty_frame (view_of start_memory)

-- a state that some book leaves, and such a book
unfoldable pub is_good : State → Bool
is_good s = is_left s.frame && is_view s.view

unfoldable pub book_of : State → Book
book_of s = record { held = bytes_in s.frame; memory = recalled s.view }

-- refusals 6 and 7: state and buffer are handed back untouched
abbrev pub untouched : ℕ → State → List ℕ → Reply
untouched n s buffer = record { used = 0; len = 0; number = n; state = s; buffer = buffer }

-- refusal 6, then refusal 7, or else what the book gives for bytes that leave this state
unfoldable pub take_of : State → List ℕ → List ℕ → Reply
take_of s piece buffer =
    cond (is_small buffer) (untouched 6 s buffer)
    (cond (is_good s) (reply_of (book_take (book_of s) piece) buffer)
    (untouched 7 s buffer))

unfoldable pub close_of : State → List ℕ → Reply
close_of s buffer =
    cond (is_small buffer) (untouched 6 s buffer)
    (cond (is_good s) (reply_of (book_close (book_of s)) buffer)
    (untouched 7 s buffer))

-- the part of a reply that a call returns by value
abbrev pub taken_of : Reply → Taken
taken_of r = record { state = r.state; used = r.used; len = r.len; refusal = r.number }

abbrev pub closed_of : Reply → Closed
closed_of r = record { state = r.state; len = r.len; refusal = r.number }

-- ---- lists of calls

abbrev pub service_call : State → Call → Reply
service_call s (Take piece buffer) = take_of s piece buffer
service_call s (Close buffer) = close_of s buffer

-- each call is given the state that the last one returned
abbrev pub service_run : State → List Call → List Reply
service_run s [] = []
service_run s (c ∷ cs) = service_call s c ∷ service_run (service_call s c).state cs

-- the state that a list of calls leaves
abbrev pub state_after : State → List Call → State
state_after s [] = s
state_after s (c ∷ cs) = state_after (service_call s c).state cs
