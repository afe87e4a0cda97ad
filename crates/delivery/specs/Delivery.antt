-- A piece handed on (document 01: "by repeating take on its unused end until nothing is left"), with the answers in one buffer, while
-- there is room for one more. Definitions only.
use Rattle.std.specs.Prelude.{ℕ, zero, suc, ◌+◌, ◌-◌, ◌≤◌, ◌<◌, ◌≡◌, List, [], ◌∷◌, ◌++◌, true, cond, length, drop, ltb}
use Rattle.frames.specs.Frame.{answer_room}
use Rattle.service.specs.Book.{Book, Entry, Reply, state_of, book_take, is_small}
use Rattle.service.specs.Service.{is_good, book_of, untouched}
use Rattle.service.specs.declared.State.{State}
use Rattle.delivery.specs.declared.HandedOn.{HandedOn}

-- what the book gives for a piece: the bytes used, the answers one after another, and the book after it
pub record Given : Type 0 where
  pub used : ℕ
  pub answers : List ℕ
  pub book : Book

abbrev pub nothing : Book → Given
nothing b = record { used = 0; answers = []; book = b }

-- one take, and then the rest
abbrev pub and_then : Entry → Given → Given
and_then e g = record { used = e.used + g.used; answers = e.answer ++ g.answers; book = g.book }

-- at most n takes, while bytes are left and the buffer has room for an answer
abbrev pub takes : ℕ → ℕ → Book → List ℕ → Given
takes zero room b piece = nothing b
takes (suc n) room b [] = nothing b
takes (suc n) room b (x ∷ piece) =
    cond (ltb room answer_room) (nothing b)
    (and_then (book_take b (x ∷ piece)) (takes n (room - length (book_take b (x ∷ piece)).answer) (book_take b (x ∷ piece)).book (drop (book_take b (x ∷ piece)).used (x ∷ piece))))

-- each take uses a byte at least, so there are no more takes than bytes
unfoldable pub delivery_of : Book → List ℕ → ℕ → Given
delivery_of b piece room = takes (length piece) room b piece

-- the reply, and the buffer: the answers fill its front, the rest keeps its content
abbrev pub given : Given → List ℕ → Reply
given g buffer = record { used = g.used; len = length g.answers; number = 0; state = state_of g.book; buffer = g.answers ++ drop (length g.answers) buffer }

-- for every state, piece and buffer: refusal 6, then refusal 7, untouched, or else the book's delivery
unfoldable pub hand_on : State → List ℕ → List ℕ → Reply
hand_on s piece buffer =
    cond (is_small buffer) (untouched 6 s buffer)
    (cond (is_good s) (given (delivery_of (book_of s) piece (length buffer)) buffer)
    (untouched 7 s buffer))

abbrev pub handed_on_of : Reply → HandedOn
handed_on_of r = record { state = r.state; used = r.used; len = r.len; refusal = r.number }

-- what hand_on promises: the equation, and what a caller that goes on needs of it
pub record Delivers (s : State) (piece before : List ℕ) (r : HandedOn) (after : List ℕ) : Type 0 where
  pub reply : r ≡ handed_on_of (hand_on s piece before)
  pub buffer : after ≡ (hand_on s piece before).buffer
  pub used : r.used ≤ length piece
  pub len : r.len ≤ length before
  -- a good state and a buffer that is large enough are not refused: the state stays good, and a nonempty piece is used in part at least
  pub goes_on : is_good s ≡ true → answer_room ≤ length before → is_good r.state ≡ true
  pub progress : is_good s ≡ true → answer_room ≤ length before → 0 < length piece → 0 < r.used

-- ---- what the functions of this crate say of each other; nothing here is part of what hand_on means

pub record Delivery (g : Given) (r : HandedOn) (before after : List ℕ) : Type 0 where
  pub reply : r ≡ handed_on_of (given g before)
  pub buffer : after ≡ (given g before).buffer
