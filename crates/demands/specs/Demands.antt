-- Demands 1 and 3, each as one statement. proofs/Demands.antt proves them. Definitions only.
use Rattle.std.specs.Prelude.{ℕ, zero, suc, ◌+◌, ◌*◌, ◌≤◌, ◌≡◌, ◌≢◌, List, [], ◌∷◌, ◌++◌, map, true, false, length, take, drop}
use Rattle.frames.specs.Frame.{longest_body, body_length, whole}
use Rattle.partial_frame.specs.State.{frame_of}
use Rattle.memory.specs.Memory.{view_of, Sized, shows_memory}
use Rattle.service.specs.Book.{Book, empty_book, state_with, state_of, Call, Take, Close, Reply, book_replies, book_call, book_take, reply_of, is_small}
use Rattle.service.specs.Service.{fresh_state, untouched, take_of, close_of, service_call, service_run, state_after}
use Rattle.demands.specs.Stream.{Parts, Partition, Point, frame, closed, Item, byte, closing, joined, parted, points_of, answers_from, written}
use Rattle.service.specs.declared.State.{State}

-- ---- lists of calls

-- a list of calls from a fresh service
abbrev pub run : List Call → List Reply
run cs = service_run fresh_state cs

-- the reply to the call that comes after such a list
abbrev pub reply_after : List Call → Call → Reply
reply_after cs c = service_call (state_after fresh_state cs) c

abbrev pub book_after : Book → List Call → Book
book_after b [] = b
book_after b (c ∷ cs) = book_after (book_call b c).book cs

-- a piece handed on: take is repeated on its unused end until nothing is left, each time with another buffer
abbrev pub handed_on : Book → List ℕ → List (List ℕ) → List Call
handed_on b piece [] = []
handed_on b [] (buffer ∷ buffers) = []
handed_on b (x ∷ piece) (buffer ∷ buffers) =
    Take (x ∷ piece) buffer ∷ handed_on (book_take b (x ∷ piece)).book (drop (book_take b (x ∷ piece)).used (x ∷ piece)) buffers

abbrev pub AllLarge : List (List ℕ) → Type 0
AllLarge [] = Unit {0}
AllLarge (buffer ∷ buffers) = (is_small buffer ≡ false) × AllLarge buffers

-- ---- two lists

-- where a byte stands
pub data Place : Type 0 where
  -- it is the first length byte of a frame
  first : Place
  -- the second, after this first one
  second : ℕ → Place
  -- inside a body, of which so many bytes come after it
  inside : ℕ → Place

-- the place of the next byte, where n bytes of a body are to come
abbrev pub to_come : ℕ → Place
to_come zero = first
to_come (suc n) = inside n

-- the items with each byte inside a body as 0: what is left are the length bytes and the closing points
abbrev pub blanked_from : List Item → Place → List Item
blanked_from [] p = []
blanked_from (closing ∷ is) p = closing ∷ blanked_from is first
blanked_from (byte b ∷ is) first = byte b ∷ blanked_from is (second b)
blanked_from (byte b ∷ is) (second a) = byte b ∷ blanked_from is (to_come (a * 256 + b))
blanked_from (byte b ∷ is) (inside n) = byte 0 ∷ blanked_from is (to_come n)

abbrev pub blanked : List Item → List Item
blanked is = blanked_from is first

-- the same frame lengths and closing points: frames and unfinished frames differ only behind their length bytes
pub data Alike : List Point → List Point → Type 0 where
  none : Alike [] []
  frames : {f g : List ℕ} {ps qs : List Point} → take 2 f ≡ take 2 g → Alike ps qs → Alike (frame f ∷ ps) (frame g ∷ qs)
  closings : {h k : List ℕ} {ps qs : List Point} → length h ≡ length k → take 2 h ≡ take 2 k → Alike ps qs → Alike (closed h ∷ ps) (closed k ∷ qs)

-- each frame that is the same in both and is no accepted report, and each closing point after an unfinished frame, has the same answer in
-- both; a close on nothing has none
pub data SameAnswers : List Point → List Point → List (List ℕ) → List (List ℕ) → Type 0 where
  none : SameAnswers [] [] [] []
  frames : {f g a b : List ℕ} {ps qs : List Point} {xs ys : List (List ℕ)}
      → (f ≡ g → shows_memory f ≡ false → a ≡ b) → SameAnswers ps qs xs ys → SameAnswers (frame f ∷ ps) (frame g ∷ qs) (a ∷ xs) (b ∷ ys)
  silent : {ps qs : List Point} {xs ys : List (List ℕ)} → SameAnswers ps qs xs ys → SameAnswers (closed [] ∷ ps) (closed [] ∷ qs) xs ys
  closings : {b c : ℕ} {h k a : List ℕ} {ps qs : List Point} {xs ys : List (List ℕ)}
      → SameAnswers ps qs xs ys → SameAnswers (closed (b ∷ h) ∷ ps) (closed (c ∷ k) ∷ qs) (a ∷ xs) (a ∷ ys)

-- the one report that is accepted: version 1, kind 4, and no payload
abbrev pub report : List ℕ
report = 0 ∷ 2 ∷ 1 ∷ 4 ∷ []

-- ---- the statements

-- Demand 3, for every list of takes and closes from a fresh service, refused ones included, with any pieces and buffers.
pub record Demand3 : Type 0 where
  -- every used count, answer length, number, returned state and answer buffer is the plain book's
  pub book : (cs : List Call) → run cs ≡ book_replies empty_book cs
  pub never7 : (cs : List Call) (c : Call) → (reply_after cs c).number ≢ 7
  -- the joined bytes part into frames in one way
  pub partition : (cs : List Call) → Partition (joined cs) (parted (joined cs))
  pub only_partition : (cs : List Call) (q : Parts) → Partition (joined cs) q → q ≡ parted (joined cs)
  -- the answers are, in order, those of the frames and closing points of the joined bytes
  pub answers : (cs : List Call) → written (run cs) ≡ answers_from empty_book.memory (points_of cs)
  -- a call that brings a frame to its end, or closes, leaves the service fresh but for what lasts, which is the book's; after every list it
  -- holds the unfinished end
  pub fresh : (cs : List Call) (c : Call) → points_of (cs ++ (c ∷ [])) ≢ points_of cs
      → (reply_after cs c).state ≡ state_with fresh_state.frame (view_of (book_after empty_book (cs ++ (c ∷ []))).memory)
  pub held : (cs : List Call) → (state_after fresh_state cs).frame ≡ frame_of (parted (joined cs)).rest
  -- what differs inside the bodies of some frames changes no other answer, but those of accepted reports
  pub isolated : (cs ds : List Call) → Alike (points_of cs) (points_of ds) → SameAnswers (points_of cs) (points_of ds) (written (run cs)) (written (run ds))
  -- two lists are alike where their joined bytes are the same but for bytes inside bodies
  pub alike : (cs ds : List Call) → blanked (joined cs) ≡ blanked (joined ds) → Alike (points_of cs) (points_of ds)
  -- and these are the frames 00 02 01 04
  pub reports : (f : List ℕ) → length f ≡ 2 + body_length f → shows_memory f ≡ true → f ≡ report
  -- a piece that is handed on with buffers that are large enough has all its bytes moved, after every list
  pub handed : (cs : List Call) (piece : List ℕ) (buffers : List (List ℕ)) → AllLarge buffers → length piece ≤ length buffers
      → joined (cs ++ handed_on (book_after empty_book cs) piece buffers) ≡ joined cs ++ map byte piece

-- no book that holds less than a whole frame leaves it
abbrev pub Unreached : State → Type 0
Unreached s = (b : Book) → whole b.held ≡ false → s ≢ state_of b

-- Demand 1 for every state, piece and buffer; refusal 6 is tried first in take_of and close_of. A state's array has its length and its numbers
-- have their bounds, as its type says.
pub record Demand1 : Type 0 where
  -- 7 for a state that no run of bytes shorter than a whole frame leaves, and nothing is touched
  pub take_refuses : (s : State) (piece buffer : List ℕ) → length s.frame.body ≡ longest_body → Sized s.view → Unreached s → is_small buffer ≡ false
      → take_of s piece buffer ≡ untouched 7 s buffer
  pub close_refuses : (s : State) (buffer : List ℕ) → length s.frame.body ≡ longest_body → Sized s.view → Unreached s → is_small buffer ≡ false
      → close_of s buffer ≡ untouched 7 s buffer
  -- for every other, and every book that leaves it, the reply is that book's
  pub take : (b : Book) (piece buffer : List ℕ) → whole b.held ≡ false → take_of (state_of b) piece buffer ≡ reply_of (book_call b (Take piece buffer)) buffer
  pub close : (b : Book) (buffer : List ℕ) → whole b.held ≡ false → close_of (state_of b) buffer ≡ reply_of (book_call b (Close buffer)) buffer
  -- and so are all replies from then on: of books that leave one state, however far they have counted, all give the same
  pub onward : (b : Book) (cs : List Call) → whole b.held ≡ false → service_run (state_of b) cs ≡ book_replies b cs
  pub same_onward : (b c : Book) (cs : List Call) → whole b.held ≡ false → whole c.held ≡ false → state_of b ≡ state_of c → book_replies b cs ≡ book_replies c cs
  -- and its number is not 7
  pub never7 : (b : Book) (c : Call) → (book_call b c).number ≢ 7
  -- a nonempty piece that 6 and 7 do not refuse uses at least one byte, an empty one none
  pub uses : (s : State) (x : ℕ) (piece buffer : List ℕ) → (take_of s (x ∷ piece) buffer).number ≢ 6 → (take_of s (x ∷ piece) buffer).number ≢ 7 → 1 ≤ (take_of s (x ∷ piece) buffer).used
  pub uses_none : (s : State) (buffer : List ℕ) → (take_of s [] buffer).used ≡ 0
