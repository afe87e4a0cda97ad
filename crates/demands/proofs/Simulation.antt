-- Over a list of calls the service and the plain book give the same replies, and leave the same. Assumes nothing.
use Prim.Native.Nat.{ℕ}
use mathlib.Core.Path.{◌≡◌, refl, sym, ap, ◌∙◌}
use mathlib.Core.List.{List, [], ◌∷◌, ◌++◌}
use mathlib.Core.Bool.{Bool, true, false}
use lib.ListN.{drop}
use Rattle.frames.specs.Frame.{whole, refusal_frame}
use Rattle.partial_frame.specs.State.{frame_of, bytes_in}
use Rattle.memory.specs.Memory.{Memory, view_of}
use Rattle.service.specs.Book.{Book, empty_book, state_with, state_of, Call, Take, Close, Reply, move, closed_with, book_call, reply_of, buffer_of, book_replies, is_small}
use Rattle.service.specs.Service.{fresh_state, book_of, close_of, service_call, service_run, state_after}
use Rattle.service.specs.declared.State.{State}
use Rattle.service.proofs.Memory.{view_recalled}
use Rattle.service.proofs.Simulation.{good_state, take_book, settled_short, fresh_whole, whole_none}
use Rattle.demands.specs.Demands.{book_after, reply_after}

-- ---- one call

close_alike : (h buffer : List ℕ) (c d : Memory) → view_of c ≡ view_of d → reply_of (closed_with (bytes_in (frame_of h)) c) buffer ≡ reply_of (closed_with h d) buffer
unfolding bytes_in
close_alike [] buffer c d l = λ i. record { used = 0; len = 0; number = 0; state = state_with (frame_of []) (l i); buffer = buffer }
close_alike (a ∷ []) buffer c d l = λ i. record { used = 0; len = 4; number = 8; state = state_with (frame_of []) (l i); buffer = refusal_frame 8 ++ drop 4 buffer }
close_alike (a ∷ b ∷ r) buffer c d l = λ i. record { used = 0; len = 4; number = 8; state = state_with (frame_of []) (l i); buffer = refusal_frame 8 ++ drop 4 buffer }

pub close_book : (h : Book) (buffer : List ℕ) → whole h.held ≡ false → close_of (state_of h) buffer ≡ reply_of (book_call h (Close buffer)) buffer
unfolding close_of book_of
close_book h buffer n = go (is_small buffer) refl
  where
    go : (t : Bool) → is_small buffer ≡ t → close_of (state_of h) buffer ≡ reply_of (book_call h (Close buffer)) buffer
    go true e = rw e refl
    go false e = rw (e, good_state h n) (close_alike h.held buffer _ h.memory (view_recalled h.memory))

call_book : (c : Call) (h : Book) → whole h.held ≡ false → service_call (state_of h) c ≡ reply_of (book_call h c) (buffer_of c)
call_book (Take p buffer) h n = take_book h p buffer n
call_book (Close buffer) h n = close_book h buffer n

close_short : (h : List ℕ) (c : Memory) → whole (closed_with h c).book.held ≡ false
close_short [] c = whole_none
close_short (b ∷ h) c = whole_none

-- between calls the book holds less than a whole frame
pub held_short : (c : Call) (h : Book) → whole h.held ≡ false → whole (book_call h c).book.held ≡ false
held_short (Take p buffer) h n = go (is_small buffer) refl
  where
    go : (t : Bool) → is_small buffer ≡ t → whole (book_call h (Take p buffer)).book.held ≡ false
    go true e = rw e n
    go false e = rw e (settled_short (move h.held p) h.memory)
held_short (Close buffer) h n = go (is_small buffer) refl
  where
    go : (t : Bool) → is_small buffer ≡ t → whole (book_call h (Close buffer)).book.held ≡ false
    go true e = rw e n
    go false e = rw e (close_short h.held h.memory)

-- ---- a list of calls

pub run_book : (cs : List Call) (h : Book) → whole h.held ≡ false → service_run (state_of h) cs ≡ book_replies h cs
run_book [] h n = refl
run_book (c ∷ cs) h n =
    ap (λ (r : Reply). r ∷ service_run r.state cs) (call_book c h n)
    ∙ ap {B = List Reply} (λ l. reply_of (book_call h c) (buffer_of c) ∷ l) (run_book cs (book_call h c).book (held_short c h n))

pub after_append : (cs ds : List Call) (b : Book) → book_after b (cs ++ ds) ≡ book_after (book_after b cs) ds
after_append [] ds b = refl
after_append (c ∷ cs) ds b = after_append cs ds (book_call b c).book

pub after_unfinished : (cs : List Call) (b : Book) → whole b.held ≡ false → whole (book_after b cs).held ≡ false
after_unfinished [] b n = n
after_unfinished (c ∷ cs) b n = after_unfinished cs (book_call b c).book (held_short c b n)

after_state : (cs : List Call) (b : Book) → whole b.held ≡ false → state_after (state_of b) cs ≡ state_of (book_after b cs)
after_state [] b n = refl
after_state (c ∷ cs) b n = ap (λ (r : Reply). state_after r.state cs) (call_book c b n) ∙ after_state cs (book_call b c).book (held_short c b n)

pub after_fresh : (cs : List Call) → state_after fresh_state cs ≡ state_of (book_after empty_book cs)
after_fresh cs = ap (λ (s : State). state_after s cs) (sym fresh_whole) ∙ after_state cs empty_book whole_none

pub reply_after_lem : (cs : List Call) (c : Call) → reply_after cs c ≡ reply_of (book_call (book_after empty_book cs) c) (buffer_of c)
reply_after_lem cs c = ap (λ (s : State). service_call s c) (after_fresh cs) ∙ call_book c (book_after empty_book cs) (after_unfinished cs empty_book whole_none)
