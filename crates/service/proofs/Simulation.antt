-- take over states and over the plain book's bytes gives the same reply: two runs of bytes that leave one state go on alike. Assumes
-- nothing.
use Prim.Native.Nat.{ℕ, suc, ◌+◌, ◌≤◌}
use mathlib.Core.Path.{◌≡◌, refl, sym, ap, ◌∙◌}
use mathlib.Core.List.{List, [], ◌∷◌, ◌++◌}
use mathlib.Core.Bool.{Bool, true, false}
use native.Mathlib.Omega.{arith}
use lib.ListN.{length, drop}
use Rattle.frames.specs.Frame.{body_length, whole}
use Rattle.answers.specs.Answers.{Answer}
use Rattle.partial_frame.specs.State.{frame_of, bytes_in}
use Rattle.memory.specs.Memory.{Memory, start_memory, view_of, answer_with}
use Rattle.memory.specs.declared.View.{View}
use Rattle.partial_frame.specs.declared.PartialFrame.{PartialFrame}
use Rattle.service.proofs.Memory.{answer_alike, remembered_alike, view_recalled, view_good}
use Rattle.service.specs.Book.{Book, empty_book, state_with, state_of, Take, Entry, Moved, Reply, move, one_more, settled, answered_by, book_take, book_call, reply_of, is_small}
use Rattle.service.specs.Service.{fresh_state, is_good, book_of, take_of}
use Rattle.partial_frame.specs.Steps.{after_byte, whole_in}
use Rattle.service.specs.declared.State.{State}
use Rattle.partial_frame.proofs.Held.{byte_held, whole_held, not_past, empty_held}
use Rattle.partial_frame.proofs.Reach.{reach_held, held_alike, held_unfinished}

-- what a reply shows of an entry
record Shown : Type 0 where
  used : ℕ
  answer : List ℕ
  number : ℕ
  state : State

abbrev shown : Entry → Shown
shown e = record { used = e.used; answer = e.answer; number = e.number; state = state_of e.book }

abbrev later : Shown → Shown
later s = record { used = suc s.used; answer = s.answer; number = s.number; state = s.state }

abbrev reply_of_shown : List ℕ → Shown → Reply
reply_of_shown buffer s =
    record { used = s.used; len = length s.answer; number = s.number; state = s.state; buffer = s.answer ++ drop (length s.answer) buffer }

shown_later : (m : Moved) (c : Memory) → shown (settled (one_more m) c) ≡ later (shown (settled m c))
shown_later m c = go (whole m.held) refl
  where
    go : (t : Bool) → whole m.held ≡ t → shown (settled (one_more m) c) ≡ later (shown (settled m c))
    go true e = rw e refl
    go false e = rw e refl

-- one byte more keeps two runs of bytes alike
alike_step : (h k : List ℕ) (b : ℕ) → frame_of h ≡ frame_of k → frame_of (h ++ (b ∷ [])) ≡ frame_of (k ++ (b ∷ []))
alike_step h k b e = sym (byte_held h b) ∙ ap (λ (s : PartialFrame). after_byte s b) e ∙ byte_held k b

whole_alike : (h k : List ℕ) → frame_of h ≡ frame_of k → whole h ≡ whole k
whole_alike h k e = whole_held h ∙ ap whole_in e ∙ sym (whole_held k)

pub move_whole : (p h : List ℕ) (b : ℕ) → whole (h ++ (b ∷ [])) ≡ true → move h (b ∷ p) ≡ record { held = h ++ (b ∷ []); used = 1 }
move_whole p h b w = rw w refl

pub move_on : (p h : List ℕ) (b : ℕ) → whole (h ++ (b ∷ [])) ≡ false → move h (b ∷ p) ≡ one_more (move (h ++ (b ∷ [])) p)
move_on p h b w = rw w refl

pub uses_some : (b : Book) (x : ℕ) (p : List ℕ) → 1 ≤ (book_take b (x ∷ p)).used
uses_some b x p = go (whole (move b.held (x ∷ p)).held) refl
  where
    first : (t : Bool) → whole (b.held ++ (x ∷ [])) ≡ t → 1 ≤ (move b.held (x ∷ p)).used
    first true w = rw w (omega arith)
    first false w = rw w (omega arith)

    go : (t : Bool) → whole (move b.held (x ∷ p)).held ≡ t → 1 ≤ (book_take b (x ∷ p)).used
    go true e = rw e (first (whole (b.held ++ (x ∷ []))) refl)
    go false e = rw e (first (whole (b.held ++ (x ∷ []))) refl)

settled_whole : (f : List ℕ) (c : Memory) → whole f ≡ true → shown (settled (record { held = f; used = 1 }) c) ≡ shown (answered_by (answer_with (view_of c) f) 1 f c)
settled_whole f c w = rw w refl

answered_alike : (f g : List ℕ) (c d : Memory) → frame_of f ≡ frame_of g → view_of c ≡ view_of d → length f ≤ 2 + body_length f
    → shown (answered_by (answer_with (view_of c) f) 1 f c) ≡ shown (answered_by (answer_with (view_of d) g) 1 g d)
answered_alike f g c d e l n =
    let a : answer_with (view_of c) f ≡ answer_with (view_of d) g = ap (λ (x : View). answer_with x f) l ∙ answer_alike (view_of d) f g e n in
    ap (λ (x : Answer). shown (answered_by x 1 f c)) a
    ∙ ap (λ (x : View). record { used = 1; answer = (answer_with (view_of d) g).bytes; number = (answer_with (view_of d) g).number; state = state_with (frame_of []) x })
    (remembered_alike f g (answer_with (view_of d) g) c d e n l)

take_alike : (p h k : List ℕ) (c d : Memory) → frame_of h ≡ frame_of k → view_of c ≡ view_of d → whole h ≡ false → shown (settled (move h p) c) ≡ shown (settled (move k p) d)
take_alike [] h k c d e l n =
    rw (n, sym (whole_alike h k e) ∙ n) (λ i. record { used = 0; answer = []; number = 0; state = state_with (e i) (l i) })
take_alike (b ∷ p) h k c d e l n = go (whole (h ++ (b ∷ []))) refl (take_alike p (h ++ (b ∷ [])) (k ++ (b ∷ [])) c d e' l)
  where
    e' : frame_of (h ++ (b ∷ [])) ≡ frame_of (k ++ (b ∷ []))
    e' = alike_step h k b e

    w' : whole (h ++ (b ∷ [])) ≡ whole (k ++ (b ∷ []))
    w' = whole_alike _ _ e'

    go : (t : Bool) → whole (h ++ (b ∷ [])) ≡ t
        → (whole (h ++ (b ∷ [])) ≡ false → shown (settled (move (h ++ (b ∷ [])) p) c) ≡ shown (settled (move (k ++ (b ∷ [])) p) d))
        → shown (settled (move h (b ∷ p)) c) ≡ shown (settled (move k (b ∷ p)) d)
    go true w ih =
        ap (λ m. shown (settled m c)) (move_whole p h b w) ∙ settled_whole (h ++ (b ∷ [])) c w
        ∙ answered_alike (h ++ (b ∷ [])) (k ++ (b ∷ [])) c d e' l (not_past h b n)
        ∙ sym (ap (λ m. shown (settled m d)) (move_whole p k b (sym w' ∙ w)) ∙ settled_whole (k ++ (b ∷ [])) d (sym w' ∙ w))
    go false w ih =
        ap (λ m. shown (settled m c)) (move_on p h b w) ∙ shown_later (move (h ++ (b ∷ [])) p) c
        ∙ ap later (ih w)
        ∙ sym (ap (λ m. shown (settled m d)) (move_on p k b (sym w' ∙ w)) ∙ shown_later (move (k ++ (b ∷ [])) p) d)

pub good_state : (b : Book) → whole b.held ≡ false → is_good (state_of b) ≡ true
unfolding is_good
good_state b n = rw (reach_held b.held n, view_good b.memory) refl

-- refusals 6 and 7 aside, take from the state of h is the book from h
pub take_book : (h : Book) (p buffer : List ℕ) → whole h.held ≡ false → take_of (state_of h) p buffer ≡ reply_of (book_call h (Take p buffer)) buffer
unfolding take_of book_of
take_book h p buffer n = go (is_small buffer) refl
  where
    go : (t : Bool) → is_small buffer ≡ t → take_of (state_of h) p buffer ≡ reply_of (book_call h (Take p buffer)) buffer
    go true e = rw e refl
    go false e =
        rw (e, good_state h n)
        (ap (reply_of_shown buffer)
        (take_alike p (bytes_in (frame_of h.held)) h.held _ h.memory (held_alike h.held n) (view_recalled h.memory) (held_unfinished h.held n)))

pub whole_none : whole [] ≡ false
unfolding whole
whole_none = refl

pub settled_short : (m : Moved) (c : Memory) → whole (settled m c).book.held ≡ false
settled_short m c = go (whole m.held) refl
  where
    go : (t : Bool) → whole m.held ≡ t → whole (settled m c).book.held ≡ false
    go true e = rw e whole_none
    go false e = rw e e

pub fresh_whole : state_of empty_book ≡ fresh_state
fresh_whole = ap (λ (p : PartialFrame). state_with p (view_of start_memory)) empty_held
