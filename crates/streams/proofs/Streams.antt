-- Demand 3 for pieces that are handed on, and for whole streams: deliveries one after another are one list of calls. Assumes nothing.
use Prim.Native.Nat.{ℕ, zero, suc, ◌+◌, ◌*◌, ◌≤◌, ◌<◌}
use mathlib.Core.Path.{◌≡◌, refl, sym, ap, ap₂, subst, ◌∙◌}
use mathlib.Core.List.{List, [], ◌∷◌, ◌++◌, map, flatten, append_assoc, append-nil}
use mathlib.Core.Bool.{Bool, true, false}
use native.Mathlib.Omega.{arith}
use lib.ListN.{length, drop, length-append, length-drop}
use lib.Dec.{ltb}
use lib.Seq.{take_all, take-append_seam}
use borrow.Author.Tests.{le-ltb, ltb-true, ltb-false}
use Rattle.frames.specs.Frame.{answer_room, whole}
use Rattle.service.specs.Book.{Book, empty_book, Call, Close, Reply, state_of, book_call, is_small}
use Rattle.demands.specs.Stream.{Item, byte, closing, joined, joined_from, parted, answers_from, written}
use Rattle.demands.specs.Demands.{book_after, handed_on}
use Rattle.service.specs.declared.State.{State}
use Rattle.service.proofs.Simulation.{fresh_whole, whole_none}
use Rattle.demands.proofs.Simulation.{close_book, after_append, after_unfinished, after_fresh}
use Rattle.demands.proofs.Streams.{written_points}
use Rattle.demands.proofs.Demands.{demand_3, map_append, joined_append}
use Rattle.delivery.specs.Delivery.{Given, delivery_of, given, hand_on}
use Rattle.delivery.specs.Handed.{front, Handed, behind, handed, handed_to_end}
use Rattle.streams.specs.Streams.{output_of, ByTakes, Streams}
use Rattle.delivery.proofs.Promises.{Reached, takes_reached, delivery_uses}
use Rattle.streams.proofs.Room.{takes_most}
use Rattle.streams.proofs.Alike.{front_answer, hand_on-book}
use Rattle.streams.proofs.Calls.{answers_to, answers_append, answers_cons, Calls, no_calls, more_calls, takes_calls, takes_stop}

-- ---- hand_on, once and repeated, from the state of a book

module _ (b : Book) (p buffer : List ℕ) (l : is_small buffer ≡ false) (w : whole b.held ≡ false) where
  abbrev g : Given
  g = delivery_of b p (length buffer)

  room : answer_room ≤ length buffer
  room = ltb-false (length buffer) answer_room l

  replied : hand_on (state_of b) p buffer ≡ given g buffer
  replied = hand_on-book b p buffer room w

  reached : Reached g (length buffer) p
  unfolding delivery_of
  reached = takes_reached (length p) (length buffer) b p w

  hand_on-calls : Calls b p g.used g.answers g.book
  unfolding delivery_of
  hand_on-calls = takes_calls buffer l (length p) (length buffer) b p

  hand_on-stops : g.used < length p → length buffer < length g.answers + answer_room
  unfolding delivery_of
  hand_on-stops = takes_stop (length p) (length buffer) b p (omega arith)

  hand_on-once : 7 * length p + 2 * answer_room ≤ length buffer → g.used ≡ length p
  unfolding delivery_of
  hand_on-once h = go (ltb g.used (length p)) refl
    where
      go : (t : Bool) → ltb g.used (length p) ≡ t → g.used ≡ length p
      go true e = absurd (omega (arith, hand_on-stops (ltb-true g.used (length p) e), ltb-true g.used (length p) e, takes_most (length p) (length buffer) b p))
      go false e = omega (arith, ltb-false g.used (length p) e, reached.used)

  fronted : front (given g buffer) ≡ g.answers
  fronted = take-append_seam g.answers (drop (length g.answers) buffer)

  still_large : is_small (given g buffer).buffer ≡ false
  still_large = le-ltb (length (given g buffer).buffer) answer_room (omega (arith, length-append g.answers (drop (length g.answers) buffer), length-drop (length g.answers) buffer, reached.fits, room))

-- what comes of a piece that is handed on to its end
record ToEnd (b : Book) (p : List ℕ) (h : Handed) : Type 0 where
  book : Book
  unfinished : whole book.held ≡ false
  calls : Calls b p (length p) h.answers book
  shows : h.state ≡ state_of book
  large : is_small h.buffer ≡ false
  none_left : h.left ≡ []

empty-to_end : (b : Book) (buffer : List ℕ) → is_small buffer ≡ false → whole b.held ≡ false → ToEnd b [] (record { answers = []; state = state_of b; buffer = buffer; left = [] })
empty-to_end b buffer l w = record { book = b; unfinished = w; calls = no_calls b []; shows = refl; large = l; none_left = refl }

-- one hand_on, and then the rest to its end
more-to_end : (b : Book) (p : List ℕ) (g : Given) (h : Handed) → g.used ≤ length p → Calls b p g.used g.answers g.book → ToEnd g.book (drop g.used p) h → ToEnd b p (behind g.answers h)
more-to_end b p g h u s e =
    let all : g.used + length (drop g.used p) ≡ length p = omega (arith, length-drop g.used p) in
    record {
      book = e.book;
      unfinished = e.unfinished;
      calls = subst (λ (k : ℕ). Calls b p k (g.answers ++ h.answers) e.book) all
          (more_calls b g.book e.book p g.answers h.answers g.used (length (drop g.used p)) s e.calls);
      shows = e.shows;
      large = e.large;
      none_left = e.none_left;
    }

handed_more : (n x : ℕ) (s : State) (p buffer : List ℕ) (g : Given) → hand_on s (x ∷ p) buffer ≡ given g buffer
    → handed (suc n) s (x ∷ p) buffer ≡ behind g.answers (handed n (state_of g.book) (drop g.used (x ∷ p)) (given g buffer).buffer)
handed_more n x s p buffer g e =
    ap (λ (r : Reply). behind (front r) (handed n r.state (drop r.used (x ∷ p)) r.buffer)) e
    ∙ ap (λ (a : List ℕ). behind a (handed n (state_of g.book) (drop g.used (x ∷ p)) (given g buffer).buffer)) (take-append_seam g.answers (drop (length g.answers) buffer))

to_end : (n : ℕ) (b : Book) (p buffer : List ℕ) → is_small buffer ≡ false → whole b.held ≡ false → length p ≤ n → ToEnd b p (handed n (state_of b) p buffer)
to_end zero b [] buffer l w m = empty-to_end b buffer l w
to_end zero b (x ∷ p) buffer l w m = absurd (omega arith)
to_end (suc n) b [] buffer l w m = empty-to_end b buffer l w
to_end (suc n) b (x ∷ p) buffer l w m =
    let g = delivery_of b (x ∷ p) (length buffer) in
    let r = reached b (x ∷ p) buffer l w in
    let some = delivery_uses b (x ∷ p) (length buffer) (room b (x ∷ p) buffer l w) (omega arith) in
    let e = to_end n g.book (drop g.used (x ∷ p)) (given g buffer).buffer (still_large b (x ∷ p) buffer l w) r.unfinished (omega (arith, length-drop g.used (x ∷ p))) in
    subst (ToEnd b (x ∷ p)) (sym (handed_more n x (state_of b) p buffer g (replied b (x ∷ p) buffer l w)))
    (more-to_end b (x ∷ p) g _ r.used (hand_on-calls b (x ∷ p) buffer l w) e)

-- ---- after a list of calls

by_takes : (cs : List Call) (p : List ℕ) (used : ℕ) (answers : List ℕ) (book : Book) → Calls (book_after empty_book cs) p used answers book → ByTakes cs p used answers (state_of book)
by_takes cs p used answers book s =
    let b = book_after empty_book cs in
    let ds = handed_on b p s.buffers in
    record {
      buffers = s.buffers;
      large = s.large;
      moves = joined_append cs ds empty_book ∙ ap (λ (i : List Item). joined cs ++ i) s.moves;
      writes =
          ap (λ (l : List Reply). flatten (written l)) (demand_3.book (cs ++ ds))
          ∙ answers_append cs ds empty_book
          ∙ ap₂ {C = List ℕ} (λ x y. x ++ y) (ap (λ (l : List Reply). flatten (written l)) (sym (demand_3.book cs))) s.writes;
      leaves = after_fresh (cs ++ ds) ∙ ap state_of (after_append cs ds empty_book ∙ s.leaves);
    }

-- ---- the program

-- its calls: the takes of each piece, and the close
record Whole (b : Book) (pieces : List (List ℕ)) (output : List ℕ) : Type 0 where
  calls : List Call
  moves : joined_from b calls ≡ map byte (flatten pieces) ++ (closing ∷ [])
  writes : answers_to b calls ≡ output

whole_stream : (pieces : List (List ℕ)) (b : Book) (buffer last : List ℕ) → is_small buffer ≡ false → is_small last ≡ false → whole b.held ≡ false
    → Whole b pieces (output_of (state_of b) pieces buffer last)
unfolding flatten
whole_stream [] b buffer last l m w =
    record {
      calls = Close last ∷ [];
      moves = rw m refl;
      writes = answers_cons b (Close last) [] ∙ append-nil _ ∙ sym (ap front (close_book b last w) ∙ front_answer (book_call b (Close last)) last);
    }
whole_stream (p ∷ pieces) b buffer last l m w =
    let h = handed_to_end (state_of b) p buffer in
    let e = to_end (length p) b p buffer l w (omega arith) in
    let first = handed_on b p e.calls.buffers in
    let s = whole_stream pieces e.book h.buffer last e.large m e.unfinished in
    record {
      calls = first ++ s.calls;
      moves =
          joined_append first s.calls b
          ∙ ap₂ {C = List Item} (λ x y. x ++ y) (e.calls.moves ∙ ap (map byte) (take_all (length p) p (omega arith))) (ap (λ (y : Book). joined_from y s.calls) e.calls.leaves ∙ s.moves)
          ∙ sym (append_assoc (map byte p) (map byte (flatten pieces)) (closing ∷ []))
          ∙ ap (λ (i : List Item). i ++ (closing ∷ [])) (sym (map_append p (flatten pieces)));
      writes =
          answers_append first s.calls b
          ∙ ap₂ {C = List ℕ} (λ x y. x ++ y) e.calls.writes (ap (λ (y : Book). answers_to y s.calls) e.calls.leaves ∙ s.writes)
          ∙ ap (λ (y : State). h.answers ++ output_of y pieces h.buffer last) (sym e.shows);
    }

pub streams : Streams
streams =
    record {
      takes = λ cs piece buffer l.
          let b = book_after empty_book cs in
          let w = after_unfinished cs empty_book whole_none in
          rw (after_fresh cs, replied b piece buffer l w, fronted b piece buffer l w)
          (by_takes cs piece _ _ _ (hand_on-calls b piece buffer l w));
      stops = λ cs piece buffer l.
          let b = book_after empty_book cs in
          let w = after_unfinished cs empty_book whole_none in
          rw (after_fresh cs, replied b piece buffer l w) (hand_on-stops b piece buffer l w);
      once = λ cs piece buffer h.
          let l : is_small buffer ≡ false = le-ltb (length buffer) answer_room (omega arith) in
          let b = book_after empty_book cs in
          let w = after_unfinished cs empty_book whole_none in
          rw (after_fresh cs, replied b piece buffer l w) (hand_on-once b piece buffer l w h);
      whole = λ cs piece buffer l.
          let b = book_after empty_book cs in
          let e = to_end (length piece) b piece buffer l (after_unfinished cs empty_book whole_none) (omega arith) in
          rw (after_fresh cs, e.shows) (e.none_left, by_takes cs piece _ _ _ e.calls);
      output = λ pieces buffer last l m.
          let s = whole_stream pieces empty_book buffer last l m whole_none in
          ap (λ (y : State). output_of y pieces buffer last) (sym fresh_whole)
          ∙ sym s.writes
          ∙ ap flatten (written_points s.calls empty_book whole_none)
          ∙ ap (λ (i : List Item). flatten (answers_from empty_book.memory (parted i).points)) s.moves;
    }
