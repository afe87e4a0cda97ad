-- Demands 1 and 3 hold. Assumes nothing.
use Prim.Native.Nat.{ℕ, ◌≤◌}
use mathlib.Core.Path.{◌≡◌, refl, sym, ap, subst, subst₂, ◌∙◌}
use mathlib.Core.Logic.{◌≢◌, inl, inr}
use mathlib.Core.List.{List, [], ◌∷◌, ◌++◌, map, append_assoc}
use mathlib.Core.Bool.{Bool, true, false}
use native.Mathlib.Omega.{arith}
use lib.ListN.{length, take, drop, length-drop, take-append-drop}
use Rattle.frames.specs.Frame.{longest_body, whole}
use Rattle.frames.proofs.Refusals.{Senders}
use Rattle.partial_frame.specs.State.{frame_of}
use Rattle.memory.specs.Memory.{Memory, view_of, Sized}
use Rattle.service.specs.Book.{Book, empty_book, state_with, Call, Take, Close, Entry, Moved, Reply, move, settled, book_take, closed_with, book_call, book_replies, is_small}
use Rattle.service.specs.Service.{fresh_state, is_good, book_of, take_of, service_run}
use Rattle.demands.specs.Stream.{Item, byte, joined, joined_from, moved_by, points_of, answers_from, written}
use Rattle.demands.specs.Demands.{Demand1, Demand3, Unreached, AllLarge, handed_on, book_after, SameAnswers, run}
use Rattle.service.specs.declared.State.{State}
use Rattle.service.proofs.Memory.{answer_number}
use Rattle.service.proofs.Simulation.{uses_some, fresh_whole, whole_none, take_book}
use Rattle.demands.proofs.Simulation.{close_book, run_book, after_append, after_fresh, reply_after_lem}
use Rattle.demands.proofs.Streams.{written_points, fresh_after, held_rest}
use Rattle.demands.proofs.Reports.{only_reports}
use Rattle.demands.proofs.Isolation.{alike_blanked, same_answers}
use Rattle.service.proofs.Calls.{shown_by, take_bad, close_bad}
use Rattle.demands.proofs.Partition.{part_right, part_unique}

-- ---- the numbers

senders_not_7 : (n : ℕ) → Senders n → n ≢ 7
senders_not_7 n (inl h) e = omega arith
senders_not_7 n (inr h) e = omega arith

settled_number : (m : Moved) (c : Memory) → Senders (settled m c).number
settled_number m c = go (whole m.held) refl
  where
    go : (t : Bool) → whole m.held ≡ t → Senders (settled m c).number
    go true e = rw e (answer_number (view_of c) m.held)
    go false e = rw e (inl (omega arith))

close_number : (h : List ℕ) (c : Memory) → (closed_with h c).number ≢ 7
close_number [] c e = omega arith
close_number (b ∷ h) c e = omega arith

book_never_7 : (b : Book) (c : Call) → (book_call b c).number ≢ 7
book_never_7 b (Take p buffer) = go (is_small buffer) refl
  where
    go : (t : Bool) → is_small buffer ≡ t → (book_call b (Take p buffer)).number ≢ 7
    go true e = rw e (λ z. let w : ⊥ = omega arith in w)
    go false e = rw e (senders_not_7 _ (settled_number (move b.held p) b.memory))
book_never_7 b (Close buffer) = go (is_small buffer) refl
  where
    go : (t : Bool) → is_small buffer ≡ t → (book_call b (Close buffer)).number ≢ 7
    go true e = rw e (λ z. let w : ⊥ = omega arith in w)
    go false e = rw e (close_number b.held b.memory)

-- ---- pieces handed on

pub map_append : (xs ys : List ℕ) → map byte (xs ++ ys) ≡ map byte xs ++ map byte ys
map_append [] ys = refl
map_append (x ∷ xs) ys = ap {B = List Item} (λ l. byte x ∷ l) (map_append xs ys)

handed_all : (buffers : List (List ℕ)) (b : Book) (piece : List ℕ) → AllLarge buffers → length piece ≤ length buffers → joined_from b (handed_on b piece buffers) ≡ map byte piece
handed_all [] b [] a l = refl
handed_all [] b (x ∷ p) a l = absurd (omega arith)
handed_all (buffer ∷ buffers) b [] a l = refl
handed_all (buffer ∷ buffers) b (x ∷ p) a l =
    let e = book_take b (x ∷ p) in
    let c : book_call b (Take (x ∷ p) buffer) ≡ e = rw a.0 refl in
    let r = handed_all buffers e.book (drop e.used (x ∷ p)) a.1 (omega (arith, length-drop e.used (x ∷ p), uses_some b x p)) in
    ap (λ (y : Entry). map byte (take y.used (x ∷ p)) ++ joined_from y.book (handed_on e.book (drop e.used (x ∷ p)) buffers)) c
    ∙ ap (λ (i : List Item). map byte (take e.used (x ∷ p)) ++ i) r
    ∙ sym (map_append (take e.used (x ∷ p)) (drop e.used (x ∷ p)))
    ∙ ap (map byte) (take-append-drop e.used (x ∷ p))

pub joined_append : (cs ds : List Call) (b : Book) → joined_from b (cs ++ ds) ≡ joined_from b cs ++ joined_from (book_after b cs) ds
joined_append [] ds b = refl
joined_append (c ∷ cs) ds b =
    ap (λ (i : List Item). moved_by c (book_call b c) ++ i) (joined_append cs ds (book_call b c).book)
    ∙ sym (append_assoc (moved_by c (book_call b c)) (joined_from (book_call b c).book cs) (joined_from (book_after (book_call b c).book cs) ds))

-- ---- demand 3

as_book : (cs : List Call) → run cs ≡ book_replies empty_book cs
as_book cs = ap (λ (s : State). service_run s cs) (sym fresh_whole) ∙ run_book cs empty_book whole_none

as_answers : (cs : List Call) → written (run cs) ≡ answers_from empty_book.memory (points_of cs)
as_answers cs = ap written (as_book cs) ∙ written_points cs empty_book whole_none

pub demand_3 : Demand3
demand_3 =
    record {
      book = as_book;
      never7 = λ cs c. subst (λ (r : Reply). r.number ≢ 7) (sym (reply_after_lem cs c)) (book_never_7 (book_after empty_book cs) c);
      partition = λ cs. part_right (joined cs);
      only_partition = λ cs. part_unique (joined cs);
      answers = as_answers;
      fresh = λ cs c n.
          ap (λ (r : Reply). r.state) (reply_after_lem cs c)
          ∙ fresh_after cs c empty_book whole_none n
          ∙ ap (λ (b : Book). state_with fresh_state.frame (view_of b.memory)) (sym (after_append cs (c ∷ []) empty_book));
      held = λ cs. ap (λ (s : State). s.frame) (after_fresh cs) ∙ ap frame_of (held_rest cs empty_book whole_none);
      isolated = λ cs ds a. subst₂ (SameAnswers (points_of cs) (points_of ds)) (sym (as_answers cs)) (sym (as_answers ds)) (same_answers empty_book.memory empty_book.memory a);
      alike = λ cs ds. alike_blanked (joined cs) (joined ds);
      reports = only_reports;
      handed = λ cs piece buffers a l.
          joined_append cs (handed_on (book_after empty_book cs) piece buffers) empty_book ∙ ap (λ (i : List Item). joined cs ++ i) (handed_all buffers (book_after empty_book cs) piece a l);
    }

-- ---- demand 1

not_good : (s : State) → length s.frame.body ≡ longest_body → Sized s.view → Unreached s → is_good s ≡ false
not_good s l z n = go (is_good s) refl
  where
    go : (t : Bool) → is_good s ≡ t → is_good s ≡ false
    go true e = let h = shown_by s l z e in absurd (n (book_of s) h.1 h.0)
    go false e = e

uses_one : (s : State) (x : ℕ) (p buffer : List ℕ) → (take_of s (x ∷ p) buffer).number ≢ 6 → (take_of s (x ∷ p) buffer).number ≢ 7 → 1 ≤ (take_of s (x ∷ p) buffer).used
unfolding take_of
uses_one s x p buffer = go (is_small buffer) (is_good s) refl refl
  where
    go : (t g : Bool) → is_small buffer ≡ t → is_good s ≡ g → (take_of s (x ∷ p) buffer).number ≢ 6 → (take_of s (x ∷ p) buffer).number ≢ 7 → 1 ≤ (take_of s (x ∷ p) buffer).used
    go true g e f = rw e (λ n m. absurd (n refl))
    go false true e f = rw (e, f) (λ n m. uses_some (book_of s) x p)
    go false false e f = rw (e, f) (λ n m. absurd (m refl))

settled_none : (h : List ℕ) (c : Memory) → (settled (record { held = h; used = 0 }) c).used ≡ 0
settled_none h c = go (whole h) refl
  where
    go : (t : Bool) → whole h ≡ t → (settled (record { held = h; used = 0 }) c).used ≡ 0
    go true e = rw e refl
    go false e = rw e refl

uses_none_lem : (s : State) (buffer : List ℕ) → (take_of s [] buffer).used ≡ 0
unfolding take_of
uses_none_lem s buffer = go (is_small buffer) (is_good s) refl refl
  where
    go : (t g : Bool) → is_small buffer ≡ t → is_good s ≡ g → (take_of s [] buffer).used ≡ 0
    go true g e f = rw e refl
    go false true e f = rw (e, f) (settled_none (book_of s).held (book_of s).memory)
    go false false e f = rw (e, f) refl

pub demand_1 : Demand1
demand_1 =
    record {
      take_refuses = λ s p buffer l z n e. take_bad s p buffer e (not_good s l z n);
      close_refuses = λ s buffer l z n e. close_bad s buffer e (not_good s l z n);
      take = take_book;
      close = close_book;
      onward = λ b cs w. run_book cs b w;
      same_onward = λ b c cs v w e. sym (run_book cs b v) ∙ ap (λ (s : State). service_run s cs) e ∙ run_book cs c w;
      never7 = book_never_7;
      uses = uses_one;
      uses_none = uses_none_lem;
    }
