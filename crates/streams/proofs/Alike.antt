-- A delivery from a state is that of the book: two books that show one state deliver alike. Assumes nothing.
use Prim.Native.Nat.{ℕ, zero, suc, ◌+◌, ◌-◌, ◌≤◌}
use mathlib.Core.Path.{◌≡◌, refl, sym, ap, ap₂, ◌∙◌}
use mathlib.Core.List.{List, [], ◌∷◌, ◌++◌}
use mathlib.Core.Bool.{Bool, true, false}
use lib.ListN.{length, drop}
use lib.Dec.{ltb}
use lib.Seq.{take-append_seam}
use borrow.Author.Tests.{le-ltb}
use Rattle.frames.specs.Frame.{answer_room, whole}
use Rattle.partial_frame.proofs.Reach.{held_alike, held_unfinished}
use Rattle.service.specs.Book.{Book, Entry, Reply, state_with, state_of, book_take, reply_of}
use Rattle.service.specs.Service.{book_of, take_of}
use Rattle.service.specs.declared.State.{State}
use Rattle.service.proofs.Memory.{view_recalled}
use Rattle.service.proofs.Simulation.{good_state}
use Rattle.delivery.specs.Delivery.{Given, takes, delivery_of, given, hand_on}
use Rattle.delivery.specs.Handed.{front}
use Rattle.delivery.proofs.Takes.{take_reply, take_unfinished}

-- what a caller sees of a delivery
record Same (g h : Given) : Type 0 where
  used : g.used ≡ h.used
  answers : g.answers ≡ h.answers
  state : state_of g.book ≡ state_of h.book

pub front_answer : (e : Entry) (buffer : List ℕ) → front (reply_of e buffer) ≡ e.answer
front_answer e buffer = take-append_seam e.answer (drop (length e.answer) buffer)

module _ (buffer : List ℕ) (room : answer_room ≤ length buffer) where
  take_same : (b c : Book) (p : List ℕ) → state_of b ≡ state_of c → whole b.held ≡ false → whole c.held ≡ false → reply_of (book_take b p) buffer ≡ reply_of (book_take c p) buffer
  take_same b c p e m n =
      sym (take_reply b p buffer room m) ∙ ap (λ (s : State). take_of s p buffer) e ∙ take_reply c p buffer room n

  takes_same : (n space : ℕ) (b c : Book) (p : List ℕ) → state_of b ≡ state_of c → whole b.held ≡ false → whole c.held ≡ false → Same (takes n space b p) (takes n space c p)
  takes_same zero space b c p e m n = record { used = refl; answers = refl; state = e }
  takes_same (suc k) space b c [] e m n = record { used = refl; answers = refl; state = e }
  takes_same (suc k) space b c (x ∷ p) e m n =
      go (ltb space answer_room) refl
      (takes_same k (space - length (book_take b (x ∷ p)).answer) (book_take b (x ∷ p)).book (book_take c (x ∷ p)).book (drop (book_take b (x ∷ p)).used (x ∷ p)) state (take_unfinished b (x ∷ p)) (take_unfinished c (x ∷ p)))
    where
      r : reply_of (book_take b (x ∷ p)) buffer ≡ reply_of (book_take c (x ∷ p)) buffer
      r = take_same b c (x ∷ p) e m n

      state : state_of (book_take b (x ∷ p)).book ≡ state_of (book_take c (x ∷ p)).book
      state = ap (λ (y : Reply). y.state) r

      used : (book_take b (x ∷ p)).used ≡ (book_take c (x ∷ p)).used
      used = ap (λ (y : Reply). y.used) r

      answer : (book_take b (x ∷ p)).answer ≡ (book_take c (x ∷ p)).answer
      answer = sym (front_answer (book_take b (x ∷ p)) buffer) ∙ ap front r ∙ front_answer (book_take c (x ∷ p)) buffer

      rest : takes k (space - length (book_take b (x ∷ p)).answer) (book_take c (x ∷ p)).book (drop (book_take b (x ∷ p)).used (x ∷ p))
          ≡ takes k (space - length (book_take c (x ∷ p)).answer) (book_take c (x ∷ p)).book (drop (book_take c (x ∷ p)).used (x ∷ p))
      rest = λ i. takes k (space - length (answer i)) (book_take c (x ∷ p)).book (drop (used i) (x ∷ p))

      go : (t : Bool) → ltb space answer_room ≡ t
          → Same (takes k (space - length (book_take b (x ∷ p)).answer) (book_take b (x ∷ p)).book (drop (book_take b (x ∷ p)).used (x ∷ p))) (takes k (space - length (book_take b (x ∷ p)).answer) (book_take c (x ∷ p)).book (drop (book_take b (x ∷ p)).used (x ∷ p)))
          → Same (takes (suc k) space b (x ∷ p)) (takes (suc k) space c (x ∷ p))
      go true h s = rw h (record { used = refl; answers = refl; state = e })
      go false h s =
          rw h
          (record {
            used = ap₂ (λ (i j : ℕ). i + j) used (s.used ∙ ap (λ (g : Given). g.used) rest);
            answers = ap₂ (λ (i j : List ℕ). i ++ j) answer (s.answers ∙ ap (λ (g : Given). g.answers) rest);
            state = s.state ∙ ap (λ (g : Given). state_of g.book) rest;
          })

-- for every run of bytes that leaves a state, hand_on from that state gives the book's delivery
pub hand_on-book : (b : Book) (p buffer : List ℕ) → answer_room ≤ length buffer → whole b.held ≡ false → hand_on (state_of b) p buffer ≡ given (delivery_of b p (length buffer)) buffer
unfolding hand_on delivery_of book_of
hand_on-book b p buffer h w =
    let c = book_of (state_of b) in
    let shown : state_of c ≡ state_of b = λ i. state_with (held_alike b.held w i) (view_recalled b.memory i) in
    let s = takes_same buffer h (length p) (length buffer) c b p shown (held_unfinished b.held w) w in
    rw (le-ltb (length buffer) answer_room h, good_state b w)
    (λ i. record { used = s.used i; len = length (s.answers i); number = 0; state = s.state i; buffer = s.answers i ++ drop (length (s.answers i)) buffer })
