-- Lists of calls one after another, and a delivery as a list of takes. Assumes nothing.
use Prim.Native.Nat.{ℕ, zero, suc, ◌+◌, ◌-◌, ◌≤◌, ◌<◌}
use mathlib.Core.Path.{◌≡◌, refl, sym, ap, ap₂, ◌∙◌}
use mathlib.Core.List.{List, [], ◌∷◌, ◌++◌, map, flatten, append_assoc, append-nil}
use mathlib.Core.Bool.{Bool, true, false, cond}
use native.Mathlib.Omega.{arith}
use lib.ListN.{length, take, drop, length-append, length-drop}
use lib.Dec.{ltb, eqb}
use lib.Seq.{take-add, take-append_seam, drop-drop}
use borrow.Author.Tests.{ltb-true, ne_eqb}
use Rattle.frames.specs.Frame.{answer_room}
use Rattle.service.specs.Book.{Book, Call, Take, Entry, Reply, book_take, book_call, book_replies, reply_of, buffer_of, is_small}
use Rattle.demands.specs.Stream.{Item, byte, joined_from, written_by, written}
use Rattle.demands.specs.Demands.{book_after, handed_on, AllLarge}
use Rattle.demands.proofs.Simulation.{after_append}
use Rattle.demands.proofs.Demands.{map_append, joined_append}
use Rattle.delivery.specs.Delivery.{Given, and_then, takes}
use Rattle.delivery.proofs.Takes.{uses}

-- ---- lists of calls one after another

flatten_append : (x y : List (List ℕ)) → flatten (x ++ y) ≡ flatten x ++ flatten y
unfolding flatten
flatten_append [] y = refl
flatten_append (a ∷ x) y = ap (λ (l : List ℕ). a ++ l) (flatten_append x y) ∙ sym (append_assoc a (flatten x) (flatten y))

written_append : (x y : List Reply) → written (x ++ y) ≡ written x ++ written y
written_append [] y = refl
written_append (r ∷ x) y = ap (λ (l : List (List ℕ)). written_by r ++ l) (written_append x y) ∙ sym (append_assoc (written_by r) (written x) (written y))

replies_append : (cs ds : List Call) (b : Book) → book_replies b (cs ++ ds) ≡ book_replies b cs ++ book_replies (book_after b cs) ds
replies_append [] ds b = refl
replies_append (c ∷ cs) ds b = ap {B = List Reply} (λ l. reply_of (book_call b c) (buffer_of c) ∷ l) (replies_append cs ds (book_call b c).book)

-- the answers that the book gave, one after another
abbrev pub answers_to : Book → List Call → List ℕ
answers_to b cs = flatten (written (book_replies b cs))

pub answers_append : (cs ds : List Call) (b : Book) → answers_to b (cs ++ ds) ≡ answers_to b cs ++ answers_to (book_after b cs) ds
answers_append cs ds b =
    ap (λ (l : List Reply). flatten (written l)) (replies_append cs ds b)
    ∙ ap flatten (written_append (book_replies b cs) (book_replies (book_after b cs) ds))
    ∙ flatten_append (written (book_replies b cs)) (written (book_replies (book_after b cs) ds))

answer_written : (a buffer : List ℕ) → flatten (cond (eqb (length a) 0) [] (take (length a) (a ++ drop (length a) buffer) ∷ [])) ≡ a
unfolding flatten
answer_written [] buffer = refl
answer_written (x ∷ a) buffer = rw (ne_eqb (length (x ∷ a)) 0 (λ z. let w : ⊥ = omega arith in w)) (append-nil _ ∙ take-append_seam (x ∷ a) (drop (length (x ∷ a)) buffer))

pub answers_cons : (b : Book) (c : Call) (cs : List Call) → answers_to b (c ∷ cs) ≡ (book_call b c).answer ++ answers_to (book_call b c).book cs
answers_cons b c cs =
    flatten_append (written_by (reply_of (book_call b c) (buffer_of c))) (written (book_replies (book_call b c).book cs))
    ∙ ap (λ (l : List ℕ). l ++ answers_to (book_call b c).book cs) (answer_written (book_call b c).answer (buffer_of c))

-- ---- a delivery is a list of takes

-- so many bytes of a piece were handed on by takes, with these answers and this book after them
pub record Calls (b : Book) (piece : List ℕ) (used : ℕ) (answers : List ℕ) (after : Book) : Type 0 where
  pub buffers : List (List ℕ)
  pub large : AllLarge buffers
  pub moves : joined_from b (handed_on b piece buffers) ≡ map byte (take used piece)
  pub writes : answers_to b (handed_on b piece buffers) ≡ answers
  pub leaves : book_after b (handed_on b piece buffers) ≡ after
  -- with more buffers the takes go on behind the bytes used
  pub goes_on : (more : List (List ℕ)) → handed_on b piece (buffers ++ more) ≡ handed_on b piece buffers ++ handed_on after (drop used piece) more

pub no_calls : (b : Book) (piece : List ℕ) → Calls b piece 0 [] b
unfolding flatten
no_calls b piece = record { buffers = []; large = tt; moves = refl; writes = refl; leaves = refl; goes_on = λ more. refl }

all_large : (x y : List (List ℕ)) → AllLarge x → AllLarge y → AllLarge (x ++ y)
all_large [] y a c = c
all_large (buffer ∷ x) y a c = (a.0, all_large x y a.1 c)

moved_add : (used more : ℕ) (piece : List ℕ) → map byte (take used piece) ++ map byte (take more (drop used piece)) ≡ map byte (take (used + more) piece)
moved_add used more piece = sym (map_append (take used piece) (take more (drop used piece))) ∙ ap (map byte) (sym (take-add used more piece))

-- one take, and then others
one_call : (b : Book) (x : ℕ) (p buffer : List ℕ) (g : Given) → is_small buffer ≡ false → Calls (book_take b (x ∷ p)).book (drop (book_take b (x ∷ p)).used (x ∷ p)) g.used g.answers g.book
    → let f = and_then (book_take b (x ∷ p)) g in Calls b (x ∷ p) f.used f.answers f.book
one_call b x p buffer g l s =
    let e = book_take b (x ∷ p) in
    let rest = handed_on e.book (drop e.used (x ∷ p)) s.buffers in
    let c : book_call b (Take (x ∷ p) buffer) ≡ e = rw l refl in
    record {
      buffers = buffer ∷ s.buffers;
      large = (l, s.large);
      moves =
          ap (λ (y : Entry). map byte (take y.used (x ∷ p)) ++ joined_from y.book rest) c
          ∙ ap (λ (i : List Item). map byte (take e.used (x ∷ p)) ++ i) s.moves
          ∙ moved_add e.used g.used (x ∷ p);
      writes = answers_cons b (Take (x ∷ p) buffer) rest ∙ ap (λ (y : Entry). y.answer ++ answers_to y.book rest) c ∙ ap (λ (a : List ℕ). e.answer ++ a) s.writes;
      leaves = ap (λ (y : Entry). book_after y.book rest) c ∙ s.leaves;
      goes_on = λ more.
          ap {B = List Call} (λ l. Take (x ∷ p) buffer ∷ l)
          (s.goes_on more ∙ ap (λ (l : List ℕ). rest ++ handed_on g.book l more) (drop-drop g.used e.used (x ∷ p)));
    }

-- some takes, and then others
pub more_calls : (b c d : Book) (p a a' : List ℕ) (u u' : ℕ) → Calls b p u a c → Calls c (drop u p) u' a' d → Calls b p (u + u') (a ++ a') d
more_calls b c d p a a' u u' s t =
    let first = handed_on b p s.buffers in
    let second = handed_on c (drop u p) t.buffers in
    let all : handed_on b p (s.buffers ++ t.buffers) ≡ first ++ second = s.goes_on t.buffers in
    record {
      buffers = s.buffers ++ t.buffers;
      large = all_large s.buffers t.buffers s.large t.large;
      moves =
          ap (joined_from b) all
          ∙ joined_append first second b
          ∙ ap₂ {C = List Item} (λ x y. x ++ y) s.moves (ap (λ (y : Book). joined_from y second) s.leaves ∙ t.moves)
          ∙ moved_add u u' p;
      writes =
          ap (answers_to b) all
          ∙ answers_append first second b
          ∙ ap₂ {C = List ℕ} (λ x y. x ++ y) s.writes (ap (λ (y : Book). answers_to y second) s.leaves ∙ t.writes);
      leaves = ap (book_after b) all ∙ after_append first second b ∙ ap (λ (y : Book). book_after y second) s.leaves ∙ t.leaves;
      goes_on = λ more.
          ap (handed_on b p) (append_assoc s.buffers t.buffers more)
          ∙ s.goes_on (t.buffers ++ more)
          ∙ ap (λ (l : List Call). first ++ l) (t.goes_on more ∙ ap (λ (l : List ℕ). second ++ handed_on d l more) (drop-drop u' u p))
          ∙ sym (append_assoc first second (handed_on d (drop (u + u') p) more))
          ∙ ap (λ (l : List Call). l ++ handed_on d (drop (u + u') p) more) (sym all);
    }

pub takes_calls : (buffer : List ℕ) → is_small buffer ≡ false → (n room : ℕ) (b : Book) (p : List ℕ) → let g = takes n room b p in Calls b p g.used g.answers g.book
takes_calls buffer l zero room b p = no_calls b p
takes_calls buffer l (suc n) room b [] = no_calls b []
takes_calls buffer l (suc n) room b (x ∷ p) =
    go (ltb room answer_room) refl
    (takes_calls buffer l n (room - length (book_take b (x ∷ p)).answer) (book_take b (x ∷ p)).book (drop (book_take b (x ∷ p)).used (x ∷ p)))
  where
    next : Given
    next = takes n (room - length (book_take b (x ∷ p)).answer) (book_take b (x ∷ p)).book (drop (book_take b (x ∷ p)).used (x ∷ p))

    go : (t : Bool) → ltb room answer_room ≡ t → Calls (book_take b (x ∷ p)).book (drop (book_take b (x ∷ p)).used (x ∷ p)) next.used next.answers next.book
        → let g = takes (suc n) room b (x ∷ p) in Calls b (x ∷ p) g.used g.answers g.book
    go true h s = rw h (no_calls b (x ∷ p))
    go false h s = rw h (one_call b x p buffer next l s)

-- takes stop before the piece's end only where there is no room for one more
pub takes_stop : (n room : ℕ) (b : Book) (p : List ℕ) → length p ≤ n → let g = takes n room b p in g.used < length p → room < length g.answers + answer_room
takes_stop zero room b p l u = absurd (omega arith)
takes_stop (suc n) room b [] l u = absurd (omega arith)
takes_stop (suc n) room b (x ∷ p) l u =
    go (ltb room answer_room) refl
    (takes_stop n (room - length (book_take b (x ∷ p)).answer) (book_take b (x ∷ p)).book (drop (book_take b (x ∷ p)).used (x ∷ p))
    (omega (arith, length-drop (book_take b (x ∷ p)).used (x ∷ p), uses b (x ∷ p) (omega arith))))
    u
  where
    next : Given
    next = takes n (room - length (book_take b (x ∷ p)).answer) (book_take b (x ∷ p)).book (drop (book_take b (x ∷ p)).used (x ∷ p))

    go : (t : Bool) → ltb room answer_room ≡ t
        → (next.used < length (drop (book_take b (x ∷ p)).used (x ∷ p)) → room - length (book_take b (x ∷ p)).answer < length next.answers + answer_room)
        → let g = takes (suc n) room b (x ∷ p) in g.used < length (x ∷ p) → room < length g.answers + answer_room
    go true h s = rw h (λ u. omega (arith, ltb-true room answer_room h))
    go false h s =
        rw h
        (λ u.
        let e = book_take b (x ∷ p) in
        let v = s (omega (arith, length-drop e.used (x ∷ p))) in
        omega (arith, length-append e.answer next.answers))
