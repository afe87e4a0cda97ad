-- How long the answers to a piece are: those to the frames that begin in it at most seven times as long as it is. Assumes nothing.
use Prim.Native.Nat.{ℕ, zero, suc, ◌+◌, ◌*◌, ◌-◌, ◌≤◌}
use mathlib.Core.Path.{◌≡◌, refl, sym, ap, ◌∙◌}
use mathlib.Core.List.{List, [], ◌∷◌, ◌++◌}
use mathlib.Core.Bool.{Bool, true, false, true≢false}
use native.Mathlib.Omega.{arith}
use lib.ListN.{length, drop, length-append, drop_of_length-le}
use lib.Dec.{ltb}
use borrow.Author.Tests.{leb-true}
use Rattle.frames.specs.Frame.{answer_room, body_length, whole}
use Rattle.memory.specs.Memory.{view_of}
use Rattle.service.specs.Book.{Book, Entry, move, book_take}
use Rattle.service.proofs.Memory.{answer_length}
use Rattle.delivery.specs.Delivery.{Given, takes}
use Rattle.delivery.proofs.Takes.{answer_most, takes_none}

moved_length : (p h : List ℕ) → length (move h p).held ≡ length h + (move h p).used
moved_length [] h = omega arith
moved_length (b ∷ p) h = go (whole (h ++ (b ∷ []))) refl (moved_length p (h ++ (b ∷ [])))
  where
    go : (t : Bool) → whole (h ++ (b ∷ [])) ≡ t → length (move (h ++ (b ∷ [])) p).held ≡ length (h ++ (b ∷ [])) + (move (h ++ (b ∷ [])) p).used
        → length (move h (b ∷ p)).held ≡ length h + (move h (b ∷ p)).used
    go true w i = rw w (length-append h (b ∷ []))
    go false w i = rw w (omega (arith, length-append h (b ∷ [])))

-- bytes that make no whole frame are all moved
moved_all : (p h : List ℕ) → whole (move h p).held ≡ false → length p ≤ (move h p).used
moved_all [] h = λ n. omega arith
moved_all (b ∷ p) h = go (whole (h ++ (b ∷ []))) refl (moved_all p (h ++ (b ∷ [])))
  where
    go : (t : Bool) → whole (h ++ (b ∷ [])) ≡ t → (whole (move (h ++ (b ∷ [])) p).held ≡ false → length p ≤ (move (h ++ (b ∷ [])) p).used)
        → whole (move h (b ∷ p)).held ≡ false → length (b ∷ p) ≤ (move h (b ∷ p)).used
    go true w i = rw w (λ n. absurd (true≢false (sym w ∙ n)))
    go false w i = rw w (λ n. let l = i n in omega arith)

-- one take: it answers a frame and empties the book, or it takes the whole piece and answers nothing
data Took (b : Book) (p : List ℕ) (e : Entry) : Type 0 where
  frame : e.book.held ≡ [] → length e.answer ≤ 7 * (length b.held + e.used) → Took b p e
  piece : e.answer ≡ [] → length p ≤ e.used → Took b p e

took : (b : Book) (p : List ℕ) → Took b p (book_take b p)
unfolding whole
took b p = go (whole f) refl
  where
    f : List ℕ
    f = (move b.held p).held

    go : (t : Bool) → whole f ≡ t → Took b p (book_take b p)
    go true w = rw w (Took.frame refl (omega (arith, (answer_length (view_of b.memory) f).2, leb-true (2 + body_length f) (length f) w, moved_length p b.held)))
    go false w = rw w (Took.piece refl (moved_all p b.held w))

nothing_left : (n room : ℕ) (b : Book) (p : List ℕ) (used : ℕ) → length p ≤ used → length (takes n room b (drop used p)).answers ≡ 0
nothing_left n room b p used h =
    ap (λ (l : List ℕ). length (takes n room b l).answers) (drop_of_length-le p h) ∙ ap (λ (g : Given). length g.answers) (takes_none n room b)

-- takes from a book that holds no byte, and from any book
takes_length : (n room : ℕ) (b : Book) (p : List ℕ) → b.held ≡ [] → let g = takes n room b p in length g.answers ≤ 7 * g.used
takes_length zero room b p h = omega arith
takes_length (suc n) room b [] h = omega arith
takes_length (suc n) room b (x ∷ p) h =
    go (ltb room answer_room) refl (took b (x ∷ p))
    (takes_length n (room - length (book_take b (x ∷ p)).answer) (book_take b (x ∷ p)).book (drop (book_take b (x ∷ p)).used (x ∷ p)))
  where
    next : Given
    next = takes n (room - length (book_take b (x ∷ p)).answer) (book_take b (x ∷ p)).book (drop (book_take b (x ∷ p)).used (x ∷ p))

    go : (t : Bool) → ltb room answer_room ≡ t → Took b (x ∷ p) (book_take b (x ∷ p)) → ((book_take b (x ∷ p)).book.held ≡ [] → length next.answers ≤ 7 * next.used)
        → let g = takes (suc n) room b (x ∷ p) in length g.answers ≤ 7 * g.used
    go true e k i = rw e (omega arith)
    go false e (Took.frame z l) i =
        let m = i z in
        rw e (omega (arith, ap length h, length-append (book_take b (x ∷ p)).answer next.answers))
    go false e (Took.piece z l) i =
        rw e (omega (arith, ap length z, nothing_left n (room - length (book_take b (x ∷ p)).answer) (book_take b (x ∷ p)).book (x ∷ p) (book_take b (x ∷ p)).used l, length-append (book_take b (x ∷ p)).answer next.answers))

pub takes_most : (n room : ℕ) (b : Book) (p : List ℕ) → let g = takes n room b p in length g.answers ≤ answer_room + 7 * g.used
takes_most zero room b p = omega arith
takes_most (suc n) room b [] = omega arith
takes_most (suc n) room b (x ∷ p) = go (ltb room answer_room) refl (took b (x ∷ p))
  where
    next : Given
    next = takes n (room - length (book_take b (x ∷ p)).answer) (book_take b (x ∷ p)).book (drop (book_take b (x ∷ p)).used (x ∷ p))

    go : (t : Bool) → ltb room answer_room ≡ t → Took b (x ∷ p) (book_take b (x ∷ p)) → let g = takes (suc n) room b (x ∷ p) in length g.answers ≤ answer_room + 7 * g.used
    go true e k = rw e (omega arith)
    go false e (Took.frame z l) =
        let m = takes_length n (room - length (book_take b (x ∷ p)).answer) (book_take b (x ∷ p)).book (drop (book_take b (x ∷ p)).used (x ∷ p)) z in
        rw e (omega (arith, answer_most b (x ∷ p), length-append (book_take b (x ∷ p)).answer next.answers))
    go false e (Took.piece z l) =
        rw e (omega (arith, ap length z, nothing_left n (room - length (book_take b (x ∷ p)).answer) (book_take b (x ∷ p)).book (x ∷ p) (book_take b (x ∷ p)).used l, length-append (book_take b (x ∷ p)).answer next.answers))
