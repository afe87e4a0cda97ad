-- The joined bytes part into the frames that the book answered, call by call. Assumes nothing.
use Prim.Native.Nat.{ℕ}
use mathlib.Core.Path.{◌≡◌, refl, sym, ap, ap₂, ◌∙◌}
use mathlib.Core.Logic.{◌≢◌}
use mathlib.Core.List.{List, [], ◌∷◌, ◌++◌, map, append_assoc, append-nil}
use mathlib.Core.Bool.{Bool, true, false, cond}
use lib.ListN.{take}
use lib.Seq.{take-append_seam}
use Rattle.frames.specs.Frame.{whole, refusal_frame}
use Rattle.memory.specs.Memory.{Memory, view_of, answer_with, remembered}
use Rattle.service.proofs.Memory.{answer_some}
use Rattle.partial_frame.specs.declared.PartialFrame.{PartialFrame}
use Rattle.service.specs.Book.{Book, state_with, state_of, emptied, Call, Take, Close, Moved, move, answered, closed_with, book_call, reply_of, buffer_of, book_replies, is_small}
use Rattle.demands.specs.Stream.{Item, byte, moved_by, joined_from, Point, frame, closed, Parts, one_point, parted_from, answers_from, written_by, written}
use Rattle.service.specs.Service.{fresh_state}
use Rattle.demands.specs.Demands.{book_after}
use Rattle.partial_frame.proofs.Held.{empty_held}
use Rattle.service.proofs.Simulation.{move_whole, move_on}
use Rattle.demands.proofs.Simulation.{held_short}

-- what comes after the moved_by bytes is parted from where the book then stands
abbrev after : Moved → List Item → Parts
after m is = cond (whole m.held) (one_point (frame m.held) (parted_from [] is)) (parted_from m.held is)

part_moved : (p h : List ℕ) (is : List Item) → whole h ≡ false → parted_from h (map byte (take (move h p).used p) ++ is) ≡ after (move h p) is
part_moved [] h is n = rw n refl
part_moved (b ∷ p) h is n = go (whole (h ++ (b ∷ []))) refl (part_moved p (h ++ (b ∷ [])) is)
  where
    go : (t : Bool) → whole (h ++ (b ∷ [])) ≡ t
        → (whole (h ++ (b ∷ [])) ≡ false → parted_from (h ++ (b ∷ [])) (map byte (take (move (h ++ (b ∷ [])) p).used p) ++ is) ≡ after (move (h ++ (b ∷ [])) p) is)
        → parted_from h (map byte (take (move h (b ∷ p)).used (b ∷ p)) ++ is) ≡ after (move h (b ∷ p)) is
    go true w ih = rw (move_whole p h b w, w) refl
    go false w ih = rw (move_on p h b w, w) (ih w)

close_held : (h : List ℕ) (c : Memory) → (closed_with h c).book ≡ record { held = []; memory = c }
close_held [] c = refl
close_held (b ∷ h) c = refl

-- the points of one call
abbrev pub points_by : Book → Call → List Point
points_by h (Take p buffer) = cond (is_small buffer) [] (cond (whole (move h.held p).held) (frame (move h.held p).held ∷ []) [])
points_by h (Close buffer) = cond (is_small buffer) [] (closed h.held ∷ [])

-- one call's points, then those of the rest of the calls
part_call : (c : Call) (h : Book) (is : List Item) → whole h.held ≡ false
    → parted_from h.held (moved_by c (book_call h c) ++ is) ≡ record { points = points_by h c ++ (parted_from (book_call h c).book.held is).points; rest = (parted_from (book_call h c).book.held is).rest }
part_call (Take p buffer) h is n = go (is_small buffer) (whole (move h.held p).held) refl refl
  where
    go : (s t : Bool) → is_small buffer ≡ s → whole (move h.held p).held ≡ t
        → parted_from h.held (moved_by (Take p buffer) (book_call h (Take p buffer)) ++ is) ≡ record { points = points_by h (Take p buffer) ++ (parted_from (book_call h (Take p buffer)).book.held is).points; rest = (parted_from (book_call h (Take p buffer)).book.held is).rest }
    go true t e f = rw e refl
    go false true e f = rw (e, f) (part_moved p h.held is n ∙ rw f refl)
    go false false e f = rw (e, f) (part_moved p h.held is n ∙ rw f refl)
part_call (Close buffer) h is n = go (is_small buffer) refl
  where
    go : (t : Bool) → is_small buffer ≡ t → parted_from h.held (moved_by (Close buffer) (book_call h (Close buffer)) ++ is) ≡ record { points = points_by h (Close buffer) ++ (parted_from (book_call h (Close buffer)).book.held is).points; rest = (parted_from (book_call h (Close buffer)).book.held is).rest }
    go true e = rw e refl
    go false e = rw (e, close_held h.held h.memory) refl

-- the memory behind some points
abbrev pub memory_after : Memory → List Point → Memory
memory_after c [] = c
memory_after c (frame f ∷ ps) = memory_after (remembered f (answer_with (view_of c) f) c) ps
memory_after c (closed h ∷ ps) = memory_after c ps

answers_append : (ps qs : List Point) (c : Memory) → answers_from c (ps ++ qs) ≡ answers_from c ps ++ answers_from (memory_after c ps) qs
answers_append [] qs c = refl
answers_append (frame f ∷ ps) qs c =
    ap {B = List (List ℕ)} (λ l. (answer_with (view_of c) f).bytes ∷ l) (answers_append ps qs (remembered f (answer_with (view_of c) f) c))
answers_append (closed [] ∷ ps) qs c = answers_append ps qs c
answers_append (closed (b ∷ h) ∷ ps) qs c = ap {B = List (List ℕ)} (λ l. refusal_frame 8 ∷ l) (answers_append ps qs c)

memory_append : (ps qs : List Point) (c : Memory) → memory_after c (ps ++ qs) ≡ memory_after (memory_after c ps) qs
memory_append [] qs c = refl
memory_append (frame f ∷ ps) qs c = memory_append ps qs (remembered f (answer_with (view_of c) f) c)
memory_append (closed h ∷ ps) qs c = memory_append ps qs c

memory_call : (c : Call) (h : Book) → memory_after h.memory (points_by h c) ≡ (book_call h c).book.memory
memory_call (Take p buffer) h = go (is_small buffer) (whole (move h.held p).held) refl refl
  where
    go : (s t : Bool) → is_small buffer ≡ s → whole (move h.held p).held ≡ t → memory_after h.memory (points_by h (Take p buffer)) ≡ (book_call h (Take p buffer)).book.memory
    go true t e f = rw e refl
    go false true e f = rw (e, f) refl
    go false false e f = rw (e, f) refl
memory_call (Close buffer) h = go (is_small buffer) refl
  where
    go : (t : Bool) → is_small buffer ≡ t → memory_after h.memory (points_by h (Close buffer)) ≡ (book_call h (Close buffer)).book.memory
    go true e = rw e refl
    go false e = rw (e, close_held h.held h.memory) refl

pub written_call : (c : Call) (h : Book) → written_by (reply_of (book_call h c) (buffer_of c)) ≡ answers_from h.memory (points_by h c)
written_call (Take p buffer) h = go (is_small buffer) (whole (move h.held p).held) refl refl
  where
    go : (s t : Bool) → is_small buffer ≡ s → whole (move h.held p).held ≡ t → written_by (reply_of (book_call h (Take p buffer)) buffer) ≡ answers_from h.memory (points_by h (Take p buffer))
    go true t e f = rw e refl
    go false true e f =
        rw (e, f, answer_some (view_of h.memory) (move h.held p).held)
        (ap (λ (a : List ℕ). a ∷ []) (take-append_seam (answer_with (view_of h.memory) (move h.held p).held).bytes _))
    go false false e f = rw (e, f) refl
written_call (Close buffer) h = go (is_small buffer) refl
  where
    close_written : (k : List ℕ) → written_by (reply_of (closed_with k h.memory) buffer) ≡ answers_from h.memory (closed k ∷ [])
    close_written [] = refl
    close_written (b ∷ k) = refl

    go : (t : Bool) → is_small buffer ≡ t → written_by (reply_of (book_call h (Close buffer)) buffer) ≡ answers_from h.memory (points_by h (Close buffer))
    go true e = rw e refl
    go false e = rw e (close_written h.held)

pub written_points : (cs : List Call) (h : Book) → whole h.held ≡ false → written (book_replies h cs) ≡ answers_from h.memory (parted_from h.held (joined_from h cs)).points
written_points [] h n = refl
written_points (c ∷ cs) h n =
    let b = (book_call h c).book in
    let ps = (parted_from b.held (joined_from b cs)).points in
    ap₂ {C = List (List ℕ)} (λ x y. x ++ y) (written_call c h) (written_points cs b (held_short c h n))
    ∙ ap (λ (k : Memory). answers_from h.memory (points_by h c) ++ answers_from k ps) (sym (memory_call c h))
    ∙ sym (answers_append (points_by h c) ps h.memory)
    ∙ sym (ap (λ (q : Parts). answers_from h.memory q.points) (part_call c h (joined_from b cs) n))

-- a book that holds no byte shows the fresh state but for what it remembers
abbrev FreshBut : Book → Type 0
FreshBut b = state_of b ≡ state_with fresh_state.frame (view_of b.memory)

emptied_fresh : (m : Memory) → FreshBut (emptied m)
emptied_fresh m = ap (λ (s : PartialFrame). state_with s (view_of m)) empty_held

fresh_call : (c : Call) (h : Book) → points_by h c ≢ [] → FreshBut (book_call h c).book
fresh_call (Take p buffer) h = go (is_small buffer) (whole (move h.held p).held) refl refl
  where
    go : (s t : Bool) → is_small buffer ≡ s → whole (move h.held p).held ≡ t → points_by h (Take p buffer) ≢ [] → FreshBut (book_call h (Take p buffer)).book
    go true t e f = rw e (λ z. absurd (z refl))
    go false true e f = rw (e, f) (λ z. emptied_fresh (answered (move h.held p) h.memory).book.memory)
    go false false e f = rw (e, f) (λ z. absurd (z refl))
fresh_call (Close buffer) h = go (is_small buffer) refl
  where
    go : (t : Bool) → is_small buffer ≡ t → points_by h (Close buffer) ≢ [] → FreshBut (book_call h (Close buffer)).book
    go true e = rw e (λ z. absurd (z refl))
    go false e = rw (e, close_held h.held h.memory) (λ z. emptied_fresh h.memory)

abbrev points_from : Book → List Call → List Point
points_from h cs = (parted_from h.held (joined_from h cs)).points

points_cons : (c : Call) (cs : List Call) (h : Book) → whole h.held ≡ false → points_from h (c ∷ cs) ≡ points_by h c ++ points_from (book_call h c).book cs
points_cons c cs h n = ap (λ (q : Parts). q.points) (part_call c h (joined_from (book_call h c).book cs) n)

-- a call that adds a point leaves a book that holds no byte
pub fresh_after : (cs : List Call) (c : Call) (h : Book) → whole h.held ≡ false → points_from h (cs ++ (c ∷ [])) ≢ points_from h cs
    → FreshBut (book_call (book_after h cs) c).book
fresh_after [] c h n z = fresh_call c h (λ e. z (points_cons c [] h n ∙ append-nil (points_by h c) ∙ e))
fresh_after (d ∷ cs) c h n z =
    let b = (book_call h d).book in
    fresh_after cs c b (held_short d h n)
    (λ e. z (points_cons d (cs ++ (c ∷ [])) h n ∙ ap (λ (ps : List Point). points_by h d ++ ps) e ∙ sym (points_cons d cs h n)))

-- the book holds the unfinished end
pub held_rest : (cs : List Call) (h : Book) → whole h.held ≡ false → (book_after h cs).held ≡ (parted_from h.held (joined_from h cs)).rest
held_rest [] h n = refl
held_rest (c ∷ cs) h n =
    held_rest cs (book_call h c).book (held_short c h n)
    ∙ sym (ap (λ (q : Parts). q.rest) (part_call c h (joined_from (book_call h c).book cs) n))

-- and remembers what its points leave
pub memory_points : (cs : List Call) (h : Book) → whole h.held ≡ false → (book_after h cs).memory ≡ memory_after h.memory (points_from h cs)
memory_points [] h n = refl
memory_points (c ∷ cs) h n =
    let b = (book_call h c).book in
    memory_points cs b (held_short c h n)
    ∙ ap (λ (m : Memory). memory_after m (points_from b cs)) (sym (memory_call c h))
    ∙ sym (memory_append (points_by h c) (points_from b cs) h.memory)
    ∙ sym (ap (memory_after h.memory) (points_cons c cs h n))

-- a call adds its points behind those of the calls before it
pub points_behind : (cs : List Call) (c : Call) (h : Book) → whole h.held ≡ false → points_from h (cs ++ (c ∷ [])) ≡ points_from h cs ++ points_by (book_after h cs) c
points_behind [] c h n = points_cons c [] h n ∙ append-nil (points_by h c)
points_behind (d ∷ cs) c h n =
    let b = (book_call h d).book in
    points_cons d (cs ++ (c ∷ [])) h n
    ∙ ap (λ (ps : List Point). points_by h d ++ ps) (points_behind cs c b (held_short d h n))
    ∙ sym (append_assoc (points_by h d) (points_from b cs) (points_by (book_after b cs) c))
    ∙ ap (λ (ps : List Point). ps ++ points_by (book_after b cs) c) (sym (points_cons d cs h n))
