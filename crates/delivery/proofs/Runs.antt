-- A run of whole frames in the book: an empty book takes them one after another, and a delivery goes on by them. Assumes nothing.
use Prim.Native.Nat.{ℕ, suc, ◌+◌, ◌-◌, ◌≤◌}
use mathlib.Core.Path.{◌≡◌, refl, sym, ap, subst, subst₂, ◌∙◌}
use mathlib.Core.List.{List, [], ◌∷◌, ◌++◌, append_assoc}
use native.Mathlib.Omega.{arith}
use lib.ListN.{length, take, drop, length-append, length-drop, take-append-drop}
use lib.Seq.{length-take-le, drop_at, drop-drop}
use borrow.Rule.Slice.PartMut.{put_mid}
use Rattle.words.proofs.Parts.{to_end, put_behind}
use Rattle.frames.specs.Frame.{body_length}
use Rattle.frames.proofs.Whole.{prefix_short, exact-is_whole}
use Rattle.partial_frame.specs.State.{empty_frame}
use Rattle.partial_frame.proofs.Held.{empty_held}
use Rattle.memory.specs.Memory.{Memory, view_of, answer_with, remembered, view_with}
use Rattle.memory.specs.declared.View.{View}
use Rattle.memory.proofs.Memory.{view_after}
use Rattle.service.specs.Book.{Book, Entry, Moved, state_with, emptied, move, one_more, settled, answered_by, book_take}
use Rattle.service.specs.declared.State.{State}
use Rattle.service.proofs.Simulation.{whole_none, move_whole, move_on}
use Rattle.runs.specs.Runs.{Frames, Answers}
use Rattle.runs.specs.declared.Run.{Run}
use Rattle.delivery.specs.Delivery.{Given, and_then, takes}
use Rattle.delivery.proofs.Takes.{takes_step, more_turns, behind, behind_none, behind_behind, Going, out_length}

-- ---- the first frame

-- a frame is moved to its end, and no byte behind it
move_frame : (g h : List ℕ) (b : ℕ) (p : List ℕ) → length (h ++ (b ∷ g)) ≡ 2 + body_length (h ++ (b ∷ g)) → move h (b ∷ (g ++ p)) ≡ record { held = h ++ (b ∷ g); used = suc (length g) }
move_frame [] h b p e = move_whole p h b (exact-is_whole (h ++ (b ∷ [])) e)
move_frame (a ∷ g) h b p e =
    let s : (h ++ (b ∷ [])) ++ (a ∷ g) ≡ h ++ (b ∷ (a ∷ g)) = append_assoc h (b ∷ []) (a ∷ g) in
    let e' : length ((h ++ (b ∷ [])) ++ (a ∷ g)) ≡ 2 + body_length ((h ++ (b ∷ [])) ++ (a ∷ g)) = rw s e in
    move_on (a ∷ (g ++ p)) h b (prefix_short (h ++ (b ∷ [])) g a e')
    ∙ ap one_more (move_frame g (h ++ (b ∷ [])) a p e')
    ∙ ap (λ (f : List ℕ). record { held = f; used = suc (suc (length g)) }) s

take_frame : (f p : List ℕ) (m : Memory) → length f ≡ 2 + body_length f → book_take (emptied m) (f ++ p) ≡ answered_by (answer_with (view_of m) f) (length f) f m
take_frame [] p m e = absurd (omega arith)
take_frame (b ∷ g) p m e = ap (λ (x : Moved). settled x m) (move_frame g [] b p e) ∙ rw (exact-is_whole (b ∷ g) e) refl

-- ---- a run

-- the takes of a run and what is behind it: those of its frames, and then those of the rest, with what is then remembered
record Behind (room : ℕ) (m : Memory) (front answers : List ℕ) (v : View) (p : List ℕ) (turns : ℕ) : Type 0 where
  memory : Memory
  view : v ≡ view_of memory
  left : ℕ
  enough : length p ≤ left
  same : takes turns room (emptied m) (front ++ p) ≡ behind (length front) answers (takes left (room - length answers) (emptied memory) p)

frames_takes : {room : ℕ} {v₀ v : View} {front answers : List ℕ} → Frames room v₀ front answers v → (m : Memory) → v₀ ≡ view_of m → (p : List ℕ) (turns : ℕ) → length (front ++ p) ≤ turns
    → Behind room m front answers v p turns
frames_takes {room} Frames.none m s p turns h =
    let all : room ≡ room - 0 = omega arith in
    record { memory = m; view = s; left = turns; enough = h; same = ap (λ (n : ℕ). takes turns n (emptied m) p) all ∙ behind_none (takes turns (room - 0) (emptied m) p) }
frames_takes {room} (Frames.more {front} {answers} {v} s f e r) m s₀ p turns h =
    let joined = append_assoc front f p in
    let i = frames_takes s m s₀ (f ++ p) turns (subst (λ (l : List ℕ). length l ≤ turns) joined h) in
    let b = emptied i.memory in
    let size = length-append f p in
    let n = more_turns i.left (omega (arith, i.enough)) in
    let after = remembered f (answer_with (view_of i.memory) f) i.memory in
    let a = (answer_with v f).bytes in
    let same_answer : (answer_with (view_of i.memory) f).bytes ≡ a = ap (λ (x : View). (answer_with x f).bytes) (sym i.view) in
    let room_left = room - length answers in
    let space : room_left - length a ≡ room - length (answers ++ a) = omega (arith, length-append answers a) in
    record {
      memory = after;
      view = ap (λ (x : View). view_with x f) i.view ∙ sym (view_after f i.memory);
      left = n.0;
      enough = omega (arith, i.enough, n.1);
      same =
          ap (takes turns room (emptied m)) joined
          ∙ i.same
          ∙ ap (behind (length front) answers)
          (ap (λ (k : ℕ). takes k room_left b (f ++ p)) n.1
          ∙ takes_step n.0 room_left b (f ++ p) (omega arith) r
          ∙ ap (λ (x : Entry). and_then x (takes n.0 (room_left - length x.answer) x.book (drop x.used (f ++ p)))) (take_frame f p i.memory e)
          ∙ (λ j. behind (length f) (same_answer j) (takes n.0 (room_left - length (same_answer j)) (emptied after) (drop (length f) (f ++ p)))))
          ∙ behind_behind (length front) (length f) answers a (takes n.0 (room_left - length a) (emptied after) (drop (length f) (f ++ p)))
          ∙ (λ j. behind (sym (length-append front f) j) (answers ++ a) (takes n.0 (space j) (emptied after) (drop_at f p (length f) refl j)));
    }

module _ {g : Given} {piece out₀ out : List ℕ} {s : State} {used len : ℕ} (go : Going g piece out₀ out s used len) (empty : go.book ≡ emptied go.book.memory) (r : Run) (w : List ℕ)
    (a : Answers s.view (take (length piece - used) (drop used piece)) r (take (length out - len) (drop len out)) w) where
  left : length (take (length piece - used) (drop used piece)) ≡ length piece - used
  left = ap length (to_end used piece) ∙ length-drop used piece

  room_left : length (take (length out - len) (drop len out)) ≡ length out₀ - len
  room_left = ap length (to_end len out) ∙ length-drop len out ∙ ap (λ (n : ℕ). n - len) (out_length go)

  abbrev front : List ℕ
  front = take r.used (drop used piece)

  abbrev rest : List ℕ
  rest = drop r.used (drop used piece)

  all : front ++ rest ≡ drop used piece
  all = take-append-drop r.used (drop used piece)

  front_length : length front ≡ r.used
  front_length = length-take-le r.used (drop used piece) (omega (arith, a.within, ap length (to_end used piece)))

  frames : Frames (length out₀ - len) s.view front a.answers r.view
  frames = subst₂ (λ (n : ℕ) (p : List ℕ). Frames n s.view (take r.used p) a.answers r.view) room_left (to_end used piece) a.frames

  pub going_run : {after : State} → after ≡ state_with empty_frame r.view → Going g piece out₀ (put_mid len (length out - len) out w) after (used + r.used) (len + r.len)
  going_run {after} e =
      let m = go.book.memory in
      let f = frames_takes frames m (ap (λ (x : State). x.view) go.shown) rest go.turns (omega (arith, ap length all, length-drop used piece, go.enough)) in
      let b = emptied f.memory in
      let space : length out₀ - len - length a.answers ≡ length out₀ - (len + r.len) = omega (arith, a.len) in
      record {
        book = b;
        answers = go.answers ++ a.answers;
        turns = f.left;
        shown = e ∙ (λ j. state_with (sym empty_held j) (f.view j));
        unfinished = whole_none;
        within = omega (arith, a.within, left, go.within);
        room = omega (arith, a.fits, room_left, go.room);
        enough = omega (arith, f.enough, length-drop used piece, length-drop r.used (drop used piece));
        long = length-append go.answers a.answers ∙ omega (arith, go.long, a.len);
        front = put_behind len r.len out out₀ go.answers a.answers w go.long go.front a.buffer;
        rest =
            go.rest
            ∙ ap (λ (b : Book). behind used go.answers (takes go.turns (length out₀ - len) b (drop used piece))) empty
            ∙ ap (behind used go.answers) (ap (takes go.turns (length out₀ - len) (emptied m)) (sym all) ∙ f.same)
            ∙ behind_behind used (length front) go.answers a.answers (takes f.left (length out₀ - len - length a.answers) b rest)
            ∙ (λ j. behind (used + front_length j) (go.answers ++ a.answers) (takes f.left (space j) b (drop-drop r.used used piece j)));
      }
