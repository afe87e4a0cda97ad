-- `take_of` and `close_of`, case by case, as the code comes to them: the steps over what is held are the moves of the book. Assumes nothing.
use Prim.Native.Nat.{ℕ, zero, suc, ◌+◌, ◌≤◌}
use mathlib.Core.Path.{◌≡◌, refl, sym, ap, subst, ◌∙◌}
use mathlib.Core.List.{List, [], ◌∷◌, ◌++◌}
use mathlib.Core.Bool.{Bool, true, false, cond}
use Rattle.std.specs.Prelude.{Result, Ok, Err}
use lib.Dec.{ltb}
use native.Mathlib.Omega.{arith}
use lib.ListN.{length, take, drop}
use borrow.Author.Tests.{le-ltb, ltb-false, leb-true, leb-false}
use Rattle.frames.specs.Frame.{longest_body, answer_room, body_length, whole, kept, refusal_frame}
use Rattle.answers.specs.Answers.{Answer, answer_of}
use Rattle.partial_frame.specs.State.{frame_of, empty_frame, bytes_in, first_bytes, is_left, length_in, filled, kept_bytes, places_of}
use Rattle.partial_frame.specs.Steps.{after_byte, whole_in, further, advance}
use Rattle.counts.specs.Counts.{shown_next}
use Rattle.memory.specs.Memory.{Memory, view_of, is_view, Sized, answer_with, remembered, answer_by, view_by, view_with}
use Rattle.memory.specs.declared.View.{View}
use Rattle.memory.proofs.Memory.{view_after}
use Rattle.service.specs.Whole.{Whole, body_in}
use Rattle.service.specs.Book.{empty_book, emptied, state_with, state_of, Entry, Moved, Reply, move, one_more, closed_with, reply_of, is_small}
use Rattle.service.specs.Service.{fresh_state, is_good, book_of, take_of, close_of, untouched, taken_of, closed_of}
use Rattle.service.specs.declared.State.{State}
use Rattle.service.specs.Refusals.{number_of, checked}
use Rattle.service.specs.declared.Refusal.{Refusal}
use Rattle.service.specs.declared.Refusal.TheVariants.{SmallBuffer, BadState, Unfinished}
use Rattle.partial_frame.specs.declared.PartialFrame.{PartialFrame}
use Rattle.partial_frame.specs.Steps.{Progress}
use Rattle.partial_frame.proofs.Places.{take_padded, and_true, length_places}
use Rattle.frames.proofs.Refusals.{kept_bounds}
use Rattle.answers.proofs.Answers.{answer_by-length}
use Rattle.partial_frame.proofs.Held.{byte_held, whole_held, not_past, empty_held}
use Rattle.partial_frame.proofs.Reach.{reach_sound, filled_held}
use Rattle.service.proofs.Memory.{view_shown}
use Rattle.service.proofs.Simulation.{move_whole, move_on, fresh_whole, whole_none, good_state}
use Rattle.service.specs.declared.Closed.{Closed}

-- the machine from the state of h is the book from h
abbrev shown_progress : Moved → Progress
shown_progress m = record { frame = frame_of m.held; used = m.used }

one_further : (m : Moved) → further 1 (shown_progress m) ≡ shown_progress (one_more m)
one_further m = ap (λ (n : ℕ). record { frame = frame_of m.held; used = n }) (omega arith)

pub advance_book : (p h : List ℕ) → whole h ≡ false → advance (frame_of h) p ≡ shown_progress (move h p)
advance_book [] h n = refl
advance_book (b ∷ p) h n = go (whole (h ++ (b ∷ []))) refl (advance_book p (h ++ (b ∷ [])))
  where
    f : whole_in (after_byte (frame_of h) b) ≡ whole (h ++ (b ∷ []))
    f = ap whole_in (byte_held h b) ∙ sym (whole_held (h ++ (b ∷ [])))

    go : (t : Bool) → whole (h ++ (b ∷ [])) ≡ t
        → (whole (h ++ (b ∷ [])) ≡ false → advance (frame_of (h ++ (b ∷ []))) p ≡ shown_progress (move (h ++ (b ∷ [])) p))
        → advance (frame_of h) (b ∷ p) ≡ shown_progress (move h (b ∷ p))
    go true w ih =
        rw (f, w) (ap (λ (s : PartialFrame). record { frame = s; used = 1 }) (byte_held h b)) ∙ sym (ap shown_progress (move_whole p h b w))
    go false w ih =
        rw (f, w) (ap (λ (s : PartialFrame). further 1 (advance s p)) (byte_held h b) ∙ ap (further 1) (ih w) ∙ one_further (move (h ++ (b ∷ [])) p))
        ∙ sym (ap shown_progress (move_on p h b w))

-- a frame is never more than whole
pub move_past : (p h : List ℕ) → whole h ≡ false → length (move h p).held ≤ 2 + body_length (move h p).held
unfolding whole
move_past [] h n = omega (arith, leb-false (2 + body_length h) (length h) n)
move_past (b ∷ p) h n = go (whole (h ++ (b ∷ []))) refl (move_past p (h ++ (b ∷ [])))
  where
    go : (t : Bool) → whole (h ++ (b ∷ [])) ≡ t
        → (whole (h ++ (b ∷ [])) ≡ false → length (move (h ++ (b ∷ [])) p).held ≤ 2 + body_length (move (h ++ (b ∷ [])) p).held)
        → length (move h (b ∷ p)).held ≤ 2 + body_length (move h (b ∷ p)).held
    go true w ih = rw w (not_past h b n)
    go false w ih = rw w (ih w)

-- what the state of a whole frame shows of its body
pub filled_whole : (f : List ℕ) → whole f ≡ true → length f ≤ 2 + body_length f → kept (body_length f) ≡ true → filled (frame_of f) ≡ body_length f
unfolding whole
filled_whole f w l k = rw k (omega (arith, leb-true (2 + body_length f) (length f) w))

pub filled_most : (f : List ℕ) → length f ≤ 2 + body_length f → filled (frame_of f) ≤ longest_body
filled_most f l = go (kept (body_length f)) refl
  where
    go : (t : Bool) → kept (body_length f) ≡ t → filled (frame_of f) ≤ longest_body
    go true k = let m = kept_bounds (body_length f) k in rw k (omega arith)
    go false k = rw k (omega arith)

kept_all : (f : List ℕ) → kept (body_length f) ≡ true → kept_bytes f ≡ drop 2 f
unfolding kept_bytes
kept_all f k = rw k refl

-- the answer to a whole frame, by what is held for it
pub answer_kept : (v : View) (f : List ℕ) → length f ≤ 2 + body_length f → answer_by v (body_length f) (body_in (frame_of f)) ≡ answer_with v f
unfolding answer_of places_of
answer_kept v f l = go (kept (body_length f)) refl
  where
    go : (t : Bool) → kept (body_length f) ≡ t → answer_by v (body_length f) (body_in (frame_of f)) ≡ answer_with v f
    go true k =
        ap (answer_by v (body_length f))
        (ap (λ (n : ℕ). take n (places_of (kept_bytes f))) (filled_held f)
        ∙ take_padded longest_body (kept_bytes f) (omega (arith, filled_held f, filled_most f l))
        ∙ kept_all f k)
    go false k = answer_by-length v.counts (body_length f) (body_in (frame_of f)) (drop 2 f) k

-- and what is shown after it
pub view_kept : (v : View) (f : List ℕ) → length f ≤ 2 + body_length f → view_by v (body_length f) (body_in (frame_of f)) ≡ view_with v f
unfolding answer_of
view_kept v f l = ap (λ (a : Answer). record { counts = shown_next a.number v.counts }) (answer_kept v f l)

-- ---- what refuses a call before anything else

abbrev pub numbered : Result Unit Refusal → ℕ
numbered (Ok x) = 0
numbered (Err e) = number_of e

pub some_number : (e : Refusal) → number_of e ≡ 0 → ⊥
some_number SmallBuffer z = absurd (omega arith)
some_number BadState z = absurd (omega arith)
some_number Unfinished z = absurd (omega arith)

pub checked_ok : (s : State) (n : ℕ) {r : Result Unit Refusal} → r ≡ checked s n → numbered r ≡ 0 → (answer_room ≤ n) × (is_good s ≡ true)
checked_ok s n {r} e z = go (ltb n answer_room) (is_good s) refl refl (sym (ap numbered e) ∙ z)
  where
    go : (t g : Bool) → ltb n answer_room ≡ t → is_good s ≡ g → numbered (checked s n) ≡ 0 → (answer_room ≤ n) × (is_good s ≡ true)
    go true g t f z = let y = rw t at z in absurd (omega arith)
    go false true t f z = (ltb-false n answer_room t, f)
    go false false t f z = let y = rw (t, f) at z in absurd (omega arith)

pub checked_good : (s : State) (n : ℕ) → answer_room ≤ n → is_good s ≡ true → numbered (checked s n) ≡ 0
checked_good s n h g = rw (le-ltb n answer_room h, g) refl

-- refusal 6, refusal 7
module _ (s : State) (buffer : List ℕ) {e : Refusal} (h : Err e ≡ checked s (length buffer)) where
  refused : numbered (checked s (length buffer)) ≡ number_of e
  refused = sym (ap numbered h)

  pub refused_by : {A : Type 0} (f : ℕ → A) (x : A) → cond (is_small buffer) (f 6) (cond (is_good s) x (f 7)) ≡ f (number_of e)
  refused_by {A} f x = go (is_small buffer) (is_good s) refl refl
    where
      go : (t g : Bool) → is_small buffer ≡ t → is_good s ≡ g → cond (is_small buffer) (f 6) (cond (is_good s) x (f 7)) ≡ f (number_of e)
      go true g t k = let y = rw t at refused in rw t (ap f y)
      go false true t k = let y = rw (t, k) at refused in absurd (some_number e (sym y))
      go false false t k = let y = rw (t, k) at refused in rw (t, k) (ap f y)

  pub take_refused : (p : List ℕ) → take_of s p buffer ≡ untouched (number_of e) s buffer
  unfolding take_of
  take_refused p = refused_by (λ n. untouched n s buffer) _

  pub close_refused : close_of s buffer ≡ untouched (number_of e) s buffer
  unfolding close_of
  close_refused = refused_by (λ n. untouched n s buffer) _

-- refusal 7, by the state
pub take_bad : (s : State) (p buffer : List ℕ) → is_small buffer ≡ false → is_good s ≡ false → take_of s p buffer ≡ untouched 7 s buffer
unfolding take_of
take_bad s p buffer e f = rw (e, f) refl

pub close_bad : (s : State) (buffer : List ℕ) → is_small buffer ≡ false → is_good s ≡ false → close_of s buffer ≡ untouched 7 s buffer
unfolding close_of
close_bad s buffer e f = rw (e, f) refl

-- a good state is that of a book, which is unfinished
pub shown_by : (s : State) → length s.frame.body ≡ longest_body → Sized s.view → is_good s ≡ true → (s ≡ state_of (book_of s)) × (whole (book_of s).held ≡ false)
unfolding is_good book_of
shown_by s l z e =
    let g = and_true (is_left s.frame) (is_view s.view) e in
    let h = reach_sound s.frame l g.0 in
    ((λ i. state_with (h.1 i) (view_shown s.view z g.1 i)), h.0)

module _ (s : State) (shown : s ≡ state_of (book_of s)) (unfinished : whole (book_of s).held ≡ false) where
  pub state_short : whole_in s.frame ≡ false
  state_short = ap (λ (x : State). whole_in x.frame) shown ∙ sym (whole_held (book_of s).held) ∙ unfinished

  abbrev c : Memory
  c = (book_of s).memory

  view : view_of c ≡ s.view
  view = sym (ap (λ (x : State). x.view) shown)

  good : is_good s ≡ true
  good = ap is_good shown ∙ good_state (book_of s) unfinished

  module _ (p buffer : List ℕ) where
    abbrev m : Moved
    m = move (book_of s).held p

    advanced : advance s.frame p ≡ shown_progress m
    advanced = ap (λ (x : State). advance x.frame p) shown ∙ advance_book p (book_of s).held unfinished

    past : length m.held ≤ 2 + body_length m.held
    past = move_past p (book_of s).held unfinished

    -- what is held of a whole frame
    pub take_body : {q : Progress} → q ≡ advance s.frame p → whole_in q.frame ≡ true → Whole q.frame
    take_body {q} h w =
        let a : q ≡ shown_progress m = h ∙ advanced in
        let v : whole m.held ≡ true = whole_held m.held ∙ sym (ap (λ (x : Progress). whole_in x.frame) a) ∙ w in
        subst Whole (sym (ap (λ (x : Progress). x.frame) a))
        (record { places = length_places (kept_bytes m.held); within = filled_most m.held past; all = λ k. filled_whole m.held v past k })

    module _ (room : answer_room ≤ length buffer) where
      large : is_small buffer ≡ false
      large = le-ltb (length buffer) answer_room room

      pub take_waiting : {q : Progress} → q ≡ advance s.frame p → whole_in q.frame ≡ false
          → take_of s p buffer ≡ record { used = q.used; len = 0; number = 0; state = state_with q.frame s.view; buffer = buffer }
      unfolding take_of
      take_waiting {q} h w =
          let a : q ≡ shown_progress m = h ∙ advanced in
          let v : whole m.held ≡ false = whole_held m.held ∙ sym (ap (λ (x : Progress). whole_in x.frame) a) ∙ w in
          rw (large, good, v) (λ i. record { used = (sym a i).used; len = 0; number = 0; state = state_with (sym a i).frame (view i); buffer = buffer })

      pub take_whole : {q : Progress} → q ≡ advance s.frame p → whole_in q.frame ≡ true
          → let a = answer_by s.view (length_in q.frame) (body_in q.frame) in
          take_of s p buffer ≡ record { used = q.used; len = length a.bytes; number = a.number; state = state_with empty_frame (view_by s.view (length_in q.frame) (body_in q.frame)); buffer = a.bytes ++ drop (length a.bytes) buffer }
      unfolding take_of
      take_whole {q} h w =
          let f = m.held in
          let a : q ≡ shown_progress m = h ∙ advanced in
          let v : whole f ≡ true = whole_held m.held ∙ sym (ap (λ (x : Progress). whole_in x.frame) a) ∙ w in
          let b : answer_with (view_of c) f ≡ answer_by s.view (length_in q.frame) (body_in q.frame) =
          ap (λ (x : View). answer_with x f) view ∙ sym (ap (λ (x : Progress). answer_by s.view (length_in x.frame) (body_in x.frame)) a ∙ answer_kept s.view f past) in
          let d : view_of (remembered f (answer_with (view_of c) f) c) ≡ view_by s.view (length_in q.frame) (body_in q.frame) =
          view_after f c ∙ ap (λ (x : View). view_with x f) view ∙ sym (ap (λ (x : Progress). view_by s.view (length_in x.frame) (body_in x.frame)) a ∙ view_kept s.view f past) in
          rw (large, good, v)
          (λ i. record { used = (sym a i).used; len = length (b i).bytes; number = (b i).number; state = state_with (empty_held i) (d i); buffer = (b i).bytes ++ drop (length (b i).bytes) buffer })

-- the two parts of a contract, from an equation of replies
pub taken_by : {x y : Reply} → y ≡ x → (taken_of x ≡ taken_of y) × (x.buffer ≡ y.buffer)
taken_by e = (ap taken_of (sym e), ap (λ (r : Reply). r.buffer) (sym e))

held_none : (n : ℕ) (s : PartialFrame) (c : Memory) → n ≡ 0 → closed_with (first_bytes n s) c ≡ record { used = 0; answer = []; number = 0; book = emptied c }
held_none n s c e = rw e refl

held_some : (n : ℕ) (s : PartialFrame) (c : Memory) → (n ≡ 0 → ⊥) → closed_with (first_bytes n s) c ≡ record { used = 0; answer = refusal_frame 8; number = 8; book = emptied c }
held_some zero s c e = absurd (e refl)
held_some (suc zero) s c e = refl
held_some (suc (suc n)) s c e = refl

module _ (s : State) (shown : s ≡ state_of (book_of s)) (buffer : List ℕ) (e : is_small buffer ≡ false) (r : is_good s ≡ true) where
  after : state_of (emptied (book_of s).memory) ≡ state_with empty_frame s.view
  after = λ i. state_with (empty_held i) (sym shown i).view

  pub close_none : s.frame.count ≡ 0 → close_of s buffer ≡ record { used = 0; len = 0; number = 0; state = state_with empty_frame s.view; buffer = buffer }
  unfolding close_of book_of bytes_in
  close_none z =
      rw (e, r)
      (ap (λ (x : Entry). reply_of x buffer) (held_none s.frame.count s.frame (book_of s).memory z)
      ∙ ap (λ (x : State). record { used = 0; len = 0; number = 0; state = x; buffer = buffer }) after)

  pub close_some : (s.frame.count ≡ 0 → ⊥) → close_of s buffer ≡ record { used = 0; len = 4; number = 8; state = state_with empty_frame s.view; buffer = refusal_frame 8 ++ drop 4 buffer }
  unfolding close_of book_of bytes_in
  close_some z =
      rw (e, r)
      (ap (λ (x : Entry). reply_of x buffer) (held_some s.frame.count s.frame (book_of s).memory z)
      ∙ ap (λ (x : State). record { used = 0; len = 4; number = 8; state = x; buffer = refusal_frame 8 ++ drop 4 buffer }) after)

pub fresh_good : is_good fresh_state ≡ true
fresh_good = ap is_good (sym fresh_whole) ∙ good_state empty_book whole_none

-- a close writes four bytes at most
closed_most : (h : List ℕ) (c : Memory) → length (closed_with h c).answer ≤ 4
closed_most [] c = omega arith
closed_most (b ∷ h) c = omega arith

pub close_most : (s : State) (buffer : List ℕ) {r : Closed} → r ≡ closed_of (close_of s buffer) → r.len ≤ 4
unfolding close_of
close_most s buffer {r} q = rw (ap (λ (x : Closed). x.len) q) (go (is_small buffer) (is_good s) refl refl)
  where
    go : (t g : Bool) → is_small buffer ≡ t → is_good s ≡ g → (close_of s buffer).len ≤ 4
    go true g e f = rw e (omega arith)
    go false true e f = rw (e, f) (closed_most (book_of s).held (book_of s).memory)
    go false false e f = rw (e, f) (omega arith)
