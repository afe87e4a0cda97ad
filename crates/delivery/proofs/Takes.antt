-- The takes of a delivery, one by one: what is left to take after some of them. Assumes nothing.
use Prim.Native.Nat.{ℕ, zero, suc, ◌+◌, ◌-◌, ◌≤◌, ◌<◌}
use mathlib.Core.Path.{◌≡◌, refl, sym, ap, ap₂, subst, ◌∙◌}
use mathlib.Core.List.{List, [], ◌∷◌, ◌++◌, append_assoc, append-nil}
use mathlib.Core.Bool.{Bool, true, false}
use native.Mathlib.Omega.{arith}
use lib.ListN.{length, take, drop, length-append, length-drop, drop_of_length-le}
use lib.Seq.{drop-drop}
use borrow.Author.Tests.{lt-ltb, le-ltb}
use borrow.Rule.Slice.PartMut.{put_mid}
use Rattle.frames.specs.Frame.{answer_room, whole}
use Rattle.words.proofs.Parts.{to_end, put_behind}
use Rattle.memory.specs.Memory.{view_of}
use Rattle.service.specs.Book.{Book, Entry, Reply, Take, emptied, move, state_of, reply_of, book_take, book_call}
use Rattle.service.specs.Service.{take_of, taken_of}
use Rattle.service.specs.declared.State.{State}
use Rattle.service.specs.declared.Taken.{Taken}
use Rattle.service.proofs.Memory.{answer_length}
use Rattle.service.proofs.Simulation.{uses_some, take_book, settled_short}
use Rattle.delivery.specs.Delivery.{Given, nothing, and_then, takes, delivery_of, given, handed_on_of, Delivery}

-- ---- one take of the book

moved_most : (p h : List ℕ) → (move h p).used ≤ length p
moved_most [] h = omega arith
moved_most (b ∷ p) h = go (whole (h ++ (b ∷ []))) refl (moved_most p (h ++ (b ∷ [])))
  where
    go : (t : Bool) → whole (h ++ (b ∷ [])) ≡ t → (move (h ++ (b ∷ [])) p).used ≤ length p → (move h (b ∷ p)).used ≤ length (b ∷ p)
    go true w i = rw w (omega arith)
    go false w i = rw w (omega arith)

pub take_most : (b : Book) (p : List ℕ) → (book_take b p).used ≤ length p
take_most b p = go (whole (move b.held p).held) refl
  where
    go : (t : Bool) → whole (move b.held p).held ≡ t → (book_take b p).used ≤ length p
    go true w = rw w (moved_most p b.held)
    go false w = rw w (moved_most p b.held)

pub answer_most : (b : Book) (p : List ℕ) → length (book_take b p).answer ≤ answer_room
answer_most b p = go (whole (move b.held p).held) refl
  where
    go : (t : Bool) → whole (move b.held p).held ≡ t → length (book_take b p).answer ≤ answer_room
    go true w = rw w (answer_length (view_of b.memory) (move b.held p).held).1
    go false w = rw w (omega arith)

-- a take that answered leaves a book that holds no byte
pub take_answered : (b : Book) (p : List ℕ) → 0 < length (book_take b p).answer → (book_take b p).book ≡ emptied (book_take b p).book.memory
take_answered b p = go (whole (move b.held p).held) refl
  where
    go : (t : Bool) → whole (move b.held p).held ≡ t → 0 < length (book_take b p).answer → (book_take b p).book ≡ emptied (book_take b p).book.memory
    go true w = rw w (λ h. refl)
    go false w = rw w (λ h. absurd (omega arith))

pub take_unfinished : (b : Book) (p : List ℕ) → whole (book_take b p).book.held ≡ false
take_unfinished b p = settled_short (move b.held p) b.memory

pub take_reply : (b : Book) (p buffer : List ℕ) → answer_room ≤ length buffer → whole b.held ≡ false → take_of (state_of b) p buffer ≡ reply_of (book_take b p) buffer
take_reply b p buffer h w =
    let c : book_call b (Take p buffer) ≡ book_take b p = rw (le-ltb (length buffer) answer_room h) refl in
    take_book b p buffer w ∙ ap (λ (e : Entry). reply_of e buffer) c

-- ---- takes

pub takes_none : (n room : ℕ) (b : Book) → takes n room b [] ≡ nothing b
takes_none zero room b = refl
takes_none (suc n) room b = refl

takes_full : (n room : ℕ) (b : Book) (p : List ℕ) → room < answer_room → takes n room b p ≡ nothing b
takes_full zero room b p h = refl
takes_full (suc n) room b [] h = refl
takes_full (suc n) room b (x ∷ p) h = rw (lt-ltb room answer_room h) refl

pub takes_step : (n room : ℕ) (b : Book) (p : List ℕ) → 0 < length p → answer_room ≤ room
    → takes (suc n) room b p ≡ and_then (book_take b p) (takes n (room - length (book_take b p).answer) (book_take b p).book (drop (book_take b p).used p))
takes_step n room b [] l h = absurd (omega arith)
takes_step n room b (x ∷ p) l h = rw (le-ltb room answer_room h) refl

pub uses : (b : Book) (p : List ℕ) → 0 < length p → 1 ≤ (book_take b p).used
uses b [] l = absurd (omega arith)
uses b (x ∷ p) l = uses_some b x p

-- the turns behind the next one; there is one for each byte that is left
pub more_turns : (n : ℕ) → 0 < n → (m : ℕ) × (n ≡ suc m)
more_turns zero h = absurd (omega arith)
more_turns (suc m) h = (m, refl)

-- ---- a delivery under way

abbrev pub behind : ℕ → List ℕ → Given → Given
behind used answers g = record { used = used + g.used; answers = answers ++ g.answers; book = g.book }

pub behind_none : (g : Given) → g ≡ behind 0 [] g
behind_none g = ap (λ (n : ℕ). record { used = n; answers = g.answers; book = g.book }) (omega arith)

pub behind_behind : (m n : ℕ) (x y : List ℕ) (g : Given) → behind m x (behind n y g) ≡ behind (m + n) (x ++ y) g
behind_behind m n x y g =
    ap₂ (λ (k : ℕ) (a : List ℕ). record { used = k; answers = a; book = g.book }) (omega arith) (sym (append_assoc x y g.answers))

-- some takes are done: answers stand at the front, and a book shows the state from which the rest is taken
pub record Going (g : Given) (piece out₀ : List ℕ) (out : List ℕ) (s : State) (used len : ℕ) : Type 0 where
  pub book : Book
  pub answers : List ℕ
  pub turns : ℕ
  pub shown : s ≡ state_of book
  pub unfinished : whole book.held ≡ false
  pub within : used ≤ length piece
  pub room : len ≤ length out₀
  pub enough : length piece - used ≤ turns
  pub long : length answers ≡ len
  pub front : out ≡ answers ++ drop len out₀
  pub rest : g ≡ behind used answers (takes turns (length out₀ - len) book (drop used piece))

-- one take more: the rest goes on behind it, it used a byte, and where it answered the book holds no byte
pub record Took (g : Given) (piece out₀ out : List ℕ) (used len : ℕ) (t : Taken) (w : List ℕ) : Type 0 where
  pub going : Going g piece out₀ (put_mid len (length out - len) out w) t.state (used + t.used) (len + t.len)
  pub some : 1 ≤ t.used
  pub no_frame : 0 < t.len → going.book ≡ emptied going.book.memory

pub going : (b : Book) (piece out : List ℕ) (s : State) → s ≡ state_of b → whole b.held ≡ false → Going (delivery_of b piece (length out)) piece out out s 0 0
unfolding delivery_of
going b piece out s e w =
    let all : length out ≡ length out - 0 = omega arith in
    record {
      book = b;
      answers = [];
      turns = length piece;
      shown = e;
      unfinished = w;
      within = omega arith;
      room = omega arith;
      enough = omega arith;
      long = refl;
      front = refl;
      rest = ap (λ (n : ℕ). takes (length piece) n b piece) all ∙ behind_none (takes (length piece) (length out - 0) b piece);
    }

module _ {g : Given} {piece out₀ out : List ℕ} {s : State} {used len : ℕ} (go : Going g piece out₀ out s used len) where
  pub out_length : length out ≡ length out₀
  out_length = ap length go.front ∙ simp (length-append, length-drop) (omega (arith, go.long, go.room))

  -- nothing is left, or there is no room
  pub going_out : takes go.turns (length out₀ - len) go.book (drop used piece) ≡ nothing go.book → Delivery g (record { state = s; used = used; len = len; refusal = 0 }) out₀ out
  going_out e =
      let f : g ≡ record { used = used; answers = go.answers; book = go.book } =
      go.rest ∙ ap (behind used go.answers) e ∙ ap₂ (λ (n : ℕ) (a : List ℕ). record { used = n; answers = a; book = go.book }) (omega arith) (append-nil go.answers) in
      record {
        reply = (λ j. record { state = go.shown j; used = used; len = sym go.long j; refusal = 0 }) ∙ sym (ap (λ (x : Given). handed_on_of (given x out₀)) f);
        buffer = go.front ∙ ap (λ (n : ℕ). go.answers ++ drop n out₀) (sym go.long) ∙ sym (ap (λ (x : Given). (given x out₀).buffer) f);
      }

  pub going_empty : length piece ≤ used → Delivery g (record { state = s; used = used; len = len; refusal = 0 }) out₀ out
  going_empty h =
      going_out (ap (takes go.turns (length out₀ - len) go.book) (drop_of_length-le piece h) ∙ takes_none go.turns (length out₀ - len) go.book)

  pub going_full : length out - len < answer_room → Delivery g (record { state = s; used = used; len = len; refusal = 0 }) out₀ out
  going_full h = going_out (takes_full go.turns (length out₀ - len) go.book (drop used piece) (omega (arith, out_length)))

  module _ (h : used < length piece) (room : answer_room ≤ length out - len) (t : Taken) (w : List ℕ)
      (et : t ≡ taken_of (take_of s (take (length piece - used) (drop used piece)) (take (length out - len) (drop len out))))
      (ew : w ≡ (take_of s (take (length piece - used) (drop used piece)) (take (length out - len) (drop len out))).buffer) where
    abbrev p : List ℕ
    p = drop used piece

    abbrev buffer : List ℕ
    buffer = take (length out - len) (drop len out)

    abbrev e : Entry
    e = book_take go.book p

    some : 0 < length p
    some = omega (arith, length-drop used piece)

    buffer_length : length buffer ≡ length out - len
    buffer_length = ap length (to_end len out) ∙ length-drop len out

    large : answer_room ≤ length buffer
    large = omega (arith, buffer_length)

    replied : take_of s (take (length piece - used) (drop used piece)) buffer ≡ reply_of e buffer
    replied = ap₂ (λ (x : State) (y : List ℕ). take_of x y buffer) go.shown (to_end used piece) ∙ take_reply go.book p buffer large go.unfinished

    taken : t ≡ taken_of (reply_of e buffer)
    taken = et ∙ ap taken_of replied

    same_used : t.used ≡ e.used
    same_used = ap (λ (x : Taken). x.used) taken

    same_len : t.len ≡ length e.answer
    same_len = ap (λ (x : Taken). x.len) taken

    some_used : 1 ≤ t.used
    some_used = omega (arith, same_used, uses go.book p some)

    going_on : Going g piece out₀ (put_mid len (length out - len) out w) t.state (used + t.used) (len + t.len)
    going_on =
        let m = more_turns go.turns (omega (arith, go.enough)) in
        let r = length out₀ - len in
        let next = takes m.0 (r - length e.answer) e.book (drop e.used p) in
        let big : answer_room ≤ r = omega (arith, out_length) in
        record {
          book = e.book;
          answers = go.answers ++ e.answer;
          turns = m.0;
          shown = ap (λ (x : Taken). x.state) taken;
          unfinished = take_unfinished go.book p;
          within = omega (arith, same_used, take_most go.book p, length-drop used piece);
          room = omega (arith, same_len, answer_most go.book p, out_length);
          enough = omega (arith, some_used, go.enough, m.1);
          long = length-append go.answers e.answer ∙ omega (arith, go.long, same_len);
          front =
              put_behind len (length e.answer) out out₀ go.answers e.answer w go.long go.front (ew ∙ ap (λ (x : Reply). x.buffer) replied)
              ∙ ap (λ (n : ℕ). (go.answers ++ e.answer) ++ drop (len + n) out₀) (sym same_len);
          rest =
              go.rest
              ∙ ap (behind used go.answers) (ap (λ (n : ℕ). takes n r go.book p) m.1 ∙ takes_step m.0 r go.book p some big)
              ∙ behind_behind used e.used go.answers e.answer next
              ∙ (λ j. behind (used + sym same_used j) (go.answers ++ e.answer) (takes m.0 (left j) e.book (places j)));
        }
      where
        left : length out₀ - len - length e.answer ≡ length out₀ - (len + t.len)
        left = omega (arith, same_len)

        places : drop e.used p ≡ drop (used + t.used) piece
        places = drop-drop e.used used piece ∙ ap (λ (n : ℕ). drop (used + n) piece) (sym same_used)

    pub one_take : Took g piece out₀ out used len t w
    unfolding going_on
    one_take = record { going = going_on; some = some_used; no_frame = λ h. take_answered go.book p (subst (λ (n : ℕ). 0 < n) same_len h) }
