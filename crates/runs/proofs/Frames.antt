-- One whole frame more of a run, read where it stands. Assumes nothing.
use Prim.Native.Nat.{ℕ, ◌+◌, ◌*◌, ◌-◌, ◌≤◌, ◌<◌}
use mathlib.Core.Path.{◌≡◌, refl, sym, ap, ap₂, subst, subst₂, ◌∙◌}
use mathlib.Core.List.{List, [], ◌++◌}
use native.Mathlib.Omega.{arith}
use lib.ListN.{length, get_or, take, drop, length-append, length-drop}
use lib.Seq.{length-take-le, take-add, drop_at, drop-drop, get_or-take, get_or-drop}
use borrow.Rule.Slice.PartMut.{put_mid}
use Rattle.words.specs.Bytes.{number_at}
use Rattle.words.proofs.Numbers.{pair}
use Rattle.words.proofs.Parts.{put_behind}
use Rattle.frames.specs.Frame.{answer_room, body_length}
use Rattle.answers.specs.Answers.{Answer, answer_of}
use Rattle.answers.proofs.Answers.{answer_length}
use Rattle.memory.specs.Memory.{answer_with, answer_by, view_by, view_with}
use Rattle.memory.specs.Answers.{Answers as Responds}
use Rattle.memory.specs.declared.View.{View}
use Rattle.memory.specs.declared.Answered.{Answered}
use Rattle.runs.specs.Runs.{Frames, Answers}

-- ---- the frame at a place of a piece

-- the bytes of the body, as the code parts them off
abbrev pub body_at : List ℕ → ℕ → ℕ → List ℕ
body_at piece used n = take (used + 2 + n - (used + 2)) (drop (used + 2) piece)

module _ (piece : List ℕ) (used n : ℕ) (h : used + 2 + n ≤ length piece) (en : n ≡ number_at 2 piece used) where
  abbrev p : List ℕ
  p = drop used piece

  abbrev f : List ℕ
  f = take (2 + n) p

  frame-body_length : body_length f ≡ n
  frame-body_length =
      ap₂ (λ (x y : ℕ). x * 256 + y) (at 0 (omega arith)) (at 1 (omega arith)) ∙ ap (λ (k : ℕ). get_or piece k 0 * 256 + get_or piece (used + 1) 0) (omega arith) ∙ pair piece used (omega arith) ∙ sym en
    where
      at : (i : ℕ) → i < 2 → get_or f i 0 ≡ get_or piece (used + i) 0
      at i l = get_or-take (2 + n) p i 0 (omega arith) ∙ get_or-drop used piece i 0

  frame_whole : length f ≡ 2 + body_length f
  frame_whole = length-take-le (2 + n) p (omega (arith, length-drop used piece)) ∙ ap (λ (k : ℕ). 2 + k) (sym frame-body_length)

  frame_body : drop 2 f ≡ body_at piece used n
  frame_body =
      let k : n ≡ used + 2 + n - (used + 2) = omega arith in
      ap (drop 2) (take-add 2 n p)
      ∙ drop_at (take 2 p) (take n (drop 2 p)) 2 (length-take-le 2 p (omega (arith, length-drop used piece)))
      ∙ ap₂ (λ (k : ℕ) (l : List ℕ). take k l) k (drop-drop 2 used piece)

  module _ (v : View) where
    frame_answer : answer_with v f ≡ answer_by v n (body_at piece used n)
    unfolding answer_of
    frame_answer = ap₂ (answer_by v) frame-body_length frame_body

    frame_view : view_with v f ≡ view_by v n (body_at piece used n)
    frame_view = ap₂ (view_by v) frame-body_length frame_body

  frame_behind : take used piece ++ f ≡ take (used + 2 + n) piece
  frame_behind = let k : used + (2 + n) ≡ used + 2 + n = omega arith in sym (take-add used (2 + n) piece) ∙ ap (λ (i : ℕ). take i piece) k

-- ---- a run, and one frame more

pub no_frames : (v : View) (piece out : List ℕ) → Answers v piece (record { view = v; used = 0; len = 0 }) out out
no_frames v piece out = record { answers = []; frames = Frames.none; within = omega arith; fits = omega arith; len = refl; buffer = refl }

module _ {v₀ v : View} {piece out₀ out : List ℕ} {used len : ℕ} (s : Answers v₀ piece (record { view = v; used = used; len = len }) out₀ out) where
  pub run_length : length out ≡ length out₀
  run_length = ap length s.buffer ∙ simp (length-append, length-drop) (omega (arith, s.len, s.fits))

  module _ (n : ℕ) (h : used + 2 + n ≤ length piece) (en : n ≡ number_at 2 piece used) (room : answer_room ≤ length out - len) (a : Answered) (w : List ℕ)
      (ew : Responds v n (body_at piece used n) a (take (length out - len) (drop len out)) w) where
    abbrev answer : List ℕ
    answer = (answer_by v n (body_at piece used n)).bytes

    pub one_more-frame : Answers v₀ piece (record { view = a.view; used = used + 2 + n; len = len + a.len }) out₀ (put_mid len (length out - len) out w)
    one_more-frame =
        record {
          answers = s.answers ++ answer;
          frames = subst₂ (λ (x : List ℕ) (y : Answer). Frames (length out₀) v₀ x (s.answers ++ y.bytes) a.view) (frame_behind piece used n h en) (frame_answer piece used n h en v)
              (subst (Frames (length out₀) v₀ _ _) (frame_view piece used n h en v ∙ sym ew.view)
              (Frames.more s.frames (take (2 + n) (drop used piece)) (frame_whole piece used n h en) (omega (arith, run_length, s.len))));
          within = h;
          fits = omega (arith, ew.written.len, (answer_length v.counts n (body_at piece used n)).1, run_length);
          len = ap₂ (λ (x y : ℕ). x + y) s.len ew.written.len ∙ sym (length-append s.answers answer);
          buffer =
              put_behind len (length answer) out out₀ s.answers answer w (sym s.len) s.buffer ew.written.buffer
              ∙ ap (λ (k : ℕ). (s.answers ++ answer) ++ drop (len + k) out₀) (sym ew.written.len);
        }

pub body_length_lem : (piece : List ℕ) (used n : ℕ) → used + 2 + n ≤ length piece → length (body_at piece used n) ≡ n
body_length_lem piece used n h =
    let k : used + 2 + n - (used + 2) ≡ n = omega arith in
    rw k (length-take-le n (drop (used + 2) piece) (omega (arith, length-drop (used + 2) piece)))
