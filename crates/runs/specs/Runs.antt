-- A run: whole frames one after another at a piece's front, and their answers in the same order. Nothing here is part of what the
-- service means: crates/delivery shows that the book takes a run frame by frame. Definitions only.
use Rattle.std.specs.Prelude.{ℕ, ◌+◌, ◌-◌, ◌≤◌, ◌≡◌, List, [], ◌++◌, length, take, drop}
use Rattle.frames.specs.Frame.{answer_room, body_length}
use Rattle.memory.specs.Memory.{answer_with, view_with}
use Rattle.memory.specs.declared.View.{View}
use Rattle.runs.specs.declared.Run.{Run}

-- whole frames, their answers, and what is shown after them; before each frame there is room for one more answer
pub data Frames (room : ℕ) (start : View) : List ℕ → List ℕ → View → Type 0 where
  none : Frames room start [] [] start
  more : {front answers : List ℕ} {v : View} → Frames room start front answers v → (f : List ℕ) → length f ≡ 2 + body_length f → answer_room ≤ room - length answers
      → Frames room start (front ++ f) (answers ++ (answer_with v f).bytes) (view_with v f)

-- what answer_run promises: the bytes used are whole frames, their answers fill the buffer's front, and the rest keeps its content. How many
-- frames a run has is left free: take answers what is behind it
pub record Answers (v : View) (piece : List ℕ) (r : Run) (before after : List ℕ) : Type 0 where
  pub answers : List ℕ
  pub frames : Frames (length before) v (take r.used piece) answers r.view
  pub within : r.used ≤ length piece
  pub fits : r.len ≤ length before
  pub len : r.len ≡ length answers
  pub buffer : after ≡ answers ++ drop r.len before
