-- What the functions of this crate say of each other of a frame that is whole. Nothing here is part of what a call means. Definitions only.
use Rattle.std.specs.Prelude.{ℕ, ◌≤◌, ◌≡◌, List, true, length, take}
use Rattle.frames.specs.Frame.{longest_body, kept}
use Rattle.partial_frame.specs.State.{length_in, filled}
use Rattle.partial_frame.specs.declared.PartialFrame.{PartialFrame}

-- the places are those of the type, and a body that is kept is there
pub record Whole (s : PartialFrame) : Type 0 where
  pub places : length s.body ≡ longest_body
  pub within : filled s ≤ longest_body
  pub all : kept (length_in s) ≡ true → filled s ≡ length_in s

abbrev pub body_in : PartialFrame → List ℕ
body_in s = take (filled s) s.body
