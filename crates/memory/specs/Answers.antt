-- What respond says of what it wrote. Nothing here is part of what an answer means. Definitions only.
use Rattle.std.specs.Prelude.{ℕ, ◌≡◌, List}
use Rattle.frames.specs.Numbers.{numbered}
use Rattle.answers.specs.Written.{Written}
use Rattle.memory.specs.Memory.{answer_by, view_by}
use Rattle.memory.specs.declared.View.{View}
use Rattle.memory.specs.declared.Answered.{Answered}

-- the answer to a body of n bytes is written, its number returned, and what is shown after it
pub record Answers (v : View) (n : ℕ) (body : List ℕ) (r : Answered) (before after : List ℕ) : Type 0 where
  pub written : Written (answer_by v n body) r.len before after
  pub number : numbered r.outcome ≡ (answer_by v n body).number
  pub view : r.view ≡ view_by v n body
