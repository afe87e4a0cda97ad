-- What the functions on answers say of what they wrote. Nothing here is part of what an answer means. Definitions only.
use Rattle.std.specs.Prelude.{ℕ, ◌≡◌, List, ◌++◌, length, drop}
use Rattle.answers.specs.Answers.{Answer}

-- the answer fills the buffer's front, and the rest keeps its content; n is its length
pub record Written (a : Answer) (n : ℕ) (before after : List ℕ) : Type 0 where
  pub len : n ≡ length a.bytes
  pub buffer : after ≡ a.bytes ++ drop (length a.bytes) before
