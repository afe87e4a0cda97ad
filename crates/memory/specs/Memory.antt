-- What lasts from frame to frame (document 02, A.6), in the plain book and in the state: the counts. Definitions only.
use Rattle.std.specs.Prelude.{ℕ, ◌≤◌, List, Bool, drop}
use Rattle.frames.specs.Frame.{body_length}
use Rattle.counts.specs.Counts.{Tally, none_counted, counted, most, shown, tally_in, is_sum, added, shown_next}
use Rattle.answers.specs.Answers.{Answer, answer_to, answer_of, is_report}
use Rattle.memory.specs.declared.View.{View}

-- what the book remembers, and what it has at the start: the true counts of its answers
abbrev pub Memory : Type 0
Memory = Tally

abbrev pub start_memory : Memory
start_memory = none_counted

-- what the state shows of it
abbrev pub view_of : Memory → View
view_of m = record { counts = shown m }

-- a memory that is shown so, and which views some memory has
abbrev pub recalled : View → Memory
recalled v = tally_in v.counts

abbrev pub is_view : View → Bool
is_view v = is_sum v.counts

-- the bounds of a view by its type
pub record Sized (v : View) : Type 0 where
  pub accepted : v.counts.accepted ≤ most
  pub refused : v.counts.refused ≤ most
  pub total : v.counts.total ≤ most

-- the answer to a whole frame, and what is remembered of it
abbrev pub answer_with : View → List ℕ → Answer
answer_with v f = answer_of v.counts f

abbrev pub remembered : List ℕ → Answer → Memory → Memory
remembered f a m = counted a.number m

-- a frame whose answer shows the memory
abbrev pub shows_memory : List ℕ → Bool
shows_memory f = is_report f

-- ---- the same by what is shown alone, which proofs/Memory.antt shows: for a body of n bytes, and for a whole frame

abbrev pub answer_by : View → ℕ → List ℕ → Answer
answer_by v n body = answer_to v.counts n body

abbrev pub view_by : View → ℕ → List ℕ → View
view_by v n body = record { counts = shown_next (answer_by v n body).number v.counts }

-- with so many accepted and refused frames more
abbrev pub view_added : ℕ → ℕ → View → View
view_added accepted refused v = record { counts = added accepted refused v.counts }

abbrev pub view_with : View → List ℕ → View
view_with v f = view_by v (body_length f) (drop 2 f)
