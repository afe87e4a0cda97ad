-- The counts of reports and states (document 02, A.6), as one statement. proofs/Counts.antt proves it. Definitions only.
use Rattle.std.specs.Prelude.{ℕ, ◌+◌, ◌≡◌, List, [], ◌∷◌, ◌++◌, Bool, false, get_or}
use Rattle.counts.specs.Counts.{is_accepted, is_refused, Tally, one_if, stopped, shown, report_of}
use Rattle.answers.specs.Answers.{answer_frame}
use Rattle.service.specs.Book.{Call, buffer_of, is_small}
use Rattle.service.specs.Service.{fresh_state, untouched, service_call, state_after}
use Rattle.service.specs.declared.State.{State}
use Rattle.demands.specs.Stream.{frame, points_of, written}
use Rattle.demands.specs.Demands.{run, reply_after, report}

-- ---- the counts over some answers, from their bytes alone

-- how many have a code of which the test holds; the code is the fourth byte
abbrev pub how_many : (ℕ → Bool) → List (List ℕ) → ℕ
how_many test [] = 0
how_many test (a ∷ answers) = one_if (test (get_or a 3 0)) (how_many test answers)

-- accepted: code 0; refused: the code of a refusal that counts
abbrev pub counts_over : List (List ℕ) → Tally
counts_over answers = record { accepted = how_many is_accepted answers; refused = how_many is_refused answers }

-- the total of a state is the sum of its other two numbers, stopped
abbrev pub RightTotal : State → Type 0
RightTotal s = s.view.counts.total ≡ stopped (s.view.counts.accepted + s.view.counts.refused)

-- ---- the statement

pub record Counted : Type 0 where
  -- after every list of calls from a fresh service the state shows the counts over the answers that were written
  pub states : (cs : List Call) → (state_after fresh_state cs).view.counts ≡ shown (counts_over (written (run cs)))
  -- and a call that brings a report to its end answers it with the counts over those that were written before it
  pub reports : (cs : List Call) (c : Call) → points_of (cs ++ (c ∷ [])) ≡ points_of cs ++ (frame report ∷ [])
      → written (reply_after cs c ∷ []) ≡ answer_frame (report_of (shown (counts_over (written (run cs))))) ∷ []
  -- a state with another total is refused by 7, and nothing is touched
  pub wrong_total : (s : State) (c : Call) → is_small (buffer_of c) ≡ false → (RightTotal s → ⊥) → service_call s c ≡ untouched 7 s (buffer_of c)
  -- apart from that the numbers decide nothing of 7
  pub aside : (s t : State) (c : Call) → s.frame ≡ t.frame → RightTotal s → RightTotal t → (service_call s c).number ≡ 7 → (service_call t c).number ≡ 7
