-- Answers (document 01, "A delivery enters"; document 02, A.3, A.6 and A.8): the results of a payload's items, and the answer to a whole frame of
-- each kind, where a report shows these counts. Lengths, kinds and the sender's refusals come before it, in crates/frames/specs/Frame.antt,
-- and what is counted in crates/counts/specs/Counts.antt. Definitions only.
use Rattle.std.specs.Prelude.{ℕ, ◌+◌, ◌*◌, ◌/◌, ◌%◌, ◌-◌, List, ◌∷◌, Bool, cond, ◌&&◌, length, get_or, drop, eqb, Option, Some, None}
use Rattle.words.specs.Bytes.{number_at, words_of}
use Rattle.rounding.specs.Named.{direction_of}
use Rattle.rounding.specs.declared.Direction.{Direction}
use Rattle.rounding.specs.declared.Direction.TheVariants.{Nearest}
use Rattle.ieee754.specs.Operations.{fused_bits}
use Rattle.exp2m1.specs.Score.{score_bits}
use Rattle.sheet_values.specs.Values.{value_of}
use Rattle.frames.specs.Frame.{body_length, items_from, item_bytes, item_count, refusal_to, refusal_frame}
use Rattle.counts.specs.Counts.{report_of}
use Rattle.counts.specs.declared.Counts.{Counts}

-- ---- results

-- a × b + c is rounded to nearest, and in kind 3 in the direction that the payload's first byte names; one that names none is refused
abbrev pub named : Option Direction → Direction
named (Some d) = d
named None = Nearest

unfoldable pub direction_in : ℕ → List ℕ → Direction
direction_in kind p = cond (eqb kind 3) (named (direction_of (get_or p 0 0))) Nearest

-- the result of the item at a place of a payload: the score of a weight, or a × b + c fused
unfoldable pub result_at : ℕ → List ℕ → ℕ → ℕ
result_at kind p at =
    cond (eqb kind 1)
    (score_bits (number_at 8 p at))
    (fused_bits (direction_in kind p) (number_at 8 p at) (number_at 8 p (at + 8)) (number_at 8 p (at + 16)))

-- the score of each line by its number, counted from 0: that of its value
unfoldable pub line_score : List ℕ → ℕ → ℕ
unfolding value_of
line_score p i = score_bits (value_of p i)

-- the result of each item by its number: of a line that, and of every other item the one at its place
unfoldable pub result_of : ℕ → List ℕ → ℕ → ℕ
unfolding line_score result_at
result_of kind p = cond (eqb kind 5) (line_score p) (λ i. result_at kind p (items_from kind + i * item_bytes kind))

-- the results of the first n items of a payload in item order, 8 bytes each
unfoldable pub results_of : ℕ → ℕ → List ℕ → List ℕ
unfolding result_of
results_of kind n p = words_of (result_of kind p) n

-- ---- answers

-- the bytes of an answer, and the number that the call returns
pub record Answer : Type 0 where
  pub bytes : List ℕ
  pub number : ℕ

-- length, version 1, code 0, then the results
abbrev pub answer_frame : List ℕ → List ℕ
answer_frame results = (2 + length results) / 256 ∷ (2 + length results) % 256 ∷ 1 ∷ 0 ∷ results

abbrev pub accepting : List ℕ → Answer
accepting results = record { bytes = answer_frame results; number = 0 }

abbrev pub refusing : ℕ → Answer
refusing number = record { bytes = refusal_frame number; number = number }

-- what a body of n bytes that is not refused is answered with: the results of its items, and for a report the three numbers
unfoldable pub items_in : ℕ → List ℕ → List ℕ
items_in n body = results_of (get_or body 1 0) (item_count (get_or body 1 0) (n - 2)) (drop 2 body)

unfoldable pub accepted : Counts → ℕ → List ℕ → List ℕ
accepted c n body = cond (eqb (get_or body 1 0) 4) (report_of c) (items_in n body)

unfoldable pub answer_to : Counts → ℕ → List ℕ → Answer
answer_to c n body =
    cond (eqb (refusal_to n body) 0)
    (accepting (accepted c n body))
    (refusing (refusal_to n body))

-- the answer to a whole frame
unfoldable pub answer_of : Counts → List ℕ → Answer
answer_of c f = answer_to c (body_length f) (drop 2 f)

-- an accepted report
unfoldable pub is_report : List ℕ → Bool
is_report f = eqb (refusal_to (body_length f) (drop 2 f)) 0 && eqb (get_or (drop 2 f) 1 0) 4
