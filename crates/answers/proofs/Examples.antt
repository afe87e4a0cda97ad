-- Worked examples of specs/Answers.antt, computed: kind 3 in each direction, and beside it kind 2; NaNs; a report, and one with a payload;
-- sheets. Assumes nothing.
use Prim.Native.Nat.{ℕ}
use mathlib.Core.Path.{◌≡◌, refl}
use mathlib.Core.List.{List, [], ◌∷◌, ◌++◌, map}
use lib.ListN.{length, replicate}
use lib.Ieee.{eq, of_bits, to_bits}
use Rattle.words.specs.Bytes.{number_at, word_bytes, words_of}
use Rattle.ieee754.specs.Operations.{fused_bits}
use Rattle.exp2m1.specs.Score.{steps, score_bits}
use Rattle.sheets.specs.Sheet.{sheet_refusal}
use Rattle.frames.specs.Frame.{is_kind, kind_of, bad_payload, refusal_to, refusal_frame}
use Rattle.counts.specs.Counts.{report_of}
use Rattle.counts.specs.declared.Counts.{Counts}
use Rattle.answers.specs.Answers.{Answer, direction_in, result_at, line_score, results_of, items_in, accepted, answer_to}

-- where 258 frames were accepted and 3 refused
abbrev counts : Counts
counts = record { accepted = 258; refused = 3; total = 261 }

abbrev answer : List ℕ → Answer
answer body = answer_to counts (length body) body

abbrev triple : ℕ → ℕ → ℕ → List ℕ
triple a b c = word_bytes a ++ (word_bytes b ++ word_bytes c)

-- 1 * 1 + 2^-1074, and 1 * 1 - 1
abbrev triples : List ℕ
triples = triple 0x3ff0000000000000 0x3ff0000000000000 1 ++ triple 0x3ff0000000000000 0x3ff0000000000000 0xbff0000000000000

abbrev results : ℕ → ℕ → Answer
results x y = record { bytes = 0 ∷ 18 ∷ 1 ∷ 0 ∷ (word_bytes x ++ word_bytes y); number = 0 }

-- in the directions 0 to 3; with the byte 4 it is refused, whose own answer has no results; kind 2 is to nearest
pub in_each_lem :
    map (λ direction. answer (1 ∷ 3 ∷ direction ∷ triples)) (0 ∷ 1 ∷ 2 ∷ 3 ∷ 4 ∷ [])
    ≡ results 0x3ff0000000000000 0
    ∷ results 0x3ff0000000000000 0
    ∷ results 0x3ff0000000000001 0
    ∷ results 0x3ff0000000000000 0x8000000000000000
    ∷ record { bytes = refusal_frame 11; number = 11 }
    ∷ []
unfolding answer_to accepted items_in results_of result_at direction_in words_of refusal_to is_kind kind_of bad_payload number_at word_bytes fused_bits
in_each_lem = refl

pub to_nearest_lem : answer (1 ∷ 2 ∷ triples) ≡ results 0x3ff0000000000000 0
unfolding answer_to accepted items_in results_of result_at direction_in words_of refusal_to is_kind kind_of bad_payload number_at word_bytes fused_bits
to_nearest_lem = refl

-- a NaN weight; as b and c of a triple, and as c alone beside 0 * infinity, to nearest and up
abbrev nans : List ℕ
nans = triple 0 0xfff0000000000002 0x7ff0000000000003 ++ triple 0 0x7ff0000000000000 0x7ff0000000000003

pub nan_answers :
    answer (1 ∷ 1 ∷ (word_bytes 0xfff0000000000001 ++ word_bytes 0x7fffffffffffffff)) ∷ answer (1 ∷ 2 ∷ nans) ∷ answer (1 ∷ 3 ∷ 2 ∷ nans) ∷ []
    ≡ results 0xfff8000000000001 0x7fffffffffffffff ∷ results 0xfff8000000000002 0x7ff8000000000003 ∷ results 0xfff8000000000002 0x7ff8000000000003 ∷ []
unfolding answer_to accepted items_in results_of result_at direction_in words_of refusal_to is_kind kind_of bad_payload number_at word_bytes score_bits fused_bits
nan_answers = refl

-- 28 bytes; with a byte or with 24 it is 5
abbrev eight : ℕ → ℕ → List ℕ
eight a b = 0 ∷ 0 ∷ 0 ∷ 0 ∷ 0 ∷ 0 ∷ a ∷ b ∷ []

pub reports :
    map answer ((1 ∷ 4 ∷ []) ∷ (1 ∷ 4 ∷ 0 ∷ []) ∷ (1 ∷ 4 ∷ replicate 24 0) ∷ [])
    ≡ record { bytes = 0 ∷ 26 ∷ 1 ∷ 0 ∷ (eight 1 2 ++ (eight 0 3 ++ eight 1 5)); number = 0 }
    ∷ record { bytes = refusal_frame 5; number = 5 }
    ∷ record { bytes = refusal_frame 5; number = 5 }
    ∷ []
unfolding answer_to accepted items_in results_of result_at direction_in words_of refusal_to is_kind kind_of bad_payload report_of number_at word_bytes fused_bits
reports = refl

-- a household of four: -1024, 1024, their sum, and that and -1024; refused where the last line names itself
abbrev household : ℕ → List ℕ
household second =
    1
    ∷ 5
    ∷ ((0 ∷ word_bytes 0xc090000000000000)
    ++ ((0 ∷ word_bytes 0x4090000000000000)
    ++ ((1 ∷ 0 ∷ 1 ∷ replicate 6 0)
    ++ (1 ∷ 2 ∷ second ∷ replicate 6 0))))

pub sheets :
    answer (household 0) ∷ answer (household 3) ∷ answer (1 ∷ 5 ∷ []) ∷ answer (1 ∷ 5 ∷ 2 ∷ replicate 8 0) ∷ []
    ≡ record {
      bytes = 0 ∷ 34 ∷ 1 ∷ 0 ∷ (word_bytes 0xbff0000000000000 ++ (word_bytes 0x7ff0000000000000 ++ (word_bytes 0 ++ word_bytes 0xbff0000000000000)));
      number = 0;
    }
    ∷ record { bytes = refusal_frame 15; number = 15 }
    ∷ record { bytes = refusal_frame 5; number = 5 }
    ∷ record { bytes = refusal_frame 14; number = 14 }
    ∷ []
unfolding answer_to accepted items_in results_of result_at direction_in words_of refusal_to is_kind kind_of bad_payload sheet_refusal line_score number_at word_bytes score_bits steps eq of_bits to_bits fused_bits
sheets = refl
