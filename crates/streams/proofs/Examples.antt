-- Worked examples of specs/Streams.antt on document 01's whole case: the program's output, and each part of the theorem at a buffer that
-- holds one answer and at one that holds all. Assumes nothing.
use Prim.Native.Nat.{ℕ, ◌+◌, ◌<◌}
use mathlib.Core.Path.{◌≡◌, refl}
use mathlib.Core.List.{List, [], ◌∷◌, ◌++◌}
use native.Mathlib.Omega.{arith}
use lib.ListN.{length, take, drop, replicate}
use lib.Ieee.{of_bits, to_bits}
use Rattle.words.specs.Bytes.{number_at, word_bytes, words_of}
use Rattle.exp2m1.specs.Score.{steps, score_bits}
use Rattle.counts.specs.Counts.{is_refused, stopped, is_sum}
use Rattle.frames.specs.Frame.{answer_room, whole, kept, is_kind, kind_of, bad_payload, refusal_to, refusal_frame}
use Rattle.answers.specs.Answers.{result_at, results_of, items_in, accepted, answer_to, answer_of}
use Rattle.partial_frame.specs.State.{kept_bytes, places_of, is_left, bytes_in}
use Rattle.service.specs.Book.{state_with}
use Rattle.service.specs.Service.{fresh_state, is_good, book_of, close_of}
use Rattle.demands.specs.Demands.{AllLarge}
use Rattle.delivery.specs.Delivery.{delivery_of, hand_on}
use Rattle.delivery.specs.Handed.{handed_to_end}
use Rattle.streams.specs.Streams.{output_of, ByTakes}
use Rattle.streams.proofs.Streams.{streams}

-- a buffer for one answer, and one for all answers to 15 bytes
abbrev room : List ℕ
room = replicate answer_room 170

abbrev large : List ℕ
large = replicate 1137 170

-- -54, a frame with no body, and half a length; the answers -1, 1 and 8
abbrev input : List ℕ
input = 0 ∷ 10 ∷ 1 ∷ 1 ∷ 0xc0 ∷ 0x4b ∷ 0 ∷ 0 ∷ 0 ∷ 0 ∷ 0 ∷ 0 ∷ 0 ∷ 0 ∷ 0 ∷ []

abbrev minus_one : List ℕ
minus_one = 0 ∷ 10 ∷ 1 ∷ 0 ∷ 0xbf ∷ 0xf0 ∷ 0 ∷ 0 ∷ 0 ∷ 0 ∷ 0 ∷ 0 ∷ []

-- the program's output, for the input in two pieces; one call with room for one answer stops behind the first frame, for want of room
pub whole_case_lem :
    (output_of fresh_state (take 5 input ∷ drop 5 input ∷ []) room room ≡ minus_one ++ (refusal_frame 1 ++ refusal_frame 8))
    × ByTakes [] input 12 minus_one (state_with fresh_state.frame (record { counts = record { accepted = 1; refused = 0; total = 1 } }))
    × (length room < 12 + answer_room)
unfolding hand_on delivery_of close_of is_good book_of is_left bytes_in places_of kept_bytes whole kept refusal_to is_kind kind_of bad_payload result_at results_of words_of items_in accepted answer_to answer_of score_bits steps of_bits to_bits number_at word_bytes is_refused stopped is_sum
whole_case_lem = (refl, streams.takes [] input room refl, streams.stops [] input room refl (omega arith))

pub large_buffers : AllLarge whole_case_lem.1.buffers
large_buffers = whole_case_lem.1.large

-- with room for all answers it hands on the whole input, and so do repeated calls with room for one
pub at_once : (hand_on fresh_state input large).used ≡ 15
at_once = streams.once [] input large (omega arith)

pub repeated : (handed_to_end fresh_state input room).left ≡ []
repeated = (streams.whole [] input room refl).0
