-- Worked examples of specs/Delivery.antt, computed: refusals 6 and 7, untouched, and pieces that are handed on, with what they count.
-- Assumes nothing.
use Prim.Native.Nat.{ℕ}
use mathlib.Core.Path.{◌≡◌, refl}
use mathlib.Core.List.{List, [], ◌∷◌, ◌++◌}
use lib.ListN.{replicate}
use Rattle.words.specs.Bytes.{word_bytes}
use Rattle.frames.specs.Frame.{kept, whole, is_kind, kind_of, bad_payload, refusal_to}
use Rattle.counts.specs.Counts.{is_refused, stopped, is_sum, report_of}
use Rattle.answers.specs.Answers.{accepted, answer_of, answer_to}
use Rattle.partial_frame.specs.State.{kept_bytes, places_of, is_left, bytes_in}
use Rattle.service.specs.Book.{Reply}
use Rattle.service.specs.Service.{is_good, book_of}
use Rattle.service.specs.declared.State.{State}
use Rattle.delivery.specs.Delivery.{hand_on, delivery_of}

-- a state by what has come of its frame, a number of bytes and the length bytes, and by its counts
abbrev counting : ℕ → ℕ → ℕ → ℕ → ℕ → ℕ → State
counting accepted refused total count hi lo =
    record {
      frame = record { count = count; hi = hi; lo = lo; body = replicate 514 0 };
      view = record { counts = record { accepted = accepted; refused = refused; total = total } };
    }

abbrev state_of : ℕ → ℕ → ℕ → State
state_of = counting 0 0 0

abbrev replied : ℕ → ℕ → ℕ → State → List ℕ → Reply
replied used len number state buffer = record { used = used; len = len; number = number; state = state; buffer = buffer }

-- a buffer whose bytes are all 9
abbrev nines : ℕ → List ℕ
nines n = replicate n 9

-- 515 bytes of buffer and 516; a state with a length byte that has not come; both; a total that is no sum
pub refusals :
    (hand_on (state_of 0 0 0) (0 ∷ []) (nines 515) ≡ replied 0 0 6 (state_of 0 0 0) (nines 515))
    × (hand_on (state_of 0 0 0) (0 ∷ []) (nines 516) ≡ replied 1 0 0 (state_of 1 0 0) (nines 516))
    × (hand_on (state_of 0 1 0) (0 ∷ []) (nines 516) ≡ replied 0 0 7 (state_of 0 1 0) (nines 516))
    × (hand_on (state_of 0 1 0) (0 ∷ []) (nines 515) ≡ replied 0 0 6 (state_of 0 1 0) (nines 515))
    × (hand_on (state_of 0 1 0) [] [] ≡ replied 0 0 6 (state_of 0 1 0) [])
    × (hand_on (counting 2 3 6 0 0 0) (0 ∷ []) (nines 516) ≡ replied 0 0 7 (counting 2 3 6 0 0 0) (nines 516))
unfolding hand_on delivery_of is_good book_of is_left bytes_in kept whole kept_bytes places_of is_sum stopped
refusals = (refl, refl, refl, refl, refl, refl)

-- a frame of length 0, one of another version, and half a length: with room for one answer, for two, and for what comes behind them
abbrev piece : List ℕ
piece = 0 ∷ 0 ∷ 0 ∷ 2 ∷ 9 ∷ 1 ∷ 3 ∷ []

pub pieces :
    (hand_on (state_of 0 0 0) piece (nines 519) ≡ replied 2 4 0 (counting 0 1 1 0 0 0) (0 ∷ 2 ∷ 1 ∷ 1 ∷ nines 515))
    × (hand_on (state_of 0 0 0) piece (nines 520) ≡ replied 6 8 0 (counting 0 2 2 0 0 0) (0 ∷ 2 ∷ 1 ∷ 1 ∷ 0 ∷ 2 ∷ 1 ∷ 3 ∷ nines 512))
    × (hand_on (state_of 0 0 0) piece (nines 524) ≡ replied 7 8 0 (counting 0 2 2 1 3 0) (0 ∷ 2 ∷ 1 ∷ 1 ∷ 0 ∷ 2 ∷ 1 ∷ 3 ∷ nines 516))
unfolding hand_on delivery_of is_good book_of is_left bytes_in kept whole kept_bytes places_of refusal_to answer_of answer_to is_refused is_sum stopped
pieces = (refl, refl, refl)

-- a report, a refused one and a report again, from a state that has accepted 255 frames
abbrev eight : ℕ → ℕ → List ℕ
eight a b = 0 ∷ 0 ∷ 0 ∷ 0 ∷ 0 ∷ 0 ∷ a ∷ b ∷ []

pub reports :
    hand_on (counting 255 0 255 0 0 0) (0 ∷ 2 ∷ 1 ∷ 4 ∷ 0 ∷ 3 ∷ 1 ∷ 4 ∷ 0 ∷ 0 ∷ 2 ∷ 1 ∷ 4 ∷ []) (nines 600)
    ≡ replied 13 60 0 (counting 257 1 258 0 0 0)
    (0
    ∷ 26
    ∷ 1
    ∷ 0
    ∷ (eight 0 255
    ++ (eight 0 0
    ++ (eight 0 255
    ++ (0
    ∷ 2
    ∷ 1
    ∷ 5
    ∷ 0
    ∷ 26
    ∷ 1
    ∷ 0
    ∷ (eight 1 0 ++ (eight 0 1 ++ (eight 1 1 ++ nines 540))))))))
unfolding hand_on delivery_of is_good book_of is_left bytes_in kept whole kept_bytes places_of refusal_to is_kind kind_of bad_payload accepted answer_of answer_to is_refused is_sum stopped report_of word_bytes
reports = refl
