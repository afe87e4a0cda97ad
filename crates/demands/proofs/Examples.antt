-- Worked examples, computed: document 01's whole case; two lists of calls that differ inside bodies alone, with reports; what they count;
-- states that no book leaves, and one that some book leaves. Assumes nothing.
use Prim.Native.Nat.{ℕ, zero, suc, ◌+◌, ◌≤◌}
use mathlib.Core.Path.{◌≡◌, refl, ap}
use mathlib.Core.List.{List, [], ◌∷◌, ◌++◌, map, cons≢nil}
use mathlib.Core.Bool.{true}
use native.Mathlib.Omega.{arith}
use lib.ListN.{length, get_or, drop, replicate}
use lib.Ieee.{of_bits, to_bits}
use borrow.Author.Tests.{leb-false}
use Rattle.words.specs.Bytes.{number_at, word_bytes, words_of}
use Rattle.exp2m1.specs.Score.{steps, score_bits}
use Rattle.counts.specs.Counts.{is_refused, most, stopped, is_sum, report_of}
use Rattle.counts.specs.declared.Counts.{Counts}
use Rattle.sheets.specs.Sheet.{sheet_refusal}
use Rattle.frames.specs.Frame.{answer_room, body_length, whole, kept, is_kind, kind_of, bad_payload, refusal_to, refusal_frame}
use Rattle.answers.specs.Answers.{result_at, line_score, results_of, items_in, accepted, answer_to, answer_of, is_report}
use Rattle.memory.specs.Memory.{Sized, shows_memory}
use Rattle.memory.specs.declared.View.{View}
use Rattle.partial_frame.specs.State.{kept_bytes, places_of, is_left, bytes_in}
use Rattle.service.specs.Book.{Book, empty_book, state_with, Call, Take, Close, Reply, book_call, book_replies, reply_of}
use Rattle.service.specs.Service.{fresh_state, is_good, book_of, untouched, take_of, close_of, service_run, state_after}
use Rattle.demands.specs.Stream.{byte, joined, frame, points_of, written}
use Rattle.demands.specs.Demands.{report, run, reply_after, handed_on, AllLarge, blanked, Alike, SameAnswers, Unreached}
use Rattle.service.specs.declared.State.{State}
use Rattle.demands.proofs.Isolation.{same_frame}
use Rattle.demands.proofs.Demands.{demand_1, demand_3}
use Rattle.demands.proofs.Counts.{counts}

-- an answer buffer of 516 bytes
abbrev room : List ℕ
room = replicate answer_room 170

-- a frame or an answer with one float, whose last six bytes are 0
abbrev one : ℕ → ℕ → ℕ → ℕ → List ℕ
one version kind a b = 0 ∷ 10 ∷ version ∷ kind ∷ a ∷ b ∷ 0 ∷ 0 ∷ 0 ∷ 0 ∷ 0 ∷ 0 ∷ []

-- the whole case: handed on with as many buffers as it has bytes, then closed
abbrev input : List ℕ
input = one 1 1 0xc0 0x4b ++ (0 ∷ 0 ∷ 0 ∷ [])

abbrev whole_case : List Call
whole_case = handed_on empty_book input (replicate 15 room) ++ (Close room ∷ [])

-- a sheet: the weight -54, and the sum of line 0 and of this line
abbrev sheet : ℕ → List ℕ
sheet second = 0 ∷ 20 ∷ 1 ∷ 5 ∷ 0 ∷ 0xc0 ∷ 0x4b ∷ 0 ∷ 0 ∷ 0 ∷ 0 ∷ 0 ∷ 0 ∷ 1 ∷ 0 ∷ second ∷ 0 ∷ 0 ∷ 0 ∷ 0 ∷ 0 ∷ 0 ∷ []

-- weights -54, 1024 and -54; kind 3 with a direction byte alone; a sheet with the lines -54 and -54 - 54; a report; an unfinished frame; closed twice;
-- a frame with no body; a report with a payload
abbrev before : List Call
before =
    Take (one 1 1 0xc0 0x4b) room
    ∷ Take (one 1 1 0x40 0x90) room
    ∷ Take (one 1 1 0xc0 0x4b) room
    ∷ Take (0 ∷ 3 ∷ 1 ∷ 3 ∷ 0 ∷ []) room
    ∷ Take (sheet 0) room
    ∷ []

abbrev sent : List Call
sent =
    before
    ++ (Take report room
    ∷ Take (0 ∷ 10 ∷ 1 ∷ []) room
    ∷ Close room
    ∷ Close room
    ∷ Take (0 ∷ 0 ∷ []) room
    ∷ Take (0 ∷ 3 ∷ 1 ∷ 4 ∷ 0 ∷ []) room
    ∷ [])

-- 1024 became a NaN, the version of the third frame 255, the direction byte 4, a line number of the sheet the line's own, and the third byte of the
-- unfinished frame 7; the first frame comes in two pieces, the second with a byte too many, and before the frame with no body a take is refused by 6
abbrev damaged : List Call
damaged =
    Take (0 ∷ 10 ∷ 1 ∷ []) room
    ∷ Take (drop 3 (one 1 1 0xc0 0x4b) ++ (0 ∷ [])) room
    ∷ Take (one 1 1 0xff 0xf1) room
    ∷ Take (one 0xff 1 0xc0 0x4b) room
    ∷ Take (0 ∷ 3 ∷ 1 ∷ 3 ∷ 4 ∷ []) room
    ∷ Take (sheet 1) room
    ∷ Take report room
    ∷ Take (0 ∷ 10 ∷ 7 ∷ []) room
    ∷ Close room
    ∷ Close room
    ∷ Take (0 ∷ 0 ∷ []) []
    ∷ Take (0 ∷ 0 ∷ []) room
    ∷ Take (0 ∷ 3 ∷ 1 ∷ 4 ∷ 0 ∷ []) room
    ∷ []

-- used count, answer length and number
abbrev figures : Reply → List ℕ
figures r = r.used ∷ r.len ∷ r.number ∷ []

-- a report's answer with numbers under 256
abbrev reported : ℕ → ℕ → ℕ → List ℕ
reported a r t = 0 ∷ 26 ∷ 1 ∷ 0 ∷ (replicate 7 0 ++ (a ∷ (replicate 7 0 ++ (r ∷ (replicate 7 0 ++ (t ∷ []))))))

pub replies :
    (written (run whole_case) ≡ one 1 0 0xbf 0xf0 ∷ refusal_frame 1 ∷ refusal_frame 8 ∷ [])
    × (written (run sent)
    ≡ one 1 0 0xbf 0xf0
    ∷ one 1 0 0x7f 0xf0
    ∷ one 1 0 0xbf 0xf0
    ∷ refusal_frame 5
    ∷ (0 ∷ 18 ∷ 1 ∷ 0 ∷ 0xbf ∷ 0xf0 ∷ 0 ∷ 0 ∷ 0 ∷ 0 ∷ 0 ∷ 0 ∷ 0xbf ∷ 0xf0 ∷ 0 ∷ 0 ∷ 0 ∷ 0 ∷ 0 ∷ 0 ∷ [])
    ∷ reported 4 1 5
    ∷ refusal_frame 8
    ∷ refusal_frame 1
    ∷ refusal_frame 5
    ∷ [])
    × (written (run damaged)
    ≡ one 1 0 0xbf 0xf0
    ∷ one 1 0 0xff 0xf9
    ∷ refusal_frame 3
    ∷ refusal_frame 11
    ∷ refusal_frame 15
    ∷ reported 2 3 5
    ∷ refusal_frame 8
    ∷ refusal_frame 1
    ∷ refusal_frame 5
    ∷ [])
    × (map figures (run damaged)
    ≡ (3 ∷ 0 ∷ 0 ∷ [])
    ∷ (9 ∷ 12 ∷ 0 ∷ [])
    ∷ (12 ∷ 12 ∷ 0 ∷ [])
    ∷ (12 ∷ 4 ∷ 3 ∷ [])
    ∷ (5 ∷ 4 ∷ 11 ∷ [])
    ∷ (22 ∷ 4 ∷ 15 ∷ [])
    ∷ (4 ∷ 28 ∷ 0 ∷ [])
    ∷ (3 ∷ 0 ∷ 0 ∷ [])
    ∷ (0 ∷ 4 ∷ 8 ∷ [])
    ∷ (0 ∷ 0 ∷ 0 ∷ [])
    ∷ (0 ∷ 0 ∷ 6 ∷ [])
    ∷ (2 ∷ 4 ∷ 1 ∷ [])
    ∷ (5 ∷ 4 ∷ 5 ∷ [])
    ∷ [])
unfolding take_of close_of is_good book_of is_left bytes_in places_of kept_bytes whole kept refusal_to is_kind kind_of bad_payload sheet_refusal line_score result_at results_of words_of items_in accepted answer_to answer_of score_bits steps of_bits to_bits number_at word_bytes is_refused stopped is_sum report_of
replies = (refl, refl, refl, refl)

-- ---- demand 3

all_large : (n : ℕ) → AllLarge (replicate n room)
all_large zero = tt
all_large (suc n) = (refl, all_large n)

pub handed_whole : joined (handed_on empty_book input (replicate 15 room)) ≡ map byte input
handed_whole = demand_3.handed [] input (replicate 15 room) (all_large 15) (omega arith)

same_lengths : blanked (joined sent) ≡ blanked (joined damaged)
unfolding whole
same_lengths = refl

pub both_alike : Alike (points_of sent) (points_of damaged)
both_alike = demand_3.alike sent damaged same_lengths

pub both_same : SameAnswers (points_of sent) (points_of damaged) (written (run sent)) (written (run damaged))
both_same = demand_3.isolated sent damaged both_alike

-- after a frame that is refused, and after a close on nothing
abbrev counting : ℕ → ℕ → ℕ → View
counting accepted refused total = record { counts = record { accepted = accepted; refused = refused; total = total } }

pub fresh_refused : (reply_after [] (Take (0 ∷ 0 ∷ []) room)).state ≡ state_with fresh_state.frame (counting 0 1 1)
unfolding whole refusal_to answer_to answer_of is_refused stopped
fresh_refused = demand_3.fresh [] (Take (0 ∷ 0 ∷ []) room) (λ e. cons≢nil e)

pub fresh_closed : (reply_after [] (Close room)).state ≡ fresh_state
fresh_closed = demand_3.fresh [] (Close room) (λ e. cons≢nil e)

-- a refused report keeps its answer
pub refused_report : {a b : List ℕ} → SameAnswers (frame (0 ∷ 3 ∷ 1 ∷ 4 ∷ 0 ∷ []) ∷ []) (frame (0 ∷ 3 ∷ 1 ∷ 4 ∷ 0 ∷ []) ∷ []) (a ∷ []) (b ∷ []) → a ≡ b
unfolding is_report refusal_to is_kind kind_of bad_payload
refused_report s = (same_frame refl s).0

-- the one frame whose answer differs in both
pub report_shows : shows_memory report ≡ true
unfolding is_report refusal_to is_kind kind_of bad_payload
report_shows = refl

pub one_report : report ≡ report
one_report = demand_3.reports report refl report_shows

-- ---- the counts

-- after all of it 5 accepted, the report too, and 3 refused; the report had what came before it
pub counted_sent : ((state_after fresh_state sent).view ≡ counting 5 3 8) × (written (reply_after before (Take report room) ∷ []) ≡ reported 4 1 5 ∷ [])
unfolding take_of close_of is_good book_of is_left bytes_in places_of kept_bytes whole kept refusal_to is_kind kind_of bad_payload sheet_refusal line_score result_at results_of words_of items_in accepted answer_to answer_of score_bits steps of_bits to_bits number_at word_bytes is_refused stopped is_sum report_of
counted_sent = (
  ap (λ (c : Counts). record { counts = c }) (counts.states sent),
  counts.reports before (Take report room) refl,
)

-- a total that is one too great is refused, with a frame begun and without; right ones are 7 or not by the frame, whatever the numbers
abbrev state_at : ℕ → ℕ → ℕ → State
state_at count hi lo = record { frame = record { count = count; hi = hi; lo = lo; body = places_of [] }; view = counting 0 0 0 }

pub total_refused : (piece : List ℕ) → take_of (state_with (state_at 0 0 0).frame (counting 2 3 6)) piece room ≡ untouched 7 (state_with (state_at 0 0 0).frame (counting 2 3 6)) room
unfolding stopped
total_refused piece = counts.wrong_total (state_with (state_at 0 0 0).frame (counting 2 3 6)) (Take piece room) refl (λ e. omega arith)

pub numbers_aside : (close_of (state_with (state_at 2 0 0).frame (counting 2 3 5)) room).number ≡ 7
unfolding stopped close_of is_good is_left is_sum places_of kept
numbers_aside = counts.aside (state_at 2 0 0) (state_with (state_at 2 0 0).frame (counting 2 3 5)) (Close room) refl refl refl refl

-- books that have counted to the end and far past it give the same replies
abbrev counted_to : ℕ → Book
counted_to n = record { held = 0 ∷ []; memory = record { accepted = n; refused = 0 } }

pub past_the_end : (cs : List Call) → book_replies (counted_to most) cs ≡ book_replies (counted_to 36893488147419103232) cs
unfolding whole stopped
past_the_end cs = demand_1.same_onward (counted_to most) (counted_to 36893488147419103232) cs refl refl refl

-- ---- demand 1

small : Sized (counting 0 0 0)
small = record { accepted = omega arith; refused = omega arith; total = omega arith }

-- the second length byte is there before it came
early_unreached : Unreached (state_at 1 0 1)
early_unreached b w e = go b.held (ap (λ (s : State). s.frame.count) e) (ap (λ (s : State). s.frame.lo) e)
  where
    go : (h : List ℕ) → 1 ≡ length h → 1 ≡ get_or h 1 0 → ⊥
    go [] n l = omega arith
    go (a ∷ []) n l = omega arith
    go (a ∷ c ∷ h) n l = omega arith

pub early_refused : (piece : List ℕ) → take_of (state_at 1 0 1) piece room ≡ untouched 7 (state_at 1 0 1) room
unfolding places_of
early_refused piece = demand_1.take_refuses (state_at 1 0 1) piece room refl small early_unreached refl

-- a whole frame
whole_unreached : Unreached (state_at 2 0 0)
unfolding whole
whole_unreached b w e =
    let n : 2 ≡ length b.held = ap (λ (s : State). s.frame.count) e in
    let hi : 0 ≡ get_or b.held 0 0 = ap (λ (s : State). s.frame.hi) e in
    let lo : 0 ≡ get_or b.held 1 0 = ap (λ (s : State). s.frame.lo) e in
    omega (arith, leb-false (2 + body_length b.held) (length b.held) w)

pub whole_refused : close_of (state_at 2 0 0) room ≡ untouched 7 (state_at 2 0 0) room
unfolding places_of
whole_refused = demand_1.close_refuses (state_at 2 0 0) room refl small whole_unreached refl

-- the first length byte has come, and the second ends a frame
pub second_byte : take_of (state_at 1 0 0) (0 ∷ 5 ∷ []) room ≡ record { used = 1; len = 4; number = 1; state = state_with fresh_state.frame (counting 0 1 1); buffer = refusal_frame 1 ++ drop 4 room }
unfolding take_of is_good book_of is_left bytes_in places_of kept_bytes whole kept refusal_to answer_to answer_of is_refused stopped is_sum
second_byte = refl

-- by the theorem, for the run of that one byte
abbrev begun : Book
begun = record { held = 0 ∷ []; memory = empty_book.memory }

pub begun_takes : (piece : List ℕ) → take_of (state_at 1 0 0) piece room ≡ reply_of (book_call begun (Take piece room)) room
unfolding whole places_of kept_bytes kept stopped
begun_takes piece = demand_1.take begun piece room refl

pub begun_closes : close_of (state_at 1 0 0) room ≡ reply_of (book_call begun (Close room)) room
unfolding whole places_of kept_bytes kept stopped
begun_closes = demand_1.close begun room refl

-- and all that comes behind it
pub begun_onward : (cs : List Call) → service_run (state_at 1 0 0) cs ≡ book_replies begun cs
unfolding whole places_of kept_bytes kept stopped
begun_onward cs = demand_1.onward begun cs refl

pub begun_uses : 1 ≤ (take_of (state_at 1 0 0) (0 ∷ 5 ∷ []) room).used
begun_uses =
    let e : (take_of (state_at 1 0 0) (0 ∷ 5 ∷ []) room).number ≡ 1 = ap (λ (r : Reply). r.number) second_byte in
    demand_1.uses (state_at 1 0 0) 0 (5 ∷ []) room (λ n. omega arith) (λ n. omega arith)
