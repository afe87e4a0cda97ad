-- What states and reports show is counted from the answers written, and what their total decides. Assumes nothing.
use Prim.Native.Nat.{ℕ, ◌+◌}
use mathlib.Core.Path.{◌≡◌, refl, sym, ap, ◌∙◌}
use mathlib.Core.List.{List, [], ◌∷◌, ◌++◌}
use mathlib.Core.Bool.{Bool, true, false, ◌&&◌}
use native.Mathlib.Omega.{arith}
use lib.ListN.{get_or, drop}
use borrow.Author.Tests.{eq-eqb, ne_eqb}
use Rattle.frames.specs.Frame.{body_length, is_kind, kind_of, bad_payload, refusal_to}
use Rattle.counts.specs.Counts.{is_accepted, is_refused, Tally, one_if, shown, is_sum, report_of}
use Rattle.answers.specs.Answers.{answer_frame, accepted, answer_to, answer_of}
use Rattle.answers.proofs.Answers.{answer_code}
use Rattle.partial_frame.specs.State.{is_left}
use Rattle.memory.specs.Memory.{Memory, view_of, answer_with, remembered}
use Rattle.service.specs.Book.{empty_book, Call, Take, Close, Reply, buffer_of, is_small}
use Rattle.service.specs.Service.{is_good, book_of, untouched, take_of, close_of, service_call}
use Rattle.service.specs.declared.State.{State}
use Rattle.service.proofs.Simulation.{whole_none}
use Rattle.service.proofs.Calls.{take_bad, close_bad}
use Rattle.demands.specs.Stream.{Point, frame, closed, points_of, answers_from, written_by, written}
use Rattle.demands.specs.Demands.{run, reply_after, book_after, report}
use Rattle.demands.specs.Counts.{how_many, counts_over, RightTotal, Counted}
use Rattle.demands.proofs.Simulation.{after_fresh, reply_after_lem}
use Rattle.demands.proofs.Streams.{memory_after, points_by, written_call, memory_points, points_behind}
use Rattle.demands.proofs.Demands.{demand_1, demand_3}

-- ---- the counts over the answers

abbrev plus : Tally → Tally → Tally
plus s t = record { accepted = s.accepted + t.accepted; refused = s.refused + t.refused }

one_behind : (t : Bool) (m n : ℕ) → one_if t m + n ≡ m + one_if t n
one_behind true m n = omega arith
one_behind false m n = refl

code : (m : Memory) (f : List ℕ) → get_or (answer_with (view_of m) f).bytes 3 0 ≡ (answer_with (view_of m) f).number
unfolding answer_of
code m f = answer_code (view_of m).counts (body_length f) (drop 2 f)

-- what is remembered behind some points: the counts before them and those over their answers
memory_counts : (ps : List Point) (m : Memory) → memory_after m ps ≡ plus m (counts_over (answers_from m ps))
unfolding is_refused
memory_counts [] m = let z : (n : ℕ) → n ≡ n + 0 = (λ n. omega arith) in (λ i. record { accepted = z m.accepted i; refused = z m.refused i })
memory_counts (frame f ∷ ps) m =
    let a = answer_with (view_of m) f in
    let n = remembered f a m in
    let rest = counts_over (answers_from n ps) in
    memory_counts ps n
    ∙ (λ i. record { accepted = one_behind (is_accepted a.number) m.accepted rest.accepted i; refused = one_behind (is_refused a.number) m.refused rest.refused i })
    ∙ ap (λ (k : ℕ). plus m (record { accepted = one_if (is_accepted k) rest.accepted; refused = one_if (is_refused k) rest.refused })) (sym (code m f))
memory_counts (closed [] ∷ ps) m = memory_counts ps m
memory_counts (closed (b ∷ h) ∷ ps) m = memory_counts ps m

-- the book's counts after a list of calls
book_counts : (cs : List Call) → (book_after empty_book cs).memory ≡ counts_over (written (run cs))
book_counts cs =
    let answers = answers_from empty_book.memory (points_of cs) in
    let z : (n : ℕ) → 0 + n ≡ n = (λ n. omega arith) in
    memory_points cs empty_book whole_none
    ∙ memory_counts (points_of cs) empty_book.memory
    ∙ (λ i. record { accepted = z (how_many is_accepted answers) i; refused = z (how_many is_refused answers) i })
    ∙ ap counts_over (sym (demand_3.answers cs))

-- ---- a report

report_answer : (m : Memory) → (answer_with (view_of m) report).bytes ≡ answer_frame (report_of (shown m))
unfolding answer_of answer_to accepted refusal_to is_kind kind_of bad_payload
report_answer m = refl

abbrev tail : List Point → List Point
tail [] = []
tail (p ∷ ps) = ps

cancel : (ps : List Point) {qs rs : List Point} → ps ++ qs ≡ ps ++ rs → qs ≡ rs
cancel [] e = e
cancel (p ∷ ps) e = cancel ps (ap tail e)

report_counts : (cs : List Call) (c : Call) → points_of (cs ++ (c ∷ [])) ≡ points_of cs ++ (frame report ∷ [])
    → written (reply_after cs c ∷ []) ≡ answer_frame (report_of (shown (counts_over (written (run cs))))) ∷ []
report_counts cs c e =
    let b = book_after empty_book cs in
    let p : points_by b c ≡ frame report ∷ [] = cancel (points_of cs) (sym (points_behind cs c empty_book whole_none) ∙ e) in
    ap (λ (r : Reply). written_by r ++ []) (reply_after_lem cs c)
    ∙ ap (λ (l : List (List ℕ)). l ++ []) (written_call c b ∙ ap (answers_from b.memory) p)
    ∙ ap (λ (a : List ℕ). a ∷ []) (report_answer b.memory)
    ∙ ap (λ (m : Memory). answer_frame (report_of (shown m)) ∷ []) (book_counts cs)

-- ---- the total of a state

bad : (s : State) (c : Call) → is_small (buffer_of c) ≡ false → is_good s ≡ false → service_call s c ≡ untouched 7 s (buffer_of c)
bad s (Take p buffer) e g = take_bad s p buffer e g
bad s (Close buffer) e g = close_bad s buffer e g

and_false : (t : Bool) → t && false ≡ false
and_false true = refl
and_false false = refl

wrong_total_lem : (s : State) (c : Call) → is_small (buffer_of c) ≡ false → (RightTotal s → ⊥) → service_call s c ≡ untouched 7 s (buffer_of c)
unfolding is_good is_sum
wrong_total_lem s c e w = bad s c e (ap (λ (t : Bool). is_left s.frame && t) (ne_eqb s.view.counts.total _ w) ∙ and_false (is_left s.frame))

-- with the right total the frame alone decides
by_frame : (s : State) → RightTotal s → is_good s ≡ is_left s.frame
unfolding is_good is_sum
by_frame s r = rw (eq-eqb s.view.counts.total _ r) (and_true_right (is_left s.frame))
  where
    and_true_right : (t : Bool) → t && true ≡ t
    and_true_right true = refl
    and_true_right false = refl

-- what 7 tells of a call
told : (s : State) (c : Call) → (service_call s c).number ≡ 7 → (is_small (buffer_of c) ≡ false) × (is_good s ≡ false)
unfolding take_of close_of
told s (Take p buffer) n = go (is_small buffer) (is_good s) refl refl n
  where
    go : (t g : Bool) → is_small buffer ≡ t → is_good s ≡ g → (take_of s p buffer).number ≡ 7 → (is_small buffer ≡ false) × (is_good s ≡ false)
    go true g e f = rw e (λ z. absurd (omega arith))
    go false true e f = rw (e, f) (λ z. absurd (demand_1.never7 (book_of s) (Take p buffer) (rw e z)))
    go false false e f = rw (e, f) (λ z. (refl, refl))
told s (Close buffer) n = go (is_small buffer) (is_good s) refl refl n
  where
    go : (t g : Bool) → is_small buffer ≡ t → is_good s ≡ g → (close_of s buffer).number ≡ 7 → (is_small buffer ≡ false) × (is_good s ≡ false)
    go true g e f = rw e (λ z. absurd (omega arith))
    go false true e f = rw (e, f) (λ z. absurd (demand_1.never7 (book_of s) (Close buffer) (rw e z)))
    go false false e f = rw (e, f) (λ z. (refl, refl))

left_aside : (s t : State) (c : Call) → s.frame ≡ t.frame → RightTotal s → RightTotal t → (service_call s c).number ≡ 7 → (service_call t c).number ≡ 7
left_aside s t c e p q n =
    let h = told s c n in
    ap (λ (r : Reply). r.number) (bad t c h.0 (by_frame t q ∙ sym (ap is_left e) ∙ sym (by_frame s p) ∙ h.1))

pub counts : Counted
counts =
    record {
      states = λ cs. ap (λ (s : State). s.view.counts) (after_fresh cs) ∙ ap shown (book_counts cs);
      reports = report_counts;
      wrong_total = wrong_total_lem;
      aside = left_aside;
    }
