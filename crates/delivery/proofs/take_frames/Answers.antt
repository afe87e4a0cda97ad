-- `delivery::take_frames` meets its contract: each turn is one take of the book, and where it answered a run of whole frames. Assumes nothing.
use native.Mathlib.Omega.{arith}
use Rattle.service.specs.Service.{book_of}
use Rattle.delivery.proofs.Takes.{going, going_empty, going_full, one_take, out_length}
use Rattle.delivery.proofs.Runs.{going_run}
use Rattle.delivery.proofs.take_frames.Goals as goal

pub loop-used-init : goal.loop-used-init
loop-used-init c =
    going (book_of c.args.state) c.args.piece.now c.args.answers.now c.args.state c.requires.0 c.requires.1

pub returns-then-answers-len-lt-ANSWER_ROOM : goal.returns-then-answers-len-lt-ANSWER_ROOM
returns-then-answers-len-lt-ANSWER_ROOM c = going_full c.loop-used.invariant c.if-answers-len-lt-ANSWER_ROOM.true

pub overflow_add-used : goal.overflow_add-used
overflow_add-used c =
    let t = one_take c.loop-used.invariant c.loop-used-test.true (omega arith) c.take-taken.result _ c.take-taken.ensures.0 c.take-taken.ensures.1 in
    omega (arith, c.well_formed.1.0.0, t.going.within)

pub overflow_add-len : goal.overflow_add-len
overflow_add-len c =
    let t = one_take c.loop-used.invariant c.loop-used-test.true (omega arith) c.take-taken.result _ c.take-taken.ensures.0 c.take-taken.ensures.1 in
    omega (arith, c.well_formed.1.1.0.0, t.going.room)

pub loop-used-smaller : goal.loop-used-smaller
loop-used-smaller c =
    let t = one_take c.loop-used.invariant c.loop-used-test.true (omega arith) c.take-taken.result _ c.take-taken.ensures.0 c.take-taken.ensures.1 in
    omega (arith, t.some)

pub loop-used-preserved : goal.loop-used-preserved
loop-used-preserved c =
    (one_take c.loop-used.invariant c.loop-used-test.true (omega arith) c.take-taken.result _ c.take-taken.ensures.0 c.take-taken.ensures.1).going

pub slice_bounds-answer_run-count-then-used-piece : goal.slice_bounds-answer_run-count-then-used-piece
slice_bounds-answer_run-count-then-used-piece c =
    let t = one_take c.loop-used.invariant c.loop-used-test.true (omega arith) c.take-taken.result _ c.take-taken.ensures.0 c.take-taken.ensures.1 in
    omega (arith, t.going.room, out_length t.going)

pub slice_bounds-answer_run-start-then-used-piece : goal.slice_bounds-answer_run-start-then-used-piece
slice_bounds-answer_run-start-then-used-piece c =
    let t = one_take c.loop-used.invariant c.loop-used-test.true (omega arith) c.take-taken.result _ c.take-taken.ensures.0 c.take-taken.ensures.1 in
    omega (arith, t.going.room, out_length t.going)

pub loop-used-preserved-then-used-piece : goal.loop-used-preserved-then-used-piece
loop-used-preserved-then-used-piece c =
    let t = one_take c.loop-used.invariant c.loop-used-test.true (omega arith) c.take-taken.result _ c.take-taken.ensures.0 c.take-taken.ensures.1 in
    going_run t.going (t.no_frame c.if-taken-gt0.true) c.answer_run-run.result _ c.answer_run-run.ensures c.between-state.ensures

pub overflow_add-len-then-used-piece : goal.overflow_add-len-then-used-piece
overflow_add-len-then-used-piece c =
    let t = one_take c.loop-used.invariant c.loop-used-test.true (omega arith) c.take-taken.result _ c.take-taken.ensures.0 c.take-taken.ensures.1 in
    let r = going_run t.going (t.no_frame c.if-taken-gt0.true) c.answer_run-run.result _ c.answer_run-run.ensures c.between-state.ensures in
    omega (arith, c.well_formed.1.1.0.0, r.room)

pub loop-used-smaller-then-used-piece : goal.loop-used-smaller-then-used-piece
loop-used-smaller-then-used-piece c =
    let t = one_take c.loop-used.invariant c.loop-used-test.true (omega arith) c.take-taken.result _ c.take-taken.ensures.0 c.take-taken.ensures.1 in
    omega (arith, c.loop-used-test.true, t.some)

pub returns-after-loop-used : goal.returns-after-loop-used
returns-after-loop-used c = going_empty c.loop-used.invariant c.loop-used-test.false
