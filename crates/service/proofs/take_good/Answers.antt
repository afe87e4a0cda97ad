-- `service::take_good` meets its contract: a frame goes on, or is whole and is answered. Assumes nothing.
use Rattle.std.proofs.Common.{sym, ap, ◌∙◌}
use Rattle.service.specs.Book.{Reply, state_with}
use Rattle.partial_frame.specs.State.{empty_frame}
use Rattle.service.specs.Service.{taken_of}
use Rattle.service.proofs.Calls.{state_short, take_body, take_waiting, take_whole, taken_by}
use Rattle.service.proofs.take_good.Goals as goal

pub take_bytes-used-requires : goal.take_bytes-used-requires
take_bytes-used-requires c = state_short c.args.state c.requires.0 c.requires.1

pub returns-then-not-is_whole : goal.returns-then-not-is_whole
returns-then-not-is_whole c =
    taken_by (take_waiting c.args.state c.requires.0 c.requires.1 c.args.piece.now c.args.answer.now c.requires.2 c.take_bytes-used.ensures (sym c.is_whole.ensures ∙ c.if-not-is_whole.true))

pub answer_whole-answered-requires : goal.answer_whole-answered-requires
answer_whole-answered-requires c =
    (take_body c.args.state c.requires.0 c.requires.1 c.args.piece.now c.args.answer.now c.take_bytes-used.ensures (sym c.is_whole.ensures ∙ c.if-not-is_whole.false), c.requires.2)

pub returns : goal.returns
returns c =
    let b = c.take_bytes-used in
    let f = c.answer_whole-answered.ensures in
    let w = take_whole c.args.state c.requires.0 c.requires.1 c.args.piece.now c.args.answer.now c.requires.2 b.ensures (sym c.is_whole.ensures ∙ c.if-not-is_whole.false) in (
      (λ j. record { state = (c.between.ensures ∙ ap (state_with empty_frame) f.view) j; used = b.result; len = f.written.len j; refusal = (c.number.ensures ∙ f.number) j }) ∙ sym (ap taken_of w),
      f.written.buffer ∙ sym (ap (λ (r : Reply). r.buffer) w),
    )
