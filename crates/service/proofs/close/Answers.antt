-- `service::close` meets its contract: refusal 6 or 7, nothing, or refusal 8. Assumes nothing.
use Rattle.std.proofs.Common.{◌≡◌, ◌++◌, length, drop, ap, sym, ◌∙◌, arith}
use borrow.Author.Tests.{le-ltb}
use Rattle.frames.specs.Frame.{longest_body, refusal_frame}
use Rattle.memory.specs.Memory.{Sized}
use Rattle.service.specs.declared.State.{State}
use Rattle.service.specs.Book.{Reply}
use Rattle.service.specs.Service.{closed_of, untouched}
use Rattle.service.proofs.Calls.{numbered, checked_ok, shown_by, close_refused, close_none, close_some}
use Rattle.service.proofs.close.Goals as goal

pub returns-in-Err : goal.returns-in-Err
returns-in-Err c =
    let s = c.args in
    let n = c.number.ensures in
    let w = close_refused s.state s.answer.now (sym c.in-Err.is ∙ c.check.ensures) ∙ ap (λ n. untouched n s.state s.answer.now) (sym n) in
    (sym (ap closed_of w), sym (ap (λ (r : Reply). r.buffer) w), omega arith)

pub returns-then-state-eq0 : goal.returns-then-state-eq0
returns-then-state-eq0 c =
    let s = c.args.state in
    let z : Sized s.view = record { accepted = omega (arith, c.well_formed); refused = omega (arith, c.well_formed); total = omega (arith, c.well_formed) } in
    let l : length s.frame.body ≡ longest_body = omega (arith, c.well_formed) in
    let g = checked_ok s (length c.args.answer.now) c.check.ensures (ap numbered c.in_default.is) in
    let w = close_none s (shown_by s l z g.1).0 c.args.answer.now (le-ltb _ _ g.0) g.1 c.if-state-eq0.true in (
      ap (λ (x : State). record { state = x; len = 0; refusal = 0 }) c.between-after.ensures ∙ sym (ap closed_of w),
      sym (ap (λ (r : Reply). r.buffer) w),
      omega arith,
    )

pub returns : goal.returns
returns c =
    let s = c.args.state in
    let z : Sized s.view = record { accepted = omega (arith, c.well_formed); refused = omega (arith, c.well_formed); total = omega (arith, c.well_formed) } in
    let l : length s.frame.body ≡ longest_body = omega (arith, c.well_formed) in
    let g = checked_ok s (length c.args.answer.now) c.check.ensures (ap numbered c.in_default.is) in
    let w = close_some s (shown_by s l z g.1).0 c.args.answer.now (le-ltb _ _ g.0) g.1 c.if-state-eq0.false in
    let n = c.number-refusal.ensures in (
      (λ j. record { state = c.between-after.ensures j; len = c.write_refusal.ensures.0 j; refusal = n j }) ∙ sym (ap closed_of w),
      c.write_refusal.ensures.1 ∙ ap (λ k. refusal_frame k ++ drop 4 c.args.answer.now) n ∙ sym (ap (λ (r : Reply). r.buffer) w),
      omega (arith, g.0, c.write_refusal.ensures.0),
    )
