-- `delivery::hand_on` meets its contract. Assumes nothing.
use Rattle.std.proofs.Common.{◌≡◌, length, ap, sym, ◌∙◌, arith}
use Rattle.frames.specs.Frame.{longest_body}
use Rattle.memory.specs.Memory.{Sized}
use Rattle.service.proofs.Calls.{numbered, checked_ok, shown_by}
use Rattle.delivery.proofs.Promises.{refused, delivered}
use Rattle.delivery.proofs.hand_on.Goals as goal

pub take_frames-requires : goal.take_frames-requires
take_frames-requires c =
    let s = c.args.state in
    let z : Sized s.view = record { accepted = omega (arith, c.well_formed); refused = omega (arith, c.well_formed); total = omega (arith, c.well_formed) } in
    let l : length s.frame.body ≡ longest_body = omega (arith, c.well_formed) in
    shown_by s l z (checked_ok s (length c.args.answers.now) c.check.ensures (ap numbered c.in-Ok.is)).1

pub returns-in-Ok : goal.returns-in-Ok
returns-in-Ok c =
    let s = c.args.state in
    let z : Sized s.view = record { accepted = omega (arith, c.well_formed); refused = omega (arith, c.well_formed); total = omega (arith, c.well_formed) } in
    let l : length s.frame.body ≡ longest_body = omega (arith, c.well_formed) in
    let g = checked_ok s (length c.args.answers.now) c.check.ensures (ap numbered c.in-Ok.is) in
    delivered s c.args.piece.now c.args.answers.now _ _ g.0 g.1 (shown_by s l z g.1).1 c.take_frames.ensures

pub returns-in-Err : goal.returns-in-Err
returns-in-Err c =
    let s = c.args in
    let n = c.number.ensures in
    refused s.state s.piece.now s.answers.now n (sym c.in-Err.is ∙ c.check.ensures)
