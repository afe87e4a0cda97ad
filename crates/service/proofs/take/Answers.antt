-- `service::take` meets its contract: refusal 6 or 7, or a good state. Assumes nothing.
use Rattle.std.proofs.Common.{◌≡◌, length, ap, sym, ◌∙◌, arith}
use Rattle.frames.specs.Frame.{longest_body}
use Rattle.memory.specs.Memory.{Sized}
use Rattle.service.specs.Service.{untouched}
use Rattle.service.proofs.Calls.{numbered, checked_ok, shown_by, take_refused, taken_by}
use Rattle.service.proofs.take.Goals as goal

pub take_good-requires : goal.take_good-requires
take_good-requires c =
    let s = c.args.state in
    let z : Sized s.view = record { accepted = omega (arith, c.well_formed); refused = omega (arith, c.well_formed); total = omega (arith, c.well_formed) } in
    let l : length s.frame.body ≡ longest_body = omega (arith, c.well_formed) in
    let g = checked_ok s (length c.args.answer.now) c.check.ensures (ap numbered c.in-Ok.is) in
    let b = shown_by s l z g.1 in
    (b.0, b.1, g.0)

pub returns-in-Err : goal.returns-in-Err
returns-in-Err c =
    let s = c.args in
    let n = c.number.ensures in
    taken_by (take_refused s.state s.answer.now (sym c.in-Err.is ∙ c.check.ensures) s.piece.now ∙ ap (λ n. untouched n s.state s.answer.now) (sym n))
