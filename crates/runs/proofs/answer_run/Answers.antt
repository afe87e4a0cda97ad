-- `runs::answer_run` meets its contract: each turn is one whole frame more, refused, shown to what lasts, or accepted. Assumes nothing.
use Rattle.std.proofs.Common.{sym, ap, ◌∙◌, arith, rules}
use Rattle.frames.specs.Numbers.{numbered}
use Rattle.frames.proofs.Numbers.{some_number}
use Rattle.runs.proofs.Counting.{none_counted_lem, one_refused, one_accepted, one_shown}
use Rattle.runs.proofs.answer_run.Goals as goal

pub loop-used-init : goal.loop-used-init
loop-used-init c = none_counted_lem _ _ _ (record { accepted = omega (arith, c.well_formed); refused = omega (arith, c.well_formed); total = omega (arith, c.well_formed) })

pub loop-used-preserved-in-Err : goal.loop-used-preserved-in-Err
loop-used-preserved-in-Err c =
    let n = c.from-n in
    let r = c.refusal_to in
    let w = c.write_refusal-len in
    let k = c.number.ensures ∙ sym (ap numbered c.in-Err.is) in
    one_refused c.loop-used.invariant n.result (omega arith) (n.ensures ∙ c.read_u16.ensures) (omega arith) _ r.result w.result r.ensures.number k
    (λ z. some_number c.in-Err.refusal (sym c.number.ensures ∙ z)) w.ensures.0 w.ensures.1

pub loop-used-preserved-in-Ok-Report : goal.loop-used-preserved-in-Ok-Report
loop-used-preserved-in-Ok-Report c =
    let n = c.from-n in
    one_shown c.loop-used.invariant n.result (omega arith) (n.ensures ∙ c.read_u16.ensures) (omega arith) _ c.respond-answered.result c.add-view.ensures c.respond-answered.ensures

pub loop-used-preserved : goal.loop-used-preserved
loop-used-preserved c =
    let n = c.from-n in
    let r = c.refusal_to in
    let x = c.in-Ok.ensures.kind in
    one_accepted c.loop-used.invariant n.result (omega arith) (n.ensures ∙ c.read_u16.ensures) (omega arith) _ r.result r.ensures.number (ap numbered c.in-Ok.is) (search rules) c.write_answer-len.ensures
