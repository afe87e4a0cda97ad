-- `memory::respond` meets its contract: a refusal, a report, or the results of the items. Assumes nothing.
use Rattle.std.proofs.Common.{◌≡◌, ℕ, sym, ap, ◌∙◌, arith, rules, get_or}
use Rattle.frames.specs.Frame.{refusal_to}
use Rattle.frames.specs.Numbers.{numbered, kind_number}
use Rattle.counts.specs.Counts.{shown_next}
use Rattle.answers.proofs.Answers.{answer_report, answer_items, written_as, refusal_written}
use Rattle.frames.proofs.Numbers.{some_number}
use Rattle.memory.proofs.Memory.{responds}
use Rattle.memory.proofs.respond.Goals as goal

pub returns-in-Err : goal.returns-in-Err
returns-in-Err c =
    let a = c.args in
    let e = c.refusal_to-outcome.ensures.number in
    let w = c.write_refusal-len.ensures in
    let k : c.number-in-Err.result ≡ refusal_to a.n a.body.now = c.number-in-Err.ensures ∙ sym (ap numbered c.in-Err.is) ∙ e in
    responds a.view a.n a.body.now e (c.counted-counts.ensures ∙ ap (λ (k : ℕ). shown_next k a.view.counts) c.number.ensures)
    (refusal_written a.view.counts a.n a.body.now a.answer.now _ k (λ z. some_number c.in-Err.refusal (sym c.number-in-Err.ensures ∙ z)) w.0 w.1)

pub returns-in-Ok-Report : goal.returns-in-Ok-Report
returns-in-Ok-Report c =
    let a = c.args in
    let e = c.refusal_to-outcome.ensures.number in
    let z : refusal_to a.n a.body.now ≡ 0 = sym e ∙ ap numbered c.in-Ok-Report.is in
    let k : 4 ≡ get_or a.body.now 1 0 = sym (ap kind_number (rw c.in-Ok-Report.is at c.in-Ok-Report.field-0-is)) ∙ (rw c.in-Ok-Report.is at c.refusal_to-outcome.ensures.kind) in
    responds a.view a.n a.body.now e (c.counted-counts.ensures ∙ ap (λ (k : ℕ). shown_next k a.view.counts) c.number.ensures)
    (written_as (sym (answer_report a.view.counts a.n a.body.now z (sym k))) c.write_report-len.ensures)

pub returns-in-Ok-Sheet : goal.returns-in-Ok-Sheet
returns-in-Ok-Sheet c =
    let a = c.args in
    let e = c.refusal_to-outcome.ensures.number in
    let z : refusal_to a.n a.body.now ≡ 0 = sym e ∙ ap numbered c.in-Ok-Sheet.is in
    let k : 5 ≡ get_or a.body.now 1 0 = sym (ap kind_number (rw c.in-Ok-Sheet.is at c.in-Ok-Sheet.field-0-is)) ∙ (rw c.in-Ok-Sheet.is at c.refusal_to-outcome.ensures.kind) in
    responds a.view a.n a.body.now e (c.counted-counts.ensures ∙ ap (λ (k : ℕ). shown_next k a.view.counts) c.number.ensures)
    (written_as (sym (answer_items a.view.counts a.n a.body.now z (λ h. let w : ⊥ = omega arith in w))) c.write_sheet-len.ensures)

pub returns-in-Ok : goal.returns-in-Ok
returns-in-Ok c =
    let a = c.args in
    let e = c.refusal_to-outcome.ensures.number in
    let z : refusal_to a.n a.body.now ≡ 0 = sym e ∙ ap numbered c.in-Ok.is in
    let x = c.in-Ok.ensures.kind in
    responds a.view a.n a.body.now e (c.counted-counts.ensures ∙ ap (λ (k : ℕ). shown_next k a.view.counts) c.number.ensures)
    (written_as (sym (answer_items a.view.counts a.n a.body.now z (search rules))) c.write_answer-len.ensures)
