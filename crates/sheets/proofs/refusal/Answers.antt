-- `sheets::refusal` meets its contract: the lines before are good, and the one at which it stops is bad. Assumes nothing.
use Rattle.std.proofs.Common.{◌≡◌, refl, sym, ap, ◌∙◌, ℕ, ◌*◌, ◌/◌, List, length, add-one, arith, Option}
use Rattle.std.proofs.lemmas.Result.{err_from_is_err_and}
use Rattle.sheets.specs.Sheet.{line_at, line_of, bad_line_number, sheet_numbered, refusal_of, first_refusal, sheet_refusal}
use Rattle.sheets.specs.declared.Line.{Line}
use Rattle.sheets.specs.declared.BadLine.{BadLine}
use Rattle.sheets.specs.declared.BadLine.TheVariants.{Form, Number}
use Rattle.sheets.specs.FirstBad.{refusal_at}
use Rattle.sheets.proofs.FirstBad.{scan_good, scan_stops}
use Rattle.sheets.proofs.refusal.Goals as goal

-- the line at a place is the line of that number

refused : (p : List ℕ) (i : ℕ) {r : ℕ} {line : Option Line} → line ≡ line_at p (i * 9) → r ≡ refusal_of i line → r ≡ refusal_at p i
unfolding line_of
refused p i f g = g ∙ ap (refusal_of i) f

some_number : (bad : BadLine) → bad_line_number bad ≡ 0 → ⊥
some_number Form e = omega arith
some_number Number e = omega arith

pub loop-i-init : goal.loop-i-init
unfolding first_refusal
loop-i-init c = refl

pub returns-in_err-check_line : goal.returns-in_err-check_line
returns-in_err-check_line c =
    let p = c.args.payload.now in
    let i = c.loop-i.i in
    let y = err_from_is_err_and c.from_residual.result c.from_residual.ensures.1 in
    ap sheet_numbered y.1
    ∙ ap bad_line_number y.2
    ∙ scan_stops p i (omega arith) c.loop-i.invariant (refused p i c.line_at.ensures c.in_err-check_line.ensures) (some_number _)

pub loop-i-preserved : goal.loop-i-preserved
loop-i-preserved c =
    let p = c.args.payload.now in
    let i = c.loop-i.i in
    ap (first_refusal p) (add-one i)
    ∙ scan_good p i c.loop-i.invariant
    ∙ sym (refused p i c.line_at.ensures c.check_line.ensures)
    ∙ ap sheet_numbered c.in_ok-check_line.was

pub returns : goal.returns
unfolding sheet_refusal
returns c =
    let p = c.args.payload.now in
    let n : c.loop-i.i ≡ length p / 9 = omega arith in
    sym (ap (first_refusal p) (sym n) ∙ c.loop-i.invariant)
