-- `sheets::refusal` meets its contract: no line so far is bad. Assumes nothing.
use mathlib.Core.Path.{◌≡◌}
use Rattle.sheets.specs.Sheet.{first_refusal}
use Rattle.sheets.proofs.refusal.Given as goal

abbrev pub invariant-loop-i : goal.invariant-loop-i
invariant-loop-i l = first_refusal l.payload l.i ≡ 0
