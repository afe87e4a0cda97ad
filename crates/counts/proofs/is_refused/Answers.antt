-- `counts::is_refused` meets its contract. Assumes nothing.
use mathlib.Core.Path.{sym}
use native.Mathlib.Omega.{arith}
use Rattle.counts.proofs.Shown.{refused_low, refused_direction, refused_sheet, not_refused}
use Rattle.counts.proofs.is_refused.Goals as goal

pub returns-in_default : goal.returns-in_default
returns-in_default c = sym (not_refused c.args.number (λ l h. omega arith) (λ e. omega arith) (λ l h. omega arith))

pub returns-in_default-2 : goal.returns-in_default-2
returns-in_default-2 c = sym (not_refused c.args.number (λ l h. omega arith) (λ e. omega arith) (λ l h. omega arith))

pub returns-in_default-3 : goal.returns-in_default-3
returns-in_default-3 c = sym (not_refused c.args.number (λ l h. omega arith) (λ e. omega arith) (λ l h. omega arith))

pub returns-in-1 : goal.returns-in-1
returns-in-1 c = sym (refused_direction (omega arith))

pub returns-in-1-2 : goal.returns-in-1-2
returns-in-1-2 c = sym (refused_low c.args.number (omega arith) (omega arith))

pub returns-in-1-3 : goal.returns-in-1-3
returns-in-1-3 c = sym (refused_sheet c.args.number (omega arith) (omega arith))
