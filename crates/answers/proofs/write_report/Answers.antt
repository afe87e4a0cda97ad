-- `answers::write_report` meets its contract: a head, and the three numbers behind it. Assumes nothing.
use Prim.Native.Nat.{ℕ, ◌-◌}
use mathlib.Core.Path.{sym, ap, ◌∙◌}
use mathlib.Core.List.{◌++◌}
use native.Mathlib.Omega.{arith}
use lib.ListN.{length, take, drop}
use Rattle.counts.specs.Counts.{report_of}
use Rattle.counts.proofs.Written.{length_report}
use Rattle.answers.proofs.Answers.{results_written}
use Rattle.answers.proofs.write_report.Goals as goal

pub returns : goal.returns
returns c =
    let s = c.before.before.before.before.before.before.before.before.before in
    let numbers = s.args.counts in
    let l = length_report numbers in
    let a = c.write_head.new.out in
    results_written (report_of numbers) s.args.answer.now a _ 26 (omega arith) c.write_head.ensures
    (c.write_report.ensures ∙ ap (λ (k : ℕ). report_of numbers ++ drop k (take (length a - 4) (drop 4 a))) (sym l))
