-- `answers::write_items` meets its contract: a head, and the results behind it. Assumes nothing.
use Prim.Native.Nat.{ℕ, ◌+◌, ◌*◌, ◌-◌}
use mathlib.Core.Path.{◌≡◌, sym, ap, ◌∙◌}
use mathlib.Core.List.{◌++◌}
use native.Mathlib.Omega.{arith}
use lib.ListN.{length, take, drop}
use Rattle.frames.specs.Numbers.{kind_number}
use Rattle.answers.specs.Answers.{results_of}
use Rattle.answers.proofs.Results.{length_results}
use Rattle.answers.proofs.Answers.{results_written}
use Rattle.answers.proofs.write_items.Goals as goal

pub returns : goal.returns
returns c =
    let s = c.before.before.before.before.before.before.before.before.before.before in
    let n = s.args.n in
    let results = results_of (kind_number s.args.kind) n s.args.payload.now in
    let long : 8 * n ≡ length results = sym (length_results (kind_number s.args.kind) n s.args.payload.now) in
    let h = c.write_head in
    let a = h.new.out in
    results_written results s.args.answer.now a _ (8 * n + 2) (omega (arith, long)) h.ensures
    (c.write_results.ensures ∙ ap (λ (k : ℕ). results ++ drop k (take (length a - 4) (drop 4 a))) long)
