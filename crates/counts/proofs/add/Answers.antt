-- `counts::add` meets its contract. Assumes nothing.
use Rattle.std.proofs.Common.{ap, ◌∙◌, ℕ, ◌+◌}
use Rattle.counts.specs.Counts.{stopped}
use Rattle.counts.proofs.Shown.{sum_more}
use Rattle.counts.proofs.add.Goals as goal

pub returns : goal.returns
returns c =
    let a = c.args in
    let total = c.sum-4.ensures ∙ ap (λ (n : ℕ). stopped (n + a.refused)) c.sum-3.ensures ∙ sum_more a.counts.total a.accepted a.refused in
    λ i. record { accepted = c.sum.ensures i; refused = c.sum-2.ensures i; total = total i }
