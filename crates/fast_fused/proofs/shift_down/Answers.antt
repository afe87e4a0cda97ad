-- `fast_fused::shift_down` meets its contract. Assumes nothing.
use mathlib.Core.Path.{sym, ap, ◌∙◌, subst}
use Prim.Native.Nat.{ℕ, ◌/◌, ◌%◌, ◌^◌, ◌≤◌}
use Rattle.std.proofs.Math.Nat.{min-le_right}
use native.Mathlib.Omega.{arith}
use Rattle.wide.specs.Words.{sticky}
use Rattle.rounding.proofs.Increment.{one_shl, one_shl-pos}
use Rattle.fast_fused.proofs.SmallProducts.{down}
use Rattle.fast_fused.proofs.shift_down.Goals as goal
use Rattle.fast_fused.proofs.shift_down.Goals.{After-min-n}

short : (c : After-min-n) → c.min-n.result ≤ 63
short c = subst (λ (n : ℕ). n ≤ 63) (sym c.min-n.ensures) (min-le_right c.args.k 63)

pub overflow_shr-top : goal.overflow_shr-top
overflow_shr-top c = omega (arith, short c)

pub overflow_shl-n : goal.overflow_shl-n
overflow_shl-n c = omega (arith, short c)

pub nonzero_rem-top : goal.nonzero_rem-top
nonzero_rem-top c = one_shl-pos c.min-n.result (short c)

pub returns : goal.returns
returns c =
    let l = (goal.at.returns c).After-min-n in
    let a = c.args in
    let top = c.set_sticky-top.result in
    down a.p.hi a.p.lo top l.min-n.result a.k c.set_sticky.result c.well_formed.0.1.1.0.1 c.well_formed.0.1.1.1.0.1 c.set_sticky-top.ensures l.min-n.ensures
    (c.set_sticky.ensures ∙ ap (λ (n : ℕ). sticky (top / 2 ^ l.min-n.result) (top % n)) (one_shl l.min-n.result (short l)))
