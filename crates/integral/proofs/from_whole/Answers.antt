-- `integral::from_whole` meets its contract. Assumes nothing.
use mathlib.Core.Path.{sym, ◌∙◌, subst}
use Prim.Native.Nat.{ℕ, ◌*◌, ◌^◌}
use native.Mathlib.Nat.{mul-one, zero-add}
use lib.Dec.{lit<}
use Rattle.rounding.specs.Machine.{Rounds}
use Rattle.operands.proofs.Reading.{zero_round}
use Rattle.integral.proofs.WholeNumbers.{stands_whole}
use Rattle.integral.proofs.from_whole.Goals as goal

pub returns-then-w-eq0 : goal.returns-then-w-eq0
returns-then-w-eq0 c = let a = c.args in c.sign_bit.ensures ∙ zero_round a.r.dir a.r.neg a.w 1 c.if-w-eq0.true (lit< tt)

pub returns-else-w-eq0 : goal.returns-else-w-eq0
returns-else-w-eq0 c =
    let a = c.args in
    let w = a.w in
    subst (λ (x : ℕ). Rounds a.r.dir a.r.neg x 2273 c.round_wide.result) (zero-add w) c.round_wide.ensures w 1 (stands_whole w) (λ l. sym (mul-one (w * 2 ^ 2273)))
