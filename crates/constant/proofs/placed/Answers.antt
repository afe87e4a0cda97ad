-- `constant::placed` meets its contract. Assumes nothing.
use native.Mathlib.Omega.{arith}
use Rattle.constant.proofs.Places.{placed_small, placed_large, placed_bits}
use Rattle.constant.proofs.placed.Goals as goal

pub returns-then-above-below : goal.returns-then-above-below
returns-then-above-below c = let a = c.args in placed_small a.negative a.m a.t a.above a.below (omega arith) (omega arith) (omega arith) c.if-above-below.true

pub returns-then-below-above : goal.returns-then-below-above
returns-then-below-above c = let a = c.args in placed_large a.negative a.m a.t a.above a.below (omega arith) c.if-below-above.true

pub returns : goal.returns
returns c = let a = c.args in placed_bits a.negative a.m a.t a.above a.below (omega arith) _ (omega arith) c.exact_bits.ensures
