-- `fast_fused::shift_left` meets its contract. Assumes nothing.
use native.Mathlib.Omega.{arith}
use Rattle.fast_fused.proofs.NearSums.{shifted, shifted_more}
use Rattle.fast_fused.proofs.shift_left.Goals as goal

pub returns-then-k-lt64 : goal.returns-then-k-lt64
returns-then-k-lt64 c = shifted c.args.m c.args.k (omega arith)

pub returns-else-k-lt64 : goal.returns-else-k-lt64
returns-else-k-lt64 c = shifted_more c.args.m c.args.k c.requires.0 (omega arith) c.requires.2
