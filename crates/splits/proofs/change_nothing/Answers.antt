-- `splits::change_nothing` is safe: the buffer is the front of the space. Assumes nothing.
use native.Mathlib.Omega.{arith}
use lib.ListN.{length-take}
use Rattle.splits.proofs.change_nothing.Goals as goal

pub slice_bounds-buffer-end : goal.slice_bounds-buffer-end
slice_bounds-buffer-end c = simp length-take (omega arith)
