-- `weigher::answer_space` meets its contract. The implicit arguments are given so that the length is not counted out. Assumes nothing.
use mathlib.Core.Path.{sym}
use Prim.Native.Nat.{ℕ}
use lib.ListN.{length-replicate}
use Rattle.weigher.proofs.answer_space.Goals as goal

pub returns : goal.returns
returns c = sym (length-replicate {0} {A = ℕ} 459784 0)
