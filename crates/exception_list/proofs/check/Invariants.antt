-- The entries from the next one on may follow the x before it as the whole list may follow minus infinity. Assumes nothing.
use Rattle.std.proofs.Common.{◌≡◌, true}
use Rattle.std.specs.Float.{inf}
use Rattle.exception_list.specs.List.{all_follow}
use Rattle.exception_list.proofs.Checked.{rest_follows}
use Rattle.exception_list.proofs.check.Given as goal

abbrev pub invariant-loop-e : goal.invariant-loop-e
invariant-loop-e l = rest_follows l.list l.e-index l.last ≡ all_follow (inf true) l.list
