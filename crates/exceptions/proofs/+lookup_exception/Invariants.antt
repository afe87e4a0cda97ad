-- The search's measure: how many entries are left. Assumes nothing.
use Prim.Native.Nat.{◌-◌}
use Rattle.exceptions.proofs.+lookup_exception.Given as goal

abbrev pub decreases-lookup_exception : goal.decreases-lookup_exception
decreases-lookup_exception l = l.past - l.first
