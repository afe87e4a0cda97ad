-- The search's measure: how many entries are left. Assumes nothing.
use Prim.Native.Nat.{◌-◌}
use Rattle.exception_list.proofs.+lookup_entry.Given as goal

abbrev pub decreases-lookup_entry : goal.decreases-lookup_entry
decreases-lookup_entry l = l.past - l.first
