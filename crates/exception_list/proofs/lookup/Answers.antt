-- `exception_list::lookup` meets its contract. Assumes nothing.
use mathlib.Core.Path.{◌∙◌}
use lib.ListN.{length}
use native.Mathlib.Omega.{arith}
use Rattle.exception_list.proofs.Searched.{from_first}
use Rattle.exception_list.proofs.lookup.Goals as goal

pub returns-clause-good : goal.returns-clause-good
returns-clause-good c good = c.lookup_entry.ensures.good good ∙ from_first c.args.list.now c.args.x

pub returns-clause-any : goal.returns-clause-any
returns-clause-any c = c.lookup_entry.ensures.any (length c.args.list.now) (omega arith)
