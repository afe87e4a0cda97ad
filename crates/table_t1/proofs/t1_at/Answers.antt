-- `table_t1::t1_at` meets its contract: the constant table is the definition's, number by number. Assumes nothing.
use Rattle.std.proofs.Common.{refl}
use Rattle.power_tables.specs.Tables.{T1}
use Rattle.table_t1.proofs.t1_at.Goals as goal

pub returns : goal.returns
unfolding T1
returns c = refl
