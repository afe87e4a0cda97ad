-- `table_t2::t2_at` meets its contract: the constant table is the definition's, number by number. Assumes nothing.
use Rattle.std.proofs.Common.{refl}
use Rattle.power_tables.specs.Tables.{T2}
use Rattle.table_t2.proofs.t2_at.Goals as goal

pub returns : goal.returns
unfolding T2
returns c = refl
