-- `dekker::high_half` meets its contract. Assumes nothing.
use Rattle.dekker.proofs.Split.{high_number}
use Rattle.dekker.proofs.high_half.Goals as goal

pub float_from_bits-result : goal.float_from_bits-result
float_from_bits-result c = high_number c.args.x c.requires
