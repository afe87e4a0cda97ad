-- `wide::shift_bits` meets its contract. Assumes nothing.
use Rattle.std.proofs.Common.{arith}
use Rattle.wide.proofs.Shifts.{low_fits, bits_jammed}
use Rattle.wide.proofs.shift_bits.Goals as goal

pub overflow_add-carried : goal.overflow_add-carried
overflow_add-carried c =
    let a = c.args in
    record { fits = low_fits a.x.hi a.x.lo a.t (omega arith) (omega arith) }

pub returns : goal.returns
returns c =
    let a = c.args in
    bits_jammed a.x.hi a.x.lo a.t (omega arith) (omega arith) c.set_sticky.result c.set_sticky.ensures
