-- `wide::multiply_low` meets its contract. Assumes nothing.
use Rattle.std.proofs.Common.{arith}
use Rattle.wide.proofs.Product.{digits, low_word}
use Rattle.wide.proofs.multiply_low.Goals as goal

pub overflow_mul-w0 : goal.overflow_mul-w0
overflow_mul-w0 c = omega (arith, digits c.args.u c.args.v (omega arith) (omega arith))

pub overflow_mul-t : goal.overflow_mul-t
overflow_mul-t c = omega (arith, digits c.args.u c.args.v (omega arith) (omega arith))

pub overflow_add-t : goal.overflow_add-t
overflow_add-t c = omega (arith, digits c.args.u c.args.v (omega arith) (omega arith))

pub overflow_mul-w1 : goal.overflow_mul-w1
overflow_mul-w1 c = omega (arith, digits c.args.u c.args.v (omega arith) (omega arith))

pub overflow_add-w1 : goal.overflow_add-w1
overflow_add-w1 c = omega (arith, digits c.args.u c.args.v (omega arith) (omega arith))

pub returns : goal.returns
returns c = low_word c.args.u c.args.v
