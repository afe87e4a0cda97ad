-- `wide::multiply_high` meets its contract. Assumes nothing.
use Rattle.std.proofs.Common.{arith}
use Rattle.wide.proofs.Product.{digits, high_word}
use Rattle.wide.proofs.multiply_high.Goals as goal

pub overflow_mul-w0 : goal.overflow_mul-w0
overflow_mul-w0 c = omega (arith, digits c.args.u c.args.v (omega arith) (omega arith))

pub overflow_mul-t : goal.overflow_mul-t
overflow_mul-t c = omega (arith, digits c.args.u c.args.v (omega arith) (omega arith))

pub overflow_add-t : goal.overflow_add-t
overflow_add-t c = omega (arith, digits c.args.u c.args.v (omega arith) (omega arith))

pub overflow_mul-w1 : goal.overflow_mul-w1
overflow_mul-w1 c = omega (arith, digits c.args.u c.args.v (omega arith) (omega arith))

pub overflow_add-w1 : goal.overflow_add-w1
overflow_add-w1 c = omega (arith, digits c.args.u c.args.v (omega arith) (omega arith))

pub overflow_mul-result : goal.overflow_mul-result
overflow_mul-result c = omega (arith, digits c.args.u c.args.v (omega arith) (omega arith))

pub overflow_add-result : goal.overflow_add-result
overflow_add-result c = omega (arith, digits c.args.u c.args.v (omega arith) (omega arith))

pub overflow_add-result-2 : goal.overflow_add-result-2
overflow_add-result-2 c = omega (arith, digits c.args.u c.args.v (omega arith) (omega arith))

pub returns : goal.returns
returns c = high_word c.args.u c.args.v
