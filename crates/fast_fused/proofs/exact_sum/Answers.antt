-- `fast_fused::exact_sum` meets its contract. Assumes nothing.
use mathlib.Core.Path.{sym, subst}
use Prim.Native.Nat.{ℕ, ◌+◌, ◌-◌, ◌*◌, ◌^◌, ◌≤◌, ◌<◌}
use native.Mathlib.Omega.{arith}
use Rattle.wide.specs.Words.{value}
use Rattle.operands.specs.Machine.{SumOf}
use Rattle.fast_fused.proofs.NearSums.{product_lt, addend_lt}
use Rattle.fast_fused.proofs.exact_sum.Goals as goal

shift : (z n : ℕ) → z + 1054 ≤ n → z + 1127 - n ≤ 73
shift z n h = omega arith

pub add_signed-requires : goal.add_signed-requires
add_signed-requires c =
    let a = c.args in
    let l = c.requires in
    (subst (λ (n : ℕ). n < 2 ^ 127) (sym c.multiply.ensures) (product_lt a.x.m a.y.m a.x.high a.y.high), subst (λ (n : ℕ). n < 2 ^ 127) (sym c.shift_left.ensures) (addend_lt a.z.m (a.z.e + 1127 - (a.x.e + a.y.e)) a.z.high (shift a.z.e (a.x.e + a.y.e) l.under)))

pub returns : goal.returns
returns c =
    let a = c.args in
    let r = c.add_signed.result in
    subst (λ (n : ℕ). SumOf a.s a.t n (a.z.m * 2 ^ (a.z.e + 1127 - (a.x.e + a.y.e))) r.neg (value r.size)) c.multiply.ensures
    (subst (λ (n : ℕ). SumOf a.s a.t (value c.multiply.result) n r.neg (value r.size)) c.shift_left.ensures c.add_signed.ensures)
