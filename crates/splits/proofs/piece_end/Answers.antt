-- `splits::piece_end` meets its contract: a remainder is below its divisor. Assumes nothing.
use Prim.Native.Nat.{ℕ, ◌+◌, ◌-◌, ◌%◌, ◌≤◌, ◌<◌}
use native.Mathlib.Omega.{arith}
use native.Mathlib.Nat.{mod-lt}
use Rattle.splits.proofs.piece_end.Goals as goal

within : (word at len : ℕ) → at < len → at + 1 + word % (len - at) % 64 ≤ len
within word at len h = omega (arith, mod-lt word {m = len - at} (omega arith))

pub overflow_add-result-then-len-number : goal.overflow_add-result-then-len-number
overflow_add-result-then-len-number c =
    let a = c.args in
    omega (arith, within a.word a.at a.len c.requires)

pub returns-then-len-number : goal.returns-then-len-number
returns-then-len-number c =
    let a = c.args in
    (omega arith, within a.word a.at a.len c.requires)
