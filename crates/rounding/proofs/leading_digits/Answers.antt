-- `rounding::leading_digits` meets its contract. Assumes nothing.
use Prim.Native.Nat.{◌^◌, ◌<◌}
use lib.Count.{count_leading_zeros}
use native.Mathlib.Omega.{arith}
use Rattle.rounding.proofs.Leading.{Leads, leads, top_fits, top_jammed, top_low}
use Rattle.rounding.proofs.leading_digits.Goals as goal
use Rattle.rounding.proofs.leading_digits.Goals.{Start}

low_lt : (s : Start) → s.args.w.lo < 2 ^ 64
low_lt s = s.well_formed.0.1.1.1.0.1

high_word : (s : Start) → Leads s.args.w.hi (count_leading_zeros 64 s.args.w.hi)
high_word s = leads s.args.w.hi s.requires s.well_formed.0.1.1.0.1

pub overflow_cast-z : goal.overflow_cast-z
overflow_cast-z s = omega (arith, high_word s)

pub overflow_shl-hi : goal.overflow_shl-hi
overflow_shl-hi s = omega (arith, high_word s)

pub overflow_sub-z : goal.overflow_sub-z
overflow_sub-z s = omega (arith, high_word s)

pub overflow_add-hi : goal.overflow_add-hi
overflow_add-hi s = let w = s.args.w in record { fits = top_fits w.hi w.lo (count_leading_zeros 64 w.hi) (low_lt s) (high_word s) }

pub overflow_shl-lo : goal.overflow_shl-lo
overflow_shl-lo s = omega (arith, high_word s)

pub returns : goal.returns
returns c =
    let s = (goal.at.returns c).Start in
    let w = s.args.w in
    let r = c.set_sticky.result in
    let z = count_leading_zeros 64 w.hi in
    (top_low w.hi w.lo z (low_lt s) (high_word s) r c.set_sticky.ensures, top_jammed w.hi w.lo z (low_lt s) (high_word s) r c.set_sticky.ensures)
