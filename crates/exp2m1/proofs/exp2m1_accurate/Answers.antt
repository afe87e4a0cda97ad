-- `exp2m1::exp2m1_accurate` meets its contract: Patterns has the range that exp_2 asks for. Assumes nothing.
use mathlib.Core.Path.{sym, subst}
use Prim.Native.Nat.{ℕ, ◌%◌, ◌^◌, ◌<◌}
use lib.Dec.{T}
use Rattle.exp2m1.proofs.Patterns.{bounded_between}
use Rattle.exp2m1.proofs.exp2m1_accurate.Goals as goal

pub exp_2-p-requires : goal.exp_2-p-requires
exp_2-p-requires c =
    bounded_between 0x3fc0000000000000 c.args.x (subst T (sym c.well_formed.0.1) tt) c.requires (subst (λ (u : ℕ). 0x3fc0000000000000 < u % 2 ^ 63) c.to_bits-ux.ensures c.if-ax-le4593671619917905920.false)
