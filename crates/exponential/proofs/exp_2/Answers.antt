-- `exponential::exp_2` meets its contract: Range has what the cast of k asks. Assumes nothing.
use mathlib.Core.Path.{◌≡◌, sym, subst}
use lib.Ieee.{Float, binary64, mul}
use Rattle.rounding.specs.declared.Direction.TheVariants.{Nearest}
use Rattle.ieee754.specs.Operations.{round_to_integral}
use Rattle.pair.specs.Pair.{bits}
use Rattle.exponential.specs.Range.{InRange}
use Rattle.exponential.proofs.Range.{Casts, index_arrives, exp_2_casts}
use Rattle.exponential.proofs.exp_2.Goals as goal

-- k is what it should be, so its cast is

casts : {k x : Float} → k ≡ round_to_integral Nearest (mul binary64 x (bits 0x40b0000000000000)) → InRange x → Casts k
casts {k} {x} e r = subst (λ (v : Float). Casts v) (sym e) (exp_2_casts x r)

pub float_to_int-k : goal.float_to_int-k
float_to_int-k c =
    (casts c.roundeven-k.ensures c.requires).fits

pub times_power-requires : goal.times_power-requires
times_power-requires c =
    index_arrives _ (casts c.roundeven-k.ensures c.requires).index
