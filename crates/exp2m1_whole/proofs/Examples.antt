-- The first and the last weight, -53 and 53, and what holds of them. Assumes nothing.
use mathlib.Core.Path.{◌≡◌, refl}
use lib.Dec.{lit≤}
use lib.Ieee.{round, of_bits, of_int, to_signed}
use Rattle.pair.specs.Pair.{bits}
use Rattle.exp2m1_whole.specs.Whole.{Whole, power_less_one, exp2m1_whole, WholeExact, operations}
use Rattle.exp2m1_whole.proofs.Places.{step_six}

pub first : Whole (bits 0xc04a800000000000)
unfolding of_bits of_int
first = record { place = 0; last = lit≤ tt; is = refl }

pub last : Whole (bits 0x404a800000000000)
unfolding of_bits of_int
last = record { place = 106; last = lit≤ tt; is = refl }

pub exact : WholeExact 0 × WholeExact 106
exact = (step_six.exact 0 (lit≤ tt), step_six.exact 106 (lit≤ tt))

pub as_source : (operations (bits 0xc04a800000000000) ≡ bits 0xbfefffffffffffff) × (operations (bits 0x404a800000000000) ≡ bits 0x433fffffffffffff)
unfolding power_less_one exp2m1_whole round of_bits of_int to_signed
as_source = (step_six.as_source 0 (lit≤ tt), step_six.as_source 106 (lit≤ tt))
