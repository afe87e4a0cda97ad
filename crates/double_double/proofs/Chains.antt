-- Fused multiply-adds one after the other, on patterns: what a result stands for, by what its operands stand for. Assumes nothing.
use mathlib.Core.Path.{◌≡◌}
use lib.Ieee.{Float}
use Rattle.double_double.specs.Pairs.{fma}

pub link : {u v w s x y z : Float} → u ≡ x → v ≡ y → w ≡ z → s ≡ fma u v w → s ≡ fma x y z
link a b c h = cc
