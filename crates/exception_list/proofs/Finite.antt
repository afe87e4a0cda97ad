-- Tests of a float: std's, whether it is finite, is the definition's; and != is the opposite of ==. Assumes nothing.
use mathlib.Core.Path.{◌≡◌, refl}
use lib.Ieee.{Float, nan, inf, fin, eq, ne}
use mathlib.Core.Bool.{not}
use lib.Ieee.Scale.{finite}
use Rattle.std.specs.Float.{float_is_finite}

pub is_finite : (x : Float) → float_is_finite x ≡ finite x
unfolding float_is_finite
is_finite nan = refl
is_finite (inf s) = refl
is_finite (fin s m e) = refl

pub differs : (x y : Float) → ne x y ≡ not (eq x y)
unfolding ne
differs x y = refl
