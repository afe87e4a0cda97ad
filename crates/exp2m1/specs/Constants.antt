-- The constants of exp2m1.rs that its phases use, each by its bit pattern. Definitions only.
use Rattle.std.specs.Prelude.{Float}
use Rattle.pair.specs.Pair.{bits}

-- 2 ^ 106 and 2 ^ -106
abbrev pub two106 : Float
two106 = bits 0x4690000000000000

abbrev pub two_m106 : Float
two_m106 = bits 0x3950000000000000

-- log(2)^2 / 2
abbrev pub C2 : Float
C2 = bits 0x3fcebfbdff82c58f

abbrev pub minus_one : Float
minus_one = bits 0xbff0000000000000
