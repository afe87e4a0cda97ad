-- Worked examples of specs/Fused.antt, computed: each direction by its byte, and bytes that name none. Assumes nothing.
use Prim.Native.Nat.{ℕ}
use mathlib.Core.Path.{◌≡◌, refl}
use mathlib.Core.List.{List, [], ◌∷◌, map}
use Rattle.std.specs.Prelude.{Result, Ok, Err}
use Rattle.ieee754.specs.Operations.{fused_bits}
use Rattle.multiply_add.specs.Fused.{fused_reply}

-- for the bytes 0 to 4 and 255
abbrev each : ℕ → ℕ → ℕ → List (Result ℕ ℕ)
each a b c = map (λ direction. fused_reply direction a b c) (0 ∷ 1 ∷ 2 ∷ 3 ∷ 4 ∷ 255 ∷ [])

-- four replies, and two refusals
abbrev replies : ℕ → ℕ → ℕ → ℕ → List (Result ℕ ℕ)
replies nearest towardZero up down = Ok nearest ∷ Ok towardZero ∷ Ok up ∷ Ok down ∷ Err 11 ∷ Err 11 ∷ []

-- 1 + 2^-1074; -1 - 2^-1074; 1 * 1 - 1; the largest number doubled, and negative; 0 * infinity plus a number and plus a NaN
pub in_each_lem :
    (each 0x3ff0000000000000 0x3ff0000000000000 1 ≡ replies 0x3ff0000000000000 0x3ff0000000000000 0x3ff0000000000001 0x3ff0000000000000)
    × (each 0xbff0000000000000 0x3ff0000000000000 0x8000000000000001 ≡ replies 0xbff0000000000000 0xbff0000000000000 0xbff0000000000000 0xbff0000000000001)
    × (each 0x3ff0000000000000 0x3ff0000000000000 0xbff0000000000000 ≡ replies 0 0 0 0x8000000000000000)
    × (each 0x7fefffffffffffff 0x4000000000000000 0 ≡ replies 0x7ff0000000000000 0x7fefffffffffffff 0x7ff0000000000000 0x7fefffffffffffff)
    × (each 0xffefffffffffffff 0x4000000000000000 0 ≡ replies 0xfff0000000000000 0xffefffffffffffff 0xffefffffffffffff 0xfff0000000000000)
    × (each 0 0x7ff0000000000000 1 ≡ replies 0x7ff8000000000000 0x7ff8000000000000 0x7ff8000000000000 0x7ff8000000000000)
    × (each 0 0x7ff0000000000000 0xfff0000000000007 ≡ replies 0xfff8000000000007 0xfff8000000000007 0xfff8000000000007 0xfff8000000000007)
unfolding fused_bits
in_each_lem = (refl, refl, refl, refl, refl, refl, refl)
