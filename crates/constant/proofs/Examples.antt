-- Worked examples of specs/Constant.antt, computed, and its theorems at a text of each reply. Assumes nothing.
use Prim.Native.String.{String}
use mathlib.Core.Path.{◌≡◌, refl}
use mathlib.Core.List.{List, [], ◌∷◌, map}
use Rattle.std.specs.Prelude.{ℕ, Result, Ok, Err}
use Rattle.hexadecimal.specs.Text.{parts_of, number_from, digit_of}
use Rattle.hexadecimal.specs.Test.{has_form}
use Rattle.hexadecimal.proofs.Form.{decides}
use Rattle.hexadecimal.proofs.Examples.{bytes}
use Rattle.constant.specs.Constant.{constant_of, Replies}
use Rattle.constant.proofs.Replies.{settles, zero_keeps_sign}

abbrev replies : List String → List (Result ℕ ℕ)
replies = map (λ s. constant_of (bytes s))

-- ln 2, its negative with other letters, 1 in four spellings, zeros
pub constants : replies ("0x1.62e42fefa39efp-1" ∷ "-0X1.62E42FEFA39EFP-1" ∷ "0x1p0" ∷ "+0x.8p1" ∷ "0x10000000000000000000000000p-100" ∷ "0x0.00000000000000000000000001p+104" ∷ "+0x00.00P-0" ∷ "-0x0p9" ∷ []) ≡ Ok 0x3fe62e42fefa39ef ∷ Ok 0xbfe62e42fefa39ef ∷ Ok 0x3ff0000000000000 ∷ Ok 0x3ff0000000000000 ∷ Ok 0x3ff0000000000000 ∷ Ok 0x3ff0000000000000 ∷ Ok 0 ∷ Ok 0x8000000000000000 ∷ []
unfolding constant_of number_from
constants = refl

-- the ends of the subnormal, the normal and the finite numbers, and what lies past them
pub ends : replies ("0x1p-1074" ∷ "0x1p-1075" ∷ "0x3p-1075" ∷ "0x0.fffffffffffffp-1022" ∷ "0x0.fffffffffffff8p-1022" ∷ "0x1p-1022" ∷ "0x1.fffffffffffffp1023" ∷ "0x1.fffffffffffff8p1023" ∷ "0x1p1024" ∷ []) ≡ Ok 1 ∷ Err 10 ∷ Err 10 ∷ Ok 0x000fffffffffffff ∷ Err 10 ∷ Ok 0x0010000000000000 ∷ Ok 0x7fefffffffffffff ∷ Err 10 ∷ Err 10 ∷ []
unfolding constant_of number_from
ends = refl

-- a digit too many, and that in a text without the form
pub digits : replies ("0x1.0000000000001p0" ∷ "0x1.00000000000008p0" ∷ "0x1.00000000000001p0" ∷ "0x1.00000000000001p0x" ∷ []) ≡ Ok 0x3ff0000000000001 ∷ Err 10 ∷ Err 10 ∷ Err 9 ∷ []
unfolding constant_of number_from
digits = refl

-- ---- the theorems

pub read : Replies (bytes "0x1p0") (Ok 0x3ff0000000000000)
unfolding constant_of number_from
read = (settles (bytes "0x1p0")).replies

pub inexact : Replies (bytes "0x1p-1075") (Err 10)
unfolding constant_of number_from
inexact = (settles (bytes "0x1p-1075")).replies

pub malformed : Replies (bytes "0x1") (Err 9)
unfolding constant_of number_from
malformed = (settles (bytes "0x1")).replies

pub no_other : (r : Result ℕ ℕ) → Replies (bytes "0x1p0") r → r ≡ Ok 0x3ff0000000000000
unfolding constant_of number_from
no_other = (settles (bytes "0x1p0")).only

-- the exponent's power of two is not computed
pub far_zero : constant_of (bytes "-0x0p999999999999999999999") ≡ Ok 0x8000000000000000
unfolding has_form parts_of number_from digit_of
far_zero = zero_keeps_sign (bytes "-0x0p999999999999999999999") (parts_of (bytes "-0x0p999999999999999999999")) ((decides (bytes "-0x0p999999999999999999999")).passed tt) refl
