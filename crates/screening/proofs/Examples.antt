-- Worked examples of specs/Screening.antt, computed: right replies, and wrong ones. Assumes nothing.
use Prim.Native.Nat.{ℕ}
use mathlib.Core.Path.{◌≡◌, refl, sym}
use mathlib.Core.List.{List, [], ◌∷◌, ◌++◌}
use mathlib.Core.Bool.{true≢false}
use native.Mathlib.Omega.{arith}
use lib.ListN.{replicate}
use lib.Dec.{lit<}
use Rattle.words.specs.Bytes.{number_at}
use Rattle.screening.specs.Screening.{screened, Screens}
use Rattle.std.specs.Prelude.{Option, Some, None, Result, Ok, Err}
use Rattle.screening.proofs.First.{settles}

-- ---- weights as they stand in a payload

-- a weight by its first two bytes and its last
abbrev weight : ℕ → ℕ → ℕ → List ℕ
weight first second last = first ∷ second ∷ 0 ∷ 0 ∷ 0 ∷ 0 ∷ 0 ∷ last ∷ []

abbrev minus_one : List ℕ
minus_one = weight 0xbf 0xf0 0

abbrev infinity : List ℕ
infinity = weight 0x7f 0xf0 0

abbrev minus_infinity : List ℕ
minus_infinity = weight 0xff 0xf0 0

abbrev quiet_nan : List ℕ
quiet_nan = weight 0x7f 0xf8 0

abbrev minus_nan : List ℕ
minus_nan = weight 0xff 0xf8 0

-- the least pattern of a NaN
abbrev signalling_nan : List ℕ
signalling_nan = weight 0x7f 0xf0 1

-- a number whose bytes, from the last to the first, are those of a NaN
abbrev reversed_nan : List ℕ
reversed_nan = 1 ∷ 0 ∷ 0 ∷ 0 ∷ 0 ∷ 0 ∷ 0xf0 ∷ 0x7f ∷ []

-- ---- replies

abbrev numbers : List ℕ
numbers = minus_one ++ infinity ++ minus_infinity ++ reversed_nan

abbrev two : List ℕ
two = minus_one ++ signalling_nan ++ infinity ++ minus_nan

-- refusal 5 for no byte, 4, 7, 9 and 12 bytes; 'none'; the place of a NaN alone, among numbers, the first, the last; the first of two, of two
-- that lie apart and where every weight is one
pub replies :
    (screened [] ≡ Err 5)
    × (screened (replicate 4 0) ≡ Err 5)
    × (screened (replicate 7 0) ≡ Err 5)
    × (screened (replicate 9 0) ≡ Err 5)
    × (screened (quiet_nan ++ replicate 4 0) ≡ Err 5)
    × (screened numbers ≡ Ok None)
    × (screened quiet_nan ≡ Ok (Some 0))
    × (screened minus_nan ≡ Ok (Some 0))
    × (screened signalling_nan ≡ Ok (Some 0))
    × (screened (minus_one ++ quiet_nan ++ infinity) ≡ Ok (Some 1))
    × (screened (numbers ++ minus_nan) ≡ Ok (Some 4))
    × (screened two ≡ Ok (Some 1))
    × (screened (minus_nan ++ infinity ++ quiet_nan) ≡ Ok (Some 0))
    × (screened (quiet_nan ++ minus_nan ++ signalling_nan) ≡ Ok (Some 0))
unfolding number_at screened
replies = (refl, refl, refl, refl, refl, refl, refl, refl, refl, refl, refl, refl, refl, refl)

-- what holds of the first of two NaNs, and of no NaN
pub two_screens : Screens two (Ok (Some 1))
unfolding number_at screened
two_screens = (settles two).screens

pub numbers_screens : Screens numbers (Ok None)
unfolding number_at screened
numbers_screens = (settles numbers).screens

abbrev Wrong : List ℕ → Result (Option ℕ) ℕ → Type 0
Wrong p r = Screens p r → ⊥

-- another number than 5; 5 for a payload of whole weights; 'none' or a place for another; 'none' before looking; the place of a number, before
-- the first NaN and behind it; the place in bytes; the last NaN
pub wrong_replies :
    Wrong [] (Err 6)
    × Wrong [] (Err 0)
    × Wrong numbers (Err 5)
    × Wrong quiet_nan (Err 5)
    × Wrong [] (Ok None)
    × Wrong (quiet_nan ++ replicate 4 0) (Ok None)
    × Wrong (quiet_nan ++ replicate 4 0) (Ok (Some 0))
    × Wrong two (Ok None)
    × Wrong two (Ok (Some 0))
    × Wrong two (Ok (Some 2))
    × Wrong two (Ok (Some 8))
    × Wrong two (Ok (Some 3))
unfolding number_at
wrong_replies = (
  λ s. omega (arith, s.0),
  λ s. omega (arith, s.0),
  λ s. true≢false (sym s.1),
  λ s. true≢false (sym s.1),
  λ s. true≢false s.0,
  λ s. true≢false s.0,
  λ s. true≢false s.0,
  λ s. true≢false (s.1 1 (lit< tt)),
  λ s. true≢false (sym s.2),
  λ s. true≢false (sym s.2),
  λ s. true≢false (sym s.2),
  λ s. true≢false (s.3 1 (lit< tt)),
)
