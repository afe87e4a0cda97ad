-- Lists that are good, and lists that are refused, computed: what request A.4 says of each kind of entry, at a list's ends and inside it. Assumes nothing.
use Prim.Native.Nat.{ℕ, ◌+◌}
use mathlib.Core.Bool.{Bool, true, ◌&&◌}
use mathlib.Core.List.{List, [], ◌∷◌, ◌++◌}
use lib.Dec.{T, eqb}
use lib.Ieee.{of_bits, eq, lt}
use Rattle.pair.specs.Pair.{bits}
use Rattle.exceptions.specs.declared.Entry.{Entry}
use Rattle.exceptions.specs.declared.Stretch.TheVariants.{First}
use Rattle.exceptions.specs.Table.{exceptions}
use Rattle.exceptions.specs.Lookup.{entry_at, entries_from, entries, reply_of, nth}
use Rattle.exception_list.specs.List.{is_good, all_good, ascending, refusal_of}
use Rattle.exception_list.specs.Search.{searched}
use Rattle.std.specs.Prelude.{Some, None}
use mathlib.Core.Path.{◌≡◌, refl}

abbrev entry : ℕ → ℕ → ℕ → Entry
entry x hi lo = record { x = bits x; hi = bits hi; lo = bits lo }

-- an entry at x
abbrev of : ℕ → Entry
of x = entry x 0 0x8000000000000000

-- n entries from 1 on
abbrev ascent : ℕ → List Entry
ascent n = entries_from (λ i. of (0x3ff0000000000000 + i)) 0 n

pub data Case : Type 0 where
  gives : List Entry → ℕ → Case

unfoldable pub all_right : List Case → Bool
all_right [] = true
all_right (gives list n ∷ cs) = eqb (refusal_of list) n && all_right cs

unfoldable pub cases : List Case
cases =
    -- empty
    gives [] 0 ∷
    -- the first table
    gives (entries First) 0 ∷
    -- -2, -1, the least subnormal, 1, the largest number
    gives (of 0xc000000000000000 ∷ of 0xbff0000000000000 ∷ of 1 ∷ of 0x3ff0000000000000 ∷ of 0x7fefffffffffffff ∷ []) 0 ∷
    -- -1, -2: in order by their bits
    gives (of 0xbff0000000000000 ∷ of 0xc000000000000000 ∷ []) 13 ∷
    -- 1, 1
    gives (of 0x3ff0000000000000 ∷ of 0x3ff0000000000000 ∷ []) 13 ∷
    -- 1, 3, 2
    gives (of 0x3ff0000000000000 ∷ of 0x4008000000000000 ∷ of 0x4000000000000000 ∷ []) 13 ∷
    -- +0 and -0, first and between
    gives (of 0 ∷ []) 13 ∷
    gives (of 0x8000000000000000 ∷ []) 13 ∷
    gives (of 0xbff0000000000000 ∷ of 0x8000000000000000 ∷ of 0x3ff0000000000000 ∷ []) 13 ∷
    -- x, hi and lo: a NaN, infinity, -infinity
    gives (of 0x7ff8000000000000 ∷ []) 13 ∷
    gives (of 0x7ff0000000000000 ∷ []) 13 ∷
    gives (of 0xfff0000000000000 ∷ []) 13 ∷
    gives (entry 0x3ff0000000000000 0x7ff8000000000000 0 ∷ []) 13 ∷
    gives (entry 0x3ff0000000000000 0x7ff0000000000000 0 ∷ []) 13 ∷
    gives (entry 0x3ff0000000000000 0xfff0000000000000 0 ∷ []) 13 ∷
    gives (entry 0x3ff0000000000000 0 0x7ff8000000000000 ∷ []) 13 ∷
    gives (entry 0x3ff0000000000000 0 0x7ff0000000000000 ∷ []) 13 ∷
    gives (entry 0x3ff0000000000000 0 0xfff0000000000000 ∷ []) 13 ∷
    -- 256 entries, and the last of them bad; 257, good or bad
    gives (ascent 256) 0 ∷
    gives (ascent 255 ++ (of 0x7ff0000000000000 ∷ [])) 13 ∷
    gives (ascent 257) 12 ∷
    gives (of 0 ∷ ascent 256) 12 ∷
    []

pub refusals : T (all_right cases)
unfolding cases all_right refusal_of all_good ascending is_good entries entries_from entry_at exceptions of_bits eq lt
refusals = tt

-- 4, 2, 1, 3: of these the search by halves comes upon 1 first, and then upon 3
abbrev disordered : List Entry
disordered = of 0x4010000000000000 ∷ of 0x4000000000000000 ∷ of 0x3ff0000000000000 ∷ of 0x4008000000000000 ∷ []

pub halves :
    (searched 4 disordered 0 4 (bits 0x3ff0000000000000) ≡ Some (reply_of (of 0x3ff0000000000000)))
    × (searched 4 disordered 0 4 (bits 0x4008000000000000) ≡ Some (reply_of (of 0x4008000000000000)))
    × (searched 4 disordered 0 4 (bits 0x4000000000000000) ≡ None)
    × (searched 4 disordered 0 4 (bits 0x4010000000000000) ≡ None)
unfolding searched of_bits eq lt
halves = (refl, refl, refl, refl)
