-- Request A.4: which list of entries x, hi, lo is good, what another is refused by, and what is found in a good one. Definitions only.
use Rattle.std.specs.Prelude.{◌≡◌, Bool, true, not, ◌&&◌, cond, Option, Result, Ok, Err, List, [], ◌∷◌, ℕ, ltb, length, Float}
use Rattle.std.specs.Float.Ieee.{eq, lt}
use Rattle.std.specs.Float.Ieee.Scale.{finite}
use Rattle.pair.specs.Pair.{bits}
use Rattle.exceptions.specs.declared.Entry.{Entry}
use Rattle.exceptions.specs.Lookup.{find, Finds}
use Rattle.exception_list.specs.declared.ListError.{ListError}
use Rattle.exception_list.specs.declared.ListError.TheVariants.{TooLong, BadEntry}

-- "Entries must be finite", "with no x equal to zero"
unfoldable pub is_good : Entry → Bool
is_good e = finite e.x && (finite e.hi && (finite e.lo && not (eq e.x (bits 0))))

unfoldable pub all_good : List Entry → Bool
all_good [] = true
all_good (e ∷ es) = is_good e && all_good es

-- "strictly ascending by x": each x is below the next one
unfoldable pub ascending : List Entry → Bool
ascending [] = true
ascending (e ∷ []) = true
ascending (e ∷ f ∷ es) = lt e.x f.x && ascending (f ∷ es)

-- the entries of the longest list that is good
abbrev pub longest : ℕ
longest = 256

abbrev pub too_long : ℕ
too_long = 12

abbrev pub bad_entry : ℕ
bad_entry = 13

-- "12, more than 256 entries; 13, an entry not finite, an x that is zero, or out of order; 12 first"; 0 for a good list
unfoldable pub refusal_of : List Entry → ℕ
refusal_of list = cond (ltb longest (length list)) too_long (cond (all_good list && ascending list) 0 bad_entry)

-- the number of an error, and of what a check ends in: 0 for a good list
abbrev pub number_of : ListError → ℕ
number_of TooLong = too_long
number_of BadEntry = bad_entry

abbrev pub refused : {A : Type 0} → Result A ListError → ℕ
refused (Ok x) = 0
refused (Err e) = number_of e

-- ---- the check, entry by entry
-- an entry may follow one whose x is p
unfoldable pub may_follow : Float → Entry → Bool
may_follow p e = lt p e.x && is_good e

-- so may each entry of a list in turn
unfoldable pub all_follow : Float → List Entry → Bool
all_follow p [] = true
all_follow p (e ∷ es) = may_follow p e && all_follow e.x es

-- in a good list no more than one entry equals x: `Finds` holds of what is found, and of nothing else
abbrev pub Settles : Type 0
Settles = (list : List Entry) → refusal_of list ≡ 0 → (x : Float) (f : Option Float) → Finds list x f → f ≡ find list x
