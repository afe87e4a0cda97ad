-- What the search by halves comes to in any list, good or not: which entries it looks at, and what it goes on with. Definitions only.
use Rattle.std.specs.Prelude.{ℕ, zero, suc, ◌+◌, ◌-◌, ◌/◌, cond, List, Option, Some, None, ltb, Float}
use Rattle.std.specs.Float.Ieee.{eq, lt}
use Rattle.exceptions.specs.declared.Entry.{Entry}
use Rattle.exceptions.specs.Lookup.{reply_of, nth}

abbrev pub middle : ℕ → ℕ → ℕ
middle first past = first + (past - first) / 2

-- what k looks at most find among the entries first to past - 1: the middle one's reply, or what the others find on the side of x. As many looks as
-- there are entries are enough
unfoldable pub searched : ℕ → List Entry → ℕ → ℕ → Float → Option Float
searched zero list first past x = None
searched (suc k) list first past x =
    cond (ltb first past)
    (cond (eq x (nth list (middle first past)).x) (Some (reply_of (nth list (middle first past))))
    (cond (lt x (nth list (middle first past)).x) (searched k list first (middle first past) x)
    (searched k list (middle first past + 1) past x)))
    None
