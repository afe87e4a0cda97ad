-- What a lookup finds in a list of entries, and the order of the table (document 01, "Exception entries"). Definitions only.
use Rattle.std.specs.Prelude.{◌≡◌, cond, Option, None, Some, List, [], ◌∷◌, ℕ, zero, suc, ◌+◌, ◌-◌, ◌*◌, ◌≤◌, ◌<◌, T, get_or, length, Float}
use Rattle.std.specs.Float.{nan, binary64}
use Rattle.std.specs.Float.Ieee.{add, eq, lt}
use Rattle.std.specs.Float.Ieee.Scale.{finite}
use Rattle.exceptions.specs.Table.{exceptions}
use Rattle.exceptions.specs.declared.Entry.{Entry}
use Rattle.exceptions.specs.declared.Stretch.{Stretch}
use Rattle.exceptions.specs.declared.Stretch.TheVariants.{First, Tiny, Wide}

-- ---- any list of entries
-- an entry's hi + lo rounded
abbrev pub reply_of : Entry → Float
reply_of e = add binary64 e.hi e.lo

-- the reply of the first entry whose x equals the given one
unfoldable pub find : List Entry → Float → Option Float
find [] x = None
find (e ∷ es) x = cond (eq x e.x) (Some (reply_of e)) (find es x)

-- the entry i of a list; past its end one that no x equals
abbrev pub nth : List Entry → ℕ → Entry
nth list i = get_or list i (record { x = nan; hi = nan; lo = nan })

-- an entry is found exactly when some entry of the list equals x, and then the reply is its hi + lo rounded
pub data Finds (list : List Entry) (x : Float) : Option Float → Type 0 where
  present : (i : ℕ) → i < length list → T (eq x (nth list i).x) → Finds list x (Some (reply_of (nth list i)))
  absent : ((i : ℕ) → i < length list → T (eq x (nth list i).x) → ⊥) → Finds list x None

-- ---- the table
-- the entry i: its x, hi and lo
unfoldable pub entry_at : ℕ → Entry
entry_at i = record { x = get_or exceptions (i * 3) nan; hi = get_or exceptions (i * 3 + 1) nan; lo = get_or exceptions (i * 3 + 2) nan }

-- the entries of a stretch: from `start` up to `end` - 1
abbrev pub start : Stretch → ℕ
start First = 0
start Tiny = 56
start Wide = 115

abbrev pub end : Stretch → ℕ
end First = 56
end Tiny = 115
end Wide = 208

-- n entries of a sequence, from the entry i on
unfoldable pub entries_from : (ℕ → Entry) → ℕ → ℕ → List Entry
entries_from entry i zero = []
entries_from entry i (suc n) = entry i ∷ entries_from entry (suc i) n

unfoldable pub entries : Stretch → List Entry
entries s = entries_from entry_at (start s) (end s - start s)

-- "one table in three stretches, each strictly ascending by x, shown for the whole table together": the stretches follow each other from the first number to the last, and of two
-- entries of a stretch the later has the greater x
pub record Ascending : Type 0 where
  pub first : start First ≡ 0
  pub tiny : start Tiny ≡ end First
  pub wide : start Wide ≡ end Tiny
  pub whole : length exceptions ≡ end Wide * 3
  pub finite_at : (s : Stretch) (i : ℕ) → start s ≤ i → i < end s → T (finite (entry_at i).x)
  pub ascends : (s : Stretch) (i j : ℕ) → start s ≤ i → i < j → j < end s → T (lt (entry_at i).x (entry_at j).x)

-- what the search asks of its bounds: the entries from lo up to hi - 1 belong to one stretch
pub record Part (lo hi : ℕ) : Type 0 where
  pub of : Stretch
  pub from : start of ≤ lo
  pub upto : hi ≤ end of
