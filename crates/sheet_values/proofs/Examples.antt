-- Worked examples of specs/Values.antt and specs/Sheets.antt, computed: the values of a household, a line named twice, and NaN reasons from two
-- lines. Assumes nothing.
use Prim.Native.Nat.{ℕ, ◌<◌}
use mathlib.Core.Path.{◌≡◌, refl}
use mathlib.Core.List.{List, [], ◌∷◌, ◌++◌}
use lib.ListN.{replicate}
use lib.Dec.{lit<}
use Rattle.words.specs.Bytes.{word_bytes}
use Rattle.sheets.specs.Sheet.{line_of, sheet_refusal}
use Rattle.std.specs.Prelude.{None}
use Rattle.sums.specs.Sum.{sum_bits}
use Rattle.sheet_values.specs.Values.{values_of, value_of}
use Rattle.sheet_values.proofs.Sheets.{sheets}

abbrev weight : ℕ → List ℕ
weight x = 0 ∷ word_bytes x

abbrev sum : ℕ → ℕ → List ℕ
sum first second = 1 ∷ first ∷ second ∷ replicate 6 0

-- 1, 2, 1 + 2, 3 + 3, and 6 + 1
abbrev household : List ℕ
household = weight 0x3ff0000000000000 ++ (weight 0x4000000000000000 ++ (sum 0 1 ++ (sum 2 2 ++ sum 3 0)))

pub household_values : values_of household 5 ≡ 0x3ff0000000000000 ∷ 0x4000000000000000 ∷ 0x4008000000000000 ∷ 0x4018000000000000 ∷ 0x401c000000000000 ∷ []
unfolding values_of word_bytes
household_values = refl

-- the first line and the last two, by the theorem: which numbers they name, and whose sum their values are
pub household_lines :
    (value_of household 0 ≡ 0x3ff0000000000000)
    × ((2 < 3) × (2 < 3) × (value_of household 3 ≡ sum_bits (value_of household 2) (value_of household 2)))
    × ((3 < 4) × (0 < 4) × (value_of household 4 ≡ sum_bits (value_of household 3) (value_of household 0)))
unfolding sheet_refusal line_of word_bytes
household_lines =
    (sheets.weight household refl 0 0x3ff0000000000000 (lit< tt) refl, sheets.sum household refl 3 2 2 (lit< tt) refl, sheets.sum household refl 4 3 0 (lit< tt) refl)

pub household_last : line_of household 4 ≡ None → ⊥
unfolding sheet_refusal word_bytes
household_last = sheets.forms household refl 4 (lit< tt)

-- reasons 2 and 3, first plus second both ways, and beside a number
abbrev unreadable : List ℕ
unreadable = weight 0xfff0000000000002 ++ (weight 0x7ff0000000000003 ++ (sum 0 1 ++ (sum 1 0 ++ (weight 0 ++ sum 4 1))))

pub unreadable_values :
    values_of unreadable 6 ≡ 0xfff0000000000002 ∷ 0x7ff0000000000003 ∷ 0xfff8000000000002 ∷ 0x7ff8000000000003 ∷ 0 ∷ 0x7ff8000000000003 ∷ []
unfolding values_of word_bytes
unreadable_values = refl
