-- Request A.5: "the 107 scores for -53 to 53", and "no reply changes". Definitions only.
use Rattle.std.specs.Prelude.{◌≡◌, true, List, ℕ, ◌%◌, ◌^◌, ◌≤◌, ◌<◌, T, Float}
use Rattle.std.specs.Float.{binary64}
use Rattle.std.specs.Float.Ieee.{fits, to_bits}
use Rattle.rounding.specs.declared.Direction.TheVariants.{Down}
use Rattle.ieee754.specs.Operations.{round_to_integral}
use Rattle.pair.specs.Pair.{bits}
use Rattle.exceptions.specs.declared.Entry.{Entry}
use Rattle.exp2m1_whole.specs.Whole.{weight, Exactly, operations}
use Rattle.exp2m1.specs.Range.{Bounded}
use Rattle.exp2m1.specs.Score.{is_whole, steps, score_bits}

-- the score of the weight at each place is exactly 2 ^ x - 1
abbrev pub WholeScores : Type 0
WholeScores = (p : ℕ) → p ≤ 106 → Exactly p (bits (score_bits (to_bits binary64 (weight p))))

-- where step 6 decides, the score is what the source's operations give for the floor of x
abbrev pub NoReplyChanges : Type 0
NoReplyChanges =
    (list : List Entry) (x : Float) → T (fits binary64 x) → Bounded x → 0x3cc0527dbd87e24d < to_bits binary64 x % 2 ^ 63 → is_whole (to_bits binary64 x) x ≡ true
    → steps list (to_bits binary64 x) x ≡ operations (round_to_integral Down x)
