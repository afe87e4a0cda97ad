-- Replies to lent lists, computed, as one statement over a list of cases. Assumes nothing.
use Prim.Native.Nat.{ℕ, ◌+◌}
use mathlib.Core.Bool.{Bool, true, false, ◌&&◌}
use mathlib.Core.List.{List, [], ◌∷◌}
use lib.Dec.{T, eqb}
use lib.Ieee.{round, add, sub, mul, neg, eq, le, lt, of_bits, to_bits, to_signed}
use Rattle.std.specs.Prelude.{Result, Ok, Err}
use Rattle.ieee754.specs.Operations.{fused_multiply_add, round_to_integral, first_nan}
use Rattle.pair.specs.Pair.{bits}
use Rattle.double_double.specs.Pairs.{fast_two_sum, fast_sum, a_mul, s_mul, d_mul}
use Rattle.exceptions.specs.declared.Entry.{Entry}
use Rattle.exceptions.specs.Lookup.{find, entries_from}
use Rattle.exception_list.specs.List.{is_good, all_good, ascending, refusal_of}
use Rattle.exp2m1_whole.specs.Whole.{power_less_one, exp2m1_whole}
use Rattle.exp2m1.specs.Phases.{exp2m1_scaled, exp2m1_two_terms}
use Rattle.exp2m1.specs.Score.{is_whole, rounded, steps}
use Rattle.score_with.specs.Score.{scored_with}

abbrev entry : ℕ → ℕ → ℕ → Entry
entry x hi lo = record { x = bits x; hi = bits hi; lo = bits lo }

pub data Case : Type 0 where
  gives : List Entry → ℕ → Result ℕ ℕ → Case

abbrev same : Result ℕ ℕ → Result ℕ ℕ → Bool
same (Err m) (Err n) = eqb m n
same (Ok a) (Ok b) = eqb a b
same (Err m) (Ok b) = false
same (Ok a) (Err n) = false

unfoldable pub all_right : List Case → Bool
all_right [] = true
all_right (gives list x r ∷ cs) = same (scored_with list x) r && all_right cs

-- 2 ^ -84 to 2 + 1, 2 ^ -83 to twice the largest number, 1 to 5
abbrev good : List Entry
good = entry 0x3ab0000000000000 0x4000000000000000 0x3ff0000000000000 ∷ entry 0x3ac0000000000000 0x7fefffffffffffff 0x7fefffffffffffff ∷ entry 0x3ff0000000000000 0x4014000000000000 0 ∷ []

-- 1 twice
abbrev bad : List Entry
bad = entry 0x3ff0000000000000 0 0 ∷ entry 0x3ff0000000000000 0 0 ∷ []

-- 257 entries from 1 on
abbrev long : List Entry
long = entries_from (λ i. entry (0x3ff0000000000000 + i) 0 0) 0 257

unfoldable pub cases : List Case
cases =
    -- found: hi + lo, and an infinite one
    gives good 0x3ab0000000000000 (Ok 0x4008000000000000) ∷
    gives good 0x3ac0000000000000 (Ok 0x7ff0000000000000) ∷
    -- -2 ^ -84 has no entry
    gives good 0xbab0000000000000 (Ok 0xbaa62e42fefa39ef) ∷
    -- 1 has one, and is not met by step 5: 2 ^ 1 - 1
    gives good 0x3ff0000000000000 (Ok 0x3ff0000000000000) ∷
    -- an entry of the first table, whose reply there is 0x397115aa0fb29a6f: without a list two terms decide
    gives [] 0x3978a5dd21ef35af (Ok 0x397115aa0fb29a70) ∷
    -- steps 1 to 4
    gives good 0x7ff0000000000001 (Ok 0x7ff8000000000001) ∷
    gives good 0xffffffffffffffff (Ok 0xffffffffffffffff) ∷
    gives good 0xfff0000000000000 (Ok 0xbff0000000000000) ∷
    gives good 0x4090000000000000 (Ok 0x7ff0000000000000) ∷
    gives good 0x8000000000000000 (Ok 0x8000000000000000) ∷
    gives good 3 (Ok 2) ∷
    -- refused, whatever the weight
    gives bad 0x3ab0000000000000 (Err 13) ∷
    gives bad 0x7ff0000000000001 (Err 13) ∷
    gives bad 0xfff0000000000000 (Err 13) ∷
    gives bad 0 (Err 13) ∷
    gives long 0x3ab0000000000000 (Err 12) ∷
    gives long 0x7ff0000000000001 (Err 12) ∷
    []

pub replies : T (all_right cases)
unfolding cases all_right scored_with refusal_of all_good ascending is_good first_nan steps is_whole rounded find entries_from exp2m1_scaled exp2m1_two_terms power_less_one exp2m1_whole fast_two_sum fast_sum a_mul s_mul d_mul fused_multiply_add round_to_integral round add sub mul neg eq le lt of_bits to_bits to_signed
replies = tt
