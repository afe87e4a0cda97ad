-- Document 01, "Bench values": the starred values of score and fused, as one statement over one list, computed. Assumes nothing.
use Rattle.std.specs.Prelude.{ℕ, Bool, true, ◌&&◌, List, [], ◌∷◌, T, eqb}
use Rattle.std.specs.Float.Ieee.{round, add, sub, mul, neg, eq, le, lt, of_bits, to_bits, of_int, to_signed}
use Rattle.rounding.specs.declared.Direction.TheVariants.{Nearest}
use Rattle.ieee754.specs.Operations.{fused_multiply_add, round_to_integral, fused_bits}
use Rattle.double_double.specs.Pairs.{fast_two_sum, fast_sum, a_mul, s_mul, d_mul}
use Rattle.exceptions.specs.Table.{exceptions}
use Rattle.exceptions.specs.Lookup.{find, entry_at, entries_from, entries}
use Rattle.power_tables.specs.Tables.{T1, T2}
use Rattle.exponential.specs.Exponential.{q1, q2, scaled, times_power, exp1, exp2}
use Rattle.exp2m1_tiny.specs.Tiny.{horner_step, exp2m1_fast_tiny, polynomial_q, exp2m1_accurate_tiny}
use Rattle.exp2m1_whole.specs.Whole.{power_less_one, exp2m1_whole}
use Rattle.exp2m1.specs.Phases.{exp2m1_scaled, exp2m1_two_terms, subtract_one, exp2m1_fast, exp2m1_accurate}
use Rattle.exp2m1.specs.Score.{is_whole, rounded, steps, score_bits}

pub data Call : Type 0 where
  score : ℕ → Call
  fused : ℕ → ℕ → ℕ → Call

abbrev pub result : Call → ℕ
result (score x) = score_bits x
result (fused a b c) = fused_bits Nearest a b c

-- a call and what it gives, on bit patterns
pub data Case : Type 0 where
  gives : Call → ℕ → Case

unfoldable pub right : Case → Bool
right (gives c r) = eqb (result c) r

unfoldable pub all_right : List Case → Bool
all_right [] = true
all_right (c ∷ cs) = right c && all_right cs

unfoldable pub bench_values : List Case
bench_values =
    -- -54 to -1
    gives (score 0xc04b000000000000) 0xbff0000000000000 ∷
    -- -infinity to -1
    gives (score 0xfff0000000000000) 0xbff0000000000000 ∷
    -- 1024 to +infinity
    gives (score 0x4090000000000000) 0x7ff0000000000000 ∷
    -- -53
    gives (score 0xc04a800000000000) 0xbfefffffffffffff ∷
    -- 53
    gives (score 0x404a800000000000) 0x433fffffffffffff ∷
    -- -0 to -0
    gives (score 0x8000000000000000) 0x8000000000000000 ∷
    -- bits 1 to bits 1
    gives (score 1) 1 ∷
    -- bits 3 to bits 2
    gives (score 3) 2 ∷
    -- 2 ^ -104
    gives (score 0x3970000000000000) 0x39662e42fefa39ef ∷
    -- 0x1.8a5dd21ef35afp-104, an entry with lo beyond half a spacing
    gives (score 0x3978a5dd21ef35af) 0x397115aa0fb29a6f ∷
    -- -0x1.1e3a6eaa49c6ep-84, an entry
    gives (score 0xbab1e3a6eaa49c6e) 0xbaa8ccbeeaab37e4 ∷
    -- fused: 1 + 2 ^ -52 squared, less 1 + 2 ^ -51
    gives (fused 0x3ff0000000000001 0x3ff0000000000001 0xbff0000000000002) 0x3970000000000000 ∷
    -- fused 2 ^ -1074, 0.5, 2 ^ -1074 to bits 2
    gives (fused 1 0x3fe0000000000000 1) 2 ∷
    -- fused 1, -0, +0 to +0
    gives (fused 0x3ff0000000000000 0x8000000000000000 0) 0 ∷
    -- a NaN, to itself with its top fraction bit set
    gives (score 0xfff0000000000001) 0xfff8000000000001 ∷
    []

pub bench_values_lem : T (all_right bench_values)
unfolding bench_values all_right right fused_bits score_bits steps is_whole rounded exp2m1_scaled exp2m1_two_terms power_less_one exp2m1_whole horner_step exp2m1_fast_tiny subtract_one exp2m1_fast polynomial_q exp2m1_accurate_tiny exp2m1_accurate q1 q2 scaled times_power exp1 exp2 T1 T2 find entry_at entries_from entries exceptions fast_two_sum fast_sum a_mul s_mul d_mul fused_multiply_add round_to_integral round add sub mul neg eq le lt of_bits to_bits of_int to_signed
bench_values_lem = tt
