-- Step 6: the weights that it decides are among the 107, their scores are exactly 2 ^ x - 1, by one test of all of them, and what the source's operations give. Assumes nothing.
use mathlib.Core.Path.{◌≡◌, refl, sym, ap, ◌∙◌, subst}
use mathlib.Core.Bool.{Bool, true, ◌&&◌}
use mathlib.Core.List.{[]}
use Prim.Native.Nat.{ℕ, ◌%◌, ◌^◌, ◌<◌}
use lib.Dec.{T, eqb, lit≤, lit<}
use lib.Ieee.{Float, binary64, round, eq, le, lt, fits, of_bits, to_bits, of_int, to_signed}
use lib.Ieee.Fits.{and_l, and_r}
use Rattle.rounding.specs.declared.Direction.TheVariants.{Down}
use Rattle.ieee754.specs.Operations.{round_to_integral}
use Rattle.pair.specs.Pair.{bits}
use Rattle.exp2m1_whole.specs.Whole.{weight, power_less_one, exp2m1_whole, Exactly, operations}
use Rattle.exp2m1_whole.specs.Table.{every, same, exact}
use Rattle.exp2m1_whole.proofs.Places.{exactly_at, step_six}
use Rattle.exp2m1.specs.Range.{Bounded}
use Rattle.exp2m1.specs.Score.{is_whole, steps, score_bits}
use Rattle.exp2m1.specs.Whole.{WholeScores, NoReplyChanges}
use Rattle.exp2m1.proofs.Patterns.{bounded_between}
use Rattle.exp2m1.proofs.Floor.{Settled, whole_weight}
use Rattle.exp2m1.proofs.Steps.{step_6}

-- ---- the weights
whole_tests : (u : ℕ) (x : Float) → is_whole u x ≡ true
    → T (eq x (round_to_integral Down x)) × T (le (bits 0xc04a800000000000) (round_to_integral Down x)) × T (le (round_to_integral Down x) (bits 0x404a800000000000))
unfolding is_whole
whole_tests u x h =
    let i = round_to_integral Down x in
    let a : Bool = eqb (u % 2 ^ 47) 0 in
    let b : Bool = eq x i in
    let d : Bool = le (bits 0xc04a800000000000) i in
    let g : Bool = le i (bits 0x404a800000000000) in
    let t = and_r a (b && (d && g)) (subst T (sym h) tt) in
    let w = and_r b (d && g) t in
    (and_l b (d && g) t, and_l d g w, and_r d g w)

pub settled : (x : Float) (u : ℕ) → T (fits binary64 x) → Bounded x → 0x3cc0527dbd87e24d < to_bits binary64 x % 2 ^ 63 → is_whole u x ≡ true → Settled x
settled x u f b a w = let t = whole_tests u x w in whole_weight x f (bounded_between 0x3cc0527dbd87e24d x f b a) t.0 t.1 t.2

pub no_reply_changes : NoReplyChanges
no_reply_changes list x f b a w =
    let S = settled x (to_bits binary64 x) f b a w in
    let W = S.0 in
    step_6 list (to_bits binary64 x) x b.deep b.large a w
    ∙ ap exp2m1_whole W.is
    ∙ sym (ap operations (S.1 ∙ W.is) ∙ step_six.as_source W.place W.last)

-- ---- the scores
abbrev scored : ℕ → Float
scored p = bits (score_bits (to_bits binary64 (weight p)))

tested : T (every (λ (p : ℕ). exact p (scored p)) 107)
unfolding every same exact score_bits steps is_whole power_less_one exp2m1_whole round_to_integral round eq le lt fits of_bits to_bits of_int to_signed
tested = tt

pub whole_scores : WholeScores
whole_scores = exactly_at scored tested

-- ---- examples: -53 and 53, and of what step 6 decides the smallest, -1 and 1
pub ends : Exactly 0 (bits 0xbfefffffffffffff) × Exactly 106 (bits 0x433fffffffffffff)
unfolding score_bits steps is_whole power_less_one exp2m1_whole round_to_integral round eq le lt of_bits to_bits of_int to_signed
ends = (whole_scores 0 (lit≤ tt), whole_scores 106 (lit≤ tt))

pub as_before :
    (operations (bits 0xc04a800000000000) ≡ bits 0xbfefffffffffffff)
    × (operations (bits 0xbff0000000000000) ≡ bits 0xbfe0000000000000)
    × (operations (bits 0x3ff0000000000000) ≡ bits 0x3ff0000000000000)
    × (operations (bits 0x404a800000000000) ≡ bits 0x433fffffffffffff)
unfolding steps is_whole power_less_one exp2m1_whole round_to_integral round eq le lt fits of_bits to_bits of_int to_signed
as_before = (
  sym (no_reply_changes [] (bits 0xc04a800000000000) tt (record { deep = lit< tt; large = lit< tt }) (lit< tt) refl),
  sym (no_reply_changes [] (bits 0xbff0000000000000) tt (record { deep = lit< tt; large = lit< tt }) (lit< tt) refl),
  sym (no_reply_changes [] (bits 0x3ff0000000000000) tt (record { deep = lit< tt; large = lit< tt }) (lit< tt) refl),
  sym (no_reply_changes [] (bits 0x404a800000000000) tt (record { deep = lit< tt; large = lit< tt }) (lit< tt) refl),
)
