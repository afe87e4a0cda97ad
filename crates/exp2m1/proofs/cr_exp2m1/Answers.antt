-- `exp2m1::cr_exp2m1` meets its contract: Steps has each step by its tests. Assumes nothing.
use mathlib.Core.Path.{◌≡◌, sym, ap, ◌∙◌, subst}
use mathlib.Core.List.{List}
use Prim.Native.Nat.{ℕ, ◌%◌, ◌^◌, ◌≤◌, ◌<◌}
use lib.Dec.{T, leb}
use lib.Ieee.{Float, nan, binary64, add, of_bits, to_bits, nan_bits, fits}
use Rattle.pair.specs.Pair.{bits}
use Rattle.exceptions.specs.declared.Entry.{Entry}
use Rattle.exceptions.specs.declared.Stretch.TheVariants.{First}
use Rattle.exceptions.specs.Lookup.{entries}
use Rattle.exp2m1.specs.Range.{Bounded}
use Rattle.exp2m1.specs.Score.{steps}
use Rattle.exp2m1.proofs.Patterns.{nan_above, negative_number}
use Rattle.exp2m1.proofs.Whole.{settled}
use Rattle.exp2m1.proofs.Steps.{step_1, step_2}
use Rattle.exp2m1.proofs.cr_exp2m1.Goals as goal
use Rattle.exp2m1.proofs.cr_exp2m1.Goals.{Start}

abbrev first : List Entry
first = entries First

-- what is shown of the bits that were read holds of the weight's bits

by_bits : (x : Float) {u v : ℕ} {r : Float} → u ≡ v → steps first u x ≡ r → r ≡ steps first v x
by_bits x e h = sym h ∙ ap (λ (n : ℕ). steps first n x) e

held : (c : Start) → T (fits binary64 c.args.x)
held c = subst T (sym c.well_formed.0.1) tt

pub returns-then-ux-ge13856168678535462912 : goal.returns-then-ux-ge13856168678535462912
returns-then-ux-ge13856168678535462912 c =
    let s = (goal.at.returns-then-ux-ge13856168678535462912 c).Start in
    let e = c.to_bits-ux.ensures in
    let n = negative_number s.args.x (held s) (subst (λ (u : ℕ). 0xc04b000000000000 ≤ u) e c.if-ux-ge13856168678535462912.true) in
    by_bits _ e (step_2 first _ _ (subst (λ (u : ℕ). u % 2 ^ 63 ≤ 0x7ff0000000000000) (sym e) n) c.if-ux-ge13856168678535462912.true)

nan_sum : {x : Float} → x ≡ nan → bits 0x7ff8000000000000 ≡ add binary64 x x
unfolding add of_bits
nan_sum h = ap (λ (y : Float). add binary64 y y) (sym h)

pub returns-then-ax-gt9218868437227405312 : goal.returns-then-ax-gt9218868437227405312
returns-then-ax-gt9218868437227405312 c =
    let s = (goal.at.returns-then-ax-gt9218868437227405312 c).Start in
    let e = c.to_bits-ux.ensures in
    by_bits _ e (step_1 first _ _ c.if-ax-gt9218868437227405312.true ∙ nan_sum (nan_above s.args.x (held s) (subst (λ (u : ℕ). 0x7ff0000000000000 < u % 2 ^ 63) e c.if-ax-gt9218868437227405312.true)))

-- ---- step 6

bounded : (x : Float) {u : ℕ} → u ≡ to_bits binary64 x → u < 0xc04b000000000000 → u % 2 ^ 63 < 0x4090000000000000 → Bounded x
bounded x e d l = record { deep = subst (λ (n : ℕ). n < 0xc04b000000000000) e d; large = subst (λ (n : ℕ). n % 2 ^ 63 < 0x4090000000000000) e l }

pub exp2m1_whole-requires : goal.exp2m1_whole-requires
exp2m1_whole-requires c =
    let s = (goal.at.exp2m1_whole-requires c).Start in
    let e = c.to_bits-ux.ensures in
    (settled s.args.x _ (held s) (bounded _ e c.if-ux-ge13856168678535462912.false c.if-ax-ge4652218415073722368.false) (subst (λ (u : ℕ). 0x3cc0527dbd87e24d < u % 2 ^ 63) e c.if-ax-le-SMALL.false)
    (sym c.is_whole.ensures ∙ c.if-is_whole.true)).0

-- ---- steps 7 and 8

pub exp2m1_phases-requires : goal.exp2m1_phases-requires
exp2m1_phases-requires c =
    let e = c.to_bits-ux.ensures in
    (bounded _ e c.if-ux-ge13856168678535462912.false c.if-ax-ge4652218415073722368.false, ap (λ (u : ℕ). leb (u % 2 ^ 63) 0x3fc0000000000000) e)

pub float_from_bits-result : goal.float_from_bits-result
unfolding nan_bits
float_from_bits-result c = tt
