-- `exp2m1::score` meets its contract: a NaN weight has a NaN score, and the bits of any other weight are the pattern that was given. Assumes nothing.
use mathlib.Core.Path.{◌≡◌, refl, sym, ap, ◌∙◌}
use mathlib.Core.Bool.{true, false, true≢false}
use mathlib.Core.List.{[]}
use mathlib.Core.Logic.{⊎_elim}
use Prim.Native.Nat.{ℕ, ◌%◌, ◌^◌, ◌≤◌, ◌<◌}
use lib.Ieee.{Float, binary64, is_nan, of_bits, to_bits}
use Rattle.wide.proofs.Nat.{le_or_gt}
use Rattle.ieee754.specs.Operations.{quiet}
use Rattle.ieee754.proofs.Nans.{nan_first, number_last}
use Rattle.exceptions.specs.declared.Stretch.TheVariants.{First}
use Rattle.exceptions.specs.Lookup.{entries}
use Rattle.pair.specs.Pair.{bits}
use Rattle.exp2m1.specs.Score.{steps, score_bits}
use Rattle.exp2m1.proofs.Steps.{step_1, same_steps}
use borrow.Author.Rules.{rules}
use Rattle.exp2m1.proofs.score.Goals as goal
use Rattle.exp2m1.proofs.score.Goals.{else-is_nan-via-then-is_nan+else-x-gt-INFINITY, else-is_nan-via-else-is_nan}

by_pattern : (ux : ℕ) {x y : Float} → ux < 2 ^ 64 → x ≡ of_bits binary64 ux → y ≡ steps (entries First) (to_bits binary64 x) x → y ≡ steps (entries First) ux (bits ux)
by_pattern ux l hx hy = hy ∙ ap (λ (x : Float). steps (entries First) (to_bits binary64 x) x) hx ∙ same_steps (entries First) ux l

of_nan : (ux : ℕ) {r : ℕ} → 0x7ff0000000000000 < ux % 2 ^ 63 → r ≡ quiet ux → r ≡ score_bits ux
unfolding score_bits
of_nan ux n h = h ∙ nan_first ux [] _ n

follows : (ux : ℕ) {y : Float} {r : ℕ} → ux % 2 ^ 63 ≤ 0x7ff0000000000000 → y ≡ steps (entries First) ux (bits ux) → r ≡ to_bits binary64 y → r ≡ score_bits ux
unfolding score_bits
follows ux n hy hr = hr ∙ ap (to_bits binary64) hy ∙ number_last ux _ n

nan_is : is_nan (bits 0x7ff8000000000000) ≡ true
unfolding is_nan of_bits
nan_is = refl

-- a score that is no NaN is not that of one

number : (ux : ℕ) {y : Float} → y ≡ steps (entries First) ux (bits ux) → is_nan y ≡ false → ux % 2 ^ 63 ≤ 0x7ff0000000000000
number ux hy e = ⊎_elim (λ l. l) (λ h. absurd (true≢false (sym (ap is_nan (hy ∙ step_1 (entries First) ux (bits ux) h) ∙ nan_is) ∙ e))) (le_or_gt (ux % 2 ^ 63) 0x7ff0000000000000)

pub returns-then-x-gt-INFINITY : goal.returns-then-x-gt-INFINITY
returns-then-x-gt-INFINITY c = of_nan _ c.if-x-gt-INFINITY.true c.quiet.ensures

pub returns : goal.returns
returns c =
    let y = by_pattern c.args.x (search rules) c.from_bits.ensures c.exp2m1-y.ensures in
    follows _
    (elim c.else-is_nan.branch [ else-is_nan-via-then-is_nan+else-x-gt-INFINITY w ↦ w.if-x-gt-INFINITY.false | else-is_nan-via-else-is_nan w ↦ number _ y (sym c.is_nan.ensures.value ∙ w.if-is_nan.false) ])
    y c.to_bits.ensures
