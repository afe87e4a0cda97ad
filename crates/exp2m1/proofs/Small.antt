-- Step 5 is the one that looks at the list of entries: where it does not decide, the score is the same with every list. Assumes nothing.
use mathlib.Core.Path.{◌≡◌, refl, sym, ap, ◌∙◌}
use mathlib.Core.Bool.{Bool, true, false, cond, true≢false}
use mathlib.Core.List.{List, [], ◌∷◌}
use Prim.Native.Nat.{ℕ, ◌%◌, ◌^◌, ◌<◌}
use native.Mathlib.Omega.{arith}
use lib.Dec.{leb}
use lib.Ieee.{Float, binary64, to_bits}
use borrow.Author.Tests.{leb-true, leb-false}
use Rattle.ieee754.specs.Operations.{first_nan}
use Rattle.ieee754.proofs.Nans.{number_last}
use Rattle.pair.specs.Pair.{bits}
use Rattle.exceptions.specs.declared.Entry.{Entry}
use Rattle.std.specs.Prelude.{unwrap_or}
use Rattle.exceptions.specs.Lookup.{find}
use Rattle.exp2m1.specs.Phases.{exp2m1_two_terms}
use Rattle.exp2m1.specs.Score.{steps, score_with}
use Rattle.exp2m1.specs.Range.{is_small}
use Rattle.exp2m1.proofs.Steps.{step_5}

module _ (list : List Entry) (ux : ℕ) where
  not_small : (x : Float) (other : List Entry) (b : Bool) → leb (ux % 2 ^ 63) 0x3970000000000000 ≡ b → is_small ux ≡ false → steps list ux x ≡ steps other ux x
  unfolding steps is_small
  not_small x other true e h = rw e
  not_small x other false e h = rw (e, ap (λ (b : Bool). cond b false (leb (ux % 2 ^ 63) 0x3cc0527dbd87e24d)) (sym e) ∙ h)

  pub elsewhere : (other : List Entry) → is_small ux ≡ false → score_with list ux ≡ score_with other ux
  elsewhere other h = ap (λ (y : Float). first_nan (ux ∷ []) (to_bits binary64 y)) (not_small (bits ux) other (leb (ux % 2 ^ 63) 0x3970000000000000) refl h)

  within : (b c : Bool) → cond b false c ≡ true → (b ≡ false) × (c ≡ true)
  within true c h = absurd (true≢false (sym h))
  within false c h = (refl, h)

  pub small : ux < 2 ^ 64 → is_small ux ≡ true → score_with list ux ≡ to_bits binary64 (unwrap_or (find list (bits ux)) (exp2m1_two_terms (bits ux)))
  unfolding is_small
  small u h =
      let t = within (leb (ux % 2 ^ 63) 0x3970000000000000) (leb (ux % 2 ^ 63) 0x3cc0527dbd87e24d) h in
      let over = leb-false _ _ t.0 in
      let upto = leb-true _ _ t.1 in
      sym (number_last ux _ (omega arith)) ∙ ap (to_bits binary64) (step_5 list ux (bits ux) (omega arith) (omega arith) over upto)
