-- The steps by the tests that lead to them, over any list of entries, pattern ux and weight x. Assumes nothing.
use mathlib.Core.Path.{◌≡◌, refl, sym, ap, ◌∙◌, subst}
use mathlib.Core.Bool.{Bool, true, false, not}
use mathlib.Core.List.{List}
use Prim.Native.Nat.{ℕ, ◌%◌, ◌^◌, ◌≤◌, ◌<◌}
use native.Mathlib.Nat.{le_trans, le_of_lt}
use lib.Dec.{T, lit≤, lit<}
use lib.Ieee.{Float, nan, binary64, of_bits, to_bits, is_nan}
use lib.Ieee.Bits.{to_bits-of_bits, nan_bits_is, nan_bits_above}
use borrow.Author.Tests.{le-leb, lt-leb, le-ltb, lt-ltb, ltb-true}
use Rattle.ieee754.proofs.Nans.{only_nan}
use Rattle.pair.specs.Pair.{bits}
use Rattle.exceptions.specs.declared.Entry.{Entry}
use Rattle.std.specs.Prelude.{unwrap_or}
use Rattle.exceptions.specs.Lookup.{find}
use Rattle.exp2m1_whole.specs.Whole.{exp2m1_whole}
use Rattle.exp2m1.specs.Phases.{exp2m1_two_terms}
use Rattle.exp2m1.specs.Score.{is_whole, steps}

module _ (list : List Entry) (ux : ℕ) (x : Float) where
  pub step_1 : 0x7ff0000000000000 < ux % 2 ^ 63 → steps list ux x ≡ bits 0x7ff8000000000000
  unfolding steps
  step_1 h = rw (lt-ltb _ _ h)

  pub step_2 : ux % 2 ^ 63 ≤ 0x7ff0000000000000 → 0xc04b000000000000 ≤ ux → steps list ux x ≡ bits 0xbff0000000000000
  unfolding steps
  step_2 n h = rw (le-ltb _ _ n, le-leb _ _ h)

  -- steps 5 and 6
  module _ (d : ux < 0xc04b000000000000) (l : ux % 2 ^ 63 < 0x4090000000000000) where
    small : ux % 2 ^ 63 ≤ 0x7ff0000000000000
    small = le_trans (le_of_lt l) (lit≤ tt)

    pub step_5 : 0x3970000000000000 < ux % 2 ^ 63 → ux % 2 ^ 63 ≤ 0x3cc0527dbd87e24d → steps list ux x ≡ unwrap_or (find list x) (exp2m1_two_terms x)
    unfolding steps
    step_5 g h = rw (le-ltb _ _ small, lt-leb _ _ d, lt-leb _ _ l, lt-leb _ _ g, le-leb _ _ h)

    module _ (h : 0x3cc0527dbd87e24d < ux % 2 ^ 63) where
      over : 0x3970000000000000 < ux % 2 ^ 63
      over = le_trans (lit≤ tt) h

      pub step_6 : is_whole ux x ≡ true → steps list ux x ≡ exp2m1_whole x
      unfolding steps
      step_6 w = rw (le-ltb _ _ small, lt-leb _ _ d, lt-leb _ _ l, lt-leb _ _ over, lt-leb _ _ h, w)

nan_bits : 0x7ff0000000000000 < to_bits binary64 nan % 2 ^ 63
unfolding to_bits
nan_bits = lit< tt

-- the bits of a weight are its pattern, unless both are a NaN
pub same_steps : (list : List Entry) (ux : ℕ) → ux < 2 ^ 64 → steps list (to_bits binary64 (of_bits binary64 ux)) (of_bits binary64 ux) ≡ steps list ux (of_bits binary64 ux)
same_steps list ux h = go (is_nan (of_bits binary64 ux)) refl
  where
    go : (b : Bool) → is_nan (of_bits binary64 ux) ≡ b → steps list (to_bits binary64 (of_bits binary64 ux)) (of_bits binary64 ux) ≡ steps list ux (of_bits binary64 ux)
    go true e =
        let n = only_nan (of_bits binary64 ux) e in
        step_1 list (to_bits binary64 (of_bits binary64 ux)) (of_bits binary64 ux) (subst (λ (x : Float). 0x7ff0000000000000 < to_bits binary64 x % 2 ^ 63) (sym n) nan_bits)
        ∙ sym (step_1 list ux (of_bits binary64 ux) (ltb-true _ _ (sym (nan_bits_above binary64 ux) ∙ nan_bits_is binary64 ux ∙ e)))
    go false e = ap (λ (u : ℕ). steps list u (of_bits binary64 ux)) (to_bits-of_bits binary64 ux h (subst (λ (b : Bool). T (not b)) (sym e) tt))
