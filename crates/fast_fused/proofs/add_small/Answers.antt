-- `fast_fused::add_small` meets its contract. Assumes nothing.
use mathlib.Core.Path.{refl, sym, subst}
use mathlib.Core.Bool.{Bool, true, false, cond, beq}
use Prim.Native.Nat.{ℕ, ◌+◌, ◌-◌, ◌^◌, ◌≤◌, ◌<◌}
use native.Mathlib.Omega.{arith}
use Rattle.rounding.specs.declared.Direction.TheVariants.{Nearest}
use Rattle.fast_fused.proofs.SmallProducts.{small_answer}
use Rattle.fast_fused.proofs.add_small.Goals as goal

some : (b : Bool) (x y : ℕ) → y < 2 ^ 61 → 2 ^ 62 ≤ x → 0 < cond b (x + y) (x - y)
some true x y h l = omega arith
some false x y h l = omega arith

pub round_word-requires : goal.round_word-requires
round_word-requires c =
    let a = c.args in
    (subst (λ (n : ℕ). 0 < n) (sym c.pick-w.ensures) (some (beq a.s a.t) a.large a.small c.requires.0 c.requires.1), c.requires.3, c.requires.4)

pub returns : goal.returns
returns c =
    λ A B n h.
    let a = c.args in
    small_answer Nearest a.s a.t h c.requires.1 c.requires.0 c.pick-w.result c.round_word.result c.round_word.ensures (beq a.s a.t) refl c.pick-w.ensures
