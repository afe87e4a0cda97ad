-- `exponential::times_power` meets its contract. Assumes nothing.
use mathlib.Core.Path.{◌≡◌, sym, ap, ◌∙◌, subst}
use Prim.Native.Nat.{ℕ, ◌≤◌}
use native.Mathlib.Nat.{le_of_eq, le_trans}
use lib.IntN.{ℤ}
use mir.Syntax.{w64}
use mir.Val.{of_z, to_z}
use mir.ValLaws.{to_z-of_z}
use Rattle.exponential.specs.Exponential.{exponent_word}
use Rattle.exponential.specs.Range.{Index}
use Rattle.exponential.proofs.Bits.{word_le}
use Rattle.exponential.proofs.times_power.Goals as goal
use Rattle.exponential.proofs.times_power.Goals.{Start}

-- k as it arrives in a call

arrives : (c : Start) → to_z w64 (of_z w64 c.args.k) ≡ c.args.k
arrives c = to_z-of_z w64 c.args.k c.ranges.k

pub exponent_word-requires : goal.exponent_word-requires
exponent_word-requires c =
    let s = (goal.at.exponent_word-requires c).Start in
    subst (λ (k : ℤ). Index k) (sym (arrives s)) s.requires

word_small : (k : ℤ) {z : ℤ} {m : ℕ} → z ≡ k → Index k → m ≡ exponent_word z → m ≤ 0x7ff
word_small k e h w = let l = word_le k h in le_trans (le_of_eq (w ∙ ap exponent_word e)) l

pub scale-requires : goal.scale-requires
scale-requires c =
    let s = (goal.at.scale-requires c).Start in
    word_small s.args.k (arrives s) s.requires c.exponent_word.ensures
