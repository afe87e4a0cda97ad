-- `operands::read` meets its contract. Assumes nothing.
use mathlib.Core.Path.{◌≡◌, refl, sym, ap, ◌∙◌}
use Prim.Native.Nat.{ℕ, suc, ◌+◌, ◌-◌, ◌/◌}
use native.Mathlib.Omega.{arith}
use Rattle.operands.specs.Machine.{magnitude}
use Rattle.operands.proofs.Reading.{reads_low, reads_mid}
use Rattle.operands.proofs.read.Goals as goal
use Rattle.operands.proofs.read.Goals.{Start}

one_more : (x : ℕ) → (x ≡ 0 → ⊥) → x ≡ suc (x - 1)
one_more x n = omega arith

field : (x : ℕ) → (x ≡ 0 → ⊥) → x + 51 ≡ x - 1 + 52
field x n = omega arith

pub returns-then-field-eq0 : goal.returns-then-field-eq0
returns-then-field-eq0 c = reads_low c.args.b _ _ (sym c.field-field.ensures ∙ c.if-field-eq0.true) c.read_subnormal.ensures

pub returns : goal.returns
returns c =
    let s = (goal.at.returns c).Start in
    let b = s.args.b in
    let x = magnitude b / 0x10000000000000 in
    let n : x ≡ 0 → ⊥ = λ e. c.if-field-eq0.false (c.field-field.ensures ∙ e) in
    reads_mid b (x - 1) _ _ (one_more x n) s.requires.1 refl (ap (λ (k : ℕ). k + 51) c.field-field.ensures ∙ field x n)
