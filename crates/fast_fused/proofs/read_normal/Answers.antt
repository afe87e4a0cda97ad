-- `fast_fused::read_normal` meets its contract. Assumes nothing.
use mathlib.Core.Path.{◌≡◌, refl, ap, ◌∙◌}
use Prim.Native.Nat.{ℕ, suc, ◌+◌, ◌-◌, ◌%◌, ◌/◌, ◌≤◌, ◌<◌}
use native.Mathlib.Omega.{arith}
use Rattle.operands.proofs.Reading.{reads_mid}
use Rattle.operands.specs.Machine.{field_of}
use Rattle.fast_fused.proofs.read_normal.Goals as goal

one_more : (x : ℕ) → 1 ≤ x → x ≡ suc (x - 1)
one_more x h = omega arith

exponent : (x : ℕ) → 1 ≤ x → x + 51 ≡ x - 1 + 52
exponent x h = omega arith

finite : (x : ℕ) → x / 0x10000000000000 < 2047 → x < 0x7ff0000000000000
finite x h = omega arith

pub returns : goal.returns
returns c =
    let b = c.args.b in
    let x = field_of b in
    let e = ap (λ (n : ℕ). n + 51) c.field.ensures in
    (reads_mid b (x - 1) _ _ (one_more x c.requires.0) (finite (b % 0x8000000000000000) c.requires.1) refl (e ∙ exponent x c.requires.0), e)
