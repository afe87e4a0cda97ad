-- `rounding::Rounding::round_bits` meets its contract. Assumes nothing.
use mathlib.Core.Path.{◌≡◌, refl, sym, ap, ◌∙◌}
use Prim.Native.Nat.{ℕ, ◌-◌, ◌/◌, ◌%◌, ◌^◌, ◌≤◌, ◌<◌}
use native.Mathlib.Omega.{arith}
use Rattle.wide.specs.Words.{sticky}
use Rattle.wide.proofs.Sticky.{Jam, jam_of, jam_below, jam_ge}
use Rattle.rounding.specs.Machine.{packed}
use Rattle.rounding.proofs.Rounded.{bits_normal, bits_subnormal, bits_tiny, stands_half}
use Rattle.rounding.proofs.Rounding.round_bits.Goals as goal

-- half of m has 63 digits

halved : (m h : ℕ) → 2 ^ 63 ≤ m → m < 2 ^ 64 → h ≡ sticky (m / 2) (m % 2) → (0 < h) × (h < 2 ^ 63)
halved m h lo hi e = let j : Jam m 2 h = jam_of (omega arith) e in (jam_ge 1 (omega arith) (omega arith) j, jam_below (2 ^ 63) refl (omega arith) j)

pub returns-then-e-ge1252 : goal.returns-then-e-ge1252
returns-then-e-ge1252 c =
    λ num den h.
    let a = c.args in
    bits_normal a.self.dir a.self.neg h (omega arith) (omega arith) (omega arith) ∙ ap (packed a.self.dir a.self.neg) (sym c.normal_bits.ensures)

pub returns-then-e-ge1199 : goal.returns-then-e-ge1199
returns-then-e-ge1199 c =
    λ num den h.
    let a = c.args in
    let half = halved a.m c.set_sticky-half.result (omega arith) (omega arith) c.set_sticky-half.ensures in
    bits_subnormal a.self.dir a.self.neg (stands_half h c.set_sticky-half.ensures) (1262 - a.e) half.1 (omega arith) (omega arith)
    ∙ ap (packed a.self.dir a.self.neg) (sym c.round_shift.ensures)

pub returns-else-e-ge1199 : goal.returns-else-e-ge1199
returns-else-e-ge1199 c =
    λ num den h.
    let a = c.args in
    let half = halved a.m c.set_sticky-half.result (omega arith) (omega arith) c.set_sticky-half.ensures in
    bits_tiny a.self.dir a.self.neg (stands_half h c.set_sticky-half.ensures) half.0 half.1 (omega arith)
    ∙ ap (packed a.self.dir a.self.neg) (sym c.round_shift-else-e-ge1199.ensures)
