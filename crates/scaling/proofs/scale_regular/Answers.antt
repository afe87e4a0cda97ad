-- `scaling::scale_regular` meets its contract. Assumes nothing.
use mathlib.Core.Path.{◌≡◌, sym, ap, ◌∙◌, subst}
use Prim.Native.Nat.{ℕ, ◌*◌, ◌^◌, ◌≤◌}
use native.Mathlib.Nat.{le_of_lt}
use mathlib.Core.Bool.{Bool}
use mir.Syntax.{w32}
use mir.ValLaws.{to_z-of_z}
use lib.Ieee.{of_bits, binary64}
use native.Mathlib.Omega.{arith}
use Rattle.rounding.specs.declared.Direction.TheVariants.{Nearest}
use Rattle.operands.specs.Machine.{sign_of, scaled_exponent}
use Rattle.scaling.proofs.Powers.{Packs, scale_is, scaled_le, scaled_answer}
use Rattle.scaling.proofs.scale_regular.Goals as goal
use Rattle.scaling.proofs.scale_regular.Goals.{After-scaled_exponent-e, After-read-p, Start, After-negative-neg}

exponent : (c : After-scaled_exponent-e) → c.scaled_exponent-e.result ≡ scaled_exponent c.read-p.result.e c.args.n
exponent c = let s = c.before.before.before in c.scaled_exponent-e.ensures ∙ ap (scaled_exponent c.read-p.result.e) (to_z-of_z w32 s.args.n s.ranges.n)

significand : (m : ℕ) → 2 ^ 52 ≤ m → 2 ^ 63 ≤ m * 2048
significand m h = omega arith

pub round_pack-requires : goal.round_pack-requires
round_pack-requires c =
    let e = (goal.at.round_pack-requires c).After-scaled_exponent-e in
    let r = (goal.at.round_pack-requires c).After-read-p in
    let s = (goal.at.round_pack-requires c).Start in
    (significand r.read-p.result.m r.read-p.result.low, subst (λ (x : ℕ). x ≤ 4322) (sym (exponent e)) (scaled_le r.read-p.result.e s.args.n r.read-p.result.small))

pub returns : goal.returns
returns c =
    let e = (goal.at.returns c).After-scaled_exponent-e in
    let r = (goal.at.returns c).After-read-p in
    let n = (goal.at.returns c).After-negative-neg in
    let s = (goal.at.returns c).Start in
    let p = r.read-p.result in
    let v = r.read-p.ensures in
    scaled_answer Nearest (sign_of s.args.x) p.m p.e c.round_pack.result s.args.n (of_bits binary64 s.args.x) p.low p.high v
    (subst (λ (x : ℕ). Packs Nearest (sign_of s.args.x) (p.m * 2048) x c.round_pack.result) (exponent e) (subst (λ (t : Bool). Packs Nearest t (p.m * 2048) e.scaled_exponent-e.result c.round_pack.result) n.negative-neg.ensures c.round_pack.ensures))
    ∙ scale_is s.args.x s.args.n (le_of_lt s.requires.1)
