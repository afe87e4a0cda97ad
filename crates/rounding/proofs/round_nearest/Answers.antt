-- `rounding::round_nearest` meets its contract. Assumes nothing.
use mathlib.Core.Path.{sym, ◌∙◌}
use Prim.Native.Nat.{ℕ, ◌+◌, ◌-◌, ◌≤◌}
use lib.Count.{count_leading_zeros}
use native.Mathlib.Omega.{arith}
use Rattle.rounding.specs.declared.Direction.TheVariants.{Nearest}
use Rattle.rounding.proofs.Rounded.{bits_normal}
use Rattle.rounding.proofs.Leading.{Leads, leads, stands_top}
use Rattle.rounding.proofs.round_nearest.Goals as goal
use Rattle.rounding.proofs.round_nearest.Goals.{Start}

high_word : (s : Start) → Leads s.args.w.hi (count_leading_zeros 64 s.args.w.hi)
high_word s = leads s.args.w.hi s.requires.0 s.well_formed.1.0.1.1.0.1

bounds : (e z : ℕ) → z ≤ 63 → 1187 ≤ e → e ≤ 3168 → (1252 ≤ e + 128 - z) × (e + 128 - z ≤ 3296)
bounds e z h l m = omega arith

pub overflow_cast-z : goal.overflow_cast-z
overflow_cast-z s = omega (arith, high_word s)

pub overflow_sub-e : goal.overflow_sub-e
overflow_sub-e c = omega (arith, high_word (goal.at.overflow_sub-e c).Start)

pub pack_normal-requires : goal.pack_normal-requires
pack_normal-requires c =
    let s = (goal.at.pack_normal-requires c).Start in
    let b = bounds s.args.e (count_leading_zeros 64 s.args.w.hi) (high_word s).few s.requires.1 s.requires.2 in
    (c.leading_digits.ensures.0, b.0, b.1)

pub returns : goal.returns
returns c =
    λ num den h x.
    let s = (goal.at.returns c).Start in
    let a = s.args in
    let m = c.leading_digits in
    c.pack_normal.ensures ∙ sym (bits_normal Nearest a.neg (stands_top m.result (count_leading_zeros 64 a.w.hi) (high_word s).few h m.ensures.1) m.ensures.0 m.type_inv (bounds a.e (count_leading_zeros 64 a.w.hi) (high_word s).few s.requires.1 s.requires.2).0)
