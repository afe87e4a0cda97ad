-- `rounding::Rounding::round_word` meets its contract. Assumes nothing.
use mathlib.Core.Path.{sym, ap, ◌∙◌, subst}
use Prim.Native.Nat.{ℕ, ◌+◌, ◌-◌, ◌^◌, ◌≤◌}
use native.Mathlib.Nat.{mod-eq_of_lt}
use lib.Count.{count_leading_zeros}
use native.Mathlib.Omega.{arith}
use Rattle.rounding.specs.Machine.{packed, normal_bits}
use Rattle.rounding.proofs.Leading.{Leads, leads, bits_word}
use Rattle.rounding.proofs.Rounding.round_word.Goals as goal
use Rattle.rounding.proofs.Rounding.round_word.Goals.{Start}

word : (s : Start) → Leads s.args.w (count_leading_zeros 64 s.args.w)
word s = leads s.args.w s.requires.0 s.well_formed.1.0.1

bounds : (e z : ℕ) → z ≤ 63 → 1251 ≤ e → e ≤ 3232 → (1252 ≤ e + 64 - z) × (e + 64 - z ≤ 3296)
bounds e z h l m = omega arith

pub overflow_cast-z : goal.overflow_cast-z
overflow_cast-z s = omega (arith, word s)

pub overflow_shl-w : goal.overflow_shl-w
overflow_shl-w s = omega (arith, word s)

pub overflow_sub-e : goal.overflow_sub-e
overflow_sub-e s = omega (arith, word s)

pub pack_normal-requires : goal.pack_normal-requires
pack_normal-requires s =
    let l = word s in
    let b = bounds s.args.e (count_leading_zeros 64 s.args.w) l.few s.requires.1 s.requires.2 in
    (subst (λ (x : ℕ). 2 ^ 63 ≤ x) (sym (mod-eq_of_lt l.high)) l.low, b.0, b.1)

pub returns : goal.returns
returns c =
    λ num den h x.
    let s = (goal.at.returns c).Start in
    let a = s.args in
    let z = count_leading_zeros 64 a.w in
    c.pack_normal.ensures ∙ ap (λ (y : ℕ). packed a.self.dir a.self.neg (normal_bits a.self.dir a.self.neg y (a.e + 64 - z))) (mod-eq_of_lt (word s).high) ∙ sym (bits_word a.self.dir a.self.neg z (word s) h x s.requires.1)
