-- `rounding::Rounding::round_wide` meets its contract. Assumes nothing.
use mathlib.Core.Path.{◌≡◌, sym, ap, ◌∙◌, subst}
use Prim.Native.Nat.{ℕ, ◌+◌, ◌-◌, ◌*◌, ◌^◌, ◌≤◌, ◌<◌}
use native.Mathlib.Nat.{mod-eq_of_lt, zero-add}
use lib.Count.{count_leading_zeros}
use native.Mathlib.Omega.{arith}
use Rattle.rounding.specs.Machine.{Stands}
use Rattle.rounding.proofs.Leading.{Leads, leads, stands_top, stands_word}
use Rattle.rounding.proofs.Rounding.round_wide.Goals as goal
use Rattle.rounding.proofs.Rounding.round_wide.Goals.{Start, Then-hi-eq0, Else-hi-eq0}

low_lt : (s : Start) → s.args.w.lo < 2 ^ 64
low_lt s = s.well_formed.1.0.1.1.1.0.1

low_word : (c : Then-hi-eq0) → Leads c.args.w.lo (count_leading_zeros 64 c.args.w.lo)
low_word c = let s = c.before in leads s.args.w.lo (some s.args.w.hi s.args.w.lo c.if-hi-eq0.true s.requires.0) (low_lt s)
  where
    some : (h l : ℕ) → h ≡ 0 → 0 < h * 2 ^ 64 + l → 0 < l
    some h l e p = subst (λ (x : ℕ). 0 < x) (ap (λ (x : ℕ). x * 2 ^ 64 + l) e ∙ zero-add l) p

some : (h : ℕ) → (h ≡ 0 → ⊥) → 0 < h
some h n = omega arith

high_word : (c : Else-hi-eq0) → Leads c.args.w.hi (count_leading_zeros 64 c.args.w.hi)
high_word c = let s = c.before in leads s.args.w.hi (some s.args.w.hi c.if-hi-eq0.false) s.well_formed.1.0.1.1.0.1

bound : (e k z : ℕ) → e ≤ 4194 → k ≤ 128 → e + k - z ≤ 4322
bound e k z h l = omega arith

pub overflow_cast-z : goal.overflow_cast-z
overflow_cast-z c = omega (arith, low_word c)

pub overflow_shl-lo : goal.overflow_shl-lo
overflow_shl-lo c = omega (arith, low_word c)

pub overflow_sub-e : goal.overflow_sub-e
overflow_sub-e c = omega (arith, low_word c)

pub round_pack-requires : goal.round_pack-requires
round_pack-requires c =
    let l = low_word c in
    (subst (λ (x : ℕ). 2 ^ 63 ≤ x) (sym (mod-eq_of_lt l.high)) l.low, bound c.args.e 64 (count_leading_zeros 64 c.args.w.lo) c.requires.1 (omega arith))

pub overflow_cast-z-else-hi-eq0 : goal.overflow_cast-z-else-hi-eq0
overflow_cast-z-else-hi-eq0 c = omega (arith, high_word c)

pub leading_digits-requires : goal.leading_digits-requires
leading_digits-requires c = some c.args.w.hi c.if-hi-eq0.false

pub overflow_sub-e-else-hi-eq0 : goal.overflow_sub-e-else-hi-eq0
overflow_sub-e-else-hi-eq0 c = omega (arith, high_word (goal.at.overflow_sub-e-else-hi-eq0 c).Else-hi-eq0)

pub round_pack-requires-else-hi-eq0 : goal.round_pack-requires-else-hi-eq0
round_pack-requires-else-hi-eq0 c = (c.leading_digits.ensures.0, bound c.args.e 128 (count_leading_zeros 64 c.args.w.hi) c.requires.1 (omega arith))

pub returns-then-hi-eq0 : goal.returns-then-hi-eq0
returns-then-hi-eq0 c =
    λ num den h x.
    let t = (goal.at.returns-then-hi-eq0 c).Then-hi-eq0 in
    let s = (goal.at.returns-then-hi-eq0 c).Start in
    let lo = s.args.w.lo in
    let z = count_leading_zeros 64 lo in
    let l = low_word t in
    let e : s.args.w.hi * 2 ^ 64 + lo ≡ lo = ap (λ (y : ℕ). y * 2 ^ 64 + lo) t.if-hi-eq0.true ∙ zero-add lo in
    c.round_pack.ensures num den
    (subst (λ (y : ℕ). Stands 2337 num den y (s.args.e + 64 - z)) (sym (mod-eq_of_lt l.high))
    (stands_word num den lo s.args.e z l.few h.den_pos (subst (λ (y : ℕ). num * 2 ^ 2273 ≡ y * 2 ^ s.args.e * den) e (x (subst (λ (y : ℕ). y < 2 ^ 64) (sym e) (low_lt s))))))

pub returns-else-hi-eq0 : goal.returns-else-hi-eq0
returns-else-hi-eq0 c =
    λ num den h x.
    let t = (goal.at.returns-else-hi-eq0 c).Else-hi-eq0 in
    c.round_pack-else-hi-eq0.ensures num den (stands_top c.leading_digits.result (count_leading_zeros 64 c.args.w.hi) (high_word t).few h c.leading_digits.ensures.1)
