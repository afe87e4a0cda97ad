-- `constant::whole_bits` meets its contract. Assumes nothing.
use mathlib.Core.Path.{◌≡◌, refl, sym, ap, ◌∙◌}
use mathlib.Core.Bool.{Bool}
use Prim.Native.Nat.{ℕ, ◌+◌, ◌*◌, ◌/◌, ◌%◌, ◌^◌, ◌≤◌, ◌<◌}
use native.Mathlib.Nat.{lt_of_lt_of_le}
use native.Mathlib.Omega.{arith}
use lib.Pow.{pow_mono, shr_lt}
use borrow.Author.Tests.{eq-eqb, ne_eqb}
use Rattle.std.specs.Prelude.{Ok, Err}
use Rattle.rounding.specs.Machine.{sign_bit}
use Rattle.rounding.proofs.Increment.{one_shl, one_shl-pos}
use Rattle.rounding.proofs.Pattern.{sign_le}
use Rattle.constant.specs.Machine.{whole_bits}
use Rattle.constant.proofs.whole_bits.Goals as goal

-- what is left of a word has at most 53 digits

few : (w s : ℕ) → w < 2 ^ 64 → 11 ≤ s → w / 2 ^ s < 2 ^ 53
few w s h l = shr_lt 53 s (lt_of_lt_of_le h (pow_mono {i = 64} {j = 53 + s} (omega arith)))

whole : (neg : Bool) (w k s sign : ℕ) → s ≤ 63 → w % (1 * 2 ^ s % 2 ^ 64) ≡ 0 → sign ≡ sign_bit neg → Ok (sign + (k * 0x10000000000000 + w / 2 ^ s)) ≡ whole_bits neg w k s
whole neg w k s sign h e b = ap (λ (x : ℕ). Ok (x + (k * 0x10000000000000 + w / 2 ^ s))) b ∙ rw (eq-eqb (w % 2 ^ s) 0 (ap (λ (x : ℕ). w % x) (sym (one_shl s h)) ∙ e)) refl

other : (neg : Bool) (w k s : ℕ) → s ≤ 63 → (w % (1 * 2 ^ s % 2 ^ 64) ≡ 0 → ⊥) → Err 10 ≡ whole_bits neg w k s
other neg w k s h n = rw (ne_eqb (w % 2 ^ s) 0 (λ e. n (ap (λ (x : ℕ). w % x) (one_shl s h) ∙ e))) refl

pub nonzero_rem-w : goal.nonzero_rem-w
nonzero_rem-w c = one_shl-pos c.args.s (omega arith)

pub overflow_add-result : goal.overflow_add-result
overflow_add-result c = let a = c.args in omega (arith, few a.w a.s (omega arith) (omega arith))

pub overflow_add-result-then-w-s-eq0 : goal.overflow_add-result-then-w-s-eq0
overflow_add-result-then-w-s-eq0 c = let a = c.args in omega (arith, few a.w a.s (omega arith) (omega arith), sign_le a.negative c.sign_bit.ensures)

pub returns-then-w-s-eq0 : goal.returns-then-w-s-eq0
returns-then-w-s-eq0 c = let a = c.args in whole a.negative a.w a.k a.s _ (omega arith) c.if-w-s-eq0.true c.sign_bit.ensures

pub returns-else-w-s-eq0 : goal.returns-else-w-s-eq0
returns-else-w-s-eq0 c = let a = c.args in other a.negative a.w a.k a.s (omega arith) c.if-w-s-eq0.false
