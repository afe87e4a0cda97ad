-- `constant::exact_bits` meets its contract. Assumes nothing.
use mathlib.Core.Path.{◌≡◌, refl, ap, ◌∙◌}
use mathlib.Core.Logic.{inl, inr}
use mathlib.Core.Bool.{Bool}
use Prim.Native.Nat.{ℕ, ◌+◌, ◌-◌, ◌*◌, ◌%◌, ◌^◌, ◌≤◌, ◌<◌}
use native.Mathlib.Nat.{mod-eq_of_lt}
use native.Mathlib.Omega.{arith}
use lib.Count.{count_leading_zeros}
use Rattle.std.specs.Prelude.{Result, Err}
use Rattle.rounding.proofs.Leading.{Leads, leads}
use Rattle.constant.specs.Machine.{whole_bits, RepliesBits}
use Rattle.constant.proofs.Word.{word_bits, word_large, word_small}
use Rattle.constant.proofs.exact_bits.Goals as goal
use Rattle.constant.proofs.exact_bits.Goals.{Start}

word : (s : Start) → Leads s.args.m (count_leading_zeros 64 s.args.m)
word s = leads s.args.m s.requires.0 s.well_formed.1.0.1

normal : (s : Bool) (m e z : ℕ) {r : Result ℕ ℕ} → Leads m z → z + 51 ≤ e → e - z - 51 ≤ 2045 → r ≡ whole_bits s (m * 2 ^ z % 2 ^ 64) (e - z - 51) 11 → RepliesBits s m e r
normal s m e z l h k f num den D is = f ∙ ap (λ (w : ℕ). whole_bits s w (e - z - 51) 11) (mod-eq_of_lt l.high) ∙ word_bits num den m e z D is l.low l.high s (e - z - 51) 11 (omega arith) (omega arith) k (inr refl)

subnormal : (s : Bool) (m e z : ℕ) {r : Result ℕ ℕ} → Leads m z → e < z + 51 → r ≡ whole_bits s (m * 2 ^ z % 2 ^ 64) 0 (z + 62 - e) → RepliesBits s m e r
subnormal s m e z l h f num den D is = f ∙ ap (λ (w : ℕ). whole_bits s w 0 (z + 62 - e)) (mod-eq_of_lt l.high) ∙ word_bits num den m e z D is l.low l.high s 0 (z + 62 - e) (omega arith) (omega arith) (omega arith) (inl refl)

large : (s : Bool) (m e z : ℕ) → Leads m z → 2045 < e - z - 51 → RepliesBits s m e (Err 10)
large s m e z l h num den D is = word_large num den m e z D is l.low l.high s (omega arith)

small : (s : Bool) (m e z : ℕ) → Leads m z → e < z + 51 → 63 < z + 62 - e → RepliesBits s m e (Err 10)
small s m e z l h k num den D is = word_small num den m e z D is l.low l.high s (omega arith)

pub overflow_cast-z : goal.overflow_cast-z
overflow_cast-z c = omega (arith, word c)

pub overflow_shl-w : goal.overflow_shl-w
overflow_shl-w c = omega (arith, word c)

pub overflow_add-z : goal.overflow_add-z
overflow_add-z c = omega (arith, word c)

pub returns-then-k-gt2045 : goal.returns-then-k-gt2045
returns-then-k-gt2045 c = let s = (goal.at.returns-then-k-gt2045 c).Start in let a = s.args in large a.negative a.m a.e (count_leading_zeros 64 a.m) (word s) c.if-k-gt2045.true

pub returns-then-z-e : goal.returns-then-z-e
returns-then-z-e c = let s = (goal.at.returns-then-z-e c).Start in let a = s.args in normal a.negative a.m a.e (count_leading_zeros 64 a.m) (word s) c.if-z-e.true c.if-k-gt2045.false c.whole_bits.ensures

pub overflow_add-s : goal.overflow_add-s
overflow_add-s c = omega (arith, word (goal.at.overflow_add-s c).Start)

pub returns-then-s-gt63 : goal.returns-then-s-gt63
returns-then-s-gt63 c = let s = (goal.at.returns-then-s-gt63 c).Start in let a = s.args in small a.negative a.m a.e (count_leading_zeros 64 a.m) (word s) c.if-z-e.false c.if-s-gt63.true

pub returns : goal.returns
returns c = let s = (goal.at.returns c).Start in let a = s.args in subnormal a.negative a.m a.e (count_leading_zeros 64 a.m) (word s) c.if-z-e.false c.whole_bits-2.ensures
