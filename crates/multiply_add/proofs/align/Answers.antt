-- `multiply_add::align` meets its contract. The two are brought to the larger exponent; the order of a sum does not matter. Assumes nothing.
use mathlib.Core.Path.{◌≡◌, refl, sym, ap₂, ◌∙◌, subst}
use mathlib.Core.Bool.{Bool, true, false, cond}
use Prim.Native.Nat.{ℕ, ◌-◌, ◌^◌, ◌≤◌}
use lib.Dec.{ltb}
use lib.Ieee.{binary64, to_bits}
use Rattle.operands.specs.declared.Signed.{Signed}
use Rattle.wide.specs.Words.{value, jammed}
use Rattle.operands.specs.Machine.{Ready, Addends}
use Rattle.ieee754.specs.Operations.{sum_to}
use Rattle.multiply_add.proofs.Sums.{sum_answer, ready_pos, ready_shifted, ready_pick, exponent_pick, align_answer}
use Rattle.multiply_add.proofs.align.Goals as goal
use Rattle.multiply_add.proofs.align.Goals.{After-shift_right_jam}
use native.Mathlib.Nat.{lt_of_lt_of_le, le-add_right}

most : (b : Bool) (x y : ℕ) → x ≤ 4194 → y ≤ 4194 → cond b y x ≤ 4194
most true x y h k = k
most false x y h k = h

-- what was shifted, and by how much

picked : {v w : Signed} {m n m' n' : ℕ} → v ≡ w → m ≡ m' → n ≡ n' → jammed (value v.size) (2 ^ (m - n)) ≡ jammed (value w.size) (2 ^ (m' - n'))
picked e f g = ap₂ (λ (x : Signed) (y : ℕ). jammed (value x.size) (2 ^ y)) e (ap₂ (λ (x y : ℕ). x - y) f g)

pub overflow_sub-xe : goal.overflow_sub-xe
overflow_sub-xe c =
    let a = c.args in
    subst (λ (x : ℕ). x ≤ c.pick-xe.result) (sym c.pick-ye.ensures) (subst (λ (x : ℕ). cond (ltb a.pe a.qe) a.pe a.qe ≤ x) (sym c.pick-xe.ensures) (exponent_pick a.p a.q a.pe a.qe (ltb a.pe a.qe) refl))

larger : (c : After-shift_right_jam) → Ready (value c.pick-x.result.size)
larger c = let a = c.args in subst (λ (w : Signed). Ready (value w.size)) (sym c.pick-x.ensures) (ready_pick a.p a.q a.pe a.qe (ltb a.pe a.qe) c.requires.0 c.requires.1)

smaller : (c : After-shift_right_jam) → Ready (value c.pick-y.result.size)
smaller c = let a = c.args in subst (λ (w : Signed). Ready (value w.size)) (sym c.pick-y.ensures) (ready_pick a.q a.p a.qe a.pe (ltb a.pe a.qe) c.requires.1 c.requires.0)

pub add_signed-sum-requires : goal.add_signed-sum-requires
add_signed-sum-requires c = ((larger c).high, ready_shifted (c.pick-xe.result - c.pick-ye.result) (smaller c) c.shift_right_jam.ensures)

pub round_usual-requires : goal.round_usual-requires
round_usual-requires c =
    let a = c.args in
    subst (λ (n : ℕ). n ≤ 4194) (sym c.pick-xe.ensures) (most (ltb a.pe a.qe) a.pe a.qe c.requires.2 c.requires.3)

pub returns : goal.returns
returns c =
    λ A B d D p q.
    let a = c.args in
    let b = ltb a.pe a.qe in
    let g = (goal.at.returns c).After-shift_right_jam in
    let z = value g.shift_right_jam.result in
    align_answer a.p a.q a.pe a.qe a.dir b z c.round_usual.result A B d refl c.requires.0 c.requires.1
    (g.shift_right_jam.ensures ∙ picked c.pick-y.ensures c.pick-xe.ensures c.pick-ye.ensures) D p q
    (λ X Y k h.
    sum_answer (subst (λ (w : Signed). Addends X Y k (value w.size) z c.pick-xe.result) (sym c.pick-x.ensures) (subst (λ (n : ℕ). Addends X Y k (value (cond b a.q a.p).size) z n) (sym c.pick-xe.ensures) h))
    a.dir c.pick-x.result.neg c.pick-y.result.neg c.round_usual.result c.add_signed-sum.result.neg (value c.add_signed-sum.result.size)
    (lt_of_lt_of_le (ready_pos (larger g)) (le-add_right (value c.pick-x.result.size) z)) c.add_signed-sum.ensures c.round_usual.ensures
    ∙ ap₂ (λ (v w : Signed). to_bits binary64 (sum_to a.dir v.neg X w.neg Y k)) c.pick-x.ensures c.pick-y.ensures)
