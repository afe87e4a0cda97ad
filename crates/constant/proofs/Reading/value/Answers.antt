-- `constant::Reading::value` meets its contract. Assumes nothing.
use native.Mathlib.Omega.{arith}
use Rattle.constant.proofs.Value.{zero_value, lost_value, large_value, above_value, small_value, below_value}
use Rattle.constant.proofs.Reading.value.Goals as goal

pub returns-then-value-eq0 : goal.returns-then-value-eq0
returns-then-value-eq0 c = let a = c.args.self in zero_value a.significand a.power a.inverse a.negative _ c.if-value-eq0.true c.sign_bit.ensures

pub returns-then-lost-ne0 : goal.returns-then-lost-ne0
returns-then-lost-ne0 c = let a = c.args.self in lost_value a.significand a.power a.inverse a.negative c.if-lost-ne0.true

pub returns-then-raised-quotient : goal.returns-then-raised-quotient
returns-then-raised-quotient c num den h =
    let a = c.args.self in
    small_value a.significand a.power a.inverse a.negative c.if-lost-ne0.false num den h c.if-self.true (omega arith) (omega arith) c.if-raised-quotient.true

pub returns-then-self : goal.returns-then-self
returns-then-self c num den h =
    let a = c.args.self in
    below_value a.significand a.power a.inverse a.negative c.if-lost-ne0.false num den h c.if-self.true (omega arith) (omega arith) _ c.placed.ensures

pub returns-then-lowered-quotient : goal.returns-then-lowered-quotient
returns-then-lowered-quotient c num den h =
    let a = c.args.self in
    large_value a.significand a.power a.inverse a.negative c.if-lost-ne0.false num den h c.if-self.false (omega arith) c.if-lowered-quotient.true

pub returns : goal.returns
returns c num den h =
    let a = c.args.self in
    above_value a.significand a.power a.inverse a.negative c.if-lost-ne0.false num den h c.if-self.false (omega arith) (omega arith) _ c.placed-2.ensures
