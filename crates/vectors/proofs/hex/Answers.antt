-- `vectors::hex` meets its contract. The invariant: the digits read so far, as n, and then the rest of the text stand for the number of the whole text.
-- Assumes nothing.
use Rattle.std.proofs.Common.{sym, ◌∙◌, arith}
use Rattle.std.proofs.lemmas.Bool.Decides.{nat_tests}
use Rattle.std.proofs.lemmas.List.{at_drop_all}
use Rattle.vectors.specs.Hexadecimal.{number_of, read_from}
use Rattle.vectors.proofs.Reading.{read_digit, read_other, digit_below, next_below, next_fits}
use Rattle.vectors.proofs.hex.Goals as goal

pub returns-then-is_empty : goal.returns-then-is_empty
unfolding number_of
returns-then-is_empty c = grind (arith, nat_tests)

pub loop-b-init : goal.loop-b-init
unfolding number_of
loop-b-init c = (omega arith, grind (arith, nat_tests))

pub overflow_mul-n : goal.overflow_mul-n
overflow_mul-n c = let l = c.loop-b in omega (arith, next_fits l.n l.b-index 0 l.invariant.0 (omega arith) (omega arith))

pub returns-in_err-n : goal.returns-in_err-n
returns-in_err-n c = let l = c.loop-b in
    c.from_residual.ensures ∙ sym (l.invariant.1 ∙ read_other l.n l.b-index _ c.loop-b-test.true c.in_err-n.ensures)

pub overflow_add-n : goal.overflow_add-n
overflow_add-n c = let l = c.loop-b in
    omega (arith, next_fits l.n l.b-index _ l.invariant.0 (omega arith) (digit_below _ _ c.in_ok-n.ensures))

pub loop-b-preserved : goal.loop-b-preserved
loop-b-preserved c = let l = c.loop-b in
    (next_below l.n l.b-index _ l.invariant.0 (digit_below _ _ c.in_ok-n.ensures), l.invariant.1 ∙ read_digit l.n l.b-index _ _ c.loop-b-test.true c.in_ok-n.ensures)

pub returns : goal.returns
unfolding read_from
returns c = let l = c.loop-b in sym (l.invariant.1 ∙ at_drop_all (read_from l.n) _ l.b-index c.loop-b-test.false)
