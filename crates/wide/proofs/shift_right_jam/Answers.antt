-- `wide::shift_right_jam` meets its contract. Assumes nothing.
use Rattle.std.proofs.Common.{◌%◌, ◌^◌, ap, ◌∙◌}
use lib.Arith.{digits_lt}
use Rattle.wide.specs.declared.Wide.{Wide}
use Rattle.wide.specs.Words.{value, jammed}
use Rattle.wide.proofs.Shifts.{shift_jammed}
use Rattle.wide.proofs.shift_right_jam.Goals as goal

pub returns : goal.returns
returns c =
    let p = c in
    let w = p in
    let l = w in
    let s = l in
    let x = s.args.x in
    let k = l.min-k.result in
    shift_jammed x w.shift_word.result s.args.t k (value c.shift_bits.result) (digits_lt s.well_formed.0.1.1.0.1 s.well_formed.0.1.1.1.0.1) l.min-k.ensures w.shift_word.ensures
    (c.shift_bits.ensures ∙ ap (λ (y : Wide). jammed (value y) (2 ^ (k % 64))) p.pick.ensures)
