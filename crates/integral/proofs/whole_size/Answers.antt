-- `integral::whole_size` meets its contract. Assumes nothing.
use mathlib.Core.Path.{◌∙◌}
use Rattle.integral.proofs.WholeNumbers.{whole_tiny, whole_shift}
use Rattle.integral.proofs.whole_size.Goals as goal
use Rattle.integral.proofs.whole_size.Goals.{Start}

pub returns-then-x-lt-TINY : goal.returns-then-x-lt-TINY
returns-then-x-lt-TINY c =
    λ q k e b o.
    let s = (goal.at.returns-then-x-lt-TINY c).Start in
    let a = s.args in
    c.round_shift.ensures ∙ whole_tiny a.r.dir a.r.neg a.x q k s.requires.0 c.if-x-lt-TINY.true e b o

pub returns-else-x-lt-TINY : goal.returns-else-x-lt-TINY
returns-else-x-lt-TINY c =
    λ q k e b o.
    let s = (goal.at.returns-else-x-lt-TINY c).Start in
    let a = s.args in
    c.round_shift-else-x-lt-TINY.ensures ∙ whole_shift a.r.dir a.r.neg a.x q k c.if-x-lt-TINY.false s.requires.1 e b o
