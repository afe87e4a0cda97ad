-- `exceptions::lookup_exception` meets its contract: each look at the middle entry hands the scan on to one half (Middle). Assumes nothing.
use Rattle.exceptions.proofs.Halving.{empty}
use Rattle.exceptions.proofs.Middle.{hit_at, left_at, right_at}
use Rattle.exceptions.proofs.+lookup_exception.Goals as goal

-- no entries
pub returns-then-first-past : goal.returns-then-first-past
returns-then-first-past t c = empty _ _ _ _ c.if-first-past.true

-- the middle entry is x
pub returns-then-x-input : goal.returns-then-x-input
returns-then-x-input t c = hit_at _ c.requires.0 _ _ _ c.requires.1 c.if-first-past.false c.if-x-input.true

-- x lies below it
pub returns-then-x-input-2 : goal.returns-then-x-input-2
returns-then-x-input-2 t c = left_at _ c.requires.0 _ _ _ c.requires.1 c.if-first-past.false c.if-x-input-2.true c.lookup_exception.ensures

-- x lies above it
pub returns : goal.returns
returns t c = right_at _ c.requires.0 _ _ _ c.requires.1 c.if-first-past.false c.if-x-input.false c.if-x-input-2.false c.lookup_exception-2.ensures
