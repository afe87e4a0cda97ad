-- `exception_list::lookup_entry` meets its contract: each look at the middle entry hands the search on to one half, in a good list (Searched) and
-- in any (Halves). Assumes nothing.
use Rattle.exceptions.proofs.Halving.{empty}
use Rattle.exception_list.proofs.Searched.{hit_at, left_at, right_at}
use Rattle.exception_list.proofs.Halves.{none, hit, left, right}
use Rattle.exception_list.proofs.+lookup_entry.Goals as goal

-- no entries
pub returns-then-first-past-clause-good : goal.returns-then-first-past-clause-good
returns-then-first-past-clause-good t c good = empty _ _ _ _ c.if-first-past.true

pub returns-then-first-past-clause-any : goal.returns-then-first-past-clause-any
returns-then-first-past-clause-any t c k n = none _ _ _ _ k c.if-first-past.true

-- the middle entry is x
pub returns-then-x-e-clause-good : goal.returns-then-x-e-clause-good
returns-then-x-e-clause-good t c = hit_at _ _ _ _ c.requires c.if-first-past.false c.if-x-e.true

pub returns-then-x-e-clause-any : goal.returns-then-x-e-clause-any
returns-then-x-e-clause-any t c k n = hit _ _ _ _ k n c.if-first-past.false c.if-x-e.true

-- x lies below it
pub returns-then-x-e-2-clause-good : goal.returns-then-x-e-2-clause-good
returns-then-x-e-2-clause-good t c = left_at _ _ _ _ c.requires c.if-first-past.false c.if-x-e-2.true c.lookup_entry.ensures.good

pub returns-then-x-e-2-clause-any : goal.returns-then-x-e-2-clause-any
returns-then-x-e-2-clause-any t c k n = left _ _ _ _ k n c.if-first-past.false c.if-x-e.false c.if-x-e-2.true c.lookup_entry.ensures.any

-- x lies above it
pub returns-clause-good : goal.returns-clause-good
returns-clause-good t c = right_at _ _ _ _ c.requires c.if-first-past.false c.if-x-e.false c.if-x-e-2.false c.lookup_entry-2.ensures.good

pub returns-clause-any : goal.returns-clause-any
returns-clause-any t c k n = right _ _ _ _ k n c.if-first-past.false c.if-x-e.false c.if-x-e-2.false c.lookup_entry-2.ensures.any
