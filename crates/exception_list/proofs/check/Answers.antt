-- `exception_list::check` meets its contract: an entry more, one that may not follow, and the end of the list (Checked). Assumes nothing.
use mathlib.Core.Path.{refl, sym, ◌∙◌}
use mathlib.Core.Bool.{true, false}
use lib.Ieee.{of_bits}
use Rattle.exception_list.proofs.Checked.{goes_on, stops, end, too_many, decided}
use Rattle.exception_list.proofs.check.Goals as goal

pub returns-then-list-gt-LONGEST : goal.returns-then-list-gt-LONGEST
returns-then-list-gt-LONGEST c = too_many _ c.if-list-gt-LONGEST.true

pub loop-e-init : goal.loop-e-init
unfolding of_bits
loop-e-init c = refl

pub returns-then-not-may_follow : goal.returns-then-not-may_follow
returns-then-not-may_follow c =
    decided _ false c.if-list-gt-LONGEST.false (sym c.loop-e.invariant ∙ stops _ _ _ c.loop-e-test.true (sym c.may_follow.ensures ∙ c.if-not-may_follow.true))

pub loop-e-preserved : goal.loop-e-preserved
loop-e-preserved c = goes_on _ _ c.loop-e.last c.loop-e-test.true (sym c.may_follow.ensures ∙ c.if-not-may_follow.false) ∙ c.loop-e.invariant

pub returns : goal.returns
returns c = decided _ true c.if-list-gt-LONGEST.false (sym c.loop-e.invariant ∙ end _ _ _ c.loop-e-test.false)
