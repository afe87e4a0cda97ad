-- `exp2m1_whole::exp2m1_whole` meets its contract: its table passes the test. Assumes nothing.
use lib.Ieee.{fits, of_bits}
use Rattle.exp2m1_whole.specs.Table.{every, same, exact, all_exact}
use Rattle.exp2m1_whole.proofs.exp2m1_whole.Goals as goal

pub score_at-requires : goal.score_at-requires
unfolding every same exact all_exact fits of_bits
score_at-requires c = (c.requires, tt)
