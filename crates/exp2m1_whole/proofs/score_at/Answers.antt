-- `exp2m1_whole::score_at` meets its contract. Assumes nothing.
use native.Mathlib.Omega.{arith}
use Rattle.exp2m1_whole.proofs.Places.{natural, inside, entry}
use Rattle.exp2m1_whole.proofs.score_at.Goals as goal

pub float_to_int-result : goal.float_to_int-result
float_to_int-result c = natural _ c.requires.0

pub offset_bounds-scores-x : goal.offset_bounds-scores-x
offset_bounds-scores-x c = let h = inside _ c.requires.0 in omega arith

pub bounds-scores-x : goal.bounds-scores-x
bounds-scores-x c = inside _ c.requires.0

pub returns : goal.returns
returns c = entry _ c.requires.0 _ c.requires.1
