-- `partial_frame::are_zero` meets its contract: the greatest byte is 0 exactly where all are. Assumes nothing.
use Rattle.std.proofs.Common.{max, rules, tests}
use Rattle.std.proofs.lemmas.Iterator.{YieldsList-from_slice}
use Rattle.std.proofs.lemmas.Iterator.Consumers.{fold_from_yields_List}
use Rattle.partial_frame.proofs.Loops.{zero_greatest}
use Rattle.partial_frame.proofs.are_zero.Goals as goal

pub returns : goal.returns
returns c =
    rw (fold_from_yields_List _ max 0 c.fold.result c.fold.ensures.ran (YieldsList-from_slice c.args.bytes.now cc) (λ a x b q k. search (rules, tests))) (zero_greatest c.args.bytes.now)
