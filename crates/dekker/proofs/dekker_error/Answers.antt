-- `dekker::dekker_error` meets its contract: Split has the theorem. Assumes nothing.
use Rattle.dekker.proofs.Split.{error_is}
use Rattle.dekker.proofs.dekker_error.Goals as goal

pub returns : goal.returns
returns c =
    let p = c.requires in
    error_is c.args.x c.args.y p.0 p.1 p.2 p.3 p.4 c.high_half-ah.ensures c.high_half-bh.ensures
