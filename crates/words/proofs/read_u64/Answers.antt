-- `words::read_u64` meets its contract. Assumes nothing.
use Rattle.std.proofs.Common.{◌∙◌}
use Rattle.words.proofs.Numbers.{eight}
use Rattle.words.proofs.read_u64.Goals as goal

pub returns : goal.returns
returns c = c.from_be_bytes.ensures ∙ eight c.args.bytes.now c.args.at c.requires
