-- `words::read_u16` meets its contract. Assumes nothing.
use Rattle.std.proofs.Common.{◌∙◌}
use Rattle.words.proofs.Numbers.{pair}
use Rattle.words.proofs.read_u16.Goals as goal

pub returns : goal.returns
returns c = c.from_be_bytes.ensures ∙ pair c.args.bytes.now c.args.at c.requires
