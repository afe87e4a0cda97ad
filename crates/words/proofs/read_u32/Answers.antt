-- `words::read_u32` meets its contract. Assumes nothing.
use Rattle.std.proofs.Common.{◌∙◌}
use Rattle.words.proofs.Numbers.{four}
use Rattle.words.proofs.read_u32.Goals as goal

pub returns : goal.returns
returns c = c.from_be_bytes.ensures ∙ four c.args.bytes.now c.args.at c.requires
