-- `words::write_u64` meets its contract. Assumes nothing.
use Rattle.std.proofs.Common.{◌∙◌, ap, ℕ, List, ◌++◌, drop}
use Rattle.words.proofs.Numbers.{eight_written}
use Rattle.words.proofs.write_u64.Goals as goal

pub returns : goal.returns
returns c = ap (λ (l : List ℕ). l ++ drop 8 c.args.out.now) (c.copy_from_slice.ensures.after ∙ c.to_be_bytes.ensures ∙ eight_written c.args.x)
