-- `answers::write_results` meets its contract: the results so far stand at the front, and the rest is as it was. Assumes nothing.
use Prim.Native.Nat.{◌*◌}
use mathlib.Core.Path.{◌≡◌}
use mathlib.Core.List.{◌++◌}
use lib.ListN.{drop}
use Rattle.words.specs.Bytes.{words_of}
use Rattle.frames.specs.Numbers.{kind_number}
use Rattle.answers.proofs.Results.{item_result}
use Rattle.answers.proofs.write_results.Given as goal

abbrev pub invariant-loop-i : goal.invariant-loop-i
invariant-loop-i l = l.out ≡ words_of (item_result (kind_number l.kind) l.payload) l.i ++ drop (8 * l.i) l.initial.out
