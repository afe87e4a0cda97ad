-- `counts::write_report` meets its contract: three numbers, one behind the other. Assumes nothing.
use mathlib.Core.Path.{◌∙◌}
use mathlib.Core.List.{◌++◌}
use native.Mathlib.Omega.{arith}
use lib.ListN.{length-append}
use Rattle.words.specs.Bytes.{word_bytes}
use Rattle.words.proofs.Numbers.{length_word}
use Rattle.words.proofs.Parts.{put_behind}
use Rattle.counts.specs.Counts.{report_of}
use Rattle.counts.proofs.write_report.Goals as goal

pub returns : goal.returns
unfolding report_of
returns c =
    let n = c.args.counts in
    let out = c.args.out.now in
    let a = c.write_u64.new.out in
    let b = put_behind 8 8 a out (word_bytes n.accepted) (word_bytes n.refused) _ (length_word n.accepted) c.write_u64.ensures c.write_u64-2.ensures in
    put_behind 16 8 _ out (word_bytes n.accepted ++ word_bytes n.refused) (word_bytes n.total) _
    (length-append (word_bytes n.accepted) (word_bytes n.refused) ∙ omega (arith, length_word n.accepted, length_word n.refused))
    b
    c.write_u64-3.ensures
