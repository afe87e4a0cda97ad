-- The three numbers of a report, as bytes. Assumes nothing.
use mathlib.Core.Path.{◌≡◌}
use native.Mathlib.Omega.{arith}
use lib.ListN.{length, length-append}
use Rattle.words.proofs.Numbers.{length_word}
use Rattle.counts.specs.Counts.{report_of}
use Rattle.counts.specs.declared.Counts.{Counts}

pub length_report : (c : Counts) → length (report_of c) ≡ 24
unfolding report_of
length_report c = simp (length-append, length_word) (omega arith)
