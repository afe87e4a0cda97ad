-- `sheet_values::write_values` meets its contract: the values so far stand in the array, and at the front of the buffer. Assumes
-- nothing.
use Prim.Native.Nat.{◌*◌}
use mathlib.Core.Path.{◌≡◌}
use mathlib.Core.List.{◌++◌}
use lib.ListN.{length, take, drop}
use Rattle.words.specs.Bytes.{words_of}
use Rattle.sheet_values.specs.Values.{values_of, value_of}
use Rattle.sheet_values.specs.Lines.{Words}
use Rattle.sheet_values.proofs.write_values.Given as goal

abbrev pub invariant-loop-i : goal.invariant-loop-i
invariant-loop-i l = record {
  size : length l.values ≡ 56;
  kept : take l.i l.values ≡ values_of l.payload l.i;
  written : l.out ≡ words_of (value_of l.payload) l.i ++ drop (8 * l.i) l.initial.out;
  small : Words l.i l.payload;
}
