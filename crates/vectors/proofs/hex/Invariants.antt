-- `vectors::hex` meets its contract. The invariant: the digits read so far, as n, and then the rest of the text stand for the number of the whole text.
-- Assumes nothing.
use Rattle.std.proofs.Common.{◌≡◌, ◌<◌, ◌^◌, drop}
use Rattle.vectors.specs.Hexadecimal.{number_of, read_from}
use Rattle.vectors.proofs.hex.Given as goal

abbrev pub invariant-loop-b : goal.invariant-loop-b
invariant-loop-b l = (l.n < 16 ^ l.b-index) × (number_of l.text ≡ read_from l.n (drop l.b-index l.text))
