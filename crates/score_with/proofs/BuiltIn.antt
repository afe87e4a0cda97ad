-- The built-in table is a good list, so that it gives the built-in scores when it is lent. Assumes nothing.
use mathlib.Core.Path.{◌≡◌, refl, ap}
use mathlib.Core.Bool.{cond}
use Prim.Native.Nat.{ℕ}
use lib.Dec.{eqb}
use lib.Ieee.{of_bits, eq, lt}
use Rattle.std.specs.Prelude.{Ok, Err}
use Rattle.exceptions.specs.declared.Stretch.TheVariants.{First}
use Rattle.exceptions.specs.Table.{exceptions}
use Rattle.exceptions.specs.Lookup.{entry_at, entries_from, entries}
use Rattle.exception_list.specs.List.{is_good, all_good, ascending, refusal_of}
use Rattle.exp2m1.specs.Score.{score_with, score_bits}
use Rattle.score_with.specs.Score.{scored_with, BuiltIn}

good : refusal_of (entries First) ≡ 0
unfolding refusal_of all_good ascending is_good entries entries_from entry_at exceptions of_bits eq lt
good = refl

pub built_in : BuiltIn
unfolding scored_with score_bits
built_in x = ap (λ (n : ℕ). cond (eqb n 0) (Ok (score_with (entries First) x)) (Err n)) good
