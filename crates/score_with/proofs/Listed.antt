-- Step 5 is the one that looks at the list, and finds in it what there is; and that at a list, in step 5 and outside of it. Assumes nothing.
use mathlib.Core.Path.{◌≡◌, refl}
use mathlib.Core.List.{List, [], ◌∷◌}
use lib.Dec.{lit<}
use Rattle.pair.specs.Pair.{bits}
use Rattle.exceptions.specs.declared.Entry.{Entry}
use Rattle.exceptions.specs.declared.Stretch.TheVariants.{First}
use Rattle.exceptions.specs.Lookup.{find, entries, Finds}
use Rattle.exceptions.proofs.Scan.{finds}
use Rattle.exp2m1.specs.Range.{is_small}
use Rattle.exp2m1.specs.Score.{score_with, score_bits}
use Rattle.exp2m1.proofs.Small.{small, elsewhere}
use Rattle.score_with.specs.Score.{EveryListed}

pub listed : EveryListed
unfolding score_bits
listed list x l = record {
  in_step_5 = λ s. (finds list (bits x), small list x l s);
  elsewhere = λ s. elsewhere list x (entries First) s;
}

-- -2 ^ -84 to 1
abbrev one : List Entry
one = record { x = bits 0xbab0000000000000; hi = bits 0x3ff0000000000000; lo = bits 0 } ∷ []

-- its weight, of step 5, and the largest pattern
pub met : Finds one (bits 0xbab0000000000000) (find one (bits 0xbab0000000000000))
unfolding is_small
met = ((listed one 0xbab0000000000000 (lit< tt)).in_step_5 refl).0

pub unmet : score_with one 0xffffffffffffffff ≡ score_bits 0xffffffffffffffff
unfolding is_small
unmet = (listed one 0xffffffffffffffff (lit< tt)).elsewhere refl
