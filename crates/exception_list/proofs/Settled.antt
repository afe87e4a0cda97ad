-- In a good list `Finds` holds of what is found alone, since its x rise; and that at a list of one entry. Assumes nothing.
use mathlib.Core.Path.{◌≡◌, refl, sym, ◌∙◌}
use mathlib.Core.List.{[], ◌∷◌}
use Prim.Native.Nat.{◌-◌}
use native.Mathlib.Omega.{arith}
use lib.ListN.{length}
use lib.Ieee.{add, of_bits, eq, lt}
use lib.Ieee.Bits.{is_true}
use Rattle.pair.specs.Pair.{bits}
use Rattle.std.specs.Prelude.{Option, Some, Float}
use Rattle.exceptions.specs.Lookup.{find, nth, Finds, present, absent}
use Rattle.exceptions.proofs.Scan.{none}
use Rattle.exceptions.proofs.Halving.{hit_at}
use Rattle.exception_list.specs.List.{is_good, all_good, ascending, refusal_of, Settles}
use Rattle.exception_list.proofs.Rises.{rising}
use Rattle.exception_list.proofs.Searched.{from_first}

pub settles : Settles
settles list good x f (present i p h) = hit_at (nth list) 0 (length list) (rising list good) x i (omega arith) p (is_true _ h) ∙ from_first list x
settles list good x f (absent misses) = sym (none (nth list) x (length list - 0) 0 (λ j p q. misses j (omega arith))) ∙ from_first list x

-- 1 to 2 + 1
pub one_entry : (f : Option Float) → Finds (record { x = bits 0x3ff0000000000000; hi = bits 0x4000000000000000; lo = bits 0x3ff0000000000000 } ∷ []) (bits 0x3ff0000000000000) f → f ≡ Some (bits 0x4008000000000000)
unfolding refusal_of all_good ascending is_good find add of_bits eq lt
one_entry f found = settles _ refl _ f found
