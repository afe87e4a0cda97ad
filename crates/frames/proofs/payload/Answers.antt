-- `frames::payload` meets its contract: the part begins at 2, or at the end of a shorter body. Assumes nothing.
use mathlib.Core.Path.{◌≡◌, refl}
use Prim.Native.Nat.{ℕ, ◌+◌}
use native.Mathlib.Nat.{min-eq_left, min-eq_right}
use native.Mathlib.Omega.{arith}
use lib.ListN.{length}
use borrow.Rule.Slice.Shared.{by_byte}
use Rattle.words.proofs.Parts.{to_end}
use Rattle.frames.proofs.payload.Goals as goal

-- k bytes behind the place o

placed : (k o : ℕ) → by_byte k o ≡ o + k
placed k o = omega arith

pub returns-then-body-lt2 : goal.returns-then-body-lt2
returns-then-body-lt2 c =
    let b = c.args.body.now in
    let e = min-eq_right {n = length b} {m = 2} (omega arith) in
    record { block = refl; offset = rw e (placed _ _); contents = rw e (to_end (length b) b) }

pub returns : goal.returns
returns c =
    let b = c.args.body.now in
    let e = min-eq_left {n = 2} {m = length b} (omega arith) in
    record { block = refl; offset = rw e (placed _ _); contents = rw e (to_end 2 b) }
