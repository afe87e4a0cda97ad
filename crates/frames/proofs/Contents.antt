-- What stands in a payload. Assumes nothing.
use Prim.Native.Nat.{ℕ, min}
use mathlib.Core.Path.{◌≡◌, refl, sym, ◌∙◌}
use mathlib.Core.List.{List}
use mathlib.Core.Bool.{Bool, true, false}
use native.Mathlib.Nat.{min-eq_left, min-eq_right}
use native.Mathlib.Omega.{arith}
use lib.ListN.{length, drop, drop_of_length-le}
use lib.Dec.{leb}
use lib.Seq.{drop-length}
use borrow.Author.Tests.{leb-true, leb-false}
use denote.Ref.{Bor}
use Rattle.frames.specs.Part.{Part, payload_from}

-- the bytes of a payload: those of the body behind the first two
pub payload_contents : (r s : Bor (List ℕ)) → Part r s (payload_from s.now) → r.now ≡ drop 2 s.now
payload_contents r s p = p.contents ∙ go (leb 2 (length s.now)) refl
  where
    go : (t : Bool) → leb 2 (length s.now) ≡ t → drop (min 2 (length s.now)) s.now ≡ drop 2 s.now
    go true e = rw (min-eq_left {n = 2} {m = length s.now} (leb-true _ _ e)) refl
    go false e =
        let h = leb-false 2 (length s.now) e in
        rw (min-eq_right {n = length s.now} {m = 2} (omega arith)) (drop-length s.now ∙ sym (drop_of_length-le s.now {i = 2} (omega arith)))
