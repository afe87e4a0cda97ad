-- Where a frame is whole. Assumes nothing.
use Prim.Native.Nat.{ℕ, suc, ◌+◌, ◌*◌}
use mathlib.Core.Path.{◌≡◌, refl}
use mathlib.Core.List.{List, [], ◌∷◌, ◌++◌}
use mathlib.Core.Bool.{true, false}
use native.Mathlib.Omega.{arith}
use lib.ListN.{length, length-append}
use borrow.Author.Tests.{lt-leb, le-leb}
use Rattle.frames.specs.Frame.{body_length, whole}

-- what comes before the end of a frame is no whole frame
pub prefix_short : (x y : List ℕ) (b : ℕ) → length (x ++ (b ∷ y)) ≡ 2 + body_length (x ++ (b ∷ y)) → whole x ≡ false
unfolding whole
prefix_short [] y b e = refl
prefix_short (a ∷ []) y b e = lt-leb (2 + (a * 256 + 0)) 1 (omega arith)
prefix_short (a ∷ c ∷ x) y b e = lt-leb (2 + (a * 256 + c)) (suc (suc (length x))) (omega (arith, length-append x (b ∷ y)))

pub exact-is_whole : (f : List ℕ) → length f ≡ 2 + body_length f → whole f ≡ true
unfolding whole
exact-is_whole f e = le-leb (2 + body_length f) (length f) (omega arith)
