-- The test of a table of the 107 scores, computed over the whole of it. Definitions only.
use Rattle.std.specs.Prelude.{Bool, true, false, ◌&&◌, List, ℕ, zero, suc, eqb, ltb, ℤ, pos, negsuc, get_or, Float}
use Rattle.std.specs.Bool.{beq}
use Rattle.std.specs.Float.{nan, binary64}
use Rattle.std.specs.Float.Ieee.{fits}
use Rattle.std.specs.Float.Ieee.Scale.{finite}
use Rattle.exactness.specs.Values.{sign}
use Rattle.exp2m1_whole.specs.Whole.{scaled_score, scaled_exact}

-- each number below n passes a test
unfoldable pub every : (ℕ → Bool) → ℕ → Bool
every t zero = true
every t (suc n) = t n && every t n

-- equal numbers
unfoldable pub same : ℤ → ℤ → Bool
same (pos a) (pos b) = eqb a b
same (pos a) (negsuc b) = false
same (negsuc a) (pos b) = false
same (negsuc a) (negsuc b) = eqb a b

-- what Exactly asks
unfoldable pub exact : ℕ → Float → Bool
exact p r = fits binary64 r && (finite r && (beq (sign r) (ltb p 53) && same (scaled_score r) (scaled_exact p)))

unfoldable pub all_exact : List Float → Bool
all_exact scores = every (λ (p : ℕ). exact p (get_or scores p nan)) 107
