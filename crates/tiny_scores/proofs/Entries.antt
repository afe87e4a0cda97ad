-- The entries of step 5 meet the bound: one test over all of them, computed. Assumes nothing.
use mathlib.Core.Bool.{Bool, ◌&&◌}
use mathlib.Core.Path.{◌≡◌, refl, subst}
use Prim.Native.Nat.{ℕ, ◌*◌, ◌^◌, ◌<◌}
use lib.Dec.{T, leb, leb→le}
use lib.ListN.{length}
use lib.Ieee.{binary64, add, of_bits, to_bits}
use lib.Ieee.Fits.{and_l, and_r}
use lib.Ieee.Scale.{finite}
use Rattle.exactness.specs.Values.{value}
use Rattle.exceptions.specs.declared.Entry.{Entry}
use Rattle.exceptions.specs.declared.Stretch.TheVariants.{First}
use Rattle.exceptions.specs.Table.{exceptions}
use Rattle.exceptions.specs.Lookup.{reply_of, nth, entry_at, entries_from, entries}
use Rattle.exp2m1_whole.specs.Table.{every}
use Rattle.exp2m1_whole.proofs.Exact.{at_each}
use Rattle.rounding_errors.specs.Spacing.{spacing}
use Rattle.tiny_scores.specs.TinyScores.{N, away, share, Close}

-- the bits of an entry's reply
abbrev reply_bits : Entry → ℕ
reply_bits e = to_bits binary64 (reply_of e)

-- an entry's x is a number, and its reply is close
unfoldable meets : Entry → Bool
meets e = finite e.x && leb (2 ^ 40 * away (value binary64 e.x) (reply_bits e)) (share * (spacing (reply_bits e) * (N * N)))

abbrev entry : ℕ → Entry
entry i = nth (entries First) i

all_meet : T (every (λ (i : ℕ). meets (entry i)) 56)
unfolding every meets entries entries_from entry_at exceptions add of_bits to_bits
all_meet = tt

entry_count : length (entries First) ≡ 56
unfolding entries entries_from
entry_count = refl

pub record Meets (e : Entry) : Type 0 where
  pub number : T (finite e.x)
  pub close : Close (value binary64 e.x) (to_bits binary64 (reply_of e))

pub entry_meets : (i : ℕ) → i < length (entries First) → Meets (nth (entries First) i)
unfolding meets
entry_meets i h =
    let e = entry i in
    let d : Bool = leb (2 ^ 40 * away (value binary64 e.x) (reply_bits e)) (share * (spacing (reply_bits e) * (N * N))) in
    let t = at_each (λ (j : ℕ). meets (entry j)) 56 all_meet i (subst (λ (n : ℕ). i < n) entry_count h) in
    record { number = and_l (finite e.x) d t; close = leb→le _ _ (and_r (finite e.x) d t) }
