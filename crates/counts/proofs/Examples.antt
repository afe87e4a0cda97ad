-- Worked examples of specs/Counts.antt, computed: which numbers count, the stop of each number, which totals are sums, and a report's bytes.
-- Assumes nothing.
use Prim.Native.Nat.{ℕ}
use mathlib.Core.Path.{◌≡◌, refl}
use mathlib.Core.List.{List, [], ◌∷◌, map}
use mathlib.Core.Bool.{true, false}
use lib.ListN.{replicate}
use Rattle.words.specs.Bytes.{word_bytes}
use Rattle.counts.specs.Counts.{is_refused, Tally, none_counted, counted, most, stopped, shown, is_sum, report_of, shown_next}
use Rattle.counts.specs.declared.Counts.{Counts}

abbrev counted_all : List ℕ → Tally → Tally
counted_all [] t = t
counted_all (n ∷ ns) t = counted_all ns (counted n t)

-- two accepted, 1 to 5, 11, 14 and 15 once each; 6, 7, 8, 9, 10, 12, 13 and 16 are not counted
pub which :
    counted_all (0 ∷ 1 ∷ 2 ∷ 3 ∷ 4 ∷ 5 ∷ 6 ∷ 7 ∷ 8 ∷ 9 ∷ 10 ∷ 11 ∷ 12 ∷ 13 ∷ 14 ∷ 15 ∷ 16 ∷ 0 ∷ []) none_counted ≡ record { accepted = 2; refused = 8 }
unfolding is_refused
which = refl

pub which_refused : map is_refused (5 ∷ 6 ∷ 10 ∷ 11 ∷ 12 ∷ 13 ∷ 14 ∷ 15 ∷ 16 ∷ []) ≡ true ∷ false ∷ false ∷ true ∷ false ∷ false ∷ true ∷ true ∷ false ∷ []
unfolding is_refused
which_refused = refl

abbrev counts : ℕ → ℕ → ℕ → Counts
counts a r t = record { accepted = a; refused = r; total = t }

abbrev tally : ℕ → ℕ → Tally
tally a r = record { accepted = a; refused = r }

-- the end, one before it, one past it and far past it; a total that stops where neither of the others does
pub stops :
    map shown (tally 0 0 ∷ tally most 0 ∷ tally 18446744073709551616 7 ∷ tally 5 36893488147419103232 ∷ tally 9223372036854775808 9223372036854775808 ∷ tally 18446744073709551613 1 ∷ [])
    ≡ counts 0 0 0
    ∷ counts most 0 most
    ∷ counts most 7 most
    ∷ counts 5 most most
    ∷ counts 9223372036854775808 9223372036854775808 most
    ∷ counts 18446744073709551613 1 18446744073709551614
    ∷ []
unfolding stopped
stops = refl

-- an accepted frame, a refused one, and one that is not counted, behind the end and one before it
pub next :
    map (λ n. shown_next n (counts most 0 most)) (0 ∷ 11 ∷ 8 ∷ [])
    ≡ counts most 0 most ∷ counts most 1 most ∷ counts most 0 most ∷ []
unfolding stopped is_refused
next = refl

pub next_before :
    map (λ n. shown_next n (counts 3 18446744073709551611 18446744073709551614)) (0 ∷ 5 ∷ 8 ∷ [])
    ≡ counts 4 18446744073709551611 most
    ∷ counts 3 18446744073709551612 most
    ∷ counts 3 18446744073709551611 18446744073709551614
    ∷ []
unfolding stopped is_refused
next_before = refl

-- sums, stopped; one too little, one too much, wrapped, and an end that is not reached
pub sums :
    map is_sum
    (counts 0 0 0
    ∷ counts 2 3 5
    ∷ counts most most most
    ∷ counts 18446744073709551614 1 most
    ∷ counts 18446744073709551614 3 most
    ∷ counts 2 3 4
    ∷ counts 2 3 6
    ∷ counts 18446744073709551614 3 1
    ∷ counts most 1 0
    ∷ counts 18446744073709551613 1 most
    ∷ [])
    ≡ true ∷ true ∷ true ∷ true ∷ true ∷ false ∷ false ∷ false ∷ false ∷ false ∷ []
unfolding is_sum stopped
sums = refl

pub report :
    report_of (counts 258 3 most)
    ≡ 0 ∷ 0 ∷ 0 ∷ 0 ∷ 0 ∷ 0 ∷ 1 ∷ 2 ∷ 0 ∷ 0 ∷ 0 ∷ 0 ∷ 0 ∷ 0 ∷ 0 ∷ 3 ∷ replicate 8 255
unfolding report_of word_bytes
report = refl
