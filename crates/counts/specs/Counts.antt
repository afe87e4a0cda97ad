-- The counts of a report (document 02, A.6 and A.8): what is counted of the answers, without an end, and what is shown of it, stopped.
-- Definitions only.
use Rattle.std.specs.Prelude.{ℕ, suc, ◌+◌, min, List, [], ◌∷◌, ◌++◌, Bool, true, false, ◌||◌, eqb}
use Rattle.words.specs.Bytes.{word_bytes}
use Rattle.counts.specs.declared.Counts.{Counts}

-- ---- what is counted

-- the refusals that count
abbrev pub counted_refusals : List ℕ
counted_refusals = 1 ∷ 2 ∷ 3 ∷ 4 ∷ 5 ∷ 11 ∷ 14 ∷ 15 ∷ []

abbrev pub is_among : ℕ → List ℕ → Bool
is_among n [] = false
is_among n (m ∷ ms) = eqb n m || is_among n ms

-- an answer's number: 0 of an accepted frame, or a refusal that counts
abbrev pub is_accepted : ℕ → Bool
is_accepted number = eqb number 0

unfoldable pub is_refused : ℕ → Bool
is_refused number = is_among number counted_refusals

-- frames accepted and frames refused
pub record Tally : Type 0 where
  pub accepted : ℕ
  pub refused : ℕ

abbrev pub none_counted : Tally
none_counted = record { accepted = 0; refused = 0 }

abbrev pub one_if : Bool → ℕ → ℕ
one_if true n = suc n
one_if false n = n

-- with one answer more, by its number
abbrev pub counted : ℕ → Tally → Tally
counted number t = record { accepted = one_if (is_accepted number) t.accepted; refused = one_if (is_refused number) t.refused }

-- ---- what is shown

-- 2^64 - 1, where each number stops
abbrev pub most : ℕ
most = 18446744073709551615

unfoldable pub stopped : ℕ → ℕ
stopped n = min n most

-- the total is that of the true counts
abbrev pub shown : Tally → Counts
shown t = record { accepted = stopped t.accepted; refused = stopped t.refused; total = stopped (t.accepted + t.refused) }

-- true counts that are shown so, where the total is the sum of the other two, stopped
abbrev pub tally_in : Counts → Tally
tally_in c = record { accepted = c.accepted; refused = c.refused }

unfoldable pub is_sum : Counts → Bool
is_sum c = eqb c.total (stopped (c.accepted + c.refused))

-- three 8-byte numbers
unfoldable pub report_of : Counts → List ℕ
report_of c = (word_bytes c.accepted ++ word_bytes c.refused) ++ word_bytes c.total

-- ---- the same by what is shown alone, which proofs/Shown.antt shows

-- with so many accepted and refused frames more
abbrev pub added : ℕ → ℕ → Counts → Counts
added accepted refused c =
    record { accepted = stopped (c.accepted + accepted); refused = stopped (c.refused + refused); total = stopped (c.total + (accepted + refused)) }

abbrev pub shown_next : ℕ → Counts → Counts
shown_next number c = added (one_if (is_accepted number) 0) (one_if (is_refused number) 0) c
