-- Request A.8: "the first bad line deciding". What decides is the least line that is bad, and the number of its refusal. proofs/FirstBad.antt
-- proves that the scan gives it. Definitions only.
use Rattle.std.specs.Prelude.{ℕ, ◌<◌, ◌≡◌, List}
use Rattle.sheets.specs.Sheet.{line_of, refusal_of, line_count, sheet_refusal}

-- line i is bad by this number, or good by 0
abbrev pub refusal_at : List ℕ → ℕ → ℕ
refusal_at p i = refusal_of i (line_of p i)

-- the number that decides of n lines: 0 where all are good, and otherwise that of a bad line before which all are
pub data Decides (p : List ℕ) (n : ℕ) : ℕ → Type 0 where
  good : ((i : ℕ) → i < n → refusal_at p i ≡ 0) → Decides p n 0
  bad : (i : ℕ) → i < n → (refusal_at p i ≡ 0 → ⊥) → ((j : ℕ) → j < i → refusal_at p j ≡ 0) → Decides p n (refusal_at p i)

-- it is the sheet's refusal, and no other number is
pub record FirstBad : Type 0 where
  pub decides : (p : List ℕ) → Decides p (line_count p) (sheet_refusal p)
  pub only : (p : List ℕ) (r : ℕ) → Decides p (line_count p) r → r ≡ sheet_refusal p
