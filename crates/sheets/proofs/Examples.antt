-- Worked examples of specs/Sheet.antt, computed: the two forms, the refusals of a line and their order, and which line decides. Assumes
-- nothing.
use Prim.Native.Nat.{ℕ, zero, suc, ◌<◌}
use mathlib.Core.Path.{◌≡◌, refl}
use mathlib.Core.List.{List, [], ◌∷◌, ◌++◌, map}
use native.Mathlib.Omega.{arith}
use lib.ListN.{replicate}
use lib.Dec.{lit<}
use Rattle.sheets.specs.Sheet.{line_of, refusal_of, sheet_refusal}
use Rattle.sheets.specs.FirstBad.{refusal_at, Decides, good, bad}
use Rattle.std.specs.Prelude.{Option, Some, None}
use Rattle.sheets.specs.declared.Line.{Line}
use Rattle.sheets.specs.declared.Line.TheVariants.{Weight, Sum}
use Rattle.sheets.proofs.FirstBad.{first_bad}

-- a weight whose bytes are no filler, and the sum of two lines
abbrev weight : List ℕ
weight = 0 ∷ 1 ∷ 2 ∷ 3 ∷ 4 ∷ 5 ∷ 6 ∷ 7 ∷ 8 ∷ []

abbrev sum : ℕ → ℕ → List ℕ
sum first second = 1 ∷ first ∷ second ∷ replicate 6 0

-- a second-form line with so many zero bytes before one that is not
abbrev spoiled : ℕ → ℕ → List ℕ
spoiled zeros more = 1 ∷ 0 ∷ 0 ∷ (replicate zeros 0 ++ (1 ∷ replicate more 0))

abbrev line : List ℕ → Option Line
line bytes = line_of (weight ++ (bytes ++ weight)) 1

pub forms :
    map line (weight ∷ sum 3 200 ∷ (2 ∷ replicate 8 0) ∷ (255 ∷ replicate 8 0) ∷ spoiled 0 5 ∷ spoiled 1 4 ∷ spoiled 2 3 ∷ spoiled 3 2 ∷ spoiled 4 1 ∷ spoiled 5 0 ∷ [])
    ≡ Some (Weight 0x0102030405060708) ∷ Some (Sum 3 200) ∷ None ∷ None ∷ None ∷ None ∷ None ∷ None ∷ None ∷ None ∷ []
unfolding line_of
forms = refl

-- of line 2: earlier lines, twice the same one; its own number, a greater one, and one that no sheet has, as first and as second
pub numbers :
    map (refusal_of 2) (Some (Weight 0) ∷ Some (Sum 0 1) ∷ Some (Sum 1 1) ∷ Some (Sum 2 0) ∷ Some (Sum 0 2) ∷ Some (Sum 3 1) ∷ Some (Sum 1 3) ∷ Some (Sum 255 0) ∷ Some (Sum 0 255) ∷ None ∷ [])
    ≡ 0 ∷ 0 ∷ 0 ∷ 15 ∷ 15 ∷ 15 ∷ 15 ∷ 15 ∷ 15 ∷ 14 ∷ []
unfolding refusal_of
numbers = refl

-- by the theorem: in a sheet whose second line names itself and whose third has neither form, the second decides, by 15; in a good one none
abbrev spoiled_twice : List ℕ
spoiled_twice = weight ++ (sum 1 0 ++ (2 ∷ replicate 8 0))

pub second_decides : 15 ≡ sheet_refusal spoiled_twice
unfolding line_of refusal_of
second_decides = first_bad.only spoiled_twice 15 (bad 1 (lit< tt) (λ e. fifteen e) (λ j h. before j h))
  where
    fifteen : ◌≡◌ {A = ℕ} 15 0 → ⊥
    fifteen e = omega arith

    before : (j : ℕ) → j < 1 → refusal_at spoiled_twice j ≡ 0
    before zero h = refl
    before (suc j) h = absurd (omega arith)

pub one_good : 0 ≡ sheet_refusal weight
unfolding line_of refusal_of
one_good = first_bad.only weight 0 (good (λ i h. first i h))
  where
    first : (j : ℕ) → j < 1 → refusal_at weight j ≡ 0
    first zero h = refl
    first (suc j) h = absurd (omega arith)

pub both_decided : Decides spoiled_twice 3 15 × Decides weight 1 0
unfolding sheet_refusal
both_decided = (first_bad.decides spoiled_twice, first_bad.decides weight)

-- a good sheet; one of a sum alone; a greater number that the sheet has; 14 where 15 applies to the same line; the first of two bad lines, in
-- either order; a line whose last byte has not come is no line
pub sheets :
    map sheet_refusal
    ((weight ++ (weight ++ (sum 0 1 ++ sum 2 2)))
    ∷ sum 0 0
    ∷ (weight ++ (sum 0 2 ++ weight))
    ∷ (weight ++ (1 ∷ 9 ∷ 9 ∷ 0 ∷ 0 ∷ 0 ∷ 0 ∷ 0 ∷ 7 ∷ []))
    ∷ (weight ++ (sum 1 0 ++ (2 ∷ replicate 8 0)))
    ∷ (weight ++ ((2 ∷ replicate 8 0) ++ sum 2 0))
    ∷ (weight ++ (2 ∷ replicate 7 0))
    ∷ []
    ∷ [])
    ≡ 0 ∷ 15 ∷ 15 ∷ 14 ∷ 15 ∷ 14 ∷ 0 ∷ 0 ∷ []
unfolding sheet_refusal
sheets = refl
