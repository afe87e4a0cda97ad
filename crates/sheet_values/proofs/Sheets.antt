-- Each line of a sheet that is not refused has the value that request A.8 gives it. Assumes nothing.
use Prim.Native.Nat.{ℕ, zero, suc, ◌<◌}
use mathlib.Core.Path.{◌≡◌, refl, sym, ap, ap₂, ◌∙◌}
use mathlib.Core.List.{List, [], ◌∷◌, ◌++◌}
use mathlib.Core.Bool.{Bool, true, false}
use native.Mathlib.Omega.{arith}
use lib.ListN.{get_or, get_or-append}
use lib.Seq.{get_or_at}
use lib.Dec.{ltb}
use borrow.Author.Tests.{ltb-true, ltb-false}
use Rattle.sheets.specs.Sheet.{line_of, refusal_of, line_count, sheet_refusal}
use Rattle.sheets.specs.declared.Line.{Line}
use Rattle.sheets.specs.declared.Line.TheVariants.{Sum}
use Rattle.std.specs.Prelude.{Option, Some, None}
use Rattle.sheets.proofs.FirstBad.{all_good_lem}
use Rattle.sheets.proofs.Lines.{names_earlier}
use Rattle.sums.specs.Sum.{sum_bits}
use Rattle.sheet_values.specs.Values.{value_from, values_of, value_of}
use Rattle.sheet_values.specs.Sheets.{Sheets}
use Rattle.sheet_values.proofs.Values.{length_values}

-- the value of an earlier line, among those of the first i
value_stays : (p : List ℕ) (i j : ℕ) → j < i → get_or (values_of p i) j 0 ≡ value_of p j
unfolding value_of values_of
value_stays p zero j h = absurd (omega arith)
value_stays p (suc i) j h = go (ltb j i) refl (value_stays p i j)
  where
    go : (t : Bool) → ltb j i ≡ t → (j < i → get_or (values_of p i) j 0 ≡ value_of p j) → get_or (values_of p i ++ (value_of p i ∷ [])) j 0 ≡ value_of p j
    go true e f = get_or-append (values_of p i) (value_of p i ∷ []) 0 j (omega (arith, ltb-true j i e, length_values p i)) ∙ f (ltb-true j i e)
    go false e f =
        let l = ltb-false j i e in
        let s : j ≡ i = omega arith in
        get_or_at (values_of p i) (value_of p i) [] 0 j (omega (arith, length_values p i)) ∙ ap (value_of p) (sym s)

line_good : (p : List ℕ) → sheet_refusal p ≡ 0 → (i : ℕ) (line : Option Line) → i < line_count p → line_of p i ≡ line → refusal_of i line ≡ 0
unfolding sheet_refusal
line_good p e i line h l = ap (refusal_of i) (sym l) ∙ all_good_lem p (line_count p) e i h

pub sheets : Sheets
unfolding value_of value_from refusal_of
sheets = record {
  forms = λ p e i h l. let g = line_good p e i None h l in absurd (omega arith);
  weight = λ p e i x h l. ap (value_from (values_of p i)) l;
  sum = λ p e i first second h l.
      let n = names_earlier i first second (line_good p e i (Some (Sum first second)) h l) in
      (n.0, n.1, ap (value_from (values_of p i)) l ∙ ap₂ sum_bits (value_stays p i first n.0) (value_stays p i second n.1));
}
