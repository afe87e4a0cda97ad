-- `sheet_values::write_values` meets its contract. Assumes nothing.
use Rattle.std.proofs.Common.{◌≡◌, refl, sym, ap, ◌∙◌, ℕ, ◌*◌, ◌<◌, List, take, arith, Option}
use lib.ListN.{length-set}
use Rattle.words.proofs.Words.{one_more-word}
use Rattle.words.specs.Bytes.{words_of}
use Rattle.sheets.specs.Sheet.{line_of, refusal_of, first_refusal}
use Rattle.sheets.specs.declared.Line.{Line}
use Rattle.sheets.proofs.FirstBad.{all_good_lem}
use Rattle.sheet_values.specs.Values.{value_from, values_of, value_of}
use Rattle.sheet_values.proofs.Values.{values_more, words_more, value_of_lem, some_form}
use Rattle.sheet_values.proofs.write_values.Goals as goal

-- line i of n good ones, as it stands in the payload

module _ (p : List ℕ) (n i : ℕ) (g : first_refusal p n ≡ 0) (h : i < n) {line : Option Line} (l : line ≡ line_of p i) where
  good : refusal_of i line ≡ 0
  good = ap (refusal_of i) l ∙ all_good_lem p n g i h

  value_is : (values : List ℕ) {v : ℕ} → take i values ≡ values_of p i → v ≡ value_from values line → v ≡ value_of p i
  value_is values e f = f ∙ ap (value_from values) l ∙ value_of_lem p values i e (all_good_lem p n g i h)

pub loop-i-init : goal.loop-i-init
unfolding values_of words_of
loop-i-init c = record { size = refl; kept = refl; written = refl; small = λ j h. absurd (omega arith) }

pub unwrap-line-requires : goal.unwrap-line-requires
unfolding line_of
unwrap-line-requires c =
    some_form c.loop-i.i c.line_at.result (good c.args.payload.now c.args.n c.loop-i.i c.requires.0.good c.loop-i-test.true c.line_at.ensures)

pub value_of-value-requires : goal.value_of-value-requires
unfolding line_of
value_of-value-requires c =
    let g = good c.args.payload.now c.args.n c.loop-i.i c.requires.0.good c.loop-i-test.true c.line_at.ensures in
    (ap (refusal_of c.loop-i.i) (sym c.unwrap-line.ensures) ∙ g, omega (arith, c.requires.0.few))

pub loop-i-preserved : goal.loop-i-preserved
unfolding line_of
loop-i-preserved c =
    let l = c.loop-i in
    let p = c.args.payload.now in
    let value = value_is p c.args.n l.i c.requires.0.good c.loop-i-test.true c.line_at.ensures l.values l.invariant.kept (c.value_of-value.ensures ∙ ap (value_from l.values) (sym c.unwrap-line.ensures)) in
    record {
      size = length-set l.values l.i _ ∙ l.invariant.size;
      kept = values_more p l.values l.i l.invariant.kept (omega (arith, c.requires.0.few)) value;
      written = one_more-word (value_of p) l.i l.out c.args.out.now l.invariant.written (omega (arith, c.requires.2)) (8 * l.i) _ c.write_u64.new.out refl
          value
          c.write_u64.ensures;
      small = words_more p l.i l.invariant.small value (omega (arith, c.value_of-value.type_inv));
    }
