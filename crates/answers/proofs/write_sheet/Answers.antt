-- `answers::write_sheet` meets its contract: the values, scored as weights. Assumes nothing.
use Prim.Native.Nat.{ℕ, ◌+◌, ◌*◌, ◌-◌, ◌≤◌}
use mathlib.Core.Path.{◌≡◌, refl, sym, ap, subst₂, ◌∙◌}
use mathlib.Core.List.{List}
use native.Mathlib.Omega.{arith}
use lib.ListN.{length, get_or, drop}
use Rattle.words.proofs.Words as written
use Rattle.sheet_values.specs.Values.{value_of}
use Rattle.sheet_values.specs.Lines.{GoodLines}
use Rattle.frames.specs.Frame.{items_from, item_bytes, item_count, refusal_to}
use Rattle.frames.specs.Body.{Body}
use Rattle.frames.proofs.Items.{items_first, item_one, item_line}
use Rattle.frames.proofs.Contents.{payload_contents}
use Rattle.frames.proofs.Refusals.{good_length}
use Rattle.answers.specs.Answers.{accepting, results_of, items_in}
use Rattle.answers.proofs.Results.{lines_scored, lines_good, payload_items}
use Rattle.answers.proofs.Answers.{written_as}
use Rattle.answers.proofs.write_sheet.Goals as goal

-- the lines that a payload has

payload_lines : (n : ℕ) (b p : List ℕ) {k : ℕ} → Body n b → refusal_to n b ≡ 0 → get_or b 1 0 ≡ 5 → p ≡ drop 2 b → k ≡ item_count 5 (n - 2) → GoodLines k p × (k * 9 ≤ length p)
payload_lines n b p {k} l r e q c =
    let c' : k ≡ item_count (get_or b 1 0) (n - 2) = c ∙ ap (λ (m : ℕ). item_count m (n - 2)) (sym e) in
    let w = payload_items n b p l r q c' in
    let m = ap (λ (x : ℕ). k * x) (item_line e) in
    (subst₂ GoodLines (sym c') (sym q) (lines_good n b l r e), omega (arith, w.0, m))

-- the items of every kind but 3 come first

at_front : (kind n : ℕ) → (kind ≡ 3 → ⊥) → items_from kind ≤ n
at_front kind n e = omega (arith, items_first kind e)

-- so many weights are within a payload

within : (n len : ℕ) → 8 * n ≤ len → items_from 1 + n * item_bytes 1 ≤ len
within n len h = omega (arith, items_first 1 (λ k. let z : ⊥ = omega arith in z), ap (λ (m : ℕ). n * m) (item_one {kind = 1} refl))

pub overflow_sub-n : goal.overflow_sub-n
overflow_sub-n c =
    (good_length c.args.n c.args.body.now c.requires.1).0

pub item_count-count-requires : goal.item_count-count-requires
item_count-count-requires c = at_front 5 _ (λ e. omega arith)

pub write_values-requires : goal.write_values-requires
write_values-requires c =
    let g = payload_lines c.args.n c.args.body.now _ c.requires.0 c.requires.1 c.requires.2 (payload_contents _ _ c.payload.ensures) c.item_count-count.ensures.0 in
    (g.0, g.1, omega (arith, g.0.few))

pub write_items-requires : goal.write_items-requires
write_items-requires c =
    let g = payload_lines c.args.n c.args.body.now _ c.requires.0 c.requires.1 c.requires.2 (payload_contents _ _ c.payload.ensures) c.item_count-count.ensures.0 in
    let few = g.0.few in
    let l = written.same_length (value_of c.payload.result.now) c.item_count-count.result _ _ c.write_values.ensures.0 (omega arith) in
    ((λ e. omega arith), within c.item_count-count.result _ (omega arith), omega arith, c.requires.3)

pub returns : goal.returns
unfolding items_in
returns c =
    let s = c.before.before.before in
    let count = c.item_count-count.ensures.0 in
    let q = payload_contents _ _ c.payload.ensures in
    written_as
    (ap accepting
    (lines_scored c.item_count-count.result c.payload.result.now _ _ c.write_values.ensures.0 c.write_values.ensures.1
    ∙ (λ i. results_of 5 (count i) (q i))
    ∙ (λ i. results_of (sym s.requires.2 i) (item_count (sym s.requires.2 i) (s.args.n - 2)) (drop 2 s.args.body.now))))
    c.write_items.ensures
