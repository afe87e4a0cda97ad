-- The results of a payload's items: which they are, and where they stand. Assumes nothing.
use Prim.Native.Nat.{ℕ, ◌+◌, ◌*◌, ◌-◌, ◌/◌, ◌≤◌, suc, ◌<◌}
use mathlib.Core.Path.{◌≡◌, refl, sym, ap, ◌∙◌}
use mathlib.Core.List.{List, ◌++◌}
use native.Mathlib.Nat.{sub-zero, mul-le-mul_right, suc-mul}
use native.Mathlib.Omega.{arith}
use lib.ListN.{length, get_or, drop, length-drop}
use borrow.Author.Tests.{eq-eqb, ne_eqb}
use Rattle.words.specs.Bytes.{number_at, words_of}
use Rattle.words.proofs.Words.{length_words, word_at, same_words}
use Rattle.exp2m1.specs.Score.{score_bits}
use Rattle.sheets.specs.Sheet.{line_count, first_refusal, sheet_refusal}
use Rattle.sheet_values.specs.Values.{value_of}
use Rattle.sheet_values.specs.Lines.{GoodLines, Words}
use Rattle.frames.specs.Frame.{items_from, item_bytes, item_count, refusal_to}
use Rattle.frames.specs.Body.{Body}
use Rattle.frames.proofs.Items.{items_first, item_one, item_line, items_fit, items_within}
use Rattle.frames.proofs.Refusals.{good_length, good_lines, good_items, body_length_lem}
use Rattle.answers.specs.Answers.{result_at, line_score, result_of, results_of}

pub result_one : {kind : ℕ} → kind ≡ 1 → (p : List ℕ) (at : ℕ) → result_at kind p at ≡ score_bits (number_at 8 p at)
unfolding result_at
result_one {kind} e p at = rw (eq-eqb kind 1 e) refl

-- ---- by their numbers

abbrev pub item_result : ℕ → List ℕ → ℕ → ℕ
item_result kind p i = result_at kind p (items_from kind + i * item_bytes kind)

pub results_lines : {kind : ℕ} → kind ≡ 5 → (n : ℕ) (p : List ℕ) → results_of kind n p ≡ words_of (line_score p) n
unfolding results_of result_of
results_lines {kind} e n p = rw (eq-eqb kind 5 e) refl

pub results_items : {kind : ℕ} → (kind ≡ 5 → ⊥) → (n : ℕ) (p : List ℕ) → results_of kind n p ≡ words_of (item_result kind p) n
unfolding results_of result_of
results_items {kind} e n p = rw (ne_eqb kind 5 e) refl

pub length_results : (kind n : ℕ) (p : List ℕ) → length (results_of kind n p) ≡ 8 * n
unfolding results_of
length_results kind n p = length_words (result_of kind p) n

-- the values of lines, scored as weights
pub lines_scored : (n : ℕ) (p values rest : List ℕ) → values ≡ words_of (value_of p) n ++ rest → Words n p → results_of 1 n values ≡ results_of 5 n p
unfolding line_score
lines_scored n p values rest e w =
    results_items (λ h. let z : ⊥ = omega arith in z) n values
    ∙ same_words (item_result 1 values) (line_score p) n
    (λ i h.
    let place : items_from 1 + i * item_bytes 1 ≡ 8 * i = (λ j. items_first 1 (λ k. let z : ⊥ = omega arith in z) j + i * item_one {kind = 1} refl j) ∙ omega arith in
    result_one refl values (items_from 1 + i * item_bytes 1)
    ∙ ap score_bits (ap (number_at 8 values) place ∙ ap (λ (l : List ℕ). number_at 8 l (8 * i)) e ∙ word_at (value_of p) n rest i h (w i h)))
    ∙ sym (results_lines refl n p)

-- the lines of a sheet that is not refused
pub lines_good : (n : ℕ) (b : List ℕ) → Body n b → refusal_to n b ≡ 0 → get_or b 1 0 ≡ 5 → GoodLines (item_count (get_or b 1 0) (n - 2)) (drop 2 b)
unfolding sheet_refusal
lines_good n b l e k =
    let kind = get_or b 1 0 in
    let g = good_length n b e in
    let count : item_count kind (n - 2) ≡ (n - 2) / 9 = (λ i. (n - 2 - items_first kind (λ h. omega arith) i) / item_line k i) ∙ ap (λ (m : ℕ). m / 9) (sub-zero (n - 2)) in
    let long : length (drop 2 b) ≡ n - 2 = length-drop 2 b ∙ ap (λ (m : ℕ). m - 2) (body_length_lem n b g.0 g.1 l) in
    let same : item_count kind (n - 2) ≡ line_count (drop 2 b) = count ∙ ap (λ (m : ℕ). m / 9) (sym long) in
    record { few = omega (arith, count, g.1); good = ap (first_refusal (drop 2 b)) same ∙ good_lines n b e k }

-- the items that a payload has are within it
pub payload_items : (n : ℕ) (b p : List ℕ) {k : ℕ} → Body n b → refusal_to n b ≡ 0 → p ≡ drop 2 b → k ≡ item_count (get_or b 1 0) (n - 2)
    → (items_from (get_or b 1 0) + k * item_bytes (get_or b 1 0) ≤ length p) × (8 * k + 4 ≤ 516)
payload_items n b p {k} l e q c =
    let kind = get_or b 1 0 in
    let g = good_length n b e in
    let long : length p ≡ n - 2 = ap length q ∙ length-drop 2 b ∙ ap (λ (m : ℕ). m - 2) (body_length_lem n b g.0 g.1 l) in
    let w : items_from kind + k * item_bytes kind ≤ n - 2 = rw c (items_within kind (n - 2) (good_items n b e)) in
    let f : 8 * k ≤ n - 2 = rw c (items_fit kind (n - 2)) in
    (omega arith, omega arith)

-- the item at i ends within the items
pub item_within : (from i n size : ℕ) {len : ℕ} → i < n → from + n * size ≤ len → from + i * size + size ≤ len
item_within from i n size {len} h l = let m : suc i * size ≤ n * size = mul-le-mul_right size h in omega (arith, suc-mul i size)
