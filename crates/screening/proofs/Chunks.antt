-- The first chunk of 8 bytes that is a NaN is the first weight that is one. Assumes nothing.
use Rattle.std.proofs.Common.{◌≡◌, refl, ap, ◌∙◌, ℕ, zero, suc, ◌+◌, ◌*◌, ◌/◌, ◌≤◌, List, cond, length, take, drop, add-one, arith, length-drop, Some}
use Rattle.std.specs.Prelude.{position}
use Rattle.std.specs.List.{position_from}
use Rattle.std.specs.Simd.{first_chunks}
use Rattle.std.proofs.lemmas.Iterator.Adapters.{position_from-zero}
use lib.Seq.{drop-drop, length-take-le}
use Rattle.words.specs.Bytes.{number_at}
use Rattle.words.proofs.Numbers.{eight_read}
use Rattle.screening.specs.Chunks.{is_missing}
use Rattle.screening.specs.Screening.{is_nan, weight_at, first_nan}

chunks_from : (p : List ℕ) (i n : ℕ) → 8 * (i + n) ≤ length p → position_from is_missing i (first_chunks 8 n (drop (8 * i) p)) ≡ first_nan p i n
unfolding number_at
chunks_from p i zero h = refl
chunks_from p i (suc n) h =
    let here : is_missing (take 8 (drop (8 * i) p)) ≡ is_nan (weight_at p i) = ap is_nan (eight_read (take 8 (drop (8 * i) p)) (length-take-le 8 (drop (8 * i) p) (omega (arith, length-drop (8 * i) p)))) in
    let next : 8 * i + 8 ≡ 8 * (i + 1) = omega arith in
    let rest : position_from is_missing (i + 1) (first_chunks 8 n (drop 8 (drop (8 * i) p))) ≡ first_nan p (i + 1) n =
    ap (λ (q : List ℕ). position_from is_missing (i + 1) (first_chunks 8 n q)) (drop-drop 8 (8 * i) p ∙ ap (λ (k : ℕ). drop k p) next) ∙ chunks_from p (i + 1) n (omega arith) in
    (λ j. cond (here j) (Some i) (rest j)) ∙ ap (λ (k : ℕ). cond (is_nan (weight_at p i)) (Some i) (first_nan p k n)) (add-one i)

pub chunks : (p : List ℕ) → position is_missing (first_chunks 8 (length p / 8) p) ≡ first_nan p 0 (length p / 8)
chunks p = position_from-zero is_missing (first_chunks 8 (length p / 8) p) ∙ chunks_from p 0 (length p / 8) (omega arith)
