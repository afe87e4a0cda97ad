-- `partial_frame::PartialFrame::is_left` meets its contract, test by test. Assumes nothing.
use Rattle.std.proofs.Common.{◌≡◌, ℕ, not, true≢false, sym, ap, ◌∙◌, length, drop, arith}
use Rattle.partial_frame.specs.State.{all_zero}
use Rattle.partial_frame.proofs.Loops.{rest_of, left_long, left_lengths, left_body, filled_within}
use Rattle.partial_frame.proofs.PartialFrame.is_left.Goals.{then-not-is_whole, else-not-is_whole}
use Rattle.partial_frame.proofs.PartialFrame.is_left.Goals as goal

pub slice_bounds-are_zero-count : goal.slice_bounds-are_zero-count
slice_bounds-are_zero-count c =
    elim c.if-not-is_whole.branch [
      | then-not-is_whole w ↦ omega (arith, filled_within c.args.self.now (sym c.is_whole.ensures ∙ w.if-not-is_whole.true), c.filled_places.ensures)
      | else-not-is_whole w ↦ absurd (true≢false (sym c.if-lengths_left.true ∙ w.value-is ∙ ap not w.if-not-is_whole.false))
    ]

pub slice_bounds-are_zero-start : goal.slice_bounds-are_zero-start
slice_bounds-are_zero-start c = slice_bounds-are_zero-count c

pub returns-then-lengths_left : goal.returns-then-lengths_left
returns-then-lengths_left c =
    let s = c.args.self.now in
    let l : length s.body ≡ 514 = omega arith in
    elim c.if-not-is_whole.branch [
      | then-not-is_whole w ↦ c.are_zero.ensures ∙ ap all_zero (rest_of c.filled_places.result s.body l) ∙ ap (λ (n : ℕ). all_zero (drop n s.body)) c.filled_places.ensures
          ∙ sym (left_body s (sym c.is_whole.ensures ∙ w.if-not-is_whole.true) (sym w.lengths_left.ensures ∙ sym w.value-is ∙ c.if-lengths_left.true))
      | else-not-is_whole w ↦ absurd (true≢false (sym c.if-lengths_left.true ∙ w.value-is ∙ ap not w.if-not-is_whole.false))
    ]

pub returns-else-lengths_left : goal.returns-else-lengths_left
returns-else-lengths_left c =
    let s = c.args.self.now in
    c.if-lengths_left.false ∙ sym (elim c.if-not-is_whole.branch [
      | then-not-is_whole w ↦ left_lengths s (sym w.lengths_left.ensures ∙ sym w.value-is ∙ c.if-lengths_left.false)
      | else-not-is_whole w ↦ left_long s (sym c.is_whole.ensures ∙ w.if-not-is_whole.false)
    ])
