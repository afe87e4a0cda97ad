-- What is held of a whole frame decides its answer. Assumes nothing.
use Prim.Native.Nat.{ℕ, ◌+◌, ◌≤◌}
use mathlib.Core.Path.{◌≡◌, refl, sym, ap, ◌∙◌}
use mathlib.Core.List.{List}
use mathlib.Core.Bool.{Bool, true, false}
use native.Mathlib.Omega.{arith}
use lib.ListN.{length, drop}
use Rattle.frames.specs.Frame.{body_length, kept}
use Rattle.frames.proofs.Refusals.{kept_bounds}
use Rattle.counts.specs.declared.Counts.{Counts}
use Rattle.answers.specs.Answers.{answer_to, answer_of}
use Rattle.answers.proofs.Answers.{answer_by-length}
use Rattle.partial_frame.specs.State.{frame_of, bytes_in, length_in}
use Rattle.partial_frame.specs.declared.PartialFrame.{PartialFrame}
use Rattle.partial_frame.proofs.Held.{recover}

-- whole frames that leave one state get one answer
pub answer_held : (c : Counts) (f g : List ℕ) → frame_of f ≡ frame_of g → length f ≤ 2 + body_length f → answer_of c f ≡ answer_of c g
unfolding answer_of
answer_held c f g e i = go (kept (body_length f)) refl
  where
    same_length : body_length f ≡ body_length g
    same_length = ap length_in e

    go : (t : Bool) → kept (body_length f) ≡ t → answer_of c f ≡ answer_of c g
    go true k =
        let m = kept_bounds (body_length f) k in
        let n : length f ≡ length g = ap (λ (s : PartialFrame). s.count) e in
        ap (answer_of c) (sym (recover f k (omega arith)) ∙ ap bytes_in e ∙ recover g (rw (← same_length) k) (omega arith))
    go false k = answer_by-length c (body_length f) (drop 2 f) (drop 2 g) k ∙ ap (λ (n : ℕ). answer_to c n (drop 2 g)) same_length
