-- `pieces::take_body` meets its contract: the bytes of a body that is kept are put behind those that have come. Assumes nothing.
use Rattle.std.proofs.Common.{◌≡◌, sym, ap, ◌∙◌, ◌+◌, ◌-◌, ℕ, List, min, length, arith}
use borrow.Rule.Slice.PartMut.{put_mid}
use Rattle.frames.specs.Frame.{kept}
use Rattle.frames.proofs.Refusals.{kept_bounds}
use Rattle.partial_frame.specs.State.{length_in}
use Rattle.partial_frame.specs.declared.PartialFrame.{PartialFrame}
use Rattle.partial_frame.specs.Steps.{Progress}
use Rattle.partial_frame.proofs.Held.{resized}
use Rattle.partial_frame.proofs.Loops.{short_count}
use Rattle.partial_frame.proofs.Bodies.{taken_kept, taken_skipped}
use Rattle.pieces.proofs.take_body.Goals.{then-is_kept, else-is_kept}
use Rattle.pieces.proofs.take_body.Goals as goal

grown : (n : ℕ) {f g : PartialFrame} → f ≡ g
    → ◌≡◌ {A = Progress} (record { frame = resized f (f.count + n) f.body; used = n }) (record { frame = resized g (g.count + n) g.body; used = n })
grown n e = ap (λ (f : PartialFrame). record { frame = resized f (f.count + n) f.body; used = n }) e

copied : (s : PartialFrame) (n : ℕ) {k : ℕ} {b d : List ℕ} → k ≡ n → b ≡ d
    → ◌≡◌ {A = Progress} (record { frame = resized s (s.count + n) (put_mid (s.count - 2) k s.body b); used = n }) (record { frame = resized s (s.count + n) (put_mid (s.count - 2) n s.body d); used = n })
copied s n e f = λ i. record { frame = resized s (s.count + n) (put_mid (s.count - 2) (e i) s.body (f i)); used = n }

pub overflow_sub-length : goal.overflow_sub-length
overflow_sub-length c = omega (arith, short_count c.args.frame.now c.requires.0)

pub slice_bounds-copy_from_slice-end : goal.slice_bounds-copy_from_slice-end
slice_bounds-copy_from_slice-end c =
    let l = c.body_length-length.ensures.0 in
    let k = sym (ap kept l) ∙ sym c.is_kept.ensures ∙ c.if-is_kept.true in
    omega (arith, c.min-used.ensures, l, short_count c.args.frame.now c.requires.0, (kept_bounds _ k).1)

pub returns : goal.returns
returns c =
    let s = c.args.frame.now in
    let p = c.args.piece.now in
    let n = c.min-used.result in
    let l = c.body_length-length.ensures.0 in
    let e : n ≡ min (length p) (length_in s - (s.count - 2)) = c.min-used.ensures ∙ ap (λ (k : ℕ). min (length p) (k - (s.count - 2))) l in
    let k : c.is_kept.result ≡ kept (length_in s) = c.is_kept.ensures ∙ ap kept l in (
      elim c.if-is_kept.branch [
        | then-is_kept w ↦ grown n w.frame-is ∙ copied s n (omega arith) w.copy_from_slice.ensures.after ∙ taken_kept s p c.requires.0 c.requires.1 n e (sym k ∙ w.if-is_kept.true) (omega arith)
        | else-is_kept w ↦ grown n w.frame-is ∙ taken_skipped s p c.requires.0 c.requires.1 n e (sym k ∙ w.if-is_kept.false)
      ],
      omega (arith, c.min-used.ensures),
    )
