-- `pieces::take_length` meets its contract: each byte is the next step. Assumes nothing.
use Rattle.std.proofs.Common.{◌≡◌, refl, sym, ap, ◌∙◌, ◌+◌, ℕ, get_or, arith}
use Rattle.partial_frame.specs.Steps.{after_byte}
use Rattle.partial_frame.specs.declared.PartialFrame.{PartialFrame}
use Rattle.partial_frame.proofs.Held.{resized}
use Rattle.partial_frame.proofs.Loops.{begins_more}
use Rattle.pieces.proofs.take_length.Goals.{in-0, in-1}
use Rattle.pieces.proofs.take_length.Goals as goal

-- the two length bytes
byte_hi : (s : PartialFrame) (b : ℕ) → s.count ≡ 0 → record { count = s.count + 1; hi = b; lo = s.lo; body = s.body } ≡ after_byte s b
unfolding after_byte
byte_hi s b e = rw e refl

byte_lo : (s : PartialFrame) (b : ℕ) → s.count ≡ 1 → record { count = s.count + 1; hi = s.hi; lo = b; body = s.body } ≡ after_byte s b
unfolding after_byte
byte_lo s b e = rw e refl

next : {f g : PartialFrame} → f ≡ g → resized f (f.count + 1) f.body ≡ resized g (g.count + 1) g.body
next e = ap (λ (f : PartialFrame). resized f (f.count + 1) f.body) e

pub loop-byte-preserved : goal.loop-byte-preserved
loop-byte-preserved c =
    let l = c.loop-byte in
    let s = c.args.frame.now in
    let p = c.args.piece.now in
    let i = l.invariant.counted in
    record {
      counted = omega arith;
      begins = elim c.match-frame.branch [
        | in-0 w ↦ begins_more s p l.frame _ l.used l.invariant.begins (omega arith) (omega arith) (next w.frame-is ∙ byte_hi l.frame _ w.in-0.is ∙ ap (λ (k : ℕ). after_byte l.frame (get_or p k 0)) (sym i))
        | in-1 w ↦ begins_more s p l.frame _ l.used l.invariant.begins (omega arith) (omega arith) (next w.frame-is ∙ byte_lo l.frame _ w.in-1.is ∙ ap (λ (k : ℕ). after_byte l.frame (get_or p k 0)) (sym i))
      ];
    }
