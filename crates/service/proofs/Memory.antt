-- What the other proofs use of the memory: the state's view of it decides the answers, and goes on by the views alone. Assumes nothing.
use Prim.Native.Nat.{ℕ, ◌+◌, ◌*◌, ◌≤◌}
use mathlib.Core.Path.{◌≡◌, sym, ap, subst, ◌∙◌}
use mathlib.Core.List.{List}
use mathlib.Core.Bool.{true, false}
use native.Mathlib.Omega.{arith}
use lib.ListN.{length, drop}
use lib.Dec.{eqb}
use borrow.Author.Tests.{ne_eqb}
use Rattle.frames.specs.Frame.{answer_room, body_length}
use Rattle.frames.proofs.Refusals.{Senders, refusal_senders}
use Rattle.counts.specs.Counts.{shown_next}
use Rattle.counts.specs.declared.Counts.{Counts}
use Rattle.counts.proofs.Shown.{shown_next_lem, shown_again, shown_sum, sum_shown}
use Rattle.answers.specs.Answers.{Answer, answer_of}
use Rattle.answers.proofs.Answers.{answer_length as frame-length, answer_refusal, answer_uncounted}
use Rattle.partial_frame.specs.State.{frame_of}
use Rattle.memory.specs.Memory.{Memory, view_of, recalled, is_view, Sized, answer_with, remembered, shows_memory}
use Rattle.memory.specs.declared.View.{View}
use Rattle.service.proofs.Held.{answer_held}

abbrev showing : Counts → View
showing c = record { counts = c }

-- an answer has four bytes at least, no more than there is room for and no more than seven times its frame, and its number is a sender's
-- refusal or 0
pub answer_length : (v : View) (f : List ℕ) → (4 ≤ length (answer_with v f).bytes) × (length (answer_with v f).bytes ≤ answer_room) × (length (answer_with v f).bytes ≤ 7 * (2 + body_length f))
unfolding answer_of
answer_length v f = frame-length v.counts (body_length f) (drop 2 f)

pub answer_some : (v : View) (f : List ℕ) → eqb (length (answer_with v f).bytes) 0 ≡ false
answer_some v f = let h = (answer_length v f).0 in ne_eqb (length (answer_with v f).bytes) 0 (λ z. let w : ⊥ = omega arith in w)

pub answer_number : (v : View) (f : List ℕ) → Senders (answer_with v f).number
unfolding answer_of
answer_number v f = subst Senders (sym (answer_refusal v.counts (body_length f) (drop 2 f))) (refusal_senders (body_length f) (drop 2 f))

-- whole frames that leave one state get one answer
pub answer_alike : (v : View) (f g : List ℕ) → frame_of f ≡ frame_of g → length f ≤ 2 + body_length f → answer_with v f ≡ answer_with v g
answer_alike v f g e l = answer_held v.counts f g e l

pub remembered_alike : (f g : List ℕ) (a : Answer) (m n : Memory) → frame_of f ≡ frame_of g → length f ≤ 2 + body_length f → view_of m ≡ view_of n → view_of (remembered f a m) ≡ view_of (remembered g a n)
remembered_alike f g a m n e l v =
    ap showing (shown_next_lem a.number m) ∙ ap (λ (x : View). showing (shown_next a.number x.counts)) v ∙ sym (ap showing (shown_next_lem a.number n))

pub view_recalled : (m : Memory) → view_of (recalled (view_of m)) ≡ view_of m
view_recalled m = ap showing (shown_again m)

pub view_good : (m : Memory) → is_view (view_of m) ≡ true
view_good m = shown_sum m

-- a good view is that of the memory that it stands for
pub view_shown : (v : View) → Sized v → is_view v ≡ true → v ≡ view_of (recalled v)
view_shown v s e = ap showing (sum_shown v.counts s.accepted s.refused e)

-- a frame whose answer does not show the memory has one answer
pub answer_apart : (v w : View) (f : List ℕ) → shows_memory f ≡ false → answer_with v f ≡ answer_with w f
answer_apart v w f e = answer_uncounted v.counts w.counts f e
