-- One whole frame more of a run whose frames are counted: refused, accepted, or a report. Assumes nothing.
use Prim.Native.Nat.{ℕ, ◌+◌, ◌-◌, ◌≤◌}
use mathlib.Core.Path.{◌≡◌, sym, ap, subst, ◌∙◌}
use mathlib.Core.List.{List, ◌++◌}
use native.Mathlib.Omega.{arith}
use lib.ListN.{length, get_or, take, drop}
use borrow.Rule.Slice.PartMut.{put_mid}
use Rattle.words.specs.Bytes.{number_at}
use Rattle.frames.specs.Frame.{answer_room, refusal_to, refusal_frame}
use Rattle.answers.specs.Answers.{accepting, items_in}
use Rattle.answers.specs.Written.{Written}
use Rattle.answers.proofs.Answers.{answer_refusal, answer_items, written_as, refusal_written}
use Rattle.memory.specs.Memory.{Sized, view_added}
use Rattle.memory.specs.Answers.{Answers as Responds}
use Rattle.memory.specs.declared.View.{View}
use Rattle.memory.specs.declared.Answered.{Answered}
use Rattle.memory.proofs.Memory.{added_none, added_after, added_refused, added_accepted}
use Rattle.std.specs.Prelude.{Result}
use Rattle.frames.specs.Numbers.{numbered}
use Rattle.frames.specs.declared.Kind.{Kind}
use Rattle.frames.specs.declared.Refusal.{Refusal}
use Rattle.runs.specs.Runs.{Answers}
use Rattle.runs.proofs.Frames.{body_at, no_frames, one_more-frame}

-- a run with frames that are still to be added to what is shown; each has two bytes at least
pub record Counted (v₀ : View) (piece : List ℕ) (v : View) (accepted refused used len : ℕ) (before after : List ℕ) : Type 0 where
  pub run : Answers v₀ piece (record { view = view_added accepted refused v; used = used; len = len }) before after
  pub few : accepted + refused ≤ used

pub none_counted_lem : (v : View) (piece out : List ℕ) → Sized v → Counted v piece v 0 0 0 0 out out
none_counted_lem v piece out s =
    record {
      run = subst (λ (w : View). Answers v piece (record { view = w; used = 0; len = 0 }) out out) (sym (added_none v s)) (no_frames v piece out);
      few = omega arith;
    }

module _ {v₀ v : View} {i j used len : ℕ} {piece out₀ out : List ℕ} (s : Counted v₀ piece v i j used len out₀ out)
    (n : ℕ) (h : used + 2 + n ≤ length piece) (en : n ≡ number_at 2 piece used) (room : answer_room ≤ length out - len) (w : List ℕ) where
  abbrev body : List ℕ
  body = body_at piece used n

  abbrev buffer : List ℕ
  buffer = take (length out - len) (drop len out)

  abbrev shown : View
  shown = view_added i j v

  pub one_refused : (o : Result Kind Refusal) {k : ℕ} (size : ℕ) → numbered o ≡ refusal_to n body → k ≡ numbered o → (k ≡ 0 → ⊥) → size ≡ 4 → w ≡ refusal_frame k ++ drop 4 buffer
      → Counted v₀ piece v i (j + 1) (used + 2 + n) (len + size) out₀ (put_mid len (length out - len) out w)
  one_refused o {k} size f q z l ew =
      let e : k ≡ refusal_to n body = q ∙ f in
      record {
        run = one_more-frame s.run n h en room (record { view = view_added i (j + 1) v; len = size; outcome = o }) w
            (record {
              written = refusal_written shown.counts n body buffer w e z l ew;
              number = f ∙ sym (answer_refusal shown.counts n body);
              view = sym (added_refused i j v n body (λ y. z (e ∙ y)));
            });
        few = omega (arith, s.few);
      }

  pub one_accepted : (o : Result Kind Refusal) {size : ℕ} → numbered o ≡ refusal_to n body → numbered o ≡ 0 → (get_or body 1 0 ≡ 4 → ⊥) → Written (accepting (items_in n body)) size buffer w
      → Counted v₀ piece v (i + 1) j (used + 2 + n) (len + size) out₀ (put_mid len (length out - len) out w)
  one_accepted o {size} f q k ew =
      let e : refusal_to n body ≡ 0 = sym f ∙ q in
      record {
        run = one_more-frame s.run n h en room (record { view = view_added (i + 1) j v; len = size; outcome = o }) w
            (record {
              written = written_as (sym (answer_items shown.counts n body e k)) ew;
              number = f ∙ sym (answer_refusal shown.counts n body);
              view = sym (added_accepted i j v n body e);
            });
        few = omega (arith, s.few);
      }

  pub one_shown : {x : View} (a : Answered) → x ≡ shown → Responds x n body a buffer w
      → Counted v₀ piece a.view 0 0 (used + 2 + n) (len + a.len) out₀ (put_mid len (length out - len) out w)
  one_shown {x} a e ew =
      let same : view_added 0 0 a.view ≡ a.view = ap (view_added 0 0) ew.view ∙ added_after x n body ∙ sym ew.view in
      record {
        run = subst (λ (y : View). Answers v₀ piece (record { view = y; used = used + 2 + n; len = len + a.len }) out₀ (put_mid len (length out - len) out w)) (sym same)
            (one_more-frame s.run n h en room a w (subst (λ (y : View). Responds y n body a buffer w) e ew));
        few = omega arith;
      }
