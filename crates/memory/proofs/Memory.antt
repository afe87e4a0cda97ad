-- What is shown goes on by what is shown alone. Assumes nothing.
use Prim.Native.Nat.{ℕ, ◌+◌, ◌≤◌}
use mathlib.Core.Path.{◌≡◌, refl, sym, ap, ap₂, ◌∙◌}
use mathlib.Core.List.{List}
use mathlib.Core.Bool.{true}
use native.Mathlib.Omega.{arith}
use Rattle.std.specs.Prelude.{Result}
use Rattle.frames.specs.Frame.{refusal_to}
use Rattle.frames.specs.Numbers.{numbered}
use Rattle.frames.specs.declared.Kind.{Kind}
use Rattle.frames.specs.declared.Refusal.{Refusal}
use Rattle.frames.proofs.Refusals.{refusal_by}
use Rattle.counts.specs.Counts.{is_accepted, is_refused, one_if, most, stopped, added, shown_next}
use Rattle.counts.specs.declared.Counts.{Counts}
use Rattle.counts.proofs.Shown.{shown_next_lem, added_more, next_accepted, next_refused}
use Rattle.answers.specs.Answers.{answer_of}
use Rattle.answers.specs.Written.{Written}
use Rattle.answers.proofs.Answers.{answer_refusal}
use Rattle.memory.specs.Memory.{Memory, view_of, Sized, answer_with, remembered, answer_by, view_by, view_added, view_with}
use Rattle.memory.specs.Answers.{Answers}
use Rattle.memory.specs.declared.View.{View}

abbrev pub showing : Counts → View
showing c = record { counts = c }

-- after a whole frame
pub view_after : (f : List ℕ) (m : Memory) → view_of (remembered f (answer_with (view_of m) f) m) ≡ view_with (view_of m) f
unfolding answer_of
view_after f m = ap showing (shown_next_lem (answer_with (view_of m) f).number m)

-- the counts go on by the refusal
pub view_by_lem : (v : View) (n : ℕ) (body : List ℕ) {k : ℕ} {c : Counts} → k ≡ refusal_to n body → c ≡ shown_next k v.counts → showing c ≡ view_by v n body
view_by_lem v n body e c = ap showing (c ∙ ap (λ (m : ℕ). shown_next m v.counts) (e ∙ sym (answer_refusal v.counts n body)))

-- the answer is written, and what follows from its refusal
pub responds : (v : View) (n : ℕ) (body : List ℕ) {o : Result Kind Refusal} {len : ℕ} {c : Counts} {before after : List ℕ} → numbered o ≡ refusal_to n body
    → c ≡ shown_next (numbered o) v.counts → Written (answer_by v n body) len before after → Answers v n body (record { view = showing c; len = len; outcome = o }) before after
responds v n body e f w = record { written = w; number = e ∙ sym (answer_refusal v.counts n body); view = view_by_lem v n body e f }

-- ---- frames that are counted later

-- every refusal of a sender counts
refused_counts : (n : ℕ) (body : List ℕ) → (refusal_to n body ≡ 0 → ⊥) → is_refused (refusal_to n body) ≡ true
unfolding is_refused
refused_counts n body =
    refusal_by (λ (k : ℕ). (k ≡ 0 → ⊥) → is_refused k ≡ true) (λ z. absurd (z refl)) (λ z. refl) (λ z. refl) (λ z. refl) (λ z. refl) (λ z. refl) (λ z. refl) (λ z. refl) (λ z. refl) n body

pub added_none : (v : View) → Sized v → view_added 0 0 v ≡ v
unfolding stopped
added_none v s =
    let a = s.accepted in
    let r = s.refused in
    let t = s.total in
    let same : (n : ℕ) → n ≤ most → stopped (n + 0) ≡ n = (λ n h. omega arith) in
    λ i. showing (record { accepted = same v.counts.accepted a i; refused = same v.counts.refused r i; total = same v.counts.total t i })

module _ (v : View) (n : ℕ) (body : List ℕ) where
  pub added_after : view_added 0 0 (view_by v n body) ≡ view_by v n body
  added_after =
      let i = one_if (is_accepted (answer_by v n body).number) 0 in
      let j = one_if (is_refused (answer_by v n body).number) 0 in
      ap showing (added_more i j 0 0 v.counts ∙ ap₂ (λ (k l : ℕ). added k l v.counts) (omega arith) (omega arith))

module _ (i j : ℕ) (v : View) (n : ℕ) (body : List ℕ) where
  abbrev w : View
  w = view_added i j v

  pub added_refused : (refusal_to n body ≡ 0 → ⊥) → view_by w n body ≡ view_added i (j + 1) v
  added_refused z =
      sym (view_by_lem w n body refl refl)
      ∙ ap showing (next_refused w.counts z (refused_counts n body z) ∙ added_more i j 0 1 v.counts ∙ ap (λ (k : ℕ). added k (j + 1) v.counts) (omega arith))

  pub added_accepted : refusal_to n body ≡ 0 → view_by w n body ≡ view_added (i + 1) j v
  added_accepted z =
      sym (view_by_lem w n body refl refl)
      ∙ ap showing (next_accepted w.counts z ∙ added_more i j 1 0 v.counts ∙ ap (λ (k : ℕ). added (i + 1) k v.counts) (omega arith))
