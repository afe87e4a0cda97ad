-- The answer to a frame: which it is, how long it is, and what is written of it. Assumes nothing.
use Prim.Native.Nat.{ℕ, suc, ◌+◌, ◌*◌, ◌-◌, ◌/◌, ◌%◌, ◌≤◌}
use mathlib.Core.Path.{◌≡◌, refl, sym, ap, subst, ◌∙◌}
use mathlib.Core.List.{List, [], ◌∷◌, ◌++◌}
use mathlib.Core.Bool.{Bool, true, false}
use native.Mathlib.Omega.{arith}
use lib.ListN.{length, get_or, take, drop}
use lib.Dec.{eqb, ltb}
use borrow.Author.Tests.{eq-eqb, ne_eqb, eqb-true, eqb-false, ltb-true, ltb-false}
use borrow.Rule.Slice.PartMut.{put_mid}
use Rattle.words.proofs.Parts.{put_behind}
use Rattle.frames.specs.Frame.{longest_body, answer_room, body_length, kept, item_count, refusal_to, refusal_frame}
use Rattle.frames.proofs.Items.{items_fit}
use Rattle.frames.proofs.Refusals.{bounds_kept, too_short, too_long, good_length}
use Rattle.counts.specs.Counts.{report_of}
use Rattle.counts.specs.declared.Counts.{Counts}
use Rattle.counts.proofs.Written.{length_report}
use Rattle.answers.specs.Answers.{Answer, answer_frame, accepting, refusing, items_in, accepted, answer_to, answer_of, is_report}
use Rattle.answers.specs.Written.{Written}
use Rattle.answers.proofs.Results.{length_results}

pub answer_good : (c : Counts) (n : ℕ) (b : List ℕ) → refusal_to n b ≡ 0 → answer_to c n b ≡ accepting (accepted c n b)
unfolding answer_to
answer_good c n b e = rw (eq-eqb (refusal_to n b) 0 e) refl

pub answer_bad : (c : Counts) (n : ℕ) (b : List ℕ) {k : ℕ} → k ≡ refusal_to n b → (k ≡ 0 → ⊥) → answer_to c n b ≡ refusing k
unfolding answer_to
answer_bad c n b {k} e z = rw (← e, ne_eqb k 0 z) refl

pub answer_report : (c : Counts) (n : ℕ) (b : List ℕ) → refusal_to n b ≡ 0 → get_or b 1 0 ≡ 4 → answer_to c n b ≡ accepting (report_of c)
unfolding answer_to accepted
answer_report c n b r e = rw (eq-eqb (refusal_to n b) 0 r, eq-eqb (get_or b 1 0) 4 e) refl

pub answer_items : (c : Counts) (n : ℕ) (b : List ℕ) → refusal_to n b ≡ 0 → (get_or b 1 0 ≡ 4 → ⊥) → answer_to c n b ≡ accepting (items_in n b)
unfolding answer_to accepted
answer_items c n b r e = rw (eq-eqb (refusal_to n b) 0 r, ne_eqb (get_or b 1 0) 4 e) refl

-- an answer has at least four bytes, no more than there is room for, and no more than seven times its frame, which a report has
pub answer_length : (c : Counts) (n : ℕ) (b : List ℕ) → (4 ≤ length (answer_to c n b).bytes) × (length (answer_to c n b).bytes ≤ answer_room) × (length (answer_to c n b).bytes ≤ 7 * (2 + n))
unfolding items_in
answer_length c n b = go (eqb (refusal_to n b) 0) (eqb (get_or b 1 0) 4) refl refl
  where
    go : (t r : Bool) → eqb (refusal_to n b) 0 ≡ t → eqb (get_or b 1 0) 4 ≡ r → (4 ≤ length (answer_to c n b).bytes) × (length (answer_to c n b).bytes ≤ answer_room) × (length (answer_to c n b).bytes ≤ 7 * (2 + n))
    go true true e k =
        let g = good_length n b (eqb-true _ _ e) in
        let l = ap (λ (a : Answer). length a.bytes) (answer_report c n b (eqb-true _ _ e) (eqb-true _ _ k)) in
        let m = length_report c in
        (omega arith, omega arith, omega arith)
    go true false e k =
        let g = good_length n b (eqb-true _ _ e) in
        let l = ap (λ (a : Answer). length a.bytes) (answer_items c n b (eqb-true _ _ e) (eqb-false _ _ k)) in
        let r = length_results (get_or b 1 0) (item_count (get_or b 1 0) (n - 2)) (drop 2 b) in
        let m = items_fit (get_or b 1 0) (n - 2) in
        (omega arith, omega arith, omega arith)
    go false r e k =
        let l = ap (λ (a : Answer). length a.bytes) (answer_bad c n b {k = refusal_to n b} refl (eqb-false _ _ e)) in
        (omega arith, omega arith, omega arith)

-- the number is the refusal's, whatever the counts
pub answer_refusal : (c : Counts) (n : ℕ) (b : List ℕ) → (answer_to c n b).number ≡ refusal_to n b
answer_refusal c n b = go (eqb (refusal_to n b) 0) refl
  where
    go : (t : Bool) → eqb (refusal_to n b) 0 ≡ t → (answer_to c n b).number ≡ refusal_to n b
    go true e = ap (λ (a : Answer). a.number) (answer_good c n b (eqb-true _ _ e)) ∙ sym (eqb-true _ _ e)
    go false e = ap (λ (a : Answer). a.number) (answer_bad c n b {k = refusal_to n b} refl (eqb-false _ _ e))

-- and it is the fourth byte
pub answer_code : (c : Counts) (n : ℕ) (b : List ℕ) → get_or (answer_to c n b).bytes 3 0 ≡ (answer_to c n b).number
unfolding answer_to accepted
answer_code c n b = go (eqb (refusal_to n b) 0) refl
  where
    go : (t : Bool) → eqb (refusal_to n b) 0 ≡ t → get_or (answer_to c n b).bytes 3 0 ≡ (answer_to c n b).number
    go true e = rw e refl
    go false e = rw e refl

-- only an accepted report has an answer that the counts decide
pub answer_uncounted : (c d : Counts) (f : List ℕ) → is_report f ≡ false → answer_of c f ≡ answer_of d f
unfolding is_report answer_of answer_to accepted
answer_uncounted c d f = go (eqb (refusal_to (body_length f) (drop 2 f)) 0) (eqb (get_or (drop 2 f) 1 0) 4) refl refl
  where
    go : (t r : Bool) → eqb (refusal_to (body_length f) (drop 2 f)) 0 ≡ t → eqb (get_or (drop 2 f) 1 0) 4 ≡ r → is_report f ≡ false → answer_of c f ≡ answer_of d f
    go true true e k = rw (e, k) (λ z. absurd (mathlib.Core.Bool.true≢false z))
    go true false e k = rw (e, k) (λ z. refl)
    go false r e k = rw e (λ z. refl)

-- a body whose length is not kept is answered by its length alone
pub answer_by-length : (c : Counts) (n : ℕ) (b d : List ℕ) → kept n ≡ false → answer_to c n b ≡ answer_to c n d
answer_by-length c n b d e = low (ltb n 2) refl
  where
    same : (k : ℕ) → refusal_to n b ≡ suc k → refusal_to n d ≡ suc k → answer_to c n b ≡ answer_to c n d
    same k f g = answer_bad c n b (sym f) (λ z. let w : ⊥ = omega arith in w) ∙ sym (answer_bad c n d (sym g) (λ z. let w : ⊥ = omega arith in w))

    high : (t : Bool) → ltb longest_body n ≡ t → 2 ≤ n → answer_to c n b ≡ answer_to c n d
    high true h l = same 1 (too_long n b l (ltb-true _ _ h)) (too_long n d l (ltb-true _ _ h))
    high false h l = absurd (mathlib.Core.Bool.true≢false (sym (bounds_kept l (ltb-false _ _ h)) ∙ e))

    low : (t : Bool) → ltb n 2 ≡ t → answer_to c n b ≡ answer_to c n d
    low true i = same 0 (too_short n b (ltb-true _ _ i)) (too_short n d (ltb-true _ _ i))
    low false i = high (ltb longest_body n) refl (ltb-false _ _ i)

-- the same answer, written
pub written_as : {a b : Answer} {n : ℕ} {before after : List ℕ} → a ≡ b → Written a n before after → Written b n before after
written_as {a} {b} {n} {before} {after} e w = subst (λ (x : Answer). Written x n before after) e w

pub refusal_written : (c : Counts) (n : ℕ) (b before after : List ℕ) {k len : ℕ} → k ≡ refusal_to n b → (k ≡ 0 → ⊥) → len ≡ 4 → after ≡ refusal_frame k ++ drop 4 before
    → Written (answer_to c n b) len before after
refusal_written c n b before after {k} {len} e z l w = written_as (sym (answer_bad c n b e z)) (record { len = l; buffer = w })

-- a head for so many bytes, and what is written behind it
pub results_written : (results before a₁ w : List ℕ) (size : ℕ) → size ≡ 2 + length results
    → a₁ ≡ size / 256 ∷ size % 256 ∷ 1 ∷ 0 ∷ drop 4 before
    → w ≡ results ++ drop (length results) (take (length a₁ - 4) (drop 4 a₁))
    → Written (accepting results) (size + 2) before (put_mid 4 (length a₁ - 4) a₁ w)
results_written results before a₁ w size l ea ew =
    let front = size / 256 ∷ size % 256 ∷ 1 ∷ 0 ∷ [] in
    let put = put_behind 4 (length results) a₁ before front results w refl ea ew in
    let long : 4 + length results ≡ length (answer_frame results) = omega arith in
    record { len = omega arith; buffer = put ∙ (λ j. l j / 256 ∷ l j % 256 ∷ 1 ∷ 0 ∷ (results ++ drop (long j) before)) }
