-- The bytes of a body, taken all at once: those of a body that is kept stand side by side, and of another only their number matters.
-- Assumes nothing.
use Rattle.std.proofs.Common.{ℕ, suc, ◌+◌, ◌-◌, ◌≤◌, ◌<◌, ◌≡◌, refl, sym, ap, ap₂, ◌∙◌, List, [], ◌∷◌, ◌++◌, append_assoc, Bool, true, false, cond, length, take, drop, set, min, arith}
use lib.Dec.{leb}
use lib.Seq.{drop-drop, length-take-le}
use borrow.Author.Tests.{leb-true, leb-false}
use borrow.Rule.Slice.PartMut.{put_mid}
use Rattle.std.proofs.lemmas.List.Edits.{sets-eq}
use Rattle.std.proofs.Math.Seq.{sets}
use Rattle.frames.specs.Frame.{kept}
use Rattle.frames.proofs.Refusals.{kept_bounds}
use Rattle.partial_frame.specs.State.{length_in}
use Rattle.partial_frame.specs.Steps.{after_byte, whole_in, further, advance}
use Rattle.partial_frame.specs.declared.PartialFrame.{PartialFrame}
use Rattle.partial_frame.proofs.Held.{resized, same_cond}
use Rattle.partial_frame.proofs.Loops.{byte_late, short_count, short_at, full_at}

-- with these bytes of the body behind those that have come
abbrev pub placed : PartialFrame → List ℕ → PartialFrame
placed s bytes = resized s (s.count + length bytes) (cond (kept (length_in s)) (sets s.body (s.count - 2) bytes) s.body)

placed_none : (s : PartialFrame) → s ≡ placed s []
placed_none s = ap₂ (λ (n : ℕ) p. resized s n p) (omega arith) (sym (same_cond (kept (length_in s)) s.body))

placed_more : (s : PartialFrame) (b : ℕ) (bytes : List ℕ) → 2 ≤ s.count → placed (placed s (b ∷ [])) bytes ≡ placed s (b ∷ bytes)
placed_more s b bytes h = go (kept (length_in s)) refl
  where
    go : (t : Bool) → kept (length_in s) ≡ t → placed (placed s (b ∷ [])) bytes ≡ placed s (b ∷ bytes)
    go true k =
        rw k
        (ap₂ (λ (n i : ℕ). resized s n (sets (set s.body (s.count - 2) b) i bytes)) (omega arith) (omega arith))
    go false k = rw k (ap (λ (n : ℕ). resized s n s.body) (omega arith))

-- up to the end of the frame or of the piece
taken : (p : List ℕ) (s : PartialFrame) → 2 ≤ s.count → s.count < 2 + length_in s → (n : ℕ) → n ≡ min (2 + length_in s - s.count) (length p)
    → advance s p ≡ record { frame = placed s (take n p); used = n }
taken [] s h l n e =
    let z : n ≡ 0 = omega arith in
    rw z (ap (λ (f : PartialFrame). record { frame = f; used = 0 }) (placed_none s))
taken (b ∷ p) s h l n e = go (leb (2 + length_in s) (s.count + 1)) refl (taken p x (omega arith))
  where
    x : PartialFrame
    x = placed s (b ∷ [])

    stepped : after_byte s b ≡ x
    stepped = byte_late s b h

    go : (t : Bool) → leb (2 + length_in s) (s.count + 1) ≡ t
        → (s.count + 1 < 2 + length_in s → (m : ℕ) → m ≡ min (2 + length_in s - (s.count + 1)) (length p) → advance x p ≡ record { frame = placed x (take m p); used = m })
        → advance s (b ∷ p) ≡ record { frame = placed s (take n (b ∷ p)); used = n }
    go true t r =
        let z : n ≡ 1 = omega (arith, leb-true (2 + length_in s) (s.count + 1) t) in
        rw (stepped, full_at x (leb-true (2 + length_in s) (s.count + 1) t), z) refl
    go false t r =
        let f = leb-false (2 + length_in s) (s.count + 1) t in
        let z : n ≡ suc (n - 1) = omega arith in
        let u : 1 + (n - 1) ≡ suc (n - 1) = omega arith in
        rw (stepped, short_at x f, z) (ap (further 1) (r f (n - 1) (omega arith)) ∙ (λ i. record { frame = placed_more s b (take (n - 1) p) h i; used = u i }))

module _ (s : PartialFrame) (p : List ℕ) (w : whole_in s ≡ false) (h : 2 ≤ s.count) (n : ℕ) (e : n ≡ min (length p) (length_in s - (s.count - 2))) where
  taken_all : advance s p ≡ record { frame = placed s (take n p); used = n }
  taken_all = taken p s h (short_count s w) n (omega (arith, short_count s w))

  taken_length : length (take n p) ≡ n
  taken_length = length-take-le n p (omega arith)

  pub taken_kept : kept (length_in s) ≡ true → length s.body ≡ 514
      → record { frame = resized s (s.count + n) (put_mid (s.count - 2) n s.body (take n p)); used = n } ≡ advance s p
  taken_kept k l =
      let i = s.count - 2 in
      let room : i + length (take n p) ≤ length s.body = omega (arith, taken_length, (kept_bounds _ k).1, short_count s w) in
      let q : put_mid i n s.body (take n p) ≡ sets s.body i (take n p) =
      ap (λ (d : List ℕ). take i s.body ++ (take n p ++ d)) (drop-drop n i s.body ∙ ap (λ (m : ℕ). drop (i + m) s.body) (sym taken_length))
      ∙ sym (append_assoc (take i s.body) (take n p) (drop (i + length (take n p)) s.body))
      ∙ sym (sets-eq (take n p) s.body i room)
      in
      (λ j. record { frame = resized s (s.count + sym taken_length j) (q j); used = n }) ∙ sym (taken_all ∙ rw k refl)

  pub taken_skipped : kept (length_in s) ≡ false → record { frame = resized s (s.count + n) s.body; used = n } ≡ advance s p
  taken_skipped k = (λ j. record { frame = resized s (s.count + sym taken_length j) s.body; used = n }) ∙ sym (taken_all ∙ rw k refl)
