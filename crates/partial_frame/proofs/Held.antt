-- What is held and the bytes that it is held for: one byte more in both, and the bytes back where the body is kept. Assumes nothing.
use Prim.Native.Nat.{ℕ, suc, ◌+◌, ◌*◌, ◌≤◌}
use mathlib.Core.Path.{◌≡◌, refl, sym, ap, ap₂, ◌∙◌}
use mathlib.Core.List.{List, [], ◌∷◌, ◌++◌}
use mathlib.Core.Bool.{Bool, true, false, cond}
use lib.ListN.{length}
use native.Mathlib.Omega.{arith}
use borrow.Author.Tests.{leb-false}
use Rattle.frames.specs.Frame.{longest_body, body_length, kept, whole}
use Rattle.partial_frame.specs.State.{kept_bytes, places_of, frame_of, empty_frame, bytes_in}
use Rattle.partial_frame.specs.Steps.{after_byte, whole_in}
use Rattle.partial_frame.specs.declared.PartialFrame.{PartialFrame}
use Rattle.partial_frame.proofs.Places.{padded_padded, length_snoc, places_snoc}

pub same_cond : {A : Type 0} (t : Bool) (x : A) → cond t x x ≡ x
same_cond true x = refl
same_cond false x = refl

abbrev with_body : PartialFrame → List ℕ → PartialFrame
with_body s p = record { count = s.count; hi = s.hi; lo = s.lo; body = p }

abbrev pub sized : ℕ → ℕ → ℕ → List ℕ → PartialFrame
sized n a b p = record { count = n; hi = a; lo = b; body = p }

-- the same frame with another count and body
abbrev pub resized : PartialFrame → ℕ → List ℕ → PartialFrame
resized s n p = record { count = n; hi = s.hi; lo = s.lo; body = p }

pub empty_held : frame_of [] ≡ empty_frame
unfolding kept_bytes
empty_held = ap (λ l. with_body (frame_of []) (places_of l)) (same_cond (kept 0) [])

pub byte_held : (h : List ℕ) (b : ℕ) → after_byte (frame_of h) b ≡ frame_of (h ++ (b ∷ []))
unfolding kept_bytes after_byte
byte_held [] b = ap (λ l. with_body (frame_of (b ∷ [])) (places_of l)) (same_cond (kept 0) [] ∙ sym (same_cond (kept (b * 256 + 0)) []))
byte_held (a ∷ []) b = ap (λ l. with_body (frame_of (a ∷ b ∷ [])) (places_of l)) (same_cond (kept (a * 256 + 0)) [] ∙ sym (same_cond (kept (a * 256 + b)) []))
byte_held (a ∷ c ∷ r) b = go (kept (a * 256 + c)) refl
  where
    go : (t : Bool) → kept (a * 256 + c) ≡ t → after_byte (frame_of (a ∷ c ∷ r)) b ≡ frame_of (a ∷ c ∷ (r ++ (b ∷ [])))
    go true e = rw e (ap₂ (λ n p. sized n a c p) (ap (λ n. suc (suc n)) (sym (length_snoc r b))) (places_snoc r b))
    go false e = rw e (ap (λ n. sized n a c (places_of [])) (ap (λ n. suc (suc n)) (sym (length_snoc r b))))

-- short of a whole frame, by the state alone
pub whole_held : (h : List ℕ) → whole h ≡ whole_in (frame_of h)
unfolding whole whole_in
whole_held h = refl

pub recover : (f : List ℕ) → kept (body_length f) ≡ true → length f ≤ 2 + longest_body → bytes_in (frame_of f) ≡ f
unfolding bytes_in kept_bytes places_of
recover [] e h = refl
recover (a ∷ []) e h = refl
recover (a ∷ b ∷ r) e h = rw e (ap {B = List ℕ} (λ l. a ∷ b ∷ l) (padded_padded longest_body r (omega arith)))

-- the byte that completes a frame is its last
pub not_past : (h : List ℕ) (b : ℕ) → whole h ≡ false → length (h ++ (b ∷ [])) ≤ 2 + body_length (h ++ (b ∷ []))
unfolding whole
not_past [] b e = omega arith
not_past (a ∷ []) b e = omega arith
not_past (a ∷ c ∷ r) b e = omega (arith, leb-false (2 + (a * 256 + c)) (suc (suc (length r))) e, length_snoc r b)
