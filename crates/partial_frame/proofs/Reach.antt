-- The test `is_left` is document 01's condition: some run of bytes shorter than a whole frame leaves the state. Assumes nothing.
use Prim.Native.Nat.{ℕ, zero, suc, ◌+◌, ◌*◌, ◌-◌, ◌<◌}
use mathlib.Core.Path.{◌≡◌, refl, sym, ap, ◌∙◌}
use mathlib.Core.Logic.{◌↔◌}
use mathlib.Core.List.{List, [], ◌∷◌}
use mathlib.Core.Bool.{Bool, true, false, cond, ◌&&◌, ◌||◌}
use lib.ListN.{length, drop, get_or, length-drop}
use lib.Dec.{eqb, leb}
use native.Mathlib.Omega.{arith}
use borrow.Author.Tests.{ltb-true, leb-false, lt-ltb, lt-leb, le-leb, eqb-true}
use Rattle.frames.specs.Frame.{longest_body, body_length, kept, whole}
use Rattle.partial_frame.specs.State.{padded, kept_bytes, places_of, frame_of, bytes_in, is_left, filled, all_zero, Left}
use Rattle.partial_frame.specs.declared.PartialFrame.{PartialFrame}
use Rattle.partial_frame.proofs.Places.{length_padded, all_zero-padded, zero_from, and_true, length_places}
use Rattle.frames.proofs.Refusals.{kept_bounds}
use Rattle.partial_frame.proofs.Held.{sized, same_cond}

and_both : {s t : Bool} → s ≡ true → t ≡ true → s && t ≡ true
and_both e h = rw (e, h) refl

hi_held : (h : List ℕ) → leb 1 (length h) || eqb (get_or h 0 0) 0 ≡ true
hi_held [] = refl
hi_held (a ∷ r) = rw (le-leb 1 (suc (length r)) (omega arith)) refl

lo_held : (h : List ℕ) → leb 2 (length h) || eqb (get_or h 1 0) 0 ≡ true
lo_held [] = refl
lo_held (a ∷ []) = refl
lo_held (a ∷ b ∷ r) = rw (le-leb 2 (suc (suc (length r))) (omega arith)) refl

pub filled_held : (h : List ℕ) → filled (frame_of h) ≡ length (kept_bytes h)
unfolding kept_bytes
filled_held h = go (kept (body_length h)) refl
  where
    go : (t : Bool) → kept (body_length h) ≡ t → filled (frame_of h) ≡ length (kept_bytes h)
    go true e = rw e (sym (length-drop 2 h))
    go false e = rw e refl

zero_held : (h : List ℕ) → all_zero (drop (filled (frame_of h)) (places_of (kept_bytes h))) ≡ true
unfolding places_of
zero_held h = rw (filled_held h) (all_zero-padded longest_body (kept_bytes h))

pub reach_held : (h : List ℕ) → whole h ≡ false → is_left (frame_of h) ≡ true
unfolding is_left whole
reach_held h e =
    and_both (and_both (and_both (lt-ltb _ _ (leb-false (2 + body_length h) (length h) e)) (hi_held h)) (lo_held h)) (zero_held h)

or_false : {s t : Bool} → s ≡ false → s || t ≡ true → t ≡ true
or_false e h = rw e at h

four : {n m a b c d : ℕ} {p q : List ℕ} → n ≡ m → a ≡ c → b ≡ d → p ≡ q → sized n a b p ≡ sized m c d q
four e f g h = λ i. sized (e i) (f i) (g i) (h i)

module _ (a b : ℕ) (p : List ℕ) (l : length p ≡ longest_body) where
  Sound : ℕ → Type 0
  Sound n = (whole (bytes_in (sized n a b p)) ≡ false) × (sized n a b p ≡ frame_of (bytes_in (sized n a b p)))

  empty_body : all_zero (drop 0 p) ≡ true → p ≡ places_of []
  unfolding places_of
  empty_body z = zero_from 0 p (omega arith) z ∙ ap (λ (m : ℕ). padded m []) l

  full_body : (n : ℕ) → n < a * 256 + b → (t : Bool) → kept (a * 256 + b) ≡ t → all_zero (drop (cond (kept (a * 256 + b)) (suc (suc n) - 2) 0) p) ≡ true → p ≡ places_of (cond (kept (a * 256 + b)) (padded n p) [])
  unfolding places_of
  full_body n h true k z =
      let m = kept_bounds _ k in
      let d : suc (suc n) - 2 ≡ n = omega arith in
      let z' : all_zero (drop n p) ≡ true = rw (k, d) at z in
      rw k (zero_from n p (omega arith) z' ∙ ap (λ (m : ℕ). padded m (padded n p)) l)
  full_body n h false k z =
      let z' : all_zero (drop 0 p) ≡ true = rw k at z in
      rw k (zero_from 0 p (omega arith) z' ∙ ap (λ (m : ℕ). padded m []) l)

  sound : (n : ℕ) → n < 2 + (a * 256 + b) → leb 1 n || eqb a 0 ≡ true → leb 2 n || eqb b 0 ≡ true → all_zero (drop (filled (sized n a b p)) p) ≡ true → Sound n
  unfolding Sound bytes_in whole kept_bytes
  sound zero h e f z =
      let z' : all_zero (drop 0 p) ≡ true = rw (same_cond {A = ℕ} (kept (a * 256 + b)) 0) at z in
      (refl, four refl (eqb-true a 0 e) (eqb-true b 0 f) (empty_body z' ∙ ap places_of (sym (same_cond {A = List ℕ} (kept 0) []))))
  sound (suc zero) h e f z =
      let z' : all_zero (drop 0 p) ≡ true = rw (same_cond {A = ℕ} (kept (a * 256 + b)) 0) at z in
      (lt-leb (2 + (a * 256 + 0)) 1 (omega arith), four refl refl (eqb-true b 0 f) (empty_body z' ∙ ap places_of (sym (same_cond {A = List ℕ} (kept (a * 256 + 0)) []))))
  sound (suc (suc n)) h e f z = (
    lt-leb (2 + (a * 256 + b)) (suc (suc (length (padded n p)))) (omega (arith, length_padded n p)),
    four (ap (λ (m : ℕ). suc (suc m)) (sym (length_padded n p))) refl refl (full_body n (omega arith) (kept (a * 256 + b)) refl z),
  )

-- a is_left state is that of the bytes that it stands for
pub reach_sound : (s : PartialFrame) → length s.body ≡ longest_body → is_left s ≡ true → (whole (bytes_in s) ≡ false) × (s ≡ frame_of (bytes_in s))
unfolding is_left Sound
reach_sound s l e =
    let h = and_true _ _ e in
    let g = and_true _ _ h.0 in
    let f = and_true _ _ g.0 in
    sound s.hi s.lo s.body l s.count (ltb-true _ _ f.0) f.1 g.1 h.1

pub held_alike : (h : List ℕ) → whole h ≡ false → frame_of (bytes_in (frame_of h)) ≡ frame_of h
held_alike h n = sym (reach_sound (frame_of h) (length_places (kept_bytes h)) (reach_held h n)).1

pub held_unfinished : (h : List ℕ) → whole h ≡ false → whole (bytes_in (frame_of h)) ≡ false
held_unfinished h n = (reach_sound (frame_of h) (length_places (kept_bytes h)) (reach_held h n)).0

-- the test is the document's condition
pub left_test : (s : PartialFrame) → length s.body ≡ longest_body → (is_left s ≡ true) ↔ Left s
left_test s l = ((λ e. let q = reach_sound s l e in (bytes_in s, q.0, q.1)), (λ q. ap is_left q.2 ∙ reach_held q.0 q.1))
