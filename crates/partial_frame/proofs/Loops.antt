-- One turn of the loops that go through a piece or over the body places. Assumes nothing.
use Prim.Native.Nat.{ℕ, zero, suc, ◌+◌, ◌*◌, ◌-◌, ◌≤◌, ◌<◌}
use mathlib.Core.Path.{◌≡◌, refl, sym, ap, ◌∙◌}
use mathlib.Core.List.{List, [], ◌∷◌}
use mathlib.Core.Bool.{Bool, true, false, true≢false, cond, ◌&&◌}
use lib.ListN.{length, set, take, drop, length-drop, get_or}
use lib.Seq.{drop-cons}
use Rattle.std.proofs.Common.{max}
use Rattle.std.specs.List.{fold}
use Rattle.std.proofs.Math.Seq.{take-length}
use borrow.Rule.Slice.PartMut.{mid_of}
use lib.Dec.{eqb, ltb}
use native.Mathlib.Numerals.{add-one}
use native.Mathlib.Nat.{not-suc-le-zero, le_of_suc-le-suc}
use native.Mathlib.Omega.{arith}
use borrow.Author.Tests.{leb-true, leb-false, lt-ltb, le-ltb, lt-leb, le-leb, ne_eqb}
use Rattle.frames.specs.Frame.{kept}
use Rattle.frames.proofs.Refusals.{kept_bounds}
use Rattle.partial_frame.specs.State.{length_in, filled, all_zero, is_left}
use Rattle.partial_frame.specs.Steps.{after_byte, whole_in, lengths_left, further, advance}
use Rattle.partial_frame.specs.declared.PartialFrame.{PartialFrame}
use Rattle.partial_frame.specs.Steps.{Progress}
use Rattle.partial_frame.proofs.Held.{sized, resized}

and_assoc : (s t u : Bool) → (s && t) && u ≡ s && (t && u)
and_assoc true t u = refl
and_assoc false t u = refl

and_false : (t : Bool) → t && false ≡ false
and_false true = refl
and_false false = refl

-- the greatest byte is 0 exactly where all are
zero_max : (a b : ℕ) → eqb (max a b) 0 ≡ eqb a 0 && eqb b 0
zero_max zero b = let e : max 0 b ≡ b = omega arith in ap (λ (n : ℕ). eqb n 0) e
zero_max (suc a) b =
    rw (ne_eqb (suc a) 0 (λ e. let w : ⊥ = omega arith in w)) (ne_eqb (max (suc a) b) 0 (λ e. let w : ⊥ = omega arith in w))

zero_fold : (a : ℕ) (bytes : List ℕ) → eqb (fold max a bytes) 0 ≡ eqb a 0 && all_zero bytes
zero_fold a [] = sym (and_right (eqb a 0))
  where
    and_right : (t : Bool) → t && true ≡ t
    and_right true = refl
    and_right false = refl
zero_fold a (b ∷ bytes) = rw (zero_fold (max a b) bytes, zero_max a b) (and_assoc (eqb a 0) (eqb b 0) (all_zero bytes))

pub zero_greatest : (bytes : List ℕ) → eqb (fold max 0 bytes) 0 ≡ all_zero bytes
zero_greatest bytes = zero_fold 0 bytes

-- the part from a place on
pub rest_of : (i : ℕ) (p : List ℕ) → length p ≡ 514 → mid_of i (514 - i) p ≡ drop i p
rest_of i p l = let e : 514 - i ≡ length (drop i p) = omega (arith, length-drop i p) in ap (λ (n : ℕ). take n (drop i p)) e ∙ take-length (drop i p)

-- a byte of the body
late : (n a b c : ℕ) (p : List ℕ) → 2 ≤ n → after_byte (sized n a b p) c ≡ sized (n + 1) a b (cond (kept (a * 256 + b)) (set p (n - 2) c) p)
unfolding after_byte
late zero a b c p h = absurd (not-suc-le-zero h)
late (suc zero) a b c p h = absurd (not-suc-le-zero (le_of_suc-le-suc h))
late (suc (suc n)) a b c p h =
    let d : suc (suc n) - 2 ≡ n = omega arith in
    let e : suc (suc n) + 1 ≡ suc (suc (suc n)) = omega arith in
    rw (d, e) refl

pub byte_late : (s : PartialFrame) (b : ℕ) → 2 ≤ s.count → after_byte s b ≡ resized s (s.count + 1) (cond (kept (length_in s)) (set s.body (s.count - 2) b) s.body)
byte_late s b h = late s.count s.hi s.lo b s.body h

pub short_count : (s : PartialFrame) → whole_in s ≡ false → s.count < 2 + length_in s
unfolding whole_in
short_count s e = leb-false _ _ e

pub advance_none : (s : PartialFrame) (p : List ℕ) → advance s p ≡ further 0 (advance s p)
advance_none s p = ap (λ (n : ℕ). record { frame = (advance s p).frame; used = n }) (omega arith)

pub advance_on : (s : PartialFrame) (p : List ℕ) (i : ℕ) → i < length p → whole_in (after_byte s (get_or p i 0)) ≡ false
    → further i (advance s (drop i p)) ≡ further (i + 1) (advance (after_byte s (get_or p i 0)) (drop (i + 1) p))
advance_on s p i h e =
    rw (add-one i, drop-cons p i 0 h, e) (ap (λ (n : ℕ). record { frame = q.frame; used = n }) (omega arith))
  where
    q : Progress
    q = advance (after_byte s (get_or p i 0)) (drop (suc i) p)

pub advance_full : (s : PartialFrame) (p : List ℕ) (i : ℕ) → i < length p → whole_in (after_byte s (get_or p i 0)) ≡ true
    → further i (advance s (drop i p)) ≡ record { frame = after_byte s (get_or p i 0); used = i + 1 }
advance_full s p i h e = rw (drop-cons p i 0 h, e) refl

pub short_test : (s : PartialFrame) → whole_in s ≡ false → ltb s.count (2 + length_in s) ≡ true
short_test s e = lt-ltb _ _ (short_count s e)

pub full_test : (s : PartialFrame) → whole_in s ≡ true → ltb s.count (2 + length_in s) ≡ false
unfolding whole_in
full_test s e = le-ltb s.count (2 + length_in s) (leb-true (2 + length_in s) s.count e)

-- the test `is_left`, conjunct by conjunct
module _ (s : PartialFrame) where
  abbrev A : Bool
  A = ltb s.count (2 + length_in s)

  abbrev Z : Bool
  Z = all_zero (drop (filled s) s.body)

  in_order : is_left s ≡ (A && lengths_left s) && Z
  unfolding is_left
  in_order = ap (λ (t : Bool). t && Z) (and_assoc A _ _)

  pub left_long : whole_in s ≡ true → is_left s ≡ false
  left_long e = in_order ∙ rw (full_test s e) refl

  pub left_lengths : lengths_left s ≡ false → is_left s ≡ false
  left_lengths e = in_order ∙ ap (λ (t : Bool). (A && t) && Z) e ∙ ap (λ (t : Bool). t && Z) (and_false A)

  pub left_body : whole_in s ≡ false → lengths_left s ≡ true → is_left s ≡ Z
  left_body e f = in_order ∙ ap (λ (t : Bool). (A && t) && Z) f ∙ ap (λ (t : Bool). (t && true) && Z) (short_test s e)

  -- the places that are filled are there
  pub filled_within : whole_in s ≡ false → filled s ≤ 514
  filled_within e = go (kept (length_in s)) refl
    where
      go : (t : Bool) → kept (length_in s) ≡ t → filled s ≤ 514
      go true k = rw k (omega (arith, (kept_bounds _ k).1, short_count s e))
      go false k = rw k (omega arith)

pub full_at : (s : PartialFrame) → 2 + length_in s ≤ s.count → whole_in s ≡ true
unfolding whole_in
full_at s h = le-leb (2 + length_in s) s.count h

pub short_at : (s : PartialFrame) → s.count < 2 + length_in s → whole_in s ≡ false
unfolding whole_in
short_at s h = lt-leb (2 + length_in s) s.count h

-- one turn of a loop that goes through a piece, where x is the state after the byte
module _ (s x : PartialFrame) (p : List ℕ) (i : ℕ) (h : i < length p) (e : x ≡ after_byte s (get_or p i 0)) {A : Progress} (a : A ≡ further i (advance s (drop i p))) where
  pub turn_on : whole_in x ≡ false → A ≡ further (i + 1) (advance x (drop (i + 1) p))
  turn_on f = a ∙ advance_on s p i h (ap whole_in (sym e) ∙ f) ∙ ap (λ (y : PartialFrame). further (i + 1) (advance y (drop (i + 1) p))) (sym e)

  pub turn_full : whole_in x ≡ true → record { frame = x; used = i + 1 } ≡ A
  turn_full f =
      ap (λ (y : PartialFrame). record { frame = y; used = i + 1 }) e
      ∙ sym (a ∙ advance_full s p i h (ap whole_in (sym e) ∙ f))

-- some bytes of a piece are used: the frame is whole, or the steps go on behind them
pub record Begins (s₀ : PartialFrame) (piece : List ℕ) (s : PartialFrame) (used : ℕ) : Type 0 where
  pub ended : whole_in s ≡ true → record { frame = s; used = used } ≡ advance s₀ piece
  pub goes_on : whole_in s ≡ false → advance s₀ piece ≡ further used (advance s (drop used piece))

pub begins : (s : PartialFrame) (piece : List ℕ) → whole_in s ≡ false → Begins s piece s 0
begins s piece w = record { ended = λ e. absurd (true≢false (sym e ∙ w)); goes_on = λ e. advance_none s piece }

-- one length byte more
pub begins_more : (s₀ : PartialFrame) (piece : List ℕ) (s x : PartialFrame) (used : ℕ) → Begins s₀ piece s used → s.count < 2 → used < length piece
    → x ≡ after_byte s (get_or piece used 0) → Begins s₀ piece x (used + 1)
begins_more s₀ piece s x used g h i e =
    let a = g.goes_on (short_at s (omega arith)) in
    record { ended = turn_full s x piece used i e a; goes_on = turn_on s x piece used i e a }
