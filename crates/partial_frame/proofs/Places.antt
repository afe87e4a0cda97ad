-- The body places: bytes, and zeros behind them. Assumes nothing.
use Prim.Native.Nat.{ℕ, zero, suc, ◌≤◌}
use mathlib.Core.Path.{◌≡◌, refl, ap, ap₂}
use mathlib.Core.List.{List, [], ◌∷◌, ◌++◌}
use mathlib.Core.Bool.{Bool, true, false, ◌&&◌, false≢true}
use native.Mathlib.Nat.{le_of_suc-le-suc, not-suc-le-zero}
use lib.ListN.{length, set, take, drop}
use lib.Dec.{eqb}
use borrow.Author.Tests.{eqb-true}
use Rattle.partial_frame.specs.State.{padded, all_zero, places_of}
use Rattle.frames.specs.Frame.{longest_body}

pub padded_snoc : (n : ℕ) (bs : List ℕ) (b : ℕ) → set (padded n bs) (length bs) b ≡ padded n (bs ++ (b ∷ []))
padded_snoc zero [] b = refl
padded_snoc zero (c ∷ bs) b = refl
padded_snoc (suc n) [] b = refl
padded_snoc (suc n) (c ∷ bs) b = ap {B = List ℕ} (λ l. c ∷ l) (padded_snoc n bs b)

pub length_padded : (n : ℕ) (bs : List ℕ) → length (padded n bs) ≡ n
length_padded zero bs = refl
length_padded (suc n) [] = ap suc (length_padded n [])
length_padded (suc n) (b ∷ bs) = ap suc (length_padded n bs)

pub padded_padded : (m : ℕ) (bs : List ℕ) → length bs ≤ m → padded (length bs) (padded m bs) ≡ bs
padded_padded m [] h = refl
padded_padded zero (b ∷ bs) h = absurd (not-suc-le-zero h)
padded_padded (suc m) (b ∷ bs) h = ap {B = List ℕ} (λ l. b ∷ l) (padded_padded m bs (le_of_suc-le-suc h))

pub all_zero-nil : (n : ℕ) → all_zero (padded n []) ≡ true
all_zero-nil zero = refl
all_zero-nil (suc n) = all_zero-nil n

-- the places behind the bytes are zero
pub all_zero-padded : (n : ℕ) (bs : List ℕ) → all_zero (drop (length bs) (padded n bs)) ≡ true
all_zero-padded n [] = all_zero-nil n
all_zero-padded zero (b ∷ bs) = refl
all_zero-padded (suc n) (b ∷ bs) = all_zero-padded n bs

pub and_true : (s t : Bool) → s && t ≡ true → (s ≡ true) × (t ≡ true)
and_true true t e = (refl, e)
and_true false t e = (e, absurd (false≢true e))

zero_nil : (p : List ℕ) → all_zero p ≡ true → p ≡ padded (length p) []
zero_nil [] e = refl
zero_nil (b ∷ p) e =
    let h = and_true (eqb b 0) (all_zero p) e in
    ap₂ (λ x l. x ∷ l) (eqb-true b 0 h.0) (zero_nil p h.1)

-- places that are zero from n on are the first n, filled up
pub zero_from : (n : ℕ) (p : List ℕ) → n ≤ length p → all_zero (drop n p) ≡ true → p ≡ padded (length p) (padded n p)
zero_from zero p h e = zero_nil p e
zero_from (suc n) [] h e = absurd (not-suc-le-zero h)
zero_from (suc n) (b ∷ p) h e = ap {B = List ℕ} (λ l. b ∷ l) (zero_from n p (le_of_suc-le-suc h) e)

pub length_places : (bs : List ℕ) → length (places_of bs) ≡ longest_body
unfolding places_of
length_places bs = length_padded longest_body bs

pub length_snoc : (r : List ℕ) (b : ℕ) → length (r ++ (b ∷ [])) ≡ suc (length r)
length_snoc [] b = refl
length_snoc (a ∷ r) b = ap suc (length_snoc r b)

pub places_snoc : (bs : List ℕ) (b : ℕ) → set (places_of bs) (length bs) b ≡ places_of (bs ++ (b ∷ []))
unfolding places_of
places_snoc bs b = padded_snoc longest_body bs b

pub take_padded : (n : ℕ) (bs : List ℕ) → length bs ≤ n → take (length bs) (padded n bs) ≡ bs
take_padded n [] h = refl
take_padded zero (b ∷ bs) h = absurd (not-suc-le-zero h)
take_padded (suc n) (b ∷ bs) h = ap {B = List ℕ} (λ l. b ∷ l) (take_padded n bs (le_of_suc-le-suc h))
