-- The filler of a line, as it is read, and the lines that a good line names. Assumes nothing.
use Prim.Native.Nat.{ℕ, ◌+◌, ◌*◌, ◌≤◌, ◌<◌}
use mathlib.Core.Path.{◌≡◌, refl, sym, ap, ◌∙◌}
use mathlib.Core.List.{List, [], ◌∷◌}
use mathlib.Core.Bool.{Bool, true, false, ◌&&◌}
use native.Mathlib.Omega.{arith}
use lib.ListN.{length, take, drop}
use lib.Dec.{ltb, eqb}
use borrow.Author.Tests.{eq-eqb, ne_eqb, eqb-true, eqb-false, lt-ltb, le-ltb, ltb-true, ltb-false}
use Rattle.words.specs.Bytes.{number_after, number_at}
use Rattle.words.proofs.Numbers.{join}
use Rattle.sheets.specs.Sheet.{all_zero, refusal_of}
use Rattle.std.specs.Prelude.{Some}
use Rattle.sheets.specs.declared.Line.TheVariants.{Sum}

-- ---- the filler, which is read as numbers

-- a number is 0 exactly where all its bytes are
number_zero : (a : ℕ) (bs : List ℕ) → number_after a bs ≡ 0 → (a ≡ 0) × (all_zero bs ≡ true)
number_zero a [] e = (e, refl)
number_zero a (b ∷ bs) e =
    let h = number_zero (a * 256 + b) bs e in
    let z : b ≡ 0 = omega (arith, h.0) in
    (omega (arith, h.0), rw (eq-eqb b 0 z) h.1)

zero_number : (bs : List ℕ) → all_zero bs ≡ true → number_after 0 bs ≡ 0
zero_number [] e = refl
zero_number (b ∷ bs) e = go (eqb b 0) refl e (zero_number bs)
  where
    go : (t : Bool) → eqb b 0 ≡ t → t && all_zero bs ≡ true → (all_zero bs ≡ true → number_after 0 bs ≡ 0) → number_after (0 * 256 + b) bs ≡ 0
    go true f g h = let z = eqb-true b 0 f in ap (λ (n : ℕ). number_after n bs) (omega arith) ∙ h g
    go false f g h = absurd (mathlib.Core.Bool.false≢true g)

number_test : (bs : List ℕ) → eqb (number_after 0 bs) 0 ≡ all_zero bs
number_test bs = go (eqb (number_after 0 bs) 0) (all_zero bs) refl refl
  where
    go : (s t : Bool) → eqb (number_after 0 bs) 0 ≡ s → all_zero bs ≡ t → eqb (number_after 0 bs) 0 ≡ all_zero bs
    go true t e f = e ∙ sym (number_zero 0 bs (eqb-true _ _ e)).1
    go false true e f = absurd (eqb-false _ _ e (zero_number bs f))
    go false false e f = e ∙ sym f

module _ (p : List ℕ) (at : ℕ) (h : at + 6 ≤ length p) where
  six : eqb (number_at 6 p at) 0 ≡ all_zero (take 6 (drop at p))
  unfolding number_at
  six = number_test (take 6 (drop at p))

  pub filler_last : number_at 2 p at ≡ 0 → eqb (number_at 4 p (at + 2)) 0 ≡ all_zero (take 6 (drop at p))
  filler_last e =
      let j = join 2 4 p at (omega arith) in
      let same : number_at 4 p (at + 2) ≡ number_at 6 p at = omega (arith, j) in
      ap (λ (n : ℕ). eqb n 0) same ∙ six

  pub filler_first : (number_at 2 p at ≡ 0 → ⊥) → eqb (number_at 2 p at) 0 ≡ all_zero (take 6 (drop at p))
  filler_first z =
      let j = join 2 4 p at (omega arith) in
      ne_eqb (number_at 2 p at) 0 z ∙ sym (ne_eqb (number_at 6 p at) 0 (λ e. z (omega (arith, j)))) ∙ six

-- ---- the lines that it names

module _ (i first second : ℕ) where
  pub late_first : i ≤ first → refusal_of i (Some (Sum first second)) ≡ 15
  unfolding refusal_of
  late_first h = rw (le-ltb first i h) refl

  pub late_second : first < i → i ≤ second → refusal_of i (Some (Sum first second)) ≡ 15
  unfolding refusal_of
  late_second l h = rw (lt-ltb first i l, le-ltb second i h) refl

  pub names_earlier : refusal_of i (Some (Sum first second)) ≡ 0 → (first < i) × (second < i)
  names_earlier e = go (ltb first i) (ltb second i) refl refl
    where
      go : (s t : Bool) → ltb first i ≡ s → ltb second i ≡ t → (first < i) × (second < i)
      go true true f g = (ltb-true _ _ f, ltb-true _ _ g)
      go true false f g = let h = late_second (ltb-true _ _ f) (ltb-false _ _ g) in absurd (omega arith)
      go false t f g = let h = late_first (ltb-false _ _ f) in absurd (omega arith)
