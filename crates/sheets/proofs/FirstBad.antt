-- The scan of a sheet's lines gives the number that decides. Assumes nothing.
use Prim.Native.Nat.{ℕ, zero, suc, ◌+◌, ◌-◌, ◌<◌}
use mathlib.Core.Path.{◌≡◌, refl, sym, ap, subst, ◌∙◌}
use mathlib.Core.List.{List}
use mathlib.Core.Bool.{Bool, true, false, cond, ◌&&◌}
use native.Mathlib.Nat.{zero-add, suc-add}
use native.Mathlib.Omega.{arith}
use lib.Dec.{ltb, eqb}
use borrow.Author.Tests.{ltb-true, ltb-false, eqb-true, eqb-false}
use Rattle.sheets.specs.Sheet.{line_of, refusal_of, or_else, first_refusal, line_count, sheet_refusal}
use Rattle.std.specs.Prelude.{Option, Some, None}
use Rattle.sheets.specs.declared.Line.{Line}
use Rattle.sheets.specs.declared.Line.TheVariants.{Weight, Sum}
use Rattle.sheets.specs.FirstBad.{refusal_at, Decides, good, bad, FirstBad}

or_good : {m n : ℕ} → m ≡ 0 → or_else m n ≡ n
or_good {m} {n} e = ap (λ (k : ℕ). or_else k n) e

pub or_bad : (m n : ℕ) → (m ≡ 0 → ⊥) → or_else m n ≡ m
or_bad zero n z = absurd (z refl)
or_bad (suc m) n z = refl

-- one line more, behind good ones and behind a bad one
pub scan_good : (p : List ℕ) (n : ℕ) → first_refusal p n ≡ 0 → first_refusal p (suc n) ≡ refusal_at p n
unfolding first_refusal
scan_good p n e = or_good e

scan_bad : (p : List ℕ) (n : ℕ) → (first_refusal p n ≡ 0 → ⊥) → first_refusal p (suc n) ≡ first_refusal p n
unfolding first_refusal
scan_bad p n z = or_bad _ _ z

-- behind a bad line nothing changes the number
scan_ends : (p : List ℕ) (n d : ℕ) → (first_refusal p n ≡ 0 → ⊥) → first_refusal p (d + n) ≡ first_refusal p n
scan_ends p n zero z = ap (first_refusal p) (zero-add n)
scan_ends p n (suc d) z =
    let h = scan_ends p n d z in
    ap (first_refusal p) (suc-add d n) ∙ scan_bad p (d + n) (λ e. z (sym h ∙ e)) ∙ h

-- a scan that stops at a bad line behind good ones has the sheet's refusal
pub scan_stops : (p : List ℕ) (i : ℕ) {r : ℕ} → i < line_count p → first_refusal p i ≡ 0 → r ≡ refusal_at p i → (r ≡ 0 → ⊥) → r ≡ sheet_refusal p
unfolding sheet_refusal
scan_stops p i {r} h g e z =
    let here : first_refusal p (suc i) ≡ r = scan_good p i g ∙ sym e in
    let d = line_count p - suc i in
    let k : d + suc i ≡ line_count p = omega arith in
    sym here ∙ sym (scan_ends p (suc i) d (λ w. z (sym here ∙ w))) ∙ ap (first_refusal p) k

-- below suc n is n or below n
below : (i n : ℕ) (P : ℕ → Type 0) → i < suc n → ((j : ℕ) → j < n → P j) → P n → P i
below i n P h f x = go (ltb i n) refl
  where
    go : (t : Bool) → ltb i n ≡ t → P i
    go true e = f i (ltb-true i n e)
    go false e = let l = ltb-false i n e in subst P (omega arith) x

more : (p : List ℕ) (n : ℕ) {r : ℕ} → Decides p n r → (r ≡ 0 → ⊥) → Decides p (suc n) r
more p n (good g) z = absurd (z refl)
more p n (bad i h b g) z = bad i (omega arith) b g

scan_decides : (p : List ℕ) (n : ℕ) → Decides p n (first_refusal p n)
unfolding first_refusal
scan_decides p zero = good (λ i h. absurd (omega arith))
scan_decides p (suc n) = go (eqb (first_refusal p n) 0) (eqb (refusal_at p n) 0) refl refl (scan_decides p n)
  where
    last : (r : ℕ) → r ≡ 0 → Decides p n r → (b : Bool) → eqb (refusal_at p n) 0 ≡ b → Decides p (suc n) (refusal_at p n)
    last r z (bad i h b g) t f = absurd (b z)
    last r z (good g) true f = subst (Decides p (suc n)) (sym (eqb-true _ _ f)) (good (λ i h. below i n (λ (j : ℕ). refusal_at p j ≡ 0) h g (eqb-true _ _ f)))
    last r z (good g) false f = bad n (omega arith) (eqb-false _ _ f) g

    go : (s t : Bool) → eqb (first_refusal p n) 0 ≡ s → eqb (refusal_at p n) 0 ≡ t → Decides p n (first_refusal p n) → Decides p (suc n) (first_refusal p (suc n))
    go true t e f d = subst (Decides p (suc n)) (sym (scan_good p n (eqb-true _ _ e))) (last (first_refusal p n) (eqb-true _ _ e) d t f)
    go false t e f d = subst (Decides p (suc n)) (sym (scan_bad p n (eqb-false _ _ e))) (more p n d (eqb-false _ _ e))

-- two numbers that decide are the same: of two least bad lines neither is before the other
one_decides : (p : List ℕ) (n : ℕ) {r s : ℕ} → Decides p n r → Decides p n s → r ≡ s
one_decides p n (good g) (good h) = refl
one_decides p n (good g) (bad i l b h) = absurd (b (g i l))
one_decides p n (bad i l b h) (good g) = absurd (b (g i l))
one_decides p n (bad i l b g) (bad j m c h) = go (ltb i j) (ltb j i) refl refl
  where
    go : (s t : Bool) → ltb i j ≡ s → ltb j i ≡ t → refusal_at p i ≡ refusal_at p j
    go true t e f = absurd (b (h i (ltb-true i j e)))
    go false true e f = absurd (c (g j (ltb-true j i f)))
    go false false e f = let x = ltb-false i j e in let y = ltb-false j i f in ap (refusal_at p) (omega arith)

pub first_bad : FirstBad
unfolding sheet_refusal
first_bad = record {
  decides = λ p. scan_decides p (line_count p);
  only = λ p r d. one_decides p (line_count p) d (scan_decides p (line_count p));
}

-- where none is refused, each line is good
pub all_good_lem : (p : List ℕ) (n : ℕ) → first_refusal p n ≡ 0 → (i : ℕ) → i < n → refusal_at p i ≡ 0
all_good_lem p n e i h = go (first_refusal p n) e (scan_decides p n)
  where
    go : (r : ℕ) → r ≡ 0 → Decides p n r → refusal_at p i ≡ 0
    go r z (good g) = g i h
    go r z (bad j l b g) = absurd (b z)

-- ---- the numbers

-- what holds of 0, 14 and 15 holds of every refusal of a sheet
module _ (P : ℕ → Type 0) (none : P 0) (form : P 14) (number : P 15) where
  cond_by : (t : Bool) → P (cond t 0 15)
  cond_by true = none
  cond_by false = number

  line_by : (i : ℕ) (line : Option Line) → P (refusal_of i line)
  unfolding refusal_of
  line_by i (Some (Weight x)) = none
  line_by i (Some (Sum first second)) = cond_by (ltb first i && ltb second i)
  line_by i None = form

  pub sheet_by : (p : List ℕ) → P (sheet_refusal p)
  sheet_by p = go (sheet_refusal p) (first_bad.decides p)
    where
      go : (r : ℕ) → Decides p (line_count p) r → P r
      go r (good g) = none
      go r (bad i h b g) = line_by i (line_of p i)
