-- What is kept of a text that is read byte by byte: the bounds, the stage, the significand and the power. Assumes nothing.
use Prim.Native.Nat.{ℕ, zero, suc, ◌+◌, ◌*◌, ◌/◌, ◌%◌, ◌^◌, ◌≤◌, ◌<◌}
use native.Mathlib.Nat.{pow-suc}
use native.Mathlib.Numerals.{add-one}
use native.Mathlib.Omega.{arith}
use mathlib.Core.Path.{◌≡◌, refl, ap, ◌∙◌, sym}
use mathlib.Core.Bool.{Bool, true, false, cond}
use mathlib.Core.Logic.{inl, inr, ⊎_elim}
use mathlib.Core.List.{List, [], ◌∷◌, ◌++◌}
use lib.Dec.{ltb, eqb}
use lib.ListN.{length}
use borrow.Author.Tests.{ltb-true, ltb-false, lt-ltb, le-ltb, ne_eqb}
use Rattle.wide.proofs.Nat.{le_or_gt}
use Rattle.hexadecimal.specs.Text.{digit_of}
use Rattle.hexadecimal.specs.Test.{next_stage, stage_from}
use Rattle.hexadecimal.specs.declared.Stage.{Stage}
use Rattle.hexadecimal.specs.declared.Stage.TheVariants.{Start, Signed, Zero, Prefix, Whole, LonePoint, Point, Fraction, P, ExponentSigned, Exponent, Malformed}
use Rattle.constant.specs.declared.Significand.{Significand}
use Rattle.constant.specs.declared.Power.{Power}
use Rattle.constant.specs.declared.Reading.{Reading}
use Rattle.constant.specs.Machine.{with_digit, with_decimal, moved_to, pushed, read_from, unread, Within, Kept, Counts, most}

pub read_from-append : (r : Reading) (a b : List ℕ) → read_from r (a ++ b) ≡ read_from (read_from r a) b
unfolding read_from
read_from-append r [] b = refl
read_from-append r (x ∷ a) b = read_from-append (pushed r x) a b

-- ---- the stage

pub stage_moved : (s : Stage) (r : Reading) (b : ℕ) → (moved_to s r b).stage ≡ s
unfolding moved_to
stage_moved Start r b = refl
stage_moved Signed r b = refl
stage_moved Zero r b = refl
stage_moved Prefix r b = refl
stage_moved Whole r b = refl
stage_moved LonePoint r b = refl
stage_moved Point r b = refl
stage_moved Fraction r b = refl
stage_moved P r b = refl
stage_moved ExponentSigned r b = refl
stage_moved Exponent r b = refl
stage_moved Malformed r b = refl

pub stage_read : (r : Reading) (l : List ℕ) → (read_from r l).stage ≡ stage_from r.stage l
unfolding read_from stage_from pushed
stage_read r [] = refl
stage_read r (b ∷ l) = stage_read (pushed r b) l ∙ ap (λ (s : Stage). stage_from s l) (stage_moved (next_stage r.stage b) r b)

-- ---- the bounds

by_test : {A : Type 0} (Q : A → Type 0) (t : Bool) {x y : A} → (t ≡ true → Q x) → (t ≡ false → Q y) → Q (cond t x y)
by_test Q true h k = h refl
by_test Q false h k = k refl

pub digit_le : (b : ℕ) → digit_of b ≤ 16
unfolding digit_of
digit_le b =
    let q : ℕ → Type 0 = λ d. d ≤ 16 in
    by_test q (ltb b 48) (λ e. omega arith)
    (λ e. by_test q (ltb b 58) (λ f. omega (arith, ltb-true))
    (λ f. by_test q (ltb b 65) (λ g. omega arith)
    (λ g. by_test q (ltb b 71) (λ h. omega (arith, ltb-true))
    (λ h. by_test q (ltb b 97) (λ i. omega arith)
    (λ i. by_test q (ltb b 103) (λ j. omega (arith, ltb-true)) (λ j. omega arith))))))

-- what Within says of a significand
abbrev Small : ℕ → Significand → Type 0
Small n s = (s.raised + s.lowered ≤ n) × (s.value ≤ 0x1000000000000000)

small_digit : (n : ℕ) (s : Significand) (d : ℕ) (after : Bool) → d ≤ 16 → Small n s → Small (n + 1) (with_digit s d after)
unfolding with_digit
small_digit n s d after l h =
    by_test (Small (n + 1)) (ltb s.value 0x100000000000000)
    (λ e. (by_test (λ (x : ℕ). s.raised + x ≤ n + 1) after (λ a. omega arith) (λ a. omega arith), omega (arith, ltb-true)))
    (λ e. (by_test (λ (x : ℕ). x + s.lowered ≤ n + 1) after (λ a. omega arith) (λ a. omega arith), omega arith))

within : (n : ℕ) (r : Reading) → Small n r.significand → r.power.remainder ≤ 3 → Within n r
within n r s p = record { places = s.0; value = s.1; remainder = p }

pub within_le : (m n : ℕ) (r : Reading) → m ≤ n → Within m r → Within n r
within_le m n r l w = within n r (omega arith, w.value) w.remainder

within_moved : (s : Stage) (n : ℕ) (r : Reading) (b : ℕ) → Within n r → Within (n + 1) (moved_to s r b)
unfolding moved_to with_decimal
within_moved Start n r b w = within _ _ (omega arith, w.value) w.remainder
within_moved Signed n r b w = within _ _ (omega arith, w.value) w.remainder
within_moved Zero n r b w = within _ _ (omega arith, w.value) w.remainder
within_moved Prefix n r b w = within _ _ (omega arith, w.value) w.remainder
within_moved Whole n r b w = within _ _ (small_digit n r.significand (digit_of b) false (digit_le b) (w.places, w.value)) w.remainder
within_moved LonePoint n r b w = within _ _ (omega arith, w.value) w.remainder
within_moved Point n r b w = within _ _ (omega arith, w.value) w.remainder
within_moved Fraction n r b w = within _ _ (small_digit n r.significand (digit_of b) true (digit_le b) (w.places, w.value)) w.remainder
within_moved P n r b w = within _ _ (omega arith, w.value) w.remainder
within_moved ExponentSigned n r b w = within _ _ (omega arith, w.value) w.remainder
within_moved Exponent n r b w = within _ _ (omega arith, w.value) (omega arith)
within_moved Malformed n r b w = within _ _ (omega arith, w.value) w.remainder

pub within_pushed : (n : ℕ) (r : Reading) (b : ℕ) → Within n r → Within (n + 1) (pushed r b)
unfolding pushed
within_pushed n r b w = within_moved (next_stage r.stage b) n r b w

pub within_read : (n : ℕ) (r : Reading) (l : List ℕ) → Within n r → Within (n + length l) (read_from r l)
unfolding read_from
within_read n r [] w = within_le n _ _ (omega arith) w
within_read n r (b ∷ l) w = within_le (n + 1 + length l) _ _ (omega arith) (within_read (n + 1) (pushed r b) l (within_pushed n r b w))

pub within_unread : Within 0 unread
within_unread = within 0 unread (omega arith, omega arith) (omega arith)

-- ---- the significand

pub kept_none : Kept unread.significand 0 0
kept_none = record { dropped = 0; rest = 0; is = refl; less = omega arith; counted = refl; lost = refl; small = omega arith; full = inl refl }

-- a digit after the point is one more place, whether it is kept or dropped
kept_places : (after : Bool) (x low r places : ℕ) → x + low ≡ r + places → x + cond after (low + 1) low ≡ r + cond after (places + 1) places
kept_places true x low r places e = omega arith
kept_places false x low r places e = e

dropped_places : (after : Bool) (x low r places : ℕ) → x + low ≡ r + places → x + 1 + low ≡ cond after r (r + 1) + cond after (places + 1) places
dropped_places true x low r places e = omega arith
dropped_places false x low r places e = omega arith

lost_more : (lost rest d : ℕ) → eqb lost 0 ≡ eqb rest 0 → eqb (cond (eqb d 0) lost d) 0 ≡ eqb (rest * 16 + d) 0
lost_more lost zero zero e = e
lost_more lost (suc rest) zero e = e ∙ ne_eqb (suc rest) 0 (λ f. omega arith) ∙ sym (ne_eqb (suc rest * 16 + 0) 0 (λ f. omega arith))
lost_more lost rest (suc d) e = let some : eqb (suc d) 0 ≡ false = ne_eqb (suc d) 0 (λ f. omega arith) in
    ap (λ (t : Bool). eqb (cond t lost (suc d)) 0) some ∙ some ∙ sym (ne_eqb (rest * 16 + suc d) 0 (λ f. omega arith))

pub kept_digit : (s : Significand) (n places d : ℕ) (after : Bool) → d < 16 → Kept s n places → Kept (with_digit s d after) (n * 16 + d) (cond after (places + 1) places)
unfolding with_digit
kept_digit s n places d after l k =
    by_test (λ (t : Significand). Kept t (n * 16 + d) (cond after (places + 1) places)) (ltb s.value 0x100000000000000)
    (λ e. let none : k.dropped ≡ 0 = ⊎_elim (λ h. h) (λ h. omega (arith, ltb-true)) k.full in
    let unit : 16 ^ k.dropped ≡ 1 = ap (λ (j : ℕ). 16 ^ j) none in
    record {
      dropped = k.dropped;
      rest = k.rest;
      is = rw unit (omega (arith, rw unit at k.is, rw unit at k.less));
      less = k.less;
      counted = kept_places after _ _ _ _ k.counted;
      lost = k.lost;
      small = omega (arith, ltb-true);
      full = inl none;
    })
    (λ e. let more : 16 ^ (k.dropped + 1) ≡ 16 ^ k.dropped * 16 = ap (λ (j : ℕ). 16 ^ j) (add-one _) ∙ pow-suc 16 _ in
    record {
      dropped = k.dropped + 1;
      rest = k.rest * 16 + d;
      is = rw more (omega arith);
      less = omega arith;
      counted = dropped_places after _ _ _ _ k.counted;
      lost = lost_more s.lost k.rest d k.lost;
      small = k.small;
      full = inr (ltb-false _ _ e);
    })

-- ---- the power

pub counts_none : Counts unread.power 0
counts_none = record { quotient = refl; remainder = refl }

-- the quotient of the number with one more digit d, from the quotient k that is kept
quotient_next : (n d k : ℕ) → d < 10 → k ≡ cond (ltb (n / 4) most) (n / 4) most → cond (ltb k 1844674407370955161) (k * 10 + (n % 4 * 10 + d) / 4) most ≡ cond (ltb ((n * 10 + d) / 4) most) ((n * 10 + d) / 4) most
quotient_next n d k l h =
    elim (le_or_gt 1844674407370955161 (n / 4)) [
      | inl far ↦ let beyond : 1844674407370955161 ≤ k = rw h (by_test (λ (x : ℕ). 1844674407370955161 ≤ x) (ltb (n / 4) most) (λ e. far) (λ e. omega arith)) in
          rw (le-ltb k 1844674407370955161 beyond, le-ltb ((n * 10 + d) / 4) most (omega arith))
      | inr near ↦ let is : k ≡ n / 4 = h ∙ rw (lt-ltb (n / 4) most (omega arith)) in
          rw (is, lt-ltb (n / 4) 1844674407370955161 near, lt-ltb ((n * 10 + d) / 4) most (omega arith)) (omega arith)
    ]

pub counts_digit : (e : Power) (n d : ℕ) → d < 10 → Counts e n → Counts (with_decimal e d) (n * 10 + d)
unfolding with_decimal
counts_digit e n d l k = let q : (n * 10 + d) / 4 ≡ n / 4 * 10 + (n % 4 * 10 + d) / 4 = omega arith in
    record { quotient = rw k.remainder (quotient_next n d e.quotient l k.quotient); remainder = rw k.remainder (omega arith) }
