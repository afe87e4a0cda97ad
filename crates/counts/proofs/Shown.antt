-- What is shown of the true counts is a sum, and goes on by what is shown alone. Assumes nothing.
use Prim.Native.Nat.{ℕ, zero, suc, ◌+◌, ◌≤◌}
use mathlib.Core.Path.{◌≡◌, refl, sym, ap}
use mathlib.Core.Bool.{Bool, true, false}
use native.Mathlib.Omega.{arith}
use lib.Dec.{ltb}
use borrow.Author.Tests.{eq-eqb, ne_eqb, eqb-true, ltb-true, ltb-false}
use Rattle.counts.specs.Counts.{is_accepted, is_refused, Tally, one_if, counted, most, stopped, shown, tally_in, is_sum, added, shown_next}
use Rattle.counts.specs.declared.Counts.{Counts}

pub stopped_least : (n : ℕ) → n ≤ most → stopped n ≡ n
unfolding stopped
stopped_least n h = omega arith

stopped_twice : (n : ℕ) → stopped (stopped n) ≡ stopped n
unfolding stopped
stopped_twice n = omega arith

stopped_sum : (m n : ℕ) → stopped (stopped m + stopped n) ≡ stopped (m + n)
unfolding stopped
stopped_sum m n = omega arith

-- ---- which numbers count

pub refused_low : (n : ℕ) → 1 ≤ n → n ≤ 5 → is_refused n ≡ true
unfolding is_refused
refused_low zero l h = absurd (omega arith)
refused_low (suc zero) l h = refl
refused_low (suc (suc zero)) l h = refl
refused_low (suc (suc (suc zero))) l h = refl
refused_low (suc (suc (suc (suc zero)))) l h = refl
refused_low (suc (suc (suc (suc (suc zero))))) l h = refl
refused_low (suc (suc (suc (suc (suc (suc n)))))) l h = absurd (omega arith)

pub refused_direction : {n : ℕ} → n ≡ 11 → is_refused n ≡ true
unfolding is_refused
refused_direction e = rw e refl

pub refused_sheet : (n : ℕ) → 14 ≤ n → n ≤ 15 → is_refused n ≡ true
unfolding is_refused
refused_sheet n l h = go (ltb n 15) refl
  where
    go : (t : Bool) → ltb n 15 ≡ t → is_refused n ≡ true
    go true e = let s = ltb-true n 15 e in let z : n ≡ 14 = omega arith in ap is_refused z
    go false e = let s = ltb-false n 15 e in let z : n ≡ 15 = omega arith in ap is_refused z

pub not_refused : (n : ℕ) → (1 ≤ n → n ≤ 5 → ⊥) → (n ≡ 11 → ⊥) → (14 ≤ n → n ≤ 15 → ⊥) → is_refused n ≡ false
unfolding is_refused
not_refused n h z l =
    rw (
      ne_eqb n 1 (λ e. h (omega arith) (omega arith)),
      ne_eqb n 2 (λ e. h (omega arith) (omega arith)),
      ne_eqb n 3 (λ e. h (omega arith) (omega arith)),
      ne_eqb n 4 (λ e. h (omega arith) (omega arith)),
      ne_eqb n 5 (λ e. h (omega arith) (omega arith)),
      ne_eqb n 11 z,
      ne_eqb n 14 (λ e. l (omega arith) (omega arith)),
      ne_eqb n 15 (λ e. l (omega arith) (omega arith)),
    )
    refl

-- ---- more answers

one_more : (t : Bool) (n : ℕ) → stopped (one_if t n) ≡ stopped (stopped n + one_if t 0)
unfolding stopped
one_more true n = omega arith
one_more false n = omega arith

total_more : (s t : Bool) (m n : ℕ) → stopped (one_if s m + one_if t n) ≡ stopped (stopped (m + n) + (one_if s 0 + one_if t 0))
unfolding stopped
total_more true true m n = omega arith
total_more true false m n = omega arith
total_more false true m n = omega arith
total_more false false m n = omega arith

pub shown_next_lem : (number : ℕ) (t : Tally) → shown (counted number t) ≡ shown_next number (shown t)
shown_next_lem number t =
    λ i. record {
      accepted = one_more (is_accepted number) t.accepted i;
      refused = one_more (is_refused number) t.refused i;
      total = total_more (is_accepted number) (is_refused number) t.accepted t.refused i;
    }

pub sum_more : (c i j : ℕ) → stopped (stopped (c + i) + j) ≡ stopped (c + (i + j))
unfolding stopped
sum_more c i j = omega arith

-- some more, and then others
pub added_more : (i j k l : ℕ) (c : Counts) → added k l (added i j c) ≡ added (i + k) (j + l) c
unfolding stopped
added_more i j k l c =
    let total : stopped (stopped (c.total + (i + j)) + (k + l)) ≡ stopped (c.total + (i + k + (j + l))) = omega arith in
    λ n. record { accepted = sum_more c.accepted i k n; refused = sum_more c.refused j l n; total = total n }

pub next_accepted : {number : ℕ} (c : Counts) → number ≡ 0 → shown_next number c ≡ added 1 0 c
unfolding is_refused
next_accepted c e = rw e refl

pub next_refused : {number : ℕ} (c : Counts) → (number ≡ 0 → ⊥) → is_refused number ≡ true → shown_next number c ≡ added 0 1 c
next_refused {number} c z e = rw (ne_eqb number 0 z, e) refl

-- ---- what is shown, and the counts that it stands for

pub shown_again : (t : Tally) → shown (tally_in (shown t)) ≡ shown t
shown_again t = λ i. record { accepted = stopped_twice t.accepted i; refused = stopped_twice t.refused i; total = stopped_sum t.accepted t.refused i }

pub shown_sum : (t : Tally) → is_sum (shown t) ≡ true
unfolding is_sum
shown_sum t = eq-eqb (stopped (t.accepted + t.refused)) (stopped (stopped t.accepted + stopped t.refused)) (sym (stopped_sum t.accepted t.refused))

-- a number of 64 bits is not stopped
pub sum_shown : (c : Counts) → c.accepted ≤ most → c.refused ≤ most → is_sum c ≡ true → c ≡ shown (tally_in c)
unfolding is_sum
sum_shown c a r e =
    λ i. record {
      accepted = sym (stopped_least c.accepted a) i;
      refused = sym (stopped_least c.refused r) i;
      total = eqb-true c.total (stopped (c.accepted + c.refused)) e i;
    }
