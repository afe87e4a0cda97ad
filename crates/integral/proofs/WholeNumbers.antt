-- Rounding to a whole number: what a shift of the significand leaves, and the numbers that are whole already. Assumes nothing.
use mathlib.Core.Path.{◌≡◌, refl, sym, ap, ap₂, ◌∙◌}
use mathlib.Core.Logic.{◌⊎◌, inl, inr}
use Prim.Native.Nat.{ℕ, ◌+◌, ◌-◌, ◌*◌, ◌/◌, ◌%◌, ◌^◌, ◌≤◌, ◌<◌}
use native.Mathlib.Nat.{le_trans, le_of_eq, lt_of_lt_of_le, eq-or-lt_of_le, mul-one, mul_assoc, add-zero, zero-add, zero-mul, mul-pos, mul-lt-mul_of_pos_right}
use native.Mathlib.Omega.{arith}
use mathlib.Core.Bool.{Bool}
use mathlib.Core.List.{[], ◌∷◌}
use lib.Dec.{lit≤, lit<}
use lib.Pow.{pow-add, pow_pos, pow_mono}
use lib.Ieee.{Float, nan, inf, fin, binary64, up, down, of_bits, to_bits}
use lib.Ieee.Exact.{HasValue}
use lib.Ieee.Fits.{down_pos}
use Rattle.rounding.specs.declared.Direction.{Direction}
use Rattle.rounding.specs.declared.Direction.TheVariants.{Nearest, Down}
use Rattle.rounding.specs.Rounding.{whole, round_to}
use Rattle.rounding.specs.Machine.{Stands}
use Rattle.rounding.proofs.Place.{exact, under, Sits, whole_at_lem, whole_exact, whole_same}
use Rattle.ieee754.specs.Operations.{round_to_integral, first_nan, round_bits, floor_bits}
use Rattle.operands.specs.Machine.{sign_of, magnitude}
use Rattle.operands.proofs.Reading.{Units, Finite, units, finite, exact_bits, inf_back, read_inf, stands_just}

-- a whole number, as `round_wide` takes it
pub stands_whole : (w : ℕ) → Stands 2273 w 1 w 2273
stands_whole w = stands_just (lit< tt) (sym (mul-one (w * 2 ^ 2273)))

whole_multiple : (d : Direction) (s : Bool) (n u : ℕ) → 0 < u → whole d s (n * u) u ≡ n
whole_multiple d s n u U = whole_at_lem d s U at ∙ whole_exact d s n
  where
    at : Sits (n * u) u n exact
    at = record { rest = 0; is = sym (add-zero (n * u)); less = U; at = refl }

-- ---- `whole_size`

pub whole_tiny : (d : Direction) (s : Bool) (x q k : ℕ) → 0 < x → x < 0x3f40000000000000 → x ≡ k * 0x10000000000000 + q → q < 2 ^ 53 → (k ≡ 0) ⊎ (2 ^ 52 ≤ q) → whole d s 1 (2 ^ 63) ≡ whole d s (q * 2 ^ k) (2 ^ 1074)
whole_tiny d s x q k X h e b o =
    whole_at_lem d s (pow_pos 63) one
    ∙ sym (whole_at_lem d s (pow_pos 1074) (at (mul-pos (some o) (pow_pos k)) (lt_of_lt_of_le (mul-lt-mul_of_pos_right b (pow_pos k)) (le_trans (le_of_eq (sym (pow-add 2 53 k))) (pow_mono {i = 53 + k} {j = 1073} (few o))))))
  where
    some : (k ≡ 0) ⊎ (2 ^ 52 ≤ q) → 0 < q
    some (inl z) = omega arith
    some (inr z) = omega arith

    few : (k ≡ 0) ⊎ (2 ^ 52 ≤ q) → 53 + k ≤ 1073
    few (inl z) = omega arith
    few (inr z) = omega arith

    one : Sits 1 (2 ^ 63) 0 under
    one = record { rest = 1; is = refl; less = lit< tt; at = (lit< tt, lit< tt) }

    at : 0 < q * 2 ^ k → q * 2 ^ k < 2 ^ 1073 → Sits (q * 2 ^ k) (2 ^ 1074) 0 under
    at p l = record { rest = q * 2 ^ k; is = sym (zero-add (q * 2 ^ k)); less = lt_of_lt_of_le l (lit≤ tt); at = (p, mul-lt-mul_of_pos_right l (lit< tt)) }

pub whole_shift : (d : Direction) (s : Bool) (x q k : ℕ) → 0x3f40000000000000 ≤ x → x < 0x4330000000000000 → x ≡ k * 0x10000000000000 + q → q < 2 ^ 53 → (k ≡ 0) ⊎ (2 ^ 52 ≤ q) → whole d s (0x10000000000000 + x % 0x10000000000000) (2 ^ (1075 - x / 0x10000000000000)) ≡ whole d s (q * 2 ^ k) (2 ^ 1074)
whole_shift d s x q k h h' e b (inl z) = absurd (omega arith)
whole_shift d s x q k h h' e b (inr l) =
    ap₂ (λ (y j : ℕ). whole d s y (2 ^ j)) (digits x q k e b l) (places x q k e b l h')
    ∙ whole_same d s q (2 ^ (1074 - k)) (q * 2 ^ k) (2 ^ 1074) (pow_pos (1074 - k)) (pow_pos 1074)
    (ap (λ (y : ℕ). q * y) (ap (λ (y : ℕ). 2 ^ y) (join x q k e b l h') ∙ pow-add 2 k (1074 - k)) ∙ sym (mul_assoc q (2 ^ k) (2 ^ (1074 - k))))
  where
    digits : (x q k : ℕ) → x ≡ k * 0x10000000000000 + q → q < 2 ^ 53 → 2 ^ 52 ≤ q → 0x10000000000000 + x % 0x10000000000000 ≡ q
    digits x q k e b l = omega arith

    places : (x q k : ℕ) → x ≡ k * 0x10000000000000 + q → q < 2 ^ 53 → 2 ^ 52 ≤ q → x < 0x4330000000000000 → 1075 - x / 0x10000000000000 ≡ 1074 - k
    places x q k e b l h = omega arith

    join : (x q k : ℕ) → x ≡ k * 0x10000000000000 + q → q < 2 ^ 53 → 2 ^ 52 ≤ q → x < 0x4330000000000000 → 1074 ≡ k + (1074 - k)
    join x q k e b l h = omega arith

-- ---- `integral_in`

whole_of : (d : Direction) (s : Bool) (a : ℕ) (v : Float) → HasValue v s a (2 ^ 1074) → to_bits binary64 (round_to d binary64 s (whole d s a (2 ^ 1074)) 1) ≡ to_bits binary64 (round_to_integral d v)
unfolding round_to_integral
whole_of d s a nan h = absurd h
whole_of d s a (inf t) h = absurd h
whole_of d s a (fin t m e) h =
    ap₂ (λ (u : Bool) (x : ℕ). to_bits binary64 (round_to d binary64 u x 1)) (sym h.0)
    (sym (whole_same d s (m * up e) (down e) a (2 ^ 1074) (down_pos e) (pow_pos 1074) h.1) ∙ ap (λ (u : Bool). whole d u (m * up e) (down e)) (sym h.0))

pub whole_answer : (d : Direction) (a q k w r : ℕ) (s : Bool) → Units a q k → s ≡ sign_of a → w ≡ whole d s (q * 2 ^ k) (2 ^ 1074) → r ≡ to_bits binary64 (round_to d binary64 s w 1) → r ≡ to_bits binary64 (round_to_integral d (of_bits binary64 a))
whole_answer d a q k w r s u l e f =
    f ∙ ap₂ (λ (t : Bool) (x : ℕ). to_bits binary64 (round_to d binary64 t x 1)) l (e ∙ ap (λ (t : Bool). whole d t (q * 2 ^ k) (2 ^ 1074)) l)
    ∙ whole_of d (sign_of a) (q * 2 ^ k) (of_bits binary64 a) u.value

-- a number that is whole already
whole_itself : (d : Direction) (a q k n : ℕ) → a < 2 ^ 64 → magnitude a < 0x7ff0000000000000 → Units a q k → q * 2 ^ k ≡ n * 2 ^ 1074 → a ≡ to_bits binary64 (round_to_integral d (of_bits binary64 a))
whole_itself d a q k n A F u e =
    exact_bits d a q k n 1 A F u (pow_pos 0) (sym e ∙ sym (mul-one (q * 2 ^ k)))
    ∙ ap (λ (x : ℕ). to_bits binary64 (round_to d binary64 (sign_of a) x 1)) (sym (ap (λ (x : ℕ). whole d (sign_of a) x (2 ^ 1074)) e ∙ whole_multiple d (sign_of a) n (2 ^ 1074) (pow_pos 1074)))
    ∙ whole_of d (sign_of a) (q * 2 ^ k) (of_bits binary64 a) u.value

pub whole_large : (d : Direction) (a : ℕ) → a < 2 ^ 64 → magnitude a ≤ 0x7ff0000000000000 → 0x4330000000000000 ≤ magnitude a → a ≡ to_bits binary64 (round_to_integral d (of_bits binary64 a))
unfolding round_to_integral
whole_large d a A h l = go (eq-or-lt_of_le h)
  where
    enough : (x q k : ℕ) → x ≡ k * 0x10000000000000 + q → q < 2 ^ 53 → 0x4330000000000000 ≤ x → k ≡ k - 1074 + 1074
    enough x q k e b l = omega arith

    at : Finite a → magnitude a < 0x7ff0000000000000 → a ≡ to_bits binary64 (round_to_integral d (of_bits binary64 a))
    at (units q k u) F = whole_itself d a q k (q * 2 ^ (k - 1074)) A F u (ap (λ (x : ℕ). q * x) (ap (λ (x : ℕ). 2 ^ x) (enough (magnitude a) q k u.pattern u.small l) ∙ pow-add 2 (k - 1074) 1074) ∙ sym (mul_assoc q (2 ^ (k - 1074)) (2 ^ 1074)))

    go : (magnitude a ≡ 0x7ff0000000000000) ⊎ (magnitude a < 0x7ff0000000000000) → a ≡ to_bits binary64 (round_to_integral d (of_bits binary64 a))
    go (inl e) = inf_back a A e ∙ ap (λ (v : Float). to_bits binary64 (round_to_integral d v)) (sym (read_inf a e))
    go (inr F) = at (finite a F) F

pub whole_zero : (d : Direction) (a : ℕ) → a < 2 ^ 64 → magnitude a ≡ 0 → a ≡ to_bits binary64 (round_to_integral d (of_bits binary64 a))
whole_zero d a A z = go (finite a (none (magnitude a) z))
  where
    none : (x : ℕ) → x ≡ 0 → x < 0x7ff0000000000000
    none x e = omega arith

    nothing : (x q k : ℕ) → x ≡ k * 0x10000000000000 + q → x ≡ 0 → q ≡ 0
    nothing x q k e z = omega arith

    go : Finite a → a ≡ to_bits binary64 (round_to_integral d (of_bits binary64 a))
    go (units q k u) = whole_itself d a q k 0 A (none (magnitude a) z) u (ap (λ (x : ℕ). x * 2 ^ k) (nothing (magnitude a) q k u.pattern z) ∙ zero-mul (2 ^ k) ∙ sym (zero-mul (2 ^ 1074)))

pub round_is : (a : ℕ) → first_nan (a ∷ []) (to_bits binary64 (round_to_integral Nearest (of_bits binary64 a))) ≡ round_bits a
unfolding round_bits
round_is a = refl

pub floor_is : (a : ℕ) → first_nan (a ∷ []) (to_bits binary64 (round_to_integral Down (of_bits binary64 a))) ≡ floor_bits a
unfolding floor_bits
floor_is a = refl
