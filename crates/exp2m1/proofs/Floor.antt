-- A weight that equals its floor is a whole number: one of at most 53 digits rounds to itself in every direction, and the quotient that floor takes is small.
-- Below zero the quotient is moved up where something is cut off, so it is never -0 there. Assumes nothing.
use mathlib.Core.Path.{◌≡◌, refl, sym, ap, ◌∙◌, subst}
use mathlib.Core.Bool.{Bool, true, false, cond}
use mathlib.Core.Logic.{◌⊎◌, inl, inr}
use Prim.Native.Nat.{ℕ, zero, suc, ◌+◌, ◌-◌, ◌*◌, ◌/◌, ◌%◌, ◌^◌, ◌≤◌, ◌<◌, ◌∣◌}
use native.Mathlib.Nat.{le_of_lt, le_of_suc-le-suc, lt_of_le_of_lt, lt_irrefl, mul-one, one-mul, zero-mul, suc-mul, mul-pos, mul_right_comm, eq_of_mul-eq-mul_right, div-one, div-lt_iff_lt-mul, div-add-mod', mod-lt, mod-eq-zero_of_dvd, dvd-mul_left, eq-zero-or-pos, eq-or-lt_of_le}
use native.Mathlib.Omega.{arith}
use lib.Dec.{T, lit<, ltb→lt, eqb, eqb→eq}
use lib.IntN.{ℤ, pos, negsuc}
use lib.Pow.{pow_pos, shl_lt}
use lib.Ieee.{Float, nan, inf, fin, Format, binary64, prec, low, size, units, minus, round, fits, of_bits, of_int, lt, eq, le, neg, up, down}
use lib.Ieee.Back.{round_whole, whole_unique}
use lib.Ieee.Digits.{size-le}
use lib.Ieee.Exact.{HasValue}
use lib.Ieee.Fits.{round_is, round-fits, up_pos, down_pos, and_l}
use lib.Ieee.Positive.{positive, between, le→cross, positive_of_value, values_of_le}
use lib.Ieee.Scale.{finite}
use borrow.Author.Tests.{le-leb, lt-leb, ne_eqb}
use Rattle.rounding.specs.declared.Direction.{Direction}
use Rattle.rounding.specs.declared.Direction.TheVariants.{Nearest, Down}
use Rattle.rounding.specs.Rounding.{whole, bounded, round_to}
use Rattle.rounding.proofs.Place.{exact, Sits, whole_at_lem, whole_exact}
use Rattle.ieee754.specs.Operations.{round_to_integral}
use Rattle.pair.specs.Pair.{bits}
use Rattle.exactness.proofs.Multiples.{coarser}
use Rattle.exactness.proofs.Units.{has_finite}
use Rattle.exponential.specs.Range.{Between, above, below, most, deepest}
use Rattle.exp2m1_whole.specs.Whole.{Whole}

-- ---- a whole number rounds to itself
whole_of-exact : (d : Direction) (s : Bool) (n u : ℕ) → 0 < u → n % u ≡ 0 → whole d s n u ≡ n / u
whole_of-exact d s n u U z = whole_at_lem d s U at ∙ whole_exact d s (n / u)
  where
    at : Sits n u (n / u) exact
    at = record { rest = n % u; is = sym (div-add-mod' n u); less = mod-lt n U; at = z }

bounded_finite : (d : Direction) (f : Format) (x : Float) → T (finite x) → bounded d f x ≡ x
bounded_finite d f (fin s m e) t = refl
bounded_finite d f nan t = elim t [ ]
bounded_finite d f (inf _) t = elim t [ ]

divides : (f : Format) (n : ℕ) → n < 2 ^ prec f → n * 2 ^ low f % (1 * 2 ^ (size (n * 2 ^ low f / 1) - prec f)) ≡ 0
divides f n h =
    let N = n * 2 ^ low f in
    let k = size (N / 1) - prec f in
    let s : size (N / 1) ≤ prec f + low f = size-le (N / 1) (prec f + low f) (subst (λ (x : ℕ). x < 2 ^ (prec f + low f)) (sym (div-one N)) (shl_lt (prec f) (low f) h)) in
    mod-eq-zero_of_dvd (1 * 2 ^ k) (subst (λ (u : ℕ). u ∣ N) (sym (one-mul (2 ^ k))) (coarser k (low f) N (omega arith) (dvd-mul_left (2 ^ low f) n)))

round_exactly : (d : Direction) (f : Format) (s : Bool) (n : ℕ) → n < 2 ^ prec f → round_to d f s n 1 ≡ round f s n 1
unfolding round_to
round_exactly d f s n h =
    let N = n * 2 ^ low f in
    let k = size (N / 1) - prec f in
    let u = 1 * 2 ^ k in
    let z = divides f n h in
    let U = mul-pos (pow_pos 0) (pow_pos k) in
    let q : whole d s N u ≡ whole Nearest s N u = whole_of-exact d s N u U z ∙ sym (whole_of-exact Nearest s N u U z) in
    let r : units f s (whole Nearest s N u) k ≡ round f s n 1 = sym (round_is f s n 1) in
    ap (λ (x : ℕ). bounded d f (units f s x k)) q ∙ ap (bounded d f) r ∙ bounded_finite d f (round f s n 1) (has_finite (round f s n 1) s n 1 (round_whole f s n (le_of_lt h)))

-- ---- what equals a whole number has its value
cross : (a k d e n : ℕ) → 0 < d → a * d ≡ k * e → k * 1 ≡ n * d → a * 1 ≡ n * e
cross a k d e n D h v = eq_of_mul-eq-mul_right d D (a * 1) (n * e) (ap (λ (z : ℕ). z * d) (mul-one a) ∙ h ∙ ap (λ (z : ℕ). z * e) (sym (mul-one k) ∙ v) ∙ mul_right_comm n d e)

equal_value : (s : Bool) (m : ℕ) (e : ℤ) (i : Float) (n : ℕ) → HasValue i s n 1 → T (eq (fin s m e) i) → HasValue (fin s m e) s n 1
unfolding eq
equal_value s m e (fin t k d) n v h = (refl, cross (m * up e) (k * up d) (down d) (down e) n (down_pos d) (eqb→eq _ _ (and_l (eqb (m * up e * down d) (k * up d * down e)) _ h)) v.1)
equal_value s m e nan n v h = elim v [ ]
equal_value s m e (inf _) n v h = elim v [ ]

-- ---- above zero
quotient_lt : (n d k : ℕ) → 0 < d → n ≤ k * d → n / d < suc k
quotient_lt n d k D h = (div-lt_iff_lt-mul D).1 (let e = suc-mul k d in omega arith)

fifty_three : HasValue (bits 0x404a800000000000) false 53 1
unfolding of_bits
fifty_three = (refl, refl)

at_most-53 : (i : Float) (n : ℕ) → HasValue i false n 1 → T (le i (bits 0x404a800000000000)) → n ≤ 53
unfolding of_bits
at_most-53 i n v h =
    elim (eq-zero-or-pos n) [
      | inl z ↦ omega arith
      | inr p ↦ let k = values_of_le i (bits 0x404a800000000000) n 1 53 1 (positive_of_value i n 1 v p) tt v fifty_three h in omega arith
    ]

minus_up : (n : ℕ) → minus (n + 53) 53 ≡ pos n
minus_up n = rw (le-leb 53 (n + 53) (omega arith), sub_up)
  where
    sub_up : n + 53 - 53 ≡ n
    sub_up = omega arith

-- x is one of the 107 weights, and its own floor
abbrev pub Settled : Float → Type 0
Settled x = Whole x × (round_to_integral Down x ≡ x)

whole_above : (x : Float) → T (fits binary64 x) → T (positive x) → T (le x most) → T (eq x (round_to_integral Down x)) → T (le (round_to_integral Down x) (bits 0x404a800000000000)) → Settled x
unfolding round_to_integral of_int of_bits
whole_above (fin false m e) f p l q h =
    let n = m * up e / down e in
    let c = le→cross (fin false m e) most p tt l in
    let b : n < 1025 = quotient_lt (m * up e) (down e) 1024 (down_pos e) (omega arith) in
    let r : round_to Down binary64 false n 1 ≡ round binary64 false n 1 = round_exactly Down binary64 false n (lt_of_le_of_lt (le_of_lt b) (lit< tt)) in
    let v = round_whole binary64 false n (omega arith) in
    let k = at_most-53 _ n v (subst (λ (i : Float). T (le i (bits 0x404a800000000000))) r h) in
    let g : fin false m e ≡ round binary64 false n 1 = whole_unique binary64 _ _ false n f (round-fits binary64 false n 1) (equal_value false m e _ n v (subst (λ (i : Float). T (eq (fin false m e) i)) r q)) v in
    (record { place = n + 53; last = omega arith; is = g ∙ ap (of_int binary64) (sym (minus_up n)) }, r ∙ sym g)
whole_above (fin true m e) f p l q h = absurd p
whole_above nan f p l q h = absurd p
whole_above (inf s) f p l q h = absurd p

-- ---- below zero
-- the quotient, moved up where something is cut off
whole_down : (n d : ℕ) → ((n % d ≡ 0) × (whole Down true n d ≡ n / d)) ⊎ (whole Down true n d ≡ suc (n / d))
whole_down n d = go (n % d) refl
  where
    go : (r : ℕ) → n % d ≡ r → ((r ≡ 0) × (cond (eqb r 0) (n / d) (suc (n / d)) ≡ n / d)) ⊎ (cond (eqb r 0) (n / d) (suc (n / d)) ≡ suc (n / d))
    go zero z = inl (refl, refl)
    go (suc r) z = inr (ap (λ (b : Bool). cond b (n / d) (suc (n / d))) (ne_eqb (suc r) 0 (λ e. omega arith)))

below_zero : (n d k w : ℕ) → 0 < n → 0 < d → n ≤ k * d → ((n % d ≡ 0) × (w ≡ n / d)) ⊎ (w ≡ suc (n / d)) → (0 < w) × (w ≤ suc k)
below_zero n d k w N D h (inl c) =
    let q = quotient_lt n d k D h in
    let e = div-add-mod' n d in
    elim (eq-zero-or-pos (n / d)) [
      | inl z ↦ let y : n / d * d ≡ 0 = ap (λ (x : ℕ). x * d) z ∙ zero-mul d in absurd (let o : ⊥ = omega (arith, c.0) in o)
      | inr p ↦ (omega (arith, c.1), omega (arith, c.1))
    ]
below_zero n d k w N D h (inr c) = let q = quotient_lt n d k D h in (omega arith, omega arith)

at_least_53 : (n : ℕ) → n ≤ 54 → T (le (bits 0xc04a800000000000) (round binary64 true (suc n) 1)) → n ≤ 52
unfolding le lt eq of_bits round
at_least_53 n a h =
    elim (eq-or-lt_of_le a) [
      | inl e ↦ absurd (subst (λ (i : ℕ). T (le (bits 0xc04a800000000000) (round binary64 true (suc i) 1))) e h)
      | inr b ↦ elim (eq-or-lt_of_le (le_of_suc-le-suc b)) [
        | inl e ↦ absurd (subst (λ (i : ℕ). T (le (bits 0xc04a800000000000) (round binary64 true (suc i) 1))) e h)
        | inr d ↦ le_of_suc-le-suc d
      ]
    ]

minus_down : (n : ℕ) → n ≤ 52 → minus (52 - n) 53 ≡ negsuc n
minus_down n h = rw (lt-leb 53 (52 - n) (omega arith), sub_down)
  where
    sub_down : 53 - suc (52 - n) ≡ n
    sub_down = omega arith

whole_below : (x : Float) → T (fits binary64 x) → T (positive (neg x)) → T (le (neg x) deepest) → T (eq x (round_to_integral Down x)) → T (le (bits 0xc04a800000000000) (round_to_integral Down x)) → Settled x
unfolding round_to_integral neg of_int of_bits
whole_below (fin true m e) f p l q h =
    let N = m * up e in
    let c = le→cross (fin false m e) deepest p tt l in
    let b = below_zero N (down e) 54 (whole Down true N (down e)) (mul-pos (ltb→lt 0 m p) (up_pos e)) (down_pos e) (omega arith) (whole_down N (down e)) in
    go (whole Down true N (down e)) b.0 b.1 q h
  where
    go : (n : ℕ) → 0 < n → n ≤ 55 → T (eq (fin true m e) (round_to Down binary64 true n 1)) → T (le (bits 0xc04a800000000000) (round_to Down binary64 true n 1))
        → Whole (fin true m e) × (round_to Down binary64 true n 1 ≡ fin true m e)
    go zero a b q h = absurd (lt_irrefl 0 a)
    go (suc n) a b q h =
        let r = round_exactly Down binary64 true (suc n) (omega arith) in
        let v = round_whole binary64 true (suc n) (omega arith) in
        let k = at_least_53 n (omega arith) (subst (λ (i : Float). T (le (bits 0xc04a800000000000) i)) r h) in
        let g : fin true m e ≡ round binary64 true (suc n) 1 = whole_unique binary64 _ _ true (suc n) f (round-fits binary64 true (suc n) 1) (equal_value true m e _ (suc n) v (subst (λ (i : Float). T (eq (fin true m e) i)) r q)) v in
        (record { place = 52 - n; last = omega arith; is = g ∙ ap (of_int binary64) (sym (minus_down n k)) }, r ∙ sym g)
whole_below (fin false m e) f p l q h = absurd p
whole_below nan f p l q h = absurd p
whole_below (inf s) f p l q h = absurd p

pub whole_weight : (x : Float) → T (fits binary64 x) → Between (bits 0x3cc0527dbd87e24d) most deepest x → T (eq x (round_to_integral Down x))
    → T (le (bits 0xc04a800000000000) (round_to_integral Down x)) → T (le (round_to_integral Down x) (bits 0x404a800000000000)) → Settled x
unfolding of_bits
whole_weight x f (above a b) q h k = whole_above x f (between (bits 0x3cc0527dbd87e24d) x most tt tt a b) b q k
whole_weight x f (below a b) q h k = whole_below x f (between (bits 0x3cc0527dbd87e24d) (neg x) deepest tt tt a b) b q h
