-- A number of at most 2 ^ 50 in size, added to 1.5 * 2 ^ 52 and taken off again, is its nearest whole number. The sum lies from 2 ^ 52 to 2 ^ 53, where the floats are the
-- whole numbers; and 1.5 * 2 ^ 52 is even, so that a tie goes to the even number. Only the sign of a zero is lost. Assumes nothing.
use mathlib.Core.Path.{◌≡◌, refl, sym, ap, ap₂, ◌∙◌, subst}
use Prim.Native.Nat.{ℕ, zero, suc, ◌+◌, ◌-◌, ◌*◌, ◌/◌, ◌%◌, ◌^◌, ◌≤◌, ◌<◌, compare, Ordering}
use native.Mathlib.Nat.{add-zero, le_trans, le_of_eq, le_of_lt, lt_of_lt_of_le, lt_of_not-le, not-le_of_lt, mul-one, mul_assoc, mul_right_comm, add-mul, mul-le-mul_right, mul-lt-mul_of_pos_right, le_of_mul-le-mul_right, lt_of_mul-lt-mul_right, mod-lt, div-add-mod', le-div_iff_mul-le, div-lt_iff_lt-mul, mul-pos}
use native.Mathlib.Omega.{arith}
use mathlib.Core.Bool.{Bool, true, false, true≢false, ◌&&◌, ◌||◌}
use lib.IntN.{ℤ, pos}
use lib.Arith.{digits_div, digits_mod}
use lib.Dec.{T, ltb, eqb, ltb→lt, eqb→eq, lit<}
use lib.Pow.{pow_pos, pow_mono, pow-add}
use borrow.Author.Tests.{lt-ltb, le-ltb}
use lib.Ieee.{Float, nan, inf, fin, Format, binary64, prec, low, size, odd, units, nearest, round, sum, add, sub, neg, le, lt, eq, ne, up, down}
use lib.Ieee.Digits.{size-lt, size-le}
use lib.Ieee.Fits.{round_is, down_pos}
use lib.Ieee.Exact.{HasValue}
use lib.Ieee.Back.{round_whole}
use lib.Ieee.Nearest.{closest, closest_same, closest_mono}
use lib.Ieee.Scale.{round_same}
use Rattle.rounding.specs.declared.Direction.TheVariants.{Nearest}
use Rattle.rounding.specs.Rounding.{whole}
use Rattle.rounding.proofs.Place.{Compares, compares}
use Rattle.rounding.proofs.Rounded.{nearest_is_round}
use Rattle.ieee754.specs.Operations.{round_to_integral}

-- ---- the nearest whole number, an even number away

closest_is : (q r b : ℕ) → r < b → closest (q * b + r) b ≡ nearest q (compare (r * 2) b)
closest_is q r b h = ap₂ (λ (x y : ℕ). nearest x (compare (y * 2) b)) (digits_div q h) (digits_mod q h)

even_plus : (H q : ℕ) (o : Ordering) → nearest (H * 2 + q) o ≡ H * 2 + nearest q o
even_plus H q Ordering.lt = refl
even_plus H q Ordering.eq = omega arith
even_plus H q Ordering.gt = omega arith

plus_closest : (H a b : ℕ) → 0 < b → closest (H * 2 * b + a) b ≡ H * 2 + closest a b
plus_closest H a b B =
    let d : a / b * b + a % b ≡ a = div-add-mod' a b in
    let m : (H * 2 + a / b) * b ≡ H * 2 * b + a / b * b = add-mul (H * 2) (a / b) b in
    let e : H * 2 * b + a ≡ (H * 2 + a / b) * b + a % b = omega (arith, d, m) in
    ap (λ (n : ℕ). closest n b) e ∙ closest_is (H * 2 + a / b) (a % b) b (mod-lt a B) ∙ even_plus H (a / b) (compare (a % b * 2) b)

none : (q b : ℕ) → 0 < b → nearest q (compare (0 * 2) b) ≡ q
none q b B = go (compare 0 b) (compares 0 b)
  where
    go : (o : Ordering) → Compares o 0 b → nearest q o ≡ q
    go Ordering.lt c = refl
    go Ordering.eq c = absurd (omega arith)
    go Ordering.gt c = absurd (omega arith)

-- the remainders s and b - s are on opposite sides of a half, or both at it
opposite : (H q t s b : ℕ) (o p : Ordering) → H * 2 ≡ suc q + t → s < b → Compares o ((b - s) * 2) b → Compares p (s * 2) b → nearest t o + nearest q p ≡ H * 2
opposite H q t s b Ordering.lt Ordering.lt e l c d = absurd (omega arith)
opposite H q t s b Ordering.lt Ordering.eq e l c d = absurd (omega arith)
opposite H q t s b Ordering.lt Ordering.gt e l c d = omega arith
opposite H q t s b Ordering.eq Ordering.lt e l c d = absurd (omega arith)
opposite H q t s b Ordering.eq Ordering.eq e l c d = omega (arith, e)
opposite H q t s b Ordering.eq Ordering.gt e l c d = absurd (omega arith)
opposite H q t s b Ordering.gt Ordering.lt e l c d = omega arith
opposite H q t s b Ordering.gt Ordering.eq e l c d = absurd (omega arith)
opposite H q t s b Ordering.gt Ordering.gt e l c d = absurd (omega arith)

minus_at : (H q r b : ℕ) → r < b → q * b + r ≤ H * 2 * b → closest (H * 2 * b - (q * b + r)) b + nearest q (compare (r * 2) b) ≡ H * 2
minus_at H q zero b R h =
    let g : q ≤ H * 2 = le_of_mul-le-mul_right (omega (arith, h)) R in
    let t = H * 2 - q in
    let k : H * 2 ≡ q + t = omega arith in
    let m : H * 2 * b ≡ q * b + t * b = ap (λ (n : ℕ). n * b) k ∙ add-mul q t b in
    let e : H * 2 * b - (q * b + 0) ≡ t * b + 0 = omega (arith, m) in
    ap₂ ◌+◌ (ap (λ (n : ℕ). closest n b) e ∙ closest_is t 0 b R ∙ none t b R) (none q b R) ∙ omega (arith, k)
minus_at H q (suc r) b R h =
    let g : q < H * 2 = lt_of_mul-lt-mul_right b (omega (arith, h)) in
    let t = H * 2 - suc q in
    let k : H * 2 ≡ suc q + t = omega arith in
    let m : H * 2 * b ≡ suc q * b + t * b = ap (λ (n : ℕ). n * b) k ∙ add-mul (suc q) t b in
    let e : H * 2 * b - (q * b + suc r) ≡ t * b + (b - suc r) = omega (arith, m, R) in
    ap (λ (n : ℕ). closest n b + nearest q (compare (suc r * 2) b)) e
    ∙ ap (λ (n : ℕ). n + nearest q (compare (suc r * 2) b)) (closest_is t (b - suc r) b (omega arith))
    ∙ opposite H q t (suc r) b (compare ((b - suc r) * 2) b) (compare (suc r * 2) b) k R (compares ((b - suc r) * 2) b) (compares (suc r * 2) b)

minus_closest : (H a b : ℕ) → 0 < b → a ≤ H * 2 * b → closest (H * 2 * b - a) b + closest a b ≡ H * 2
minus_closest H a b B h =
    let d : a / b * b + a % b ≡ a = div-add-mod' a b in
    ap (λ (n : ℕ). closest (H * 2 * b - n) b + closest a b) (sym d) ∙ minus_at H (a / b) (a % b) b (mod-lt a B) (le_trans (le_of_eq d) h)

-- ---- floats from 2 ^ 52 to 2 ^ 53

size_gt : (n j : ℕ) → 2 ^ j ≤ n → j < size n
size_gt n j h = lt_of_not-le (λ (g : size n ≤ j). not-le_of_lt (lt_of_lt_of_le (size-lt n) (pow_mono g)) h)

-- a fraction between two powers of two has as many digits as the format keeps, if the powers are those
size_of : (N D j l : ℕ) → 0 < D → 2 ^ j * D ≤ N → N < 2 ^ suc j * D → size (N * 2 ^ l / D) ≡ suc j + l
size_of N D j l P h g =
    let L = pow_pos l in
    let a : 2 ^ (j + l) ≤ N * 2 ^ l / D =
    (le-div_iff_mul-le P).1 (le_trans (le_of_eq (ap (λ (x : ℕ). x * D) (pow-add 2 j l) ∙ mul_right_comm (2 ^ j) (2 ^ l) D)) (mul-le-mul_right (2 ^ l) h)) in
    let b : N * 2 ^ l / D < 2 ^ (suc j + l) =
    (div-lt_iff_lt-mul P).1 (lt_of_lt_of_le (mul-lt-mul_of_pos_right g L) (le_of_eq (sym (ap (λ (x : ℕ). x * D) (pow-add 2 (suc j) l) ∙ mul_right_comm (2 ^ suc j) (2 ^ l) D)))) in
    let x = size_gt (N * 2 ^ l / D) (j + l) a in
    let y = size-le (N * 2 ^ l / D) (suc j + l) b in
    omega (arith, x, y)

at_unit : (f : Format) (N D j : ℕ) → prec f ≡ suc j → 0 < D → 2 ^ j * D ≤ N → N < 2 ^ suc j * D → round f false N D ≡ units f false (closest N D) (low f)
at_unit f N D j p P h g =
    let l = low f in
    let s = size_of N D j l P h g in
    let k : size (N * 2 ^ l / D) - prec f ≡ l = omega (arith, s, p) in
    round_is f false N D
    ∙ ap (λ (k : ℕ). units f false (closest (N * 2 ^ l) (D * 2 ^ k)) k) k
    ∙ ap (λ (n : ℕ). units f false n l) (closest_same (N * 2 ^ l) (D * 2 ^ l) N D (mul-pos P (pow_pos l)) P (mul_right_comm N (2 ^ l) D ∙ mul_assoc N D (2 ^ l)))

closest_one : (q : ℕ) → closest q 1 ≡ q
closest_one q = let e : q ≡ q * 1 + 0 = omega arith in ap (λ (n : ℕ). closest n 1) e ∙ closest_is q 0 1 (lit< tt)

-- such a fraction rounds to its nearest whole number
to_whole : (f : Format) (N D j q : ℕ) → prec f ≡ suc j → 0 < D → 2 ^ j * D ≤ N → N < 2 ^ suc j * D → closest N D ≡ q → 2 ^ j ≤ q → q < 2 ^ suc j → round f false N D ≡ round f false q 1
to_whole f N D j q p P h g e a b =
    at_unit f N D j p P h g
    ∙ ap (λ (n : ℕ). units f false n (low f)) (e ∙ sym (closest_one q))
    ∙ sym (at_unit f q 1 j p (lit< tt) (le_trans (le_of_eq (mul-one (2 ^ j))) a) (lt_of_lt_of_le b (le_of_eq (sym (mul-one (2 ^ suc j))))))

-- ---- the sum and the difference: K is 1.5 * 2 ^ 52
abbrev K : ℕ
K = 6755399441055744

abbrev shift : Float
shift = fin false 3 (pos 51)

-- a whole number from K on
off_above : (x : Float) (w : ℕ) → HasValue x false (K + w) 1 → sub binary64 x shift ≡ round binary64 false w 1
unfolding sub add sum neg
off_above (fin false m e) w v =
    let d = down e in
    let n : (K + w) * d ≡ K * d + w * d = add-mul K w d in
    let a : m * up e * 1 ≡ K * d + w * d = v.1 ∙ n in
    rw (le-ltb (m * up e * 1) (K * d) (omega (arith, a)))
    (round_same binary64 false (m * up e * 1 - K * d) (d * 1) w 1 (mul-pos (down_pos e) (lit< tt)) (lit< tt) (omega (arith, a)))
off_above (fin true m e) w v = absurd (true≢false v.0)
off_above nan w v = absurd v
off_above (inf s) w v = absurd v

-- a whole number below K
off_below : (x : Float) (q w : ℕ) → q + w ≡ K → 0 < w → HasValue x false q 1 → sub binary64 x shift ≡ round binary64 true w 1
unfolding sub add sum neg
off_below (fin false m e) q w k p v =
    let d = down e in
    let n : K * d ≡ q * d + w * d = ap (λ (x : ℕ). x * d) (sym k) ∙ add-mul q w d in
    let W : 0 < w * d = mul-pos p (down_pos e) in
    let a : m * up e * 1 ≡ q * d = v.1 in
    rw (lt-ltb (m * up e * 1) (K * d) (omega (arith, a, n, W)))
    (round_same binary64 true (K * d - m * up e * 1) (d * 1) w 1 (mul-pos (down_pos e) (lit< tt)) (lit< tt) (omega (arith, a, n)))
off_below (fin true m e) q w k p v = absurd (true≢false v.0)
off_below nan q w k p v = absurd v
off_below (inf s) q w k p v = absurd v

-- half of K
abbrev H : ℕ
H = 3377699720527872

abbrev whole_of : ℕ → ℤ → ℕ
whole_of m e = closest (m * up e) (down e)

whole_small : (m : ℕ) (e : ℤ) → m * up e ≤ 2 ^ 50 * down e → whole_of m e ≤ 2 ^ 50
whole_small m e h =
    le_trans (closest_mono (m * up e) (down e) (2 ^ 50) 1 (down_pos e) (lit< tt) (le_trans (le_of_eq (mul-one (m * up e))) h)) (le_of_eq (closest_one (2 ^ 50)))

on_above : (m : ℕ) (e : ℤ) → m * up e ≤ 2 ^ 50 * down e → HasValue (add binary64 (fin false m e) shift) false (K + whole_of m e) 1
unfolding add sum
on_above m e h =
    let a = m * up e in
    let d = down e in
    let w = whole_small m e h in
    let D : d * 1 ≡ d = mul-one d in
    let A : a * 1 + K * d ≡ K * d + a = omega arith in
    let c : closest (a * 1 + K * d) (d * 1) ≡ K + whole_of m e = ap₂ closest A D ∙ plus_closest H a d (down_pos e) in
    subst (λ (x : Float). HasValue x false (K + whole_of m e) 1)
    (sym (to_whole binary64 (a * 1 + K * d) (d * 1) 52 (K + whole_of m e) refl (mul-pos (down_pos e) (lit< tt)) (omega (arith, h)) (omega (arith, h, down_pos e)) c (omega arith) (omega (arith, w))))
    (round_whole binary64 false (K + whole_of m e) (omega (arith, w)))

on_below : (m : ℕ) (e : ℤ) → m * up e ≤ 2 ^ 50 * down e → HasValue (add binary64 (fin true m e) shift) false (closest (K * down e - m * up e) (down e)) 1
unfolding add sum
on_below m e h =
    let a = m * up e in
    let d = down e in
    let P = down_pos e in
    let w = whole_small m e h in
    let q = closest (K * d - a) d in
    let k : q + whole_of m e ≡ K = minus_closest H a d P (omega (arith, h)) in
    let D : d * 1 ≡ d = mul-one d in
    let A : K * d - a * 1 ≡ K * d - a = omega arith in
    let c : closest (K * d - a * 1) (d * 1) ≡ q = ap₂ closest A D in
    rw (lt-ltb (a * 1) (K * d) (omega (arith, h, P)))
    (subst (λ (x : Float). HasValue x false q 1)
    (sym (to_whole binary64 (K * d - a * 1) (d * 1) 52 q refl (mul-pos P (lit< tt)) (omega (arith, h)) (omega (arith, P)) c (omega (arith, k, w)) (omega (arith, k))))
    (round_whole binary64 false q (omega (arith, k))))

-- ---- the theorem

pub integral : (s : Bool) (m : ℕ) (e : ℤ) → round_to_integral Nearest (fin s m e) ≡ round binary64 s (closest (m * up e) (down e)) 1
unfolding round_to_integral
integral s m e = nearest_is_round binary64 s (whole Nearest s (m * up e) (down e)) 1

at_most : (a b : ℕ) (q t : Bool) → (T q → a ≡ b) → ltb a b || (q && t) ≡ true → a ≤ b
at_most a b q t k e = go (ltb a b) q (ltb→lt a b) k e
  where
    go : (l q : Bool) → (T l → a < b) → (T q → a ≡ b) → l || (q && t) ≡ true → a ≤ b
    go true q h k e = le_of_lt (h tt)
    go false true h k e = le_of_eq (k tt)
    go false false h k e = absurd (true≢false (sym e))

small : (m : ℕ) (e : ℤ) → m * up e * 1 ≤ 1 * 2 ^ 50 * down e → m * up e ≤ 2 ^ 50 * down e
small m e h = omega arith

abbrev shifted : Float → Float
shifted x = sub binary64 (add binary64 x shift) shift

abbrev plus_zero : Float
plus_zero = fin false 0 (pos 0)

no_zero : (x : Float) → x ≡ round binary64 false 0 1 → ne x plus_zero ≡ true → ⊥
unfolding ne eq round units odd
no_zero x e n = true≢false (sym (subst (λ (v : Float). ne v plus_zero ≡ true) e n))

negative : (m : ℕ) (e : ℤ) → m * up e ≤ 2 ^ 50 * down e → ne (shifted (fin true m e)) plus_zero ≡ true → shifted (fin true m e) ≡ round binary64 true (whole_of m e) 1
negative m e h n = go (whole_of m e) (minus_closest H (m * up e) (down e) (down_pos e) (omega (arith, h)))
  where
    q : ℕ
    q = closest (K * down e - m * up e) (down e)

    go : (w : ℕ) → q + w ≡ K → shifted (fin true m e) ≡ round binary64 true w 1
    go zero k = let z : q ≡ K + 0 = sym (add-zero q) ∙ k in absurd (no_zero _ (off_above _ 0 (subst (λ (x : ℕ). HasValue (add binary64 (fin true m e) shift) false x 1) z (on_below m e h))) n)
    go (suc w) k = off_below _ q (suc w) k (omega arith) (on_below m e h)

pub nearest_whole : (x : Float) → le (fin true 1 (pos 50)) x ≡ true → le x (fin false 1 (pos 50)) ≡ true → ne (shifted x) plus_zero ≡ true
    → shifted x ≡ round_to_integral Nearest x
unfolding le lt eq
nearest_whole (fin false m e) l h n =
    let B = small m e (at_most (m * up e * 1) (1 * 2 ^ 50 * down e) (eqb (m * up e * 1) (1 * 2 ^ 50 * down e)) true (eqb→eq _ _) h) in
    off_above (add binary64 (fin false m e) shift) (whole_of m e) (on_above m e B) ∙ sym (integral false m e)
nearest_whole (fin true m e) l h n =
    let B = small m e (at_most (m * up e * 1) (1 * 2 ^ 50 * down e) (eqb (1 * 2 ^ 50 * down e) (m * up e * 1)) true (λ t. sym (eqb→eq _ _ t)) l) in
    negative m e B n ∙ sym (integral true m e)
nearest_whole nan l h n = absurd (true≢false (sym l))
nearest_whole (inf true) l h n = absurd (true≢false (sym l))
nearest_whole (inf false) l h n = absurd (true≢false (sym h))
