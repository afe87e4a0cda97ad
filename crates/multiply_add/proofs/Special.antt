-- Products and sums with a zero or an infinity. Assumes nothing.
use mathlib.Core.Path.{◌≡◌, refl, sym, ap, ap₂, ◌∙◌, subst}
use mathlib.Core.Logic.{◌⊎◌, inl, inr}
use Prim.Native.Nat.{ℕ, ◌+◌, ◌-◌, ◌*◌, ◌^◌, ◌≤◌, ◌<◌}
use native.Mathlib.Nat.{le_of_eq, lt_of_le_of_lt, lt_irrefl, eq-or-lt_of_le, mul_comm, mul_assoc, mul_right_comm, zero-add, zero-mul, mul-zero, mul-pos, lt_of_mul-lt-mul_right}
use native.Mathlib.Omega.{arith}
use mathlib.Core.Bool.{Bool, true, false, cond, beq}
use lib.IntN.{pos}
use lib.Pow.{pow_pos}
use borrow.Author.Tests.{ne_eqb}
use lib.Ieee.{Float, nan, inf, fin, binary64, up, down, unlike, of_bits, to_bits}
use lib.Ieee.Exact.{HasValue}
use lib.Ieee.Fits.{down_pos}
use Rattle.rounding.specs.declared.Direction.{Direction}
use Rattle.rounding.specs.Rounding.{round_to}
use Rattle.rounding.specs.Machine.{sign_bit}
use Rattle.ieee754.specs.Operations.{Product, invalid, infinite, exactly, product, plus, sum_to, zero_sign}
use Rattle.operands.specs.Machine.{sign_of, magnitude, fused_floats}
use Rattle.multiply_add.proofs.Sums.{sum_like, sum_less, sum_same}
use Rattle.operands.proofs.Reading.{Units, Finite, units, finite, units_pos, exact_bits, nan_bits, inf_bits, zero_bits, inf_back, read_inf, read_zero}
use Rattle.multiply_add.proofs.Products.{fused_is}

-- ---- a zero product and a finite addend

module _ (d : Direction) (s : Bool) (c q : ℕ) (B : c < 2 ^ 64) (F : magnitude c < 0x7ff0000000000000) (Q : 0 < q) where
  -- the addend's fraction, over q
  over : (n e' D m k : ℕ) → n * e' * 2 ^ 1074 ≡ m * 2 ^ k * D → n * e' * q * 2 ^ 1074 ≡ m * 2 ^ k * (q * D)
  over n e' D m k h = mul_right_comm (n * e') q (2 ^ 1074) ∙ ap (λ (x : ℕ). x * q) h ∙ mul_assoc (m * 2 ^ k) D q ∙ ap (λ (x : ℕ). m * 2 ^ k * x) (mul_comm D q)

  pub zero_like : s ≡ sign_of c → c ≡ to_bits binary64 (plus d (exactly s 0 q) (of_bits binary64 c))
  unfolding plus
  zero_like l = go (finite c F)
    where
      at : (m k : ℕ) (v : Float) → Units c m k → HasValue v (sign_of c) (m * 2 ^ k) (2 ^ 1074) → c ≡ to_bits binary64 (plus d (exactly s 0 q) v)
      at m k nan u h = absurd h
      at m k (inf t) u h = absurd h
      at m k (fin t n e) u h =
          exact_bits d c m k (n * up e * q) (q * down e) B F u (mul-pos Q (down_pos e)) (over n (up e) (down e) m k h.1)
          ∙ ap (to_bits binary64)
          (ap (λ (v : Bool). round_to d binary64 v (n * up e * q) (q * down e)) (sym l)
          ∙ ap (λ (x : ℕ). round_to d binary64 s x (q * down e)) (sym (ap (λ (x : ℕ). x + n * up e * q) (zero-mul (down e)) ∙ zero-add (n * up e * q)))
          ∙ sym (sum_like d s (0 * down e) (n * up e * q) (q * down e)) ∙ ap (λ (v : Bool). sum_to d s (0 * down e) v (n * up e * q) (q * down e)) (l ∙ sym h.0))

      go : Finite c → c ≡ to_bits binary64 (plus d (exactly s 0 q) (of_bits binary64 c))
      go (units m k u) = at m k (of_bits binary64 c) u u.value

  -- unlike signs
  pub zero_other : (s ≡ sign_of c → ⊥) → (magnitude c ≡ 0 → ⊥) → c ≡ to_bits binary64 (plus d (exactly s 0 q) (of_bits binary64 c))
  unfolding plus
  zero_other l z = go (finite c F)
    where
      positive : (N m k D : ℕ) → 0 < m → 0 < D → N * 2 ^ 1074 ≡ m * 2 ^ k * D → 0 < N
      positive N m k D M P e = lt_of_mul-lt-mul_right (2 ^ 1074) (lt_of_le_of_lt (le_of_eq (zero-mul (2 ^ 1074))) (subst (λ (x : ℕ). 0 < x) (sym e) (mul-pos (mul-pos M (pow_pos k)) P)))

      at : (m k : ℕ) (v : Float) → Units c m k → HasValue v (sign_of c) (m * 2 ^ k) (2 ^ 1074) → c ≡ to_bits binary64 (plus d (exactly s 0 q) v)
      at m k nan u h = absurd h
      at m k (inf t) u h = absurd h
      at m k (fin t n e) u h =
          let N = n * up e * q in
          let E : N * 2 ^ 1074 ≡ m * 2 ^ k * (q * down e) = over n (up e) (down e) m k h.1 in
          let P : 0 < N = positive N m k (q * down e) (units_pos m k (magnitude c) u.pattern u.kept z) (mul-pos Q (down_pos e)) E in
          exact_bits d c m k N (q * down e) B F u (mul-pos Q (down_pos e)) E
          ∙ ap (to_bits binary64)
          (ap₂ (λ (v : Bool) (x : ℕ). round_to d binary64 v x (q * down e)) (sym h.0) (less N ∙ ap (λ (x : ℕ). N - x) (sym (zero-mul (down e))))
          ∙ sym (sum_less d s t (0 * down e) N (q * down e) (λ w. l (w ∙ h.0)) (subst (λ (x : ℕ). x < N) (sym (zero-mul (down e))) P)))
        where
          less : (N : ℕ) → N ≡ N - 0
          less N = omega arith

      go : Finite c → c ≡ to_bits binary64 (plus d (exactly s 0 q) (of_bits binary64 c))
      go (units m k u) = at m k (of_bits binary64 c) u u.value

  pub zero_zero : (s ≡ sign_of c → ⊥) → magnitude c ≡ 0 → sign_bit (zero_sign d) ≡ to_bits binary64 (plus d (exactly s 0 q) (of_bits binary64 c))
  unfolding plus
  zero_zero l z =
      zero_bits (zero_sign d)
      ∙ ap (to_bits binary64)
      (sym (sum_same d s (sign_of c) 0 (0 * q) (q * 1) l (sym (zero-mul q)))
      ∙ ap (plus d (exactly s 0 q)) (sym (read_zero c z)))

-- ---- products

-- a zero, times a finite number
pub zero_left : (d : Direction) (Y Z : Float) (s t : Bool) (b k r : ℕ) → HasValue Y t b k → ((q : ℕ) → 0 < q → r ≡ to_bits binary64 (plus d (exactly (unlike s t) 0 q) Z)) → r ≡ to_bits binary64 (plus d (product (fin s 0 (pos 0)) Y) Z)
zero_left d nan Z s t b k r h f = absurd h
zero_left d (inf u) Z s t b k r h f = absurd h
zero_left d (fin u n g) Z s t b k r h f =
    f (1 * down g) (mul-pos (pow_pos 0) (down_pos g))
    ∙ ap₂ (λ (v : Bool) (x : ℕ). to_bits binary64 (plus d (exactly v x (1 * down g)) Z)) (ap (λ (v : Bool). unlike s v) (sym h.0)) (sym (zero-mul (n * up g)))

pub zero_right : (d : Direction) (X Z : Float) (s t : Bool) (a k r : ℕ) → HasValue X s a k → ((q : ℕ) → 0 < q → r ≡ to_bits binary64 (plus d (exactly (unlike s t) 0 q) Z)) → r ≡ to_bits binary64 (plus d (product X (fin t 0 (pos 0))) Z)
zero_right d nan Z s t a k r h f = absurd h
zero_right d (inf u) Z s t a k r h f = absurd h
zero_right d (fin u m e) Z s t a k r h f =
    f (down e * 1) (mul-pos (down_pos e) (pow_pos 0))
    ∙ ap₂ (λ (v : Bool) (x : ℕ). to_bits binary64 (plus d (exactly v x (down e * 1)) Z)) (ap (λ (v : Bool). unlike v t) (sym h.0)) (sym (mul-zero (m * up e)))

-- a finite product, and an infinity
pub finite_inf : (d : Direction) (X Y : Float) (s t u : Bool) (a b k l : ℕ) → HasValue X s a k → HasValue Y t b l → inf u ≡ plus d (product X Y) (inf u)
unfolding plus
finite_inf d nan Y s t u a b k l x y = absurd x
finite_inf d (inf i) Y s t u a b k l x y = absurd x
finite_inf d (fin i m e) nan s t u a b k l x y = absurd y
finite_inf d (fin i m e) (inf j) s t u a b k l x y = absurd y
finite_inf d (fin i m e) (fin j n g) s t u a b k l x y = refl

-- an invalid product
plus_invalid : (d : Direction) (Z : Float) → nan ≡ plus d invalid Z
unfolding plus
plus_invalid d Z = refl

invalid_bits : (d : Direction) (a b c : ℕ) → product (of_bits binary64 a) (of_bits binary64 b) ≡ invalid → 0x7ff8000000000000 ≡ fused_floats d a b c
invalid_bits d a b c e = nan_bits ∙ ap (to_bits binary64) (plus_invalid d (of_bits binary64 c) ∙ ap (λ (p : Product). plus d p (of_bits binary64 c)) (sym e)) ∙ sym (fused_is d a b c)

-- zero times infinity
pub zero_inf : (d : Direction) (a b c : ℕ) → magnitude a ≡ 0 → magnitude b ≡ 0x7ff0000000000000 → 0x7ff8000000000000 ≡ fused_floats d a b c
zero_inf d a b c h k = invalid_bits d a b c (ap₂ product (read_zero a h) (read_inf b k))

pub inf_zero : (d : Direction) (a b c : ℕ) → magnitude a ≡ 0x7ff0000000000000 → magnitude b ≡ 0 → 0x7ff8000000000000 ≡ fused_floats d a b c
inf_zero d a b c h k = invalid_bits d a b c (ap₂ product (read_inf a h) (read_zero b k))

-- a finite product and an infinite addend
pub inf_c : (d : Direction) (a b c : ℕ) → c < 2 ^ 64 → magnitude a < 0x7ff0000000000000 → magnitude b < 0x7ff0000000000000 → magnitude c ≡ 0x7ff0000000000000 → c ≡ fused_floats d a b c
inf_c d a b c C h k l = go (finite a h) (finite b k)
  where
    go : Finite a → Finite b → c ≡ fused_floats d a b c
    go (units q i u) (units p j w) =
        inf_back c C l
        ∙ ap (to_bits binary64) (finite_inf d (of_bits binary64 a) (of_bits binary64 b) (sign_of a) (sign_of b) (sign_of c) (q * 2 ^ i) (p * 2 ^ j) (2 ^ 1074) (2 ^ 1074) u.value w.value ∙ ap (plus d (product (of_bits binary64 a) (of_bits binary64 b))) (sym (read_inf c l)))
        ∙ sym (fused_is d a b c)

-- ---- an infinite product

digits_not_zero : (m u D a K : ℕ) → 0 < a → 0 < D → m * u * K ≡ a * D → m ≡ 0 → ⊥
digits_not_zero m u D a K A P e z =
    lt_irrefl 0 (subst (λ (x : ℕ). 0 < x) (sym e ∙ ap (λ (x : ℕ). x * u * K) z ∙ ap (λ (x : ℕ). x * K) (zero-mul u) ∙ zero-mul K) (mul-pos A P))

inf_times : (s t : Bool) (Y : Float) (b : ℕ) → 0 < b → HasValue Y t b (2 ^ 1074) → product (inf s) Y ≡ infinite (unlike s t)
inf_times s t nan b P h = absurd h
inf_times s t (inf u) b P h = absurd h
inf_times s t (fin u n g) b P h = ap (λ (c : Bool). cond c invalid (infinite (unlike s u))) (ne_eqb n 0 (digits_not_zero n (up g) (down g) b (2 ^ 1074) P (down_pos g) h.1)) ∙ ap (λ (v : Bool). infinite (unlike s v)) h.0

times_inf : (s t : Bool) (X : Float) (a : ℕ) → 0 < a → HasValue X s a (2 ^ 1074) → product X (inf t) ≡ infinite (unlike s t)
times_inf s t nan a P h = absurd h
times_inf s t (inf u) a P h = absurd h
times_inf s t (fin u m e) a P h = ap (λ (c : Bool). cond c invalid (infinite (unlike u t))) (ne_eqb m 0 (digits_not_zero m (up e) (down e) a (2 ^ 1074) P (down_pos e) h.1)) ∙ ap (λ (v : Bool). infinite (unlike v t)) h.0

pub infinite_product : (a b : ℕ) → magnitude a ≤ 0x7ff0000000000000 → magnitude b ≤ 0x7ff0000000000000 → (magnitude a < 0x7ff0000000000000 → magnitude b ≡ 0x7ff0000000000000) → (magnitude a ≡ 0 → ⊥) → (magnitude b ≡ 0 → ⊥)
    → product (of_bits binary64 a) (of_bits binary64 b) ≡ infinite (unlike (sign_of a) (sign_of b))
infinite_product a b h k l n m = go (eq-or-lt_of_le h) (eq-or-lt_of_le k)
  where
    right : Finite b → magnitude a ≡ 0x7ff0000000000000 → product (of_bits binary64 a) (of_bits binary64 b) ≡ infinite (unlike (sign_of a) (sign_of b))
    right (units q i u) e = ap (λ (v : Float). product v (of_bits binary64 b)) (read_inf a e) ∙ inf_times (sign_of a) (sign_of b) (of_bits binary64 b) (q * 2 ^ i) (mul-pos (units_pos q i (magnitude b) u.pattern u.kept m) (pow_pos i)) u.value

    left : Finite a → magnitude b ≡ 0x7ff0000000000000 → product (of_bits binary64 a) (of_bits binary64 b) ≡ infinite (unlike (sign_of a) (sign_of b))
    left (units q i u) e = ap (λ (v : Float). product (of_bits binary64 a) v) (read_inf b e) ∙ times_inf (sign_of a) (sign_of b) (of_bits binary64 a) (q * 2 ^ i) (mul-pos (units_pos q i (magnitude a) u.pattern u.kept n) (pow_pos i)) u.value

    go : (magnitude a ≡ 0x7ff0000000000000) ⊎ (magnitude a < 0x7ff0000000000000) → (magnitude b ≡ 0x7ff0000000000000) ⊎ (magnitude b < 0x7ff0000000000000) → product (of_bits binary64 a) (of_bits binary64 b) ≡ infinite (unlike (sign_of a) (sign_of b))
    go (inl e) (inl f) = ap₂ product (read_inf a e) (read_inf b f)
    go (inl e) (inr g) = right (finite b g) e
    go (inr g) w = left (finite a g) (l g)

-- an infinite product, plus c
pub infinite_like : (d : Direction) (s : Bool) (c : ℕ) → c < 2 ^ 64 → magnitude c ≡ 0x7ff0000000000000 → beq s (sign_of c) ≡ true → s ≡ sign_of c → c ≡ to_bits binary64 (plus d (infinite s) (of_bits binary64 c))
unfolding plus
infinite_like d s c C h e l =
    inf_back c C h
    ∙ ap (to_bits binary64) (ap (λ (v : Bool). inf v) (sym l) ∙ sym (ap (λ (t : Bool). cond t (inf s) nan) e) ∙ ap (plus d (infinite s)) (sym (read_inf c h)))

pub infinite_unlike : (d : Direction) (s : Bool) (c : ℕ) → magnitude c ≡ 0x7ff0000000000000 → beq s (sign_of c) ≡ false → 0x7ff8000000000000 ≡ to_bits binary64 (plus d (infinite s) (of_bits binary64 c))
unfolding plus
infinite_unlike d s c h e = nan_bits ∙ ap (to_bits binary64) (sym (ap (λ (t : Bool). cond t (inf s) nan) e) ∙ ap (plus d (infinite s)) (sym (read_inf c h)))

pub infinite_finite : (d : Direction) (s : Bool) (c : ℕ) → magnitude c < 0x7ff0000000000000 → sign_bit s + 0x7ff0000000000000 ≡ to_bits binary64 (plus d (infinite s) (of_bits binary64 c))
unfolding plus
infinite_finite d s c h = inf_bits s ∙ ap (to_bits binary64) (go (finite c h))
  where
    at : (v : Float) (t : Bool) (a : ℕ) → HasValue v t a (2 ^ 1074) → inf s ≡ plus d (infinite s) v
    at nan t a h = absurd h
    at (inf u) t a h = absurd h
    at (fin u n e) t a h = refl

    go : Finite c → inf s ≡ plus d (infinite s) (of_bits binary64 c)
    go (units q k u) = at (of_bits binary64 c) (sign_of c) (q * 2 ^ k) u.value
