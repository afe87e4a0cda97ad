-- The exact product and the exact sum, from what the three patterns are read as. Assumes nothing.
use mathlib.Core.Path.{◌≡◌, refl, sym, ap, ap₂, ◌∙◌, subst}
use mathlib.Core.Logic.{◌⊎◌, inl, inr}
use Prim.Native.Nat.{ℕ, ◌+◌, ◌-◌, ◌*◌, ◌%◌, ◌^◌, ◌≤◌, ◌<◌}
use native.Mathlib.Nat.{le_of_eq, lt_of_lt_of_le, lt_of_le_of_lt, mul_comm, mul_assoc, mul_left_comm, add-zero, zero-mul, mul-pos, mul-mod_left, mul-le-mul, mul-le-mul_left, mul-lt-mul_of_pos_right, lt_of_mul-lt-mul_right}
use native.Mathlib.Omega.{arith}
use mathlib.Core.Bool.{Bool}
use lib.IntN.{pos}
use lib.Pow.{pow-add, pow_pos}
use lib.Ieee.{Float, nan, inf, fin, binary64, up, down, unlike, of_bits, to_bits}
use lib.Ieee.Exact.{HasValue}
use lib.Ieee.Fits.{down_pos}
use Rattle.rounding.specs.declared.Direction.{Direction}
use Rattle.rounding.specs.Rounding.{round_to}
use Rattle.operands.specs.declared.parts.Parts.{Parts}
use Rattle.ieee754.specs.Operations.{product, plus, sum_to, fused_multiply_add}
use Rattle.operands.specs.Machine.{Ready, product_size, addend_size, fused_floats}
use Rattle.multiply_add.proofs.Sums.{sum_like, sum_more, differ}

pub fused_is : (d : Direction) (a b c : ℕ) → fused_floats d a b c ≡ to_bits binary64 (plus d (product (of_bits binary64 a) (of_bits binary64 b)) (of_bits binary64 c))
unfolding fused_multiply_add
fused_is d a b c = refl

-- ---- finite numbers, none of which is zero

-- the product's size, over a common divisor: X * K is a * DX and Y * K is b * DY
product_size_lem : (X Y DX DY DZ K L a b : ℕ) → X * K ≡ a * DX → Y * K ≡ b * DY → X * Y * DZ * (K * K * L) ≡ a * b * L * (DX * DY * DZ)
product_size_lem X Y DX DY DZ K L a b p q =
    let u : X * Y * DZ * (K * K * L) ≡ X * K * (Y * K) * (DZ * L) = simp (mul_assoc, mul_comm, mul_left_comm) in
    let v : a * DX * (b * DY) * (DZ * L) ≡ a * b * L * (DX * DY * DZ) = simp (mul_assoc, mul_comm, mul_left_comm) in
    u ∙ ap₂ (λ (x y : ℕ). x * y * (DZ * L)) p q ∙ v

addend_size_lem : (Z DX DY DZ K L c : ℕ) → Z * K ≡ c * DZ → Z * (DX * DY) * (K * L) ≡ c * L * (DX * DY * DZ)
addend_size_lem Z DX DY DZ K L c p =
    let u : Z * (DX * DY) * (K * L) ≡ Z * K * (DX * DY * L) = simp (mul_assoc, mul_comm, mul_left_comm) in
    let v : c * DZ * (DX * DY * L) ≡ c * L * (DX * DY * DZ) = simp (mul_assoc, mul_comm, mul_left_comm) in
    u ∙ ap (λ (x : ℕ). x * (DX * DY * L)) p ∙ v

pub exact_sum : (d : Direction) (X Y Z : Float) (s t u : Bool) (a b c r : ℕ) → HasValue X s a (2 ^ 1126) → HasValue Y t b (2 ^ 1126) → HasValue Z u c (2 ^ 1126)
    → ((A B q : ℕ) → 0 < q → A * 2 ^ 2273 ≡ a * b * 2 ^ 21 * q → B * 2 ^ 2273 ≡ c * 2 ^ 1147 * q → r ≡ to_bits binary64 (sum_to d (unlike s t) A u B q))
    → r ≡ to_bits binary64 (plus d (product X Y) Z)
unfolding plus
exact_sum d nan Y Z s t u a b c r x y z f = absurd x
exact_sum d (inf i) Y Z s t u a b c r x y z f = absurd x
exact_sum d (fin i m e) nan Z s t u a b c r x y z f = absurd y
exact_sum d (fin i m e) (inf j) Z s t u a b c r x y z f = absurd y
exact_sum d (fin i m e) (fin j n g) nan s t u a b c r x y z f = absurd z
exact_sum d (fin i m e) (fin j n g) (inf k) s t u a b c r x y z f = absurd z
exact_sum d (fin i m e) (fin j n g) (fin k o h) s t u a b c r x y z f =
    let A = m * up e * (n * up g) * down h in
    let B = o * up h * (down e * down g) in
    let q = down e * down g * down h in
    f A B q (mul-pos (mul-pos (down_pos e) (down_pos g)) (down_pos h))
    (product_size_lem (m * up e) (n * up g) (down e) (down g) (down h) (2 ^ 1126) (2 ^ 21) a b x.1 y.1)
    (addend_size_lem (o * up h) (down e) (down g) (down h) (2 ^ 1126) (2 ^ 1147) c z.1)
    ∙ ap₂ (λ (v w : Bool). to_bits binary64 (sum_to d v A w B q)) (ap₂ (λ (v w : Bool). unlike v w) (sym x.0) (sym y.0)) (sym z.0)

-- a zero addend
pub exact_product : (d : Direction) (X Y : Float) (s t u : Bool) (a b r : ℕ) → 0 < a * b * 2 ^ 21 → HasValue X s a (2 ^ 1126) → HasValue Y t b (2 ^ 1126)
    → ((A q : ℕ) → 0 < q → A * 2 ^ 2273 ≡ a * b * 2 ^ 21 * q → r ≡ to_bits binary64 (round_to d binary64 (unlike s t) A q))
    → r ≡ to_bits binary64 (plus d (product X Y) (fin u 0 (pos 0)))
unfolding plus
exact_product d nan Y s t u a b r P x y f = absurd x
exact_product d (inf i) Y s t u a b r P x y f = absurd x
exact_product d (fin i m e) nan s t u a b r P x y f = absurd y
exact_product d (fin i m e) (inf j) s t u a b r P x y f = absurd y
exact_product d (fin i m e) (fin j n g) s t u a b r P x y f =
    let A = m * up e * (n * up g) * 1 in
    let q = down e * down g * 1 in
    let Q : 0 < q = mul-pos (mul-pos (down_pos e) (down_pos g)) (pow_pos 0) in
    let p : A * 2 ^ 2273 ≡ a * b * 2 ^ 21 * q = product_size_lem (m * up e) (n * up g) (down e) (down g) 1 (2 ^ 1126) (2 ^ 21) a b x.1 y.1 in
    let pA : 0 < A = lt_of_mul-lt-mul_right (2 ^ 2273) (lt_of_le_of_lt (le_of_eq (zero-mul (2 ^ 2273))) (subst (λ (z : ℕ). 0 < z) (sym p) (mul-pos P Q))) in
    f A q Q p
    ∙ ap (λ (v : Bool). to_bits binary64 (round_to d binary64 v A q)) (ap₂ (λ (v w : Bool). unlike v w) (sym x.0) (sym y.0))
    ∙ ap (to_bits binary64) (sym (sum_none d (unlike i j) u A q pA) ∙ ap (λ (z : ℕ). sum_to d (unlike i j) A u z q) (sym (zero-mul (down e * down g))))
  where
    sum_none : (d : Direction) (s t : Bool) (A c : ℕ) → 0 < A → sum_to d s A t 0 c ≡ round_to d binary64 s A c
    sum_none d s t A c h = go (differ s t)
      where
        less : (A : ℕ) → A - 0 ≡ A
        less A = omega arith

        go : (s ≡ t) ⊎ (s ≡ t → ⊥) → sum_to d s A t 0 c ≡ round_to d binary64 s A c
        go (inl e) = ap (λ (u : Bool). sum_to d s A u 0 c) (sym e) ∙ sum_like d s A 0 c ∙ ap (λ (x : ℕ). round_to d binary64 s x c) (add-zero A)
        go (inr n) = sum_more d s t A 0 c n h ∙ ap (λ (x : ℕ). round_to d binary64 s x c) (less A)

-- ---- sizes, as the functions have them

pub product_parts : (x y : Parts) → x.m * 2 ^ x.e * (y.m * 2 ^ y.e) * 2 ^ 21 ≡ product_size x y
product_parts x y =
    same x.m (2 ^ x.e) y.m (2 ^ y.e) 1024 2048 ∙ ap (λ (z : ℕ). x.m * 1024 * (y.m * 2048) * z) (sym (pow-add 2 x.e y.e))
  where
    same : (m E n F p q : ℕ) → m * E * (n * F) * (p * q) ≡ m * p * (n * q) * (E * F)
    same m E n F p q = simp (mul_assoc, mul_comm, mul_left_comm)

pub addend_parts : (z : Parts) → z.m * 2 ^ z.e * 2 ^ 1147 ≡ addend_size z
addend_parts z =
    same z.m (2 ^ z.e) 1024 (2 ^ 64) (2 ^ 1073) ∙ ap (λ (y : ℕ). z.m * 1024 * 2 ^ 64 * y) (sym (pow-add 2 z.e 1073))
  where
    same : (m E p w v : ℕ) → m * E * (p * w * v) ≡ m * p * w * (E * v)
    same m E p w v = simp (mul_assoc, mul_comm, mul_left_comm)

pub parts_pos : (x y : Parts) → 0 < x.m * 2 ^ x.e * (y.m * 2 ^ y.e) * 2 ^ 21
parts_pos x y = mul-pos (mul-pos (mul-pos (lt_of_lt_of_le (pow_pos 52) x.low) (pow_pos x.e)) (mul-pos (lt_of_lt_of_le (pow_pos 52) y.low) (pow_pos y.e))) (pow_pos 21)

-- ---- a product and an addend are ready

low10 : (m : ℕ) → 2 ^ 52 ≤ m → 2 ^ 62 ≤ m * 1024
low10 m h = omega arith

high10 : (m : ℕ) → m < 2 ^ 53 → m * 1024 < 2 ^ 63
high10 m h = omega arith

pub product_ready : (a b : Parts) (w : ℕ) → w ≡ a.m * 1024 * (b.m * 2048) → Ready w
product_ready a b w e =
    subst (λ (x : ℕ). Ready x) (sym e)
    record {
      low = mul-le-mul (low10 a.m a.low) (low11 b.m b.low);
      high = lt_of_le_of_lt (mul-le-mul_left (a.m * 1024) (high11 b.m b.high)) (mul-lt-mul_of_pos_right (high10 a.m a.high) (pow_pos 64));
      tail = ap (λ (x : ℕ). x % 2 ^ 21) (factor a.m b.m) ∙ mul-mod_left (a.m * b.m) (2 ^ 21);
    }
  where
    low11 : (m : ℕ) → 2 ^ 52 ≤ m → 2 ^ 63 ≤ m * 2048
    low11 m h = omega arith

    high11 : (m : ℕ) → m < 2 ^ 53 → m * 2048 ≤ 2 ^ 64
    high11 m h = omega arith

    factor : (m n : ℕ) → m * 1024 * (n * 2048) ≡ m * n * 2097152
    factor m n =
        let x : m * 1024 * (n * 2048) ≡ m * n * 1024 * 2048 = simp (mul_assoc, mul_comm, mul_left_comm) in
        omega arith

-- the exponent of a product
pub exponents : (a b : Parts) → a.e + b.e ≤ 4194
exponents a b = sum a.e b.e a.small b.small
  where
    sum : (x y : ℕ) → x ≤ 2097 → y ≤ 2097 → x + y ≤ 4194
    sum x y h k = omega arith
