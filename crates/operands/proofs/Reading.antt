-- What a bit pattern is read as: a NaN, an infinity, a zero, or q units of 2 ^ k; what those are as patterns, and as the rounding takes them. Assumes nothing.
use mathlib.Core.Path.{◌≡◌, refl, sym, ap, ap₂, ◌∙◌, subst}
use mathlib.Core.Logic.{◌⊎◌, inl, inr, ⊎_elim}
use Prim.Native.Nat.{ℕ, zero, suc, ◌+◌, ◌-◌, ◌*◌, ◌/◌, ◌%◌, ◌^◌, ◌≤◌, ◌<◌}
use native.Mathlib.Nat.{mul-one, mul_comm, mul_assoc, mul_right_comm, add-zero, zero-mul, mul-pos}
use native.Mathlib.Omega.{arith}
use mathlib.Core.Bool.{Bool, true, false, cond}
use lib.IntN.{pos}
use lib.Dec.{lit<, eqb}
use lib.Pow.{pow-add, pow_pos}
use borrow.Author.Tests.{eq-eqb, ne_eqb, le-leb, lt-leb, lt-ltb}
use lib.Ieee.{Float, nan, inf, fin, binary64, up, down, odd, of_fields, of_bits, to_bits}
use lib.Ieee.Exact.{HasValue, odd_sign}
use Rattle.wide.proofs.Nat.{le_or_gt}
use Rattle.wide.proofs.Sticky.{just, jam_is}
use Rattle.rounding.specs.declared.Direction.{Direction}
use Rattle.rounding.specs.Rounding.{round_to}
use Rattle.rounding.specs.Machine.{sign_bit, overflow_bits, packed, Stands}
use Rattle.rounding.proofs.Place.{exact, Sits, whole_at, whole_exact}
use Rattle.rounding.proofs.Rounded.{bits_at}
use Rattle.ieee754.proofs.Nans.{nan_pattern, nan_read}
use Rattle.operands.specs.Machine.{sign_of, magnitude}

of_bits_is : (b : ℕ) → of_bits binary64 b ≡ of_fields binary64 (sign_of b) (magnitude b / 0x10000000000000) (b % 0x10000000000000)
unfolding of_bits
of_bits_is b = refl

-- ---- the highest field

top_field : (s : Bool) (t : ℕ) → of_fields binary64 s 2047 t ≡ cond (eqb t 0) (inf s) nan
unfolding of_fields
top_field s t = refl

highest : (b : ℕ) → magnitude b / 0x10000000000000 ≡ 2047 → of_bits binary64 b ≡ cond (eqb (b % 0x10000000000000) 0) (inf (sign_of b)) nan
highest b e = of_bits_is b ∙ ap (λ (y : ℕ). of_fields binary64 (sign_of b) y (b % 0x10000000000000)) e ∙ top_field (sign_of b) (b % 0x10000000000000)

pub read_nan : (b : ℕ) → 0x7ff0000000000000 < magnitude b → of_bits binary64 b ≡ nan
read_nan b h = nan_read b (nan_pattern b h)

pub read_inf : (b : ℕ) → magnitude b ≡ 0x7ff0000000000000 → of_bits binary64 b ≡ inf (sign_of b)
read_inf b h = highest b (omega arith) ∙ ap (λ (c : Bool). cond c (inf (sign_of b)) nan) (eq-eqb (b % 0x10000000000000) 0 (omega arith))

zero_field : (s : Bool) → of_fields binary64 s 0 0 ≡ fin s 0 (pos 0)
unfolding of_fields
zero_field s = refl

pub read_zero : (b : ℕ) → magnitude b ≡ 0 → of_bits binary64 b ≡ fin (sign_of b) 0 (pos 0)
read_zero b h =
    let x : magnitude b / 0x10000000000000 ≡ 0 = omega arith in
    let t : b % 0x10000000000000 ≡ 0 = omega arith in
    of_bits_is b ∙ ap₂ (λ (y z : ℕ). of_fields binary64 (sign_of b) y z) x t ∙ zero_field (sign_of b)

-- ---- the patterns of the same

pub nan_bits : 0x7ff8000000000000 ≡ to_bits binary64 nan
unfolding to_bits
nan_bits = refl

pub inf_bits : (s : Bool) → sign_bit s + 0x7ff0000000000000 ≡ to_bits binary64 (inf s)
unfolding to_bits
inf_bits true = refl
inf_bits false = refl

pub zero_bits : (s : Bool) → sign_bit s ≡ to_bits binary64 (fin s 0 (pos 0))
unfolding to_bits
zero_bits true = refl
zero_bits false = refl

-- a pattern is its sign and the rest
pub pattern_back : (b x : ℕ) → b < 2 ^ 64 → magnitude b ≡ x → sign_bit (sign_of b) + x ≡ b
pattern_back b x h e = ⊎_elim (λ l. ap (λ (s : Bool). sign_bit s + x) (le-leb 0x8000000000000000 b l) ∙ above b x h e l) (λ l. ap (λ (s : Bool). sign_bit s + x) (lt-leb 0x8000000000000000 b l) ∙ under b x e l) (le_or_gt 0x8000000000000000 b)
  where
    above : (b x : ℕ) → b < 2 ^ 64 → b % 0x8000000000000000 ≡ x → 0x8000000000000000 ≤ b → 0x8000000000000000 + x ≡ b
    above b x h e l = omega arith

    under : (b x : ℕ) → b % 0x8000000000000000 ≡ x → b < 0x8000000000000000 → 0 + x ≡ b
    under b x e l = omega arith

pub inf_back : (b : ℕ) → b < 2 ^ 64 → magnitude b ≡ 0x7ff0000000000000 → b ≡ to_bits binary64 (inf (sign_of b))
inf_back b h e = sym (pattern_back b 0x7ff0000000000000 h e) ∙ inf_bits (sign_of b)

-- ---- a finite number: q units of 2 ^ k

pub record Units (b q k : ℕ) : Type 0 where
  pub value : HasValue (of_bits binary64 b) (sign_of b) (q * 2 ^ k) (2 ^ 1074)
  pub small : q < 2 ^ 53
  pub kept : (k ≡ 0) ⊎ (2 ^ 52 ≤ q)
  pub pattern : magnitude b ≡ k * 0x10000000000000 + q

low_field : (s : Bool) (t : ℕ) → HasValue (of_fields binary64 s 0 t) s (t * 2 ^ 0) (2 ^ 1074)
unfolding of_fields
low_field s t = odd_sign 53 s t 0 1074

mid_field : (s : Bool) (x t : ℕ) → suc x < 2047 → HasValue (of_fields binary64 s (suc x) t) s ((0x10000000000000 + t) * 2 ^ x) (2 ^ 1074)
unfolding of_fields
mid_field s x t h =
    subst (λ (c : Bool). HasValue (cond c (cond (eqb t 0) (inf s) nan) (odd 53 s (0x10000000000000 + t) x 1074)) s ((0x10000000000000 + t) * 2 ^ x) (2 ^ 1074)) (sym (ne_eqb (suc x) 2047 (other x h)))
    (odd_sign 53 s (0x10000000000000 + t) x 1074)
  where
    other : (x : ℕ) → suc x < 2047 → suc x ≡ 2047 → ⊥
    other x h e = omega arith

pub units_low : (b : ℕ) → magnitude b < 0x10000000000000 → Units b (b % 0x10000000000000) 0
units_low b h =
    record {
      value = subst (λ (v : Float). HasValue v (sign_of b) (b % 0x10000000000000 * 2 ^ 0) (2 ^ 1074)) (sym (of_bits_is b ∙ ap (λ (y : ℕ). of_fields binary64 (sign_of b) y (b % 0x10000000000000)) (field b h))) (low_field (sign_of b) (b % 0x10000000000000));
      small = omega arith;
      kept = inl refl;
      pattern = omega arith;
    }
  where
    field : (b : ℕ) → b % 0x8000000000000000 < 0x10000000000000 → b % 0x8000000000000000 / 0x10000000000000 ≡ 0
    field b h = omega arith

pub units_mid : (b x : ℕ) → magnitude b / 0x10000000000000 ≡ suc x → magnitude b < 0x7ff0000000000000 → Units b (0x10000000000000 + b % 0x10000000000000) x
units_mid b x e h =
    record {
      value = subst (λ (v : Float). HasValue v (sign_of b) ((0x10000000000000 + b % 0x10000000000000) * 2 ^ x) (2 ^ 1074)) (sym (of_bits_is b ∙ ap (λ (y : ℕ). of_fields binary64 (sign_of b) y (b % 0x10000000000000)) e)) (mid_field (sign_of b) x (b % 0x10000000000000) (omega arith));
      small = omega arith;
      kept = inr (omega arith);
      pattern = omega arith;
    }

-- every finite number is so many units
pub data Finite (b : ℕ) : Type 0 where
  units : (q k : ℕ) → Units b q k → Finite b

pub finite : (b : ℕ) → magnitude b < 0x7ff0000000000000 → Finite b
finite b h = go (magnitude b / 0x10000000000000) refl
  where
    low : (b : ℕ) → b % 0x8000000000000000 / 0x10000000000000 ≡ 0 → b % 0x8000000000000000 < 0x10000000000000
    low b e = omega arith

    go : (x : ℕ) → magnitude b / 0x10000000000000 ≡ x → Finite b
    go zero e = units (b % 0x10000000000000) 0 (units_low b (low b e))
    go (suc x) e = units (0x10000000000000 + b % 0x10000000000000) x (units_mid b x e h)

pub units_pos : (q k x : ℕ) → x ≡ k * 0x10000000000000 + q → (k ≡ 0) ⊎ (2 ^ 52 ≤ q) → (x ≡ 0 → ⊥) → 0 < q
units_pos q k x e (inl w) n = omega arith
units_pos q k x e (inr w) n = omega arith

-- ---- a number that the format holds rounds to itself

pub exact_bits : (d : Direction) (b q k num den : ℕ) → b < 2 ^ 64 → magnitude b < 0x7ff0000000000000 → Units b q k → 0 < den → num * 2 ^ 1074 ≡ q * 2 ^ k * den → b ≡ to_bits binary64 (round_to d binary64 (sign_of b) num den)
exact_bits d b q k num den B F u D e =
    let s : Sits (num * 2 ^ 1074) (den * 2 ^ k) q exact = record { rest = 0; is = e ∙ mul_assoc q (2 ^ k) den ∙ ap (λ (x : ℕ). q * x) (mul_comm (2 ^ k) den) ∙ sym (add-zero (q * (den * 2 ^ k))); less = mul-pos D (pow_pos k); at = refl } in
    let n : k * 0x10000000000000 + whole_at d (sign_of b) q exact ≡ magnitude b = ap (λ (x : ℕ). k * 0x10000000000000 + x) (whole_exact d (sign_of b) q) ∙ sym u.pattern in
    sym (bits_at d (sign_of b) num den k q exact D u.small u.kept s
    ∙ ap (packed d (sign_of b)) n
    ∙ ap (λ (t : Bool). sign_bit (sign_of b) + cond t (magnitude b) (overflow_bits d (sign_of b))) (lt-ltb (magnitude b) 0x7ff0000000000000 F)
    ∙ pattern_back b (magnitude b) B refl)

pub zero_round : (d : Direction) (s : Bool) (x y : ℕ) → x ≡ 0 → 0 < y → sign_bit s ≡ to_bits binary64 (round_to d binary64 s x y)
zero_round d s x y e Y =
    sym (ap (λ (x : ℕ). to_bits binary64 (round_to d binary64 s x y)) e
    ∙ bits_at d s 0 y 0 0 exact Y (lit< tt) (inl refl) (record { rest = 0; is = sym (add-zero (0 * (y * 1)) ∙ zero-mul (y * 1)); less = mul-pos Y (pow_pos 0); at = refl })
    ∙ ap (λ (x : ℕ). packed d s (0 + x)) (whole_exact d s 0)
    ∙ add-zero (sign_bit s))

-- ---- in units of 2 ^ -1126

finer : (v : Float) (s : Bool) (a c k : ℕ) → HasValue v s a c → HasValue v s (a * k) (c * k)
finer nan s a c k h = h
finer (inf t) s a c k h = h
finer (fin t m e) s a c k h = (h.0, sym (mul_assoc (m * up e) c k) ∙ ap (λ (x : ℕ). x * k) h.1 ∙ mul_right_comm a (down e) k)

-- a subnormal number, shifted up
pub raised_same : (f z : ℕ) → f * 2 ^ z % 2 ^ 64 ≡ f * 2 ^ z → z ≤ 52 → f * 2 ^ z % 2 ^ 64 * 2 ^ (52 - z) ≡ f * 2 ^ 52
raised_same f z e l =
    ap (λ (x : ℕ). x * 2 ^ (52 - z)) e ∙ mul_assoc f (2 ^ z) (2 ^ (52 - z)) ∙ ap (λ (x : ℕ). f * x) (sym (pow-add 2 z (52 - z)) ∙ ap (λ (x : ℕ). 2 ^ x) (join z l))
  where
    join : (z : ℕ) → z ≤ 52 → z + (52 - z) ≡ 52
    join z l = omega arith

pub reads_low : (b m e : ℕ) → magnitude b / 0x10000000000000 ≡ 0 → m * 2 ^ e ≡ b % 0x10000000000000 * 2 ^ 52 → HasValue (of_bits binary64 b) (sign_of b) (m * 2 ^ e) (2 ^ 1126)
reads_low b m e f s =
    subst (λ (x : ℕ). HasValue (of_bits binary64 b) (sign_of b) x (2 ^ 1126)) (ap (λ (x : ℕ). x * 2 ^ 52) (mul-one (b % 0x10000000000000)) ∙ sym s)
    (finer (of_bits binary64 b) (sign_of b) (b % 0x10000000000000 * 2 ^ 0) (2 ^ 1074) (2 ^ 52) (units_low b (field b f)).value)
  where
    field : (b : ℕ) → b % 0x8000000000000000 / 0x10000000000000 ≡ 0 → b % 0x8000000000000000 < 0x10000000000000
    field b f = omega arith

pub reads_mid : (b x m e : ℕ) → magnitude b / 0x10000000000000 ≡ suc x → magnitude b < 0x7ff0000000000000 → m ≡ 0x10000000000000 + b % 0x10000000000000 → e ≡ x + 52 → HasValue (of_bits binary64 b) (sign_of b) (m * 2 ^ e) (2 ^ 1126)
reads_mid b x m e f h em ee =
    subst (λ (y : ℕ). HasValue (of_bits binary64 b) (sign_of b) y (2 ^ 1126)) (mul_assoc (0x10000000000000 + b % 0x10000000000000) (2 ^ x) (2 ^ 52) ∙ ap₂ (λ (y z : ℕ). y * z) (sym em) (sym (pow-add 2 x 52) ∙ ap (λ (y : ℕ). 2 ^ y) (sym ee)))
    (finer (of_bits binary64 b) (sign_of b) ((0x10000000000000 + b % 0x10000000000000) * 2 ^ x) (2 ^ 1074) (2 ^ 52) (units_mid b x f h).value)

-- ---- in units of 2 ^ -2273

-- a number with no sticky bit, as `round_wide` takes it
pub stands_just : {A d w e : ℕ} → 0 < d → A * 2 ^ 2273 ≡ w * 2 ^ e * d → Stands 2273 A d w e
stands_just {A} {d} {w} {e} D p = record { size = w * 2 ^ e; den_pos = D; same = p; cut = jam_is (pow_pos e) (just refl) }
