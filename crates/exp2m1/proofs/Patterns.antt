-- Patterns below 2 ^ 63 and up to the one of infinity are ordered as their values are, and the bit of the sign negates. So bounds on the bits of a weight are bounds on the weight.
-- Assumes nothing.
use mathlib.Core.Path.{◌≡◌, refl, sym, ◌∙◌, ap, subst}
use mathlib.Core.Bool.{Bool, true, false, cond}
use mathlib.Core.Logic.{inl, inr}
use Prim.Native.Nat.{ℕ, zero, suc, ◌+◌, ◌*◌, ◌/◌, ◌%◌, ◌^◌, ◌<◌, ◌≤◌}
use native.Mathlib.Nat.{le_trans, not-le_of_lt, eq-or-lt_of_le, mul-le-mul_left, mul-le-mul_right, pow-suc}
use native.Mathlib.Omega.{arith}
use lib.Dec.{T, ltb, eqb, lit<}
use lib.Pow.{pow_pos, pow_mono}
use borrow.Author.Tests.{le-leb, lt-leb, lt-ltb, ne_eqb, ltb-false}
use lib.Ieee.{Float, nan, inf, fin, binary64, odd, of_fields, of_bits, to_bits, le, neg, fits, is_nan}
use lib.Ieee.Exact.{HasValue, odd_sign}
use lib.Ieee.Order.{le_of_values}
use lib.Ieee.Bits.{of_bits-to_bits, to_bits-lt, nan_bits_is, nan_bits_above}
use Rattle.ieee754.proofs.Nans.{only_nan}
use Rattle.pair.specs.Pair.{bits}
use Rattle.wide.proofs.Nat.{le_or_gt}
use Rattle.exponential.specs.Range.{Between, above, below, most, deepest}
use Rattle.exp2m1.specs.Range.{Bounded}

-- the value of a pattern's two fields, in units of 2 ^ -1074
abbrev in_units : ℕ → ℕ → ℕ
in_units zero t = t * 2 ^ 0
in_units (suc x) t = (2 ^ 52 + t) * 2 ^ x

fields_value : (s : Bool) (x t : ℕ) → x < 2047 → HasValue (of_fields binary64 s x t) s (in_units x t) (2 ^ 1074)
unfolding of_fields
fields_value s zero t h = odd_sign 53 s t 0 1074
fields_value s (suc x) t h =
    subst (λ (b : Bool). HasValue (cond b (cond (eqb t 0) (inf s) nan) (odd 53 s (2 ^ 52 + t) x 1074)) s (in_units (suc x) t) (2 ^ 1074))
    (sym (ne_eqb (suc x) 2047 (λ e. omega arith)))
    (odd_sign 53 s (2 ^ 52 + t) x 1074)

at_most : (x t : ℕ) → t < 2 ^ 52 → in_units x t ≤ 2 ^ 52 * 2 ^ x
at_most zero t h = omega arith
at_most (suc x) t h = let e = pow-suc 2 x in let k : (2 ^ 52 + t) * 2 ^ x ≤ 2 ^ 53 * 2 ^ x = mul-le-mul_right (2 ^ x) (omega arith) in omega arith

grow : (x t y u : ℕ) → t < 2 ^ 52 → u < 2 ^ 52 → x * 2 ^ 52 + t ≤ y * 2 ^ 52 + u → in_units x t ≤ in_units y u
grow x t y u h k l = elim (eq-or-lt_of_le (let m : x ≤ y = omega arith in m)) [
  | inl e ↦ subst (λ (z : ℕ). in_units x t ≤ in_units z u) e (same x (omega arith))
  | inr q ↦ less y q
]
  where
    same : (z : ℕ) → t ≤ u → in_units z t ≤ in_units z u
    same zero g = omega arith
    same (suc z) g = mul-le-mul_right (2 ^ z) (omega arith)

    less : (z : ℕ) → x < z → in_units x t ≤ in_units z u
    less zero g = absurd (let w : ⊥ = omega arith in w)
    less (suc z) g =
        le_trans (at_most x t h)
        (le_trans (mul-le-mul_left (2 ^ 52) (pow_mono (let m : x ≤ z = omega arith in m)))
        (mul-le-mul_right (2 ^ z) (let m : 2 ^ 52 ≤ 2 ^ 52 + u = omega arith in m)))

pattern_is : (a : ℕ) → a < 2 ^ 63 → of_bits binary64 a ≡ of_fields binary64 false (a / 2 ^ 52) (a % 2 ^ 52)
unfolding of_bits
pattern_is a h =
    let e : a % 2 ^ 63 / 2 ^ 52 ≡ a / 2 ^ 52 = omega arith in
    ap (λ (b : Bool). of_fields binary64 b (a % 2 ^ 63 / 2 ^ 52) (a % 2 ^ 52)) (lt-leb (2 ^ 63) a h)
    ∙ ap (λ (x : ℕ). of_fields binary64 false x (a % 2 ^ 52)) e

ordered : (a b : ℕ) → a ≤ b → b < 0x7ff0000000000000 → T (le (of_bits binary64 a) (of_bits binary64 b))
ordered a b h k =
    subst (λ (v : Float). T (le v (of_bits binary64 b))) (sym (pattern_is a (omega arith)))
    (subst (λ (v : Float). T (le (of_fields binary64 false (a / 2 ^ 52) (a % 2 ^ 52)) v)) (sym (pattern_is b (omega arith)))
    (le_of_values _ _ (in_units (a / 2 ^ 52) (a % 2 ^ 52)) (2 ^ 1074) (in_units (b / 2 ^ 52) (b % 2 ^ 52)) (2 ^ 1074) (pow_pos 1074) (pow_pos 1074)
    (fields_value false (a / 2 ^ 52) (a % 2 ^ 52) (omega arith))
    (fields_value false (b / 2 ^ 52) (b % 2 ^ 52) (omega arith))
    (mul-le-mul_right (2 ^ 1074) (grow (a / 2 ^ 52) (a % 2 ^ 52) (b / 2 ^ 52) (b % 2 ^ 52) (omega arith) (omega arith) (omega arith)))))

odd_neg : (d q k l : ℕ) → odd d true q k l ≡ neg (odd d false q k l)
unfolding odd neg
odd_neg d zero k l = refl
odd_neg d (suc q) k l = refl

fields_neg : (x t : ℕ) → of_fields binary64 true x t ≡ neg (of_fields binary64 false x t)
unfolding of_fields neg
fields_neg zero t = odd_neg 53 t 0 1074
fields_neg (suc x) t = go (eqb (suc x) 2047) (eqb t 0)
  where
    go : (b c : Bool) → cond b (cond c (inf true) nan) (odd 53 true (2 ^ 52 + t) x 1074) ≡ neg (cond b (cond c (inf false) nan) (odd 53 false (2 ^ 52 + t) x 1074))
    go true true = refl
    go true false = refl
    go false c = odd_neg 53 (2 ^ 52 + t) x 1074

-- a pattern with the sign's bit
negated : (a : ℕ) → a < 2 ^ 63 → of_bits binary64 (2 ^ 63 + a) ≡ neg (of_bits binary64 a)
unfolding of_bits
negated a h =
    let e : (2 ^ 63 + a) % 2 ^ 63 / 2 ^ 52 ≡ a % 2 ^ 63 / 2 ^ 52 = omega arith in
    let g : (2 ^ 63 + a) % 2 ^ 52 ≡ a % 2 ^ 52 = omega arith in
    ap (λ (b : Bool). of_fields binary64 b ((2 ^ 63 + a) % 2 ^ 63 / 2 ^ 52) ((2 ^ 63 + a) % 2 ^ 52)) (le-leb (2 ^ 63) (2 ^ 63 + a) (omega arith))
    ∙ (ap (λ (x : ℕ). of_fields binary64 true x ((2 ^ 63 + a) % 2 ^ 52)) e
    ∙ (ap (λ (t : ℕ). of_fields binary64 true (a % 2 ^ 63 / 2 ^ 52) t) g
    ∙ (fields_neg (a % 2 ^ 63 / 2 ^ 52) (a % 2 ^ 52)
    ∙ ap neg (ap (λ (b : Bool). of_fields binary64 b (a % 2 ^ 63 / 2 ^ 52) (a % 2 ^ 52)) (sym (lt-leb (2 ^ 63) a h))))))

-- ---- NaN
is_nan_lem : (x : Float) → T (fits binary64 x) → ltb 0x7ff0000000000000 (to_bits binary64 x % 2 ^ 63) ≡ is_nan x
is_nan_lem x f = sym (nan_bits_above binary64 (to_bits binary64 x)) ∙ nan_bits_is binary64 (to_bits binary64 x) ∙ ap is_nan (of_bits-to_bits binary64 x f)

pub nan_above : (x : Float) → T (fits binary64 x) → 0x7ff0000000000000 < to_bits binary64 x % 2 ^ 63 → x ≡ nan
nan_above x f h = only_nan x (sym (is_nan_lem x f) ∙ lt-ltb _ _ h)

-- the one NaN has no sign
pub negative_number : (x : Float) → T (fits binary64 x) → 0xc04b000000000000 ≤ to_bits binary64 x → to_bits binary64 x % 2 ^ 63 ≤ 0x7ff0000000000000
unfolding to_bits is_nan
negative_number nan f h = absurd (not-le_of_lt (lit< tt) h)
negative_number (inf s) f h = ltb-false _ _ (is_nan_lem (inf s) f)
negative_number (fin s m e) f h = ltb-false _ _ (is_nan_lem (fin s m e) f)

neg_neg : (v : Float) → neg (neg v) ≡ v
unfolding neg
neg_neg nan = refl
neg_neg (inf true) = refl
neg_neg (inf false) = refl
neg_neg (fin true m e) = refl
neg_neg (fin false m e) = refl

-- ---- a weight between patterns
pub bounded_between : (b : ℕ) (x : Float) → T (fits binary64 x) → Bounded x → b < to_bits binary64 x % 2 ^ 63 → Between (bits b) most deepest x
bounded_between b x f B h =
    let u = to_bits binary64 x in
    let e = of_bits-to_bits binary64 x f in
    let d = B.deep in
    let l = B.large in
    let top = to_bits-lt binary64 x f in
    elim (le_or_gt (2 ^ 63) u) [
      | inl g ↦
          let w : 2 ^ 63 + u % 2 ^ 63 ≡ u = omega arith in
          let n : neg x ≡ of_bits binary64 (u % 2 ^ 63) = ap neg (sym e ∙ ap (of_bits binary64) (sym w) ∙ negated (u % 2 ^ 63) (omega arith)) ∙ neg_neg (of_bits binary64 (u % 2 ^ 63)) in
          below (subst (λ (v : Float). T (le (bits b) v)) (sym n) (ordered b (u % 2 ^ 63) (omega arith) (omega arith)))
          (subst (λ (v : Float). T (le v deepest)) (sym n) (ordered (u % 2 ^ 63) 0x404b000000000000 (omega arith) (lit< tt)))
      | inr g ↦
          let w : u % 2 ^ 63 ≡ u = omega arith in
          above (subst (λ (v : Float). T (le (bits b) v)) e (ordered b u (omega arith) (omega arith)))
          (subst (λ (v : Float). T (le v most)) e (ordered u 0x4090000000000000 (omega arith) (lit< tt)))
    ]
