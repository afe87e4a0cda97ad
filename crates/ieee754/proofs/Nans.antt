-- NaN operands: what comes of them on patterns and on floats, and where there is none. Assumes nothing.
use mathlib.Core.Path.{◌≡◌, refl, sym, ap, ◌∙◌}
use mathlib.Core.Bool.{Bool, true, false, cond, true≢false}
use mathlib.Core.List.{List, [], ◌∷◌}
use Prim.Native.Nat.{ℕ, ◌+◌, ◌*◌, ◌/◌, ◌%◌, ◌^◌, ◌≤◌, ◌<◌}
use native.Mathlib.Omega.{arith}
use borrow.Author.Tests.{le-ltb, lt-ltb, ltb-true}
use lib.Dec.{T}
use lib.Ieee.{Float, nan, inf, fin, binary64, fits, is_nan, nan_bits, of_bits, to_bits}
use lib.Ieee.Bits.{of_bits-to_bits, nan_bits_is, nan_bits_above}
use Rattle.rounding.specs.declared.Direction.{Direction}
use Rattle.rounding.specs.declared.Direction.TheVariants.{Nearest, Down}
use Rattle.ieee754.specs.Operations.{Product, invalid, infinite, exactly, product, plus, fused_multiply_add, round_to_integral, scale_b, quiet, first_nan, fused_bits, round_bits, floor_bits, scale_bits}
use Rattle.ieee754.specs.Nans.{Quiets, SameFloats}
use Rattle.ieee754.proofs.Fits.{fused_fits, integral_fits, scale_fits}

-- ---- which patterns are a NaN's
pub nan_pattern : (x : ℕ) → 0x7ff0000000000000 < x % 2 ^ 63 → nan_bits binary64 x ≡ true
nan_pattern x h = nan_bits_above binary64 x ∙ lt-ltb _ _ h

pub number_pattern : (x : ℕ) → x % 2 ^ 63 ≤ 0x7ff0000000000000 → nan_bits binary64 x ≡ false
number_pattern x h = nan_bits_above binary64 x ∙ le-ltb _ _ h

above : (x : ℕ) → nan_bits binary64 x ≡ true → 0x7ff0000000000000 < x % 2 ^ 63
above x h = ltb-true _ _ (sym (nan_bits_above binary64 x) ∙ h)

-- ---- what a NaN is returned as
-- above the fraction are the sign and a field of ones
high : (x : ℕ) → 0x7ff0000000000000 < x % 2 ^ 63 → x / 2 ^ 52 ≡ x / 2 ^ 63 * 2048 + 2047
high x h = omega arith

parts : (x : ℕ) → x ≡ x / 2 ^ 52 * 2 ^ 52 + x / 2 ^ 51 % 2 * 2 ^ 51 + x % 2 ^ 51
parts x = omega arith

large : (x : ℕ) → 0x7ff0000000000000 < x % 2 ^ 63 → 0x7ff0000000000000 < (x / 2 ^ 52 * 2 ^ 52 + 2 ^ 51 + x % 2 ^ 51) % 2 ^ 63
large x h = omega arith

pub quiets : Quiets
unfolding quiet
quiets x h =
    let l = above x h in (
      record { nan = nan_pattern _ (large x l); sign = omega arith; payload = omega arith; top = omega arith },
      λ y r. same x y _ _ (parts y) (high y (above y r.nan) ∙ ap (λ (s : ℕ). s * 2048 + 2047) r.sign ∙ sym (high x l)) r.top r.payload,
    )
  where
    same : (x y a t : ℕ) {p : ℕ} → y ≡ a * 2 ^ 52 + t * 2 ^ 51 + p → a ≡ x / 2 ^ 52 → t ≡ 1 → p ≡ x % 2 ^ 51 → y ≡ x / 2 ^ 52 * 2 ^ 52 + 2 ^ 51 + x % 2 ^ 51
    same x y a t e f g h = omega arith

-- ---- the operands in order
pub nan_first : (x : ℕ) (xs : List ℕ) (r : ℕ) → 0x7ff0000000000000 < x % 2 ^ 63 → quiet x ≡ first_nan (x ∷ xs) r
unfolding first_nan
nan_first x xs r h = sym (ap (λ (b : Bool). cond b (quiet x) (first_nan xs r)) (nan_pattern x h))

pub number_first : (x : ℕ) (xs : List ℕ) (r : ℕ) → x % 2 ^ 63 ≤ 0x7ff0000000000000 → first_nan xs r ≡ first_nan (x ∷ xs) r
unfolding first_nan
number_first x xs r h = sym (ap (λ (b : Bool). cond b (quiet x) (first_nan xs r)) (number_pattern x h))

-- the last of them
pub number_last : (x : ℕ) (r : ℕ) → x % 2 ^ 63 ≤ 0x7ff0000000000000 → r ≡ first_nan (x ∷ []) r
unfolding first_nan
number_last x r h = number_first x [] r h

pub fused_by : (d : Direction) (a b c : ℕ) → first_nan (a ∷ b ∷ c ∷ []) (to_bits binary64 (fused_multiply_add d (of_bits binary64 a) (of_bits binary64 b) (of_bits binary64 c))) ≡ fused_bits d a b c
unfolding fused_bits
fused_by d a b c = refl

pub fused_numbers : (d : Direction) (a b c : ℕ) → a % 2 ^ 63 ≤ 0x7ff0000000000000 → b % 2 ^ 63 ≤ 0x7ff0000000000000 → c % 2 ^ 63 ≤ 0x7ff0000000000000
    → to_bits binary64 (fused_multiply_add d (of_bits binary64 a) (of_bits binary64 b) (of_bits binary64 c)) ≡ fused_bits d a b c
fused_numbers d a b c x y z = number_last c _ z ∙ number_first b (c ∷ []) _ y ∙ number_first a (b ∷ c ∷ []) _ x ∙ fused_by d a b c

-- ---- on floats
pub only_nan : (x : Float) → is_nan x ≡ true → x ≡ nan
unfolding is_nan
only_nan nan e = refl
only_nan (inf s) e = absurd (true≢false (sym e))
only_nan (fin s m x) e = absurd (true≢false (sym e))

pub nan_read : (x : ℕ) → nan_bits binary64 x ≡ true → of_bits binary64 x ≡ nan
nan_read x h = only_nan (of_bits binary64 x) (sym (nan_bits_is binary64 x) ∙ h)

-- a result that is a NaN where the operand x is one, and else what follows: what is returned is read as it
read_first : (x : ℕ) (xs : List ℕ) (r : ℕ) (f : Float) → (of_bits binary64 x ≡ nan → nan ≡ f) → of_bits binary64 (first_nan xs r) ≡ f → of_bits binary64 (first_nan (x ∷ xs) r) ≡ f
unfolding first_nan
read_first x xs r f n h = go (nan_bits binary64 x) refl
  where
    go : (b : Bool) → nan_bits binary64 x ≡ b → of_bits binary64 (cond (nan_bits binary64 x) (quiet x) (first_nan xs r)) ≡ f
    go true e = ap (λ (b : Bool). of_bits binary64 (cond b (quiet x) (first_nan xs r))) e ∙ nan_read (quiet x) (quiets x e).0.nan ∙ n (nan_read x e)
    go false e = ap (λ (b : Bool). of_bits binary64 (cond b (quiet x) (first_nan xs r))) e ∙ h

-- fused multiply-add of a NaN
product_nan : (x : Float) → product x nan ≡ invalid
product_nan nan = refl
product_nan (inf s) = refl
product_nan (fin s m e) = refl

plus_nan : (d : Direction) (p : Product) → nan ≡ plus d p nan
unfolding plus
plus_nan d invalid = refl
plus_nan d (infinite s) = refl
plus_nan d (exactly s a c) = refl

fused_nan_x : (d : Direction) (x y z : Float) → x ≡ nan → nan ≡ fused_multiply_add d x y z
unfolding fused_multiply_add
fused_nan_x d x y z e = ap (λ (v : Float). plus d (product v y) z) (sym e)

fused_nan_y : (d : Direction) (x y z : Float) → y ≡ nan → nan ≡ fused_multiply_add d x y z
unfolding fused_multiply_add
fused_nan_y d x y z e = sym (ap (λ (v : Float). plus d (product x v) z) e ∙ ap (λ (p : Product). plus d p z) (product_nan x))

fused_nan_z : (d : Direction) (x y z : Float) → z ≡ nan → nan ≡ fused_multiply_add d x y z
unfolding fused_multiply_add
fused_nan_z d x y z e = plus_nan d (product x y) ∙ ap (plus d (product x y)) (sym e)

-- one operand: an operation on floats that gives a NaN for a NaN
read_one : (op : Float → Float) → nan ≡ op nan → ((v : Float) → T (fits binary64 (op v))) → (x : ℕ) → of_bits binary64 (first_nan (x ∷ []) (to_bits binary64 (op (of_bits binary64 x)))) ≡ op (of_bits binary64 x)
unfolding first_nan
read_one op n f x =
    let v = of_bits binary64 x in
    read_first x [] (to_bits binary64 (op v)) (op v) (λ e. n ∙ ap op (sym e)) (of_bits-to_bits binary64 (op v) (f v))

pub same_floats : SameFloats
unfolding first_nan fused_bits round_bits floor_bits scale_bits
same_floats = record {
  fused = λ d a b c.
      let u = of_bits binary64 a in
      let v = of_bits binary64 b in
      let w = of_bits binary64 c in
      let f = fused_multiply_add d u v w in
      let r = to_bits binary64 f in
      read_first a (b ∷ c ∷ []) r f (fused_nan_x d u v w) (read_first b (c ∷ []) r f (fused_nan_y d u v w) (read_first c [] r f (fused_nan_z d u v w) (of_bits-to_bits binary64 f (fused_fits d u v w))));
  round = read_one (round_to_integral Nearest) refl (integral_fits Nearest);
  floor = read_one (round_to_integral Down) refl (integral_fits Down);
  scale = λ x n. read_one (λ v. scale_b Nearest v n) refl (λ v. scale_fits Nearest v n) x;
}
