-- The weights of step 5: their patterns and sizes, and that weights which compare equal have one value. Assumes nothing.
use mathlib.Core.Path.{◌≡◌, sym, ap, ◌∙◌, subst}
use mathlib.Core.Logic.{◌⊎◌, inl, inr}
use mathlib.Core.Bool.{Bool, true, false}
use Prim.Native.Nat.{ℕ, ◌+◌, ◌*◌, ◌%◌, ◌^◌, ◌≤◌, ◌<◌}
use native.Mathlib.Nat.{le_trans, le_of_lt, not-le_of_lt, mul-le-mul, mul-le-mul_left, mul_right_comm, zero-mul, zero-div}
use native.Mathlib.Omega.{arith}
use lib.Dec.{T, eqb, eqb→eq, lit≤}
use lib.Pow.{pow_mono}
use lib.Ieee.{Float, nan, inf, fin, Format, low, up, down, eq, level}
use lib.Ieee.Fits.{and_l, and_r, down_pos}
use lib.Ieee.Nearest.{div_same}
use lib.Ieee.Scale.{finite}
use Rattle.wide.proofs.Nat.{le_or_gt}
use Rattle.operands.proofs.Reading as reading
use Rattle.operands.proofs.Reading.{Finite, units}
use Rattle.exactness.specs.Values.{magnitude, signed, value}
use Rattle.pair.specs.Pair.{bits}
use Rattle.rounding_errors.specs.Spacing.{size_of}
use Rattle.rounding_errors.proofs.Spacing.{size_is, finite_is}
use Rattle.tiny_scores.specs.TinyScores.{Tiny}

-- 2 ^ -104 at least and 2 ^ -50 at most, and more than the pattern of 2 ^ -104
pub record Weight (ux : ℕ) : Type 0 where
  pub number : T (finite (bits ux))
  pub pattern : 0x3970000000000000 < ux % 2 ^ 63
  pub least : 2 ^ 970 ≤ size_of ux
  pub most : size_of ux ≤ 2 ^ 1024

-- ---- q units of 2 ^ k, by the pattern
abbrev Kept : ℕ → ℕ → Type 0
Kept q k = (k ≡ 0) ⊎ (2 ^ 52 ≤ q)

place_le : (q k a : ℕ) → a ≡ k * 0x10000000000000 + q → Kept q k → a ≤ 0x3cc0527dbd87e24d → k ≤ 971
place_le q k a e (inl z) h = omega arith
place_le q k a e (inr g) h = omega arith

-- up to the pattern of 2 ^ -104
small : (q k a : ℕ) → a ≡ k * 0x10000000000000 + q → q < 2 ^ 53 → Kept q k → a ≤ 0x3970000000000000 → q * 2 ^ k ≤ 2 ^ 970
small q k a e s t h =
    elim (le_or_gt k 917) [
      | inl l ↦ le_trans (mul-le-mul (le_of_lt s) (pow_mono l)) (lit≤ tt)
      | inr l ↦ let p = last q k a e t h l in le_trans (mul-le-mul p.0 (pow_mono p.1)) (lit≤ tt)
    ]
  where
    last : (q k a : ℕ) → a ≡ k * 0x10000000000000 + q → Kept q k → a ≤ 0x3970000000000000 → 917 < k → (q ≤ 2 ^ 52) × (k ≤ 918)
    last q k a e (inl z) h l = absurd (let w : ⊥ = omega arith in w)
    last q k a e (inr g) h l = (omega arith, omega arith)

-- from it on
large : (q k a : ℕ) → a ≡ k * 0x10000000000000 + q → q < 2 ^ 53 → Kept q k → 0x3970000000000000 < a → (2 ^ 52 ≤ q) × (918 ≤ k)
large q k a e s (inl z) h = absurd (let w : ⊥ = omega arith in w)
large q k a e s (inr g) h = (g, omega arith)

pub weight : (ux : ℕ) → Tiny ux → Weight ux
weight ux t = go (reading.finite ux (omega (arith, top)))
  where
    top : ux % 2 ^ 63 ≤ 0x3cc0527dbd87e24d
    top = omega (arith, t.upto)

    over : (q k : ℕ) → size_of ux ≡ q * 2 ^ k → q * 2 ^ k ≤ 2 ^ 970 → ⊥
    over q k e h = not-le_of_lt t.above (le_trans (mul-le-mul_left _ (subst (λ (n : ℕ). n ≤ 2 ^ 970) (sym e) h)) (lit≤ tt))

    go : Finite ux → Weight ux
    go (units q k u) =
        let m = size_is ux q k u in
        let p : 0x3970000000000000 < ux % 2 ^ 63 = elim (le_or_gt (ux % 2 ^ 63) 0x3970000000000000) [
          | inl l ↦ absurd (over q k m (small q k (ux % 2 ^ 63) u.pattern u.small u.kept l))
          | inr l ↦ l
        ] in
        let f = large q k (ux % 2 ^ 63) u.pattern u.small u.kept p in
        record {
          number = finite_is ux q k u;
          pattern = p;
          least = subst (λ (n : ℕ). 2 ^ 970 ≤ n) (sym m) (le_trans (lit≤ tt) (mul-le-mul f.0 (pow_mono f.1)));
          most = subst (λ (n : ℕ). n ≤ 2 ^ 1024) (sym m) (le_trans (mul-le-mul (le_of_lt u.small) (pow_mono (place_le q k (ux % 2 ^ 63) u.pattern u.kept top))) (lit≤ tt));
        }

-- ---- floats that compare equal have one value
level_value : (s t : Bool) (a b m n : ℕ) → T (level s a t b) → (a ≡ b → m ≡ n) → (a ≡ 0 → m ≡ 0) → signed s m ≡ signed t n
level_value true true a b m n h e z = ap (signed true) (e (eqb→eq a b (and_l (eqb a b) true h)))
level_value false false a b m n h e z = ap (signed false) (e (eqb→eq a b (and_l (eqb a b) true h)))
level_value true false a b m n h e z =
    let x = z (eqb→eq a 0 (and_r (eqb a b) (eqb a 0) h)) in
    ap (signed true) x ∙ ap (signed false) (sym x ∙ e (eqb→eq a b (and_l (eqb a b) (eqb a 0) h)))
level_value false true a b m n h e z =
    let x = z (eqb→eq a 0 (and_r (eqb a b) (eqb a 0) h)) in
    ap (signed false) x ∙ ap (signed true) (sym x ∙ e (eqb→eq a b (and_l (eqb a b) (eqb a 0) h)))

pub equal_value : (f : Format) (x y : Float) → T (finite x) → T (finite y) → T (eq x y) → value f x ≡ value f y
unfolding eq
equal_value f (fin s m e) (fin t n d) X Y h =
    level_value s t (m * up e * down d) (n * up d * down e) (magnitude f (fin s m e)) (magnitude f (fin t n d)) h
    (λ q. div_same (m * up e * 2 ^ low f) (down e) (n * up d * 2 ^ low f) (down d) (down_pos e) (down_pos d)
    (mul_right_comm (m * up e) (2 ^ low f) (down d) ∙ ap (λ (z : ℕ). z * 2 ^ low f) q ∙ mul_right_comm (n * up d) (down e) (2 ^ low f)))
    (λ q. div_same (m * up e * 2 ^ low f) (down e) 0 (down d) (down_pos e) (down_pos d)
    (mul_right_comm (m * up e) (2 ^ low f) (down d) ∙ ap (λ (z : ℕ). z * 2 ^ low f) q ∙ zero-mul (2 ^ low f) ∙ sym (zero-mul (down e))) ∙ zero-div (down d))
equal_value f nan y X Y h = absurd X
equal_value f (inf s) y X Y h = absurd X
equal_value f (fin s m e) nan X Y h = absurd Y
equal_value f (fin s m e) (inf t) X Y h = absurd Y
