-- A float that passes the test is exactly 2 ^ x - 1, and no other float is. Assumes nothing.
use mathlib.Core.Path.{◌≡◌, refl, sym, ap, ◌∙◌, subst}
use mathlib.Core.Bool.{Bool, true, false, beq, cond}
use mathlib.Core.Logic.{inl, inr}
use Prim.Native.Nat.{ℕ, zero, suc, ◌+◌, ◌-◌, ◌*◌, ◌/◌, ◌^◌, ◌<◌}
use native.Mathlib.Nat.{eq-or-lt_of_le, le_of_suc-le-suc, eq_of_mul-eq-mul_right}
use native.Mathlib.Omega.{arith}
use lib.Dec.{T, eqb→eq, ltb, lit<}
use lib.IntN.{ℤ, pos, negsuc, nat_abs, ◌*ℤ◌}
use lib.Ieee.{Float, fin, unlike, binary64, hid, top, size, fits, of_bits, to_bits, nan, inf}
use lib.Ieee.Bits.{of_bits-to_bits}
use lib.Ieee.Fits.{and_l, and_r}
use lib.Ieee.Scale.{finite}
use Rattle.exactness.specs.Values.{magnitude, sign, signed}
use Rattle.exactness.proofs.Signed.{signed_mul}
use Rattle.exp2m1_whole.specs.Whole.{Exactly}
use Rattle.exp2m1_whole.specs.Table.{every, same, exact}

pub at_each : (t : ℕ → Bool) (n : ℕ) → T (every t n) → (p : ℕ) → p < n → T (t p)
unfolding every
at_each t zero h p l = let z : ⊥ = omega arith in absurd z
at_each t (suc n) h p l = elim (eq-or-lt_of_le (le_of_suc-le-suc l)) [
  | inl e ↦ subst (λ (k : ℕ). T (t k)) (sym e) (and_l (t n) (every t n) h)
  | inr k ↦ at_each t n (and_r (t n) (every t n) h) p k
]

-- ---- the test
same_is : (x y : ℤ) → T (same x y) → x ≡ y
unfolding same
same_is (pos a) (pos b) t = ap pos (eqb→eq a b t)
same_is (pos a) (negsuc b) t = absurd t
same_is (negsuc a) (pos b) t = absurd t
same_is (negsuc a) (negsuc b) t = ap negsuc (eqb→eq a b t)

beq_is : (a b : Bool) → T (beq a b) → a ≡ b
beq_is true true t = refl
beq_is false false t = refl
beq_is true false t = absurd t
beq_is false true t = absurd t

pub passed : (p : ℕ) (r : Float) → T (exact p r) → Exactly p r
unfolding exact
passed p r t =
    let u = and_r (fits binary64 r) _ t in
    let w = and_r (finite r) _ u in
    record {
      held = and_l (fits binary64 r) _ t;
      is_finite = and_l (finite r) _ u;
      negative = beq_is (sign r) (ltb p 53) (and_l (beq (sign r) (ltb p 53)) _ w);
      scaled = same_is _ _ (and_r (beq (sign r) (ltb p 53)) _ w);
    }

-- ---- one float: the bits are those of the sign and the size
pattern : Bool → ℕ → ℕ
pattern s n = let k = size n - 53 in cond s (top binary64) 0 + k * hid binary64 + n / 2 ^ k

pattern_is : (x : Float) → T (finite x) → to_bits binary64 x ≡ pattern (sign x) (magnitude binary64 x)
unfolding to_bits pattern
pattern_is nan t = elim t [ ]
pattern_is (inf _) t = elim t [ ]
pattern_is (fin s m e) t = refl

size_of : (s : Bool) (n : ℕ) → nat_abs (signed s n) ≡ n
size_of false n = refl
size_of true zero = refl
size_of true (suc n) = refl

times : (s : Bool) (n u : ℕ) → nat_abs (signed s n *ℤ pos u) ≡ n * u
times s n u = ap nat_abs (signed_mul s n false u) ∙ size_of (unlike s false) (n * u)

pub one_float : {p : ℕ} {x y : Float} → Exactly p x → Exactly p y → x ≡ y
one_float {p} {x} {y} X Y =
    let s : sign x ≡ sign y = X.negative ∙ sym Y.negative in
    let n : magnitude binary64 x ≡ magnitude binary64 y =
    eq_of_mul-eq-mul_right (2 ^ 53) (lit< tt) (magnitude binary64 x) (magnitude binary64 y)
    (sym (times (sign x) (magnitude binary64 x) (2 ^ 53)) ∙ ap nat_abs (X.scaled ∙ sym Y.scaled) ∙ times (sign y) (magnitude binary64 y) (2 ^ 53)) in
    sym (of_bits-to_bits binary64 x X.held)
    ∙ ap (of_bits binary64) (pattern_is x X.is_finite ∙ ap (λ (b : Bool). pattern b (magnitude binary64 x)) s ∙ ap (pattern (sign y)) n ∙ sym (pattern_is y Y.is_finite))
    ∙ of_bits-to_bits binary64 y Y.held
