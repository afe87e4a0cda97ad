-- `double_double::error_bits` meets its contract: where neither factor is a NaN, and both are far from the ends of the range, `dekker_error` has it. Assumes nothing.
use mathlib.Core.Path.{◌≡◌, refl, sym, subst, ◌∙◌}
use mathlib.Core.Bool.{true, not, true≢false}
use Prim.Native.Nat.{ℕ}
use lib.Dec.{T}
use lib.Ieee.{Float, nan, inf, fin, binary64, mul, eq, is_nan, fits, of_bits, to_bits}
use lib.Ieee.Bits.{of_bits-to_bits}
use Rattle.operands.specs.Machine.{Middle}
use Rattle.double_double.proofs.Chains.{link}
use Rattle.double_double.proofs.error_bits.Goals as goal

-- where a product is no NaN neither factor is one
factors : (a b hi : Float) → hi ≡ mul binary64 a b → eq hi hi ≡ true → T (not (is_nan a)) × T (not (is_nan b))
unfolding mul eq is_nan
factors a b hi e h = go a b (subst (λ (z : Float). eq z z ≡ true) e h)
  where
    go : (a b : Float) → eq (mul binary64 a b) (mul binary64 a b) ≡ true → T (not (is_nan a)) × T (not (is_nan b))
    go nan b h = absurd (true≢false (sym h))
    go (inf s) nan h = absurd (true≢false (sym h))
    go (inf s) (inf t) h = (tt, tt)
    go (inf s) (fin t n d) h = (tt, tt)
    go (fin s m e) nan h = absurd (true≢false (sym h))
    go (fin s m e) (inf t) h = (tt, tt)
    go (fin s m e) (fin t n d) h = (tt, tt)

-- the pattern that is made of a result
back : {r z : Float} → fits binary64 r ≡ true → r ≡ z → of_bits binary64 (to_bits binary64 r) ≡ z
back {r} {z} f e = of_bits-to_bits binary64 r (subst T (sym f) tt) ∙ e

pub float_to_bits-x : goal.float_to_bits-x
float_to_bits-x c = (factors c.args.a c.args.b c.args.hi c.requires c.if-hi.true).0

pub float_to_bits-y : goal.float_to_bits-y
float_to_bits-y c = (factors c.args.a c.args.b c.args.hi c.requires c.if-hi.true).1

pub dekker_error-requires : goal.dekker_error-requires
dekker_error-requires c = (
  back c.well_formed.0.1 refl,
  back c.well_formed.1.0.1 refl,
  subst (λ (x : ℕ). Middle x) c.field.ensures (c.is_middle.ensures.0 c.if-is_middle.true),
  subst (λ (x : ℕ). Middle x) c.field-then-is_middle.ensures (c.is_middle-then-is_middle.ensures.0 c.if-is_middle-2.true),
  c.requires,
)

pub float_to_bits-result : goal.float_to_bits-result
float_to_bits-result c = c.dekker_error.ensures.1

pub returns-then-is_middle-2 : goal.returns-then-is_middle-2
returns-then-is_middle-2 c = back c.dekker_error.type_inv c.dekker_error.ensures.0

pub returns : goal.returns
returns c = link c.pattern.ensures c.pattern-2.ensures c.pattern-3.ensures c.fma_bits.ensures
