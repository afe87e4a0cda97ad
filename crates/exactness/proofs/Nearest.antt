-- To nearest a fused multiply-add of finite values is `sum` of lib.Ieee at the exact product and the addend (`fused`). Assumes nothing.
use mathlib.Core.Path.{◌≡◌, refl, sym, ap, ◌∙◌}
use Prim.Native.Nat.{ℕ, ◌+◌, ◌-◌, ◌*◌, ◌≤◌, ◌<◌}
use native.Mathlib.Nat.{zero-mul, mul-pos}
use native.Mathlib.Omega.{arith}
use mathlib.Core.Bool.{Bool, true, false, not, ◌&&◌, beq, cond}
use lib.IntN.{pos}
use lib.Dec.{T, ltb, ltb→lt, nltb→le}
use lib.Pow.{pow_pos}
use lib.Ieee.{Float, nan, inf, fin, Format, binary64, up, down, unlike, round, sum}
use lib.Ieee.Fits.{down_pos}
use lib.Ieee.Scale.{round_same, finite}
use Rattle.rounding.specs.declared.Direction.TheVariants.{Nearest}
use Rattle.rounding.specs.Rounding.{round_to}
use Rattle.rounding.proofs.Rounded.{nearest_is_round}
use Rattle.ieee754.specs.Operations.{sum_to, plus, fused_multiply_add}

-- ---- sums, and the fused multiply-add
and_true : (b : Bool) → b && true ≡ b
and_true true = refl
and_true false = refl

and_false : (b : Bool) → b && false ≡ false
and_false true = refl
and_false false = refl

no_sum : (c : ℕ) → 0 < c → fin false 0 (pos 0) ≡ round binary64 false 0 c
unfolding round
no_sum c C = sym (round_same binary64 false 0 c 0 1 C (pow_pos 0) (sym (zero-mul c)))

sum_nearest : (s : Bool) (a : ℕ) (t : Bool) (b c : ℕ) → 0 < c → sum_to Nearest s a t b c ≡ sum binary64 s a t b c
unfolding sum_to sum
sum_nearest s a t b c C = go (beq s t) (ltb a b) (ltb b a) (ltb→lt a b) (nltb→le a b) (nltb→le b a)
  where
    go : (e l g : Bool) → (T l → a < b) → (T (not l) → b ≤ a) → (T (not g) → a ≤ b)
        → cond e (round_to Nearest binary64 s (a + b) c) (cond l (round_to Nearest binary64 t (b - a) c) (cond g (round_to Nearest binary64 s (a - b) c) (fin false 0 (pos 0))))
        ≡ cond e (round binary64 s (a + b) c) (cond l (round binary64 t (b - a) c) (round binary64 (s && g) (a - b) c))
    go true l g h k m = nearest_is_round binary64 s (a + b) c
    go false true g h k m = nearest_is_round binary64 t (b - a) c
    go false false true h k m = nearest_is_round binary64 s (a - b) c ∙ ap (λ (z : Bool). round binary64 z (a - b) c) (sym (and_true s))
    go false false false h k m =
        let x = k tt in
        let y = m tt in
        let z : a - b ≡ 0 = omega arith in
        no_sum c C ∙ ap (λ (z : Bool). round binary64 z 0 c) (sym (and_false s)) ∙ ap (λ (n : ℕ). round binary64 (s && false) n c) (sym z)

-- x * y + z of finite values, in the format f
abbrev pub fused : Format → Float → Float → Float → Float
fused f (fin s m e) (fin t n d) (fin u p g) = sum f (unlike s t) (m * up e * (n * up d) * down g) u (p * up g * (down e * down d)) (down e * down d * down g)
fused f nan y z = nan
fused f (inf s) y z = nan
fused f (fin s m e) nan z = nan
fused f (fin s m e) (inf t) z = nan
fused f (fin s m e) (fin t n d) nan = nan
fused f (fin s m e) (fin t n d) (inf u) = nan

pub fused_nearest : (x y z : Float) → T (finite x) → T (finite y) → T (finite z) → fused_multiply_add Nearest x y z ≡ fused binary64 x y z
unfolding fused_multiply_add plus
fused_nearest nan y z X Y Z = elim X [ ]
fused_nearest (inf _) y z X Y Z = elim X [ ]
fused_nearest (fin s m e) nan z X Y Z = elim Y [ ]
fused_nearest (fin s m e) (inf _) z X Y Z = elim Y [ ]
fused_nearest (fin s m e) (fin t n d) nan X Y Z = elim Z [ ]
fused_nearest (fin s m e) (fin t n d) (inf _) X Y Z = elim Z [ ]
fused_nearest (fin s m e) (fin t n d) (fin u p g) X Y Z =
    sum_nearest (unlike s t) (m * up e * (n * up d) * down g) u (p * up g * (down e * down d)) (down e * down d * down g)
    (mul-pos (mul-pos (down_pos e) (down_pos d)) (down_pos g))
