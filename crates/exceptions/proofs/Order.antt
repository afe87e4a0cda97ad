-- The order of finite floats. `NotBelow x y`, that y is not below x, is transitive by cases on the signs; so `lt` is, and an x on one side of z is no y on the other. Assumes nothing.
use mathlib.Core.Bool.{Bool, true, false, not}
use Prim.Native.Nat.{ℕ, ◌+◌, ◌*◌, ◌<◌, ◌≤◌}
use native.Mathlib.Nat.{zero-mul}
use native.Mathlib.Omega.{arith}
use lib.Dec.{T, ltb, eqb, ltb→lt, nltb→le, eqb→eq, T_not, not_T}
use lib.Ieee.{Float, nan, inf, fin, lt, eq, below, level, up, down}
use lib.Ieee.Fits.{down_pos, and_l, and_r}
use lib.Ieee.Positive.{through}
use lib.Ieee.Scale.{finite}

-- y is not below x
abbrev pub NotBelow : Float → Float → Type 0
NotBelow x y = T (not (lt y x))

nltb : (a b : ℕ) → b ≤ a → T (not (ltb a b))
nltb a b h = not_T (ltb a b) (λ t. let k = ltb→lt a b t in omega arith)

-- a / q is zero, so a / r is
gone : (a q r : ℕ) → 0 < q → a * q ≤ 0 → a * r ≤ 0
gone a q r Q h =
    let z = zero-mul r in
    let w = zero-mul q in
    let k : a * r ≤ 0 * q = through a 0 0 q q r Q (omega arith) (omega arith) in
    omega arith

below_trans : (s t u : Bool) (a p b q c r : ℕ) → 0 < p → 0 < q → 0 < r
    → T (not (below t (b * p) s (a * q))) → T (not (below u (c * q) t (b * r))) → T (not (below u (c * p) s (a * r)))
below_trans false false false a p b q c r P Q R h k =
    nltb (c * p) (a * r) (through a b c p q r Q (nltb→le (b * p) (a * q) h) (nltb→le (c * q) (b * r) k))
below_trans false false true a p b q c r P Q R h k =
    let kk = nltb→le 0 (c * q + b * r) k in
    let hh = nltb→le (b * p) (a * q) h in
    let c0 = gone c q p Q (omega arith) in
    let b0 = gone b r p R (omega arith) in
    let a0 = gone a q r Q (omega arith) in
    nltb 0 (c * p + a * r) (omega arith)
below_trans false true false a p b q c r P Q R h k =
    let hh = nltb→le 0 (b * p + a * q) h in
    let a0 = gone a q r Q (omega arith) in
    nltb (c * p) (a * r) (omega arith)
below_trans false true true a p b q c r P Q R h k =
    let hh = nltb→le 0 (b * p + a * q) h in
    let kk = nltb→le (b * r) (c * q) k in
    let a0 = gone a q r Q (omega arith) in
    let b0 = gone b p r P (omega arith) in
    let c0 = gone c q p Q (omega arith) in
    nltb 0 (c * p + a * r) (omega arith)
below_trans true t false a p b q c r P Q R h k = tt
below_trans true false true a p b q c r P Q R h k =
    let kk = nltb→le 0 (c * q + b * r) k in
    let c0 = gone c q p Q (omega arith) in
    nltb (a * r) (c * p) (omega arith)
below_trans true true true a p b q c r P Q R h k =
    nltb (a * r) (c * p) (through c b a r q p Q (nltb→le (b * r) (c * q) k) (nltb→le (a * q) (b * p) h))

pub not_below_trans : (x y z : Float) → T (finite x) → T (finite y) → T (finite z) → NotBelow x y → NotBelow y z → NotBelow x z
unfolding lt
not_below_trans (fin s m e) (fin t n d) (fin u k g) X Y Z h j =
    below_trans s t u (m * up e) (down e) (n * up d) (down d) (k * up g) (down g) (down_pos e) (down_pos d) (down_pos g) h j
not_below_trans nan y z X Y Z h j = absurd X
not_below_trans (inf s) y z X Y Z h j = absurd X
not_below_trans (fin s m e) nan z X Y Z h j = absurd Y
not_below_trans (fin s m e) (inf t) z X Y Z h j = absurd Y
not_below_trans (fin s m e) (fin t n d) nan X Y Z h j = absurd Z
not_below_trans (fin s m e) (fin t n d) (inf u) X Y Z h j = absurd Z

pub is_fin : (x y : Float) → T (finite y) → T (eq x y) → T (finite x)
unfolding eq
is_fin nan y Y h = absurd h
is_fin (inf s) nan Y h = absurd Y
is_fin (inf s) (inf t) Y h = absurd Y
is_fin (inf s) (fin t n d) Y h = absurd h
is_fin (fin s m e) y Y h = tt

level_not_below : (s t : Bool) (a b : ℕ) → T (level s a t b) → T (not (below t b s a)) × T (not (below s a t b))
level_not_below false false a b h = let e = eqb→eq a b (and_l (eqb a b) true h) in (nltb b a (omega arith), nltb a b (omega arith))
level_not_below true true a b h = let e = eqb→eq a b (and_l (eqb a b) true h) in (nltb a b (omega arith), nltb b a (omega arith))
level_not_below false true a b h =
    let e = eqb→eq a b (and_l (eqb a b) (eqb a 0) h) in
    let z = eqb→eq a 0 (and_r (eqb a b) (eqb a 0) h) in
    (nltb 0 (b + a) (omega arith), tt)
level_not_below true false a b h =
    let e = eqb→eq a b (and_l (eqb a b) (eqb a 0) h) in
    let z = eqb→eq a 0 (and_r (eqb a b) (eqb a 0) h) in
    (tt, nltb 0 (a + b) (omega arith))

pub eq_not_below : (x y : Float) → T (finite x) → T (finite y) → T (eq x y) → NotBelow x y × NotBelow y x
unfolding eq lt
eq_not_below (fin s m e) (fin t n d) X Y h = level_not_below s t (m * up e * down d) (n * up d * down e) h
eq_not_below nan y X Y h = absurd X
eq_not_below (inf s) y X Y h = absurd X
eq_not_below (fin s m e) nan X Y h = absurd Y
eq_not_below (fin s m e) (inf t) X Y h = absurd Y

below_not_above : (s t : Bool) (a b : ℕ) → T (below s a t b) → T (not (below t b s a))
below_not_above false false a b h = let k = ltb→lt a b h in nltb b a (omega arith)
below_not_above false true a b h = absurd h
below_not_above true false a b h = tt
below_not_above true true a b h = let k = ltb→lt b a h in nltb a b (omega arith)

pub lt_not_below : (x y : Float) → T (finite x) → T (finite y) → T (lt x y) → NotBelow x y
unfolding lt
lt_not_below (fin s m e) (fin t n d) X Y h = below_not_above s t (m * up e * down d) (n * up d * down e) h
lt_not_below nan y X Y h = absurd X
lt_not_below (inf s) y X Y h = absurd X
lt_not_below (fin s m e) nan X Y h = absurd Y
lt_not_below (fin s m e) (inf t) X Y h = absurd Y

stable : (b : Bool) → (T (not b) → ⊥) → T b
stable true h = tt
stable false h = h tt

pub lt_trans : (x y z : Float) → T (finite x) → T (finite y) → T (finite z) → T (lt x y) → T (lt y z) → T (lt x z)
lt_trans x y z X Y Z h k = stable (lt x z) (λ w. T_not (lt y z) (not_below_trans z x y Z X Y w (lt_not_below x y X Y h)) k)

-- x is not below z, and y is: x is not y
pub miss_below : (x y z : Float) → T (finite y) → T (finite z) → T (lt y z) → T (not (lt x z)) → T (eq x y) → ⊥
miss_below x y z Y Z h w q =
    let X = is_fin x y Y q in
    T_not (lt y z) (not_below_trans z x y Z X Y w (eq_not_below x y X Y q).0) h

-- x is below z, and y is above it
pub miss_above : (x y z : Float) → T (finite y) → T (finite z) → T (lt z y) → T (lt x z) → T (eq x y) → ⊥
miss_above x y z Y Z h w q =
    let X = is_fin x y Y q in
    T_not (lt z y) (not_below_trans y x z Y X Z (eq_not_below x y X Y q).1 (lt_not_below x z X Z w)) h

pub miss_at : (x z : Float) → T (finite z) → T (lt x z) → T (eq x z) → ⊥
miss_at x z Z w q = T_not (lt x z) (eq_not_below x z (is_fin x z Z q) Z q).1 w

pub hit_not_below : (x z : Float) → T (finite z) → T (eq x z) → T (not (lt x z))
hit_not_below x z Z q = (eq_not_below x z (is_fin x z Z q) Z q).1
