-- Dekker's product: each factor is split into a high half of 26 digits and a low half. The four products of halves are exact, and so is each step of adding them to -hi,
-- since what hi = x * y leaves of the product has at most 53 digits. So the sum is the fused multiply-add x * y - hi. Assumes nothing.
use mathlib.Core.Path.{◌≡◌, refl, sym, ap, ◌∙◌, subst}
use Prim.Native.Nat.{ℕ, suc, ◌+◌, ◌-◌, ◌*◌, ◌/◌, ◌^◌, ◌≤◌, ◌<◌, ◌∣◌}
use native.Mathlib.Nat.{le_trans, le_of_eq, le_of_lt, lt_of_le_of_lt, lt_of_lt_of_le, mul-pos, mul-le-mul, mul-le-mul_left, mul-le-mul_right, le_of_mul-le-mul_right, mul-lt-mul_of_pos_right, mul-dvd-mul, dvd-add, one-dvd, dvd-mul_left, dvd-mul_right_of_dvd, dvd-mul_left_of_dvd, dvd_of_mul-dvd-mul_right, div-mul_cancel}
use native.Mathlib.Omega.{arith}
use mathlib.Core.Bool.{Bool, true, false}
use lib.Dec.{T, lit<, lit≤}
use lib.Pow.{pow-add, pow_pos, pow_mono, pow-lt}
use lib.Ieee.{Float, Format, prec, emax, low, unlike, round, add, sub, mul, neg}
use lib.Ieee.Exact.{HasValue}
use lib.Ieee.Scale.{finite, overflow}
use Rattle.exactness.proofs.Multiples.{distance, distance_dvd, coarser}
use Rattle.exactness.proofs.Precision.{to_digits, Representable, to_digits-near, to_digits-whole, dropped, dropped_le, dropped_ge, rep_le}
use Rattle.exactness.proofs.Signed.{pos_part, neg_part, dvd-pos_part, dvd-neg_part, product_is}
use Rattle.exactness.proofs.Units.{round_to-digits, has_finite}
use Rattle.exactness.proofs.TwoProduct.{mul_is, fused_is}
use Rattle.exactness.proofs.Nearest.{fused}
use Rattle.exactness.proofs.Scaled.{Scaled, Difference, of_side, of_difference, not_zero, within, neg_scaled, add_round, add_exact, powers, mul_exact, sum_round_at, round_same_difference}

-- ---- a product of 105 or 106 digits, rounded to 53: hi
record High (c w : ℕ) : Type 0 where
  high : ℕ
  same : to_digits 53 (c * 2 ^ w) ≡ high * 2 ^ w
  over : 2 * c ≤ 2 * high + 2 ^ 53
  under : 2 * high ≤ 2 * c + 2 ^ 53
  most : high ≤ 2 ^ 107
  whole : 2 ^ 52 ∣ high

high_of : (c w : ℕ) → 2 ^ 104 ≤ c → c < 2 ^ 106 → High c w
high_of c w g l =
    let u = 2 ^ w in
    let n = c * u in
    let U = pow_pos w in
    let h = to_digits 53 n in
    let d = to_digits-whole 53 n w (dvd-mul_left u c) in
    let e : h ≡ h / u * u = sym (div-mul_cancel u d) in
    let N = to_digits-near 53 n in
    let lt : n < 2 ^ (53 + (53 + w)) = lt_of_lt_of_le (mul-lt-mul_of_pos_right l U) (le_of_eq (sym (pow-add 2 106 w) ∙ ap (λ (x : ℕ). 2 ^ x) (join w))) in
    let ge : 2 ^ (53 + (52 + w) - 1) ≤ n = le_trans (le_of_eq (ap (λ (x : ℕ). 2 ^ x) (split w) ∙ pow-add 2 104 w)) (mul-le-mul_right u g) in
    let b : 2 ^ (53 + w) ≡ 2 ^ 53 * u = pow-add 2 53 w in
    let k = pow_mono (dropped_le 53 n (53 + w) lt) in
    let under : 2 * (h / u) ≤ 2 * c + 2 ^ 53 = le_of_mul-le-mul_right (cut (h / u) u n c _ (2 ^ (53 + w)) (subst (λ (x : ℕ). 2 * x ≤ 2 * n + 2 ^ dropped 53 n) e N.over) k b refl) U in
    record {
      high = h / u;
      same = e;
      over = le_of_mul-le-mul_right (cut c u h (h / u) _ (2 ^ (53 + w)) N.under k b e) U;
      under = under;
      most = near c (h / u) under l;
      whole = dvd_of_mul-dvd-mul_right (2 ^ 52) U (subst (λ (x : ℕ). 2 ^ 52 * u ∣ x) e (subst (λ (x : ℕ). x ∣ h) (pow-add 2 52 w) (coarser (52 + w) _ h (dropped_ge 53 n (52 + w) (lit< tt) ge) N.whole)));
    }
  where
    join : (w : ℕ) → 106 + w ≡ 53 + (53 + w)
    join w = omega arith

    split : (w : ℕ) → 53 + (52 + w) - 1 ≡ 104 + w
    split w = omega arith

    near : (c q : ℕ) → 2 * q ≤ 2 * c + 2 ^ 53 → c < 2 ^ 106 → q ≤ 2 ^ 107
    near c q x y = omega arith

    cut : (c u h q r b : ℕ) → 2 * (c * u) ≤ 2 * h + r → r ≤ b → b ≡ 2 ^ 53 * u → h ≡ q * u → 2 * c * u ≤ (2 * q + 2 ^ 53) * u
    cut c u h q r b x y z t = omega arith

-- ---- sums and products that 53 digits write
-- numbers of 107 digits do not overflow
abbrev pub Room : Format → ℕ → Type 0
Room f w = w + 108 ≤ low f + suc (emax f)

module _ (f : Format) (pf : prec f ≡ 53) where
  rep53 : (v g n : ℕ) → g ≤ 53 + v → 2 ^ v ∣ n → n ≤ 2 ^ g → Representable (prec f) n
  rep53 v g n r d l = subst (λ (p : ℕ). Representable p n) (sym pf) (rep_le 53 v n (lit< tt) d (le_trans l (pow_mono r)))

  below : (w g n : ℕ) → Room f w → g ≤ 107 → n ≤ 2 ^ g → n * 2 ^ w < overflow f
  below w g n r q l = lt_of_le_of_lt (le_trans (mul-le-mul_right (2 ^ w) l) (le_of_eq (sym (pow-add 2 g w)))) (pow-lt (omega arith))

  -- v digits are zeros, and there are g in all
  sum_at : (v g : ℕ) {w : ℕ} {x y : Float} {b P N Q M : ℕ} → g ≤ 53 + v → g ≤ 107 → Room f w → Difference f w x P N → Scaled f w y b Q M → 2 ^ v ∣ P + Q → 2 ^ v ∣ N + M → distance (P + Q) (N + M) ≤ 2 ^ g
      → Difference f w (add f x y) (P + Q) (N + M)
  sum_at v g {w} {x} {y} {b} {P} {N} {Q} {M} r q room X Y d d' l =
      let n = distance (P + Q) (N + M) in
      add_exact X Y (rep53 v g n r (distance_dvd (2 ^ v) (P + Q) (N + M) d d') l) (below w g n room q l)

  product_at : (v g : ℕ) {i j : ℕ} (w : ℕ) {x y : Float} {a b P N Q M : ℕ} → g ≤ 53 + v → g ≤ 107 → Room f w → i + j ≡ w + low f → Scaled f i x a P N → Scaled f j y b Q M → 2 ^ v ∣ a * b → a * b ≤ 2 ^ g
      → Scaled f w (mul f x y) (a * b) (P * Q + N * M) (P * M + N * Q)
  product_at v g {i} {j} w {x} {y} {a} {b} r q room e X Y d l = mul_exact w e X Y (rep53 v g (a * b) r d l) (below w g (a * b) room q l)

-- ---- Veltkamp's splitting: h, which is ±H, is the high half of x, which is ±A, times 2 ^ i
pub record HighHalf (f : Format) (i : ℕ) (s : Bool) (x h : Float) (A H : ℕ) : Type 0 where
  pub value : HasValue x s (A * 2 ^ i) (2 ^ low f)
  pub high : HasValue h s (H * 2 ^ i) (2 ^ low f)
  pub least : 2 ^ 52 ≤ A
  pub small : A < 2 ^ 53
  pub some : 0 < H
  pub most : H ≤ 2 ^ 53
  pub whole : 2 ^ 27 ∣ H
  pub over : A ≤ H + 2 ^ 26
  pub under : H ≤ A + 2 ^ 26
  pub room : Room f i

-- the low half in size
abbrev low_half : Bool → ℕ → ℕ → ℕ
low_half s A H = distance (pos_part s A + neg_part s H) (neg_part s A + pos_part s H)

low_half-le : (s : Bool) (A H : ℕ) → A ≤ H + 2 ^ 26 → H ≤ A + 2 ^ 26 → low_half s A H ≤ 2 ^ 26
low_half-le true A H o u = omega arith
low_half-le false A H o u = omega arith

-- (h + l) * (k + m) is a * b, where l is a - h and m is b - k, each a difference of two numbers
expand : (a a' h h' b b' k k' : ℕ) {ab ab' : ℕ} → ab ≡ a * b + a' * b' → ab' ≡ a * b' + a' * b
    → h * k + h' * k' + (h * (b + k') + h' * (b' + k)) + ((a + h') * k + (a' + h) * k') + ((a + h') * (b + k') + (a' + h) * (b' + k)) + ab'
    ≡ ab + (h * k' + h' * k + (h * (b' + k) + h' * (b + k')) + ((a + h') * k' + (a' + h) * k) + ((a + h') * (b' + k) + (a' + h) * (b + k')))
expand a a' h h' b b' k k' p q = omega arith

-- how large the sums get
record Bounds (hh hh' hl hl' lh lh' ll ll' hi hi' : ℕ) : Type 0 where
  one : distance (hh + hi') (hh' + hi) ≤ 2 ^ 81
  two : distance (hh + hi' + hl) (hh' + hi + hl') ≤ 2 ^ 80
  three : distance (hh + hi' + hl + lh) (hh' + hi + hl' + lh') ≤ 2 ^ 53
  four : distance (hh + hi' + hl + lh + ll) (hh' + hi + hl' + lh' + ll') ≤ 2 ^ 52

apart_le : (P N b : ℕ) → P ≤ N + b → N ≤ P + b → distance P N ≤ b
apart_le P N b h k = omega arith

bounds : (hh hh' hl hl' lh lh' ll ll' ab ab' hi hi' : ℕ) → hh + hl + lh + ll + ab' ≡ ab + (hh' + hl' + lh' + ll')
    → (hl ≤ hl' + 2 ^ 79) × (hl' ≤ hl + 2 ^ 79) → (lh ≤ lh' + 2 ^ 79) × (lh' ≤ lh + 2 ^ 79) → (ll ≤ ll' + 2 ^ 52) × (ll' ≤ ll + 2 ^ 52)
    → (ab + hi' ≤ ab' + hi + 2 ^ 52) × (ab' + hi ≤ ab + hi' + 2 ^ 52) → Bounds hh hh' hl hl' lh lh' ll ll' hi hi'
bounds hh hh' hl hl' lh lh' ll ll' ab ab' hi hi' e a b c d = record {
  one = apart_le (hh + hi') (hh' + hi) (2 ^ 81) (omega arith) (omega arith);
  two = apart_le (hh + hi' + hl) (hh' + hi + hl') (2 ^ 80) (omega arith) (omega arith);
  three = apart_le (hh + hi' + hl + lh) (hh' + hi + hl' + lh') (2 ^ 53) (omega arith) (omega arith);
  four = apart_le (hh + hi' + hl + lh + ll) (hh' + hi + hl' + lh' + ll') (2 ^ 52) (omega arith) (omega arith);
}

-- what the product is more than hi
rounding : (u : Bool) (c h : ℕ) → 2 * c ≤ 2 * h + 2 ^ 53 → 2 * h ≤ 2 * c + 2 ^ 53 → (pos_part u c + neg_part u h ≤ neg_part u c + pos_part u h + 2 ^ 52) × (neg_part u c + pos_part u h ≤ pos_part u c + neg_part u h + 2 ^ 52)
rounding true c h o n = (omega arith, omega arith)
rounding false c h o n = (omega arith, omega arith)

-- ---- Dekker's sum
abbrev pub remainder_of : Format → Float → Float → Float → Float → Float → Float
remainder_of f x y h k hi =
    let l = sub f x h in
    let m = sub f y k in
    add f (add f (add f (sub f (mul f h k) hi) (mul f h m)) (mul f l k)) (mul f l m)

-- it is the fused multiply-add, and finite
abbrev pub IsFused : Format → Float → Float → Float → Float → Type 0
IsFused f x y h k = (remainder_of f x y h k (mul f x y) ≡ fused f x y (neg (mul f x y))) × T (finite (remainder_of f x y h k (mul f x y)))

module _ (f : Format) (pf : prec f ≡ 53) where
  low_half-is : {i : ℕ} {s : Bool} {x h : Float} {A H : ℕ} → HighHalf f i s x h A H → Scaled f i (sub f x h) (low_half s A H) (pos_part s A + neg_part s H) (neg_part s A + pos_part s H)
  unfolding sub
  low_half-is {i} {s} {x} {h} {A} {H} X =
      of_difference
      (sum_at f pf 0 26 (lit≤ tt) (lit≤ tt) X.room (not_zero (of_side f i x s A X.value) (lt_of_lt_of_le (lit< tt) X.least)) (neg_scaled (of_side f i h s H X.high))
      (one-dvd (pos_part s A + neg_part s H)) (one-dvd (neg_part s A + pos_part s H)) (low_half-le s A H X.over X.under))

  module _ {i j : ℕ} (w : ℕ) (e : i + j ≡ w + low f) (room : Room f w) {s t : Bool} {x h y k : Float} {A H B K : ℕ} (X : HighHalf f i s x h A H) (Y : HighHalf f j t y k B K) where
    abbrev u : Bool
    u = unlike s t

    -- hi
    O : High (A * B) w
    O = high_of (A * B) w (mul-le-mul X.least Y.least) (lt_of_le_of_lt (mul-le-mul_left A (le_of_lt Y.small)) (mul-lt-mul_of_pos_right X.small (lit< tt)))

    abbrev c : ℕ
    c = O.high

    hi_has : HasValue (mul f x y) u (c * 2 ^ w) (2 ^ low f)
    hi_has =
        let n = A * B * 2 ^ w in
        let q : to_digits (prec f) n ≡ c * 2 ^ w = ap (λ (p : ℕ). to_digits p n) pf ∙ O.same in
        subst (λ (z : Float). HasValue z u (c * 2 ^ w) (2 ^ low f)) (sym (mul_is f x y s (A * 2 ^ i) t (B * 2 ^ j) n X.value Y.value (powers A i B j w (low f) e)))
        (subst (λ (z : ℕ). HasValue (round f u n (2 ^ low f)) u z (2 ^ low f)) q (round_to-digits f u n (subst (λ (z : ℕ). z < overflow f) (sym q) (below f pf w 107 c room (lit≤ tt) O.most))))

    pub hi_finite : T (finite (mul f x y))
    hi_finite = has_finite (mul f x y) u (c * 2 ^ w) (2 ^ low f) hi_has

    -- the sums, by what the four products are
    sums : {a b d g hh hh' hl hl' lh lh' ll ll' : ℕ} → Scaled f w (mul f h k) a hh hh' → Scaled f w (mul f h (sub f y k)) b hl hl' → Scaled f w (mul f (sub f x h) k) d lh lh' → Scaled f w (mul f (sub f x h) (sub f y k)) g ll ll'
        → 0 < a → b ≤ 2 ^ 79 → d ≤ 2 ^ 79 → g ≤ 2 ^ 52 → hh + hl + lh + ll + neg_part u (A * B) ≡ pos_part u (A * B) + (hh' + hl' + lh' + ll') → (2 ^ 52 ∣ hh) × (2 ^ 52 ∣ hh') → (2 ^ 27 ∣ hl) × (2 ^ 27 ∣ hl')
        → IsFused f x y h k
    unfolding sub
    sums {a} {b} {d} {g} {hh} {hh'} {hl} {hl'} {lh} {lh'} {ll} {ll'} HH HL LH LL some b-le d-le g-le I D E =
        let v = 2 ^ w in
        let p = pos_part u c in
        let n = neg_part u c in
        let P = pos_part u (A * B) in
        let N = neg_part u (A * B) in
        let HI = neg_scaled (of_side f w (mul f x y) u c hi_has) in
        let W = bounds hh hh' hl hl' lh lh' ll ll' P N p n I (wide HL b-le) (wide LH d-le) (wide LL g-le) (rounding u (A * B) c O.over O.under) in
        let D1 = dvd-add (2 ^ 52) D.0 (dvd-neg_part (2 ^ 52) u c O.whole) in
        let D2 = dvd-add (2 ^ 52) D.1 (dvd-pos_part (2 ^ 52) u c O.whole) in
        let T1 = sum_at f pf 52 81 (lit≤ tt) (lit≤ tt) room (not_zero HH some) HI D1 D2 W.one in
        let T2 = sum_at f pf 27 80 (lit≤ tt) (lit≤ tt) room T1 HL (dvd-add (2 ^ 27) (coarser 27 52 _ (lit≤ tt) D1) E.0) (dvd-add (2 ^ 27) (coarser 27 52 _ (lit≤ tt) D2) E.1) W.two in
        let T3 = sum_at f pf 0 53 (lit≤ tt) (lit≤ tt) room T2 LH (one-dvd (hh + n + hl + lh)) (one-dvd (hh' + p + hl' + lh')) W.three in
        let T4 = sum_at f pf 0 52 (lit≤ tt) (lit≤ tt) room T3 LL (one-dvd (hh + n + hl + lh + ll)) (one-dvd (hh' + p + hl' + lh' + ll')) W.four in (
          add_round T3 LL
              ∙ round_same_difference f (hh + n + hl + lh + ll) (hh' + p + hl' + lh' + ll') (P + n) (N + p) v (2 ^ low f) (lines hh hh' hl hl' lh lh' ll ll' P N p n I)
              ∙ sym (fused_is f x y (neg (mul f x y)) s (A * 2 ^ i) t (B * 2 ^ j) HI.side (c * v) (A * B * v) X.value Y.value HI.val (powers A i B j w (low f) e)
              ∙ sum_round_at f u (A * B) HI.side c (2 ^ low f) P N n p v (pow_pos w) (λ z. absurd (omega (arith, mul-le-mul X.least Y.least))) refl HI.is),
          has_finite (remainder_of f x y h k (mul f x y)) _ _ (2 ^ low f) T4.val,
        )
      where
        wide : {z : Float} {n P N b : ℕ} → Scaled f w z n P N → n ≤ b → (P ≤ N + b) × (N ≤ P + b)
        wide {z} {n} {P} {N} {b} S q = let v = within S in (omega arith, omega arith)

        lines : (hh hh' hl hl' lh lh' ll ll' ab ab' hi hi' : ℕ) → hh + hl + lh + ll + ab' ≡ ab + (hh' + hl' + lh' + ll') → hh + hi' + hl + lh + ll + (ab' + hi) ≡ ab + hi' + (hh' + hi + hl' + lh' + ll')
        lines hh hh' hl hl' lh lh' ll ll' ab ab' hi hi' q = omega arith

    pub dekker : IsFused f x y h k
    dekker =
        let p = dvd-pos_part (2 ^ 27) s H X.whole in
        let n = dvd-neg_part (2 ^ 27) s H X.whole in
        let q = dvd-pos_part (2 ^ 27) t K Y.whole in
        let o = dvd-neg_part (2 ^ 27) t K Y.whole in
        let HX = of_side f i h s H X.high in
        let HY = of_side f j k t K Y.high in
        let l_le = low_half-le s A H X.over X.under in
        let m-le = low_half-le t B K Y.over Y.under in
        let hm-le : H * low_half t B K ≤ 2 ^ 79 = mul-le-mul X.most m-le in
        let lk-le : low_half s A H * K ≤ 2 ^ 79 = mul-le-mul l_le Y.most in
        let lm-le : low_half s A H * low_half t B K ≤ 2 ^ 52 = mul-le-mul l_le m-le in
        sums (product_at f pf 54 106 w (lit≤ tt) (lit≤ tt) room e HX HY (mul-dvd-mul (2 ^ 27) (2 ^ 27) X.whole Y.whole) (mul-le-mul X.most Y.most))
        (product_at f pf 27 79 w (lit≤ tt) (lit≤ tt) room e HX (low_half-is Y) (dvd-mul_right_of_dvd (2 ^ 27) X.whole (low_half t B K)) hm-le)
        (product_at f pf 27 79 w (lit≤ tt) (lit≤ tt) room e (low_half-is X) HY (dvd-mul_left_of_dvd (2 ^ 27) Y.whole (low_half s A H)) lk-le)
        (product_at f pf 0 52 w (lit≤ tt) (lit≤ tt) room e (low_half-is X) (low_half-is Y) (one-dvd (low_half s A H * low_half t B K)) lm-le)
        (mul-pos X.some Y.some) hm-le lk-le lm-le
        (expand (pos_part s A) (neg_part s A) (pos_part s H) (neg_part s H) (pos_part t B) (neg_part t B) (pos_part t K) (neg_part t K) (product_is s A t B).0 (product_is s A t B).1) (
          coarser 52 54 _ (lit≤ tt) (dvd-add (2 ^ 54) (mul-dvd-mul (2 ^ 27) (2 ^ 27) p q) (mul-dvd-mul (2 ^ 27) (2 ^ 27) n o)),
          coarser 52 54 _ (lit≤ tt) (dvd-add (2 ^ 54) (mul-dvd-mul (2 ^ 27) (2 ^ 27) p o) (mul-dvd-mul (2 ^ 27) (2 ^ 27) n q)),
        )
        (dvd-add (2 ^ 27) (dvd-mul_right_of_dvd (2 ^ 27) p _) (dvd-mul_right_of_dvd (2 ^ 27) n _), dvd-add (2 ^ 27) (dvd-mul_right_of_dvd (2 ^ 27) p _) (dvd-mul_right_of_dvd (2 ^ 27) n _))
