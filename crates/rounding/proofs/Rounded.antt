-- `round_to`: to nearest it is the logic's own rounding, and its pattern follows from the digits that are kept and the place of the others,
-- from a significand with a sticky bit too. The direction is a parameter throughout. Assumes nothing.
use mathlib.Core.Path.{◌≡◌, refl, sym, ap, ◌∙◌, subst}
use mathlib.Core.Logic.{◌⊎◌, inl, inr, ⊎_elim}
use Prim.Native.Nat.{ℕ, ◌+◌, ◌-◌, ◌*◌, ◌/◌, ◌%◌, ◌^◌, ◌≤◌, ◌<◌}
use native.Mathlib.Nat.{le_trans, le_of_eq, lt_of_lt_of_le, mul_comm, mul_assoc, zero-add, mul-pos, mul-lt-mul_of_pos_right, div-one, div-div-eq-div-mul, le-div_iff_mul-le, div-lt_iff_lt-mul}
use native.Mathlib.Omega.{arith}
use mathlib.Core.Bool.{Bool}
use lib.Dec.{lit<, lit≤}
use lib.Pow.{pow-add, pow_pos, pow_mono, shr_lt}
use lib.Ieee.{Float, nan, inf, fin, binary64, prec, low, size, units, to_bits}
use lib.Ieee.Digits.{size-le}
use lib.Ieee.Fits.{round_is}
use Rattle.wide.specs.Words.{jammed}
use Rattle.wide.proofs.Sticky.{Jam, jam_of, jam_is, jam_jam, jam_pos, jam_lt}
use Rattle.rounding.specs.declared.Direction.{Direction}
use Rattle.rounding.specs.declared.Direction.TheVariants.{Nearest}
use Rattle.rounding.specs.Rounding.{whole, bounded, round_to, NearestIsRound}
use Rattle.rounding.specs.Machine.{packed, normal_bits, Stands}
use Rattle.rounding.proofs.Place.{Place, under, place, Sits, sits, sits_div, sits_same, jam_sits, whole_at, whole_at_lem, whole_ge, whole_le}
use Rattle.rounding.proofs.Pattern.{size_exact, units_bits}

-- ---- to nearest, it is the logic's own rounding

pub nearest_is_round : NearestIsRound
unfolding round_to
nearest_is_round f s num den = unbounded (units f s (whole Nearest s n (den * 2 ^ (size (n / den) - prec f))) (size (n / den) - prec f)) ∙ sym (round_is f s num den)
  where
    n : ℕ
    n = num * 2 ^ low f

    unbounded : (x : Float) → bounded Nearest f x ≡ x
    unbounded nan = refl
    unbounded (inf s) = refl
    unbounded (fin s m e) = refl

-- ---- the pattern, from the digits that are kept and the place of the others

digits_dropped : (w k q : ℕ) → w / 2 ^ k ≡ q → q < 2 ^ 53 → (k ≡ 0) ⊎ (2 ^ 52 ≤ q) → size w - 53 ≡ k
digits_dropped w k q e hi (inl z) =
    let w' : w ≡ q = sym (div-one w) ∙ ap (λ (x : ℕ). w / 2 ^ x) (sym z) ∙ e in
    few (size w) k (size-le w 53 (subst (λ (x : ℕ). x < 2 ^ 53) (sym w') hi)) z
  where
    few : (z k : ℕ) → z ≤ 53 → k ≡ 0 → z - 53 ≡ k
    few z k h e = omega arith
digits_dropped w k q e hi (inr lo) =
    let l : 2 ^ (52 + k) ≤ w = subst (λ (x : ℕ). x ≤ w) (sym (pow-add 2 52 k)) ((le-div_iff_mul-le (pow_pos k)).0 (subst (λ (x : ℕ). 2 ^ 52 ≤ x) (sym e) lo)) in
    let h : w < 2 ^ (53 + k) = subst (λ (x : ℕ). w < x) (sym (pow-add 2 53 k)) ((div-lt_iff_lt-mul (pow_pos k)).0 (subst (λ (x : ℕ). x < 2 ^ 53) (sym e) hi)) in
    drop (size w) k (size_exact (52 + k) w l (subst (λ (x : ℕ). w < 2 ^ x) (shift k) h))
  where
    shift : (k : ℕ) → 53 + k ≡ 52 + k + 1
    shift k = omega arith

    drop : (z k : ℕ) → z ≡ 52 + k + 1 → z - 53 ≡ k
    drop z k h = omega arith

-- k digits are dropped, q are kept whole, and p is the place of the rest
pub bits_at : (d : Direction) (s : Bool) (num den k q : ℕ) (p : Place) → 0 < den → q < 2 ^ 53 → (k ≡ 0) ⊎ (2 ^ 52 ≤ q) → Sits (num * 2 ^ 1074) (den * 2 ^ k) q p
    → to_bits binary64 (round_to d binary64 s num den) ≡ packed d s (k * 0x10000000000000 + whole_at d s q p)
unfolding round_to
bits_at d s num den k q p D hi o h =
    ap (λ (x : ℕ). to_bits binary64 (bounded d binary64 (units binary64 s (whole d s (num * 2 ^ 1074) (den * 2 ^ x)) x)))
    (digits_dropped (num * 2 ^ 1074 / den) k q (div-div-eq-div-mul (num * 2 ^ 1074) den (2 ^ k) ∙ sits_div h) hi o)
    ∙ ap (λ (x : ℕ). to_bits binary64 (bounded d binary64 (units binary64 s x k))) (whole_at_lem d s (mul-pos D (pow_pos k)) h)
    ∙ units_bits d s (whole_at d s q p) k (le_trans (whole_le d s q p) hi, ⊎_elim (λ z. inl z) (λ g. inr (le_trans g (whole_ge d s q p))) o)

-- ---- the pattern, from a significand with a sticky bit

-- from a size in units of 2 ^ -2337 to the fraction
to_fraction : (num den : ℕ) {S q : ℕ} {p : Place} (k : ℕ) → 0 < den → num * 2 ^ 2337 ≡ S * den → Sits S (2 ^ 1263 * 2 ^ k) q p → Sits (num * 2 ^ 1074) (den * 2 ^ k) q p
to_fraction num den {S} {q} {p} k D e h =
    sits_same (mul-pos (pow_pos 1263) (pow_pos k)) (mul-pos D (pow_pos k)) (scale num S den (2 ^ 1074) (2 ^ 1263) (2 ^ k) e) h
  where
    scale : (num S den A B K : ℕ) → num * (A * B) ≡ S * den → S * (den * K) ≡ num * A * (B * K)
    scale num S den A B K e = sym (mul_assoc S den K) ∙ ap (λ (x : ℕ). x * K) (sym e ∙ sym (mul_assoc num A B)) ∙ mul_assoc (num * A) B K

-- 4 divides 2 ^ j
quarter : (j : ℕ) → 2 ≤ j → 2 ^ (j - 2) * 4 ≡ 2 ^ j
quarter j h = sym (pow-add 2 (j - 2) 2) ∙ ap (λ (x : ℕ). 2 ^ x) (back j h)
  where
    back : (j : ℕ) → 2 ≤ j → j - 2 + 2 ≡ j
    back j h = omega arith

-- one digit more is cut off
pub stands_half : {b num den m h e : ℕ} → Stands b num den m e → h ≡ jammed m 2 → Stands b num den h (e + 1)
stands_half {b} {num} {den} {m} {h} {e} s c =
    record {
      size = s.size;
      den_pos = s.den_pos;
      same = s.same;
      cut = jam_is (pow_pos (e + 1)) (subst (λ (x : ℕ). Jam s.size x h) (mul_comm 2 (2 ^ e) ∙ sym (pow-add 2 e 1)) (jam_jam (pow_pos e) refl (jam_of (pow_pos e) s.cut) (jam_of (lit< tt) c)));
    }

module _ (d : Direction) (s : Bool) {num den m e : ℕ} (h : Stands 2337 num den m e) where
  jam_size : Jam h.size (2 ^ e) m
  jam_size = jam_of (pow_pos e) h.cut

  -- at the unit 2 ^ (1263 + k): m's digits from j on are kept
  kept : (j k : ℕ) → 2 ≤ j → j + e ≡ 1263 + k → Sits (num * 2 ^ 1074) (den * 2 ^ k) (m / 2 ^ j) (place (m % 2 ^ j) (2 ^ j))
  kept j k J E =
      let q = m / 2 ^ j in
      let p = place (m % 2 ^ j) (2 ^ j) in
      let g = 2 ^ (j - 2) in
      let a : Sits m (g * 4) q p = subst (λ (x : ℕ). Sits m x q p) (sym (quarter j J)) (sits m (2 ^ j) (pow_pos j)) in
      let u : g * 4 * 2 ^ e ≡ 2 ^ 1263 * 2 ^ k = ap (λ (x : ℕ). x * 2 ^ e) (quarter j J) ∙ sym (pow-add 2 j e) ∙ ap (λ (x : ℕ). 2 ^ x) E ∙ pow-add 2 1263 k in
      to_fraction num den k h.den_pos h.same (subst (λ (x : ℕ). Sits h.size x q p) u (jam_sits g (pow_pos e) jam_size a))

  -- what is kept of m, as a whole number
  kept_whole : (j : ℕ) → whole_at d s (m / 2 ^ j) (place (m % 2 ^ j) (2 ^ j)) ≡ whole d s m (2 ^ j)
  kept_whole j = sym (whole_at_lem d s (pow_pos j) (sits m (2 ^ j) (pow_pos j)))

  -- m has 53 + j digits, of which j are dropped
  pub bits_leading : (j k : ℕ) → 2 ≤ j → 2 ^ (52 + j) ≤ m → m < 2 ^ (53 + j) → j + e ≡ 1263 + k → to_bits binary64 (round_to d binary64 s num den) ≡ packed d s (k * 0x10000000000000 + whole d s m (2 ^ j))
  bits_leading j k J lo hi E =
      bits_at d s num den k (m / 2 ^ j) (place (m % 2 ^ j) (2 ^ j)) h.den_pos ((div-lt_iff_lt-mul (pow_pos j)).1 (subst (λ (x : ℕ). m < x) (pow-add 2 53 j) hi)) (inr ((le-div_iff_mul-le (pow_pos j)).1 (subst (λ (x : ℕ). x ≤ m) (pow-add 2 52 j) lo))) (kept j k J E)
      ∙ ap (λ (x : ℕ). packed d s (k * 0x10000000000000 + x)) (kept_whole j)

  pub bits_normal : 2 ^ 63 ≤ m → m < 2 ^ 64 → 1252 ≤ e → to_bits binary64 (round_to d binary64 s num den) ≡ packed d s (normal_bits d s m e)
  bits_normal lo hi E = bits_leading 11 (e - 1252) (lit≤ tt) lo hi (omega arith)

  pub bits_subnormal : (j : ℕ) → m < 2 ^ 63 → j + e ≡ 1263 → 11 ≤ j → to_bits binary64 (round_to d binary64 s num den) ≡ packed d s (whole d s m (2 ^ j))
  bits_subnormal j hi E J =
      bits_at d s num den 0 (m / 2 ^ j) (place (m % 2 ^ j) (2 ^ j)) h.den_pos small (inl refl) (kept j 0 (omega arith) (omega arith))
      ∙ ap (λ (x : ℕ). packed d s (0 + x)) (kept_whole j)
      ∙ ap (packed d s) (zero-add (whole d s m (2 ^ j)))
    where
      small : m / 2 ^ j < 2 ^ 53
      small = shr_lt 53 j (lt_of_lt_of_le hi (pow_mono {i = 63} {j = 53 + j} (omega arith)))

  -- less than half of the smallest value
  pub bits_tiny : 0 < m → m < 2 ^ 63 → e < 1200 → to_bits binary64 (round_to d binary64 s num den) ≡ packed d s (whole d s 1 (2 ^ 63))
  bits_tiny lo hi E =
      let S = h.size in
      let a : 0 < S = jam_pos (pow_pos e) lo jam_size in
      let b : S < 2 ^ 1262 = lt_of_lt_of_le (jam_lt (2 ^ 63) (pow_pos e) refl hi jam_size) (le_trans (le_of_eq (sym (pow-add 2 63 e))) (pow_mono {i = 63 + e} {j = 1262} (omega arith))) in
      let c : Sits S (2 ^ 1263 * 2 ^ 0) 0 under = record { rest = S; is = sym (zero-add S); less = lt_of_lt_of_le b (lit≤ tt); at = (a, mul-lt-mul_of_pos_right b (lit< tt)) } in
      bits_at d s num den 0 0 under h.den_pos (lit< tt) (inl refl) (to_fraction num den 0 h.den_pos h.same c)
      ∙ ap (packed d s) (zero-add (whole_at d s 0 under))
      ∙ ap (packed d s) (sym (whole_at_lem d s (pow_pos 63) one))
    where
      one : Sits 1 (2 ^ 63) 0 under
      one = record { rest = 1; is = refl; less = lit< tt; at = (lit< tt, lit< tt) }
