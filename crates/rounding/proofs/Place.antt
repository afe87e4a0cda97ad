-- Where a fraction lies between two whole numbers. The whole part and the place decide every direction's rounding, equal fractions have
-- the same, and a sticky bit keeps both at each coarser unit. Nothing here is about floats. Assumes nothing.
use mathlib.Core.Path.{◌≡◌, refl, sym, ap, ap₂, ◌∙◌, subst}
use mathlib.Core.Logic.{◌⊎◌, inl, inr}
use Prim.Native.Nat.{ℕ, zero, suc, ◌+◌, ◌-◌, ◌*◌, ◌/◌, ◌%◌, ◌≤◌, ◌<◌, compare, Ordering}
use native.Mathlib.Nat.{le_refl, mul_comm, mul_assoc, mul_left_comm, mul_right_comm, add-mul, mul-le-mul_right, mul-lt-mul_of_pos_right, mul-pos, div-add-mod', mod-lt, zero-mul, one-mul, add-zero}
use native.Mathlib.Numerals.{add-one}
use native.Mathlib.Omega.{arith}
use mathlib.Core.Bool.{Bool, true, false, not, cond}
use lib.Dec.{T, is_le, compare_is_eq, eqb, leb→le, nleb→lt, eqb→eq, eqb_refl}
use lib.Arith.{digits_div, digits_mod, lt_of_le-ne}
use lib.Ieee.{nearest}
use borrow.Author.Tests.{eq-eqb, ne_eqb}
use Rattle.wide.proofs.Nat.{next_mul}
use Rattle.wide.proofs.Sticky.{Jam, just, near}
use Rattle.rounding.specs.declared.Direction.{Direction}
use Rattle.rounding.specs.declared.Direction.TheVariants.{Nearest, TowardZero, Up, Down}
use Rattle.rounding.specs.Rounding.{whole}

-- ---- what `compare` says

abbrev pub Compares : Ordering → ℕ → ℕ → Type 0
Compares Ordering.lt a b = a < b
Compares Ordering.eq a b = a ≡ b
Compares Ordering.gt a b = b < a

pub compares : (a b : ℕ) → Compares (compare a b) a b
compares a b = go (compare a b) (leb→le a b) (nleb→lt a b) (eqb→eq a b) (λ (e : a ≡ b). subst (λ (x : ℕ). T (eqb a x)) e (eqb_refl a))
  where
    go : (o : Ordering) → (T (is_le o) → a ≤ b) → (T (not (is_le o)) → b < a) → (T (compare_is_eq o) → a ≡ b) → (a ≡ b → T (compare_is_eq o)) → Compares o a b
    go Ordering.lt h k e n = lt_of_le-ne (h tt) n
    go Ordering.eq h k e n = e tt
    go Ordering.gt h k e n = k tt

-- ---- places

pub data Place : Type 0 where
  exact under half over : Place

-- r / u, with r below u, lies at p
abbrev pub At : Place → ℕ → ℕ → Type 0
At exact r u = r ≡ 0
At under r u = (0 < r) × (r * 2 < u)
At half r u = (0 < r) × (r * 2 ≡ u)
At over r u = (0 < r) × (u < r * 2)

abbrev placed : ℕ → Ordering → Place
placed zero o = exact
placed (suc r) Ordering.lt = under
placed (suc r) Ordering.eq = half
placed (suc r) Ordering.gt = over

abbrev pub place : ℕ → ℕ → Place
place r u = placed r (compare (r * 2) u)

pub place_at : (r u : ℕ) → At (place r u) r u
place_at r u = go r (compare (r * 2) u) (compares (r * 2) u)
  where
    go : (r : ℕ) (o : Ordering) → Compares o (r * 2) u → At (placed r o) r u
    go zero o c = refl
    go (suc r) Ordering.lt c = (omega arith, c)
    go (suc r) Ordering.eq c = (omega arith, c)
    go (suc r) Ordering.gt c = (omega arith, c)

-- only one place fits
pub at_one : (p q : Place) (r u : ℕ) → At p r u → At q r u → p ≡ q
at_one exact exact r u h k = refl
at_one exact under r u h k = absurd (omega arith)
at_one exact half r u h k = absurd (omega arith)
at_one exact over r u h k = absurd (omega arith)
at_one under exact r u h k = absurd (omega arith)
at_one under under r u h k = refl
at_one under half r u h k = absurd (omega arith)
at_one under over r u h k = absurd (omega arith)
at_one half exact r u h k = absurd (omega arith)
at_one half under r u h k = absurd (omega arith)
at_one half half r u h k = refl
at_one half over r u h k = absurd (omega arith)
at_one over exact r u h k = absurd (omega arith)
at_one over under r u h k = absurd (omega arith)
at_one over half r u h k = absurd (omega arith)
at_one over over r u h k = refl

-- n / u has the whole part q and the place p
pub record Sits (n u q : ℕ) (p : Place) : Type 0 where
  pub rest : ℕ
  pub is : n ≡ q * u + rest
  pub less : rest < u
  pub at : At p rest u

pub sits : (n u : ℕ) → 0 < u → Sits n u (n / u) (place (n % u) u)
sits n u h = record { rest = n % u; is = sym (div-add-mod' n u); less = mod-lt n h; at = place_at (n % u) u }

pub sits_div : {n u q : ℕ} {p : Place} → Sits n u q p → n / u ≡ q
sits_div {n} {u} {q} s = ap (λ (x : ℕ). x / u) s.is ∙ digits_div q s.less

pub sits_mod : {n u q : ℕ} {p : Place} (s : Sits n u q p) → n % u ≡ s.rest
sits_mod {n} {u} {q} s = ap (λ (x : ℕ). x % u) s.is ∙ digits_mod q s.less

pub sits_place : {n u q : ℕ} {p : Place} → Sits n u q p → place (n % u) u ≡ p
sits_place {n} {u} {q} {p} s = at_one (place (n % u) u) p (n % u) u (place_at (n % u) u) (subst (λ (x : ℕ). At p x u) (sym (sits_mod s)) s.at)

-- ---- the whole number, from the whole part and the place

abbrev pub above : ℕ → Place → ℕ
above q exact = q
above q under = suc q
above q half = suc q
above q over = suc q

abbrev pub closest : ℕ → Place → ℕ
closest q exact = q
closest q under = q
closest q half = q + q % 2
closest q over = suc q

abbrev pub whole_at : Direction → Bool → ℕ → Place → ℕ
whole_at Nearest s q p = closest q p
whole_at TowardZero s q p = q
whole_at Up s q p = cond s q (above q p)
whole_at Down s q p = cond s (above q p) q

module _ (q r u : ℕ) where
  nearest_at : (p : Place) (o : Ordering) → 0 < u → Compares o (r * 2) u → At p r u → nearest q o ≡ closest q p
  nearest_at exact Ordering.lt U c a = refl
  nearest_at exact Ordering.eq U c a = absurd (omega arith)
  nearest_at exact Ordering.gt U c a = absurd (omega arith)
  nearest_at under Ordering.lt U c a = refl
  nearest_at under Ordering.eq U c a = absurd (omega arith)
  nearest_at under Ordering.gt U c a = absurd (omega arith)
  nearest_at half Ordering.lt U c a = absurd (omega arith)
  nearest_at half Ordering.eq U c a = refl
  nearest_at half Ordering.gt U c a = absurd (omega arith)
  nearest_at over Ordering.lt U c a = absurd (omega arith)
  nearest_at over Ordering.eq U c a = absurd (omega arith)
  nearest_at over Ordering.gt U c a = refl

  above_at : (p : Place) → At p r u → cond (eqb r 0) q (suc q) ≡ above q p
  above_at exact a = ap (λ (b : Bool). cond b q (suc q)) (eq-eqb r 0 a)
  above_at under a = ap (λ (b : Bool). cond b q (suc q)) (ne_eqb r 0 (λ e. omega arith))
  above_at half a = ap (λ (b : Bool). cond b q (suc q)) (ne_eqb r 0 (λ e. omega arith))
  above_at over a = ap (λ (b : Bool). cond b q (suc q)) (ne_eqb r 0 (λ e. omega arith))

pub whole_at_lem : (d : Direction) (s : Bool) {n u q : ℕ} {p : Place} → 0 < u → Sits n u q p → whole d s n u ≡ whole_at d s q p
whole_at_lem Nearest s {n} {u} {q} {p} U h =
    ap₂ (λ (x y : ℕ). nearest x (compare (y * 2) u)) (sits_div h) (sits_mod h)
    ∙ nearest_at q h.rest u p (compare (h.rest * 2) u) U (compares (h.rest * 2) u) h.at
whole_at_lem TowardZero s U h = sits_div h
whole_at_lem Up s {n} {u} {q} {p} U h = ap₂ (λ (x y : ℕ). cond s x (cond (eqb y 0) x (suc x))) (sits_div h) (sits_mod h) ∙ ap (λ (x : ℕ). cond s q x) (above_at q h.rest u p h.at)
whole_at_lem Down s {n} {u} {q} {p} U h = ap₂ (λ (x y : ℕ). cond s (cond (eqb y 0) x (suc x)) x) (sits_div h) (sits_mod h) ∙ ap (λ (x : ℕ). cond s x q) (above_at q h.rest u p h.at)

pub whole_exact : (d : Direction) (s : Bool) (q : ℕ) → whole_at d s q exact ≡ q
whole_exact Nearest s q = refl
whole_exact TowardZero s q = refl
whole_exact Up true q = refl
whole_exact Up false q = refl
whole_exact Down true q = refl
whole_exact Down false q = refl

-- it is the whole part, or one more
pub near_whole : (d : Direction) (s : Bool) (q : ℕ) (p : Place) → (whole_at d s q p ≡ q) ⊎ (whole_at d s q p ≡ suc q)
near_whole d s q p = direction d s
  where
    tie : (r : ℕ) → r < 2 → (q + r ≡ q) ⊎ (q + r ≡ suc q)
    tie zero h = inl (add-zero q)
    tie (suc zero) h = inr (add-one q)
    tie (suc (suc r)) h = absurd (omega arith)

    near : (p : Place) → (closest q p ≡ q) ⊎ (closest q p ≡ suc q)
    near exact = inl refl
    near under = inl refl
    near half = tie (q % 2) (mod-lt q (omega arith))
    near over = inr refl

    up : (p : Place) → (above q p ≡ q) ⊎ (above q p ≡ suc q)
    up exact = inl refl
    up under = inr refl
    up half = inr refl
    up over = inr refl

    direction : (d : Direction) (s : Bool) → (whole_at d s q p ≡ q) ⊎ (whole_at d s q p ≡ suc q)
    direction Nearest s = near p
    direction TowardZero s = inl refl
    direction Up true = inl refl
    direction Up false = up p
    direction Down true = up p
    direction Down false = inl refl

pub whole_ge : (d : Direction) (s : Bool) (q : ℕ) (p : Place) → q ≤ whole_at d s q p
whole_ge d s q p = elim (near_whole d s q p) [
  | inl e ↦ subst (λ (x : ℕ). q ≤ x) (sym e) (le_refl q)
  | inr e ↦ subst (λ (x : ℕ). q ≤ x) (sym e) (omega arith)
]

pub whole_le : (d : Direction) (s : Bool) (q : ℕ) (p : Place) → whole_at d s q p ≤ suc q
whole_le d s q p = elim (near_whole d s q p) [
  | inl e ↦ subst (λ (x : ℕ). x ≤ suc q) (sym e) (omega arith)
  | inr e ↦ subst (λ (x : ℕ). x ≤ suc q) (sym e) (le_refl (suc q))
]

pub whole_next : (d : Direction) (s : Bool) (n u : ℕ) → 0 < u → whole d s n u ≤ suc (n / u)
whole_next d s n u U = subst (λ (x : ℕ). x ≤ suc (n / u)) (sym (whole_at_lem d s U (sits n u U))) (whole_le d s (n / u) (place (n % u) u))

-- ---- equal fractions

scaled_at : (p : Place) (r v u : ℕ) → 0 < u → At p r v → At p (r * u) (v * u)
scaled_at exact r v u U h = ap (λ (x : ℕ). x * u) h ∙ zero-mul u
scaled_at under r v u U h = (mul-pos h.0 U, subst (λ (x : ℕ). x < v * u) (mul_right_comm r 2 u) (mul-lt-mul_of_pos_right h.1 U))
scaled_at half r v u U h = (mul-pos h.0 U, mul_right_comm r u 2 ∙ ap (λ (x : ℕ). x * u) h.1)
scaled_at over r v u U h = (mul-pos h.0 U, subst (λ (x : ℕ). v * u < x) (mul_right_comm r 2 u) (mul-lt-mul_of_pos_right h.1 U))

sits_scale : {n u q : ℕ} {p : Place} (c : ℕ) → 0 < c → Sits n u q p → Sits (n * c) (u * c) q p
sits_scale {n} {u} {q} {p} c C h =
    record {
      rest = h.rest * c;
      is = ap (λ (x : ℕ). x * c) h.is ∙ add-mul (q * u) h.rest c ∙ ap (λ (x : ℕ). x + h.rest * c) (mul_assoc q u c);
      less = mul-lt-mul_of_pos_right h.less C;
      at = scaled_at p h.rest u c C h.at;
    }

-- n / u is m / v
pub sits_same : {n u m v q : ℕ} {p : Place} → 0 < u → 0 < v → n * v ≡ m * u → Sits n u q p → Sits m v q p
sits_same {n} {u} {m} {v} {q} {p} U W e h =
    let a : Sits (m * u) (v * u) (m / v) (place (m % v) v) = sits_scale u U (sits m v W) in
    let b : Sits (m * u) (v * u) q p = subst (λ (x : ℕ). Sits x (v * u) q p) e (subst (λ (x : ℕ). Sits (n * v) x q p) (mul_comm u v) (sits_scale v W h)) in
    subst (λ (x : ℕ). Sits m v x p) (sym (sits_div a) ∙ sits_div b) (subst (λ (x : Place). Sits m v (m / v) x) (sym (sits_place a) ∙ sits_place b) (sits m v W))

pub whole_same : (d : Direction) (s : Bool) (n u m v : ℕ) → 0 < u → 0 < v → n * v ≡ m * u → whole d s n u ≡ whole d s m v
whole_same d s n u m v U W e = let h = sits n u U in whole_at_lem d s U h ∙ sym (whole_at_lem d s W (sits_same U W e h))

-- ---- a sticky bit keeps the whole part and the place at each unit that is a multiple of four

-- x lies strictly between r - 1 and r + 1 of the unit u; r is odd
odd_at : (p : Place) (r g u x : ℕ) → r % 2 ≡ 1 → r < g * 4 → r * u < x + u → x < r * u + u → 0 < u → At p r (g * 4) → At p x (g * 4 * u)
odd_at exact r g u x o l a b U h = absurd (omega arith)
odd_at under r g u x o l a b U h =
    let i : (r + 1) * 2 ≤ g * 4 = omega arith in
    let j : (r + 1) * 2 * u ≤ g * 4 * u = mul-le-mul_right u i in
    let e : (r + 1) * 2 * u ≡ r * u * 2 + u * 2 = simp (add-mul, mul_assoc, mul_comm, mul_left_comm, one-mul) in
    let k : 1 * u ≤ r * u = mul-le-mul_right u (omega arith) in
    omega arith
odd_at half r g u x o l a b U h = let e : r ≡ g * 2 = omega arith in absurd (omega arith)
odd_at over r g u x o l a b U h =
    let i : g * 4 + 2 ≤ r * 2 = omega arith in
    let j : (g * 4 + 2) * u ≤ r * 2 * u = mul-le-mul_right u i in
    let e : (g * 4 + 2) * u ≡ g * 4 * u + u * 2 = add-mul (g * 4) 2 u ∙ ap (λ (z : ℕ). g * 4 * u + z) (mul_comm 2 u) in
    let e' : r * 2 * u ≡ r * u * 2 = mul_right_comm r 2 u in
    omega arith

pub jam_sits : {n u m q : ℕ} {p : Place} (g : ℕ) → 0 < u → Jam n u m → Sits m (g * 4) q p → Sits n (g * 4 * u) q p
jam_sits {n} {u} {m} {q} {p} g U (just e) s = subst (λ (x : ℕ). Sits x (g * 4 * u) q p) (sym e) (sits_scale u U s)
jam_sits {n} {u} {m} {q} {p} g U (near o a b) s =
    let r = s.rest in
    let e : m * u ≡ q * (g * 4 * u) + r * u = ap (λ (x : ℕ). x * u) s.is ∙ add-mul (q * (g * 4)) r u ∙ ap (λ (x : ℕ). x + r * u) (mul_assoc q (g * 4) u) in
    let odd : r % 2 ≡ 1 = parity m q g r s.is o in
    let k : (r + 1) * u ≤ g * 4 * u = mul-le-mul_right u (omega (arith, s.less)) in
    let k' : (r + 1) * u ≡ r * u + u = next_mul r u in
    let l : 1 * u ≤ r * u = mul-le-mul_right u (omega arith) in
    let l' : 1 * u ≡ u = one-mul u in
    let x = n - q * (g * 4 * u) in
    record { rest = x; is = omega arith; less = omega arith; at = odd_at p r g u x odd s.less (omega arith) (omega arith) U s.at }
  where
    parity : (m q g r : ℕ) → m ≡ q * (g * 4) + r → m % 2 ≡ 1 → r % 2 ≡ 1
    parity m q g r e o =
        let f : q * (g * 4) ≡ q * g * 4 = sym (mul_assoc q g 4) in
        omega arith
