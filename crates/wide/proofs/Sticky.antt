-- `jammed n u` as a relation, `Jam n u m`: m is n / u, or m is odd and n / u lies strictly between m - 1 and m + 1. No other m does.
-- So a jammed number can be shifted again, scaled, added to an even number or taken from one. Assumes nothing.
use Rattle.std.proofs.Common.{◌≡◌, ℕ, zero, suc, ◌+◌, ◌-◌, ◌*◌, ◌/◌, ◌%◌, ◌^◌, ◌<◌, ◌≤◌, Bool, true, false, cond, T, eqb, ◌⊎◌, sym, refl, ap, ◌∙◌, subst, ap₂, inl, inr, le_trans, le_of_eq, lt_of_lt_of_le, lt_of_le_of_lt, add-zero, mul-le-mul_right, mod-lt, mul_assoc, add-mul, lt_of_mul-lt-mul_right, mul-lt-mul_of_pos_right, mul-pos, one-mul, div-add-mod', le_of_mul-le-mul_right, arith, eqb→eq, pow-add, eq-eqb, ne_eqb}
use native.Mathlib.Nat.{mul-mod_left}
use lib.Dec.{eqb_refl}
use lib.Arith.{digits_div, digits_mod}
use Rattle.wide.specs.Words.{sticky, jammed}
use Rattle.wide.proofs.Nat.{le_or_gt, next_mul, sub_mul}

pub data Jam (n u m : ℕ) : Type 0 where
  just : n ≡ m * u → Jam n u m
  near : m % 2 ≡ 1 → m * u < n + u → n < m * u + u → Jam n u m

-- ---- the sticky bit, by cases

pub sticky_none : (q r : ℕ) → r ≡ 0 → sticky q r ≡ q
sticky_none q r e = ap (λ (b : Bool). cond b q (q / 2 * 2 + 1)) (eq-eqb r 0 e)

pub sticky_some : (q r : ℕ) → (r ≡ 0 → ⊥) → sticky q r ≡ q / 2 * 2 + 1
sticky_some q r e = ap (λ (b : Bool). cond b q (q / 2 * 2 + 1)) (ne_eqb r 0 e)

-- only whether a rest is 0 counts
pub sticky_rest : (q r s : ℕ) → (r ≡ 0 → s ≡ 0) → (s ≡ 0 → r ≡ 0) → sticky q r ≡ sticky q s
sticky_rest q r s f g = go (eqb r 0) (eqb→eq r 0) (λ (z : r ≡ 0). subst (λ (x : ℕ). T (eqb x 0)) (sym z) (eqb_refl 0))
  where
    go : (b : Bool) → (T b → r ≡ 0) → (r ≡ 0 → T b) → cond b q (q / 2 * 2 + 1) ≡ sticky q s
    go true h k = sym (sticky_none q s (f (h tt)))
    go false h k = sym (sticky_some q s (λ z. k (g z)))

-- ---- `jammed` and `Jam` are the same

pub jam : (n u : ℕ) → 0 < u → Jam n u (jammed n u)
jam n u U = go (eqb (n % u) 0) (eqb→eq (n % u) 0) (λ (z : n % u ≡ 0). subst (λ (x : ℕ). T (eqb x 0)) (sym z) (eqb_refl 0))
  where
    d : n / u * u + n % u ≡ n
    d = div-add-mod' n u

    odd : (q : ℕ) → q * u + n % u ≡ n → 0 < n % u → n % u < u → (q % 2 ≡ 0) ⊎ (q % 2 ≡ 1) → Jam n u (q / 2 * 2 + 1)
    odd q e p l (inl z) =
        let m : q / 2 * 2 + 1 ≡ q + 1 = omega arith in
        let a : (q / 2 * 2 + 1) * u ≡ q * u + u = ap (λ (x : ℕ). x * u) m ∙ next_mul q u in
        near (omega arith) (omega arith) (omega arith)
    odd q e p l (inr z) =
        let m : q / 2 * 2 + 1 ≡ q = omega arith in
        let a : (q / 2 * 2 + 1) * u ≡ q * u = ap (λ (x : ℕ). x * u) m in
        near (omega arith) (omega arith) (omega arith)

    parity : (q : ℕ) → (q % 2 ≡ 0) ⊎ (q % 2 ≡ 1)
    parity q = low (q % 2) (mod-lt q (omega arith))
      where
        low : (r : ℕ) → r < 2 → (r ≡ 0) ⊎ (r ≡ 1)
        low zero h = inl refl
        low (suc zero) h = inr refl
        low (suc (suc r)) h = absurd (omega arith)

    some : (r : ℕ) → (r ≡ 0 → ⊥) → 0 < r
    some r h = omega arith

    go : (b : Bool) → (T b → n % u ≡ 0) → (n % u ≡ 0 → T b) → Jam n u (cond b (n / u) (n / u / 2 * 2 + 1))
    go true h k = just (sym d ∙ ap (λ (x : ℕ). n / u * u + x) (h tt) ∙ add-zero (n / u * u))
    go false h k = odd (n / u) d (some (n % u) k) (mod-lt n U) (parity (n / u))

pub jam_of : {n u m : ℕ} → 0 < u → m ≡ jammed n u → Jam n u m
jam_of {n} {u} {m} U e = subst (λ (x : ℕ). Jam n u x) (sym e) (jam n u U)

exact_is : {n u m : ℕ} → 0 < u → n ≡ m * u → m ≡ jammed n u
exact_is {n} {u} {m} U e =
    let f : n ≡ m * u + 0 = e ∙ sym (add-zero (m * u)) in
    sym (sticky_none (n / u) (n % u) (ap (λ (x : ℕ). x % u) f ∙ digits_mod m U) ∙ ap (λ (x : ℕ). x / u) f ∙ digits_div m U)

pub jam_is : {n u m : ℕ} → 0 < u → Jam n u m → m ≡ jammed n u
jam_is {n} {u} {m} U (just e) = exact_is U e
jam_is {n} {u} {m} U (near o a b) = go (le_or_gt (m * u) n)
  where
    no : (r : ℕ) → 0 < r → r ≡ 0 → ⊥
    no r h e = omega arith

    -- the quotient and the rest, and m from the quotient
    by : (q r : ℕ) → n ≡ q * u + r → r < u → 0 < r → m ≡ q / 2 * 2 + 1 → m ≡ jammed n u
    by q r e l p g =
        let d : n / u ≡ q = ap (λ (x : ℕ). x / u) e ∙ digits_div q l in
        let z : n % u ≡ r = ap (λ (x : ℕ). x % u) e ∙ digits_mod q l in
        g ∙ ap (λ (x : ℕ). x / 2 * 2 + 1) (sym d) ∙ sym (sticky_some (n / u) (n % u) (λ w. no r p (sym z ∙ w)))

    above : m * u ≤ n → (r : ℕ) → n ≡ m * u + r → m ≡ jammed n u
    above h zero e = exact_is U (e ∙ add-zero (m * u))
    above h (suc r) e = by m (suc r) e (omega arith) (omega arith) (omega arith)

    pred : (m : ℕ) → m % 2 ≡ 1 → m ≡ m - 1 + 1
    pred m o = omega arith

    go : (m * u ≤ n) ⊎ (n < m * u) → m ≡ jammed n u
    go (inl h) = above h (n - m * u) (omega arith)
    go (inr h) =
        let k : m * u ≡ (m - 1) * u + u = ap (λ (x : ℕ). x * u) (pred m o) ∙ next_mul (m - 1) u in
        by (m - 1) (n + u - m * u) (omega arith) (omega arith) (omega arith) (odd m o)
      where
        odd : (m : ℕ) → m % 2 ≡ 1 → m ≡ (m - 1) / 2 * 2 + 1
        odd m o = omega arith

-- ---- again, at a wider unit

pub even_mul : (k v : ℕ) → v % 2 ≡ 0 → k * v % 2 ≡ 0
even_mul k v h =
    let e : v ≡ v / 2 * 2 = omega arith in
    let f : k * v ≡ k * (v / 2) * 2 = ap (λ (x : ℕ). k * x) e ∙ sym (mul_assoc k (v / 2) 2) in
    omega arith

pub even_pow : (t : ℕ) → 0 < t → 2 ^ t % 2 ≡ 0
even_pow (suc t) h = ap (λ (x : ℕ). x % 2) (ap (λ (x : ℕ). 2 ^ x) (last t) ∙ pow-add 2 t 1) ∙ mul-mod_left (2 ^ t) 2
  where
    last : (t : ℕ) → suc t ≡ t + 1
    last t = omega arith
even_pow zero h = absurd (omega arith)

pub jam_jam : {n u m v k : ℕ} → 0 < u → v % 2 ≡ 0 → Jam n u m → Jam m v k → Jam n (v * u) k
jam_jam {n} {u} {m} {v} {k} U E (just e) (just f) = just (e ∙ ap (λ (x : ℕ). x * u) f ∙ mul_assoc k v u)
jam_jam {n} {u} {m} {v} {k} U E (just e) (near o p q) =
    let a : m * u < (k * v + v) * u = mul-lt-mul_of_pos_right q U in
    let b : k * v * u < (m + v) * u = mul-lt-mul_of_pos_right p U in
    let a' : (k * v + v) * u ≡ k * (v * u) + v * u = add-mul (k * v) v u ∙ ap (λ (x : ℕ). x + v * u) (mul_assoc k v u) in
    let b' : k * v * u ≡ k * (v * u) = mul_assoc k v u in
    let b'' : (m + v) * u ≡ m * u + v * u = add-mul m v u in
    near o (omega arith) (omega arith)
jam_jam {n} {u} {m} {v} {k} U E (near o p q) (just f) = absurd (no (m % 2) o (ap (λ (x : ℕ). x % 2) f ∙ even_mul k v E))
  where
    no : (r : ℕ) → r ≡ 1 → r ≡ 0 → ⊥
    no r a b = omega arith
jam_jam {n} {u} {m} {v} {k} U E (near i0 i1 i2) (near j0 j1 j2) =
    let a : (m + 1) * u ≤ (k * v + v) * u = mul-le-mul_right u (omega arith) in
    let b : (k * v + 1) * u ≤ (m + v) * u = mul-le-mul_right u (omega arith) in
    let a' : (k * v + v) * u ≡ k * (v * u) + v * u = add-mul (k * v) v u ∙ ap (λ (x : ℕ). x + v * u) (mul_assoc k v u) in
    let a'' : (m + 1) * u ≡ m * u + u = next_mul m u in
    let b' : (k * v + 1) * u ≡ k * (v * u) + u = add-mul (k * v) 1 u ∙ ap₂ (λ (x y : ℕ). x + y) (mul_assoc k v u) (one-mul u) in
    let b'' : (m + v) * u ≡ m * u + v * u = add-mul m v u in
    near j0 (omega arith) (omega arith)

pub jam_scale : {n u m : ℕ} (c : ℕ) → 0 < c → Jam n u m → Jam (n * c) (u * c) m
jam_scale {n} {u} {m} c C (just e) = just (ap (λ (x : ℕ). x * c) e ∙ mul_assoc m u c)
jam_scale {n} {u} {m} c C (near o a b) =
    let e : m * u * c ≡ m * (u * c) = mul_assoc m u c in
    near o
    (lt_of_lt_of_le (lt_of_le_of_lt (le_of_eq (sym e)) (mul-lt-mul_of_pos_right a C)) (le_of_eq (add-mul n u c)))
    (lt_of_lt_of_le (mul-lt-mul_of_pos_right b C) (le_of_eq (add-mul (m * u) u c ∙ ap (λ (x : ℕ). x + u * c) e)))

-- ---- an even number added, and taken from

pub jam_add : {n u m : ℕ} (x : ℕ) → x % 2 ≡ 0 → Jam n u m → Jam (x * u + n) u (x + m)
jam_add {n} {u} {m} x X (just e) = just (ap (λ (z : ℕ). x * u + z) e ∙ sym (add-mul x m u))
jam_add {n} {u} {m} x X (near o a b) =
    let e : (x + m) * u ≡ x * u + m * u = add-mul x m u in
    near (omega arith) (omega arith) (omega arith)

pub jam_sub : {n u m : ℕ} (x : ℕ) → x % 2 ≡ 0 → m < x → Jam n u m → Jam (x * u - n) u (x - m)
jam_sub {n} {u} {m} x X l (just e) = just (ap (λ (z : ℕ). x * u - z) e ∙ sym (sub_mul x m u))
jam_sub {n} {u} {m} x X l (near o a b) =
    let e : (x - m) * u ≡ x * u - m * u = sub_mul x m u in
    let k : (m + 1) * u ≤ x * u = mul-le-mul_right u (omega arith) in
    let k' : (m + 1) * u ≡ m * u + u = next_mul m u in
    near (omega arith) (omega arith) (omega arith)

-- ---- bounds

pub jam_ge : {n u m : ℕ} (t : ℕ) → 0 < u → t * u ≤ n → Jam n u m → t ≤ m
jam_ge {n} {u} {m} t U h (just e) = le_of_mul-le-mul_right (le_trans h (le_of_eq e)) U
jam_ge {n} {u} {m} t U h (near o a b) =
    let k : (m + 1) * u ≡ m * u + u = next_mul m u in
    let l : t < m + 1 = lt_of_mul-lt-mul_right u (omega arith) in
    omega arith

pub jam_below : {n u m : ℕ} (t : ℕ) → t % 2 ≡ 0 → n < t * u → Jam n u m → m < t
jam_below {n} {u} {m} t E h (just e) = lt_of_mul-lt-mul_right u (lt_of_le_of_lt (le_of_eq (sym e)) h)
jam_below {n} {u} {m} t E h (near o a b) =
    let k : (t + 1) * u ≡ t * u + u = next_mul t u in
    let l : m < t + 1 = lt_of_mul-lt-mul_right u (omega arith) in
    odd m t l o E
  where
    odd : (m t : ℕ) → m < t + 1 → m % 2 ≡ 1 → t % 2 ≡ 0 → m < t
    odd m t l o E = omega arith

pub jam_lt : {n u m : ℕ} (t : ℕ) → 0 < u → t % 2 ≡ 0 → m < t → Jam n u m → n < t * u
jam_lt {n} {u} {m} t U E h (just e) = subst (λ (x : ℕ). x < t * u) (sym e) (mul-lt-mul_of_pos_right h U)
jam_lt {n} {u} {m} t U E h (near o a b) =
    let k : (m + 1) * u ≤ t * u = mul-le-mul_right u (more m t o E h) in
    let l : (m + 1) * u ≡ m * u + u = next_mul m u in
    omega arith
  where
    more : (m t : ℕ) → m % 2 ≡ 1 → t % 2 ≡ 0 → m < t → m + 1 ≤ t
    more m t o e h = omega arith

pub jam_pos : {n u m : ℕ} → 0 < u → 0 < m → Jam n u m → 0 < n
jam_pos {n} {u} {m} U M (just e) = subst (λ (x : ℕ). 0 < x) (sym e) (mul-pos M U)
jam_pos {n} {u} {m} U M (near o a b) =
    let k : 1 * u ≤ m * u = mul-le-mul_right u M in
    let l : 1 * u ≡ u = one-mul u in
    omega arith

-- a multiple of the unit loses nothing
pub jam_exact : {n u m : ℕ} (k : ℕ) → n ≡ k * u → Jam n u m → n ≡ m * u
jam_exact {n} {u} {m} k e (just f) = f
jam_exact {n} {u} {m} k e (near o a b) =
    let p : (k + 1) * u ≡ k * u + u = next_mul k u in
    let q : (m + 1) * u ≡ m * u + u = next_mul m u in
    let r : m < k + 1 = lt_of_mul-lt-mul_right u (omega arith) in
    let s : k < m + 1 = lt_of_mul-lt-mul_right u (omega arith) in
    e ∙ ap (λ (x : ℕ). x * u) (equal k m r s)
  where
    equal : (k m : ℕ) → m < k + 1 → k < m + 1 → k ≡ m
    equal k m r s = omega arith
