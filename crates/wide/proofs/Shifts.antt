-- The right shifts of a number in two words, with the sticky bit. Assumes nothing.
use Rattle.std.proofs.Common.{◌≡◌, ℕ, zero, suc, ◌+◌, ◌-◌, ◌*◌, ◌/◌, ◌%◌, ◌^◌, ◌<◌, ◌≤◌, Bool, true, false, cond, eqb, ltb, ◌⊎◌, sym, refl, ap, ◌∙◌, subst, ap₂, inl, inr, le_of_eq, lt_of_lt_of_le, mod-lt, mul_assoc, suc-mul, mul_comm, add-mul, one-mul, div-add-mod', zero-add, zero-mul, mul-one, mul_right_comm, arith, pow_pos, pow_mono, pow-add, shr_lt, le-ltb, lt-ltb}
use Rattle.std.specs.Prelude.{min}
use Rattle.std.proofs.Math.Nat.{min-eq_left, min-eq_right}
use lib.Arith.{digits_div, digits_mod, digits_lt}
use lib.Pow.{mod-mod-pow}
use Rattle.wide.specs.declared.Wide.{Wide}
use Rattle.wide.specs.Words.{value, sticky, jammed}
use Rattle.wide.proofs.Nat.{le_or_gt, mul_zero, shl}
use Rattle.wide.proofs.Sticky.{Jam, just, near, sticky_rest, jam_of, jam_is, jam_jam, even_pow}

-- ---- a whole word

pub word_jammed : (h l r : ℕ) → l < 2 ^ 64 → r ≡ sticky h l → 0 * 2 ^ 64 + r ≡ jammed (h * 2 ^ 64 + l) (2 ^ 64)
word_jammed h l r L e = zero-add r ∙ e ∙ ap₂ (λ (x y : ℕ). sticky x y) (sym (digits_div h L)) (sym (digits_mod h L))

-- ---- t bits

-- n << 1 << (63 - t): the low t digits of n, at the top of the word
abbrev up : ℕ → ℕ → ℕ
up n t = n * 2 ^ 1 % 2 ^ 64 * 2 ^ (63 - t) % 2 ^ 64

up_is : (n t : ℕ) → t ≤ 63 → up n t ≡ n % 2 ^ t * 2 ^ (64 - t)
up_is n t h =
    ap (λ (x : ℕ). x * 2 ^ (63 - t) % 2 ^ 64) (shl n 1 (omega arith))
    ∙ ap (λ (x : ℕ). x % 2 ^ 64) (mul_assoc (n % 2 ^ 63) 2 (2 ^ (63 - t)) ∙ ap (λ (x : ℕ). n % 2 ^ 63 * x) (sym (pow-add 2 1 (63 - t)) ∙ ap (λ (x : ℕ). 2 ^ x) (one_more t h)))
    ∙ shl (n % 2 ^ 63) (64 - t) (omega arith)
    ∙ ap (λ (x : ℕ). n % 2 ^ 63 % 2 ^ x * 2 ^ (64 - t)) (back t h)
    ∙ ap (λ (x : ℕ). x * 2 ^ (64 - t)) (low n t h)
  where
    one_more : (t : ℕ) → t ≤ 63 → 1 + (63 - t) ≡ 64 - t
    one_more t h = omega arith

    back : (t : ℕ) → t ≤ 63 → 64 - (64 - t) ≡ t
    back t h = omega arith

    low : (n t : ℕ) → t ≤ 63 → n % 2 ^ 63 % 2 ^ t ≡ n % 2 ^ t
    low n t h = subst (λ (x : ℕ). n % 2 ^ x % 2 ^ t ≡ n % 2 ^ t) (whole t h) (mod-mod-pow n (63 - t) t)
      where
        whole : (t : ℕ) → t ≤ 63 → 63 - t + t ≡ 63
        whole t h = omega arith

sixty_four : (t : ℕ) → t ≤ 64 → 2 ^ t * 2 ^ (64 - t) ≡ 2 ^ 64
sixty_four t h = sym (pow-add 2 t (64 - t)) ∙ ap (λ (x : ℕ). 2 ^ x) (back t h)
  where
    back : (t : ℕ) → t ≤ 64 → t + (64 - t) ≡ 64
    back t h = omega arith

module _ (h l t : ℕ) (L : l < 2 ^ 64) (T : t ≤ 63) where
  low_lt : l / 2 ^ t < 2 ^ (64 - t)
  low_lt = shr_lt (64 - t) t (subst (λ (x : ℕ). l < 2 ^ x) (back t T) L)
    where
      back : (t : ℕ) → t ≤ 63 → 64 ≡ 64 - t + t
      back t h = omega arith

  -- the low word of the quotient
  pub low_fits : up h t + l / 2 ^ t < 2 ^ 64
  low_fits =
      subst (λ (x : ℕ). x + l / 2 ^ t < 2 ^ 64) (sym (up_is h t T))
      (lt_of_lt_of_le (digits_lt (mod-lt h (pow_pos t)) low_lt) (le_of_eq (sixty_four t (omega arith))))

  quotient : h * 2 ^ 64 + l ≡ (h / 2 ^ t * 2 ^ 64 + (up h t + l / 2 ^ t)) * 2 ^ t + l % 2 ^ t
  quotient = algebra h (h / 2 ^ t) (h % 2 ^ t) l (l / 2 ^ t) (l % 2 ^ t) (2 ^ t) (2 ^ (64 - t)) (2 ^ 64) (up h t) (sixty_four t (omega arith)) (div-add-mod' h (2 ^ t)) (div-add-mod' l (2 ^ t)) (up_is h t T)
    where
      algebra : (h h1 h0 l l1 l0 A B W u : ℕ) → A * B ≡ W → h1 * A + h0 ≡ h → l1 * A + l0 ≡ l → u ≡ h0 * B → h * W + l ≡ (h1 * W + (u + l1)) * A + l0
      algebra h h1 h0 l l1 l0 A B W u e p q r =
          let a : h * W ≡ h1 * A * W + h0 * W = ap (λ (x : ℕ). x * W) (sym p) ∙ add-mul (h1 * A) h0 W in
          let b : (h1 * W + (u + l1)) * A ≡ h1 * W * A + (u * A + l1 * A) = add-mul (h1 * W) (u + l1) A ∙ ap (λ (x : ℕ). h1 * W * A + x) (add-mul u l1 A) in
          let c : h1 * W * A ≡ h1 * A * W = mul_right_comm h1 W A in
          let d : u * A ≡ h0 * W = ap (λ (x : ℕ). x * A) r ∙ mul_assoc h0 B A ∙ ap (λ (x : ℕ). h0 * x) (mul_comm B A ∙ e) in
          omega arith

  pub bits_jammed : (r : ℕ) → r ≡ sticky (up h t + l / 2 ^ t) (up l t) → h / 2 ^ t * 2 ^ 64 + r ≡ jammed (h * 2 ^ 64 + l) (2 ^ t)
  bits_jammed r e =
      let q = h / 2 ^ t * 2 ^ 64 + (up h t + l / 2 ^ t) in
      let d : (h * 2 ^ 64 + l) / 2 ^ t ≡ q = ap (λ (x : ℕ). x / 2 ^ t) quotient ∙ digits_div q (mod-lt l (pow_pos t)) in
      let m : (h * 2 ^ 64 + l) % 2 ^ t ≡ l % 2 ^ t = ap (λ (x : ℕ). x % 2 ^ t) quotient ∙ digits_mod q (mod-lt l (pow_pos t)) in
      ap (λ (x : ℕ). h / 2 ^ t * 2 ^ 64 + x) e
      ∙ high (h / 2 ^ t) (up h t + l / 2 ^ t) (up l t)
      ∙ sticky_rest q (up l t) (l % 2 ^ t)
      (λ z. mul_zero (l % 2 ^ t) (2 ^ (64 - t)) (pow_pos (64 - t)) (sym (up_is l t T) ∙ z))
      (λ z. up_is l t T ∙ ap (λ (x : ℕ). x * 2 ^ (64 - t)) z ∙ zero-mul (2 ^ (64 - t)))
      ∙ ap₂ (λ (x y : ℕ). sticky x y) (sym d) (sym m)
    where
      -- the sticky bit stays in the low word
      high : (h l r : ℕ) → h * 2 ^ 64 + sticky l r ≡ sticky (h * 2 ^ 64 + l) r
      high h l r = go (eqb r 0)
        where
          go : (b : Bool) → h * 2 ^ 64 + cond b l (l / 2 * 2 + 1) ≡ cond b (h * 2 ^ 64 + l) ((h * 2 ^ 64 + l) / 2 * 2 + 1)
          go true = refl
          go false = omega arith

-- ---- any number of bits

-- a shift by k of at least 64, in two steps
pub two_steps : (n m r k : ℕ) → 64 ≤ k → m ≡ jammed n (2 ^ 64) → r ≡ jammed m (2 ^ (k - 64)) → r ≡ jammed n (2 ^ k)
two_steps n m r k h e f = go (le_or_gt k 64)
  where
    back : (k : ℕ) → 64 ≤ k → k - 64 + 64 ≡ k
    back k h = omega arith

    more : (k : ℕ) → 64 < k → 0 < k - 64
    more k h = omega arith

    equal : (k : ℕ) → 64 ≤ k → k ≤ 64 → k ≡ 64
    equal k h l = omega arith

    once : m ≡ jammed m (2 ^ 0)
    once = jam_is (pow_pos 0) (just (sym (mul-one m)))

    go : (k ≤ 64) ⊎ (64 < k) → r ≡ jammed n (2 ^ k)
    go (inl l) = let z : k ≡ 64 = equal k h l in f ∙ ap (λ (x : ℕ). jammed m (2 ^ (x - 64))) z ∙ sym once ∙ e ∙ ap (λ (x : ℕ). jammed n (2 ^ x)) (sym z)
    go (inr l) =
        jam_is (pow_pos k)
        (subst (λ (x : ℕ). Jam n x r) (sym (pow-add 2 (k - 64) 64) ∙ ap (λ (x : ℕ). 2 ^ x) (back k h))
        (jam_jam (pow_pos 64) (even_pow (k - 64) (more k l)) (jam_of (pow_pos 64) e) (jam_of (pow_pos (k - 64)) f)))

-- past 127 bits the result stays what it is at 127: 0 for 0, else the sticky bit
pub far : (n t r : ℕ) → n < 2 ^ 128 → 127 ≤ t → r ≡ jammed n (2 ^ 127) → r ≡ jammed n (2 ^ t)
far n t r N T e = jam_is (pow_pos t) (go n (2 ^ 127) (2 ^ t) r N (pow_mono {i = 127} {j = t} T) (jam_of (pow_pos 127) e))
  where
    go : (n u v r : ℕ) → n < u * 2 → u ≤ v → Jam n u r → Jam n v r
    go n u v zero l m (just f) = just (f ∙ zero-mul u ∙ sym (zero-mul v))
    go n u v (suc zero) l m j = one n u v l m j
      where
        one : (n u v : ℕ) → n < u * 2 → u ≤ v → Jam n u 1 → Jam n v 1
        one n u v l m (just f) = let a : 1 * u ≡ u = one-mul u in let b : 1 * v ≡ v = one-mul v in near refl (omega arith) (omega arith)
        one n u v l m (near o p q) = let a : 1 * u ≡ u = one-mul u in let b : 1 * v ≡ v = one-mul v in near refl (omega arith) (omega arith)
    go n u v (suc (suc r)) l m j = absurd (many r n u l j)
      where
        many : (r n u : ℕ) → n < u * 2 → Jam n u (suc (suc r)) → ⊥
        many r n u l (just f) = let a : suc (suc r) * u ≡ r * u + u + u = suc-mul (suc r) u ∙ ap (λ (x : ℕ). x + u) (suc-mul r u) in omega arith
        many zero n u l (near o p q) = absurd (omega arith)
        many (suc r) n u l (near o p q) = let a : suc (suc (suc r)) * u ≡ suc r * u + u + u = suc-mul (suc (suc r)) u ∙ ap (λ (x : ℕ). x + u) (suc-mul (suc r) u) in let b : suc r * u ≡ r * u + u = suc-mul r u in omega arith
    go n u v zero l m (near o p q) = absurd (omega arith)

pub shift_jammed : (x y : Wide) (t k r : ℕ) → value x < 2 ^ 128 → k ≡ min t 127 → value y ≡ jammed (value x) (2 ^ 64) → r ≡ jammed (value (cond (ltb k 64) x y)) (2 ^ (k % 64)) → r ≡ jammed (value x) (2 ^ t)
shift_jammed x y t k r X ek ey er = clamped (le_or_gt 127 t)
  where
    at : (k : ℕ) → k ≤ 127 → r ≡ jammed (value (cond (ltb k 64) x y)) (2 ^ (k % 64)) → r ≡ jammed (value x) (2 ^ k)
    at k K e = split (le_or_gt 64 k)
      where
        same : (k : ℕ) → k < 64 → k % 64 ≡ k
        same k l = omega arith

        less : (k : ℕ) → 64 ≤ k → k ≤ 127 → k % 64 ≡ k - 64
        less k l m = omega arith

        split : (64 ≤ k) ⊎ (k < 64) → r ≡ jammed (value x) (2 ^ k)
        split (inl l) = two_steps (value x) (value y) r k l ey (e ∙ ap₂ (λ (b : Bool) (n : ℕ). jammed (value (cond b x y)) (2 ^ n)) (le-ltb k 64 l) (less k l K))
        split (inr l) = e ∙ ap₂ (λ (b : Bool) (n : ℕ). jammed (value (cond b x y)) (2 ^ n)) (lt-ltb k 64 l) (same k l)

    clamped : (127 ≤ t) ⊎ (t < 127) → r ≡ jammed (value x) (2 ^ t)
    clamped (inl l) =
        let e : k ≡ 127 = ek ∙ min-eq_right l in
        far (value x) t r X l (at 127 (omega arith) (subst (λ (k : ℕ). r ≡ jammed (value (cond (ltb k 64) x y)) (2 ^ (k % 64))) e er))
    clamped (inr l) =
        let e : k ≡ t = ek ∙ min-eq_left (small t l) in
        at t (small t l) (subst (λ (k : ℕ). r ≡ jammed (value (cond (ltb k 64) x y)) (2 ^ (k % 64))) e er)
      where
        small : (t : ℕ) → t < 127 → t ≤ 127
        small t l = omega arith
