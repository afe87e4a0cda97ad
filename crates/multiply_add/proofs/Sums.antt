-- The exact sum of two numbers of which one may end in a sticky bit, as `sum_to` has it; and how two numbers are brought to one exponent so
-- that a sticky bit does no harm: a shift of at most 21 digits is exact, and from 22 on nothing cancels. Assumes nothing.
use mathlib.Core.Path.{◌≡◌, refl, sym, ap, ap₂, ◌∙◌, subst}
use mathlib.Core.Logic.{◌≢◌, ◌⊎◌, inl, inr, ⊎_elim}
use Prim.Native.Nat.{ℕ, ◌+◌, ◌-◌, ◌*◌, ◌/◌, ◌%◌, ◌^◌, ◌≤◌, ◌<◌, suc}
use native.Mathlib.Nat.{le_refl, le_trans, le_of_eq, le_of_lt, lt_of_lt_of_le, lt_of_le_of_lt, le_antisymm, add_comm, add-zero, mul-one, mul_assoc, add-mul, mul-le-mul_left, mul-lt-mul_of_pos_right, lt_of_mul-lt-mul_right, eq_of_mul-eq-mul_right, add-le-add, div-add-mod', mod-eq_of_lt, mul-le-mul_right, suc-mul, sub-le, add-mod_left}
use native.Mathlib.Omega.{arith}
use mathlib.Core.Bool.{Bool, true, false, cond, true≢false}
use lib.IntN.{pos}
use lib.Dec.{ltb, lit≤, leb}
use lib.Pow.{pow-add, pow_pos, pow_mono}
use borrow.Author.Tests.{lt-ltb, le-ltb, ltb-true, ltb-false, le-leb, lt-leb}
use lib.Ieee.{fin, binary64, to_bits}
use Rattle.operands.specs.declared.Signed.{Signed}
use Rattle.wide.specs.Words.{value, jammed}
use Rattle.wide.proofs.Nat.{le_or_gt, sub_mul}
use Rattle.wide.proofs.Sticky.{Jam, jam_of, jam_is, jam_add, jam_sub, jam_lt, jam_below, jam_scale, jam_exact}
use Rattle.rounding.specs.declared.Direction.{Direction}
use Rattle.rounding.specs.Rounding.{round_to}
use Rattle.rounding.specs.Machine.{sign_bit, Stands, Rounds}
use Rattle.ieee754.specs.Operations.{sum_to, zero_sign}
use Rattle.operands.specs.Machine.{Summands, Addends, Ready, SumOf, RoundsSum}
use Rattle.operands.proofs.Reading.{zero_bits, stands_just}
use Rattle.operands.proofs.Signs.{beq_same, beq_other}
use lib.Arith.{digits_lt}

-- ---- `sum_to` by its cases

pub sum_like : (d : Direction) (s : Bool) (A B c : ℕ) → sum_to d s A s B c ≡ round_to d binary64 s (A + B) c
unfolding sum_to
sum_like d s A B c = simp (beq_same s)

module _ (d : Direction) (s t : Bool) (A B c : ℕ) (n : s ≡ t → ⊥) where
  pub sum_more : B < A → sum_to d s A t B c ≡ round_to d binary64 s (A - B) c
  unfolding sum_to
  sum_more h = simp (beq_other s t n, le-ltb A B (le_of_lt h), lt-ltb B A h)

  pub sum_less : A < B → sum_to d s A t B c ≡ round_to d binary64 t (B - A) c
  unfolding sum_to
  sum_less h = simp (beq_other s t n, lt-ltb A B h)

  pub sum_same : A ≡ B → sum_to d s A t B c ≡ fin (zero_sign d) 0 (pos 0)
  unfolding sum_to
  sum_same e = simp (beq_other s t n, le-ltb A B (le_of_eq (sym e)), le-ltb B A (le_of_eq e))

pub differ : (s t : Bool) → (s ≡ t) ⊎ (s ≡ t → ⊥)
differ true true = inl refl
differ true false = inr (λ e. true≢false e)
differ false true = inr (λ e. true≢false (sym e))
differ false false = inl refl

-- the order of the two does not matter
pub sum_comm : (d : Direction) (s t : Bool) (A B c : ℕ) → sum_to d s A t B c ≡ sum_to d t B s A c
sum_comm d s t A B c = go (differ s t)
  where
    other : (n : s ≡ t → ⊥) → (A ≤ B) ⊎ (B < A) → (B ≤ A) ⊎ (A < B) → sum_to d s A t B c ≡ sum_to d t B s A c
    other n (inl h) (inl k) = sum_same d s t A B c n (le_antisymm h k) ∙ sym (sum_same d t s B A c (λ e. n (sym e)) (le_antisymm k h))
    other n (inl h) (inr l) = sum_less d s t A B c n l ∙ sym (sum_more d t s B A c (λ e. n (sym e)) l)
    other n (inr l) k = sum_more d s t A B c n l ∙ sym (sum_less d t s B A c (λ e. n (sym e)) l)

    go : (s ≡ t) ⊎ (s ≡ t → ⊥) → sum_to d s A t B c ≡ sum_to d t B s A c
    go (inl e) =
        ap (λ (x : Bool). sum_to d x A t B c) e ∙ sum_like d t A B c ∙ ap (λ (x : ℕ). round_to d binary64 t x c) (add_comm A B) ∙ sym (sum_like d t B A c) ∙ ap (λ (x : Bool). sum_to d t B x A c) (sym e)
    go (inr n) = other n (le_or_gt A B) (le_or_gt B A)

-- ---- sums and differences over a common factor: A * K is X * c and B * K is Y * c

add_same : (A B K X Y c : ℕ) → A * K ≡ X * c → B * K ≡ Y * c → (A + B) * K ≡ (X + Y) * c
add_same A B K X Y c p q = add-mul A B K ∙ ap₂ (λ (a b : ℕ). a + b) p q ∙ sym (add-mul X Y c)

sub_same : (A B K X Y c : ℕ) → A * K ≡ X * c → B * K ≡ Y * c → (A - B) * K ≡ (X - Y) * c
sub_same A B K X Y c p q = sub_mul A B K ∙ ap₂ (λ (a b : ℕ). a - b) p q ∙ sym (sub_mul X Y c)

less_same : (A B K X Y c : ℕ) → 0 < c → A * K ≡ X * c → B * K ≡ Y * c → X < Y → A < B
less_same A B K X Y c C p q h = lt_of_mul-lt-mul_right K (lt_of_le_of_lt (le_of_eq p) (lt_of_lt_of_le (mul-lt-mul_of_pos_right h C) (le_of_eq (sym q))))

module _ {A B c x y e : ℕ} (h : Summands A B c x y e) where
  jam_second : Jam h.second.size (2 ^ e) y
  jam_second = jam_of (pow_pos e) h.second.cut

  -- the sum
  pub add_stands : Stands 2273 (A + B) c (x + y) e
  add_stands =
      record {
        size = x * 2 ^ e + h.second.size;
        den_pos = h.second.den_pos;
        same = add_same A B (2 ^ 2273) (x * 2 ^ e) h.second.size c h.first h.second.same;
        cut = jam_is (pow_pos e) (jam_add x h.even jam_second);
      }

  -- the difference, where x is the larger
  pub sub_stands : y < x → Stands 2273 (A - B) c (x - y) e
  sub_stands l =
      record {
        size = x * 2 ^ e - h.second.size;
        den_pos = h.second.den_pos;
        same = sub_same A B (2 ^ 2273) (x * 2 ^ e) h.second.size c h.first h.second.same;
        cut = jam_is (pow_pos e) (jam_sub x h.even l jam_second);
      }

  pub sub_order : y < x → B < A
  sub_order l = less_same B A (2 ^ 2273) h.second.size (x * 2 ^ e) c h.second.den_pos h.second.same h.first (jam_lt x (pow_pos e) h.even l jam_second)

module _ {A B c x y e : ℕ} (h : Addends A B c x y e) where
  add_exact : x + y < 2 ^ 64 → (A + B) * 2 ^ 2273 ≡ (x + y) * 2 ^ e * c
  add_exact l = go h.far
    where
      no : (x y : ℕ) → x + y < 2 ^ 64 → y + 2 ^ 64 ≤ x → ⊥
      no x y a b = omega arith

      go : (B * 2 ^ 2273 ≡ y * 2 ^ e * c) ⊎ (y + 2 ^ 64 ≤ x) → (A + B) * 2 ^ 2273 ≡ (x + y) * 2 ^ e * c
      go (inl q) = add_same A B (2 ^ 2273) (x * 2 ^ e) (y * 2 ^ e) c h.both.first q ∙ ap (λ (z : ℕ). z * c) (sym (add-mul x y (2 ^ e)))
      go (inr f) = absurd (no x y l f)

  sub_exact : x - y < 2 ^ 64 → (A - B) * 2 ^ 2273 ≡ (x - y) * 2 ^ e * c
  sub_exact l = go h.far
    where
      no : (x y : ℕ) → x - y < 2 ^ 64 → y + 2 ^ 64 ≤ x → ⊥
      no x y a b = omega arith

      go : (B * 2 ^ 2273 ≡ y * 2 ^ e * c) ⊎ (y + 2 ^ 64 ≤ x) → (A - B) * 2 ^ 2273 ≡ (x - y) * 2 ^ e * c
      go (inl q) = sub_same A B (2 ^ 2273) (x * 2 ^ e) (y * 2 ^ e) c h.both.first q ∙ ap (λ (z : ℕ). z * c) (sym (sub_mul x y (2 ^ e)))
      go (inr f) = absurd (no x y l f)

  -- where x is not the larger, all is exact
  exact : x ≤ y → B * 2 ^ 2273 ≡ y * 2 ^ e * c
  exact l = ⊎_elim (λ q. q) (λ f. absurd (no x y l f)) h.far
    where
      no : (x y : ℕ) → x ≤ y → y + 2 ^ 64 ≤ x → ⊥
      no x y a b = omega arith

  over_exact : x < y → (B - A) * 2 ^ 2273 ≡ (y - x) * 2 ^ e * c
  over_exact l = sub_same B A (2 ^ 2273) (y * 2 ^ e) (x * 2 ^ e) c (exact (le_of_lt l)) h.both.first ∙ ap (λ (z : ℕ). z * c) (sym (sub_mul y x (2 ^ e)))

  over_order : x < y → A < B
  over_order l = less_same A B (2 ^ 2273) (x * 2 ^ e) (y * 2 ^ e) c h.both.second.den_pos h.both.first (exact (le_of_lt l)) (mul-lt-mul_of_pos_right l (pow_pos e))

  even_order : x ≡ y → A ≡ B
  even_order q = eq_of_mul-eq-mul_right (2 ^ 2273) (pow_pos 2273) A B (h.both.first ∙ ap (λ (z : ℕ). z * 2 ^ e * c) q ∙ sym (exact (le_of_eq q)))

  -- ---- what a rounding of the sum or of a difference answers

  module _ (d : Direction) (s t : Bool) (r : ℕ) where
    pub add_answer : s ≡ t → Rounds d s (x + y) e r → r ≡ to_bits binary64 (sum_to d s A t B c)
    add_answer l f = f (A + B) c (add_stands h.both) add_exact ∙ ap (to_bits binary64) (sym (sum_like d s A B c) ∙ ap (λ (u : Bool). sum_to d s A u B c) l)

    pub sub_answer : (s ≡ t → ⊥) → y < x → Rounds d s (x - y) e r → r ≡ to_bits binary64 (sum_to d s A t B c)
    sub_answer n l f = f (A - B) c (sub_stands h.both l) sub_exact ∙ ap (to_bits binary64) (sym (sum_more d s t A B c n (sub_order h.both l)))

    pub over_answer : (s ≡ t → ⊥) → x < y → Rounds d t (y - x) e r → r ≡ to_bits binary64 (sum_to d s A t B c)
    over_answer n l f = f (B - A) c (stands_just h.both.second.den_pos (over_exact l)) (λ u. over_exact l) ∙ ap (to_bits binary64) (sym (sum_less d s t A B c n (over_order l)))

    pub same_answer : (s ≡ t → ⊥) → x ≡ y → r ≡ sign_bit (zero_sign d) → r ≡ to_bits binary64 (sum_to d s A t B c)
    same_answer n l q = q ∙ zero_bits (zero_sign d) ∙ ap (to_bits binary64) (sym (sum_same d s t A B c n (even_order l)))

    -- the rounding of what the signs make of the two
    pub sum_answer : (neg : Bool) (w : ℕ) → 0 < x + y → SumOf s t x y neg w → RoundsSum d neg w e r → r ≡ to_bits binary64 (sum_to d s A t B c)
    sum_answer neg w o h f = ⊎_elim
        (λ (e : s ≡ t). let g = h.like e in add_answer e (rounds g.0 g.1 (f.1 (subst (λ (n : ℕ). 0 < n) (sym g.1) o))))
        (λ (n : s ≢ t). rest n (h.unlike n) (le_or_gt w 0))
        (differ s t)
      where
        none : (w : ℕ) → w ≤ 0 → w ≡ 0
        none w h = omega arith

        level : (x y w : ℕ) → w ≤ 0 → y ≡ x + w → x ≡ y
        level x y w h e = omega arith

        more : (x y w : ℕ) → 0 < w → y ≡ x + w → x < y
        more x y w h e = omega arith

        gap : (x y w : ℕ) → y ≡ x + w → w ≡ y - x
        gap x y w e = omega arith

        rounds : {v : Bool} {n : ℕ} → neg ≡ v → w ≡ n → Rounds d neg w e r → Rounds d v n e r
        rounds {v} {n} p q a = subst (λ (b : Bool). Rounds d b n e r) p (subst (λ (m : ℕ). Rounds d neg m e r) q a)

        rest : s ≢ t → ((neg ≡ s) × (x ≡ y + w)) ⊎ ((neg ≡ t) × (y ≡ x + w)) → (w ≤ 0) ⊎ (0 < w) → r ≡ to_bits binary64 (sum_to d s A t B c)
        rest n (inl a) (inl l) = same_answer n (sym (level y x w l a.1)) (f.0 (none w l))
        rest n (inl a) (inr l) = sub_answer n (more y x w l a.1) (rounds a.0 (gap y x w a.1) (f.1 l))
        rest n (inr a) (inl l) = same_answer n (level x y w l a.1) (f.0 (none w l))
        rest n (inr a) (inr l) = over_answer n (more x y w l a.1) (rounds a.0 (gap x y w a.1) (f.1 l))

-- ---- two numbers, brought to one exponent

pub ready_pos : {w : ℕ} → Ready w → 0 < w
ready_pos h = lt_of_lt_of_le (pow_pos 125) h.low

-- shifted down, it has no more digits
pub ready_shifted : {y z : ℕ} (t : ℕ) → Ready y → z ≡ jammed y (2 ^ t) → z < 2 ^ 127
ready_shifted {y} {z} t Y e = jam_below (2 ^ 127) refl (lt_of_lt_of_le Y.high (le_trans (le_of_eq (sym (mul-one (2 ^ 127)))) (mul-le-mul_left (2 ^ 127) (pow_pos t)))) (jam_of (pow_pos t) e)

-- 2 ^ t divides what 2 ^ 21 divides
divides : (y t : ℕ) → t ≤ 21 → y % 2 ^ 21 ≡ 0 → y ≡ y / 2 ^ 21 * 2 ^ (21 - t) * 2 ^ t
divides y t h e =
    sym (div-add-mod' y (2 ^ 21))
    ∙ ap (λ (x : ℕ). y / 2 ^ 21 * 2 ^ 21 + x) e
    ∙ add-zero (y / 2 ^ 21 * 2 ^ 21)
    ∙ ap (λ (x : ℕ). y / 2 ^ 21 * x) (ap (λ (x : ℕ). 2 ^ x) (back t h) ∙ pow-add 2 (21 - t) t)
    ∙ sym (mul_assoc (y / 2 ^ 21) (2 ^ (21 - t)) (2 ^ t))
  where
    back : (t : ℕ) → t ≤ 21 → 21 ≡ 21 - t + t
    back t h = omega arith

pub aligned : (A B c x xe y ye z : ℕ) → Ready x → Ready y → ye ≤ xe → z ≡ jammed y (2 ^ (xe - ye)) → 0 < c → A * 2 ^ 2273 ≡ x * 2 ^ xe * c → B * 2 ^ 2273 ≡ y * 2 ^ ye * c → Addends A B c x z xe
aligned A B c x xe y ye z X Y l ez C p q =
    record {
      both = record { first = p; second = record { size = y * 2 ^ ye; den_pos = C; same = q; cut = jam_is (pow_pos xe) (subst (λ (u : ℕ). Jam (y * 2 ^ ye) u z) unit (jam_scale (2 ^ ye) (pow_pos ye) j)) }; even = evenly x X.tail };
      far = ⊎_elim (λ h. inl (q ∙ ap (λ (v : ℕ). v * 2 ^ ye * c) (jam_exact (y / 2 ^ 21 * 2 ^ (21 - t)) (divides y t h Y.tail) j) ∙ ap (λ (v : ℕ). v * c) (mul_assoc z (2 ^ t) (2 ^ ye) ∙ ap (λ (v : ℕ). z * v) unit))) (λ h. inr (gap h)) (le_or_gt t 21);
    }
  where
    t : ℕ
    t = xe - ye

    j : Jam y (2 ^ (xe - ye)) z
    j = jam_of (pow_pos (xe - ye)) ez

    unit : 2 ^ (xe - ye) * 2 ^ ye ≡ 2 ^ xe
    unit = sym (pow-add 2 (xe - ye) ye) ∙ ap (λ (v : ℕ). 2 ^ v) (back xe ye l)
      where
        back : (a b : ℕ) → b ≤ a → a - b + b ≡ a
        back a b h = omega arith

    evenly : (x : ℕ) → x % 2 ^ 21 ≡ 0 → x % 2 ≡ 0
    evenly x h = omega arith

    gap : 21 < t → z + 2 ^ 64 ≤ x
    gap h =
        let b : y < 2 ^ 105 * 2 ^ t = lt_of_lt_of_le Y.high (le_trans (pow_mono {i = 127} {j = 105 + t} (more t h)) (le_of_eq (pow-add 2 105 t))) in
        le_trans (add-le-add (le_of_lt (jam_below (2 ^ 105) refl b j)) (le_refl (2 ^ 64))) (le_trans (lit≤ tt) X.low)
      where
        more : (t : ℕ) → 21 < t → 127 ≤ 105 + t
        more t h = omega arith

-- what `align` picks: the one of the larger exponent, and the other
module _ (p q : Signed) (pe qe : ℕ) where
  pub ready_pick : (b : Bool) → Ready (value p.size) → Ready (value q.size) → Ready (value (cond b q p).size)
  ready_pick true P Q = Q
  ready_pick false P Q = P

  pub exponent_pick : (b : Bool) → b ≡ ltb pe qe → cond b pe qe ≤ cond b qe pe
  exponent_pick true e = le_of_lt (ltb-true pe qe (sym e))
  exponent_pick false e = ltb-false pe qe (sym e)

  pub align_answer : (d : Direction) (b : Bool) (z r A B c : ℕ) → b ≡ ltb pe qe → Ready (value p.size) → Ready (value q.size) → z ≡ jammed (value (cond b p q).size) (2 ^ (cond b qe pe - cond b pe qe)) → 0 < c → A * 2 ^ 2273 ≡ value p.size * 2 ^ pe * c → B * 2 ^ 2273 ≡ value q.size * 2 ^ qe * c
      → ((X Y c : ℕ) → Addends X Y c (value (cond b q p).size) z (cond b qe pe) → r ≡ to_bits binary64 (sum_to d (cond b q p).neg X (cond b p q).neg Y c))
      → r ≡ to_bits binary64 (sum_to d p.neg A q.neg B c)
  align_answer d true z r A B c e P Q ez C a b f = f B A c (aligned B A c (value q.size) qe (value p.size) pe z Q P (exponent_pick true e) ez C b a) ∙ ap (to_bits binary64) (sum_comm d q.neg p.neg B A c)
  align_answer d false z r A B c e P Q ez C a b f = f A B c (aligned A B c (value p.size) pe (value q.size) qe z P Q (exponent_pick false e) ez C a b)

pub sub_fits : (x y w : ℕ) → w < 2 ^ 128 → x < 2 ^ 128 → (w + y) % 2 ^ 128 ≡ x → y ≤ x → w ≡ x - y
sub_fits x y w W X e h = go (2 ^ 128) W X e
  where
    back : (w y x : ℕ) → w + y ≡ x → w ≡ x - y
    back w y x e = omega arith

    over : (w y x N : ℕ) → w < N → x < N → y ≤ x → w + y < N + N
    over w y x N a b c = omega arith

    carry : (w y x N : ℕ) → w < N → y ≤ x → x < N → w + y - N ≡ x → N ≤ w + y → ⊥
    carry w y x N a b c d f = omega arith

    rest : (w y x N : ℕ) → w < N → x < N → y ≤ x → w + y - N < N
    rest w y x N a b c = omega arith

    split : (n N : ℕ) → N ≤ n → n ≡ N + (n - N)
    split n N h = omega arith

    go : (N : ℕ) → w < N → x < N → (w + y) % N ≡ x → w ≡ x - y
    go N W X e = ⊎_elim
        (λ (l : N ≤ w + y). absurd (carry w y x N W h X (sym (ap (λ (z : ℕ). z % N) (split (w + y) N l) ∙ add-mod_left N (w + y - N) ∙ mod-eq_of_lt (rest w y x N W X h)) ∙ e) l))
        (λ (l : w + y < N). back w y x (sym (mod-eq_of_lt l) ∙ e))
        (le_or_gt N (w + y))

-- the highest bit of x - y modulo 2 ^ 128, where both are below 2 ^ 127
high_below : (h l b k x : ℕ) → h * b + l ≤ x → x < k * b → h < k
high_below h l b k x p q = lt_of_mul-lt-mul_right b (omega arith)

high_above : (h l b k y x : ℕ) → l < b → y < k * b → x < y → (h * b + l + y) % (k * b + k * b) ≡ x → k ≤ h
high_above h l b k y x L Y X e = told (le_or_gt k h)
  where
    told : (k ≤ h) ⊎ (h < k) → k ≤ h
    told (inl p) = p
    told (inr p) =
        let m : suc h * b ≤ k * b = mul-le-mul_right b p in
        let n = suc-mul h b in
        let f : h * b + l + y < k * b + k * b = omega arith in
        absurd (omega (arith, sym (mod-eq_of_lt f) ∙ e))

pub sub_sign : (x y h l : ℕ) → x < 2 ^ 127 → y < 2 ^ 127 → h < 2 ^ 64 → l < 2 ^ 64 → (h * 2 ^ 64 + l + y) % 2 ^ 128 ≡ x → leb (2 ^ 63) h ≡ ltb x y
sub_sign x y h l X Y H L e = told (ltb x y) refl
  where
    told : (b : Bool) → ltb x y ≡ b → leb (2 ^ 63) h ≡ b
    told true f = le-leb (2 ^ 63) h (high_above h l (2 ^ 64) (2 ^ 63) y x L Y (ltb-true x y f) e)
    told false f =
        let v = sub_fits x y (h * 2 ^ 64 + l) (digits_lt H L) (lt_of_lt_of_le X (pow_mono {i = 127} {j = 128} (omega arith))) e (ltb-false x y f) in
        lt-leb (2 ^ 63) h (high_below h l (2 ^ 64) (2 ^ 63) (x - y) (le_of_eq v) (lt_of_le_of_lt (sub-le x y) X))
