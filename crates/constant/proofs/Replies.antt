-- The computed reply is the one that document 02 describes, and the only one. Assumes nothing.
use mathlib.Core.Path.{◌≡◌, refl, sym, ap, ap₂, ◌∙◌, subst}
use mathlib.Core.Logic.{◌⊎◌, inl, inr, ⊎_elim}
use mathlib.Core.Bool.{Bool, true, false, cond}
use mathlib.Core.List.{List}
use Prim.Native.Nat.{ℕ, ◌+◌, ◌*◌, ◌%◌, ◌^◌, ◌≤◌, ◌<◌}
use native.Mathlib.Nat.{add-zero, zero-mul, lt_of_lt_of_le, mul_right_comm, eq_of_mul-eq-mul_right}
use native.Mathlib.Omega.{arith}
use lib.Dec.{T, lit≤, lit<}
use lib.ListN.{length}
use lib.Pow.{pow_pos}
use lib.Ieee.{Float, nan, inf, fin, binary64, up, down, of_bits}
use lib.Ieee.Exact.{HasValue}
use lib.Ieee.Fits.{down_pos}
use borrow.Author.Tests.{le-leb, lt-leb}
use Rattle.std.specs.Prelude.{Result, Ok, Err}
use Rattle.wide.proofs.Nat.{le_or_gt}
use Rattle.rounding.specs.Machine.{sign_bit}
use Rattle.operands.specs.Machine.{sign_of, magnitude}
use Rattle.operands.proofs.Reading as operands
use Rattle.hexadecimal.specs.Text.{Parts, Spells, HasForm, parts_of, negative, num, den, is_minus, number}
use Rattle.hexadecimal.specs.Test.{is_last, has_form}
use Rattle.hexadecimal.proofs.Steps.{steps}
use Rattle.hexadecimal.proofs.Form.{decides, parts_of_lem}
use Rattle.constant.specs.Constant.{exactly, value_of, constant_of, IsValue, Replies, Settles, ZeroKeepsSign}
use Rattle.constant.proofs.Exactly.{Finite, Outcome, float, none, outcome, exactly_bits, exactly_none}
use Rattle.constant.specs.Machine.{read_from, unread, Finishes}
use Rattle.constant.proofs.Places.{line_pos}
use Rattle.constant.proofs.Kept.{stage_read}
use Rattle.constant.proofs.Spelled.{read_text}

-- ---- a pattern and its units

-- the same value by another fraction
same_value : (x : Float) (s : Bool) (w l a c : ℕ) → 0 < l → a * l ≡ w * c → HasValue x s w l → HasValue x s a c
same_value (fin t m e) s w l a c p h v = (v.0, eq_of_mul-eq-mul_right l p (m * up e * c) (a * down e) (mul_right_comm (m * up e) c l ∙ ap (λ (x : ℕ). x * c) v.1 ∙ mul_right_comm w (down e) c ∙ ap (λ (x : ℕ). x * down e) (sym h) ∙ mul_right_comm a l (down e)))
same_value nan s w l a c p h v = elim v [ ]
same_value (inf _) s w l a c p h v = elim v [ ]

-- and two fractions of one value
one_value : (x : Float) (s t : Bool) (w l a c : ℕ) → HasValue x s w l → HasValue x t a c → (s ≡ t) × (a * l ≡ w * c)
one_value (fin u m e) s t w l a c v z = (sym v.0 ∙ z.0, eq_of_mul-eq-mul_right (down e) (down_pos e) (a * l) (w * c) (mul_right_comm a l (down e) ∙ ap (λ (x : ℕ). x * l) (sym z.1) ∙ mul_right_comm (m * up e) c l ∙ ap (λ (x : ℕ). x * c) v.1 ∙ mul_right_comm w (down e) c))
one_value nan s t w l a c v z = elim v [ ]
one_value (inf _) s t w l a c v z = elim v [ ]

-- a pattern has one number of units
one_units : (q k q' k' : ℕ) → k * 0x10000000000000 + q ≡ k' * 0x10000000000000 + q' → q < 2 ^ 53 → (k ≡ 0) ⊎ (2 ^ 52 ≤ q) → q' < 2 ^ 53 → (k' ≡ 0) ⊎ (2 ^ 52 ≤ q') → (q ≡ q') × (k ≡ k')
one_units q k q' k' e a (inl g) b (inl g') = (omega arith, omega arith)
one_units q k q' k' e a (inl g) b (inr g') = (omega arith, omega arith)
one_units q k q' k' e a (inr g) b (inl g') = (omega arith, omega arith)
one_units q k q' k' e a (inr g) b (inr g') = (omega arith, omega arith)

-- the pattern of a sign and a size below 2 ^ 63
size_of : (s : Bool) (x : ℕ) → x < 0x8000000000000000 → magnitude (sign_bit s + x) ≡ x
size_of true x h = over x h
  where
    over : (x : ℕ) → x < 0x8000000000000000 → (0x8000000000000000 + x) % 0x8000000000000000 ≡ x
    over x h = omega arith
size_of false x h = under x h
  where
    under : (x : ℕ) → x < 0x8000000000000000 → (0 + x) % 0x8000000000000000 ≡ x
    under x h = omega arith

sign_of_lem : (s : Bool) (x : ℕ) → x < 0x8000000000000000 → sign_of (sign_bit s + x) ≡ s
sign_of_lem true x h = le-leb 0x8000000000000000 (0x8000000000000000 + x) (omega arith)
sign_of_lem false x h = lt-leb 0x8000000000000000 (0 + x) (omega arith)

below : (s : Bool) (x : ℕ) → x < 0x8000000000000000 → sign_bit s + x < 2 ^ 64
below true x h = omega arith
below false x h = omega arith

finite_size : (q k : ℕ) → q < 2 ^ 53 → k ≤ 2045 → k * 0x10000000000000 + q < 0x7ff0000000000000
finite_size q k a b = omega arith

-- ---- the patterns of num / den

module _ (s : Bool) (n d : ℕ) (D : 0 < d) where
  -- the pattern that is replied has the value
  float_value : (q k : ℕ) → Finite n d q k → let b = sign_bit s + (k * 0x10000000000000 + q) in (b < 2 ^ 64) × HasValue (of_bits binary64 b) s n d
  float_value q k f = go (operands.finite b (subst (λ (y : ℕ). y < 0x7ff0000000000000) (sym size) small))
    where
      x : ℕ
      x = k * 0x10000000000000 + q

      b : ℕ
      b = sign_bit s + x

      small : x < 0x7ff0000000000000
      small = finite_size q k f.small f.most

      under : x < 0x8000000000000000
      under = lt_of_lt_of_le small (lit≤ tt)

      size : magnitude b ≡ x
      size = size_of s x under

      go : operands.Finite b → (b < 2 ^ 64) × HasValue (of_bits binary64 b) s n d
      go (operands.units q' k' u) =
          let same = one_units q k q' k' (sym size ∙ u.pattern) f.small f.kept u.small u.kept in
          (below s x under, subst (λ (t : Bool). HasValue (of_bits binary64 b) t n d) (sign_of_lem s x under) (same_value (of_bits binary64 b) (sign_of b) (q' * 2 ^ k') (2 ^ 1074) n d (pow_pos 1074) (f.is ∙ ap₂ (λ (y z : ℕ). y * 2 ^ z * d) same.0 same.1) u.value))

  -- a pattern that has the value is that one
  value_float : (b : ℕ) → b < 2 ^ 64 → HasValue (of_bits binary64 b) s n d → (q : ℕ) × ((k : ℕ) × (Finite n d q k × (b ≡ sign_bit s + (k * 0x10000000000000 + q))))
  value_float b B v = ⊎_elim (λ g. absurd (special g)) (λ g. go g (operands.finite b g)) (le_or_gt 0x7ff0000000000000 (magnitude b))
    where
      special : 0x7ff0000000000000 ≤ magnitude b → ⊥
      special g = ⊎_elim (λ l. subst (λ (y : Float). HasValue y s n d) (operands.read_inf b (both (magnitude b) g l)) v) (λ l. subst (λ (y : Float). HasValue y s n d) (operands.read_nan b l) v) (le_or_gt (magnitude b) 0x7ff0000000000000)
        where
          both : (y : ℕ) → 0x7ff0000000000000 ≤ y → y ≤ 0x7ff0000000000000 → y ≡ 0x7ff0000000000000
          both y a c = omega arith

      most : (q k y : ℕ) → y < 0x7ff0000000000000 → y ≡ k * 0x10000000000000 + q → (k ≡ 0) ⊎ (2 ^ 52 ≤ q) → k ≤ 2045
      most q k y h e (inl g) = omega arith
      most q k y h e (inr g) = omega arith

      go : magnitude b < 0x7ff0000000000000 → operands.Finite b → (q : ℕ) × ((k : ℕ) × (Finite n d q k × (b ≡ sign_bit s + (k * 0x10000000000000 + q))))
      go g (operands.units q k u) =
          let w = one_value (of_bits binary64 b) (sign_of b) s (q * 2 ^ k) (2 ^ 1074) n d u.value v in
          (q, (k, (record { small = u.small; kept = u.kept; most = most q k (magnitude b) g u.pattern u.kept; is = w.1 }, sym (operands.pattern_back b (magnitude b) B refl) ∙ ap₂ (λ (t : Bool) (y : ℕ). sign_bit t + y) w.0 u.pattern)))

-- ---- the reply to a text

den_pos : (parts : Parts) → 0 < den parts
den_pos parts = line_pos (is_minus parts.exponent_sign) (length parts.fraction) (number 10 parts.exponent)

with_form : (text : List ℕ) → has_form text ≡ true → constant_of text ≡ value_of (parts_of text)
unfolding constant_of
with_form text e = ap (λ (b : Bool). cond b (value_of (parts_of text)) (Err 9)) e

without_form : (text : List ℕ) → has_form text ≡ false → constant_of text ≡ Err 9
unfolding constant_of
without_form text e = ap (λ (b : Bool). cond b (value_of (parts_of text)) (Err 9)) e

-- a text that is spelled gets the value of its parts
pub spelled : (parts : Parts) (text : List ℕ) → Spells parts text → constant_of text ≡ value_of parts
spelled parts text h = with_form text (passes (has_form text) ((decides text).needed (parts, h))) ∙ ap value_of (parts_of_lem parts text h)
  where
    passes : (b : Bool) → T b → b ≡ true
    passes true t = refl
    passes false t = elim t [ ]

-- and any other is refused
pub unspelled : (text : List ℕ) → (HasForm text → ⊥) → constant_of text ≡ Err 9
unspelled text h = go (has_form text) refl
  where
    go : (b : Bool) → has_form text ≡ b → constant_of text ≡ Err 9
    go true e = absurd (h (parts_of text, (decides text).passed (subst T (sym e) tt)))
    go false e = without_form text e

replies_value : (parts : Parts) (text : List ℕ) → Spells parts text → Replies text (value_of parts)
replies_value parts text h = go (outcome (negative parts) (num parts) (den parts) (den_pos parts))
  where
    go : Outcome (negative parts) (num parts) (den parts) → Replies text (value_of parts)
    go (float q k f e) = subst (Replies text) (sym e) (let v = float_value (negative parts) (num parts) (den parts) (den_pos parts) q k f in (parts, h, v.0, v.1))
    go (none n e) = subst (Replies text) (sym e) (inr (refl, (parts, h, λ b B v. let w = value_float (negative parts) (num parts) (den parts) (den_pos parts) b B v in n w.0 w.1.0 w.1.1.0)))

only_value : (parts : Parts) (b : ℕ) → b < 2 ^ 64 → IsValue b parts → Ok b ≡ value_of parts
only_value parts b B v =
    let w = value_float (negative parts) (num parts) (den parts) (den_pos parts) b B v in
    ap Ok w.1.1.1 ∙ sym (exactly_bits (negative parts) (num parts) (den parts) w.0 w.1.0 (den_pos parts) w.1.1.0)

only_inexact : (parts : Parts) → ((b : ℕ) → b < 2 ^ 64 → IsValue b parts → ⊥) → Err 10 ≡ value_of parts
only_inexact parts h = sym (exactly_none (negative parts) (num parts) (den parts) (den_pos parts) (λ q k f. let v = float_value (negative parts) (num parts) (den parts) (den_pos parts) q k f in h (sign_bit (negative parts) + (k * 0x10000000000000 + q)) v.0 v.1))

only : (text : List ℕ) (r : Result ℕ ℕ) → Replies text r → r ≡ constant_of text
only text (Err n) (inl h) = ap Err h.0 ∙ sym (unspelled text h.1)
only text (Err n) (inr h) = ap Err h.0 ∙ only_inexact h.1.0 h.1.2 ∙ sym (spelled h.1.0 text h.1.1)
only text (Ok b) h = only_value h.0 b h.2 h.3 ∙ sym (spelled h.0 text h.1)

pub settles : (text : List ℕ) → Settles text
settles text = record { replies = go (has_form text) refl; only = only text }
  where
    go : (b : Bool) → has_form text ≡ b → Replies text (constant_of text)
    go true e =
        let h = (decides text).passed (subst T (sym e) tt) in
        subst (Replies text) (sym (with_form text e)) (replies_value (parts_of text) text h)
    go false e = subst (Replies text) (sym (without_form text e)) (inl (refl, λ h. subst T e ((decides text).needed h)))

pub zero_keeps_sign : ZeroKeepsSign
zero_keeps_sign text parts h z =
    spelled parts text h
    ∙ exactly_bits (negative parts) (num parts) (den parts) 0 0 (den_pos parts) (record { small = lit< tt; kept = inl refl; most = lit≤ tt; is = ap (λ (x : ℕ). x * power * 2 ^ 1074) z ∙ ap (λ (x : ℕ). x * 2 ^ 1074) (zero-mul power) ∙ zero-mul (2 ^ 1074) ∙ sym (zero-mul (den parts)) })
    ∙ ap Ok (add-zero (sign_bit (negative parts)))
  where
    power : ℕ
    power = cond (is_minus parts.exponent_sign) 1 (2 ^ number 10 parts.exponent)

-- ---- the reply to a text that was read

pub read_reply : (text : List ℕ) (r : Result ℕ ℕ) → Finishes (read_from unread text) r → r ≡ constant_of text
unfolding has_form
read_reply text r f = go (has_form text) refl
  where
    last : is_last (read_from unread text).stage ≡ has_form text
    last = ap is_last (stage_read unread text)

    go : (b : Bool) → has_form text ≡ b → r ≡ constant_of text
    go true e =
        let h = (decides text).passed (subst T (sym e) tt) in
        let d = read_text (parts_of text) text h (steps (parts_of text) text h) in
        f.value (last ∙ e) (num (parts_of text)) (den (parts_of text)) d.holds
        ∙ ap (λ (s : Bool). exactly s (num (parts_of text)) (den (parts_of text))) d.negative
        ∙ sym (with_form text e)
    go false e = f.malformed (last ∙ e) ∙ sym (without_form text e)
