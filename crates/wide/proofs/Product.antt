-- The two words of a product, worked out in digits of base 2 ^ 32. `omega` stops at numbers of more than 38 digits, so no step
-- has 2 ^ 64 twice. Assumes nothing.
use Rattle.std.proofs.Common.{◌≡◌, ℕ, ◌+◌, ◌*◌, ◌/◌, ◌%◌, ◌<◌, ◌≤◌, sym, ap, ◌∙◌, ap₂, mul_assoc, mul_comm, add-mul, mul-le-mul, div-add-mod', mul-add, mul_right_comm, mul_left_comm, arith}
use lib.Arith.{digits_div, digits_mod}

-- the products of the digits of u and v, none of which overflows a word
pub record Digits (u v : ℕ) : Type 0 where
  pub ll : u % 4294967296 * (v % 4294967296) ≤ 18446744065119617025
  pub hl : u / 4294967296 * (v % 4294967296) ≤ 18446744065119617025
  pub lh : u % 4294967296 * (v / 4294967296) ≤ 18446744065119617025
  pub hh : u / 4294967296 * (v / 4294967296) ≤ 18446744065119617025

pub digits : (u v : ℕ) → u < 18446744073709551616 → v < 18446744073709551616 → Digits u v
digits u v a b =
    record {
      ll = product (u % 4294967296) (v % 4294967296) (omega arith) (omega arith);
      hl = product (u / 4294967296) (v % 4294967296) (omega arith) (omega arith);
      lh = product (u % 4294967296) (v / 4294967296) (omega arith) (omega arith);
      hh = product (u / 4294967296) (v / 4294967296) (omega arith) (omega arith);
    }
  where
    product : (x y : ℕ) → x < 4294967296 → y < 4294967296 → x * y ≤ 18446744065119617025
    product x y a b = let p : x ≤ 4294967295 = omega arith in let q : y ≤ 4294967295 = omega arith in mul-le-mul p q

-- the four products of digits, each in its column
columns : (u v : ℕ) → u * v ≡ u / 4294967296 * (v / 4294967296) * 18446744073709551616 + u / 4294967296 * (v % 4294967296) * 4294967296 + u % 4294967296 * (v / 4294967296) * 4294967296 + u % 4294967296 * (v % 4294967296)
columns u v =
    ap₂ (λ (x y : ℕ). x * y) (sym (div-add-mod' u 4294967296)) (sym (div-add-mod' v 4294967296))
    ∙ expand (u / 4294967296) (u % 4294967296) (v / 4294967296) (v % 4294967296)
  where
    expand : (a b c d : ℕ) → (a * 4294967296 + b) * (c * 4294967296 + d) ≡ a * c * 18446744073709551616 + a * d * 4294967296 + b * c * 4294967296 + b * d
    expand a b c d =
        let x : (a * 4294967296 + b) * (c * 4294967296 + d) ≡ a * 4294967296 * (c * 4294967296 + d) + b * (c * 4294967296 + d) = add-mul (a * 4294967296) b (c * 4294967296 + d) in
        let y : a * 4294967296 * (c * 4294967296 + d) ≡ a * 4294967296 * (c * 4294967296) + a * 4294967296 * d = mul-add (a * 4294967296) (c * 4294967296) d in
        let z : b * (c * 4294967296 + d) ≡ b * (c * 4294967296) + b * d = mul-add b (c * 4294967296) d in
        let p : a * 4294967296 * (c * 4294967296) ≡ a * c * 4294967296 * 4294967296 = simp (mul_assoc, mul_comm, mul_left_comm) in
        let q : a * 4294967296 * d ≡ a * d * 4294967296 = mul_right_comm a 4294967296 d in
        let r : b * (c * 4294967296) ≡ b * c * 4294967296 = sym (mul_assoc b c 4294967296) in
        omega arith

-- the columns a, b, c, d added up, with their carries
carried : (a b c d : ℕ) →
    (a + (b + d / 4294967296) / 4294967296 + ((b + d / 4294967296) % 4294967296 + c) / 4294967296) * 18446744073709551616 + (((b + d / 4294967296) % 4294967296 + c) % 4294967296 * 4294967296 + d % 4294967296)
    ≡ a * 18446744073709551616 + b * 4294967296 + c * 4294967296 + d
carried a b c d =
    let t = b + d / 4294967296 in
    let w = t % 4294967296 + c in
    outer (a + t / 4294967296 + w / 4294967296) (w % 4294967296) (d / 4294967296) (d % 4294967296)
    (inner (d / 4294967296) (t / 4294967296) (t % 4294967296) (w / 4294967296) (w % 4294967296) (div-add-mod' t 4294967296) (div-add-mod' w 4294967296))
    (div-add-mod' d 4294967296)
  where
    inner : (z x x' y y' : ℕ) → x * 4294967296 + x' ≡ b + z → y * 4294967296 + y' ≡ x' + c → (a + x + y) * 4294967296 + y' ≡ a * 4294967296 + b + c + z
    inner z x x' y y' p q = omega arith

    outer : (h w z z' : ℕ) → h * 4294967296 + w ≡ a * 4294967296 + b + c + z → z * 4294967296 + z' ≡ d → h * 18446744073709551616 + (w * 4294967296 + z') ≡ a * 18446744073709551616 + b * 4294967296 + c * 4294967296 + d
    outer h w z z' p q = omega arith

-- the words of u * v
abbrev middle : ℕ → ℕ → ℕ
middle u v = u / 4294967296 * (v % 4294967296) + u % 4294967296 * (v % 4294967296) / 4294967296

abbrev crossed : ℕ → ℕ → ℕ
crossed u v = middle u v % 4294967296 + u % 4294967296 * (v / 4294967296)

abbrev high : ℕ → ℕ → ℕ
high u v = u / 4294967296 * (v / 4294967296) + middle u v / 4294967296 + crossed u v / 4294967296

abbrev low : ℕ → ℕ → ℕ
low u v = crossed u v % 4294967296 * 4294967296 + u % 4294967296 * (v % 4294967296) % 4294967296

words : (u v : ℕ) → u * v ≡ high u v * 18446744073709551616 + low u v
words u v = columns u v ∙ sym (carried (u / 4294967296 * (v / 4294967296)) (u / 4294967296 * (v % 4294967296)) (u % 4294967296 * (v / 4294967296)) (u % 4294967296 * (v % 4294967296)))

below : (w d : ℕ) → w % 4294967296 * 4294967296 + d % 4294967296 < 18446744073709551616
below w d = omega arith

pub high_word : (u v : ℕ) → high u v ≡ u * v / 18446744073709551616
high_word u v = sym (ap (λ (x : ℕ). x / 18446744073709551616) (words u v) ∙ digits_div (high u v) (below (crossed u v) (u % 4294967296 * (v % 4294967296))))

pub low_word : (u v : ℕ) → low u v ≡ u * v % 18446744073709551616
low_word u v = sym (ap (λ (x : ℕ). x % 18446744073709551616) (words u v) ∙ digits_mod (high u v) (below (crossed u v) (u % 4294967296 * (v % 4294967296))))
