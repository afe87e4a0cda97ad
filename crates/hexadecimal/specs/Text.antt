-- A constant's text (document 02, A.1), a list of bytes: its form, its parts and its value. Definitions only.
use Rattle.std.specs.Prelude.{ℕ, ◌-◌, ◌*◌, ◌+◌, ◌^◌, ◌≤◌, ◌<◌, ◌≡◌, Bool, true, false, ◌&&◌, ◌||◌, cond, List, [], ◌∷◌, ◌++◌, T, ltb, eqb, length, take, drop}

-- ---- bytes

-- the value of a digit, 0 to 9, A to F or a to f, and 16 for any other byte
unfoldable pub digit_of : ℕ → ℕ
digit_of b =
    cond (ltb b 48) 16 (cond (ltb b 58) (b - 48)
    (cond (ltb b 65) 16 (cond (ltb b 71) (b - 55)
    (cond (ltb b 97) 16 (cond (ltb b 103) (b - 87) 16)))))

abbrev pub is_hexadecimal : ℕ → Bool
is_hexadecimal b = ltb (digit_of b) 16

abbrev pub is_decimal : ℕ → Bool
is_decimal b = ltb (digit_of b) 10

-- + or -
abbrev pub is_sign : ℕ → Bool
is_sign b = eqb b 43 || eqb b 45

abbrev pub is_zero : ℕ → Bool
is_zero b = eqb b 48

-- x or X
abbrev pub is_x : ℕ → Bool
is_x b = eqb b 120 || eqb b 88

abbrev pub is_point : ℕ → Bool
is_point b = eqb b 46

-- p or P
abbrev pub is_p : ℕ → Bool
is_p b = eqb b 112 || eqb b 80

unfoldable pub every : (ℕ → Bool) → List ℕ → Bool
every c [] = true
every c (b ∷ l) = c b && every c l

-- ---- the form: optional + or -, 0x, hexadecimal digits with at most one point, p, optional + or -, decimal digits

-- the parts of a text, in their order
pub record Parts : Type 0 where
  pub sign : List ℕ
  pub zero : List ℕ
  pub x : List ℕ
  pub whole : List ℕ
  pub point : List ℕ
  pub fraction : List ℕ
  pub p : List ℕ
  pub exponent_sign : List ℕ
  pub exponent : List ℕ

unfoldable pub spelling : Parts → List ℕ
spelling parts = parts.sign ++ parts.zero ++ parts.x ++ parts.whole ++ parts.point ++ parts.fraction ++ parts.p ++ parts.exponent_sign ++ parts.exponent

-- The parts spell the text, and each has the bytes that are its own. Without a point, all digits stand before it.
pub record Spells (parts : Parts) (text : List ℕ) : Type 0 where
  pub sign : T (every is_sign parts.sign)
  pub sign_once : length parts.sign ≤ 1
  pub zero : T (every is_zero parts.zero)
  pub zero_once : length parts.zero ≡ 1
  pub x : T (every is_x parts.x)
  pub x_once : length parts.x ≡ 1
  pub whole : T (every is_hexadecimal parts.whole)
  pub point : T (every is_point parts.point)
  pub point_once : length parts.point ≤ 1
  pub fraction : T (every is_hexadecimal parts.fraction)
  pub pointless : length parts.point ≡ 0 → length parts.fraction ≡ 0
  pub digits : 0 < length parts.whole + length parts.fraction
  pub p : T (every is_p parts.p)
  pub p_once : length parts.p ≡ 1
  pub exponent_sign : T (every is_sign parts.exponent_sign)
  pub exponent_sign_once : length parts.exponent_sign ≤ 1
  pub exponent : T (every is_decimal parts.exponent)
  pub exponent_digits : 0 < length parts.exponent
  pub spelled : text ≡ spelling parts

abbrev pub HasForm : List ℕ → Type 0
HasForm text = (parts : Parts) × Spells parts text

-- ---- the value: a sign, and a size that is the fraction num / den of whole numbers

-- whether a sign is a -
abbrev pub is_minus : List ℕ → Bool
is_minus [] = false
is_minus (b ∷ l) = eqb b 45

-- the number whose digits, in a base, are those of n and then the given
unfoldable pub number_from : ℕ → ℕ → List ℕ → ℕ
number_from base n [] = n
number_from base n (b ∷ l) = number_from base (n * base + digit_of b) l

abbrev pub number : ℕ → List ℕ → ℕ
number base digits = number_from base 0 digits

abbrev pub negative : Parts → Bool
negative parts = is_minus parts.sign

-- the power of two that the exponent stands for, above or below the line
abbrev pub power : Parts → ℕ
power parts = 2 ^ number 10 parts.exponent

abbrev pub num : Parts → ℕ
num parts = number 16 (parts.whole ++ parts.fraction) * cond (is_minus parts.exponent_sign) 1 (power parts)

abbrev pub den : Parts → ℕ
den parts = 16 ^ length parts.fraction * cond (is_minus parts.exponent_sign) (power parts) 1

-- ---- where the parts of a text lie

-- the bytes of one kind that a list starts with, and what follows them
unfoldable pub front : (ℕ → Bool) → List ℕ → List ℕ
front c [] = []
front c (b ∷ l) = cond (c b) (b ∷ front c l) []

unfoldable pub back : (ℕ → Bool) → List ℕ → List ℕ
back c [] = []
back c (b ∷ l) = cond (c b) (back c l) (b ∷ l)

-- The only parts that can spell a text: each goes as far as its bytes do. The zero and the x have one byte each, since digits follow.
unfoldable pub parts_of : List ℕ → Parts
unfolding front back
parts_of text =
    let a = back is_sign text in
    let b = drop 2 a in
    let c = back is_hexadecimal b in
    let d = back is_point c in
    let e = back is_hexadecimal d in
    let f = back is_p e in
    record {
      sign = front is_sign text;
      zero = take 1 a;
      x = take 1 (drop 1 a);
      whole = front is_hexadecimal b;
      point = front is_point c;
      fraction = front is_hexadecimal d;
      p = front is_p e;
      exponent_sign = front is_sign f;
      exponent = back is_sign f;
    }
