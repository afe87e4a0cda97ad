-- A number in hexadecimal digits. Definitions only.
use Rattle.std.specs.Prelude.{ℕ, ◌+◌, ◌-◌, ◌*◌, cond, List, [], ◌∷◌, ltb, eqb, length, Option, Some, None}

-- the value of an ASCII digit, `0` to `9` and `a` to `f`, and 16 for any other byte
unfoldable pub digit_of : ℕ → ℕ
digit_of b =
    cond (ltb b 48) 16 (cond (ltb b 58) (b - 48)
    (cond (ltb b 97) 16 (cond (ltb b 103) (b - 87) 16)))

-- the same, where the byte is a digit
unfoldable pub digit_in : ℕ → Option ℕ
digit_in b = cond (ltb (digit_of b) 16) (Some (digit_of b)) None

-- the number whose digits are those of n and then the text
unfoldable pub read_from : ℕ → List ℕ → Option ℕ
read_from n [] = Some n
read_from n (b ∷ text) = cond (ltb (digit_of b) 16) (read_from (n * 16 + digit_of b) text) None

-- the number that a text of 1 to 16 digits stands for
unfoldable pub number_of : List ℕ → Option ℕ
unfolding read_from
number_of text =
    cond (eqb (length text) 0) None
    (cond (ltb 16 (length text)) None (read_from 0 text))
