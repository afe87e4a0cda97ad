-- Whole numbers as bytes, big-endian. Definitions only.
use Rattle.std.specs.Prelude.{ℕ, zero, suc, ◌+◌, ◌*◌, ◌/◌, ◌%◌, List, [], ◌∷◌, ◌++◌, take, drop}

-- the number that bytes stand for, after bytes that stand for acc
abbrev pub number_after : ℕ → List ℕ → ℕ
number_after acc [] = acc
number_after acc (b ∷ bs) = number_after (acc * 256 + b) bs

-- the number that n bytes from a place on stand for
unfoldable pub number_at : ℕ → List ℕ → ℕ → ℕ
number_at n bytes at = number_after 0 (take n (drop at bytes))

-- the last n bytes of a number
abbrev pub last_bytes : ℕ → ℕ → List ℕ
last_bytes zero x = []
last_bytes (suc n) x = last_bytes n (x / 256) ++ (x % 256 ∷ [])

-- a 64-bit word
unfoldable pub word_bytes : ℕ → List ℕ
word_bytes x = last_bytes 8 x

-- f 0 to f (n - 1) as 64-bit words, one behind the other
unfoldable pub words_of : (ℕ → ℕ) → ℕ → List ℕ
unfolding word_bytes
words_of f zero = []
words_of f (suc n) = words_of f n ++ word_bytes (f n)
