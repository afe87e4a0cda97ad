-- The reply to a constant's text (document 02, A.1), and what is shown of it (proofs/Replies.antt). Definitions only.
-- Err 9 and Err 10 are the refusals of these numbers, and Ok b is the float of the pattern b.
use Rattle.std.specs.Prelude.{ℕ, ◌+◌, ◌-◌, ◌*◌, ◌/◌, ◌^◌, ◌<◌, ◌≡◌, ◌⊎◌, Bool, ◌&&◌, cond, List, ◌++◌, leb, eqb, Result, Ok, Err}
use Rattle.std.specs.Float.{binary64}
use Rattle.std.specs.Float.Ieee.{of_bits, size}
use Rattle.std.specs.Float.Ieee.Exact.{HasValue}
use Rattle.rounding.specs.Machine.{sign_bit}
use Rattle.hexadecimal.specs.Text.{Parts, Spells, HasForm, parts_of, negative, number, num, den}
use Rattle.hexadecimal.specs.Test.{has_form}

-- ---- the reply, computed

-- The reply with q * 2 ^ k times 2 ^ -1074, where q has 53 digits at most: its pattern is the sign and k * 2 ^ 52 + q, if it is finite, which it
-- is up to k = 2045, and if it is the number itself, n / den times 2 ^ -1074.
unfoldable pub reply_with : Bool → ℕ → ℕ → ℕ → ℕ → Result ℕ ℕ
reply_with s n den k q = cond (eqb (q * 2 ^ k * den) n && leb k 2045) (Ok (sign_bit s + (k * 0x10000000000000 + q))) (Err 10)

-- ±num / den, for a den above 0. The divisions only find the leading 53 digits, q, and how many follow, k: nothing is rounded, since reply_with
-- asks that q * 2 ^ k is the size itself.
unfoldable pub exactly : Bool → ℕ → ℕ → Result ℕ ℕ
unfolding size reply_with
exactly s num den =
    let n = num * 2 ^ 1074 in
    let k = size (n / den) - 53 in
    reply_with s n den k (n / den / 2 ^ k)

abbrev pub value_of : Parts → Result ℕ ℕ
value_of parts = exactly (negative parts) (num parts) (den parts)

-- 9 is tried first, for the whole text
unfoldable pub constant_of : List ℕ → Result ℕ ℕ
unfolding has_form parts_of exactly
constant_of text = cond (has_form text) (value_of (parts_of text)) (Err 9)

-- ---- the reply, in the paper's words

-- the finite float of the pattern b has exactly the value of the parts: its sign is theirs, a zero's too, and its size is num / den, as an
-- equation of whole numbers (HasValue is ⊥ for a NaN and an infinity, and else m * 2 ^ e is the size a / c: m * up e * c ≡ a * down e)
abbrev pub IsValue : ℕ → Parts → Type 0
IsValue b parts = HasValue (of_bits binary64 b) (negative parts) (num parts) (den parts)

abbrev pub Replies : List ℕ → Result ℕ ℕ → Type 0
Replies text (Err n) =
    ((n ≡ 9) × (HasForm text → ⊥))
    ⊎ ((n ≡ 10) × ((parts : Parts) × Spells parts text × ((b : ℕ) → b < 2 ^ 64 → IsValue b parts → ⊥)))
Replies text (Ok b) = (parts : Parts) × Spells parts text × (b < 2 ^ 64) × IsValue b parts

-- the computed reply is one, and there is no other
pub record Settles (text : List ℕ) : Type 0 where
  pub replies : Replies text (constant_of text)
  pub only : (r : Result ℕ ℕ) → Replies text r → r ≡ constant_of text

-- a zero keeps the text's sign, with every exponent
abbrev pub ZeroKeepsSign : Type 0
ZeroKeepsSign = (text : List ℕ) (parts : Parts) → Spells parts text → number 16 (parts.whole ++ parts.fraction) ≡ 0 → constant_of text ≡ Ok (sign_bit (negative parts))
