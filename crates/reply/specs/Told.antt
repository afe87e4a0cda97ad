-- A reply for C: a number, and a result behind a pointer. A reply is Ok with a float's pattern, or Err with the number of a refusal.
-- Definitions only.
use Rattle.std.specs.Prelude.{ℕ, ◌≡◌, Result, Ok, Err}

-- a reply with the number of its error in place of it
abbrev pub numbered : {E : Type 0} → (E → ℕ) → Result ℕ E → Result ℕ ℕ
numbered f (Ok b) = Ok b
numbered f (Err e) = Err (f e)

-- the refusal's number, and 0 for a float
abbrev pub number : Result ℕ ℕ → ℕ
number (Err n) = n
number (Ok b) = 0

-- what the result holds after the call, if it held old before
abbrev pub content : Result ℕ ℕ → ℕ → ℕ
content (Err n) old = old
content (Ok b) old = b

-- a refusal can be told from a float: where the number is 0, and nowhere else, the result is a float's
abbrev pub Apart : Result ℕ ℕ → Type 0
Apart r = number r ≡ 0 → (b : ℕ) × (r ≡ Ok b)
