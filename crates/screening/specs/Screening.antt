-- Screening (document 01, "After the service: screening"; document 02, A.2): its reply to a kind 1 payload. Definitions only.
-- An error is a refusal's number, None is 'none', and Some i is the place i.
use Rattle.std.specs.Prelude.{ℕ, zero, suc, ◌*◌, ◌/◌, ◌%◌, ◌<◌, ◌^◌, ◌≡◌, List, Bool, true, false, not, ◌||◌, cond, length, ltb, eqb, Option, Some, None, Result, Ok, Err}
use Rattle.words.specs.Bytes.{number_at}
use Rattle.screening.specs.declared.BadPayload.{BadPayload}

-- the payload is empty or no multiple of 8
abbrev pub bad_weights : List ℕ → Bool
bad_weights p = eqb (length p) 0 || not (eqb (length p % 8) 0)

-- the bits of a NaN: above those of an infinity, without the sign
abbrev pub is_nan : ℕ → Bool
is_nan x = ltb 0x7ff0000000000000 (x % 2 ^ 63)

-- the weight at a place, counted in weights from 0
abbrev pub weight_at : List ℕ → ℕ → ℕ
weight_at p i = number_at 8 p (8 * i)

-- ---- the reply, computed

-- the first NaN among n weights, from the place i on
abbrev pub first_nan : List ℕ → ℕ → ℕ → Option ℕ
first_nan p i zero = None
first_nan p i (suc n) = cond (is_nan (weight_at p i)) (Some i) (first_nan p (suc i) n)

-- refusal 5 is tried first
unfoldable pub screened : List ℕ → Result (Option ℕ) ℕ
screened p = cond (bad_weights p) (Err 5) (Ok (first_nan p 0 (length p / 8)))

-- the same of the reply of src/
abbrev pub number_of : BadPayload → ℕ
number_of bad = 5

abbrev pub numbered : Result (Option ℕ) BadPayload → Result (Option ℕ) ℕ
numbered (Ok place) = Ok place
numbered (Err bad) = Err (number_of bad)

-- ---- the reply, in the documents' words

-- no weight before the place n is a NaN
abbrev pub NoneBefore : List ℕ → ℕ → Type 0
NoneBefore p n = (i : ℕ) → i < n → is_nan (weight_at p i) ≡ false

-- a named place holds a NaN, and no place before it does
abbrev pub Screens : List ℕ → Result (Option ℕ) ℕ → Type 0
Screens p (Err n) = (n ≡ 5) × (bad_weights p ≡ true)
Screens p (Ok None) = (bad_weights p ≡ false) × NoneBefore p (length p / 8)
Screens p (Ok (Some i)) = (bad_weights p ≡ false) × (i < length p / 8) × (is_nan (weight_at p i) ≡ true) × NoneBefore p i

-- the computed reply is one, and there is no other
pub record Settles (p : List ℕ) : Type 0 where
  pub screens : Screens p (screened p)
  pub only : (r : Result (Option ℕ) ℕ) → Screens p r → r ≡ screened p
