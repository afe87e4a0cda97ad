-- What the functions of this crate say of each other: what is kept of a text that has been read in part. Nothing here is part of what a
-- reply means. Definitions only.
use Rattle.std.specs.Prelude.{ℕ, ◌+◌, ◌*◌, ◌/◌, ◌%◌, ◌^◌, ◌≤◌, ◌<◌, ◌≡◌, ◌⊎◌, Bool, true, false, cond, List, [], ◌∷◌, ltb, eqb, Result, Ok, Err}
use Rattle.rounding.specs.Machine.{sign_bit}
use Rattle.hexadecimal.specs.Text.{digit_of}
use Rattle.hexadecimal.specs.Test.{next_stage, is_last}
use Rattle.hexadecimal.specs.declared.Stage.{Stage}
use Rattle.hexadecimal.specs.declared.Stage.TheVariants.{Start, Signed, Zero, Prefix, Whole, LonePoint, Point, Fraction, P, ExponentSigned, Exponent, Malformed}
use Rattle.constant.specs.declared.ConstantError.{ConstantError}
use Rattle.constant.specs.declared.ConstantError.TheVariants.{BadText, Inexact}
use Rattle.constant.specs.declared.Significand.{Significand}
use Rattle.constant.specs.declared.Power.{Power}
use Rattle.constant.specs.declared.Reading.{Reading}
use Rattle.constant.specs.Constant.{exactly}

-- an error's number
abbrev pub refusal_of : ConstantError → ℕ
refusal_of BadText = 9
refusal_of Inexact = 10

-- ---- one more byte

-- one more hexadecimal digit, before or after the point: it is kept where there is room for it, in 60 bits
unfoldable pub with_digit : Significand → ℕ → Bool → Significand
with_digit s d after =
    cond (ltb s.value 0x100000000000000)
    (record { value = s.value * 16 + d; raised = s.raised; lowered = cond after (s.lowered + 1) s.lowered; lost = s.lost })
    (record { value = s.value; raised = cond after s.raised (s.raised + 1); lowered = s.lowered; lost = cond (eqb d 0) s.lost d })

-- the most that a quotient is counted to
abbrev pub most : ℕ
most = 18446744073709551610

-- one more decimal digit of the exponent
unfoldable pub with_decimal : Power → ℕ → Power
with_decimal e d =
    record {
      quotient = cond (ltb e.quotient 1844674407370955161) (e.quotient * 10 + (e.remainder * 10 + d) / 4) most;
      remainder = (e.remainder * 10 + d) % 4;
    }

abbrev pub staged : Stage → Reading → Reading
staged s r = record { stage = s; negative = r.negative; inverse = r.inverse; significand = r.significand; power = r.power }

-- a reading that comes to a stage by the byte b
unfoldable pub moved_to : Stage → Reading → ℕ → Reading
unfolding with_digit with_decimal digit_of
moved_to Start r b = staged Start r
moved_to Signed r b = record { stage = Signed; negative = eqb b 45; inverse = r.inverse; significand = r.significand; power = r.power }
moved_to Zero r b = staged Zero r
moved_to Prefix r b = staged Prefix r
moved_to Whole r b = record { stage = Whole; negative = r.negative; inverse = r.inverse; significand = with_digit r.significand (digit_of b) false; power = r.power }
moved_to LonePoint r b = staged LonePoint r
moved_to Point r b = staged Point r
moved_to Fraction r b = record { stage = Fraction; negative = r.negative; inverse = r.inverse; significand = with_digit r.significand (digit_of b) true; power = r.power }
moved_to P r b = staged P r
moved_to ExponentSigned r b = record { stage = ExponentSigned; negative = r.negative; inverse = eqb b 45; significand = r.significand; power = r.power }
moved_to Exponent r b = record { stage = Exponent; negative = r.negative; inverse = r.inverse; significand = r.significand; power = with_decimal r.power (digit_of b) }
moved_to Malformed r b = staged Malformed r

unfoldable pub pushed : Reading → ℕ → Reading
unfolding moved_to next_stage
pushed r b = moved_to (next_stage r.stage b) r b

unfoldable pub read_from : Reading → List ℕ → Reading
unfolding pushed
read_from r [] = r
read_from r (b ∷ text) = read_from (pushed r b) text

-- before the first byte
abbrev pub unread : Reading
unread = record { stage = Start; negative = false; inverse = false; significand = record { value = 0; raised = 0; lowered = 0; lost = 0 }; power = record { quotient = 0; remainder = 0 } }

-- at most n places have been counted
pub record Within (n : ℕ) (r : Reading) : Type 0 where
  pub places : r.significand.raised + r.significand.lowered ≤ n
  pub value : r.significand.value ≤ 0x1000000000000000
  pub remainder : r.power.remainder ≤ 3

-- as many as a slice can have bytes
abbrev pub most_places : ℕ
most_places = 0x8000000000000000

-- ---- what is kept

-- s is what is kept of the number n, of whose digits `places` stand after the point: all but the last `dropped`
pub record Kept (s : Significand) (n places : ℕ) : Type 0 where
  pub dropped : ℕ
  pub rest : ℕ
  pub is : n ≡ s.value * 16 ^ dropped + rest
  pub less : rest < 16 ^ dropped
  pub counted : dropped + s.lowered ≡ s.raised + places
  pub lost : eqb s.lost 0 ≡ eqb rest 0
  pub small : s.value < 0x1000000000000000
  pub full : (dropped ≡ 0) ⊎ (0x100000000000000 ≤ s.value)

-- e is what is kept of the exponent n
pub record Counts (e : Power) (n : ℕ) : Type 0 where
  pub quotient : e.quotient ≡ cond (ltb (n / 4) most) (n / 4) most
  pub remainder : e.remainder ≡ n % 4

-- s and e are what is kept of num / den, of whose power of two `inverse` says on which side of the line it stands
pub record Holds (s : Significand) (e : Power) (inverse : Bool) (num den : ℕ) : Type 0 where
  pub number : ℕ
  pub places : ℕ
  pub power : ℕ
  pub kept : Kept s number places
  pub counts : Counts e power
  pub num_is : num ≡ number * cond inverse 1 (2 ^ power)
  pub den_is : den ≡ 16 ^ places * cond inverse (2 ^ power) 1

-- r is the reply to a reading
pub record Finishes (reading : Reading) (r : Result ℕ ℕ) : Type 0 where
  pub malformed : is_last reading.stage ≡ false → r ≡ Err 9
  pub value : is_last reading.stage ≡ true → (num den : ℕ) → Holds reading.significand reading.power reading.inverse num den → r ≡ exactly reading.negative num den

-- ---- numbers with an exponent

-- the reply whose pattern is that of w / 2 ^ s times 2 ^ k, where that is a whole number
abbrev pub whole_bits : Bool → ℕ → ℕ → ℕ → Result ℕ ℕ
whole_bits neg w k s = cond (eqb (w % 2 ^ s) 0) (Ok (sign_bit neg + (k * 0x10000000000000 + w / 2 ^ s))) (Err 10)

-- r is the reply to m * 2 ^ e in units of 2 ^ -1136
abbrev pub RepliesBits : Bool → ℕ → ℕ → Result ℕ ℕ → Type 0
RepliesBits s m e r = (num den : ℕ) → 0 < den → num * 2 ^ 1136 ≡ m * 2 ^ e * den → r ≡ exactly s num den

-- r is the reply to m * 2 ^ t * 16 ^ above / 16 ^ below
abbrev pub RepliesPlaced : Bool → ℕ → ℕ → ℕ → ℕ → Result ℕ ℕ → Type 0
RepliesPlaced s m t above below r = (num den : ℕ) → 0 < den → num * 16 ^ below ≡ m * 2 ^ t * 16 ^ above * den → r ≡ exactly s num den
