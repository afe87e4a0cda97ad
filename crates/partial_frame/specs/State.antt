-- The state (document 01, "A delivery enters"): what it holds for the bytes of the present frame, and which states no run of bytes
-- leaves. Definitions only.
use Rattle.std.specs.Prelude.{ℕ, zero, suc, ◌+◌, ◌*◌, ◌-◌, ◌≡◌, List, [], ◌∷◌, Bool, true, false, cond, ◌&&◌, ◌||◌, length, get_or, drop, ltb, leb, eqb}
use Rattle.frames.specs.Frame.{longest_body, body_length, whole, kept}
use Rattle.partial_frame.specs.declared.PartialFrame.{PartialFrame}

-- the first n bytes, with zeros behind them where there are fewer
abbrev pub padded : ℕ → List ℕ → List ℕ
padded zero bytes = []
padded (suc n) [] = 0 ∷ padded n []
padded (suc n) (b ∷ bytes) = b ∷ padded n bytes

-- the body bytes that are kept: those so far where L is 2 to 514, and none for another L
unfoldable pub kept_bytes : List ℕ → List ℕ
kept_bytes bytes = cond (kept (body_length bytes)) (drop 2 bytes) []

-- the body places; those not yet filled hold 0
unfoldable pub places_of : List ℕ → List ℕ
places_of bytes = padded longest_body bytes

-- what is held for the bytes of the present frame
abbrev pub frame_of : List ℕ → PartialFrame
frame_of bytes = record { count = length bytes; hi = get_or bytes 0 0; lo = get_or bytes 1 0; body = places_of (kept_bytes bytes) }

abbrev pub empty_frame : PartialFrame
empty_frame = record { count = 0; hi = 0; lo = 0; body = places_of [] }

-- a run of bytes shorter than a whole frame leaves it
abbrev pub Left : PartialFrame → Type 0
Left s = (bytes : List ℕ) × (whole bytes ≡ false) × (s ≡ frame_of bytes)

-- ---- the same as a test, which proofs/Reach.antt shows: short of a whole frame, and 0 at each place not yet filled

abbrev pub length_in : PartialFrame → ℕ
length_in s = s.hi * 256 + s.lo

-- the body places that are filled
abbrev pub filled : PartialFrame → ℕ
filled s = cond (kept (length_in s)) (s.count - 2) 0

abbrev pub all_zero : List ℕ → Bool
all_zero [] = true
all_zero (b ∷ bytes) = eqb b 0 && all_zero bytes

unfoldable pub is_left : PartialFrame → Bool
is_left s =
    ltb s.count (2 + length_in s)
    && (leb 1 s.count || eqb s.hi 0)
    && (leb 2 s.count || eqb s.lo 0)
    && all_zero (drop (filled s) s.body)

-- bytes that leave s, where any do
abbrev pub first_bytes : ℕ → PartialFrame → List ℕ
first_bytes zero s = []
first_bytes (suc zero) s = s.hi ∷ []
first_bytes (suc (suc n)) s = s.hi ∷ s.lo ∷ padded n s.body

unfoldable pub bytes_in : PartialFrame → List ℕ
bytes_in s = first_bytes s.count s
