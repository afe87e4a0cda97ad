-- Worked examples of specs/State.antt, computed: what is held for the bytes of a frame, and which states no bytes leave. Assumes nothing.
use Prim.Native.Nat.{ℕ}
use mathlib.Core.Path.{◌≡◌, refl}
use mathlib.Core.List.{List, [], ◌∷◌, ◌++◌}
use mathlib.Core.Bool.{true, false}
use lib.ListN.{replicate}
use Rattle.partial_frame.specs.State.{kept_bytes, places_of, frame_of, empty_frame, is_left}
use Rattle.partial_frame.specs.declared.PartialFrame.{PartialFrame}
use Rattle.frames.specs.Frame.{kept}

abbrev zeros : ℕ → List ℕ
zeros n = replicate n 0

-- the bytes that have come, the length bytes, and the 514 body places
abbrev holding : ℕ → ℕ → ℕ → List ℕ → PartialFrame
holding count hi lo body = record { count = count; hi = hi; lo = lo; body = body }

-- no byte, which is the fresh state too; one; two
pub length_bytes :
    (frame_of [] ≡ holding 0 0 0 (zeros 514))
    × (empty_frame ≡ holding 0 0 0 (zeros 514))
    × (frame_of (3 ∷ []) ≡ holding 1 3 0 (zeros 514))
    × (frame_of (0 ∷ 3 ∷ []) ≡ holding 2 0 3 (zeros 514))
    × (frame_of (3 ∷ 0 ∷ []) ≡ holding 2 3 0 (zeros 514))
unfolding kept_bytes places_of kept
length_bytes = (refl, refl, refl, refl, refl)

-- L is 3; 2; 514, with two body bytes and with all but one; then 1, 515 and 65,535, of which no body byte is kept
pub body_bytes :
    (frame_of (0 ∷ 3 ∷ 11 ∷ 12 ∷ []) ≡ holding 4 0 3 (11 ∷ 12 ∷ zeros 512))
    × (frame_of (0 ∷ 2 ∷ 11 ∷ []) ≡ holding 3 0 2 (11 ∷ zeros 513))
    × (frame_of (2 ∷ 2 ∷ 11 ∷ 12 ∷ []) ≡ holding 4 2 2 (11 ∷ 12 ∷ zeros 512))
    × (frame_of (2 ∷ 2 ∷ 11 ∷ replicate 512 12) ≡ holding 515 2 2 (11 ∷ replicate 512 12 ++ zeros 1))
    × (frame_of (0 ∷ 1 ∷ 11 ∷ []) ≡ holding 3 0 1 (zeros 514))
    × (frame_of (2 ∷ 3 ∷ 11 ∷ 12 ∷ []) ≡ holding 4 2 3 (zeros 514))
    × (frame_of (255 ∷ 255 ∷ replicate 600 11) ≡ holding 602 255 255 (zeros 514))
unfolding kept_bytes places_of kept
body_bytes = (refl, refl, refl, refl, refl, refl, refl)

-- ---- refusal 7

-- the states of no byte, of one, and of two body bytes of 3; of the bytes short of the longest frame
pub left :
    (is_left (holding 0 0 0 (zeros 514)) ≡ true)
    × (is_left (holding 1 3 0 (zeros 514)) ≡ true)
    × (is_left (holding 4 0 3 (11 ∷ 12 ∷ zeros 512)) ≡ true)
    × (is_left (holding 65536 255 255 (zeros 514)) ≡ true)
unfolding is_left kept
left = (refl, refl, refl, refl)

-- a length byte that has not come; a whole frame, of length 0, 3 and 65,535; a place not yet filled; a body that is not kept, too short and
-- too long
pub not_left :
    (is_left (holding 0 1 0 (zeros 514)) ≡ false)
    × (is_left (holding 0 0 1 (zeros 514)) ≡ false)
    × (is_left (holding 1 0 1 (zeros 514)) ≡ false)
    × (is_left (holding 2 0 0 (zeros 514)) ≡ false)
    × (is_left (holding 5 0 3 (11 ∷ 12 ∷ 13 ∷ zeros 511)) ≡ false)
    × (is_left (holding 65537 255 255 (zeros 514)) ≡ false)
    × (is_left (holding 4 0 3 (11 ∷ 12 ∷ 13 ∷ zeros 511)) ≡ false)
    × (is_left (holding 4 0 3 (11 ∷ 12 ∷ zeros 511 ++ (1 ∷ []))) ≡ false)
    × (is_left (holding 0 0 0 (1 ∷ zeros 513)) ≡ false)
    × (is_left (holding 2 0 1 (11 ∷ zeros 513)) ≡ false)
    × (is_left (holding 3 2 3 (11 ∷ zeros 513)) ≡ false)
unfolding is_left kept
not_left = (refl, refl, refl, refl, refl, refl, refl, refl, refl, refl, refl)
