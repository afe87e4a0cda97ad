-- The present frame byte by byte: what the functions of this crate say of each other. proofs/Held.antt shows that a step is one byte more.
-- Nothing here is part of what the service means. Definitions only.
use Rattle.std.specs.Prelude.{ℕ, zero, suc, ◌+◌, ◌≤◌, ◌<◌, List, [], ◌∷◌, Bool, true, false, cond, ◌≡◌, ◌&&◌, ◌||◌, length, set, drop, leb, eqb}
use Rattle.frames.specs.Frame.{kept}
use Rattle.partial_frame.specs.State.{length_in}
use Rattle.partial_frame.specs.declared.PartialFrame.{PartialFrame}

unfoldable pub whole_in : PartialFrame → Bool
whole_in s = leb (2 + length_in s) s.count

-- a length byte that has not come is 0
abbrev pub lengths_left : PartialFrame → Bool
lengths_left s = (leb 1 s.count || eqb s.hi 0) && (leb 2 s.count || eqb s.lo 0)

-- one byte more, where n have come
abbrev pub after_byte_at : ℕ → PartialFrame → ℕ → PartialFrame
after_byte_at zero s b = record { count = 1; hi = b; lo = s.lo; body = s.body }
after_byte_at (suc zero) s b = record { count = 2; hi = s.hi; lo = b; body = s.body }
after_byte_at (suc (suc n)) s b =
    record { count = suc (suc (suc n)); hi = s.hi; lo = s.lo; body = cond (kept (length_in s)) (set s.body n b) s.body }

unfoldable pub after_byte : PartialFrame → ℕ → PartialFrame
after_byte s b = after_byte_at s.count s b

-- how far a piece got: the frame, and the bytes used
pub record Progress : Type 0 where
  pub frame : PartialFrame
  pub used : ℕ

abbrev pub progress : PartialFrame → ℕ → Progress
progress s n = record { frame = s; used = n }

-- n bytes more used
abbrev pub further : ℕ → Progress → Progress
further n p = record { frame = p.frame; used = n + p.used }

-- byte by byte, up to the end of the frame or of the piece
abbrev pub advance : PartialFrame → List ℕ → Progress
advance s [] = record { frame = s; used = 0 }
advance s (b ∷ piece) =
    cond (whole_in (after_byte s b))
    (record { frame = after_byte s b; used = 1 })
    (further 1 (advance (after_byte s b) piece))

-- the start of a frame: a whole frame, or both length bytes, or all of the piece
pub record Begun (s : PartialFrame) (piece : List ℕ) (r : Progress) : Type 0 where
  pub ended : whole_in r.frame ≡ true → r ≡ advance s piece
  pub goes_on : whole_in r.frame ≡ false → advance s piece ≡ further r.used (advance r.frame (drop r.used piece))
  pub within : r.used ≤ length piece
  pub both : r.used < length piece → 2 ≤ r.frame.count
