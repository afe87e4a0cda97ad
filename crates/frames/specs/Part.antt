-- The part of a slice from a place to its end, and the place of a payload. Definitions only.
use Rattle.std.specs.Prelude.{◌≡◌, List, ℕ, ◌+◌, min, length, drop}
use Rattle.std.specs.Borrow.{Bor}

-- r is the part of s from k on, and no copy of it: the same block, k bytes further, and what stands there
pub record Part (r s : Bor (List ℕ)) (k : ℕ) : Type 0 where
  pub block : r.ref_ptr.0 ≡ s.ref_ptr.0
  pub offset : r.ref_ptr.1 ≡ s.ref_ptr.1 + k
  pub contents : r.now ≡ drop k s.now

-- a payload starts at the body's third byte; that of a body under 2 bytes is the body's own end
abbrev pub payload_from : List ℕ → ℕ
payload_from body = min 2 (length body)
