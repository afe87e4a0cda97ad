-- What the functions on bodies ask of their callers. Nothing here is part of what a frame means. Definitions only.
use Rattle.std.specs.Prelude.{ℕ, ◌≡◌, List, true, length}
use Rattle.frames.specs.Frame.{kept}

-- body has n bytes, where n is a length that is kept
abbrev pub Body : ℕ → List ℕ → Type 0
Body n body = kept n ≡ true → length body ≡ n
