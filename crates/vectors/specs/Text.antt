-- How far a text has been run. Definitions only.
use Rattle.std.specs.Prelude.{ℕ, ◌≤◌, List, length}
use Rattle.vectors.specs.declared.Progress.{Progress}

-- the next line starts in the text or at its end, and there were no more lines than bytes before it
abbrev pub Reached : Progress → List ℕ → Type 0
Reached p text = (p.at ≤ length text) × (p.lines ≤ p.at) × (p.failures ≤ p.lines)
