-- That a refusal of a list can be told from a score. Definitions only.
use Rattle.std.specs.Prelude.{ℕ, List}
use Rattle.reply.specs.Told.{Apart}
use Rattle.exceptions.specs.declared.Entry.{Entry}
use Rattle.score_with.specs.Score.{scored_with}

abbrev pub TellsApart : Type 0
TellsApart = (list : List Entry) (x : ℕ) → Apart (scored_with list x)
