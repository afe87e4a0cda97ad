-- That a refusal of a text can be told from its float. Definitions only.
use Rattle.std.specs.Prelude.{ℕ, List}
use Rattle.reply.specs.Told.{Apart}
use Rattle.constant.specs.Constant.{constant_of}

abbrev pub TellsApart : Type 0
TellsApart = (text : List ℕ) → Apart (constant_of text)
