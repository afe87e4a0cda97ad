-- That a refusal of a direction byte can be told from a result. Definitions only.
use Rattle.std.specs.Prelude.{ℕ}
use Rattle.reply.specs.Told.{Apart}
use Rattle.multiply_add.specs.Fused.{fused_reply}

abbrev pub TellsApart : Type 0
TellsApart = (direction a b c : ℕ) → Apart (fused_reply direction a b c)
