-- A refusal can be told from a reply, since its number is 9 or 10; and that at a text of each. Assumes nothing.
use Prim.Native.Nat.{ℕ}
use mathlib.Core.Path.{◌≡◌, refl}
use mathlib.Core.Logic.{inl, inr}
use mathlib.Core.List.{List}
use native.Mathlib.Omega.{arith}
use Rattle.std.specs.Prelude.{Result, Ok, Err}
use Rattle.hexadecimal.specs.Text.{number_from}
use Rattle.hexadecimal.proofs.Examples.{bytes}
use Rattle.constant.specs.Constant.{constant_of, Replies}
use Rattle.constant.proofs.Replies.{settles}
use Rattle.reply.specs.Told.{number, Apart}
use Rattle.constant_c.specs.Told.{TellsApart}

apart : (text : List ℕ) (r : Result ℕ ℕ) → Replies text r → Apart r
apart text (Err n) (inl h) e = absurd (omega (arith, h.0))
apart text (Err n) (inr h) e = absurd (omega (arith, h.0))
apart text (Ok b) h e = (b, refl)

pub tells_apart : TellsApart
tells_apart text = apart text (constant_of text) (settles text).replies

pub told : (b : ℕ) × (constant_of (bytes "0x1p0") ≡ Ok b)
unfolding constant_of number_from
told = tells_apart (bytes "0x1p0") refl

pub refused : number (constant_of (bytes "0x1p1024")) ≡ 10
unfolding constant_of number_from
refused = refl
