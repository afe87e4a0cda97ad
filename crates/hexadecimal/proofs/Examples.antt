-- Worked examples of specs/Text.antt and specs/Test.antt, computed: texts that have the form, texts that have not, and one text's parts and value. Assumes nothing.
use Prim.Native.Nat.{ℕ}
use Prim.Native.Char.{code}
use Prim.Native.String.{String, [], ◌∷◌}
use mathlib.Core.Path.{◌≡◌, refl}
use mathlib.Core.Bool.{Bool, true, false}
use mathlib.Core.List.{List, [] as []ᴸ, ◌∷◌ as ◌∷ᴸ◌, map}
use native.Mathlib.Omega.{arith}
use lib.Dec.{T, lit≤, lit<}
use lib.ListN.{replicate}
use Rattle.hexadecimal.specs.Text.{Parts, Spells, HasForm, digit_of, every, spelling, number_from, negative, num, den, parts_of}
use Rattle.hexadecimal.specs.Test.{has_form}
use Rattle.hexadecimal.proofs.Form.{one_reading, decides}

-- the bytes of a text whose characters have one byte each
abbrev pub bytes : String → List ℕ
bytes [] = []ᴸ
bytes (c ∷ s) = code c ∷ᴸ bytes s

abbrev tests : List String → List Bool
tests = map (λ s. has_form (bytes s))

-- every digit, and the bytes on either side of each row of them
pub digits : map digit_of (bytes "0123456789ABCDEFabcdef") ≡ 0 ∷ᴸ 1 ∷ᴸ 2 ∷ᴸ 3 ∷ᴸ 4 ∷ᴸ 5 ∷ᴸ 6 ∷ᴸ 7 ∷ᴸ 8 ∷ᴸ 9 ∷ᴸ 10 ∷ᴸ 11 ∷ᴸ 12 ∷ᴸ 13 ∷ᴸ 14 ∷ᴸ 15 ∷ᴸ 10 ∷ᴸ 11 ∷ᴸ 12 ∷ᴸ 13 ∷ᴸ 14 ∷ᴸ 15 ∷ᴸ []ᴸ
unfolding digit_of
digits = refl

pub no_digits : map digit_of (bytes "/:@G`g") ≡ replicate 6 16
unfolding digit_of
no_digits = refl

pub with_form : tests ("0x1.p0" ∷ᴸ "0x.8p0" ∷ᴸ "+0x00.00P-0" ∷ᴸ "0X1P0" ∷ᴸ "-0xAbC.dEfp+007" ∷ᴸ "0x10000000000000000000000000p-100" ∷ᴸ []ᴸ) ≡ replicate 6 true
unfolding has_form
with_form = refl

-- nothing; no digit, exponent or prefix; a second point, sign or text; a space before or behind; a letter that is no digit
pub without_form : tests ("" ∷ᴸ "0x" ∷ᴸ "0xp0" ∷ᴸ "0x.p0" ∷ᴸ "0x1" ∷ᴸ "0x1p" ∷ᴸ "0x1p+" ∷ᴸ "0x1.0.0p0" ∷ᴸ "0x1p0 " ∷ᴸ " 0x1p0" ∷ᴸ "0x1p0x" ∷ᴸ "1p0" ∷ᴸ "--0x1p0" ∷ᴸ "0x1p+-1" ∷ᴸ "0x1g0p0" ∷ᴸ "0x1.00000000000001p0x" ∷ᴸ []ᴸ) ≡ replicate 16 false
unfolding has_form
without_form = refl

-- ---- one text

-- -80.25
abbrev text : List ℕ
text = bytes "-0xA0.8p-1"

abbrev parts : Parts
parts = record { sign = bytes "-"; zero = bytes "0"; x = bytes "x"; whole = bytes "A0"; point = bytes "."; fraction = bytes "8"; p = bytes "p"; exponent_sign = bytes "-"; exponent = bytes "1" }

pub its_parts : parts_of text ≡ parts
unfolding parts_of digit_of
its_parts = refl

pub its_value : (negative parts ≡ true) × (num parts ≡ 2568) × (den parts ≡ 32)
unfolding number_from digit_of
its_value = (refl, refl, refl)

pub spells : Spells parts text
unfolding every digit_of spelling
spells = record {
  sign = tt;
  sign_once = lit≤ tt;
  zero = tt;
  zero_once = refl;
  x = tt;
  x_once = refl;
  whole = tt;
  point = tt;
  point_once = lit≤ tt;
  fraction = tt;
  pointless = λ e. absurd (omega arith);
  digits = lit< tt;
  p = tt;
  p_once = refl;
  exponent_sign = tt;
  exponent_sign_once = lit≤ tt;
  exponent = tt;
  exponent_digits = lit< tt;
  spelled = refl;
}

-- what the theorems say of the text
pub passed : Spells (parts_of text) text
unfolding has_form
passed = (decides text).passed tt

pub needed : T (has_form text)
needed = (decides text).needed (parts, spells)

pub same : parts_of text ≡ parts
same = one_reading text (parts_of text) parts passed spells

pub refused : HasForm (bytes "0x1") → ⊥
unfolding has_form
refused = (decides (bytes "0x1")).needed
