-- The values of a sheet's lines, one after another. Assumes nothing.
use Prim.Native.Nat.{ℕ, zero, suc, ◌+◌, ◌^◌, ◌<◌}
use mathlib.Core.Path.{◌≡◌, refl, sym, ap, ap₂, subst, ◌∙◌}
use mathlib.Core.List.{List, [], ◌∷◌, ◌++◌}
use mathlib.Core.Bool.{Bool, true, false}
use native.Mathlib.Numerals.{add-one}
use native.Mathlib.Omega.{arith}
use lib.ListN.{length, take, set, length-append}
use lib.Seq.{take-suc-set, get_or-take}
use lib.Dec.{ltb}
use borrow.Author.Tests.{ltb-true, ltb-false}
use Rattle.sheets.specs.Sheet.{line_of, refusal_of}
use Rattle.sheets.specs.declared.Line.{Line}
use Rattle.sheets.specs.declared.Line.TheVariants.{Weight, Sum}
use Rattle.std.proofs.Common.{rules, Option, Some, None, IsSome}
use Rattle.sheets.proofs.Lines.{names_earlier}
use Rattle.sums.specs.Sum.{sum_bits}
use Rattle.sheet_values.specs.Values.{value_from, values_of, value_of}
use Rattle.sheet_values.specs.Lines.{Words}

pub length_values : (p : List ℕ) (n : ℕ) → length (values_of p n) ≡ n
unfolding values_of
length_values p zero = refl
length_values p (suc n) = length-append (values_of p n) _ ∙ omega (arith, length_values p n)

-- line i, where it is not refused, names none behind the first i
pub value_front : (values : List ℕ) (i : ℕ) (line : Option Line) → refusal_of i line ≡ 0 → value_from values line ≡ value_from (take i values) line
unfolding value_from
value_front values i (Some (Weight x)) e = refl
value_front values i (Some (Sum first second)) e =
    let h = names_earlier i first second e in
    sym (ap₂ sum_bits (get_or-take i values first 0 h.0) (get_or-take i values second 0 h.1))
value_front values i None e = refl

-- its value comes behind those of the lines before it
pub values_more : (p values : List ℕ) (i : ℕ) {v : ℕ} → take i values ≡ values_of p i → i < length values → v ≡ value_of p i → take (i + 1) (set values i v) ≡ values_of p (i + 1)
unfolding value_of values_of
values_more p values i {v} e h x =
    ap (λ (n : ℕ). take n (set values i v)) (add-one i)
    ∙ take-suc-set values i v h
    ∙ ap₂ (λ (l : List ℕ) (w : ℕ). l ++ (w ∷ [])) e x
    ∙ ap (values_of p) (sym (add-one i))

pub words_more : (p : List ℕ) (i : ℕ) {v : ℕ} → Words i p → v ≡ value_of p i → v < 2 ^ 64 → Words (i + 1) p
words_more p i w e b j h = go (ltb j i) refl
  where
    go : (t : Bool) → ltb j i ≡ t → value_of p j < 2 ^ 64
    go true f = w j (ltb-true j i f)
    go false f =
        let l = ltb-false j i f in
        let s : j ≡ i = omega arith in
        subst (λ (x : ℕ). x < 2 ^ 64) (e ∙ ap (value_of p) (sym s)) b

-- a line that is not refused has one of the two forms
pub some_form : (i : ℕ) (line : Option Line) → refusal_of i line ≡ 0 → IsSome line
unfolding refusal_of
some_form i (Some line) e = search rules
some_form i None e = absurd (omega arith)

pub value_of_lem : (p values : List ℕ) (i : ℕ) → take i values ≡ values_of p i → refusal_of i (line_of p i) ≡ 0 → value_from values (line_of p i) ≡ value_of p i
unfolding value_of
value_of_lem p values i e g = value_front values i (line_of p i) g ∙ ap (λ (l : List ℕ). value_from l (line_of p i)) e
