-- The form: a text has one reading at most, and the test decides whether it has one. Assumes nothing.
use Prim.Native.Nat.{ℕ, ◌+◌, ◌≤◌, ◌<◌}
use mathlib.Core.Path.{◌≡◌, refl, sym, ap, ◌∙◌}
use mathlib.Core.Bool.{Bool, true, false, cond}
use mathlib.Core.List.{List, [], ◌∷◌, ◌++◌, append_assoc, append-nil}
use native.Mathlib.Omega.{arith}
use lib.Dec.{T, lit≤, eqb→eq}
use lib.ListN.{length, take, drop}
use lib.Ieee.Fits.{and_i, and_l, and_r}
use lib.Ieee.Bits.{is_true}
use Rattle.hexadecimal.specs.Text.{Parts, Spells, HasForm, is_hexadecimal, is_decimal, is_sign, is_zero, is_x, is_point, is_p, digit_of, every, spelling, front, back, parts_of}
use Rattle.hexadecimal.specs.Test.{next_stage, stage_from, is_last, has_form}
use Rattle.hexadecimal.specs.Form.{OneReading, Decides}
use Rattle.hexadecimal.specs.declared.Stage.{Stage}
use Rattle.hexadecimal.specs.declared.Stage.TheVariants.{Start, Signed, Zero, Prefix, Whole, LonePoint, Point, Fraction, P, ExponentSigned, Exponent, Malformed}
use Rattle.hexadecimal.proofs.Steps.{either, shut_out, decimal_not_sign, steps, stage_part}

-- ---- a text from one of its parts on

abbrev from_exponent_sign : Parts → List ℕ
from_exponent_sign parts = parts.exponent_sign ++ parts.exponent

abbrev from_p : Parts → List ℕ
from_p parts = parts.p ++ from_exponent_sign parts

abbrev from_fraction : Parts → List ℕ
from_fraction parts = parts.fraction ++ from_p parts

abbrev from_point : Parts → List ℕ
from_point parts = parts.point ++ from_fraction parts

abbrev from_whole : Parts → List ℕ
from_whole parts = parts.whole ++ from_point parts

abbrev from_x : Parts → List ℕ
from_x parts = parts.x ++ from_whole parts

abbrev from_zero : Parts → List ℕ
from_zero parts = parts.zero ++ from_x parts

nested : (parts : Parts) → spelling parts ≡ parts.sign ++ from_zero parts
unfolding spelling
nested parts = simp append_assoc

-- ---- bytes

zero_not_sign : (b : ℕ) → T (is_zero b) → is_sign b ≡ false
zero_not_sign b h = rw (eqb→eq b 48 h)

point_not_digit : (b : ℕ) → T (is_point b) → is_hexadecimal b ≡ false
unfolding digit_of
point_not_digit b h = rw (eqb→eq b 46 h)

digit_not_point : (b : ℕ) → T (is_hexadecimal b) → is_point b ≡ false
digit_not_point b = shut_out (is_point b) (is_hexadecimal b) (point_not_digit b)

p_not_digit : (b : ℕ) → T (is_p b) → is_hexadecimal b ≡ false
unfolding digit_of
p_not_digit = either 112 80 (λ (b : ℕ). is_hexadecimal b ≡ false) refl refl

p_not_point : (b : ℕ) → T (is_p b) → is_point b ≡ false
p_not_point = either 112 80 (λ (b : ℕ). is_point b ≡ false) refl refl

sign_not_p : (b : ℕ) → T (is_sign b) → is_p b ≡ false
sign_not_p = either 43 45 (λ (b : ℕ). is_p b ≡ false) refl refl

decimal_not_p : (b : ℕ) → T (is_decimal b) → is_p b ≡ false
unfolding digit_of
decimal_not_p b = shut_out (is_p b) (is_decimal b) (either 112 80 (λ (k : ℕ). is_decimal k ≡ false) refl refl b)

-- ---- one reading

-- no byte passes both tests
abbrev Apart : (ℕ → Bool) → (ℕ → Bool) → Type 0
Apart c d = (b : ℕ) → T (d b) → c b ≡ false

-- a list does not start with one of c's bytes
abbrev Stops : (ℕ → Bool) → List ℕ → Type 0
Stops c [] = Unit {0}
Stops c (b ∷ l) = c b ≡ false

stops : (c d : ℕ → Bool) → Apart c d → (l m : List ℕ) → T (every d l) → (length l ≡ 0 → Stops c m) → Stops c (l ++ m)
unfolding every
stops c d apart [] m h s = s refl
stops c d apart (b ∷ l) m h s = apart b (and_l (d b) (every d l) h)

all_stop : (c d : ℕ → Bool) → Apart c d → (l : List ℕ) → T (every d l) → Stops c l
all_stop c d apart l h = rw append-nil at (stops c d apart l [] h (λ e. tt))

-- where a part of c's bytes ends
cut : (c : ℕ → Bool) (l m : List ℕ) → T (every c l) → Stops c m → (front c (l ++ m) ≡ l) × (back c (l ++ m) ≡ m)
unfolding every front back
cut c [] [] h s = (refl, refl)
cut c [] (b ∷ m) h s = (rw s, rw s)
cut c (b ∷ l) m h s =
    let e = is_true (c b) (and_l (c b) (every c l) h) in
    let i = cut c l m (and_r (c b) (every c l) h) s in
    (rw e (ap (λ (n : List ℕ). b ∷ n) i.0), rw e i.1)

-- a zero and an x are one byte each
cut_prefix : (zero x m : List ℕ) → length zero ≡ 1 → length x ≡ 1 → (take 1 (zero ++ (x ++ m)) ≡ zero) × (take 1 (drop 1 (zero ++ (x ++ m))) ≡ x) × (drop 2 (zero ++ (x ++ m)) ≡ m)
cut_prefix [] x m e f = absurd (omega arith)
cut_prefix (z ∷ []) [] m e f = absurd (omega arith)
cut_prefix (z ∷ []) (x ∷ []) m e f = (refl, refl, refl)
cut_prefix (z ∷ []) (x ∷ y ∷ l) m e f = absurd (omega arith)
cut_prefix (z ∷ y ∷ l) x m e f = absurd (omega arith)

none_before : (l m : List ℕ) → length l ≡ 0 → l ++ m ≡ m
none_before [] m e = refl
none_before (b ∷ l) m e = absurd (omega arith)

pub parts_of_lem : (parts : Parts) (text : List ℕ) → Spells parts text → parts_of text ≡ parts
unfolding parts_of
parts_of_lem parts text h =
    let after-sign = stops is_sign is_zero zero_not_sign parts.zero (from_x parts) h.zero (λ e. absurd (omega (arith, h.zero_once))) in
    let p-not : (c : ℕ → Bool) → Apart c is_p → Stops c (from_p parts) = λ c apart. stops c is_p apart parts.p (from_exponent_sign parts) h.p (λ e. absurd (omega (arith, h.p_once))) in
    let after-whole = stops is_hexadecimal is_point point_not_digit parts.point (from_fraction parts) h.point (λ e. rw (none_before parts.fraction (from_p parts) (h.pointless e)) (p-not is_hexadecimal p_not_digit)) in
    let after-point = stops is_point is_hexadecimal digit_not_point parts.fraction (from_p parts) h.fraction (λ e. p-not is_point p_not_point) in
    let after-p = stops is_p is_sign sign_not_p parts.exponent_sign parts.exponent h.exponent_sign (λ e. all_stop is_p is_decimal decimal_not_p parts.exponent h.exponent) in
    let sign = cut is_sign parts.sign (from_zero parts) h.sign after-sign in
    let prefix = cut_prefix parts.zero parts.x (from_whole parts) h.zero_once h.x_once in
    let whole = cut is_hexadecimal parts.whole (from_point parts) h.whole after-whole in
    let point = cut is_point parts.point (from_fraction parts) h.point after-point in
    let fraction = cut is_hexadecimal parts.fraction (from_p parts) h.fraction (p-not is_hexadecimal p_not_digit) in
    let p = cut is_p parts.p (from_exponent_sign parts) h.p after-p in
    let exponent = cut is_sign parts.exponent_sign parts.exponent h.exponent_sign (all_stop is_sign is_decimal decimal_not_sign parts.exponent h.exponent) in
    rw (h.spelled ∙ nested parts) (simp (sign.0, sign.1, prefix.0, prefix.1, prefix.2, whole.0, whole.1, point.0, point.1, fraction.0, fraction.1, p.0, p.1, exponent.0, exponent.1))

pub one_reading : OneReading
one_reading text a b h k = sym (parts_of_lem a text h) ∙ parts_of_lem b text k

-- ---- a text of the form passes the test

stage_form : (parts : Parts) (text : List ℕ) → Spells parts text → stage_from Start text ≡ Exponent
unfolding stage_from
stage_form parts text h =
    let s = steps parts text h in
    ap (stage_from Start) (h.spelled ∙ nested parts)
    ∙ stage_part Start parts.sign (from_zero parts) Signed s.sign
    ∙ stage_part _ parts.zero (from_x parts) Zero s.zero
    ∙ stage_part _ parts.x (from_whole parts) Prefix s.x
    ∙ ap (λ (r : Stage). stage_from r (from_whole parts)) s.prefix
    ∙ stage_part Prefix parts.whole (from_point parts) Whole s.whole
    ∙ stage_part _ parts.point (from_fraction parts) s.point_stage s.point
    ∙ stage_part _ parts.fraction (from_p parts) Fraction s.fraction
    ∙ stage_part _ parts.p (from_exponent_sign parts) P s.p
    ∙ ap (λ (r : Stage). stage_from r (from_exponent_sign parts)) s.at_p
    ∙ stage_part P parts.exponent_sign parts.exponent ExponentSigned s.exponent_sign
    ∙ ap (stage_from _) (sym (append-nil parts.exponent))
    ∙ stage_part _ parts.exponent [] Exponent s.exponent
    ∙ s.last

-- ---- a text that passes the test has the form

-- a byte that passes c, and then
record First (c : ℕ → Bool) (Then : List ℕ → Type 0) (l : List ℕ) : Type 0 where
  byte : ℕ
  rest : List ℕ
  spelled : l ≡ byte ∷ rest
  passes : T (c byte)
  then : Then rest

-- a sign or none, and then
record Sign (Then : List ℕ → Type 0) (l : List ℕ) : Type 0 where
  sign : List ℕ
  rest : List ℕ
  spelled : l ≡ sign ++ rest
  passes : T (every is_sign sign)
  once : length sign ≤ 1
  then : Then rest

abbrev Digits : List ℕ → Type 0
Digits l = T (every is_decimal l) × (0 < length l)

-- digits, and then a p
record Tail (l : List ℕ) : Type 0 where
  fraction : List ℕ
  rest : List ℕ
  spelled : l ≡ fraction ++ rest
  passes : T (every is_hexadecimal fraction)
  then : First is_p (Sign Digits) rest

-- digits, a point or none, and then
record Size (l : List ℕ) : Type 0 where
  whole : List ℕ
  point : List ℕ
  rest : List ℕ
  spelled : l ≡ whole ++ (point ++ rest)
  digits : T (every is_hexadecimal whole)
  passes : T (every is_point point)
  once : length point ≤ 1
  then : Tail rest
  pointless : length point ≡ 0 → length then.fraction ≡ 0

-- with a digit before the point or after it
abbrev Digital : List ℕ → Type 0
Digital l = (size : Size l) × (0 < length size.whole + length size.then.fraction)

-- the rest of a text of the form, by the stage before it
abbrev Follows : Stage → List ℕ → Type 0
Follows Start = Sign (First is_zero (First is_x Digital))
Follows Signed = First is_zero (First is_x Digital)
Follows Zero = First is_x Digital
Follows Prefix = Digital
Follows Whole = Size
Follows LonePoint = λ l. (tail : Tail l) × (0 < length tail.fraction)
Follows Point = Tail
Follows Fraction = Tail
Follows P = Sign Digits
Follows ExponentSigned = Digits
Follows Exponent = λ l. T (every is_decimal l)
Follows Malformed = λ l. ⊥

first : (c : ℕ → Bool) {Then : List ℕ → Type 0} {l : List ℕ} (b : ℕ) → T (c b) → Then l → First c Then (b ∷ l)
first c {l = l} b t r = record { byte = b; rest = l; spelled = refl; passes = t; then = r }

signed : {Then : List ℕ → Type 0} {l : List ℕ} (b : ℕ) → T (is_sign b) → Then l → Sign Then (b ∷ l)
unfolding every
signed {l = l} b t r = record { sign = b ∷ []; rest = l; spelled = refl; passes = and_i (is_sign b) true t tt; once = lit≤ tt; then = r }

unsigned : {Then : List ℕ → Type 0} {l : List ℕ} → Then l → Sign Then l
unfolding every
unsigned {l = l} r = record { sign = []; rest = l; spelled = refl; passes = tt; once = lit≤ tt; then = r }

tail_digit : {l : List ℕ} (b : ℕ) → T (is_hexadecimal b) → Tail l → Tail (b ∷ l)
unfolding every
tail_digit b t r = record { fraction = b ∷ r.fraction; rest = r.rest; spelled = ap (λ (m : List ℕ). b ∷ m) r.spelled; passes = and_i (is_hexadecimal b) (every is_hexadecimal r.fraction) t r.passes; then = r.then }

tail_p : {l : List ℕ} (b : ℕ) → T (is_p b) → Sign Digits l → Tail (b ∷ l)
unfolding every
tail_p {l} b t r = record { fraction = []; rest = b ∷ l; spelled = refl; passes = tt; then = first is_p b t r }

size_digit : {l : List ℕ} (b : ℕ) → T (is_hexadecimal b) → Size l → Size (b ∷ l)
unfolding every
size_digit b t r = record {
  whole = b ∷ r.whole;
  point = r.point;
  rest = r.rest;
  spelled = ap (λ (m : List ℕ). b ∷ m) r.spelled;
  digits = and_i (is_hexadecimal b) (every is_hexadecimal r.whole) t r.digits;
  passes = r.passes;
  once = r.once;
  then = r.then;
  pointless = r.pointless;
}

size_point : {l : List ℕ} (b : ℕ) → T (is_point b) → Tail l → Size (b ∷ l)
unfolding every
size_point {l} b t r = record { whole = []; point = b ∷ []; rest = l; spelled = refl; digits = tt; passes = and_i (is_point b) true t tt; once = lit≤ tt; then = r; pointless = λ e. absurd (omega arith) }

size_p : {l : List ℕ} (b : ℕ) → T (is_p b) → Sign Digits l → Size (b ∷ l)
unfolding every tail_p
size_p {l} b t r = record { whole = []; point = []; rest = b ∷ l; spelled = refl; digits = tt; passes = tt; once = lit≤ tt; then = tail_p b t r; pointless = λ e. refl }

-- which test the stage comes from
pick : {A : Type 0} (l : List ℕ) (t : Bool) (s other : Stage) → (T t → Follows s l → A) → (Follows other l → A) → Follows (cond t s other) l → A
pick l true s other f g h = f tt h
pick l false s other f g h = g h

-- a byte more in front
step : (s : Stage) (b : ℕ) (l : List ℕ) → Follows (next_stage s b) l → Follows s (b ∷ l)
unfolding next_stage every tail_digit size_digit size_point
step Start b l = pick l (is_sign b) Signed _ (signed b) (pick l (is_zero b) Zero Malformed (λ t r. unsigned (first is_zero b t r)) absurd)
step Signed b l = pick l (is_zero b) Zero Malformed (first is_zero b) absurd
step Zero b l = pick l (is_x b) Prefix Malformed (first is_x b) absurd
step Prefix b l = pick l (is_hexadecimal b) Whole _ (λ t r. (size_digit b t r, omega arith)) (pick l (is_point b) LonePoint Malformed (λ t r. (size_point b t r.0, omega arith)) absurd)
step Whole b l = pick l (is_hexadecimal b) Whole _ (size_digit b) (pick l (is_point b) Point _ (size_point b) (pick l (is_p b) P Malformed (size_p b) absurd))
step LonePoint b l = pick l (is_hexadecimal b) Fraction Malformed (λ t r. (tail_digit b t r, omega arith)) absurd
step Point b l = pick l (is_hexadecimal b) Fraction _ (tail_digit b) (pick l (is_p b) P Malformed (tail_p b) absurd)
step Fraction b l = pick l (is_hexadecimal b) Fraction _ (tail_digit b) (pick l (is_p b) P Malformed (tail_p b) absurd)
step P b l = pick l (is_sign b) ExponentSigned _ (signed b) (pick l (is_decimal b) Exponent Malformed (λ t r. unsigned (and_i (is_decimal b) (every is_decimal l) t r, omega arith)) absurd)
step ExponentSigned b l = pick l (is_decimal b) Exponent Malformed (λ t r. (and_i (is_decimal b) (every is_decimal l) t r, omega arith)) absurd
step Exponent b l = pick l (is_decimal b) Exponent Malformed (and_i (is_decimal b) (every is_decimal l)) absurd
step Malformed b l = absurd

done : (s : Stage) → T (is_last s) → Follows s []
unfolding every
done Start h = absurd h
done Signed h = absurd h
done Zero h = absurd h
done Prefix h = absurd h
done Whole h = absurd h
done LonePoint h = absurd h
done Point h = absurd h
done Fraction h = absurd h
done P h = absurd h
done ExponentSigned h = absurd h
done Exponent h = tt
done Malformed h = absurd h

follows : (s : Stage) (l : List ℕ) → T (is_last (stage_from s l)) → Follows s l
unfolding stage_from
follows s [] h = done s h
follows s (b ∷ l) h = step s b l (follows (next_stage s b) l h)

form : (text : List ℕ) → Follows Start text → HasForm text
unfolding every spelling
form text r =
    let zero = r.then in
    let x = zero.then in
    let size = x.then.0 in
    let tail = size.then in
    let p = tail.then in
    let exponent = p.then in (
      record {
        sign = r.sign;
        zero = zero.byte ∷ [];
        x = x.byte ∷ [];
        whole = size.whole;
        point = size.point;
        fraction = tail.fraction;
        p = p.byte ∷ [];
        exponent_sign = exponent.sign;
        exponent = exponent.rest;
      },
      record {
        sign = r.passes;
        sign_once = r.once;
        zero = and_i (is_zero zero.byte) true zero.passes tt;
        zero_once = refl;
        x = and_i (is_x x.byte) true x.passes tt;
        x_once = refl;
        whole = size.digits;
        point = size.passes;
        point_once = size.once;
        fraction = tail.passes;
        pointless = size.pointless;
        digits = x.then.1;
        p = and_i (is_p p.byte) true p.passes tt;
        p_once = refl;
        exponent_sign = exponent.passes;
        exponent_sign_once = exponent.once;
        exponent = exponent.then.0;
        exponent_digits = exponent.then.1;
        spelled = simp append_assoc (cc);
      },
    )

pub decides : (text : List ℕ) → Decides text
unfolding has_form
decides text = record {
  passed = λ h. let r = form text (follows Start text h) in rw (parts_of_lem r.0 text r.1) r.1;
  needed = λ r. rw (stage_form r.0 text r.1) tt;
}
