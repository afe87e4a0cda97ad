-- The stages that a text of the form goes through, part by part. Assumes nothing.
use Prim.Native.Nat.{ℕ, ◌+◌, ◌≤◌, ◌<◌}
use mathlib.Core.Path.{◌≡◌, refl, ap, subst, subst⁻¹, ◌∙◌}
use mathlib.Core.Logic.{◌⊎◌, inl, inr}
use mathlib.Core.Bool.{Bool, true, false, ◌||◌, cond}
use mathlib.Core.List.{List, [], ◌∷◌, ◌++◌}
use native.Mathlib.Omega.{arith}
use lib.Dec.{T, eqb, eqb→eq}
use lib.ListN.{length}
use lib.Ieee.Fits.{and_l, and_r}
use Rattle.hexadecimal.specs.Text.{Parts, Spells, is_hexadecimal, is_decimal, is_sign, is_zero, is_x, is_point, is_p, digit_of, every}
use Rattle.hexadecimal.specs.Test.{next_stage, stage_from}
use Rattle.hexadecimal.specs.declared.Stage.{Stage}
use Rattle.hexadecimal.specs.declared.Stage.TheVariants.{Start, Signed, Zero, Prefix, Whole, LonePoint, Point, Fraction, P, ExponentSigned, Exponent}

-- every byte of l, read from stage s on, leads to stage t
abbrev pub Leads : Stage → List ℕ → Stage → Type 0
Leads s [] t = Unit {0}
Leads s (b ∷ l) t = (next_stage s b ≡ t) × Leads t l t

-- the stage after such a part
abbrev pub end_of : Stage → List ℕ → Stage → Stage
end_of s [] t = s
end_of s (b ∷ l) t = t

-- ---- bytes

-- what holds of two bytes holds of a byte that is one of them
pub either : (m n : ℕ) (Q : ℕ → Type 0) → Q m → Q n → (b : ℕ) → T (eqb b m || eqb b n) → Q b
either m n Q p q b h = go (eqb b m) (eqb→eq b m) h
  where
    go : (t : Bool) → (T t → b ≡ m) → T (t || eqb b n) → Q b
    go true e h = subst⁻¹ Q (e tt) p
    go false e h = subst⁻¹ Q (eqb→eq b n h) q

-- of two tests that are not passed together, one that is passed shuts out the other
pub shut_out : (t u : Bool) → (T t → u ≡ false) → T u → t ≡ false
shut_out true u h p = absurd (subst T (h tt) p)
shut_out false u h p = refl

pub decimal_not_sign : (b : ℕ) → T (is_decimal b) → is_sign b ≡ false
unfolding digit_of
decimal_not_sign b = shut_out (is_sign b) (is_decimal b) (either 43 45 (λ (k : ℕ). is_decimal k ≡ false) refl refl b)

-- a test that is passed decides the stage
chosen : (t : Bool) (s other : Stage) → T t → cond t s other ≡ s
chosen true s other h = refl
chosen false s other h = absurd h

-- ---- lists of bytes

-- a part of c's bytes, of at most one or of any number
once : (c : ℕ → Bool) (s t : Stage) → ((b : ℕ) → T (c b) → next_stage s b ≡ t) → (l : List ℕ) → T (every c l) → length l ≤ 1 → Leads s l t
unfolding every
once c s t into [] h n = tt
once c s t into (b ∷ []) h n = (into b (and_l (c b) true h), tt)
once c s t into (a ∷ b ∷ l) h n = absurd (omega arith)

many : (c : ℕ → Bool) (s t : Stage) → ((b : ℕ) → T (c b) → next_stage s b ≡ t) → ((b : ℕ) → T (c b) → next_stage t b ≡ t) → (l : List ℕ) → T (every c l) → Leads s l t
unfolding every
many c s t into on [] h = tt
many c s t into on (b ∷ l) h = (into b (and_l (c b) (every c l) h), many c t t on on l (and_r (c b) (every c l) h))

-- what holds of the stages before and after a part holds of its end
after : (Q : Stage → Type 0) (s t : Stage) (l : List ℕ) → Q s → Q t → Q (end_of s l t)
after Q s t [] p q = p
after Q s t (b ∷ l) p q = q

after_some : (s t : Stage) (l : List ℕ) → 0 < length l → end_of s l t ≡ t
after_some s t [] h = absurd (omega arith)
after_some s t (b ∷ l) h = refl

-- the stage goes on from the end of a part
pub stage_part : (s : Stage) (l m : List ℕ) (t : Stage) → Leads s l t → stage_from s (l ++ m) ≡ stage_from (end_of s l t) m
unfolding stage_from
stage_part s [] m t h = refl
stage_part s (b ∷ l) m t h =
    ap (λ (r : Stage). stage_from r (l ++ m)) h.0
    ∙ stage_part t l m t h.1
    ∙ ap (λ (r : Stage). stage_from r m) (after (λ (r : Stage). r ≡ t) t t l refl refl)

-- ---- the parts of a text

-- the stage after a point, by the digits before it
abbrev point_after : List ℕ → Stage
point_after whole = end_of LonePoint whole Point

-- the stages that the parts of a text go through
pub record Steps (parts : Parts) : Type 0 where
  pub sign : Leads Start parts.sign Signed
  pub zero : Leads (end_of Start parts.sign Signed) parts.zero Zero
  pub x : Leads (end_of (end_of Start parts.sign Signed) parts.zero Zero) parts.x Prefix
  pub prefix : end_of (end_of (end_of Start parts.sign Signed) parts.zero Zero) parts.x Prefix ≡ Prefix
  pub whole : Leads Prefix parts.whole Whole
  pub point_stage : Stage
  pub point_stage-is : (point_stage ≡ LonePoint) ⊎ (point_stage ≡ Point)
  pub point : Leads (end_of Prefix parts.whole Whole) parts.point point_stage
  pub fraction : Leads (end_of (end_of Prefix parts.whole Whole) parts.point point_stage) parts.fraction Fraction
  pub p : Leads (end_of (end_of (end_of Prefix parts.whole Whole) parts.point point_stage) parts.fraction Fraction) parts.p P
  pub at_p : end_of (end_of (end_of (end_of Prefix parts.whole Whole) parts.point point_stage) parts.fraction Fraction) parts.p P ≡ P
  pub exponent_sign : Leads P parts.exponent_sign ExponentSigned
  pub exponent : Leads (end_of P parts.exponent_sign ExponentSigned) parts.exponent Exponent
  pub last : end_of (end_of P parts.exponent_sign ExponentSigned) parts.exponent Exponent ≡ Exponent

point_leads : (whole point : List ℕ) → T (every is_point point) → length point ≤ 1 → Leads (end_of Prefix whole Whole) point (point_after whole)
unfolding next_stage
point_leads [] = once is_point Prefix LonePoint (λ b h. rw (eqb→eq b 46 h))
point_leads (a ∷ whole) = once is_point Whole Point (λ b h. rw (eqb→eq b 46 h))

fraction_leads : (s : Stage) (whole point fraction : List ℕ) → T (every is_hexadecimal fraction) → (length point ≡ 0 → length fraction ≡ 0) → Leads (end_of s point (point_after whole)) fraction Fraction
unfolding next_stage
fraction_leads s whole [] [] h e = tt
fraction_leads s whole [] (b ∷ fraction) h e = absurd (omega (arith, e refl))
fraction_leads s whole (a ∷ point) fraction h e =
    let digit : (b : ℕ) → T (is_hexadecimal b) → next_stage Fraction b ≡ Fraction = λ b. chosen (is_hexadecimal b) Fraction _ in
    after (λ (r : Stage). Leads r fraction Fraction) LonePoint Point whole
    (many is_hexadecimal LonePoint Fraction (λ b. chosen (is_hexadecimal b) Fraction _) digit fraction h)
    (many is_hexadecimal Point Fraction digit digit fraction h)

-- the stages that digits may end in
after_digits : (Q : Stage → Type 0) (whole point fraction : List ℕ) → 0 < length whole + length fraction → Q Whole → Q Point → Q Fraction
    → Q (end_of (end_of (end_of Prefix whole Whole) point (point_after whole)) fraction Fraction)
after_digits Q [] point [] h w d f = absurd (omega arith)
after_digits Q (a ∷ whole) [] [] h w d f = w
after_digits Q (a ∷ whole) (b ∷ point) [] h w d f = d
after_digits Q whole point (b ∷ fraction) h w d f = f

pub steps : (parts : Parts) (text : List ℕ) → Spells parts text → Steps parts
unfolding next_stage digit_of
steps parts text h =
    let zero : (s : Stage) → next_stage s 48 ≡ Zero → Leads s parts.zero Zero = λ s e. once is_zero s Zero (λ b t. rw (eqb→eq b 48 t) e) parts.zero h.zero (omega (arith, h.zero_once)) in
    let p : (s : Stage) → next_stage s 112 ≡ P → next_stage s 80 ≡ P → Leads s parts.p P = λ s e f. once is_p s P (either 112 80 (λ (b : ℕ). next_stage s b ≡ P) e f) parts.p h.p (omega (arith, h.p_once)) in
    let exponent : (s : Stage) → ((b : ℕ) → T (is_decimal b) → next_stage s b ≡ Exponent) → Leads s parts.exponent Exponent = λ s e. many is_decimal s Exponent e (λ b. chosen (is_decimal b) Exponent _) parts.exponent h.exponent in
    record {
      sign = once is_sign Start Signed (λ b. chosen (is_sign b) Signed _) parts.sign h.sign h.sign_once;
      zero = after (λ (s : Stage). Leads s parts.zero Zero) Start Signed parts.sign (zero Start refl) (zero Signed refl);
      x = rw (after_some (end_of Start parts.sign Signed) Zero parts.zero (omega (arith, h.zero_once)))
          (once is_x Zero Prefix (λ b. chosen (is_x b) Prefix _) parts.x h.x (omega (arith, h.x_once)));
      prefix = after_some _ Prefix parts.x (omega (arith, h.x_once));
      whole = many is_hexadecimal Prefix Whole (λ b. chosen (is_hexadecimal b) Whole _) (λ b. chosen (is_hexadecimal b) Whole _) parts.whole h.whole;
      point_stage = point_after parts.whole;
      point_stage-is = after (λ (s : Stage). (s ≡ LonePoint) ⊎ (s ≡ Point)) LonePoint Point parts.whole (inl refl) (inr refl);
      point = point_leads parts.whole parts.point h.point h.point_once;
      fraction = fraction_leads _ parts.whole parts.point parts.fraction h.fraction h.pointless;
      p = after_digits (λ (s : Stage). Leads s parts.p P) parts.whole parts.point parts.fraction h.digits (p Whole refl refl) (p Point refl refl) (p Fraction refl refl);
      at_p = after_some _ P parts.p (omega (arith, h.p_once));
      exponent_sign = once is_sign P ExponentSigned (λ b. chosen (is_sign b) ExponentSigned _) parts.exponent_sign h.exponent_sign h.exponent_sign_once;
      exponent = after (λ (s : Stage). Leads s parts.exponent Exponent) P ExponentSigned parts.exponent_sign
          (exponent P (λ b t. rw (decimal_not_sign b t) (chosen (is_decimal b) Exponent _ t)))
          (exponent ExponentSigned (λ b. chosen (is_decimal b) Exponent _));
      last = after_some _ Exponent parts.exponent h.exponent_digits;
    }
