-- A text of the form is read to its end, and what is kept of it is its value: part by part. Assumes nothing.
use Prim.Native.Nat.{ℕ, suc, ◌+◌, ◌*◌, ◌≤◌}
use native.Mathlib.Nat.{zero-add, add-zero, not-suc-le-zero, le_of_suc-le-suc}
use native.Mathlib.Omega.{arith}
use mathlib.Core.Path.{◌≡◌, refl, ap, ◌∙◌}
use mathlib.Core.Bool.{Bool, true, false, ◌&&◌}
use mathlib.Core.Logic.{◌⊎◌, inl, inr}
use mathlib.Core.List.{List, [], ◌∷◌, ◌++◌}
use lib.Dec.{T, ltb→lt}
use lib.ListN.{length}
use Rattle.hexadecimal.specs.Text.{Parts, Spells, spelling, digit_of, is_hexadecimal, is_decimal, every, is_minus, number_from, negative, num, den}
use Rattle.hexadecimal.specs.Test.{next_stage}
use Rattle.hexadecimal.specs.declared.Stage.{Stage}
use Rattle.hexadecimal.specs.declared.Stage.TheVariants.{Start, Signed, Zero, Prefix, Whole, LonePoint, Point, Fraction, P, ExponentSigned, Exponent}
use Rattle.hexadecimal.proofs.Steps.{Leads, end_of, Steps}
use Rattle.constant.specs.declared.Reading.{Reading}
use Rattle.constant.specs.Machine.{moved_to, pushed, read_from, staged, unread, Kept, Counts, Holds}
use Rattle.constant.proofs.Kept.{read_from-append, stage_moved, kept_none, kept_digit, counts_none, counts_digit}

-- ---- a part: bytes that all lead to one stage

-- what is known of a reading: its stage and sign, the number and the places of which its significand is kept, and the exponent's sign and size
record At (r : Reading) (s : Stage) (m : Bool) (n places : ℕ) (below : Bool) (power : ℕ) : Type 0 where
  stage : r.stage ≡ s
  negative : r.negative ≡ m
  kept : Kept r.significand n places
  down : r.inverse ≡ below
  counts : Counts r.power power

pushed_to : (r : Reading) (b : ℕ) {s t : Stage} → r.stage ≡ s → next_stage s b ≡ t → pushed r b ≡ moved_to t r b
unfolding pushed
pushed_to r b e k = ap (λ (s : Stage). moved_to s r b) (ap (λ (s : Stage). next_stage s b) e ∙ k)

moved : (t : Stage) (r : Reading) (b : ℕ) {s : Stage} {m below : Bool} {n places power : ℕ} → r.stage ≡ s → next_stage s b ≡ t → (moved_to t r b).negative ≡ m → Kept (moved_to t r b).significand n places → (moved_to t r b).inverse ≡ below → Counts (moved_to t r b).power power → At (pushed r b) t m n places below power
moved t r b e k negative kept down counts = rw (pushed_to r b e k) (record { stage = stage_moved t r b; negative = negative; kept = kept; down = down; counts = counts })

-- a part that starts at the stage that its bytes lead to
end_same : (l : List ℕ) (t : Stage) → end_of t l t ≡ t
end_same [] t = refl
end_same (b ∷ l) t = refl

-- a stage where nothing but the stage changes
abbrev Still : Stage → Type 0
Still t = (r : Reading) (b : ℕ) → moved_to t r b ≡ staged t r

still_point : (s : Stage) → (s ≡ LonePoint) ⊎ (s ≡ Point) → Still s
unfolding moved_to
still_point s (inl e) r b = rw e
still_point s (inr e) r b = rw e

moved_still : (t : Stage) (b : ℕ) {r : Reading} {s : Stage} {m below : Bool} {n places power : ℕ} → Still t → next_stage s b ≡ t → At r s m n places below power → At (pushed r b) t m n places below power
moved_still t b {r} still k a = rw (pushed_to r b a.stage k, still r b) (record { stage = refl; negative = a.negative; kept = a.kept; down = a.down; counts = a.counts })

at_still : (t : Stage) (l : List ℕ) {r : Reading} {s : Stage} {m below : Bool} {n places power : ℕ} → Still t → Leads s l t → At r s m n places below power → At (read_from r l) (end_of s l t) m n places below power
unfolding read_from
at_still t [] still leads a = a
at_still t (b ∷ l) still leads a = rw (end_same l t) at (at_still t l still leads.1 (moved_still t b still leads.0 a))

at_signed : (l : List ℕ) {r : Reading} {s : Stage} {below : Bool} {n places power : ℕ} → length l ≤ 1 → Leads s l Signed → At r s false n places below power → At (read_from r l) (end_of s l Signed) (is_minus l) n places below power
unfolding read_from moved_to
at_signed [] once leads a = a
at_signed (b ∷ []) {r} once leads a = moved Signed r b a.stage leads.0 refl a.kept a.down a.counts
at_signed (b ∷ d ∷ l) once leads a = absurd (not-suc-le-zero (le_of_suc-le-suc once))

at_exponent_signed : (l : List ℕ) {r : Reading} {s : Stage} {m : Bool} {n places power : ℕ} → length l ≤ 1 → Leads s l ExponentSigned → At r s m n places false power → At (read_from r l) (end_of s l ExponentSigned) m n places (is_minus l) power
unfolding read_from moved_to
at_exponent_signed [] once leads a = a
at_exponent_signed (b ∷ []) {r} once leads a = moved ExponentSigned r b a.stage leads.0 a.negative a.kept refl a.counts
at_exponent_signed (b ∷ d ∷ l) once leads a = absurd (not-suc-le-zero (le_of_suc-le-suc once))

both : (a b : Bool) → T (a && b) → T a × T b
both true b h = (tt, h)
both false b h = absurd h

at_whole : (l : List ℕ) {r : Reading} {s : Stage} {m below : Bool} {n places power : ℕ} → T (every is_hexadecimal l) → Leads s l Whole → At r s m n places below power → At (read_from r l) (end_of s l Whole) m (number_from 16 n l) places below power
unfolding read_from moved_to every number_from
at_whole [] digits leads a = a
at_whole (b ∷ l) {r} digits leads a = let d = both (is_hexadecimal b) _ digits in
    rw (end_same l Whole) at (at_whole l d.1 leads.1 (moved Whole r b a.stage leads.0 a.negative (kept_digit _ _ _ (digit_of b) false (ltb→lt _ _ d.0) a.kept) a.down a.counts))

at_fraction : (l : List ℕ) {r : Reading} {s : Stage} {m below : Bool} {n places power : ℕ} → T (every is_hexadecimal l) → Leads s l Fraction → At r s m n places below power → At (read_from r l) (end_of s l Fraction) m (number_from 16 n l) (places + length l) below power
unfolding read_from moved_to every number_from
at_fraction [] {places} digits leads a = rw (add-zero places) a
at_fraction (b ∷ l) {r} {places} digits leads a = let d = both (is_hexadecimal b) _ digits in
    let e : places + 1 + length l ≡ places + suc (length l) = omega arith in
    rw (end_same l Fraction, e) at (at_fraction l d.1 leads.1 (moved Fraction r b a.stage leads.0 a.negative (kept_digit _ _ _ (digit_of b) true (ltb→lt _ _ d.0) a.kept) a.down a.counts))

at_exponent : (l : List ℕ) {r : Reading} {s : Stage} {m below : Bool} {n places power : ℕ} → T (every is_decimal l) → Leads s l Exponent → At r s m n places below power → At (read_from r l) (end_of s l Exponent) m n places below (number_from 10 power l)
unfolding read_from moved_to every number_from
at_exponent [] digits leads a = a
at_exponent (b ∷ l) {r} digits leads a = let d = both (is_decimal b) _ digits in
    rw (end_same l Exponent) at (at_exponent l d.1 leads.1 (moved Exponent r b a.stage leads.0 a.negative a.kept a.down (counts_digit _ _ (digit_of b) (ltb→lt _ _ d.0) a.counts)))

-- ---- the whole text

number_from-append : (base n : ℕ) (a b : List ℕ) → number_from base n (a ++ b) ≡ number_from base (number_from base n a) b
unfolding number_from
number_from-append base n [] b = refl
number_from-append base n (x ∷ a) b = number_from-append base (n * base + digit_of x) a b

-- r is the reading of a text that these parts spell
pub record Read (r : Reading) (parts : Parts) : Type 0 where
  pub stage : r.stage ≡ Exponent
  pub negative : r.negative ≡ negative parts
  pub holds : Holds r.significand r.power r.inverse (num parts) (den parts)

read_at : (parts : Parts) {r : Reading} → At r Exponent (negative parts) (number_from 16 (number_from 16 0 parts.whole) parts.fraction) (0 + length parts.fraction) (is_minus parts.exponent_sign) (number_from 10 0 parts.exponent) → Read r parts
read_at parts a =
    record {
      stage = a.stage;
      negative = a.negative;
      holds =
          record {
            number = number_from 16 (number_from 16 0 parts.whole) parts.fraction;
            places = 0 + length parts.fraction;
            power = number_from 10 0 parts.exponent;
            kept = a.kept;
            counts = a.counts;
            num_is = rw (a.down, number_from-append);
            den_is = rw (a.down, zero-add);
          };
    }

at_unread : At unread Start false 0 0 false 0
at_unread = record { stage = refl; negative = refl; kept = kept_none; down = refl; counts = counts_none }

pub read_text : (parts : Parts) (text : List ℕ) → Spells parts text → Steps parts → Read (read_from unread text) parts
unfolding spelling moved_to
read_text parts text spells steps =
    let sign = at_signed parts.sign spells.sign_once steps.sign at_unread in
    let x = at_still Prefix parts.x (λ r b. refl) steps.x (at_still Zero parts.zero (λ r b. refl) steps.zero sign) in
    let whole = at_whole parts.whole spells.whole steps.whole (rw steps.prefix at x) in
    let point = at_still steps.point_stage parts.point (still_point _ steps.point_stage-is) steps.point whole in
    let fraction = at_fraction parts.fraction spells.fraction steps.fraction point in
    let p = at_still P parts.p (λ r b. refl) steps.p fraction in
    let exponent_sign = at_exponent_signed parts.exponent_sign spells.exponent_sign_once steps.exponent_sign (rw steps.at_p at p) in
    let exponent = at_exponent parts.exponent spells.exponent steps.exponent exponent_sign in
    rw spells.spelled (simp read_from-append (read_at parts (rw steps.last at exponent)))
