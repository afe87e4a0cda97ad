-- A list is good where each entry may follow the one before it, the first one minus infinity; so a check from the front comes to the list's refusal. Assumes nothing.
use mathlib.Core.Path.{◌≡◌, refl, ap, ◌∙◌}
use mathlib.Core.Bool.{Bool, true, false, ◌&&◌, cond}
use mathlib.Core.List.{List, [], ◌∷◌}
use Prim.Native.Nat.{ℕ, ◌+◌, ◌<◌, ◌≤◌}
use native.Mathlib.Numerals.{add-one}
use borrow.Author.Tests.{lt-ltb, le-ltb}
use lib.ListN.{length, drop, drop_of_length-le}
use lib.Seq.{drop-cons}
use lib.Ieee.{Float, nan, inf, fin, lt}
use lib.Ieee.Scale.{finite}
use Rattle.exceptions.specs.declared.Entry.{Entry}
use Rattle.exceptions.specs.Lookup.{nth}
use Rattle.exception_list.specs.List.{is_good, all_good, ascending, bad_entry, refusal_of, may_follow, all_follow}

exchange : (a b c d : Bool) → (a && b) && (c && d) ≡ (b && c) && (a && d)
exchange true true c d = refl
exchange true false c d = refl
exchange false true true d = refl
exchange false true false d = refl
exchange false false c d = refl

after : (e : Entry) (es : List Entry) → all_follow e.x es ≡ all_good es && ascending (e ∷ es)
unfolding all_follow may_follow all_good ascending
after e [] = refl
after e (f ∷ fs) =
    ap (λ (b : Bool). (lt e.x f.x && is_good f) && b) (after f fs)
    ∙ exchange (lt e.x f.x) (is_good f) (all_good fs) (ascending (f ∷ fs))

-- a finite x lies above minus infinity
above : (x : Float) (g : Bool) → lt (inf true) x && (finite x && g) ≡ finite x && g
unfolding lt
above nan g = refl
above (inf true) g = refl
above (inf false) g = refl
above (fin s m e) g = refl

first_good : (e : Entry) → may_follow (inf true) e ≡ is_good e
unfolding may_follow is_good
first_good e = above e.x _

associate : (a b c : Bool) → a && (b && c) ≡ (a && b) && c
associate true b c = refl
associate false b c = refl

all : (list : List Entry) → all_follow (inf true) list ≡ all_good list && ascending list
unfolding all_follow all_good ascending
all [] = refl
all (e ∷ es) =
    ap (λ (b : Bool). b && all_follow e.x es) (first_good e)
    ∙ ap (λ (b : Bool). is_good e && b) (after e es)
    ∙ associate (is_good e) (all_good es) (ascending (e ∷ es))

-- ---- from the front
-- the entries from i on may follow p
abbrev pub rest_follows : List Entry → ℕ → Float → Bool
rest_follows list i p = all_follow p (drop i list)

next : (list : List Entry) (i : ℕ) (p : Float) → i < length list → rest_follows list i p ≡ may_follow p (nth list i) && rest_follows list (i + 1) (nth list i).x
unfolding all_follow
next list i p h = rw (add-one i, drop-cons list i (record { x = nan; hi = nan; lo = nan }) h)

-- one that may follow, and one that may not
pub goes_on : (list : List Entry) (i : ℕ) (p : Float) → i < length list → may_follow p (nth list i) ≡ true → rest_follows list (i + 1) (nth list i).x ≡ rest_follows list i p
goes_on list i p h e = rw (next list i p h, e)

pub stops : (list : List Entry) (i : ℕ) (p : Float) → i < length list → may_follow p (nth list i) ≡ false → rest_follows list i p ≡ false
stops list i p h e = rw (next list i p h, e)

pub end : (list : List Entry) (i : ℕ) (p : Float) → length list ≤ i → rest_follows list i p ≡ true
unfolding all_follow
end list i p h = rw (drop_of_length-le list h)

-- ---- what it comes to
pub too_many : (list : List Entry) → 256 < length list → 12 ≡ refusal_of list
unfolding refusal_of
too_many list h = rw (lt-ltb _ _ h)

pub decided : (list : List Entry) (b : Bool) → length list ≤ 256 → all_follow (inf true) list ≡ b → cond b 0 bad_entry ≡ refusal_of list
unfolding refusal_of
decided list b h e = rw (le-ltb _ _ h, ← all list, e)
