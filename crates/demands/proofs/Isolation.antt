-- Isolation: two lists whose joined bytes have the same length bytes and closing points are alike, since their frames end together; two that
-- are alike have the same answers; and what that says, point by point. Assumes nothing.
use Prim.Native.Nat.{ℕ, zero, suc, ◌+◌, ◌*◌}
use mathlib.Core.Path.{◌≡◌, refl, sym, ap, subst, ◌∙◌}
use mathlib.Core.List.{List, [], ◌∷◌, ◌++◌}
use mathlib.Core.Bool.{true, false}
use native.Mathlib.Omega.{arith}
use lib.ListN.{length, take, length-append}
use borrow.Author.Tests.{lt-leb, le-leb}
use Rattle.frames.specs.Frame.{whole}
use Rattle.memory.specs.Memory.{Memory, view_of, answer_with, remembered, shows_memory}
use Rattle.service.proofs.Memory.{answer_apart}
use Rattle.demands.specs.Stream.{Item, byte, closing, Point, frame, closed, parted_from, answers_from}
use Rattle.demands.specs.Demands.{Place, first, second, inside, to_come, blanked_from, Alike, SameAnswers}

-- ---- the same length bytes and closing points

-- what is left of a byte at its place, and the place of the next one
abbrev left : Place → ℕ → ℕ
left first b = b
left (second a) b = b
left (inside n) b = 0

abbrev next : Place → ℕ → Place
next first b = second b
next (second a) b = to_come (a * 256 + b)
next (inside n) b = to_come n

blanked_byte : (b : ℕ) (is : List Item) (p : Place) → blanked_from (byte b ∷ is) p ≡ byte (left p b) ∷ blanked_from is (next p b)
blanked_byte b is first = refl
blanked_byte b is (second a) = refl
blanked_byte b is (inside n) = refl

next_same : (p : Place) (b c : ℕ) → left p b ≡ left p c → next p b ≡ next p c
next_same first b c e = ap second e
next_same (second a) b c e = ap (λ (x : ℕ). to_come (a * 256 + x)) e
next_same (inside n) b c e = refl

-- what has come of two frames whose next bytes stand at one place
data Both : Place → List ℕ → List ℕ → Type 0 where
  nothing : Both first [] []
  one : {a : ℕ} → Both (second a) (a ∷ []) (a ∷ [])
  body : {a b n : ℕ} {h k : List ℕ} → length h + suc n ≡ a * 256 + b → length h ≡ length k → Both (inside n) (a ∷ b ∷ h) (a ∷ b ∷ k)

both_long : {p : Place} {h k : List ℕ} → Both p h k → length h ≡ length k
both_long Both.nothing = refl
both_long Both.one = refl
both_long (Both.body e l) = ap (λ (n : ℕ). suc (suc n)) l

both_lengths : {p : Place} {h k : List ℕ} → Both p h k → take 2 h ≡ take 2 k
both_lengths Both.nothing = refl
both_lengths Both.one = refl
both_lengths (Both.body e l) = refl

-- with one byte more both frames end, or neither
data Step (h k : List ℕ) : Place → Type 0 where
  ended : whole h ≡ true → whole k ≡ true → take 2 h ≡ take 2 k → Step h k first
  waits : {p : Place} → whole h ≡ false → whole k ≡ false → Both p h k → Step h k p

step_body : (n a b : ℕ) (h k : List ℕ) → length h + n ≡ a * 256 + b → length h ≡ length k → Step (a ∷ b ∷ h) (a ∷ b ∷ k) (to_come n)
unfolding whole
step_body zero a b h k e l = Step.ended (le-leb (2 + (a * 256 + b)) (suc (suc (length h))) (omega arith)) (le-leb (2 + (a * 256 + b)) (suc (suc (length k))) (omega arith)) refl
step_body (suc n) a b h k e l =
    Step.waits (lt-leb (2 + (a * 256 + b)) (suc (suc (length h))) (omega arith)) (lt-leb (2 + (a * 256 + b)) (suc (suc (length k))) (omega arith)) (Both.body e l)

step_first : (b : ℕ) → Step (b ∷ []) (b ∷ []) (second b)
unfolding whole
step_first b = let w = lt-leb (2 + (b * 256 + 0)) 1 (omega arith) in Step.waits w w Both.one

step : {p : Place} {h k : List ℕ} (x y : ℕ) → Both p h k → left p x ≡ left p y → Step (h ++ (x ∷ [])) (k ++ (y ∷ [])) (next p x)
step x y Both.nothing e = subst (λ (z : ℕ). Step (x ∷ []) (z ∷ []) (second x)) e (step_first x)
step x y (Both.one {a}) e = subst (λ (z : ℕ). Step (a ∷ x ∷ []) (a ∷ z ∷ []) (to_come (a * 256 + x))) e (step_body (a * 256 + x) a x [] [] (omega arith) refl)
step x y (Both.body {a} {b} {n} {h} {k} s l) e =
    step_body n a b (h ++ (x ∷ [])) (k ++ (y ∷ [])) (omega (arith, length-append h (x ∷ []))) (omega (arith, length-append h (x ∷ []), length-append k (y ∷ [])))

-- which item comes first
abbrev tag : List Item → ℕ
tag [] = 0
tag (closing ∷ is) = 1
tag (byte b ∷ is) = 2 + b

abbrev tail : List Item → List Item
tail [] = []
tail (i ∷ is) = is

alike_from : (is js : List Item) (p : Place) (h k : List ℕ) → Both p h k → blanked_from is p ≡ blanked_from js p → Alike (parted_from h is).points (parted_from k js).points
alike_from [] [] p h k w e = Alike.none
alike_from [] (closing ∷ js) p h k w e = absurd (omega (arith, ap tag e))
alike_from [] (byte c ∷ js) p h k w e = absurd (omega (arith, ap tag (e ∙ blanked_byte c js p)))
alike_from (closing ∷ is) [] p h k w e = absurd (omega (arith, ap tag e))
alike_from (closing ∷ is) (closing ∷ js) p h k w e = Alike.closings (both_long w) (both_lengths w) (alike_from is js first [] [] Both.nothing (ap tail e))
alike_from (closing ∷ is) (byte c ∷ js) p h k w e = absurd (omega (arith, ap tag (e ∙ blanked_byte c js p)))
alike_from (byte b ∷ is) [] p h k w e = absurd (omega (arith, ap tag (sym (blanked_byte b is p) ∙ e)))
alike_from (byte b ∷ is) (closing ∷ js) p h k w e = absurd (omega (arith, ap tag (sym (blanked_byte b is p) ∙ e)))
alike_from (byte b ∷ is) (byte c ∷ js) p h k w e =
    let x = sym (blanked_byte b is p) ∙ e ∙ blanked_byte c js p in
    let s : left p b ≡ left p c = omega (arith, ap tag x) in
    go (step b c w s) (ap tail x ∙ ap (blanked_from js) (sym (next_same p b c s))) (alike_from is js)
  where
    go : {q : Place} → Step (h ++ (b ∷ [])) (k ++ (c ∷ [])) q → blanked_from is q ≡ blanked_from js q
        → ((p : Place) (h k : List ℕ) → Both p h k → blanked_from is p ≡ blanked_from js p → Alike (parted_from h is).points (parted_from k js).points)
        → Alike (parted_from h (byte b ∷ is)).points (parted_from k (byte c ∷ js)).points
    go (Step.ended u v t) e ih = rw (u, v) (Alike.frames t (ih first [] [] Both.nothing e))
    go (Step.waits {p} u v w) e ih = rw (u, v) (ih p (h ++ (b ∷ [])) (k ++ (c ∷ [])) w e)

pub alike_blanked : (is js : List Item) → blanked_from is first ≡ blanked_from js first → Alike (parted_from [] is).points (parted_from [] js).points
alike_blanked is js e = alike_from is js first [] [] Both.nothing e

-- ---- the same answers

same_closings : {ps qs : List Point} (h k : List ℕ) (c d : Memory) → length h ≡ length k → SameAnswers ps qs (answers_from c ps) (answers_from d qs)
    → SameAnswers (closed h ∷ ps) (closed k ∷ qs) (answers_from c (closed h ∷ ps)) (answers_from d (closed k ∷ qs))
same_closings [] [] c d e r = SameAnswers.silent r
same_closings [] (b ∷ k) c d e r = absurd (omega arith)
same_closings (a ∷ h) [] c d e r = absurd (omega arith)
same_closings (a ∷ h) (b ∷ k) c d e r = SameAnswers.closings r

-- whatever the two remember, only a frame that shows the memory can tell
pub same_answers : {ps qs : List Point} (c d : Memory) → Alike ps qs → SameAnswers ps qs (answers_from c ps) (answers_from d qs)
same_answers c d Alike.none = SameAnswers.none
same_answers c d (Alike.frames {f} {g} t r) =
    SameAnswers.frames
    (λ e n. ap (λ a. a.bytes) (answer_apart (view_of c) (view_of d) f n) ∙ ap (λ x. (answer_with (view_of d) x).bytes) e)
    (same_answers (remembered f (answer_with (view_of c) f) c) (remembered g (answer_with (view_of d) g) d) r)
same_answers c d (Alike.closings {h} {k} l t r) = same_closings h k c d l (same_answers c d r)

-- ---- point by point

pub same_frame : {f a b : List ℕ} {ps qs : List Point} {xs ys : List (List ℕ)}
    → shows_memory f ≡ false → SameAnswers (frame f ∷ ps) (frame f ∷ qs) (a ∷ xs) (b ∷ ys) → (a ≡ b) × SameAnswers ps qs xs ys
same_frame n (SameAnswers.frames t r) = (t refl n, r)

pub damaged_frame : {f g a b : List ℕ} {ps qs : List Point} {xs ys : List (List ℕ)} → SameAnswers (frame f ∷ ps) (frame g ∷ qs) (a ∷ xs) (b ∷ ys) → SameAnswers ps qs xs ys
damaged_frame (SameAnswers.frames t r) = r

pub same_closing : {b c : ℕ} {h k x y : List ℕ} {ps qs : List Point} {xs ys : List (List ℕ)}
    → SameAnswers (closed (b ∷ h) ∷ ps) (closed (c ∷ k) ∷ qs) (x ∷ xs) (y ∷ ys) → (x ≡ y) × SameAnswers ps qs xs ys
same_closing (SameAnswers.closings r) = (refl, r)

pub silent_closing : {ps qs : List Point} {xs ys : List (List ℕ)} → SameAnswers (closed [] ∷ ps) (closed [] ∷ qs) xs ys → SameAnswers ps qs xs ys
silent_closing (SameAnswers.silent r) = r
