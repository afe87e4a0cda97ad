-- `refusal_to`, case by case, as a function that tries the refusals in order comes to them. Assumes nothing.
use Prim.Native.Nat.{ℕ, zero, suc, ◌-◌, ◌≤◌, ◌<◌}
use mathlib.Core.Path.{◌≡◌, refl, sym, ◌∙◌}
use mathlib.Core.Logic.{◌⊎◌, inl, inr}
use mathlib.Core.List.{List, [], ◌∷◌}
use mathlib.Core.Bool.{Bool, true, false, cond, not, ◌&&◌, ◌||◌}
use native.Mathlib.Nat.{le_of_lt}
use native.Mathlib.Omega.{arith}
use lib.ListN.{length, get_or, drop}
use lib.Dec.{ltb, leb, eqb}
use borrow.Author.Tests.{lt-ltb, le-ltb, le-leb, leb-true, leb-false, eq-eqb, ne_eqb, eqb-true, eqb-false, ltb-false}
use Rattle.rounding.specs.Named.{direction_of}
use Rattle.std.specs.Prelude.{Option, Some, None}
use Rattle.rounding.specs.declared.Direction.{Direction}
use Rattle.sheets.specs.Sheet.{or_else, sheet_refusal}
use Rattle.sheets.proofs.FirstBad.{or_bad, sheet_by}
use Rattle.frames.specs.Frame.{longest_body, kept, direction_refusal, is_kind, kind_of, items_from, bad_payload, refusal_to}
use Rattle.frames.specs.Body.{Body}
use Rattle.frames.proofs.Items.{items_first, sheet_later, bad_items}

pub kept_bounds : (n : ℕ) → kept n ≡ true → (2 ≤ n) × (n ≤ longest_body)
unfolding kept
kept_bounds n e = both (leb 2 n) (leb n longest_body) refl refl e
  where
    both : (s t : Bool) → leb 2 n ≡ s → leb n longest_body ≡ t → s && t ≡ true → (2 ≤ n) × (n ≤ longest_body)
    both true true f g h = (leb-true _ _ f, leb-true _ _ g)
    both true false f g h = absurd (mathlib.Core.Bool.false≢true h)
    both false t f g h = absurd (mathlib.Core.Bool.false≢true h)

pub bounds_kept : {n : ℕ} → 2 ≤ n → n ≤ longest_body → kept n ≡ true
unfolding kept
bounds_kept {n} l h = rw (le-leb 2 n l, le-leb n longest_body h) refl

module _ (n : ℕ) (b : List ℕ) where
  pub too_short : n < 2 → refusal_to n b ≡ 1
  unfolding refusal_to
  too_short h = rw (lt-ltb n 2 h) refl

  pub too_long : 2 ≤ n → longest_body < n → refusal_to n b ≡ 2
  unfolding refusal_to
  too_long l h = rw (le-ltb n 2 l, lt-ltb longest_body n h) refl

  module _ (l : 2 ≤ n) (h : n ≤ longest_body) where
    pub body_length_lem : Body n b → length b ≡ n
    body_length_lem e = e (bounds_kept l h)

    pub bad_version : (get_or b 0 0 ≡ 1 → ⊥) → refusal_to n b ≡ 3
    unfolding refusal_to
    bad_version v = rw (le-ltb n 2 l, le-ltb longest_body n h, ne_eqb (get_or b 0 0) 1 v) refl

    module _ (v : get_or b 0 0 ≡ 1) where
      pub bad_kind : is_kind (get_or b 1 0) ≡ false → refusal_to n b ≡ 4
      unfolding refusal_to
      bad_kind k = rw (le-ltb n 2 l, le-ltb longest_body n h, eq-eqb (get_or b 0 0) 1 v, k) refl

      module _ (k : is_kind (get_or b 1 0) ≡ true) where
        pub own_refusal : {m : ℕ} → m ≡ (kind_of (get_or b 1 0)).own (drop 2 b) → (m ≡ 0 → ⊥) → refusal_to n b ≡ m
        unfolding refusal_to
        own_refusal {m} e z = rw (le-ltb n 2 l, le-ltb longest_body n h, eq-eqb (get_or b 0 0) 1 v, k, ← e) (or_bad m _ z)

        module _ (o : (kind_of (get_or b 1 0)).own (drop 2 b) ≡ 0) where
          pub bad_payload_lem : bad_payload (get_or b 1 0) (n - 2) ≡ true → refusal_to n b ≡ 5
          unfolding refusal_to
          bad_payload_lem e = rw (le-ltb n 2 l, le-ltb longest_body n h, eq-eqb (get_or b 0 0) 1 v, k, o, e) refl

          pub later_refusal : bad_payload (get_or b 1 0) (n - 2) ≡ false → refusal_to n b ≡ (kind_of (get_or b 1 0)).later (drop 2 b)
          unfolding refusal_to
          later_refusal e = rw (le-ltb n 2 l, le-ltb longest_body n h, eq-eqb (get_or b 0 0) 1 v, k, o, e) refl

-- ---- the numbers

-- what holds of 0, 1 to 5, 11, 14 and 15 holds of every refusal of a sender
module _ (P : ℕ → Type 0) where
  cond_by : (t : Bool) {x y : ℕ} → P x → P y → P (cond t x y)
  cond_by true h k = h
  cond_by false h k = k

  or_by : (m : ℕ) {n : ℕ} → P m → P n → P (or_else m n)
  or_by zero h k = k
  or_by (suc m) h k = h

  module _ (none : P 0) (direction : P 11) where
    direction_by : (n : Option Direction) → P (direction_refusal n)
    direction_by (Some d) = none
    direction_by None = direction

    own_by : (kind : ℕ) (payload : List ℕ) → P ((kind_of kind).own payload)
    unfolding kind_of
    own_by zero p = none
    own_by (suc zero) p = none
    own_by (suc (suc zero)) p = none
    own_by (suc (suc (suc zero))) [] = none
    own_by (suc (suc (suc zero))) (b ∷ p) = direction_by (direction_of b)
    own_by (suc (suc (suc (suc zero)))) p = none
    own_by (suc (suc (suc (suc (suc zero))))) p = none
    own_by (suc (suc (suc (suc (suc (suc kind)))))) p = none

    module _ (form : P 14) (number : P 15) where
      later_by : (kind : ℕ) (payload : List ℕ) → P ((kind_of kind).later payload)
      unfolding kind_of
      later_by zero p = none
      later_by (suc zero) p = none
      later_by (suc (suc zero)) p = none
      later_by (suc (suc (suc zero))) p = none
      later_by (suc (suc (suc (suc zero)))) p = none
      later_by (suc (suc (suc (suc (suc zero))))) p = sheet_by P none form number p
      later_by (suc (suc (suc (suc (suc (suc kind)))))) p = none

      pub refusal_by : P 1 → P 2 → P 3 → P 4 → P 5 → (n : ℕ) (b : List ℕ) → P (refusal_to n b)
      unfolding refusal_to
      refusal_by p1 p2 p3 p4 p5 n b =
          cond_by (ltb n 2) p1
          (cond_by (ltb longest_body n) p2
          (cond_by (not (eqb (get_or b 0 0) 1)) p3
          (cond_by (not (is_kind (get_or b 1 0))) p4
          (or_by ((kind_of (get_or b 1 0)).own (drop 2 b)) (own_by (get_or b 1 0) (drop 2 b))
          (cond_by (bad_payload (get_or b 1 0) (n - 2)) p5
          (later_by (get_or b 1 0) (drop 2 b)))))))

-- a sender's number, or 0: none of 6 to 10, by which calls, the stream's end and texts are refused
abbrev pub Senders : ℕ → Type 0
Senders n = (n ≤ 5) ⊎ (11 ≤ n)

pub refusal_senders : (n : ℕ) (b : List ℕ) → Senders (refusal_to n b)
refusal_senders =
    refusal_by Senders (inl (omega arith)) (inr (omega arith)) (inr (omega arith)) (inr (omega arith)) (inl (omega arith)) (inl (omega arith)) (inl (omega arith)) (inl (omega arith)) (inl (omega arith))

-- what is not refused has a length that is kept
pub good_length : (n : ℕ) (b : List ℕ) → refusal_to n b ≡ 0 → (2 ≤ n) × (n ≤ longest_body)
unfolding refusal_to
good_length n b e = go (ltb n 2) (ltb longest_body n) refl refl
  where
    go : (s t : Bool) → ltb n 2 ≡ s → ltb longest_body n ≡ t → (2 ≤ n) × (n ≤ longest_body)
    go true t f g = let z : ◌≡◌ {A = ℕ} 1 0 = rw f at e in absurd (omega arith)
    go false true f g = let z : ◌≡◌ {A = ℕ} 2 0 = rw (f, g) at e in absurd (omega arith)
    go false false f g = (ltb-false n 2 f, ltb-false longest_body n g)

-- and version 1, a kind, a payload that its kind has, and no refusal after 5
good_parts : (n : ℕ) (b : List ℕ) → refusal_to n b ≡ 0 → (eqb (get_or b 0 0) 1 ≡ true) × (is_kind (get_or b 1 0) ≡ true) × (bad_payload (get_or b 1 0) (n - 2) ≡ false) × ((kind_of (get_or b 1 0)).later (drop 2 b) ≡ 0)
unfolding refusal_to
good_parts n b e =
    go (ltb n 2) (ltb longest_body n) (eqb (get_or b 0 0) 1) (is_kind (get_or b 1 0)) ((kind_of (get_or b 1 0)).own (drop 2 b)) (bad_payload (get_or b 1 0) (n - 2)) ((kind_of (get_or b 1 0)).later (drop 2 b)) e
  where
    go : (s t v k : Bool) (m : ℕ) (p : Bool) (l : ℕ) → cond s 1 (cond t 2 (cond (not v) 3 (cond (not k) 4 (or_else m (cond p 5 l))))) ≡ 0 → (v ≡ true) × (k ≡ true) × (p ≡ false) × (l ≡ 0)
    go true t v k m p l f = absurd (omega arith)
    go false true v k m p l f = absurd (omega arith)
    go false false false k m p l f = absurd (omega arith)
    go false false true false m p l f = absurd (omega arith)
    go false false true true (suc m) p l f = absurd (omega arith)
    go false false true true zero true l f = absurd (omega arith)
    go false false true true zero false l f = (refl, refl, refl, f)

pub good_version : (n : ℕ) (b : List ℕ) → refusal_to n b ≡ 0 → get_or b 0 0 ≡ 1
good_version n b e = eqb-true (get_or b 0 0) 1 (good_parts n b e).0

pub good_kind : (n : ℕ) (b : List ℕ) → refusal_to n b ≡ 0 → is_kind (get_or b 1 0) ≡ true
good_kind n b e = (good_parts n b e).1

pub good_payload : (n : ℕ) (b : List ℕ) → refusal_to n b ≡ 0 → bad_payload (get_or b 1 0) (n - 2) ≡ false
good_payload n b e = (good_parts n b e).2

-- of a sheet no line is bad
pub good_lines : (n : ℕ) (b : List ℕ) → refusal_to n b ≡ 0 → get_or b 1 0 ≡ 5 → sheet_refusal (drop 2 b) ≡ 0
good_lines n b e k = sym (sheet_later k (drop 2 b)) ∙ (good_parts n b e).3

-- so its items start within it
either : (s t : Bool) → s || t ≡ false → s ≡ false
either true t g = absurd (mathlib.Core.Bool.true≢false g)
either false t g = refl

pub good_items : (n : ℕ) (b : List ℕ) → refusal_to n b ≡ 0 → items_from (get_or b 1 0) ≤ n - 2
good_items n b e = go (get_or b 1 0) (eqb (get_or b 1 0) 3) refl (good_payload n b e)
  where
    go : (kind : ℕ) (t : Bool) → eqb kind 3 ≡ t → bad_payload kind (n - 2) ≡ false → items_from kind ≤ n - 2
    go kind true k g =
        let z = eqb-true kind 3 k in
        le_of_lt (leb-false (n - 2) (items_from kind) (either _ _ (sym (bad_items kind (n - 2) (λ w. let v : ⊥ = omega arith in v)) ∙ g)))
    go kind false k g = omega (arith, items_first kind (eqb-false kind 3 k))
