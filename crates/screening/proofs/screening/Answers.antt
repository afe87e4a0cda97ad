-- `screening::screening` meets its contract. Assumes nothing.
use Rattle.std.proofs.Common.{◌≡◌, refl, sym, ap, ◌∙◌, ℕ, ◌/◌, ◌%◌, List, Bool, true, false, length, arith, Ok, Err}
use Rattle.std.specs.Prelude.{position, Option}
use borrow.Author.Tests.{eq-eqb, ne_eqb, eqb-true, eqb-false}
use Rattle.screening.specs.Screening.{bad_weights, first_nan, screened}
use Rattle.screening.specs.Chunks.{is_missing}
use Rattle.screening.proofs.Chunks.{chunks}
use Rattle.screening.proofs.screening.Goals as goal
use Rattle.screening.proofs.screening.Goals.{then-is_empty-via-then-is_empty, then-is_empty-via-else-is_empty+then-not-is_empty}

-- no chunk, or bytes behind them

none_whole : (p : List ℕ) → length p / 8 ≡ 0 → bad_weights p ≡ true
none_whole p e = go (lib.Dec.eqb (length p) 0) refl
  where
    go : (t : Bool) → lib.Dec.eqb (length p) 0 ≡ t → bad_weights p ≡ true
    go true f = rw f refl
    go false f = let n = eqb-false _ _ f in rw (f, ne_eqb (length p % 8) 0 (λ z. n (omega arith))) refl

more_behind : (p : List ℕ) → (length p % 8 ≡ 0 → ⊥) → bad_weights p ≡ true
more_behind p n = rw (ne_eqb (length p) 0 (λ z. n (omega arith)), ne_eqb (length p % 8) 0 n) refl

all_whole : (p : List ℕ) → (length p / 8 ≡ 0 → ⊥) → length p % 8 ≡ 0 → bad_weights p ≡ false
all_whole p n e = rw (ne_eqb (length p) 0 (λ z. n (omega arith)), eq-eqb (length p % 8) 0 e) refl

refused : (p : List ℕ) → bad_weights p ≡ true → Err 5 ≡ screened p
unfolding screened
refused p e = rw e refl

pub returns-then-is_empty : goal.returns-then-is_empty
returns-then-is_empty c =
    let p = c.args.payload.now in
    elim c.then-is_empty.branch [
      | then-is_empty-via-then-is_empty w ↦ refused p (none_whole p (sym c.as_chunks.ensures.front_len ∙ eqb-true _ _ (sym w.if-is_empty.ensures)))
      | then-is_empty-via-else-is_empty+then-not-is_empty w ↦
          refused p (more_behind p (λ z. eqb-false _ _ (sym w.is_empty-else-is_empty.ensures ∙ w.if-not-is_empty.true) (c.as_chunks.ensures.back_len ∙ z)))
    ]

answered : (p : List ℕ) {r : Option ℕ} → (length p / 8 ≡ 0 → ⊥) → length p % 8 ≡ 0 → r ≡ first_nan p 0 (length p / 8) → Ok r ≡ screened p
unfolding screened
answered p n e h = ap Ok h ∙ sym (rw (all_whole p n e) refl)

pub returns : goal.returns
returns c =
    answered c.args.payload.now
    (λ z. eqb-false _ _ (sym c.if-is_empty.ensures) (c.as_chunks.ensures.front_len ∙ z))
    (sym c.as_chunks.ensures.back_len ∙ eqb-true _ _ (sym c.is_empty-else-is_empty.ensures ∙ c.if-not-is_empty.false))
    (c.first_missing.ensures ∙ ap (position is_missing) c.as_chunks.ensures.front ∙ chunks c.args.payload.now)
