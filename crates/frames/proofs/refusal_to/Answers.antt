-- `frames::refusal_to` meets its contract: each return has what the tests before it left. Assumes nothing.
use Rattle.std.proofs.Common.{rules, ◌≡◌, refl, sym, ap, ◌∙◌, ℕ, ◌-◌, ◌≤◌, true, false, List, get_or, drop, arith}
use Rattle.std.proofs.lemmas.Result.{err_from_is_err_and}
use denote.Enum.Bare.{sameb, same_true, same_false}
use Rattle.frames.specs.contracts.Kind.{the_type}
use Rattle.frames.specs.Frame.{longest_body, is_kind, kind_of, bad_payload, refusal_to}
use Rattle.frames.specs.Numbers.{kind_number, number_of, numbered}
use Rattle.frames.specs.declared.Kind.{Kind}
use Rattle.frames.specs.declared.Kind.TheVariants.{Scores, Fused, Directed, Report, Sheet}
use Rattle.frames.specs.declared.Refusal.{Refusal}
use Rattle.frames.proofs.Items.{none_later, sheet_later}
use Rattle.frames.proofs.Contents.{payload_contents}
use Rattle.frames.proofs.Refusals.{too_short, too_long, body_length_lem, bad_version, bad_kind, own_refusal, bad_payload_lem, later_refusal}
use Rattle.frames.proofs.Numbers.{some_number}
use Rattle.frames.proofs.refusal_to.Goals as goal

some_kind : (kind : Kind) → is_kind (kind_number kind) ≡ true
unfolding is_kind
some_kind Scores = refl
some_kind Fused = refl
some_kind Directed = refl
some_kind Report = refl
some_kind Sheet = refl

is_sheet : (kind : Kind) → true ≡ sameb the_type kind Sheet → kind_number kind ≡ 5
is_sheet kind e = ap kind_number (same_true the_type (search rules) kind Sheet (sym e))

no_sheet : (kind : Kind) → (kind ≡ Sheet → ⊥) → kind_number kind ≡ 5 → ⊥
no_sheet Scores n e = omega arith
no_sheet Fused n e = omega arith
no_sheet Directed n e = omega arith
no_sheet Report n e = omega arith
no_sheet Sheet n e = n refl

-- of a body with version 1 and this kind, in the words of its payload

module _ (n : ℕ) (b p : List ℕ) (kind : Kind) (l : 2 ≤ n) (h : n ≤ longest_body) (v : get_or b 0 0 ≡ 1) (e : kind_number kind ≡ get_or b 1 0) (q : p ≡ drop 2 b) where
  named : is_kind (get_or b 1 0) ≡ true
  named = ap is_kind (sym e) ∙ some_kind kind

  own_here : (kind_of (kind_number kind)).own p ≡ (kind_of (get_or b 1 0)).own (drop 2 b)
  own_here i = (kind_of (e i)).own (q i)

  by_own : (refusal : Refusal) → number_of refusal ≡ (kind_of (kind_number kind)).own p → number_of refusal ≡ refusal_to n b
  by_own refusal r = sym (own_refusal n b l h v named (r ∙ own_here) (some_number refusal))

  module _ (o : 0 ≡ (kind_of (kind_number kind)).own p) where
    by_length : bad_payload (kind_number kind) (n - 2) ≡ true → 5 ≡ refusal_to n b
    by_length r = sym (bad_payload_lem n b l h v named (sym own_here ∙ sym o) (ap (λ (k : ℕ). bad_payload k (n - 2)) (sym e) ∙ r))

    by_later : bad_payload (kind_number kind) (n - 2) ≡ false → (kind_of (kind_number kind)).later p ≡ refusal_to n b
    by_later r =
        (λ i. (kind_of (e i)).later (q i))
        ∙ sym (later_refusal n b l h v named (sym own_here ∙ sym o) (ap (λ (k : ℕ). bad_payload k (n - 2)) (sym e) ∙ r))

pub returns-then-n-lt2-clause-number : goal.returns-then-n-lt2-clause-number
returns-then-n-lt2-clause-number c = sym (too_short _ _ c.if-n-lt2.true)

pub returns-then-n-gt-LONGEST_BODY-clause-number : goal.returns-then-n-gt-LONGEST_BODY-clause-number
returns-then-n-gt-LONGEST_BODY-clause-number c = sym (too_long _ _ c.if-n-lt2.false c.if-n-gt-LONGEST_BODY.true)

pub bounds-body-0 : goal.bounds-body-0
bounds-body-0 c =
    let e = body_length_lem c.args.n c.args.body.now (omega arith) (omega arith) c.requires in
    omega arith

pub returns-then-body-ne-VERSION-clause-number : goal.returns-then-body-ne-VERSION-clause-number
returns-then-body-ne-VERSION-clause-number c =
    sym (bad_version c.args.n c.args.body.now (omega arith) (omega arith) c.if-body-ne-VERSION.true)

pub bounds-body-1 : goal.bounds-body-1
bounds-body-1 c =
    let e = body_length_lem c.args.n c.args.body.now (omega arith) (omega arith) c.requires in
    omega arith

pub returns-in_err-kind-clause-number : goal.returns-in_err-kind-clause-number
returns-in_err-kind-clause-number c =
    let y = err_from_is_err_and c.from_residual.result c.from_residual.ensures.1 in
    let e = c.in_err-kind.ensures in
    ap numbered y.1 ∙ ap number_of (y.2 ∙ e.0) ∙ sym (bad_kind c.args.n c.args.body.now (omega arith) (omega arith) (omega arith) e.1)

pub returns-in_err-check_direction-clause-number : goal.returns-in_err-check_direction-clause-number
returns-in_err-check_direction-clause-number c =
    let y = err_from_is_err_and c.from_residual-in_err-check_direction.result c.from_residual-in_err-check_direction.ensures.1 in
    ap numbered y.1
    ∙ ap number_of y.2
    ∙ by_own c.args.n c.args.body.now _ c.in_ok-kind.kind (omega arith) (omega arith) (omega arith) c.in_ok-kind.ensures (payload_contents _ _ c.payload-rest.ensures)
    c.in_err-check_direction.field-0.0 c.in_err-check_direction.ensures

pub returns-then-bad_payload-clause-number : goal.returns-then-bad_payload-clause-number
returns-then-bad_payload-clause-number c =
    by_length c.args.n c.args.body.now _ c.in_ok-kind.kind (omega arith) (omega arith) (omega arith) c.in_ok-kind.ensures (payload_contents _ _ c.payload-rest.ensures)
    c.in_ok-check_direction.ensures
    (sym c.bad_payload.ensures ∙ c.if-bad_payload.true)

pub returns-in_err-refusal-clause-number : goal.returns-in_err-refusal-clause-number
returns-in_err-refusal-clause-number c =
    let y = err_from_is_err_and c.from_residual-in_err-refusal.result c.from_residual-in_err-refusal.ensures.1 in
    let s = is_sheet c.in_ok-kind.kind c.if-eq.ensures in
    ap numbered y.1
    ∙ y.2
    ∙ c.in_err-refusal.ensures
    ∙ sym (sheet_later s c.payload-rest.result.now)
    ∙ by_later c.args.n c.args.body.now _ c.in_ok-kind.kind (omega arith) (omega arith) (omega arith) c.in_ok-kind.ensures (payload_contents _ _ c.payload-rest.ensures)
    c.in_ok-check_direction.ensures
    (sym c.bad_payload.ensures ∙ c.if-bad_payload.false)

pub returns-in_ok-refusal-clause-number : goal.returns-in_ok-refusal-clause-number
returns-in_ok-refusal-clause-number c =
    let s = is_sheet c.in_ok-kind.kind c.if-eq.ensures in
    c.in_ok-refusal.ensures
    ∙ sym (sheet_later s c.payload-rest.result.now)
    ∙ by_later c.args.n c.args.body.now _ c.in_ok-kind.kind (omega arith) (omega arith) (omega arith) c.in_ok-kind.ensures (payload_contents _ _ c.payload-rest.ensures)
    c.in_ok-check_direction.ensures
    (sym c.bad_payload.ensures ∙ c.if-bad_payload.false)

pub returns-else-eq-clause-number : goal.returns-else-eq-clause-number
returns-else-eq-clause-number c =
    sym (none_later _ c.payload-rest.result.now (no_sheet c.in_ok-kind.kind (same_false the_type _ _ (sym c.if-eq.ensures))))
    ∙ by_later c.args.n c.args.body.now _ c.in_ok-kind.kind (omega arith) (omega arith) (omega arith) c.in_ok-kind.ensures (payload_contents _ _ c.payload-rest.ensures)
    c.in_ok-check_direction.ensures
    (sym c.bad_payload.ensures ∙ c.if-bad_payload.false)
