-- The frames whose answer shows what lasts. Assumes nothing.
use Prim.Native.Nat.{ℕ, ◌+◌, ◌*◌, ◌-◌}
use mathlib.Core.Path.{◌≡◌, refl, sym, ◌∙◌}
use mathlib.Core.List.{List, [], ◌∷◌}
use mathlib.Core.Bool.{Bool, true, false, not}
use native.Mathlib.Omega.{arith}
use lib.ListN.{length, get_or, drop}
use lib.Dec.{eqb}
use borrow.Author.Tests.{eqb-true}
use Rattle.frames.specs.Frame.{body_length, refusal_to}
use Rattle.frames.proofs.Items.{bad_report}
use Rattle.frames.proofs.Refusals.{good_length, good_version, good_payload}
use Rattle.answers.specs.Answers.{is_report}
use Rattle.partial_frame.proofs.Places.{and_true}
use Rattle.memory.specs.Memory.{shows_memory}
use Rattle.demands.specs.Demands.{report}

no_payload : (n : ℕ) → not (eqb n 0) ≡ false → n ≡ 0
no_payload n e = go (eqb n 0) refl
  where
    go : (t : Bool) → eqb n 0 ≡ t → n ≡ 0
    go true f = eqb-true n 0 f
    go false f = let z : true ≡ false = rw f at e in absurd (mathlib.Core.Bool.true≢false z)

four : (f : List ℕ) → length f ≡ 4 → get_or f 0 0 * 256 + get_or f 1 0 ≡ 2 → get_or (drop 2 f) 0 0 ≡ 1 → get_or (drop 2 f) 1 0 ≡ 4 → f ≡ report
four [] l n v k = absurd (omega arith)
four (a ∷ []) l n v k = absurd (omega arith)
four (a ∷ b ∷ []) l n v k = absurd (omega arith)
four (a ∷ b ∷ c ∷ []) l n v k = absurd (omega arith)
four (a ∷ b ∷ c ∷ d ∷ []) l n v k =
    let ea : a ≡ 0 = omega arith in
    let eb : b ≡ 2 = omega arith in
    λ i. ea i ∷ eb i ∷ v i ∷ k i ∷ []
four (a ∷ b ∷ c ∷ d ∷ e ∷ f) l n v k = absurd (omega arith)

pub only_reports : (f : List ℕ) → length f ≡ 2 + body_length f → shows_memory f ≡ true → f ≡ report
unfolding is_report
only_reports f l e =
    let n = body_length f in
    let g = and_true (eqb (refusal_to n (drop 2 f)) 0) (eqb (get_or (drop 2 f) 1 0) 4) e in
    let r = eqb-true (refusal_to n (drop 2 f)) 0 g.0 in
    let k = eqb-true (get_or (drop 2 f) 1 0) 4 g.1 in
    let z = no_payload (n - 2) (sym (bad_report k (n - 2)) ∙ good_payload n (drop 2 f) r) in
    let b = good_length n (drop 2 f) r in
    four f (omega arith) (omega arith) (good_version n (drop 2 f) r) k
