-- The x of a good list are finite and rise. Assumes nothing.
use mathlib.Core.Path.{◌≡◌}
use mathlib.Core.Bool.{Bool, true, false, ◌&&◌, cond}
use mathlib.Core.List.{List, [], ◌∷◌}
use Prim.Native.Nat.{ℕ, zero, suc, ◌<◌}
use native.Mathlib.Nat.{le_of_suc-le-suc, not-suc-le-zero}
use native.Mathlib.Omega.{arith}
use lib.Dec.{T, ltb}
use lib.ListN.{length}
use lib.Ieee.{lt}
use lib.Ieee.Scale.{finite}
use lib.Ieee.Fits.{and_l, and_r}
use Rattle.exceptions.specs.declared.Entry.{Entry}
use Rattle.exceptions.specs.Lookup.{nth}
use Rattle.exceptions.proofs.Order.{lt_trans}
use Rattle.exceptions.proofs.Halving.{Rising}
use Rattle.exception_list.specs.List.{is_good, all_good, ascending, too_long, bad_entry, refusal_of}

good_finite : (e : Entry) → T (is_good e) → T (finite e.x)
unfolding is_good
good_finite e h = and_l (finite e.x) _ h

is_finite : (list : List Entry) → T (all_good list) → (i : ℕ) → i < length list → T (finite (nth list i).x)
unfolding all_good
is_finite [] g i q = absurd (not-suc-le-zero q)
is_finite (e ∷ es) g zero q = good_finite e (and_l (is_good e) _ g)
is_finite (e ∷ es) g (suc i) q = is_finite es (and_r (is_good e) _ g) i (le_of_suc-le-suc q)

above : (e : Entry) (es : List Entry) → T (finite e.x) → T (all_good es) → T (ascending (e ∷ es)) → (i : ℕ) → i < length es → T (lt e.x (nth es i).x)
unfolding all_good ascending
above e [] f g a i q = absurd (not-suc-le-zero q)
above e (d ∷ ds) f g a zero q = and_l (lt e.x d.x) _ a
above e (d ∷ ds) f g a (suc i) q =
    let fd = good_finite d (and_l (is_good d) _ g) in
    let gs = and_r (is_good d) _ g in
    lt_trans e.x d.x (nth ds i).x f fd (is_finite ds gs i (le_of_suc-le-suc q)) (and_l (lt e.x d.x) _ a) (above d ds fd gs (and_r (lt e.x d.x) _ a) i (le_of_suc-le-suc q))

tail : (e : Entry) (es : List Entry) → T (ascending (e ∷ es)) → T (ascending es)
unfolding ascending
tail e [] a = tt
tail e (d ∷ ds) a = and_r (lt e.x d.x) _ a

ascends : (list : List Entry) → T (all_good list) → T (ascending list) → (i j : ℕ) → i < j → j < length list → T (lt (nth list i).x (nth list j).x)
unfolding all_good
ascends [] g a i j p q = absurd (not-suc-le-zero q)
ascends (e ∷ es) g a i zero p q = absurd (not-suc-le-zero p)
ascends (e ∷ es) g a zero (suc j) p q = above e es (good_finite e (and_l (is_good e) _ g)) (and_r (is_good e) _ g) a j (le_of_suc-le-suc q)
ascends (e ∷ es) g a (suc i) (suc j) p q = ascends es (and_r (is_good e) _ g) (tail e es a) i j (le_of_suc-le-suc p) (le_of_suc-le-suc q)

-- 0 is told of a good list alone
good : (b c : Bool) → cond b too_long (cond c 0 bad_entry) ≡ 0 → T c
good true c h = let z : ⊥ = omega arith in absurd z
good false true h = tt
good false false h = let z : ⊥ = omega arith in absurd z

pub rising : (list : List Entry) → refusal_of list ≡ 0 → Rising (nth list) 0 (length list)
unfolding refusal_of
rising list h =
    let t = good (ltb 256 (length list)) (all_good list && ascending list) h in
    let g = and_l (all_good list) _ t in
    let a = and_r (all_good list) _ t in
    record { finite_at = λ i p q. is_finite list g i q; rises = λ i j p q r. ascends list g a i j q r }
