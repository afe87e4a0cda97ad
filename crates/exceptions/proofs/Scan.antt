-- A search through the entries of a sequence, one after the other, steps over entries that are not x: it may start after them, or end before them. Assumes nothing.
use mathlib.Core.Path.{◌≡◌, refl, sym, ◌∙◌, ap, subst}
use mathlib.Core.Bool.{Bool, true, false, cond}
use mathlib.Core.List.{List, [], ◌∷◌}
use Prim.Native.Nat.{ℕ, zero, suc, ◌+◌, ◌<◌, ◌≤◌}
use native.Mathlib.Nat.{le_of_suc-le-suc, not-suc-le-zero, zero-lt-suc}
use native.Mathlib.Omega.{arith}
use lib.Dec.{T}
use lib.ListN.{length}
use lib.Ieee.{Float, eq}
use Rattle.exceptions.specs.declared.Entry.{Entry}
use Rattle.std.specs.Prelude.{Option, Some, None}
use Rattle.exceptions.specs.Lookup.{reply_of, find, nth, entries_from, Finds, present, absent}

no : (b : Bool) → (T b → ⊥) → b ≡ false
no true h = absurd (h tt)
no false h = refl

module _ (entry : ℕ → Entry) where
  abbrev pub scan : ℕ → ℕ → Float → Option Float
  scan i n x = find (entries_from entry i n) x

  abbrev pub Misses : Float → ℕ → ℕ → Type 0
  Misses x a b = (j : ℕ) → a ≤ j → j < b → T (eq x (entry j).x) → ⊥

  pub none : (x : Float) (n i : ℕ) → Misses x i (i + n) → scan i n x ≡ None
  unfolding find entries_from
  none x zero i h = refl
  none x (suc n) i h =
      ap (λ (b : Bool). cond b (Some (reply_of (entry i))) (scan (suc i) n x)) (no (eq x (entry i).x) (h i (omega arith) (omega arith)))
      ∙ none x n (suc i) (λ j p q. h j (omega arith) (omega arith))

  -- the first k miss
  pub skip : (x : Float) (k n N i I : ℕ) → N ≡ k + n → I ≡ i + k → Misses x i I → scan i N x ≡ scan I n x
  unfolding find entries_from
  skip x zero n N i I p q h =
      let p' : N ≡ n = omega arith in
      let q' : I ≡ i = omega arith in
      cc
  skip x (suc k) n zero i I p q h = let z : ⊥ = omega arith in absurd z
  skip x (suc k) n (suc N) i I p q h =
      ap (λ (b : Bool). cond b (Some (reply_of (entry i))) (scan (suc i) N x)) (no (eq x (entry i).x) (h i (omega arith) (omega arith)))
      ∙ skip x k n N (suc i) I (omega arith) (omega arith) (λ j a b. h j (omega arith) b)

  -- all after the first k miss
  pub cut : (x : Float) (k N i : ℕ) → k ≤ N → Misses x (i + k) (i + N) → scan i N x ≡ scan i k x
  unfolding find entries_from
  cut x zero N i p h = none x N i (λ j a b. h j (omega arith) b)
  cut x (suc k) zero i p h = let z : ⊥ = omega arith in absurd z
  cut x (suc k) (suc N) i p h =
      ap (λ (f : Option Float). cond (eq x (entry i).x) (Some (reply_of (entry i))) f) (cut x k N (suc i) (omega arith) (λ j a b. h j (omega arith) (omega arith)))

  -- the first k miss, and the next one is hit
  pub hit : (x : Float) (k n N i I : ℕ) → N ≡ k + suc n → I ≡ i + k → Misses x i I → eq x (entry I).x ≡ true → scan i N x ≡ Some (reply_of (entry I))
  unfolding find entries_from
  hit x k n N i I p q h e =
      skip x k (suc n) N i I p q h ∙ ap (λ (b : Bool). cond b (Some (reply_of (entry I))) (scan (suc I) n x)) e

-- ---- what is found in a list is an entry that is x, and where nothing is found there is none
pub finds : (list : List Entry) (x : Float) → Finds list x (find list x)
unfolding find
finds [] x = absent (λ i p h. not-suc-le-zero p)
finds (e ∷ es) x = go (eq x e.x) refl (find es x) (finds es x)
  where
    go : (b : Bool) → eq x e.x ≡ b → (r : Option Float) → Finds es x r → Finds (e ∷ es) x (cond b (Some (reply_of e)) r)
    go true h r f = present zero (zero-lt-suc _) (subst T (sym h) tt)
    go false h r (present i p k) = present (suc i) (omega arith) k
    go false h r (absent m) = absent (λ i. missed i)
      where
        missed : (i : ℕ) → i < length (e ∷ es) → T (eq x (nth (e ∷ es) i).x) → ⊥
        missed zero p k = subst T h k
        missed (suc i) p k = m i (le_of_suc-le-suc p) k
