-- The order of the table: computed over each stretch and carried to any two of its entries. Assumes nothing.
use mathlib.Core.Path.{refl, subst}
use mathlib.Core.Bool.{Bool, true, ◌&&◌}
use mathlib.Core.Logic.{inl, inr}
use Prim.Native.Nat.{ℕ, zero, suc, ◌+◌, ◌-◌, ◌<◌, ◌≤◌}
use native.Mathlib.Nat.{eq-or-lt_of_le}
use native.Mathlib.Omega.{arith}
use lib.Dec.{T}
use lib.Ieee.{lt, of_bits}
use lib.Ieee.Scale.{finite}
use lib.Ieee.Fits.{and_l, and_r}
use Rattle.exceptions.specs.Table.{exceptions}
use Rattle.exceptions.specs.declared.Stretch.{Stretch}
use Rattle.exceptions.specs.declared.Stretch.TheVariants.{First, Tiny, Wide}
use Rattle.exceptions.specs.Lookup.{entry_at, start, end, Ascending}
use Rattle.exceptions.proofs.Order.{lt_trans}

-- of the n entries after i each is finite and above the one before it
rises : ℕ → ℕ → Bool
rises i zero = true
rises i (suc n) = lt (entry_at i).x (entry_at (suc i)).x && (finite (entry_at (suc i)).x && rises (suc i) n)

table : (s : Stretch) → T (finite (entry_at (start s)).x && rises (start s) (end s - suc (start s)))
unfolding rises entry_at exceptions lt of_bits
table First = tt
table Tiny = tt
table Wide = tt

above : (n i : ℕ) → T (finite (entry_at i).x) → T (rises i n) → (j : ℕ) → i < j → j ≤ i + n → T (lt (entry_at i).x (entry_at j).x) × T (finite (entry_at j).x)
unfolding rises
above zero i F R j p q = let z : ⊥ = omega arith in absurd z
above (suc n) i F R j p q =
    let l = and_l (lt (entry_at i).x (entry_at (suc i)).x) _ R in
    let r = and_r (lt (entry_at i).x (entry_at (suc i)).x) _ R in
    let f = and_l (finite (entry_at (suc i)).x) _ r in
    elim (eq-or-lt_of_le p) [
      | inl e ↦ subst (λ (k : ℕ). T (lt (entry_at i).x (entry_at k).x) × T (finite (entry_at k).x)) e (l, f)
      | inr k ↦
          let h = above n (suc i) f (and_r (finite (entry_at (suc i)).x) _ r) j k (omega arith) in
          (lt_trans (entry_at i).x (entry_at (suc i)).x (entry_at j).x F f h.1 l h.0, h.1)
    ]

between : (n a : ℕ) → T (finite (entry_at a).x) → T (rises a n) → (i j : ℕ) → a ≤ i → i < j → j ≤ a + n → T (lt (entry_at i).x (entry_at j).x)
unfolding rises
between zero a F R i j o p q = let z : ⊥ = omega arith in absurd z
between (suc n) a F R i j o p q =
    let r = and_r (lt (entry_at a).x (entry_at (suc a)).x) _ R in
    elim (eq-or-lt_of_le o) [
      | inl e ↦ subst (λ (k : ℕ). T (lt (entry_at k).x (entry_at j).x)) e (above (suc n) a F R j (omega arith) q).0
      | inr k ↦ between n (suc a) (and_l (finite (entry_at (suc a)).x) _ r) (and_r (finite (entry_at (suc a)).x) _ r) i j k p (omega arith)
    ]

pub ascending : Ascending
unfolding exceptions
ascending = record {
  first = refl;
  tiny = refl;
  wide = refl;
  whole = refl;
  finite_at = λ s i p q.
      elim (eq-or-lt_of_le p) [
        | inl e ↦ subst (λ (k : ℕ). T (finite (entry_at k).x)) e (starts s)
        | inr k ↦ (above (end s - suc (start s)) (start s) (starts s) (goes_on s) i k (omega arith)).1
      ];
  ascends = λ s i j o p q. between (end s - suc (start s)) (start s) (starts s) (goes_on s) i j o p (omega arith);
}
  where
    starts : (s : Stretch) → T (finite (entry_at (start s)).x)
    starts s = and_l (finite (entry_at (start s)).x) _ (table s)

    goes_on : (s : Stretch) → T (rises (start s) (end s - suc (start s)))
    goes_on s = and_r (finite (entry_at (start s)).x) _ (table s)

pub end_le : (s : Stretch) → end s ≤ 208
end_le First = omega arith
end_le Tiny = omega arith
end_le Wide = omega arith
