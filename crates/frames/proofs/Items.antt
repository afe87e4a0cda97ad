-- What belongs to each number of a kind. Assumes nothing.
use Prim.Native.Nat.{ℕ, zero, suc, ◌+◌, ◌*◌, ◌-◌, ◌/◌, ◌≤◌}
use mathlib.Core.Path.{◌≡◌, refl}
use mathlib.Core.List.{List}
use mathlib.Core.Bool.{Bool, true, false, not}
use native.Mathlib.Nat.{mul-le-mul_left, div-mul-le_self}
use native.Mathlib.Omega.{arith}
use lib.Dec.{eqb}
use borrow.Author.Tests.{eqb-true, eqb-false}
use Rattle.sheets.specs.Sheet.{sheet_refusal}
use Rattle.frames.specs.Frame.{no_items, kind_of, items_from, item_bytes, item_count, bad_payload}

-- of every other number than 3 the items come first, and there is no refusal of its own before 5; of every other number than 5 there is none after
-- 5
pub items_first : (kind : ℕ) → (kind ≡ 3 → ⊥) → items_from kind ≡ 0
unfolding kind_of
items_first zero n = refl
items_first (suc zero) n = refl
items_first (suc (suc zero)) n = refl
items_first (suc (suc (suc zero))) n = absurd (n refl)
items_first (suc (suc (suc (suc zero)))) n = refl
items_first (suc (suc (suc (suc (suc zero))))) n = refl
items_first (suc (suc (suc (suc (suc (suc kind)))))) n = refl

pub none_later : (kind : ℕ) (payload : List ℕ) → (kind ≡ 5 → ⊥) → (kind_of kind).later payload ≡ 0
unfolding kind_of
none_later zero p n = refl
none_later (suc zero) p n = refl
none_later (suc (suc zero)) p n = refl
none_later (suc (suc (suc zero))) p n = refl
none_later (suc (suc (suc (suc zero)))) p n = refl
none_later (suc (suc (suc (suc (suc zero))))) p n = absurd (n refl)
none_later (suc (suc (suc (suc (suc (suc kind)))))) p n = refl

pub sheet_later : {kind : ℕ} → kind ≡ 5 → (payload : List ℕ) → (kind_of kind).later payload ≡ sheet_refusal payload
unfolding kind_of
sheet_later e p = rw e refl

pub item_one : {kind : ℕ} → kind ≡ 1 → item_bytes kind ≡ 8
unfolding kind_of
item_one e = rw e refl

pub item_line : {kind : ℕ} → kind ≡ 5 → item_bytes kind ≡ 9
unfolding kind_of
item_line e = rw e refl

pub item_other : (kind : ℕ) → (kind ≡ 1 → ⊥) → (kind ≡ 5 → ⊥) → item_bytes kind ≡ 24
unfolding kind_of
item_other zero m n = refl
item_other (suc zero) m n = absurd (m refl)
item_other (suc (suc zero)) m n = refl
item_other (suc (suc (suc zero))) m n = refl
item_other (suc (suc (suc (suc zero)))) m n = refl
item_other (suc (suc (suc (suc (suc zero))))) m n = absurd (n refl)
item_other (suc (suc (suc (suc (suc (suc kind)))))) m n = refl

pub item_least : (kind : ℕ) → 8 ≤ item_bytes kind
item_least kind = go (eqb kind 1) (eqb kind 5) refl refl
  where
    go : (s t : Bool) → eqb kind 1 ≡ s → eqb kind 5 ≡ t → 8 ≤ item_bytes kind
    go true t e f = omega (arith, item_one (eqb-true kind 1 e))
    go false true e f = omega (arith, item_line (eqb-true kind 5 f))
    go false false e f = omega (arith, item_other kind (eqb-false kind 1 e) (eqb-false kind 5 f))

-- the lengths that a report does not have, and those that every other number does not
pub bad_report : {kind : ℕ} → kind ≡ 4 → (n : ℕ) → bad_payload kind n ≡ not (eqb n 0)
unfolding kind_of bad_payload
bad_report e n = rw e refl

pub bad_items : (kind n : ℕ) → (kind ≡ 4 → ⊥) → bad_payload kind n ≡ no_items (items_from kind) (item_bytes kind) n
unfolding kind_of bad_payload
bad_items zero n z = refl
bad_items (suc zero) n z = refl
bad_items (suc (suc zero)) n z = refl
bad_items (suc (suc (suc zero))) n z = refl
bad_items (suc (suc (suc (suc zero)))) n z = absurd (z refl)
bad_items (suc (suc (suc (suc (suc zero))))) n z = refl
bad_items (suc (suc (suc (suc (suc (suc kind)))))) n z = refl

-- an item has 8 bytes at least, so that 8 bytes for each take no more room than the payload; and the items end within it
pub items_fit : (kind n : ℕ) → 8 * item_count kind n ≤ n
items_fit kind n =
    let m = n - items_from kind in
    let h : m / item_bytes kind * 8 ≤ m / item_bytes kind * item_bytes kind = mul-le-mul_left (m / item_bytes kind) (item_least kind) in
    omega (arith, div-mul-le_self m (item_bytes kind))

pub items_within : (kind n : ℕ) → items_from kind ≤ n → items_from kind + item_count kind n * item_bytes kind ≤ n
items_within kind n h = omega (arith, div-mul-le_self (n - items_from kind) (item_bytes kind))
