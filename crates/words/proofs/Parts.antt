-- A slice from a place to its end, and what is written there behind a front that stays. Assumes nothing.
use Prim.Native.Nat.{ℕ, ◌+◌, ◌-◌}
use mathlib.Core.Path.{◌≡◌, sym, ap, ap₂, ◌∙◌}
use mathlib.Core.List.{List, ◌++◌, append_assoc, append-nil}
use native.Mathlib.Omega.{arith}
use lib.ListN.{length, take, drop, length-drop, drop_of_length-le}
use lib.Seq.{take_all, take_at, drop_at, drop-drop}
use borrow.Rule.Slice.PartMut.{put_mid}

pub to_end : (k : ℕ) (l : List ℕ) → take (length l - k) (drop k l) ≡ drop k l
to_end k l = take_all (length l - k) (drop k l) (omega (arith, length-drop k l))

put_end : (a : ℕ) (o w : List ℕ) → put_mid a (length o - a) o w ≡ take a o ++ w
put_end a o w =
    ap (λ (l : List ℕ). take a o ++ (w ++ l)) (drop_of_length-le (drop a o) {i = length o - a} (omega (arith, length-drop a o)))
    ∙ ap (λ (l : List ℕ). take a o ++ l) (append-nil w)

-- more is written behind a front of a bytes, over k bytes of what was there
pub put_behind : (a k : ℕ) (o o₀ front more w : List ℕ) → length front ≡ a → o ≡ front ++ drop a o₀
    → w ≡ more ++ drop k (take (length o - a) (drop a o))
    → put_mid a (length o - a) o w ≡ (front ++ more) ++ drop (a + k) o₀
put_behind a k o o₀ front more w l eo ew =
    let back : drop a o ≡ drop a o₀ = ap (drop a) eo ∙ drop_at front (drop a o₀) a l in
    let ew' : w ≡ more ++ drop (a + k) o₀ = ew ∙ ap (λ (r : List ℕ). more ++ drop k r) (to_end a o ∙ back) ∙ ap (λ (r : List ℕ). more ++ r) (drop-drop k a o₀) in
    put_end a o w
    ∙ ap₂ (λ (r s : List ℕ). r ++ s) (ap (take a) eo ∙ take_at front (drop a o₀) a l) ew'
    ∙ sym (append_assoc front more (drop (a + k) o₀))
