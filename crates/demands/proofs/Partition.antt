-- `parted` is a partition into frames, and the only one: a frame is cut off where it ends. Assumes nothing.
use Prim.Native.Nat.{ℕ, suc, ◌+◌, ◌*◌}
use mathlib.Core.Path.{◌≡◌, refl, sym, ap, subst, ◌∙◌}
use mathlib.Core.List.{List, [], ◌∷◌, ◌++◌, map, append_assoc, append-nil}
use mathlib.Core.Bool.{Bool, true, false}
use native.Mathlib.Omega.{arith}
use lib.ListN.{length, length-append}
use borrow.Author.Tests.{leb-true, leb-false, lt-leb}
use Rattle.frames.specs.Frame.{body_length, whole}
use Rattle.frames.proofs.Whole.{prefix_short, exact-is_whole}
use Rattle.demands.specs.Stream.{Item, byte, closing, Point, frame, closed, Parts, one_point, parted_from, parted, spelled, Exact, Partition}
use Rattle.partial_frame.proofs.Held.{not_past}
use Rattle.service.proofs.Simulation.{whole_none}

map_snoc : (h : List ℕ) (b : ℕ) (is : List Item) → map byte (h ++ (b ∷ [])) ++ is ≡ map byte h ++ (byte b ∷ is)
map_snoc [] b is = refl
map_snoc (a ∷ h) b is = ap {B = List Item} (λ l. byte a ∷ l) (map_snoc h b is)

exact_whole : (h : List ℕ) (b : ℕ) → whole h ≡ false → whole (h ++ (b ∷ [])) ≡ true → length (h ++ (b ∷ [])) ≡ 2 + body_length (h ++ (b ∷ []))
unfolding whole
exact_whole h b n w = omega (arith, not_past h b n, leb-true (2 + body_length (h ++ (b ∷ []))) (length (h ++ (b ∷ []))) w)

part_from : (is : List Item) (h : List ℕ) → whole h ≡ false → Partition (map byte h ++ is) (parted_from h is)
part_from [] h n = record { spells = sym (append-nil (map byte h)); exact = Exact.none; unfinished = n }
part_from (byte b ∷ is) h n = go (whole (h ++ (b ∷ []))) refl (part_from is [] whole_none) (part_from is (h ++ (b ∷ [])))
  where
    go : (t : Bool) → whole (h ++ (b ∷ [])) ≡ t → Partition is (parted_from [] is)
        → (whole (h ++ (b ∷ [])) ≡ false → Partition (map byte (h ++ (b ∷ [])) ++ is) (parted_from (h ++ (b ∷ [])) is))
        → Partition (map byte h ++ (byte b ∷ is)) (parted_from h (byte b ∷ is))
    go true w q r =
        rw w
        (record {
          spells = ap (λ (l : List Item). map byte (h ++ (b ∷ [])) ++ l) q.spells ∙ map_snoc h b is;
          exact = Exact.frames (exact_whole h b n w) q.exact;
          unfinished = q.unfinished;
        })
    go false w q r = rw w (subst (λ (l : List Item). Partition l (parted_from (h ++ (b ∷ [])) is)) (map_snoc h b is) (r w))
part_from (closing ∷ is) h n =
    let q = part_from is [] whole_none in
    record { spells = ap (λ (l : List Item). map byte h ++ (closing ∷ l)) q.spells; exact = Exact.closings n q.exact; unfinished = q.unfinished }

pub part_right : (is : List Item) → Partition is (parted is)
part_right is = part_from is [] whole_none

prefix_unfinished : (x y : List ℕ) → whole (x ++ y) ≡ false → whole x ≡ false
unfolding whole
prefix_unfinished [] y e = refl
prefix_unfinished (a ∷ []) y e = lt-leb (2 + (a * 256 + 0)) 1 (omega arith)
prefix_unfinished (a ∷ c ∷ x) y e = lt-leb (2 + (a * 256 + c)) (suc (suc (length x))) (omega (arith, length-append x y, leb-false (2 + (a * 256 + c)) (suc (suc (length (x ++ y)))) e))

-- a frame is cut off where it ends
cut : (g h : List ℕ) (b : ℕ) (is : List Item) → length (h ++ (b ∷ g)) ≡ 2 + body_length (h ++ (b ∷ g)) → parted_from h (byte b ∷ (map byte g ++ is)) ≡ one_point (frame (h ++ (b ∷ g))) (parted_from [] is)
cut [] h b is e = rw (exact-is_whole (h ++ (b ∷ [])) e) refl
cut (a ∷ g) h b is e =
    let s : (h ++ (b ∷ [])) ++ (a ∷ g) ≡ h ++ (b ∷ (a ∷ g)) = append_assoc h (b ∷ []) (a ∷ g) in
    let e' : length ((h ++ (b ∷ [])) ++ (a ∷ g)) ≡ 2 + body_length ((h ++ (b ∷ [])) ++ (a ∷ g)) = rw s e in
    rw (prefix_short (h ++ (b ∷ [])) g a e') (cut g (h ++ (b ∷ [])) a is e' ∙ ap (λ (f : List ℕ). one_point (frame f) (parted_from [] is)) s)

cut_frame : (f : List ℕ) (is : List Item) → length f ≡ 2 + body_length f → parted_from [] (map byte f ++ is) ≡ one_point (frame f) (parted_from [] is)
cut_frame [] is e = absurd (omega arith)
cut_frame (b ∷ f) is e = cut f [] b is e

-- bytes that make no whole frame wait
wait : (g h : List ℕ) (is : List Item) → whole (h ++ g) ≡ false → parted_from h (map byte g ++ is) ≡ parted_from (h ++ g) is
wait [] h is e = ap (λ (l : List ℕ). parted_from l is) (sym (append-nil h))
wait (b ∷ g) h is e =
    let s : (h ++ (b ∷ [])) ++ g ≡ h ++ (b ∷ g) = append_assoc h (b ∷ []) g in
    let e' : whole ((h ++ (b ∷ [])) ++ g) ≡ false = rw s e in
    rw (prefix_unfinished (h ++ (b ∷ [])) g e') (wait g (h ++ (b ∷ [])) is e' ∙ ap (λ (l : List ℕ). parted_from l is) s)

part_spelled : (r : List ℕ) {ps : List Point} → Exact ps → whole r ≡ false → parted (spelled ps (map byte r)) ≡ record { points = ps; rest = r }
part_spelled r Exact.none n = ap (parted_from []) (sym (append-nil (map byte r))) ∙ wait r [] [] n
part_spelled r (Exact.frames {f} {ps} e x) n = cut_frame f (spelled ps (map byte r)) e ∙ ap (one_point (frame f)) (part_spelled r x n)
part_spelled r (Exact.closings {h} {ps} e x) n = wait h [] (closing ∷ spelled ps (map byte r)) e ∙ ap (one_point (closed h)) (part_spelled r x n)

pub part_unique : (is : List Item) (q : Parts) → Partition is q → q ≡ parted is
part_unique is q p = sym (ap parted (sym p.spells) ∙ part_spelled q.rest p.exact p.unfinished)
