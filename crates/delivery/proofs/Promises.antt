-- What hand_on promises in each of its cases: how far the takes of a delivery go, and that the book after them is unfinished. Assumes
-- nothing.
use Prim.Native.Nat.{ℕ, zero, suc, ◌-◌, ◌≤◌, ◌<◌}
use mathlib.Core.Path.{◌≡◌, refl, sym, ap, ◌∙◌}
use mathlib.Core.List.{List, [], ◌∷◌}
use mathlib.Core.Bool.{Bool, true, false}
use native.Mathlib.Omega.{arith}
use lib.ListN.{length, drop, length-append, length-drop}
use lib.Dec.{ltb}
use borrow.Author.Tests.{le-ltb, ltb-false}
use Rattle.frames.specs.Frame.{answer_room, whole}
use Rattle.service.specs.Book.{Book, Reply, book_take}
use Rattle.service.specs.Service.{is_good, book_of, untouched}
use Rattle.service.specs.declared.State.{State}
use Rattle.service.specs.Refusals.{number_of, checked}
use Rattle.service.specs.declared.Refusal.{Refusal}
use Rattle.service.proofs.Calls.{numbered, some_number, checked_good, refused_by}
use Rattle.service.proofs.Simulation.{good_state}
use Rattle.std.specs.Prelude.{Err}
use Rattle.delivery.specs.Delivery.{Given, nothing, and_then, takes, delivery_of, given, hand_on, handed_on_of, Delivers, Delivery}
use Rattle.delivery.specs.declared.HandedOn.{HandedOn}
use Rattle.delivery.proofs.Takes.{take_most, take_unfinished, answer_most, takes_step, uses}

-- ---- how far takes go

pub record Reached (g : Given) (room : ℕ) (p : List ℕ) : Type 0 where
  pub used : g.used ≤ length p
  pub fits : length g.answers ≤ room
  pub unfinished : whole g.book.held ≡ false

none_reached : (b : Book) (room : ℕ) (p : List ℕ) → whole b.held ≡ false → Reached (nothing b) room p
none_reached b room p w = record { used = omega arith; fits = omega arith; unfinished = w }

-- one take that there is room for, and then takes that reach so far
then_reached : (b : Book) (room : ℕ) (p : List ℕ) (next : Given) → answer_room ≤ room → Reached next (room - length (book_take b p).answer) (drop (book_take b p).used p)
    → Reached (and_then (book_take b p) next) room p
then_reached b room p next h r =
    let e = book_take b p in
    record {
      used = omega (arith, r.used, take_most b p, length-drop e.used p);
      fits = omega (arith, r.fits, answer_most b p, length-append e.answer next.answers);
      unfinished = r.unfinished;
    }

pub takes_reached : (n room : ℕ) (b : Book) (p : List ℕ) → whole b.held ≡ false → Reached (takes n room b p) room p
takes_reached zero room b p w = none_reached b room p w
takes_reached (suc n) room b [] w = none_reached b room [] w
takes_reached (suc n) room b (x ∷ p) w =
    go (ltb room answer_room) refl
    (takes_reached n (room - length (book_take b (x ∷ p)).answer) (book_take b (x ∷ p)).book (drop (book_take b (x ∷ p)).used (x ∷ p)) (take_unfinished b (x ∷ p)))
  where
    next : Given
    next = takes n (room - length (book_take b (x ∷ p)).answer) (book_take b (x ∷ p)).book (drop (book_take b (x ∷ p)).used (x ∷ p))

    go : (t : Bool) → ltb room answer_room ≡ t → Reached next (room - length (book_take b (x ∷ p)).answer) (drop (book_take b (x ∷ p)).used (x ∷ p))
        → Reached (takes (suc n) room b (x ∷ p)) room (x ∷ p)
    go true h r = rw h (none_reached b room (x ∷ p) w)
    go false h r = rw h (then_reached b room (x ∷ p) next (ltb-false room answer_room h) r)

pub delivery_uses : (b : Book) (p : List ℕ) (room : ℕ) → answer_room ≤ room → 0 < length p → 0 < (delivery_of b p room).used
unfolding delivery_of
delivery_uses b [] room h l = absurd (omega arith)
delivery_uses b (x ∷ p) room h l = rw (takes_step (length p) room b (x ∷ p) l h) (omega (arith, uses b (x ∷ p) l))

-- ---- the cases of hand_on

module _ (s : State) (piece before : List ℕ) where
  good_reply : answer_room ≤ length before → is_good s ≡ true → hand_on s piece before ≡ given (delivery_of (book_of s) piece (length before)) before
  unfolding hand_on
  good_reply h g = rw (le-ltb (length before) answer_room h, g) refl

  pub refused : {e : Refusal} {n : ℕ} → n ≡ number_of e → Err e ≡ checked s (length before)
      → Delivers s piece before (record { state = s; used = 0; len = 0; refusal = n }) before
  unfolding hand_on
  refused {e} {n} q h =
      let f : hand_on s piece before ≡ untouched n s before = refused_by s before h (λ k. untouched k s before) _ ∙ ap (λ k. untouched k s before) (sym q) in
      let bad : is_good s ≡ true → answer_room ≤ length before → ⊥ = λ g i. some_number e (ap numbered h ∙ checked_good s (length before) i g) in
      record {
        reply = sym (ap handed_on_of f);
        buffer = sym (ap (λ (x : Reply). x.buffer) f);
        used = omega arith;
        len = omega arith;
        goes_on = λ g i. absurd (bad g i);
        progress = λ g i l. absurd (bad g i);
      }

  pub delivered : (r : HandedOn) (after : List ℕ) → answer_room ≤ length before → is_good s ≡ true → whole (book_of s).held ≡ false
      → Delivery (delivery_of (book_of s) piece (length before)) r before after → Delivers s piece before r after
  unfolding delivery_of
  delivered r after h e w d =
      let g = delivery_of (book_of s) piece (length before) in
      let reached = takes_reached (length piece) (length before) (book_of s) piece w in
      let good = good_reply h e in
      let u : r.used ≡ g.used = ap (λ (x : HandedOn). x.used) d.reply in
      let n : r.len ≡ length g.answers = ap (λ (x : HandedOn). x.len) d.reply in
      record {
        reply = d.reply ∙ sym (ap handed_on_of good);
        buffer = d.buffer ∙ sym (ap (λ (x : Reply). x.buffer) good);
        used = omega (arith, reached.used);
        len = omega (arith, reached.fits);
        goes_on = λ i j. ap (λ (x : HandedOn). is_good x.state) d.reply ∙ good_state g.book reached.unfinished;
        progress = λ i j k. omega (arith, delivery_uses (book_of s) piece (length before) h k);
      }
