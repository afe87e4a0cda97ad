-- A piece under way to its end: each hand_on is one of those that the definition repeats. Assumes nothing.
use Rattle.std.proofs.Common.{ℕ, zero, suc, ◌≤◌, ◌<◌, ◌≡◌, refl, sym, ap, ◌∙◌, List, [], ◌∷◌, ◌++◌, append_assoc, true, arith, length, drop, length-drop}
use Rattle.frames.specs.Frame.{answer_room}
use Rattle.service.specs.Service.{is_good}
use Rattle.service.specs.declared.State.{State}
use Rattle.delivery.specs.Delivery.{hand_on, Delivers}
use Rattle.delivery.specs.Handed.{front, Handed, behind, handed, handed_to_end}
use Rattle.delivery.specs.declared.HandedOn.{HandedOn}
use Rattle.delivery.proofs.Takes.{more_turns}
use Rattle.weigher.specs.Serve.{Serves}

handed_none : (n : ℕ) (s : State) (rest buffer : List ℕ) → length rest ≡ 0 → handed n s rest buffer ≡ record { answers = []; state = s; buffer = buffer; left = [] }
handed_none zero s [] buffer e = refl
handed_none (suc n) s [] buffer e = refl
handed_none n s (x ∷ rest) buffer e = absurd (omega arith)

handed_more : (n : ℕ) (s : State) (rest buffer : List ℕ) → 0 < length rest
    → let r = hand_on s rest buffer in handed (suc n) s rest buffer ≡ behind (front r) (handed n r.state (drop r.used rest) r.buffer)
handed_more n s [] buffer l = absurd (omega arith)
handed_more n s (x ∷ rest) buffer l = refl

behind_behind : (a b : List ℕ) (h : Handed) → behind a (behind b h) ≡ behind (a ++ b) h
behind_behind a b h = ap (λ (x : List ℕ). record { answers = x; state = h.state; buffer = h.buffer; left = h.left }) (sym (append_assoc a b h.answers))

-- some answers are written; the definition goes on from here
pub record Serving (s₀ : State) (piece space₀ : List ℕ) (s : State) (rest space : List ℕ) : Type 0 where
  pub good : is_good s ≡ true
  pub room : answer_room ≤ length space
  pub turns : ℕ
  pub enough : length rest ≤ turns
  pub written : List ℕ
  pub goes_on : handed_to_end s₀ piece space₀ ≡ behind written (handed turns s rest space)

pub serving : (s : State) (piece space : List ℕ) → is_good s ≡ true → answer_room ≤ length space → Serving s piece space s piece space
serving s piece space g r =
    record { good = g; room = r; turns = length piece; enough = omega arith; written = []; goes_on = refl }

module _ {s₀ s : State} {piece space₀ rest space : List ℕ} (go : Serving s₀ piece space₀ s rest space) where
  pub served : length rest ≡ 0 → Serves s₀ piece space₀ s space
  served h =
      let e = go.goes_on ∙ ap (behind go.written) (handed_none go.turns s rest space h) in
      record { good = go.good; state = sym (ap (λ (x : Handed). x.state) e); buffer = sym (ap (λ (x : Handed). x.buffer) e) }

  -- one hand_on more, which used a byte at least
  pub serving_on : (r : HandedOn) (left after : List ℕ) → 0 < length rest → Delivers s rest space r after → left ≡ drop r.used rest → length after ≡ length space → Serving s₀ piece space₀ r.state left after
  serving_on r left after some d l same =
      let m = more_turns go.turns (omega (arith, go.enough)) in
      let e = hand_on s rest space in
      let states : e.state ≡ r.state = sym (ap (λ (x : HandedOn). x.state) d.reply) in
      let places : drop e.used rest ≡ left = ap (λ (x : HandedOn). drop x.used rest) (sym d.reply) ∙ sym l in
      let next : handed m.0 e.state (drop e.used rest) e.buffer ≡ handed m.0 r.state left after = λ j. handed m.0 (states j) (places j) (sym d.buffer j) in
      record {
        good = d.goes_on go.good go.room;
        room = omega (arith, go.room);
        turns = m.0;
        enough = omega (arith, ap length l, length-drop r.used rest, d.progress go.good go.room some, go.enough, m.1);
        written = go.written ++ front e;
        goes_on =
            go.goes_on
            ∙ ap (behind go.written) (ap (λ (n : ℕ). handed n s rest space) m.1 ∙ handed_more m.0 s rest space some ∙ ap (behind (front e)) next)
            ∙ behind_behind go.written (front e) (handed m.0 r.state left after);
      }
