-- `answers::write_results` meets its contract. Assumes nothing.
use Rattle.std.proofs.Common.{◌≡◌, refl, sym, ap, ◌∙◌, ℕ, ◌+◌, ◌*◌, List, ◌++◌, drop, arith}
use Rattle.frames.specs.Frame.{items_from, item_bytes}
use Rattle.frames.specs.Numbers.{kind_number}
use Rattle.words.specs.Bytes.{words_of}
use Rattle.words.proofs.Words.{one_more-word}
use Rattle.answers.specs.Answers.{result_at}
use Rattle.answers.proofs.Results.{item_result, results_items}
use Rattle.answers.proofs.write_results.Goals as goal

pub loop-i-init : goal.loop-i-init
unfolding words_of
loop-i-init c = refl

pub loop-i-preserved : goal.loop-i-preserved
loop-i-preserved c =
    let l = c.loop-i in
    let kind = kind_number c.args.kind in
    let p = c.args.payload.now in
    one_more-word (item_result kind p) l.i l.out c.args.out.now l.invariant (omega arith) (8 * l.i) _ c.write_u64.new.out refl
    (c.result_at-x.ensures ∙ (λ j. result_at kind p ((c.items_from-start.ensures.0 ∙ ap items_from c.from-number.ensures) j + l.i * (c.item_bytes-size.ensures.0 ∙ ap item_bytes c.from-number.ensures) j)))
    c.write_u64.ensures

pub returns : goal.returns
returns c =
    let kind = kind_number c.args.kind in
    let e : c.loop-i.i ≡ c.args.n = omega arith in
    c.loop-i.invariant
    ∙ ap (λ (m : ℕ). words_of (item_result kind c.args.payload.now) m ++ drop (8 * m) c.args.out.now) e
    ∙ ap (λ (x : List ℕ). x ++ drop (8 * c.args.n) c.args.out.now) (sym (results_items c.requires.0 c.args.n c.args.payload.now))
