-- `score_with::score_with` meets its contract: a list that its check refuses, and one in which the weight was looked up. Assumes nothing.
use mathlib.Core.Path.{◌≡◌, sym, ap, ◌∙◌}
use Rattle.std.proofs.lemmas.Result.{err_from_is_err_and}
use Rattle.std.specs.Prelude.{ℕ, List, Ok, Err}
use Rattle.reply.specs.Told.{numbered}
use Rattle.exceptions.specs.declared.Entry.{Entry}
use Rattle.exceptions.specs.Lookup.{find}
use Rattle.exception_list.specs.declared.ListError.{ListError}
use Rattle.exception_list.specs.declared.ListError.TheVariants.{TooLong, BadEntry}
use Rattle.exception_list.specs.List.{refusal_of, number_of}
use Rattle.exp2m1.specs.Score.{score_with}
use Rattle.score_with.specs.Score.{scored_with}
use Rattle.score_with.proofs.score_with.Goals as goal

refused : (list : List Entry) (x : ℕ) (e : ListError) → number_of e ≡ refusal_of list → Err (number_of e) ≡ scored_with list x
unfolding scored_with
refused list x TooLong h = rw (← h)
refused list x BadEntry h = rw (← h)

scored : (list : List Entry) (x : ℕ) {r : ℕ} → 0 ≡ refusal_of list → r ≡ score_with list x → Ok r ≡ scored_with list x
unfolding scored_with
scored list x h e = rw (← h, e)

pub returns-in_err-check : goal.returns-in_err-check
returns-in_err-check c =
    let y = err_from_is_err_and c.from_residual.result c.from_residual.ensures.1 in
    ap (numbered number_of) y.1 ∙ ap (λ (e : ListError). Err (number_of e)) y.2 ∙ refused c.args.list.now c.args.x _ c.in_err-check.ensures

pub returns : goal.returns
returns c =
    let good = c.in_ok-check.ensures in
    let list = c.args.list.now in
    scored list c.args.x good (c.score_found.ensures list (c.lookup-found.ensures.good (sym good) ∙ ap (find list) c.from_bits.ensures))
