-- `answers::write_answer` meets its contract. Assumes nothing.
use Rattle.std.proofs.Common.{rules, ◌≡◌, sym, subst, ◌∙◌, ℕ, ◌+◌, ◌*◌, ◌≤◌, true, length, get_or, arith, Result, Ok, Err, IsOk}
use Rattle.frames.specs.Frame.{is_kind, items_from, item_bytes}
use Rattle.frames.specs.Numbers.{kind_number, IsKind}
use Rattle.frames.specs.declared.Kind.{Kind}
use Rattle.frames.specs.declared.Refusal.{Refusal}
use Rattle.frames.proofs.Contents.{payload_contents}
use Rattle.frames.proofs.Refusals.{good_length, good_kind, good_items, body_length_lem}
use Rattle.answers.specs.Answers.{accepting, results_of, items_in}
use Rattle.answers.proofs.Results.{payload_items}
use Rattle.answers.proofs.Answers.{written_as}
use Rattle.answers.proofs.write_answer.Goals as goal

some_kind : (number : ℕ) (kind : Result Kind Refusal) → IsKind number kind → is_kind number ≡ true → IsOk kind
some_kind number (Ok kind) h e = search rules
some_kind number (Err refusal) h e = let z = h.1 in cc

kind_is : (number : ℕ) {kind : Result Kind Refusal} {k : Kind} → IsKind number kind → kind ≡ Ok k → kind_number k ≡ number
kind_is number h e = subst (IsKind number) e h

pub bounds-body-1 : goal.bounds-body-1
bounds-body-1 c =
    let g = good_length c.args.n c.args.body.now c.requires.1 in
    omega (arith, body_length_lem c.args.n c.args.body.now g.0 g.1 c.requires.0)

pub unwrap-kind-requires : goal.unwrap-kind-requires
unwrap-kind-requires c =
    some_kind (get_or c.args.body.now 1 0) c.try_from.result c.try_from.ensures (good_kind c.args.n c.args.body.now c.requires.1)

pub overflow_sub-n : goal.overflow_sub-n
overflow_sub-n c =
    (good_length c.args.n c.args.body.now c.requires.1).0

pub item_count-count-requires : goal.item_count-count-requires
item_count-count-requires c =
    good_items c.args.n c.args.body.now c.requires.1

pub write_items-requires : goal.write_items-requires
write_items-requires c =
    let n = c.args.n in
    let b = c.args.body.now in
    let e = kind_is (get_or b 1 0) {k = c.unwrap-kind.result} c.try_from.ensures c.unwrap-kind.ensures in
    let count = c.item_count-count.result in
    let w = payload_items n b _ c.requires.0 c.requires.1 (payload_contents _ _ c.payload.ensures) c.item_count-count.ensures.0 in
    (λ z. c.requires.2 (sym e ∙ z), subst (λ (k : ℕ). items_from k + count * item_bytes k ≤ length c.payload.result.now) (sym e) w.0, w.1, c.requires.3)

pub returns : goal.returns
unfolding items_in
returns c =
    let n = c.args.n in
    let b = c.args.body.now in
    let e = kind_is (get_or b 1 0) {k = c.unwrap-kind.result} c.try_from.ensures c.unwrap-kind.ensures in
    let p = payload_contents _ _ c.payload.ensures in
    let k = c.item_count-count.ensures.0 in
    written_as (λ i. accepting (results_of (e i) (k i) (p i))) c.write_items.ensures
