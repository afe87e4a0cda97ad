-- `constant::constant` meets its contract. Assumes nothing.
use Prim.Native.Nat.{ℕ, ◌+◌, ◌≤◌}
use mathlib.Core.Path.{◌≡◌, sym, ap, ◌∙◌, subst}
use mathlib.Core.List.{List}
use native.Mathlib.Omega.{arith}
use lib.ListN.{length}
use Rattle.constant.specs.declared.Reading.{Reading}
use Rattle.reply.specs.Told.{numbered}
use Rattle.constant.specs.Machine.{refusal_of, Within, most_places, read_from, unread, Finishes}
use Rattle.constant.proofs.Kept.{within_le, within_read, within_unread}
use Rattle.constant.proofs.Replies.{read_reply}
use Rattle.constant.proofs.constant.Goals as goal

ready : (n : ℕ) (r : Reading) → r ≡ unread → Within n r
ready n r e = subst (Within n) (sym e) (within_le 0 n unread (omega arith) within_unread)

read : (f r : Reading) (text : List ℕ) → f ≡ unread → r ≡ read_from f text → r ≡ read_from unread text
read f r text e h = h ∙ ap (λ (x : Reading). read_from x text) e

within : (r : Reading) (text : List ℕ) → r ≡ read_from unread text → length text ≤ most_places → Within most_places r
within r text e l = subst (Within most_places) (sym e) (within_le (0 + length text) most_places (read_from unread text) (omega arith) (within_read 0 unread text within_unread))

pub read_on-requires : goal.read_on-requires
read_on-requires c = ready _ _ c.fresh.ensures

pub finish-requires : goal.finish-requires
finish-requires c = within _ _ (read _ _ _ c.fresh.ensures c.read_on.ensures) (omega arith)

pub returns : goal.returns
returns c = read_reply _ _ (subst (λ (r : Reading). Finishes r (numbered refusal_of c.finish.result)) (read _ _ _ c.fresh.ensures c.read_on.ensures) c.finish.ensures)
