-- How many places have been counted of a line that has been read in part. Assumes nothing.
use Rattle.std.proofs.Common.{ℕ, ◌+◌, ◌≤◌, ◌≡◌, length, List, Option, Some, None, IfSome, unwrap_or, sym, subst, ◌∙◌, arith}
use Rattle.constant.specs.declared.Reading.{Reading}
use Rattle.constant.specs.Machine.{Within, read_from, unread}
use Rattle.constant.proofs.Kept.{within_le, within_read, within_unread}

-- a line that has no byte yet starts with none
pub started : (n : ℕ) (line : Option Reading) {fresh reading : Reading} → IfSome line (Within n) → fresh ≡ unread → reading ≡ unwrap_or line fresh → Within n reading
started n None h f e = subst (Within n) (sym (e ∙ f)) (within_le 0 n unread (omega arith) within_unread)
started n (Some r) h f e = subst (Within n) (sym e) h

pub read : (n m : ℕ) (line : Option Reading) (part : List ℕ) {fresh reading next : Reading} → IfSome line (Within n) → fresh ≡ unread → reading ≡ unwrap_or line fresh → next ≡ read_from reading part → n + length part ≤ m → Within m next
read n m line part {reading = reading} h f e k l = subst (Within m) (sym k) (within_le (n + length part) m _ l (within_read n reading part (started n line h f e)))
