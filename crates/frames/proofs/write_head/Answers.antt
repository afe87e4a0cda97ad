-- `frames::write_head` meets its contract: four stores. Assumes nothing.
use Prim.Native.Nat.{ℕ, ◌/◌, ◌%◌}
use mathlib.Core.Path.{◌≡◌, ap, ◌∙◌}
use mathlib.Core.List.{[], ◌∷◌}
use native.Mathlib.Omega.{arith}
use lib.ListN.{length-set, drop}
use lib.Seq.{sets-eq}
use Rattle.frames.proofs.write_head.Goals as goal

pub bounds-out-1 : goal.bounds-out-1
bounds-out-1 c = simp length-set (omega arith)

pub bounds-out-2 : goal.bounds-out-2
bounds-out-2 c = simp length-set (omega arith)

pub returns : goal.returns
returns c =
    let n = c.args.n in
    let e : n / 256 % 256 ≡ n / 256 = omega arith in
    sets-eq (n / 256 % 256 ∷ n % 256 ∷ 1 ∷ c.args.code ∷ []) c.args.out.now 0 (omega arith)
    ∙ ap (λ (x : ℕ). x ∷ n % 256 ∷ 1 ∷ c.args.code ∷ drop 4 c.args.out.now) e
