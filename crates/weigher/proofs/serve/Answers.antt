-- `weigher::serve` meets its contract: each turn is one hand_on, which uses some bytes of what is left. Assumes nothing.
use Rattle.std.proofs.Common.{◌<◌, length, length-drop, arith}
use Rattle.std.proofs.lemmas.Bool.Decides.{nat_tests}
use lib.Seq.{take_all}
use Rattle.weigher.proofs.Serving.{serving_on}
use Rattle.weigher.proofs.serve.Goals as goal

pub loop-rest-preserved : goal.loop-rest-preserved
loop-rest-preserved g c =
    let h = c.hand_on-handed in
    let rest = c.loop-rest.rest.now in
    let some : 0 < length rest = grind (arith, nat_tests) in
    serving_on c.loop-rest.invariant h.result _ _ some h.ensures (take_all _ _ (omega (arith, length-drop h.result.used rest))) (omega arith)
