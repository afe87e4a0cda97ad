-- `payloads_c::weigher_payload` meets its contract: a payload is as much shorter than its body as it starts behind the body's front. Assumes
-- nothing.
use Prim.Native.Nat.{ℕ, ◌-◌, ◌≤◌}
use mathlib.Core.Path.{◌≡◌, ap, ◌∙◌}
use mathlib.Core.List.{List}
use native.Mathlib.Omega.{arith}
use lib.ListN.{length, length-drop}
use denote.Ref.{Bor}
use Rattle.frames.specs.Part.{Part, payload_from}
use Rattle.payloads_c.proofs.weigher_payload.Goals as goal

shorter : {payload body : Bor (List ℕ)} → Part payload body (payload_from body.now)
    → (length payload.now ≤ length body.now) × (length body.now - length payload.now ≡ payload_from body.now)
shorter {body = body} p =
    let l = ap length p.contents ∙ length-drop (payload_from body.now) body.now in
    (omega arith, omega arith)

pub overflow_sub-result : goal.overflow_sub-result
overflow_sub-result c = (shorter c.payload-payload.ensures).0

pub returns : goal.returns
returns c = (shorter c.payload-payload.ensures).1
