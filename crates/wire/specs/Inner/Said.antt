-- What is said, as the body of a message.
use Rattle.std.specs.Prelude.{◌≡◌, ◌≤◌, ◌<◌, ◌+◌, ◌^◌, length}
use Rattle.machine_model.specs.MachineSpec.{MachineSpec}
use Rattle.wire.specs.declared.body.Body.{Body}
use Rattle.wire.specs.declared.body.Body.TheVariants as bodies
use Rattle.wire.specs.declared.body.Said.{Said}
use Rattle.wire.specs.declared.body.Said.TheVariants as said

abbrev pub said_body : {S C : Type 0} → Said S C → Body S C
said_body (said.Body body) = body.now
said_body (said.Answer reply) = bodies.AppendReply reply.now
said_body (said.Entries head entries) =
    bodies.Append (record { head = head.now; entries = entries.now })
said_body (said.State head state) =
    bodies.Install (record { head = head.now; state = state.now })

-- Entries are at most 32, and each has a place below 2^40; a state has seen as many commands as the
-- index says, one at least.
abbrev pub IsInRange : {S C : Type 0} → MachineSpec S C → Said S C → Type 0
IsInRange spec (said.Body body) = Unit {0}
IsInRange spec (said.Answer reply) = Unit {0}
IsInRange spec (said.Entries head entries) =
    (length entries.now ≤ 32) × (head.now.prev_index + length entries.now < 2 ^ 40)
IsInRange spec (said.State head state) =
    (1 ≤ head.now.index) × (spec.count state.now ≡ head.now.index)
