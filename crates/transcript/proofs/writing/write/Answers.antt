use Rattle.std.proofs.Common.{◌<◌, ◌^◌, arith, length, rules, subst, sym}
use Rattle.std.specs.List.{AllByRecursion}
use Rattle.std.proofs.lemmas.List.{length-map}
use Rattle.world.specs.GroupView.{node_in, nodes_of}
use Rattle.event_texts.specs.EventLines.{IsSayable}
use Rattle.event_texts.specs.Transcripts.{AreNumberedFrom}
use Rattle.transcript.proofs.Records.{all_sayable, numbered}
use Rattle.transcript.proofs.writing.write.Goals as goal

pub write-requires-clause-group : goal.write-requires-clause-group
write-requires-clause-group c = c.size.ensures.group

pub write-requires-clause-numbered : goal.write-requires-clause-numbered
write-requires-clause-numbered c =
    let view = c.args.world.now in
    let from_one : AreNumberedFrom 1 (nodes_of view) =
    numbered 1 view.clients (omega arith) (omega (arith, c.clients.ensures.nodes.0, length-map view.clients node_in))
    (λ i a is. omega (arith, (c.clients.ensures.places i a is).0)) c.clients.ensures.nodes.1 in
    search (rules, from_one)

pub write-requires-clause-sayable : goal.write-requires-clause-sayable
write-requires-clause-sayable c =
    let few : length c.args.world.now.outbox.frames < 2 ^ 64 = search rules in
    subst (AllByRecursion IsSayable) (sym c.trace.ensures.value) (all_sayable (length c.args.world.now.outbox.frames) c.args.world.now.trace few c.trace.ensures.own)
