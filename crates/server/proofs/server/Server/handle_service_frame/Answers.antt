use Rattle.std.proofs.Common.{sym, ap, ◌∙◌}
use Rattle.wire.specs.Frames.{message_at}
use Rattle.fsm_model.specs.ClusterMachine.{cluster_spec}
use Rattle.server.specs.Inner.Sources.{source_bytes}
use Rattle.server.proofs.Handings.{is_taken}
use Rattle.server.proofs.server.Server.handle_service_frame.Goals as goal

pub returns : goal.returns
returns c =
    let got = c.in_ok-message.ensures in
    let same = sym c.bytes_from-bytes.ensures in
    let bytes = source_bytes c.args.source c.args.outbox.now.frames in
    is_taken c.args.self.now c.handle_service_message.new.self c.args.outbox.now c.handle_service_message.new.outbox bytes c.in_ok-message.message got.found.0 (same ∙ got.found.1) c.requires.up (ap (message_at cluster_spec) same ∙ got.exact) c.handle_service_message.result c.handle_service_message.ensures
