-- Messages of an agent that are sent.
use Rattle.std.proofs.Common.{◌≡◌, List, Some, [], ◌∷◌, refl}
use Rattle.rows.specs.declared.command.Command.{Command}
use Rattle.wire.specs.Messages.{Message as WireMessage}
use Rattle.wire.specs.Frames.{Frame, ListsFrame, frame_of}
use Rattle.fsm_model.specs.Words.{State}
use Rattle.fsm_model.specs.ClusterMachine.{cluster_spec}
use Rattle.group_model.specs.Messages.{Service, ServiceMessage}
use Rattle.group_frames.specs.GroupFrames.{SendsGroup, service_of, service_receiver}

pub sends_one : (m : WireMessage State Command) (x : ServiceMessage) (before after : List Frame) → service_of m ≡ Some x → m.to ≡ service_receiver x →
    ListsFrame cluster_spec m before after → SendsGroup cluster_spec before after (Service x ∷ [])
sends_one m x before after says to lists = record {
  frames = frame_of cluster_spec m ∷ [];
  added = lists.1;
  carry = (record { to = to; bytes = record { read = m; fits = lists.0; text = refl; means = says } }, tt);
}
