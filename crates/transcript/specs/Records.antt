-- What is recorded of a group.
use Rattle.std.specs.Prelude.{length}
use Rattle.world.specs.GroupView.{GroupView, nodes_of}
use Rattle.event_texts.specs.Transcripts.{Recorded}

-- its servers, its clients' nodes, and what happened to it
abbrev pub record_of : GroupView → Recorded
record_of view = record { servers = length view.servers; nodes = nodes_of view; events = view.trace }
