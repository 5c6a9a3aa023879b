-- A value whose server is another.
use Rattle.std.specs.Prelude.{◌&&◌}
use Rattle.raft_model.specs.Rafts.{Raft, is_leader}
use Rattle.raft_core.specs.RaftView.{RaftView}

-- a machine after the whole log is left only to a leader
abbrev pub with_server : {S C : Type 0} → RaftView S C → Raft C → RaftView S C
with_server view server = record view { server = server; projected = view.projected && is_leader server.mode }
