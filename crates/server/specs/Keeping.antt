-- What a server keeps of its log when it takes what is handed in, and where a request stands then.
use Rattle.std.specs.Prelude.{◌≡◌, length}
use Rattle.rows.specs.Requests.{command_of}
use Rattle.rows.specs.declared.command.Command.{Command}
use Rattle.fsm_model.specs.Words.{State}
use Rattle.raft_model.specs.Rafts.{Raft}
use Rattle.raft_core.specs.RaftView.{RaftView}
use Rattle.raft_core.specs.StoredParts.{KeepsLog}
use Rattle.raft_core.specs.Tickets.{IsTicket}
use Rattle.group_model.specs.Inputs.{Request, Compact}
use Rattle.group_model.specs.Servers.{Server}
use Rattle.group_inputs.specs.Handings.{Handing, OwnInput}
use Rattle.server.specs.ServerViews.{ServerView, RefinesServer}

-- Where its snapshot covers as many entries as before: one snapshot, and behind the commit index the
-- terms tell how much of the log is the same. Of a Compact nothing is said.
abbrev pub MayKeepHanding : Handing → RaftView State Command → RaftView State Command → Type 0
MayKeepHanding (OwnInput Compact) old new = Unit {0}
MayKeepHanding h old new = new.base.index ≡ old.base.index → KeepsLog old new

-- the command is the last entry of the server's log, in the server's own term
abbrev pub IsLastEntry : Raft Command → Command → Type 0
IsLastEntry s command = IsTicket s command (length s.log) s.term

-- so is that of a request that was taken
abbrev pub StandsLast : Handing → ServerView → Type 0
StandsLast (OwnInput (Request request)) new =
    (s : Server) → RefinesServer new s → IsLastEntry s.raft (command_of request)
StandsLast h new = Unit {0}
