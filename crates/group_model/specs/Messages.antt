-- What servers and clients send each other beside the log's own messages, and with those all that
-- is sent. Servers are numbered by their place in the group, from 0; a client has its node's
-- number, from 1. (Nomad documentation, "Scheduling in Nomad": workers dequeue evaluations from the
-- leader and submit plans to it; "Consensus Protocol".)
use Rattle.std.specs.Prelude.{ℕ, Option, List}
use Rattle.rows.specs.declared.size.Size.{Size}
use Rattle.rows.specs.declared.listing.ListedAllocation.{ListedAllocation}
use Rattle.rows.specs.declared.command.Report.{Report}
use Rattle.rows.specs.declared.command.Command.{Command}
use Rattle.rows.specs.declared.reason.Reason.{Reason}
use Rattle.rows.specs.declared.worker.WorkerRequest.{WorkerRequest}
use Rattle.rows.specs.declared.worker.WorkerResponse.{WorkerResponse}
use Rattle.rows.specs.declared.worker.ClientRequestKind.{ClientRequestKind}
use Rattle.raft_model.specs.Messages.{Message}

-- ---- between servers: a server's workers ask the leader's desk, which answers

pub data WorkerMessage : Type 0 where
  Asks : (request : WorkerRequest) → WorkerMessage
  Answers : (response : WorkerResponse) → WorkerMessage

-- ---- between a client and a server

pub data ClientRequest : Type 0 where
  -- the client's node comes, with this class and size
  Register : (class : List ℕ) (size : Size) → ClientRequest
  -- the node is still there
  Heartbeat : ClientRequest
  -- which allocations the node is to run
  Pull : ClientRequest
  -- what became of allocations
  ReportStates : (items : List Report) → ClientRequest

pub data ClientResponse : Type 0 where
  -- the live allocations of the client's node, in rising id, at the state of this index
  Listing : (index : ℕ) (rows : List ListedAllocation) → ClientResponse
  -- the request is taken, or refused
  Told : (kind : ClientRequestKind) (refused : Option Reason) → ClientResponse

-- ---- all that is sent

-- beside the log's own messages
pub data ServiceMessage : Type 0 where
  BetweenServers : (from to : ℕ) (message : WorkerMessage) → ServiceMessage
  ToServer : (client server : ℕ) (request : ClientRequest) → ServiceMessage
  ToClient : (server client : ℕ) (response : ClientResponse) → ServiceMessage

pub data GroupMessage : Type 0 where
  OfLog : (message : Message Command) → GroupMessage
  Service : (message : ServiceMessage) → GroupMessage
