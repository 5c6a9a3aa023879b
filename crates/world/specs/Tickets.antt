-- What the servers of a world know of a command by its ticket, and what then holds, whatever
-- happens.
use Rattle.std.specs.Prelude.{◌≡◌, ℕ, Option, Some, None, List, length, slice_get}
use Rattle.machine_model.specs.MachineSpec.{MachineSpec}
use Rattle.machine_model.specs.declared.entry.Entry.{Entry}
use Rattle.raft_model.specs.Rafts.{Raft}
use Rattle.raft_model.specs.Worlds.{World}
use Rattle.raft_model.specs.Chains.{Chain}
use Rattle.raft_core.specs.declared.ticket.ProposalStatus.{ProposalStatus}
use Rattle.raft_core.specs.Tickets.{IsTicket, proposal_status_of}
use Rattle.raft_safety.specs.Tickets.{Stood, Committed}
use Rattle.world.specs.declared.done.Done.{Done}
use Rattle.world.specs.declared.done.Done.TheVariants.{Taken, Crashed}
use Rattle.world.specs.WorldView.{WorldView, RunsTo}

-- what became of a proposal: it was taken where there is a ticket
abbrev pub done_by : {A : Type 0} → Option A → Done
done_by None = Crashed
done_by (Some ticket) = Taken

abbrev pub running_status : {C : Type 0} → ℕ → ℕ → Option (Raft C) → Option ProposalStatus
running_status index term None = None
running_status index term (Some s) = proposal_status_of s index term

-- what server i of a world knows of this index and this term; none where there is no such server, or
-- it is down
abbrev pub proposal_status_in : {C : Type 0} → World C → ℕ → ℕ → ℕ → Option ProposalStatus
proposal_status_in w i index term = running_status index term (slice_get w.servers i)

-- The value has a run, and in each of its runs this command is the last entry of server i's log now:
-- at this index, and in this term, which is the server's own.
pub record TicketNow {S C : Type 0} (m : MachineSpec S C) (view : WorldView S C) (i : ℕ) (command : C) (index term : ℕ) : Type 0 where
  pub past : List (World C)
  pub world : World C
  pub runs : RunsTo m view past world
  pub ever : (past : List (World C)) (w : World C) → RunsTo m view past w →
      (s : Raft C) × (slice_get w.servers i ≡ Some s) × IsTicket s command index term

-- The value has a run, and in each of its runs some server's log had this command at some moment at
-- this index, in this term.
pub record StoodEver {S C : Type 0} (m : MachineSpec S C) (view : WorldView S C) (index term : ℕ) (command : C) : Type 0 where
  pub past : List (World C)
  pub world : World C
  pub runs : RunsTo m view past world
  pub ever : (past : List (World C)) (w : World C) → RunsTo m view past w → Stood past w index term command

-- The value has a run, and there is one list, of length `chain`, which is that of each of its runs.
-- At this index it has an entry whose term is such, and in each of its runs that is settled: no
-- other command ever stood there in that term, and however the run goes on, its list has this entry
-- there.
pub record CommittedEver {S C : Type 0} (m : MachineSpec S C) (view : WorldView S C) (index : ℕ) (IsSuch : ℕ → Type 0) : Type 0 where
  pub past : List (World C)
  pub world : World C
  pub runs : RunsTo m view past world
  pub list : List (Entry C)
  pub long : length list ≡ view.chain
  pub ever : (past : List (World C)) (w : World C) → RunsTo m view past w → Chain past w list
  pub entry : Entry C
  pub of : IsSuch entry.term
  pub settled : (past : List (World C)) (w : World C) → RunsTo m view past w → Committed past w list index entry
