-- Which server is the newest, of those that were looked at.
use Rattle.std.specs.Prelude.{◌≡◌, ℕ, ◌<◌, ◌≤◌, nat_lt, if◌then◌else◌, false, true, Option, Some, None, List, slice_get}
use Rattle.fsm_model.specs.Words.{State}
use Rattle.raft_model.specs.Rafts.{is_up}
use Rattle.group_model.specs.Desks.{applied_state}
use Rattle.group_model.specs.Servers.{Server}
use Rattle.sim_ending.specs.Endings.{IsNewest}
use Rattle.sim_ending.specs.declared.newest.Newest.{Newest}

-- Of the first so many servers none is up; or the one that was found is up, has applied so much, and
-- none of them that is up has applied more.
abbrev pub IsFound : List Server → ℕ → Option Newest → Type 0
IsFound servers seen None = (i : ℕ) (s : Server) → i < seen → slice_get servers i ≡ Some s → is_up s.raft.mode ≡ false
IsFound servers seen (Some found) =
    (s : Server) × (slice_get servers found.place ≡ Some s) × (is_up s.raft.mode ≡ true) × (s.raft.commit ≡ found.applied)
    × ((i : ℕ) (other : Server) → i < seen → slice_get servers i ≡ Some other → is_up other.raft.mode ≡ true → other.raft.commit ≤ found.applied)

-- the newest of what was found and of a server that has applied so much, if it is up
abbrev pub newer : Option Newest → ℕ → Option ℕ → Option Newest
newer found place None = found
newer None place (Some applied) = Some (record { place = place; applied = applied })
newer (Some found) place (Some applied) = if nat_lt found.applied applied then Some (record { place = place; applied = applied }) else Some found

-- a newest server has applied this state
abbrev pub IsNewestState : List Server → State → Type 0
IsNewestState servers state = (s : Server) × IsNewest servers s × (state ≡ applied_state s.raft)
