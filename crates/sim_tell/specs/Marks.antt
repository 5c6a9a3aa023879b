-- What is told of newly applied entries.
use Rattle.std.specs.Prelude.{◌≡◌, ◌<◌, ◌⊎◌, ℕ, true, Option, Some, None, List}
use Rattle.fsm_model.specs.Words.{State, no_rows}
use Rattle.raft_model.specs.Rafts.{is_up}
use Rattle.group_model.specs.Desks.{applied_state}
use Rattle.group_model.specs.Servers.{Server}
use Rattle.server.specs.ServerViews.{ServerView, RefinesServer}
use Rattle.sim_tell.specs.Changes.{TellsTables}

-- the newest state that was told of, and how many entries were applied to it
pub record Mark : Type 0 where
  pub state : State
  pub applied : ℕ

-- before the first entry
abbrev pub first_mark : Mark
first_mark = record { state = no_rows; applied = 0 }

-- the server is up, and has applied more entries than anybody before
abbrev pub IsAhead : Mark → ServerView → Type 0
IsAhead mark view = (is_up view.raft.server.mode ≡ true) × (mark.applied < view.raft.server.commit)

-- It is told, behind a text, how its state differs from the newest before, and is the newest now.
pub record TellsState (mark : Mark) (view : ServerView) (before : List ℕ) (later : Mark) (after : List ℕ) : Type 0 where
  pub applied : later.applied ≡ view.raft.server.commit
  pub state : (s : Server) → RefinesServer view s → later.state ≡ applied_state s.raft
  pub rows : TellsTables mark.state later.state before after

abbrev pub TellsNothing : Mark → List ℕ → Mark → List ℕ → Type 0
TellsNothing mark before later after = (later ≡ mark) × (after ≡ before)

-- Of a server that is ahead it is told; of another, and of no server, nothing is.
abbrev pub TellsNewest : Mark → Option ServerView → List ℕ → Mark → List ℕ → Type 0
TellsNewest mark None before later after = TellsNothing mark before later after
TellsNewest mark (Some view) before later after =
    ((IsAhead mark view → ⊥) × TellsNothing mark before later after)
    ⊎ (IsAhead mark view × TellsState mark view before later after)
