-- Servers of the log, of any machine, as actors that are processes.
use Rattle.std.specs.Prelude.{◌≡◌, ⊤, ℕ, ◌-◌, ◌<◌, ◌≤◌, true, Option, Some, None, Ok, List, []}
use Rattle.std.specs.Prelude.{slice_get}
use Rattle.machine_model.specs.MachineSpec.{MachineSpec, IsCommandOf}
use Rattle.machine_model.specs.declared.entry.Entry.{Entry}
use Rattle.raft_model.specs.Logs.{term_at}
use Rattle.raft_model.specs.Messages.{Message}
use Rattle.raft_model.specs.Rafts.{Raft, Down, Follower, is_leader}
use Rattle.raft_model.specs.Steps.{Input, Arrives, Timeout, Beat, Propose, Compact, Crash, Restart}
use Rattle.raft_model.specs.Steps.{step}
use Rattle.raft_model.specs.Worlds.{World, Event, Run}
use Rattle.raft_model.specs.Chains.{Agree}
use Rattle.processes.specs.Processes.{Actors, ToldActor, System, Execution}
use Rattle.processes.specs.Claims.{Abstraction, OccursIn}

-- what a server stores of its log
pub record Persistent (C : Type 0) : Type 0 where
  pub term : ℕ
  pub vote : Option ℕ
  pub log : List (Entry C)
  pub covered : ℕ

abbrev pub persistent_of : {C : Type 0} → Raft C → Persistent C
persistent_of s = record { term = s.term; vote = s.vote; log = s.log; covered = s.covered }

abbrev pub nothing_persistent : {C : Type 0} → Persistent C
nothing_persistent = record { term = 0; vote = None; log = []; covered = 0 }

-- a server that begins with it, and one that is down with it
abbrev pub started : {C : Type 0} → Persistent C → Raft C
started p = record {
  term = p.term;
  vote = p.vote;
  log = p.log;
  covered = p.covered;
  commit = p.covered;
  known = None;
  mode = Follower;
}

abbrev pub stopped : {C : Type 0} → Persistent C → Raft C
stopped p = record {
  term = p.term;
  vote = p.vote;
  log = p.log;
  covered = p.covered;
  commit = p.covered;
  known = None;
  mode = Down;
}

module _ {S C : Type 0} (m : MachineSpec S C) (n : ℕ) where
  -- What a server may take: an input of its own, or a message to it that had left one. It takes no
  -- crash and no restart: its process dies, and starts.
  abbrev pub IsOffered : List (Message C) → ℕ → Input C → Type 0
  IsOffered left i (Arrives message) = OccursIn left message × (message.to ≡ i)
  IsOffered left i Timeout = ⊤
  IsOffered left i Beat = ⊤
  IsOffered left i (Propose command) = IsCommandOf m command
  IsOffered left i Compact = ⊤
  IsOffered left i Crash = ⊥
  IsOffered left i Restart = ⊥

  abbrev pub TakesItem : List (Message C) → ℕ → Raft C → Input C → Raft C →
      List (Message C) → Type 0
  TakesItem left i s input t out =
      IsOffered left i input × (step m n i s input ≡ Ok (record { server = t; sent = out }))

  abbrev pub log_actors : Actors ℕ (Raft C) (Persistent C) (Input C) (Message C)
  log_actors = record {
    stored = persistent_of;
    restarted = started;
    initial = λ i. nothing_persistent;
    IsOne = λ i. i < n;
    Takes = TakesItem;
  }

  abbrev pub server_at : World C → ℕ → Option (Raft C)
  server_at w i = slice_get w.servers i

  abbrev pub sent_in : World C → List (Message C)
  sent_in w = w.sent

  abbrev pub log_abstraction : Abstraction ℕ (Raft C) (Message C) (Event C) (World C)
  log_abstraction = record { Reach = Run m n; actor = server_at; sent = sent_in }

  -- the entry of a command, in the term that a log has at an index
  abbrev pub entry_in_term : List (Entry C) → ℕ → C → Entry C
  entry_in_term log index command = record { term = term_at log index; command = command }

  -- There is one list of which each server that was told has committed a first part; who leads a
  -- term has what was told to be committed before in a term up to that one; and no two tell that
  -- they lead one term.
  pub record KeepsOneList (g : System log_actors) : Type 0 where
    pub list : List (Entry C)
    pub agrees : (k : ℕ) (t : ToldActor log_actors) →
        slice_get g.told k ≡ Some t → Agree t.actor.commit t.actor.log list
    pub complete : (k l : ℕ) (t u : ToldActor log_actors) → k ≤ l →
        slice_get g.told k ≡ Some t → slice_get g.told l ≡ Some u →
        is_leader u.actor.mode ≡ true → t.actor.term ≤ u.actor.term →
        Agree t.actor.commit list u.actor.log
    pub leaders : (k l : ℕ) (t u : ToldActor log_actors) →
        slice_get g.told k ≡ Some t → slice_get g.told l ≡ Some u →
        is_leader t.actor.mode ≡ true → is_leader u.actor.mode ≡ true →
        t.actor.term ≡ u.actor.term → t.who ≡ u.who
    -- Where a server that was told has committed an index, and another, told earlier or later, has
    -- a command there in the same term, that command is the list's.
    pub settled : (k l index : ℕ) (t u : ToldActor log_actors) (command : C) →
        slice_get g.told k ≡ Some t → slice_get g.told l ≡ Some u →
        1 ≤ index → index ≤ t.actor.commit →
        slice_get u.actor.log (index - 1) ≡ Some (entry_in_term t.actor.log index command) →
        slice_get list (index - 1) ≡ Some (entry_in_term t.actor.log index command)

-- of each execution of n servers of the log
abbrev pub EachLogExecution : {S C : Type 0} (m : MachineSpec S C) →
    ((n : ℕ) → List (System (log_actors m n)) → System (log_actors m n) → Type 0) → Type 0
EachLogExecution m Claim = (n : ℕ) (past : List (System (log_actors m n)))
    (g : System (log_actors m n)) → Execution (log_actors m n) past g → Claim n past g
