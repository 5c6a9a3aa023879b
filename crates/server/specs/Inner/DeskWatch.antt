-- What the leader's desk makes of an entry that is applied.
use Rattle.std.specs.Prelude.{◌≡◌, ℕ, Bool, true, false, ◌==◌, Option, Some, None}
use Rattle.rows.specs.declared.command.Command.{Command}
use Rattle.machine_model.specs.declared.entry.Entry.{Entry}
use Rattle.fsm_model.specs.Words.{State}
use Rattle.leader.specs.OpenDesks.{OpenDesk, IsOpenedBy}
use Rattle.leader.specs.Staying.{FollowsIfOpen}

-- the entry is of the leader's own term, or is not
abbrev pub OpensWhere : Bool → ℕ → State → Option OpenDesk → Type 0
OpensWhere true term s new = IsOpenedBy s term new
OpensWhere false term s new = new ≡ None

-- A leader of this term applied an entry, which left state s. A closed desk opens where the entry
-- is of the leader's term; an open one follows.
abbrev pub DeskSees : Option OpenDesk → ℕ → Entry Command → State → Option OpenDesk → Type 0
DeskSees None term e s new = OpensWhere (e.term == term) term s new
DeskSees (Some o) term e s new = FollowsIfOpen e.command s (Some o) new
