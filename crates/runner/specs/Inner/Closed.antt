-- What is told of a group on threads, whose cells close to it.
use Rattle.std.specs.Prelude.{◌≡◌, ◌≤◌, ℕ, List, Option, IfSome, length}
use Rattle.rows.specs.GroupSizes.{IsGroup}
use Rattle.rows.specs.declared.actor.Actor.{Actor}
use Rattle.rows.specs.declared.node.NodeSpec.{NodeSpec}
use Rattle.world.specs.GroupView.{GroupView, nodes_of, renumbered}
use Rattle.cells.specs.Cells.{CellView}
use Rattle.cells.specs.Groups.{AreOfGroup}
use Rattle.cluster.specs.Closing.{ClosesTo}
use Rattle.event_texts.specs.Transcripts.{IsTranscript}
use Rattle.transcript.specs.Records.{record_of}
use Rattle.sim_ending.specs.Endings.{TellsEnding}
use Rattle.sim_scenario.specs.declared.scenario.Scenario.{Scenario}
use Rattle.sim_scenario.specs.Objects.{step_lines}
use Rattle.sim_play.specs.Played.{Refused}
use Rattle.sim_files.specs.Refusals.{TellsRefusals}
use Rattle.runner.specs.ThreadSteps.{LinesOnThreads}

-- as many cells as a group of n servers and m clients has actors, which are these
pub record AreWhole (n m : ℕ) (all : List Actor) (cells : List CellView) : Type 0 where
  pub count : length cells ≡ length all
  pub size : IsGroup n
  pub few : m ≤ 64
  pub group : AreOfGroup n m all

-- The output grows by the last lines of the group of n servers and these nodes to which these cells
-- close; and of that the transcript is, where the bytes of that are known.
pub record TellsClosed (n : ℕ) (nodes : List NodeSpec) (all : List Actor) (cells : List CellView) (written old new : Option (List ℕ)) : Type 0 where
  pub group : GroupView
  pub closes : ClosesTo all cells group
  pub servers : length group.servers ≡ n
  pub clients : nodes_of group ≡ renumbered 1 nodes
  pub recorded : IfSome written (IsTranscript (record_of group))
  pub ending : TellsEnding group old new

-- these lines came to a group of n servers, whose actors these are, and the output grows by the lines
-- of what is refused
abbrev pub TellsLinesOn : ℕ → List Actor → List (List ℕ) → ℕ → Option (List ℕ) → Option (List ℕ) → Type 0
TellsLinesOn n all lines status old new =
    (refused : List Refused) × LinesOnThreads n all lines refused × TellsRefusals refused status old new

-- so of a scenario's steps, and then by the last lines of a group of its size and nodes to which
-- cells close
abbrev pub TellsOnThreads : Scenario → Option (List ℕ) → ℕ → Option (List ℕ) → Option (List ℕ) → Type 0
TellsOnThreads s written status old new =
    (between : Option (List ℕ)) × (all : List Actor) × (cells : List CellView)
    × TellsLinesOn s.settings.servers all (step_lines s) status old between
    × TellsClosed s.settings.servers s.nodes.items all cells written between new
