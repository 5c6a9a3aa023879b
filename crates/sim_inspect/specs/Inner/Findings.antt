-- What is reported of what a worker would find.
use Rattle.std.specs.Prelude.{◌≡◌, List, string_bytes}
use Rattle.std.specs.List.{AllZip}
use Rattle.rows.specs.declared.evaluation.Evaluation.{Evaluation}
use Rattle.fsm_model.specs.Words.{State}
use Rattle.sim_metrics.specs.Metrics.{AreMetrics, fits_on_none}
use Rattle.sim_metrics.specs.Verdicts.{AreCounts}
use Rattle.sim_metrics.specs.declared.counting.NodeCounts.{NodeCounts}
use Rattle.sim_metrics.specs.declared.metrics.GroupMetrics.{GroupMetrics}
use Rattle.sim_reports.specs.declared.report.NodesReport.{NodesReport}
use Rattle.sim_reports.specs.declared.report.PlacementReport.{PlacementReport}

-- the counts that are reported
abbrev pub counts_in : NodesReport → NodeCounts
counts_in nodes = record {
  other_class = nodes.other_class;
  not_ready = nodes.not_ready;
  not_eligible = nodes.not_eligible;
  lack_cpu = nodes.lack_cpu;
  lack_memory = nodes.lack_memory;
  lack_disk = nodes.lack_disk;
  have_room = nodes.have_room;
}

-- The numbers that are reported of a group are those of its metrics.
pub record IsPlacement (metrics : GroupMetrics) (report : PlacementReport) : Type 0 where
  pub group : string_bytes report.group ≡ metrics.group.name
  pub missing : report.missing ≡ metrics.missing
  pub placed : report.placed ≡ metrics.placed
  pub none : report.fits_on_none ≡ fits_on_none metrics
  pub nodes : AreCounts metrics.verdicts.items (counts_in report.nodes)

-- of each group that an evaluation's job wants, in their order
abbrev pub ArePlacements : State → Evaluation → List PlacementReport → Type 0
ArePlacements state eval reports =
    (all : List GroupMetrics) × AreMetrics state eval all × AllZip IsPlacement all reports
