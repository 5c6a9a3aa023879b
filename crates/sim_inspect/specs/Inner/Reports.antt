-- What is reported of a group.
use Rattle.std.specs.Prelude.{◌≡◌, ℕ, length}
use Rattle.std.specs.List.{AllZip}
use Rattle.world.specs.GroupView.{GroupView}
use Rattle.sim_reports.specs.declared.report.Report.{Report}
use Rattle.sim_inspect.specs.Inner.Applied.{AreStates}
use Rattle.sim_inspect.specs.Inner.Clients.{IsClientReport}

-- The report says how far the run is, and has each client and each state that is applied.
pub record IsReport (group : GroupView) (after events : ℕ) (report : Report) : Type 0 where
  pub after_is : report.after ≡ after
  pub events_is : report.events ≡ events
  pub messages : report.messages ≡ length group.outbox.frames
  pub clients : AllZip IsClientReport group.clients report.clients.items
  pub states : AreStates group.servers report.states.items
