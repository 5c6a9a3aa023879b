use Rattle.std.proofs.Common.{◌≡◌, List, map, subst, ◌∙◌}
use Rattle.rows.specs.declared.command.Report.{Report}
use Rattle.fsm_model.specs.ClusterMachine.{cluster_spec}
use Rattle.group_model.specs.Messages.{Service}
use Rattle.group_model.specs.Agents.{report_messages, news}
use Rattle.group_frames.specs.GroupFrames.{SendsGroup}
use Rattle.client_agent.specs.Inner.Runs.{runs_of, followed}
use Rattle.client_agent.proofs.Told.{few_news}
use Rattle.client_agent.proofs.listing.apply_list.Goals as goal

pub send_reports-requires : goal.send_reports-requires
send_reports-requires c =
    rw c.in_ok-items.ensures (few_news (runs_of c.follow.new.started c.follow.new.self.running) c.follow.new.self.ended c.args.list.now.rows.now)

pub returns-clause-ok : goal.returns-clause-ok
returns-clause-ok c =
    let l = c.args.life.now in
    let rows = c.args.list.now.rows.now in
    let next = followed c.args.node.now.size rows c.args.started.now l in
    let ok = c.in_ok-follow.ensures.ok in
    let items : c.in_ok-items.items ≡ news next l.ended rows = c.in_ok-items.ensures ∙ (λ i. news (runs_of (ok.0 i) (ok.1 i).running) (ok.1 i).ended rows) in
    (ok.0, ok.1, subst (λ (rs : List Report). SendsGroup cluster_spec c.args.outbox.now c.send_reports.new.outbox (map Service (report_messages c.args.node.now.number c.args.list.now.from rs))) items c.in_ok-send_reports.ensures.ok)
