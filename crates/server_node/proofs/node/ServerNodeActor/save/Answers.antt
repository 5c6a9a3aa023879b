use Rattle.std.proofs.Common.{◌≡◌, ◌∙◌, [], Some, ap, append-nil, subst, sym}
use Rattle.rows.specs.Versions.{newest}
use Rattle.fields_model.specs.Format.{whole}
use Rattle.fsm_model.specs.ClusterMachine.{cluster_spec}
use Rattle.fsm_model.proofs.ClusterMachine.{cluster_lawful}
use Rattle.raft_core.specs.StoredParts.{stored_part}
use Rattle.raft_snapshot.specs.Changes.{log_change}
use Rattle.raft_snapshot.specs.Texts.{front}
use Rattle.raft_records.specs.Records.{IsDelta, changed_by}
use Rattle.raft_records.proofs.Saved.{change_saved}
use Rattle.server_node.specs.Nodes.{NodeView}
use Rattle.server_node.proofs.node.ServerNodeActor.save.Goals as goal

pub returns-then-get : goal.returns-then-get
returns-then-get c = ([], sym (append-nil c.args.out.now.items), λ first led. tt)

pub returns-in-Whole : goal.returns-in-Whole
returns-in-Whole c = ([], sym (append-nil c.args.out.now.items), λ first led. tt)

pub returns-in_ok-write_change-in-Behind : goal.returns-in_ok-write_change-in-Behind
returns-in_ok-write_change-in-Behind c =
    let log = c.raft-log.result.now in
    let now = stored_part log in
    let keep = c.in-Behind.keep in
    let format = front (cluster_spec.commands newest) in
    let text = format.text (log_change now.term now.vote now.log keep) in
    let wrote = c.in_ok-write_change-in-Behind.ensures.ok in
    let same : log ≡ c.args.self.now.server.raft = c.raft-log.ensures ∙ ap (λ (v : NodeView). v.server.raft) c.self.view_is in (
      text,
      wrote.1,
      λ first led.
          let here = subst (λ v. IsDelta c.args.change.now first (stored_part v)) (sym same) led in
          let shares = subst (λ d. IsDelta d first now) c.in-Behind.is here in
          subst (λ v. changed_by first (whole format text) ≡ Some (stored_part v)) same
          (change_saved cluster_spec cluster_lawful first now keep wrote.0 (c.changes_lead.ensures.change first now keep shares)),
    )
