use Rattle.std.proofs.Common.{◌≡◌, ◌∙◌, Some, ap, subst}
use Rattle.std.proofs.lemmas.Result.{on_ok_weaker}
use Rattle.rows.specs.Versions.{newest}
use Rattle.fsm_model.specs.ClusterMachine.{cluster_spec}
use Rattle.raft_core.specs.StoredParts.{stored_part}
use Rattle.raft_snapshot.specs.Texts.{stable_at, stable_text}
use Rattle.raft_records.specs.Records.{part_read}
use Rattle.raft_records.proofs.Saved.{whole_saved}
use Rattle.server_node.specs.Nodes.{NodeView}
use Rattle.server_node.proofs.node.ServerNodeActor.whole.Goals as goal

pub returns : goal.returns
returns c =
    let log = c.raft.result.now in
    let now = stored_part log in
    let text = stable_text cluster_spec newest now in
    let same : log ≡ c.args.self.now.server.raft = c.raft.ensures ∙ ap (λ (v : NodeView). v.server.raft) c.self.view_is in
    on_ok_weaker c.write_stable.result
    (λ wrote. (
      text,
      subst (λ v. part_read (stable_at cluster_spec text) ≡ Some (stored_part v)) same (whole_saved cluster_spec now (c.stable_texts_are_whole.ensures.again newest now wrote.0)),
      wrote.1,
    ))
    c.write_stable.ensures.ok
