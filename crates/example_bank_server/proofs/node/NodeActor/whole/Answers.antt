use Rattle.std.proofs.Common.{◌≡◌, Some, subst}
use Rattle.std.proofs.lemmas.Result.{on_ok_weaker}
use Rattle.rows.specs.Versions.{newest}
use Rattle.raft_core.specs.StoredParts.{stored_part}
use Rattle.raft_snapshot.specs.Texts.{stable_at, stable_text}
use Rattle.raft_records.specs.Records.{part_read}
use Rattle.example_bank_server.proofs.Handing.{whole_saved}
use Rattle.example_bank_server.proofs.node.NodeActor.whole.Goals as goal

pub returns : goal.returns
returns g c =
    let m = g.M.Machine.spec in
    let now = stored_part c.self.inside.server in
    let text = stable_text m newest now in
    on_ok_weaker c.write_stable.result
    (λ wrote. (
      text,
      subst (λ v. part_read (stable_at m text) ≡ Some (stored_part v)) c.self.view_is (whole_saved m now (c.stable_texts_are_whole.ensures.again newest now wrote.0)),
      wrote.1,
    ))
    c.write_stable.ensures.ok
