use Rattle.std.proofs.Common.{◌≡◌, ◌∙◌, Some, ap, subst}
use Rattle.std.proofs.lemmas.Result.{on_ok_weaker}
use Rattle.client_node.specs.Records.{ids_in}
use Rattle.client_node.specs.Turns.{started_by}
use Rattle.client_node.proofs.node.ClientNodeActor.whole.Goals as goal

pub returns : goal.returns
returns c =
    let same : c.started.result.now ≡ started_by c.args.self.now = c.started.ensures.started ∙ ap started_by c.self.view_is in
    on_ok_weaker c.put_ids.result (λ put. (put.0, subst (λ l. ids_in put.0 ≡ Some l) same put.2, put.1)) c.put_ids.ensures
