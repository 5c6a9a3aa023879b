use Rattle.std.proofs.Common.{◌≡◌, ◌∙◌, [], Some, ap, append-nil, drop, subst, sym}
use Rattle.client_node.specs.Records.{LeadsIds, ids_in}
use Rattle.client_node.specs.Turns.{started_by}
use Rattle.client_node.proofs.Changing.{behind_again, to_end}
use Rattle.client_node.proofs.node.ClientNodeActor.save.Goals as goal

pub returns-in-Nothing : goal.returns-in-Nothing
returns-in-Nothing c =
    ([], sym (append-nil c.args.out.now.items), λ first led. subst (λ d. LeadsIds d first (started_by c.args.self.now)) c.in-Nothing.is led)

pub returns-then-count-started : goal.returns-then-count-started
returns-then-count-started c = ([], sym (append-nil c.args.out.now.items), λ first led. tt)

pub returns-in_ok-put_ids-in-Behind : goal.returns-in_ok-put_ids-in-Behind
returns-in_ok-put_ids-in-Behind c =
    let put = c.in_ok-put_ids-in-Behind.ensures in
    let now = started_by c.args.self.now in
    let count = c.in-Behind.count in
    let same : c.started-started.result.now ≡ now = c.started-started.ensures.started ∙ ap started_by c.self.view_is in (
      put.0,
      put.1,
      λ first led.
          let here = subst (λ d. LeadsIds d first now) c.in-Behind.is led in
          behind_again count first now put.0 here.1 (subst (λ l. ids_in put.0 ≡ Some (drop count l)) same (put.2 ∙ ap Some (to_end count c.started-started.result.now))),
    )
