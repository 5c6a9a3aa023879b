use Rattle.std.proofs.Common.{Some, None, ap, ◌∙◌}
use Rattle.std.specs.Prelude.{option_map}
use Rattle.eval_broker.proofs.Chosen.{next_by_first}
use Rattle.eval_broker.proofs.tasks.Tasks.next.Goals as goal

pub returns-in_err-head : goal.returns-in_err-head
returns-in_err-head c =
    let kept = c.requires in
    ap (option_map (λ t. t.now)) c.from_residual.ensures
    ∙ next_by_first c.args.self.now.tasks.rows c.args.self.now.lists.ranks.rows c.args.self.now.lists.heads.rows kept.rising kept.listed.ranks kept.listed.heads
    None c.in_err-head.ensures

pub returns : goal.returns
returns c =
    let kept = c.requires in
    c.get.ensures
    ∙ next_by_first c.args.self.now.tasks.rows c.args.self.now.lists.ranks.rows c.args.self.now.lists.heads.rows kept.rising kept.listed.ranks kept.listed.heads
    (Some c.in_ok-head.head.now) c.in_ok-head.ensures
