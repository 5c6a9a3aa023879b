use Rattle.std.proofs.Common.{not, ◌&&◌, List, ap, ◌∙◌}
use Rattle.fsm_model.specs.Words.{same_alloc}
use Rattle.client_agent.specs.declared.ids.IdRow.{IdRow}
use Rattle.client_agent.specs.Inner.Ids.{lists_id}
use Rattle.client_agent.proofs.Indexes.{one_less}
use Rattle.client_agent.proofs.ids.Ids.cut.Goals as goal

pub returns : goal.returns
returns c other =
    ap (λ (rows : List IdRow). lists_id rows other) c.cut.ensures.rows
    ∙ one_less c.args.id.now c.self.inside.rows.rows other
    ∙ ap (λ (rows : List IdRow). not (same_alloc other c.args.id.now) && lists_id rows other) c.self.view_is
