use Rattle.std.proofs.Common.{◌||◌, List, ap, ◌∙◌}
use Rattle.fsm_model.specs.Words.{same_alloc}
use Rattle.client_agent.specs.declared.ids.IdRow.{IdRow}
use Rattle.client_agent.specs.Inner.Ids.{lists_id}
use Rattle.client_agent.proofs.Indexes.{one_more}
use Rattle.client_agent.proofs.ids.Ids.add.Goals as goal

pub returns-clause-ok : goal.returns-clause-ok
returns-clause-ok c other =
    ap (λ (rows : List IdRow). lists_id rows other) c.put.ensures.rows
    ∙ one_more c.args.id c.reserve_rows.new.self.rows other
    ∙ ap (λ (rows : List IdRow). same_alloc other c.args.id || lists_id rows other) (c.in_ok-reserve_rows.ensures.rows ∙ c.self.view_is)
