use Rattle.std.proofs.Common.{◌++◌, [], ◌∷◌, List, sym, subst, ◌∙◌}
use Rattle.rows.specs.Ids.{alloc_cmp}
use Rattle.fsm_tables.specs.Rows.{row_of}
use Rattle.group_model.specs.Agents.{Ended}
use Rattle.client_agent.specs.Inner.Ends.{ended_row}
use Rattle.client_agent.specs.Inner.Ids.{end_id, AreEnds}
use Rattle.client_agent.proofs.Indexes.{ends_kept, ends_more, as_none}
use Rattle.client_agent.proofs.ended.Ended.push.Goals as goal

pub invariant_of-self-then-is_none : goal.invariant_of-self-then-is_none
invariant_of-self-then-is_none c =
    let id = c.args.id.now in
    let rows = c.reserve_rows.new.self.rows in
    let same = c.in_ok-reserve_rows.ensures.rows in
    let ends = subst (AreEnds c.self.inside.all.items) (sym same) c.self.invariant in
    let none = as_none c.get.result (row_of alloc_cmp end_id id rows) c.is_none.result c.get.ensures c.is_none.ensures ∙ c.if-is_none.true in
    subst (λ (all : List Ended). AreEnds all c.put.new.self.rows) (sym c.in_ok-push.ensures.items)
    (subst (AreEnds (c.self.inside.all.items ++ ended_row id c.args.ok ∷ [])) (sym c.put.ensures.rows) (ends_more c.self.inside.all.items rows id c.args.ok ends none))

pub invariant_of-self-else-is_none : goal.invariant_of-self-else-is_none
invariant_of-self-else-is_none c =
    let id = c.args.id.now in
    let rows = c.reserve_rows.new.self.rows in
    let same = c.in_ok-reserve_rows.ensures.rows in
    let ends = subst (AreEnds c.self.inside.all.items) (sym same) c.self.invariant in
    let there = as_none c.get.result (row_of alloc_cmp end_id id rows) c.is_none.result c.get.ensures c.is_none.ensures ∙ c.if-is_none.false in
    subst (λ (all : List Ended). AreEnds all rows) (sym c.in_ok-push.ensures.items) (ends_kept c.self.inside.all.items rows id c.args.ok ends there)
