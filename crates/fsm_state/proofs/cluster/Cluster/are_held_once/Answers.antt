use Rattle.std.proofs.Common.{T, take, subst, sym, ◌∙◌}
use Rattle.fsm_model.specs.Safe.{are_distinct}
use Rattle.fsm_state.proofs.Claimed.{front_yes, front_no}
use Rattle.fsm_state.proofs.cluster.Cluster.are_held_once.Goals as goal

pub returns-then-are_distinct : goal.returns-then-are_distinct
returns-then-are_distinct c =
    let left : T (are_distinct (take c.args.held c.args.claims.now)) = c.requires.held (subst T (sym (sym c.are_named_once.ensures ∙ c.if-are_named_once.true)) tt) in
    front_yes c.args.held c.args.claims.now c.are_distinct.result c.are_free.result left c.are_distinct.ensures c.are_free.ensures c.if-are_distinct.true

pub returns-else-are_distinct : goal.returns-else-are_distinct
returns-else-are_distinct c =
    let left : T (are_distinct (take c.args.held c.args.claims.now)) = c.requires.held (subst T (sym (sym c.are_named_once.ensures ∙ c.if-are_named_once.true)) tt) in
    front_no c.args.held c.args.claims.now c.are_distinct.result left c.are_distinct.ensures c.if-are_distinct.false
