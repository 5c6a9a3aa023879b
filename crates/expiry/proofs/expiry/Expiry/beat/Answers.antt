use Rattle.std.proofs.Common.{◌||◌, T, Ok, sym, ap, subst, ◌∙◌}
use Rattle.std.specs.Prelude.{nat_lt, length}
use Rattle.std.specs.Ordering.{nat_cmp}
use Rattle.fsm_tables.specs.Rows.{has_row, put}
use Rattle.group_model.specs.Expiry.{HeartbeatCount, count_node}
use Rattle.group_model.specs.HeartbeatCounts.{heartbeat_counted, heartbeat_counted_of}
use Rattle.expiry.proofs.Counting.{put_beat, held_again}
use Rattle.expiry.proofs.expiry.Expiry.beat.Goals as goal

pub put-requires : goal.put-requires
put-requires c =
    let counts = c.self.inside.counts.rows in
    let capacity = nat_lt (length counts) c.self.inside.counts.capacity in
    subst (λ (x : HeartbeatCount). T (has_row nat_cmp count_node x.node counts || capacity)) (sym c.one_more-next.ensures) (held_again c.args.node c.in-Some.count.now counts capacity (sym c.in-Some.ensures))

pub returns-clause-ok : goal.returns-clause-ok
returns-clause-ok c =
    let counts = c.self.inside.counts.rows in
    let n = c.args.node in
    let found = c.in-Some.ensures in
    ap (heartbeat_counted n) (sym c.self.view_is)
    ∙ ap (heartbeat_counted_of n counts) (sym found)
    ∙ ap Ok (sym (c.put.ensures.rows ∙ ap (λ x. put nat_cmp count_node x counts) c.one_more-next.ensures ∙ put_beat n c.in-Some.count.now counts c.rows-in_order.ensures.rising (sym found)))
