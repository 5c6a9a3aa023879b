use Rattle.std.proofs.Common.{T, subst}
use Rattle.rows.specs.Keys.{alloc_cmp, alloc_id}
use Rattle.rows.specs.Rising.{is_rising}
use Rattle.leader.proofs.Draining.{next_moves_rise}
use Rattle.leader.proofs.drains.drain_command.Goals as goal

pub migrate_if_any-requires : goal.migrate_if_any-requires
migrate_if_any-requires c =
    let rising = subst (λ rows. T (is_rising alloc_cmp alloc_id rows)) c.alloc_table.ensures.rows c.ranges-2.ensures.rising in
    next_moves_rise c.args.projected.now c.args.node c.in_ok-ids.ids rising c.in_ok-ids.ensures.ok
