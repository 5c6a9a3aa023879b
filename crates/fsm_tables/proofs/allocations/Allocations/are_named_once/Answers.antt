use Rattle.std.proofs.Common.{ap, ◌∙◌}
use Rattle.fsm_tables.specs.Claims.{claims, are_distinct}
use Rattle.fsm_tables.specs.Inner.Index.{current, is_current}
use Rattle.fsm_tables.specs.Inner.Keys.{alloc_name_cmp, live_name}
use Rattle.fsm_tables.proofs.Bounds.{names_total}
use Rattle.fsm_tables.proofs.Covers.{covers_exact, some_sorted}
use Rattle.fsm_tables.proofs.NamedOnce.{named_once_is}
use Rattle.fsm_tables.proofs.allocations.Allocations.are_named_once.Goals as goal

pub returns : goal.returns
returns c =
    let rows = c.self.inside.rows in
    let names = c.self.inside.indexes.names in
    c.has_keys_once.ensures.once
    ∙ named_once_is rows (current alloc_name_cmp live_name rows names) (covers_exact alloc_name_cmp names_total live_name rows names c.self.invariant.listed.names) c.ranges-2.ensures.rising
    (some_sorted alloc_name_cmp names_total (is_current alloc_name_cmp live_name rows) names c.has_keys_once.ensures.ordered)
    ∙ ap (λ zs. are_distinct (claims zs)) c.self.view_is
