use Rattle.std.proofs.Common.{ap, ◌∙◌}
use Rattle.std.specs.Prelude.{nat_lt}
use Rattle.rows.specs.declared.size.Size.{Size}
use Rattle.fsm_state.proofs.Admitting.{used_where_live}
use Rattle.fsm_state.proofs.cluster.Cluster.is_in_use.Goals as goal

pub returns : goal.returns
returns c = ap (nat_lt 0) (c.cpu.ensures ∙ ap (λ (z : Size). z.cpu) c.used.ensures) ∙ used_where_live c.args.node c.args.self.now.allocs c.ranges-2.ensures.tables.allocs.fit
