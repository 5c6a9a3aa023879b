use Rattle.std.proofs.Common.{◌≡◌, Bool, T, sym, subst}
use Rattle.std.specs.Prelude.{IfOk}
use Rattle.fsm_state.proofs.Alone.{alone_is_safe}
use Rattle.fsm_state.proofs.cluster.Cluster.bears_plan.Goals as goal

pub returns-then-are_dated : goal.returns-then-are_dated
returns-then-are_dated c =
    let tables = c.ranges-2.ensures.tables in
    let once = c.knows_names_distinct.ensures (subst T (sym c.if-knows_names_distinct.true) tt) in
    subst (λ (safe : Bool). IfOk c.passes_alone.result (λ b. b ≡ safe))
    (alone_is_safe c.args.plan.now c.args.self.now (record {
      dated = subst T c.if-are_dated.ensures tt;
      few = c.requires;
      rising = tables.nodes.rising;
      nodes = tables.nodes.fit;
      allocs = tables.allocs.fit;
      places = c.ranges-3.ensures.5.1;
    }) tables.allocs.rising once)
    c.passes_alone.ensures
