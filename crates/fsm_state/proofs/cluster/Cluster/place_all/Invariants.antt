use Rattle.std.proofs.Common.{◌≡◌, drop}
use Rattle.fsm_model.specs.Effect.{with_places}
use Rattle.fsm_state.proofs.cluster.Cluster.place_all.Given as goal

abbrev pub invariant-loop-slot : goal.invariant-loop-slot
invariant-loop-slot l = record {
  same : l.self ≡ record l.initial.self { allocs = l.self.allocs };
  rest : with_places l.entry l.slot l.plan (drop l.slot l.plan.places) l.self.allocs ≡ with_places l.entry 0 l.plan l.plan.places l.initial.self.allocs;
}
