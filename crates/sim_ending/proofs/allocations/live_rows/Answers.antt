use Rattle.std.proofs.Common.{rules}
use Rattle.std.proofs.lemmas.List.Sorted.{answers_always}
use Rattle.fsm_tables.specs.LiveNames.{name_of}
use Rattle.sim_ending.proofs.allocations.live_rows.Goals as goal

pub returns-clause-rows : goal.returns-clause-rows
returns-clause-rows c = record {
  each = search rules;
  ordered = c.in_ok-sort_by_key.ensures.sorted name_of (answers_always _ _ _ (λ f a r g h. search rules));
}
