-- In which order evaluations come: the higher priority first, and of one priority the lower id.
use Rattle.std.specs.Prelude.{ℕ}
use Rattle.std.specs.declared.cmp.Ordering.{Ordering}
use Rattle.std.specs.Ordering.{nat_cmp, ordering_then}
use Rattle.rows.specs.declared.evaluation.EvalId.{EvalId}
use Rattle.rows.specs.Keys.{eval_cmp}
use Rattle.fsm_tables.specs.declared.urgency.Urgency.{Urgency}

abbrev pub urgency_cmp : Urgency → Urgency → Ordering
urgency_cmp a b = ordering_then (nat_cmp b.priority.0 a.priority.0) (eval_cmp a.id b.id)

-- of a priority and an id
abbrev pub urgency : ℕ → EvalId → Urgency
urgency priority id = record { priority = record { 0 = priority }; id = id }
