use Rattle.std.proofs.Common.{◌≡◌, drop}
use Rattle.group_model.specs.Agents.{runs}
use Rattle.client_agent.proofs.running.is_running.Given as goal

abbrev pub invariant-loop-one : goal.invariant-loop-one
invariant-loop-one l = runs l.running l.id ≡ runs (drop l.one-index l.running) l.id
