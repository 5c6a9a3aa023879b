use Rattle.server.proofs.DrainTurns.{drain_told_each, drain_refused_each}
use Rattle.server.proofs.server.turns.drain_step.Goals as goal

pub returns-in-Ok-clause-value : goal.returns-in-Ok-clause-value
returns-in-Ok-clause-value c = drain_told_each c.args.raft.now c.args.node c.args.desk.now c.in-Ok.whole.now (λ s r. (c.in-Ok.ensures.value s r).1) c.drain_turn.result c.drain_turn.ensures.ok

pub returns-in-Ok-clause-err : goal.returns-in-Ok-clause-err
returns-in-Ok-clause-err c = drain_refused_each c.args.raft.now c.args.node c.args.desk.now c.in-Ok.whole.now (λ s r. (c.in-Ok.ensures.value s r).1) c.drain_turn.result c.drain_turn.ensures.err
