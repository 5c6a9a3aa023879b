use Rattle.std.proofs.Common.{rules}
use Rattle.sim_play.proofs.Plays.{came, none_came}
use Rattle.sim_play.proofs.play.Play.hand.Goals as goal

pub returns-then-not-has_work-clause-handed : goal.returns-then-not-has_work-clause-handed
returns-then-not-has_work-clause-handed c = none_came c.args.self.now.world c.args.server c.args.self.now.workers (search rules) (search rules) c.if-not-is_up.ensures c.if-not-has_work.ensures

pub returns-clause-handed : goal.returns-clause-handed
returns-clause-handed c =
    came c.args.self.now.world c.args.server c.position-2.result c.args.self.now.workers c.index-self-position-2.result c.enqueue.new.self
    (search rules) c.position-2.ensures.value c.position-2.ensures.limit c.index-self-position-2.is c.if-not-is_up.ensures c.take_work-work.result c.take_work-work.ensures.work c.enqueue.result (search rules) (search rules)
