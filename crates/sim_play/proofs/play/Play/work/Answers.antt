use Rattle.std.proofs.Common.{rules}
use Rattle.group_inputs.specs.Events.{group_event}
use Rattle.sim_play.proofs.Plays.{ask_refused}
use Rattle.sim_play.proofs.play.Play.work.Goals as goal

pub returns-clause-refused : goal.returns-clause-refused
returns-clause-refused c =
    let asks = rw (← c.index-self-position.is) at c.in_ok-input.ensures in
    ask_refused c.args.self.now c.position.result c.args.server c.index-self-position.result c.asked.new.workers c.in_ok-input.field-0
    (search rules) c.position.ensures.value c.position.ensures.limit c.index-self-position.is asks c.in-Some.input c.in-Some.is (group_event c.in_ok-event.event) c.in_ok-event.ensures c.event.new.self c.event.result c.event.ensures.refused
