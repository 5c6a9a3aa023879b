use Rattle.group_inputs.specs.Handings.{handing}
use Rattle.server.proofs.Handings.{declined_parts, refused_of, left_of, stays_of}
use Rattle.server.proofs.server.Server.step.Goals as goal

pub returns-in_default : goal.returns-in_default
returns-in_default c =
    let old = c.args.self.now in
    let h = handing c.args.input in
    let cause = c.in-Err.cause in
    let parts = declined_parts old c.handle_input.new.self h c.args.outbox.now c.handle_input.new.outbox cause c.in_default.not-NoMemory c.in-Err.ensures.stopped in
    record {
      same = c.handle_input.ensures.same;
      taken = tt;
      admitted = tt;
      keeps = tt;
      stands = tt;
      refused = λ s is. refused_of old.raft.size old.raft.me s h cause c.in_default.not-NoMemory (parts.0 s is);
      left = λ s is. left_of old c.handle_input.new.self s h cause c.in_default.not-NoMemory parts.1.same;
      stays = stays_of old c.handle_input.new.self h cause c.in_default.not-NoMemory parts.1.same;
      unsent = parts.1.nothing;
    }
