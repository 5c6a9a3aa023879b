use Rattle.std.proofs.Common.{◌≡◌, true, false, inl, inr, refl, sym, ◌∙◌}
use Rattle.world.specs.Events.{world_event, world_events}
use Rattle.world.specs.declared.event.RaftEvent.TheVariants as events
use Rattle.world.specs.Inner.HistoryView.{HistoryView}
use Rattle.world.specs.Inner.Inputs.{is_restart}
use Rattle.world.proofs.Events.{one_event_more}
use Rattle.world.proofs.Refused.{fallen, stayed, same_raft, part_refused}
use Rattle.world.proofs.history.History.hand_event.Goals as goal

pub returns-in-Ok-clause-done : goal.returns-in-Ok-clause-done
returns-in-Ok-clause-done g c =
    rw (← c.self.view_is) (record {
      event = rw c.in_ok-input.ensures.0 at c.in_ok-input.ensures.1;
      taken = rw c.in_ok-input.ensures.0 at c.in-Ok.ensures.taken;
      trace = one_event_more c.reserve.new.self.items c.push_reserved.new.self.items c.self.inside.trace.items c.args.event c.in_ok-reserve.ensures.items c.push_reserved.ensures.items;
      chain = c.longer-self-inside.ensures;
    })

pub returns-then-is_restart-clause-done : goal.returns-then-is_restart-clause-done
returns-then-is_restart-clause-done g c =
    let e = world_event c.args.event in
    let sent = c.self.inside.sent in
    let h = c.args.raft.now in
    let so : is_restart e ≡ true = sym c.is_restart.ensures ∙ c.if-is_restart.true in
    let lacks = rw (c.in-NoMemory.is, c.in_ok-input.ensures.0) at c.in-Err.ensures.refused in
    let stays = rw (c.in-NoMemory.is, c.in_ok-input.ensures.0) at c.in-Err.ensures.stays in
    rw (← c.self.view_is) (inr (record {
      restart = so;
      down = λ s r. stayed g.M.Machine.spec h c.hand.new.raft sent s e so (lacks s r);
      same_raft = same_raft h c.hand.new.raft sent e so stays;
      same_past = rw (c.in-Err.ensures.unsent, c.in_ok-reserve.ensures.items) refl;
    }))

pub returns-in-NoMemory-clause-done : goal.returns-in-NoMemory-clause-done
returns-in-NoMemory-clause-done g c =
    let e = world_event c.args.event in
    let sent = c.self.inside.sent in
    let h = c.args.raft.now in
    let other : is_restart e ≡ false = sym c.is_restart.ensures ∙ c.if-is_restart.false in
    let lacks = rw (c.in-NoMemory.is, c.in_ok-input.ensures.0) at c.in-Err.ensures.refused in
    let left = rw (c.in-NoMemory.is, c.in_ok-input.ensures.0) at c.in-Err.ensures.left in
    rw (← c.self.view_is) (inl (record {
      other = other;
      lacks = lacks;
      fell = λ s r. fallen g.M.Machine.spec h c.hand.new.raft sent s e other (lacks s r) (left s r);
      sent = c.in-Err.ensures.unsent;
      trace = one_event_more c.reserve.new.self.items c.push_reserved-in-NoMemory.new.self.items c.self.inside.trace.items (events.Crash c.args.server) c.in_ok-reserve.ensures.items c.push_reserved-in-NoMemory.ensures.items;
      chain = refl;
    }))

pub returns : goal.returns
returns g c =
    let past : HistoryView g.row.M-Command.Denot = record { sent = c.self.inside.sent; trace = world_events c.self.inside.trace.items; chain = c.self.inside.chain } in
    let refused = rw c.in_ok-input.ensures.0 at c.in-Err.ensures.refused in
    let stays = rw c.in_ok-input.ensures.0 at c.in-Err.ensures.stays in
    let p = part_refused g.M.Machine.spec c.args.raft.now c.hand.new.raft past (world_event c.args.event) c.in-Err.refusal c.in_default.not-NoMemory refused stays in
    rw (← c.self.view_is) (record {
      same = c.hand.ensures.same;
      done = (p.0, rw (c.in-Err.ensures.unsent, c.in_ok-reserve.ensures.items) refl, p.1);
    })
