use Rattle.std.proofs.Common.{arith}
use Rattle.raft_snapshot.proofs.Applies.{from-none, from-next, from-count}
use Rattle.raft_snapshot.proofs.Watches.{seen-none, seen-next}
use Rattle.raft_snapshot.proofs.apply.apply_all_watched.Goals as goal

pub loop-entry-init : goal.loop-entry-init
loop-entry-init g c =
    let m = g.M.Machine.spec in
    let a = c.args in
    record { within = omega arith; state = from-none m a.machine.now a.entries.now; seen = seen-none m g.W.Watch.sees a.term a.machine.now a.entries.now a.watch.now }

pub apply_watched-requires : goal.apply_watched-requires
apply_watched-requires g c =
    let m = g.M.Machine.spec in
    let done = c.loop-entry.invariant in
    let counted = from-count m g.met.M.Machine.lawful c.args.machine.now c.args.entries.now c.loop-entry.entry-index c.loop-entry.machine done.within done.state in
    omega (arith, counted, c.requires, c.loop-entry-test.true)

pub loop-entry-preserved : goal.loop-entry-preserved
loop-entry-preserved g c =
    let m = g.M.Machine.spec in
    let a = c.args in
    let at = c.loop-entry in
    let old = at.invariant in
    let did = c.in_ok-apply_watched.ensures in
    record {
      within = omega (arith, c.loop-entry-test.true);
      state = from-next m a.machine.now a.entries.now at.entry-index c.entry-item.result at.machine c.apply_watched.new.machine c.loop-entry-test.true c.entry-item.is old.state did.state;
      seen = seen-next m g.W.Watch.sees a.term a.machine.now a.entries.now at.entry-index c.entry-item.result at.machine c.apply_watched.new.machine a.watch.now at.watch c.apply_watched.new.watch c.loop-entry-test.true c.entry-item.is old.state did.state old.seen did.seen;
    }
