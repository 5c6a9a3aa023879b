use Rattle.std.proofs.Common.{◌-◌, arith, length-take}
use Rattle.raft_snapshot.proofs.Applies.{count_of, after_range, on_ok}
use Rattle.raft_snapshot.proofs.Watches.{seen_range}
use Rattle.raft_snapshot.proofs.apply.apply_range_watched.Goals as goal

pub apply_all_watched-requires : goal.apply_all_watched-requires
apply_all_watched-requires g c =
    let a = c.args in
    let log = a.log.now in
    let counted = count_of g.M.Machine.spec g.met.M.Machine.lawful log.base log.entries a.from a.machine.now c.covered-covered.ensures.keeps.count c.requires.covered (omega arith) c.requires.state in
    omega (arith, counted, length-take (a.to - a.from) c.behind.result.now)

pub returns-clause-state : goal.returns-clause-state
returns-clause-state g c =
    let a = c.args in
    let log = a.log.now in
    on_ok c.apply_all_watched.result (after_range g.M.Machine.spec log.base log.entries a.from a.to a.machine.now c.apply_all_watched.new.machine c.requires.covered c.requires.order c.requires.within c.requires.state) (rw c.behind.ensures.value at c.apply_all_watched.ensures.state)

pub returns-clause-seen : goal.returns-clause-seen
returns-clause-seen g c =
    let a = c.args in
    on_ok c.apply_all_watched.result (seen_range g.M.Machine.spec g.W.Watch.sees a.term a.log.now.entries a.from a.to a.machine.now _ a.watch.now c.apply_all_watched.new.watch c.requires.order c.requires.state) (rw c.behind.ensures.value at c.apply_all_watched.ensures.seen)
