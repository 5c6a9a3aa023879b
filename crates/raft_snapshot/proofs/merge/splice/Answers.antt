use Rattle.std.proofs.Common.{◌-◌, arith, length-take}
use Rattle.raft_snapshot.proofs.Applies.{count_of}
use Rattle.raft_snapshot.proofs.Merges.{after_kept, after_tail, on_ok_is}
use Rattle.raft_snapshot.proofs.merge.splice.Goals as goal
use Rattle.raft_snapshot.proofs.merge.splice.Goals.{then-risen-keep+in_ok-apply_range, else-risen-keep+in_ok-apply_range-2+in_ok-apply_all}

pub apply_all-requires : goal.apply_all-requires
apply_all-requires g c =
    let log = c.args.log.now in
    let counted = count_of g.M.Machine.spec g.met.M.Machine.lawful log.base log.entries c.args.keep c.apply_range-else-risen-keep.new.machine c.covered-covered.ensures.keeps.count (omega arith) c.requires.cut c.in_ok-apply_range-2.ensures in
    omega (arith, counted, length-take (c.args.risen - c.args.keep) c.deref.result.now)

pub returns-clause-state : goal.returns-clause-state
returns-clause-state g c =
    let m = g.M.Machine.spec in
    let base = c.args.log.now.base in
    let es = c.args.log.now.entries in
    elim c.if-risen-keep.branch [
      | then-risen-keep+in_ok-apply_range w ↦ on_ok_is c.replace_behind.result (rw w.machine-is
          (after_kept m base es c.args.tail.items c.args.keep c.args.risen w.apply_range.new.machine w.if-risen-keep.true c.requires.cut w.in_ok-apply_range.ensures))
      | else-risen-keep+in_ok-apply_range-2+in_ok-apply_all w ↦ on_ok_is c.replace_behind.result (rw w.machine-is
          (after_tail m base es c.args.tail.items c.args.keep c.args.risen w.apply_range-else-risen-keep.new.machine w.apply_all.new.machine (omega arith) (omega arith) c.requires.cut
          w.in_ok-apply_range-2.ensures
          (rw w.deref.ensures.value at w.in_ok-apply_all.ensures)))
    ]
