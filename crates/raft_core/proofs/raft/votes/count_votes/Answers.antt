use Rattle.std.proofs.Common.{false, true, arith, sym}
use Rattle.raft_model.specs.Quorums.{marked}
use Rattle.raft_core.proofs.Quorums.{count-none, count-marked}
use Rattle.raft_core.proofs.raft.votes.count_votes.Goals as goal
use Rattle.raft_core.proofs.raft.votes.count_votes.Goals.{then-vote, else-vote}

pub loop-vote-init : goal.loop-vote-init
loop-vote-init c = record { counted = sym (count-none (marked c.args.votes.now)); bound = omega arith }

pub loop-vote-preserved : goal.loop-vote-preserved
loop-vote-preserved c =
    let votes = c.args.votes.now in
    let i = c.loop-vote.vote-index in
    elim c.if-vote.branch [
      | then-vote w ↦
          let next = count-marked votes i false true c.loop-vote-test.true w.if-vote.true in
          record { counted = omega (arith, next); bound = omega arith }
      | else-vote w ↦
          let next = count-marked votes i false false c.loop-vote-test.true w.if-vote.false in
          record { counted = omega (arith, next); bound = omega arith }
    ]
