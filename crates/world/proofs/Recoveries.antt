-- What is proved of all runs of the definitions is so of a value's.
use Rattle.std.proofs.Common.{ℕ, ◌≤◌, Bool, length, inl, inr, arith}
use Rattle.machine_model.specs.MachineSpec.{MachineSpec}
use Rattle.rows.specs.GroupSizes.{IsGroup}
use Rattle.raft_model.specs.Quorums.{Quorum}
use Rattle.raft_safety.specs.Claims.{EachRun}
use Rattle.raft_progress.specs.Recovery.{AllUp, HasRoom, CanSettle, CanRecover, everybody}
use Rattle.group_model.specs.Worlds.{raft_of}
use Rattle.group_safety.specs.Claims.{EachRun as EachGroupRun}
use Rattle.group_safety.specs.Limits.{LimitsAreKept}
use Rattle.group_progress.specs.GroupRecovery.{GroupCanSettle, GroupCanRecover}
use Rattle.world.specs.WorldView.{WorldView, IsRaftWorld}
use Rattle.world.specs.Claims.{RecoversEver}
use Rattle.world.specs.GroupView.{GroupView, GroupInvariant, nodes_of}
use Rattle.world.specs.GroupClaims.{GroupRecoversEver}

-- a group has two servers at least
pub two : (n : ℕ) → IsGroup n → 2 ≤ n
two n (inl e) = omega (arith, e)
two n (inr e) = omega (arith, e)

pub recovers_ever : {S C : Type 0} (m : MachineSpec S C) (seen : WorldView S C) → IsRaftWorld m seen →
    EachRun m (λ n events past w. 2 ≤ n → (Q : ℕ → Bool) → Quorum n Q → AllUp n Q w → HasRoom n Q w → CanSettle m n Q w) →
    EachRun m (λ n events past w. 2 ≤ n → HasRoom n everybody w → CanRecover m n w) → RecoversEver m seen
recovers_ever m seen r settles recovers =
    let n = length seen.servers in
    record {
      past = r.past;
      world = r.world;
      runs = r.runs;
      ever = λ past w q. record {
        settles = settles n seen.trace past w q.run (two n r.size);
        recovers = recovers n seen.trace past w q.run (two n r.size);
      };
    }

pub group_recovers_ever : (view : GroupView) → GroupInvariant view → LimitsAreKept →
    EachGroupRun (λ n nodes events past w. 2 ≤ n → (Q : ℕ → Bool) → Quorum n Q → AllUp n Q (raft_of w) → HasRoom n Q (raft_of w) → GroupCanSettle n Q w) →
    EachGroupRun (λ n nodes events past w. 2 ≤ n → HasRoom n everybody (raft_of w) → GroupCanRecover n w) → GroupRecoversEver view
group_recovers_ever view r limits settles recovers =
    let n = length view.servers in
    let nodes = nodes_of view in
    record {
      past = r.past;
      world = r.world;
      runs = r.runs;
      ever = λ past w q.
          let run = limits n nodes view.trace past w r.nodes q.run in
          record { settles = settles n nodes view.trace past w run (two n r.size); recovers = recovers n nodes view.trace past w run (two n r.size) };
    }
