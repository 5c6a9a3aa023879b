-- Steps of the definitions, by what the rules leave.
use Rattle.std.proofs.Common.{◌≡◌, ℕ, ◌+◌, ◌^◌, ◌<◌, true, false, nat_lt, Ok, List, length, refl, arith}
use Rattle.std.proofs.lemmas.Bool.{lt-ltb}
use Rattle.machine_model.specs.MachineSpec.{MachineSpec}
use Rattle.wire.specs.Frames.{Frame}
use Rattle.raft_model.specs.Logs.{MAX}
use Rattle.raft_model.specs.Messages.{to_others}
use Rattle.raft_model.specs.Rafts.{Raft, RaftTurn, is_up, is_leader, silent, election_started, vote_request_to, crashed, restarted}
use Rattle.raft_model.specs.Steps.{step, Input, Timeout, Crash, Restart}
use Rattle.raft_core.specs.RaftView.{RaftView}
use Rattle.raft_core.specs.Inner.Turns.{TurnTaken}
use Rattle.raft_core.specs.Inner.Moves.{Moves}

module _ {S C : Type 0} (m : MachineSpec S C) where
  pub steps_by : (old new : RaftView S C) (before after : List Frame) (input : Input C) (turn : RaftTurn C) → step m old.size old.me old.server input ≡ Ok turn → TurnTaken m old.base old new before after turn → Moves m old.base old input new before after
  steps_by old new before after input turn is t = record { turn = turn; step = is; taken = t }

  module _ (n me : ℕ) (s : Raft C) (up : is_up s.mode ≡ true) where
    pub leader_waits : is_leader s.mode ≡ true → step m n me s Timeout ≡ Ok (silent s)
    leader_waits leads = rw (up, leads) refl

    pub other_stands : is_leader s.mode ≡ false → s.term + 1 < 2 ^ 40 → length s.log + 1 < 2 ^ 40 → step m n me s Timeout ≡ Ok (record { server = election_started n me s; sent = to_others me (vote_request_to me (election_started n me s)) n })
    other_stands other term index_left =
        let below : nat_lt s.term MAX ≡ true = lt-ltb s.term MAX (omega arith) in
        let fits : nat_lt (length s.log) MAX ≡ true = lt-ltb (length s.log) MAX (omega arith) in
        rw (up, other, below, fits) refl

    pub crash_taken : step m n me s Crash ≡ Ok (silent (crashed s))
    crash_taken = rw up refl

  pub restart_taken : (n me : ℕ) (s : Raft C) → is_up s.mode ≡ false → step m n me s Restart ≡ Ok (silent (restarted s))
  restart_taken n me s down = rw down refl
