-- One server's step: what server `me` of n does with an input, or the refusal that changes nothing.
use Rattle.std.specs.Prelude.{ℕ, true, false, ◌&&◌, ◌==◌, nat_lt, if◌then◌else◌, Option, Some, None, Result, Ok, Err, length}
use Rattle.rows.specs.declared.refusal.Refusal.{Refusal}
use Rattle.rows.specs.declared.refusal.Refusal.TheVariants as refusals
use Rattle.machine_model.specs.MachineSpec.{MachineSpec}
use Rattle.raft_model.specs.Logs.{MAX, state_after}
use Rattle.raft_model.specs.Messages.{Message, Body, VoteRequest, VoteReply, Append, AppendReply, Install, InstallReply, to_others}
use Rattle.raft_model.specs.Rafts.{Raft, RaftTurn, is_up, is_leader, silent, reply, term_observed, election_started, vote_request_to, grants, granted, counted, following, follows_append, installed, after_append_ok, after_append_refusal, beats, crashed, restarted, compacted, extended}

-- what a server takes: a message that came, or an input of its own
pub data Input (C : Type 0) : Type 0 where
  Arrives : (message : Message C) → Input C
  Timeout : Input C
  Beat : Input C
  Propose : (command : C) → Input C
  Compact : Input C
  Crash : Input C
  Restart : Input C

-- A message of term `term` comes from server `from`, and has made the receiver s of that term, if
-- it was in a lower one. A reply counts only where `asked` is the receiver's term and its role is
-- the asking one. A leader is silent to an Append and an Install of its own term.
abbrev pub receives : {C : Type 0} → C → ℕ → ℕ → Raft C → ℕ → ℕ → Body C → RaftTurn C
receives noop n me s from term (VoteRequest index its_last) =
    reply me (granted s from (grants s from term index its_last)) from (VoteReply term (grants s from term index its_last))
receives noop n me s from term (VoteReply asked granting) =
    silent (if (asked == s.term) && granting then counted noop n s from s.mode else s)
receives noop n me s from term (Append prev prev_term commit entries) =
    if nat_lt term s.term then reply me s from (AppendReply term false 0)
    else if is_leader s.mode then silent s
    else follows_append me (following s from) from prev prev_term commit entries
receives noop n me s from term (AppendReply asked true at) =
    silent (if asked == s.term then after_append_ok n me s from at s.mode else s)
receives noop n me s from term (AppendReply asked false at) =
    silent (if asked == s.term then after_append_refusal n me s from at s.mode else s)
receives noop n me s from term (Install P) =
    if nat_lt term s.term then reply me s from (InstallReply term 0)
    else if is_leader s.mode then silent s
    else reply me (installed (following s from) P) from (InstallReply term (length P))
receives noop n me s from term (InstallReply asked at) =
    silent (if asked == s.term then after_append_ok n me s from at s.mode else s)

-- Timeout: a leader does nothing; any other stands and asks all others, in rising number, if there
-- is a further term and a further index
abbrev pub times_out : {C : Type 0} → ℕ → ℕ → Raft C → Result (RaftTurn C) Refusal
times_out n me s =
    if is_leader s.mode then Ok (silent s)
    else if nat_lt s.term MAX && nat_lt (length s.log) MAX
    then Ok (record { server = election_started n me s; sent = to_others me (vote_request_to me (election_started n me s)) n })
    else Err refusals.Exhausted

-- the first refusal of a leader's proposal: no more room, then the machine's own against the whole
-- log, committed or not
abbrev pub admission_refusal : {S C : Type 0} → MachineSpec S C → Raft C → C → Option Refusal
admission_refusal m s command = if nat_lt (length s.log) MAX then m.admission (state_after m s.log) command else Some refusals.Exhausted

-- a, if there is no refusal
abbrev pub unless : {A : Type 0} → Option Refusal → A → Result A Refusal
unless None a = Ok a
unless (Some r) a = Err r

-- Propose: a leader appends a command that nothing refuses; others refuse it with the leader that
-- they know
abbrev pub proposes : {S C : Type 0} → MachineSpec S C → Raft C → C → Result (RaftTurn C) Refusal
proposes m s command =
    if is_leader s.mode
    then unless (admission_refusal m s command) (silent (extended s command))
    else Err (refusals.NotLeader s.known)

-- a server that is up; a message from outside the group is none of its own
abbrev pub acts : {S C : Type 0} → MachineSpec S C → ℕ → ℕ → Raft C → Input C → Result (RaftTurn C) Refusal
acts m n me s (Arrives message) =
    if nat_lt message.from n
    then Ok (receives m.noop n me (term_observed message.term s) message.from message.term message.body)
    else Err refusals.OutOfRange
acts m n me s Timeout = times_out n me s
acts m n me s Beat = Ok (record { server = s; sent = beats n me s s.mode })
acts m n me s (Propose command) = proposes m s command
acts m n me s Compact = Ok (silent (compacted s))
acts m n me s Crash = Ok (silent (crashed s))
acts m n me s Restart = Err refusals.OutOfRange

-- a server that is down takes a restart alone
abbrev pub wakes : {C : Type 0} → Raft C → Input C → Result (RaftTurn C) Refusal
wakes s (Arrives message) = Err refusals.Down
wakes s Timeout = Err refusals.Down
wakes s Beat = Err refusals.Down
wakes s (Propose command) = Err refusals.Down
wakes s Compact = Err refusals.Down
wakes s Crash = Err refusals.Down
wakes s Restart = Ok (silent (restarted s))

-- one input: the turn, or the refusal that leaves the server as it was and sends nothing
abbrev pub step : {S C : Type 0} → MachineSpec S C → ℕ → ℕ → Raft C → Input C → Result (RaftTurn C) Refusal
step m n me s input = if is_up s.mode then acts m n me s input else wakes s input
