-- Steps of a server whose covered entries are filled in.
use Rattle.std.proofs.Common.{◌≡◌, ℕ, zero, suc, ◌&&◌, nat_lt, Bool, true, false, if◌then◌else◌, Result, Ok, Err, List, length, refl, ap}
use Rattle.rows.specs.declared.refusal.Refusal.{Refusal}
use Rattle.rows.specs.declared.refusal.Refusal.TheVariants as refusals
use Rattle.machine_model.specs.MachineSpec.{MachineSpec}
use Rattle.machine_model.specs.declared.entry.Entry.{Entry}
use Rattle.raft_model.specs.Logs.{MAX}
use Rattle.raft_model.specs.Messages.{Message, to_others}
use Rattle.raft_model.specs.Rafts.{Raft, RaftTurn, is_up, is_leader, silent, term_observed, election_started, vote_request_to}
use Rattle.raft_model.specs.Steps.{step, acts, wakes, times_out, receives, Input, Arrives, Timeout, Beat, Propose, Compact, Crash, Restart}
use Rattle.raft_snapshot.specs.Prefixes.{with_prefix, result_with_prefix, FitsPrefix, IsPlainInput}
use Rattle.raft_snapshot.proofs.Logs.{with_prefix-length, with_prefix-last_term}
use Rattle.raft_snapshot.proofs.Rafts.{receives-with_prefix}

others-same : {C : Type 0} (me : ℕ) (f g : ℕ → Message C) (n : ℕ) → ((j : ℕ) → f j ≡ g j) → to_others me f n ≡ to_others me g n
unfolding to_others
others-same me f g zero same = refl
others-same me f g (suc n) same = rw (same n, others-same me f g n same) refl

module _ {S C : Type 0} (m : MachineSpec S C) (n me : ℕ) (P : List (Entry C)) (s : Raft C) (may : FitsPrefix P s) where
  either_result : (t : Bool) (a b x y : Result (RaftTurn C) Refusal) → a ≡ result_with_prefix P x → b ≡ result_with_prefix P y → (if t then a else b) ≡ result_with_prefix P (if t then x else y)
  either_result true a b x y p q = p
  either_result false a b x y p q = q

  asks : to_others me (vote_request_to me (election_started n me (with_prefix P s))) n ≡ to_others me (vote_request_to me (election_started n me s)) n
  asks = others-same me (vote_request_to me (election_started n me (with_prefix P s))) (vote_request_to me (election_started n me s)) n (λ j. rw (with_prefix-last_term P s.log may.within may.term, with_prefix-length P s.log may.within may.term) refl)

  stands_filled : times_out n me (with_prefix P s) ≡ result_with_prefix P (times_out n me s)
  stands_filled =
      either_result (is_leader s.mode) _ _ (Ok (silent s)) (if nat_lt s.term MAX && nat_lt (length s.log) MAX then Ok (record { server = election_started n me s; sent = to_others me (vote_request_to me (election_started n me s)) n }) else Err refusals.Exhausted) refl
      (rw (with_prefix-length P s.log may.within may.term, asks) (either_result (nat_lt s.term MAX && nat_lt (length s.log) MAX) (Ok (record { server = with_prefix P (election_started n me s); sent = to_others me (vote_request_to me (election_started n me s)) n })) (Err refusals.Exhausted) (Ok (record { server = election_started n me s; sent = to_others me (vote_request_to me (election_started n me s)) n })) (Err refusals.Exhausted) refl refl))

  acts_filled : (input : Input C) → IsPlainInput input → acts m n me (with_prefix P s) input ≡ result_with_prefix P (acts m n me s input)
  acts_filled (Arrives message) plain = either_result (nat_lt message.from n) (Ok (receives m.noop n me (term_observed message.term (with_prefix P s)) message.from message.term message.body)) (Err refusals.OutOfRange) (Ok (receives m.noop n me (term_observed message.term s) message.from message.term message.body)) (Err refusals.OutOfRange) (ap (λ (t : RaftTurn C). Ok t) (receives-with_prefix P m.noop n me s may message.from message.term message.body plain)) refl
  acts_filled Timeout plain = stands_filled
  acts_filled Crash plain = refl
  acts_filled Restart plain = refl
  acts_filled Beat plain = absurd plain
  acts_filled (Propose command) plain = absurd plain
  acts_filled Compact plain = absurd plain

  wakes_filled : (input : Input C) → IsPlainInput input → wakes (with_prefix P s) input ≡ result_with_prefix P (wakes s input)
  wakes_filled (Arrives message) plain = refl
  wakes_filled Timeout plain = refl
  wakes_filled Crash plain = refl
  wakes_filled Restart plain = refl
  wakes_filled Beat plain = absurd plain
  wakes_filled (Propose command) plain = absurd plain
  wakes_filled Compact plain = absurd plain

  pub step-with_prefix : (input : Input C) → IsPlainInput input → step m n me (with_prefix P s) input ≡ result_with_prefix P (step m n me s input)
  step-with_prefix input plain = either_result (is_up s.mode) (acts m n me (with_prefix P s) input) (wakes (with_prefix P s) input) (acts m n me s input) (wakes s input) (acts_filled input plain) (wakes_filled input plain)
