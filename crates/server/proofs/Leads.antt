-- How a server that leads after a step of its log came to it, as its desk has to know: it led
-- before, in the same term, and commit did not fall; or it was a candidate, and nothing is newly
-- applied.
use Rattle.std.proofs.Common.{◌≡◌, ℕ, ◌≤◌, Bool, true, Ok, List, length, sym, ap, ◌∙◌, arith}
use Rattle.machine_model.specs.MachineSpec.{MachineSpec}
use Rattle.raft_model.specs.Messages.{Message}
use Rattle.raft_model.specs.Rafts.{Raft, RaftTurn, Candidate, is_leader, is_chosen}
use Rattle.raft_model.specs.Steps.{Input, Arrives, Timeout, Beat, Propose, Compact, Crash, Restart, step}
use Rattle.raft_model.proofs.Leading.{Leading, goes_on, hears, appends, wins, step_leads}
use Rattle.raft_core.proofs.Commits.{is_greatest}

pub data LeadsOn {C : Type 0} (s t : Raft C) : Type 0 where
  stays : is_leader s.mode ≡ true → t.term ≡ s.term → t.log ≡ s.log → s.commit ≤ t.commit → LeadsOn s t
  rises : (votes : List Bool) → s.mode ≡ Candidate votes → t.commit ≡ s.commit → LeadsOn s t

module _ {S C : Type 0} (m : MachineSpec S C) (n i : ℕ) (s : Raft C) where
  -- by an input that is no proposal
  led : (input : Input C) (t : Raft C) → ((command : C) → input ≡ Propose command → ⊥) → is_leader t.mode ≡ true → Leading m n i s input t → LeadsOn s t
  led input t other l (goes_on mode term log commit) = stays (sym (ap is_leader mode) ∙ l) term log (omega (arith, commit))
  led input t other l (hears r next match leads mode term log commit is) =
      let risen = (is_greatest (is_chosen n i r match) r.commit (length r.log)).keeps in
      let after = ap (λ (x : Raft C). x.commit) is in
      stays leads (ap (λ (x : Raft C). x.term) is ∙ term) (ap (λ (x : Raft C). x.log) is ∙ log) (omega (arith, risen, after, commit))
  led input t other l (appends command leads its is) = absurd (other command its)
  led input t other l (wins votes mode is) = rises votes mode (ap (λ (x : Raft C). x.commit) is)

  steps : (input : Input C) → ((command : C) → input ≡ Propose command → ⊥) → (turn : RaftTurn C) → step m n i s input ≡ Ok turn → is_leader turn.server.mode ≡ true → LeadsOn s turn.server
  steps input other turn h l = led input turn.server other l (step_leads m n i s input turn h l)

  -- a message that came
  pub message_leads : (message : Message C) (turn : RaftTurn C) → step m n i s (Arrives message) ≡ Ok turn → is_leader turn.server.mode ≡ true → LeadsOn s turn.server
  message_leads x = steps (Arrives x) (λ command e. cc)

  -- the log's own inputs, but for a proposal
  pub timeout_step : (turn : RaftTurn C) → step m n i s Timeout ≡ Ok turn → is_leader turn.server.mode ≡ true → LeadsOn s turn.server
  timeout_step = steps Timeout (λ command e. cc)

  pub beat_step : (turn : RaftTurn C) → step m n i s Beat ≡ Ok turn → is_leader turn.server.mode ≡ true → LeadsOn s turn.server
  beat_step = steps Beat (λ command e. cc)

  pub compact_step : (turn : RaftTurn C) → step m n i s Compact ≡ Ok turn → is_leader turn.server.mode ≡ true → LeadsOn s turn.server
  compact_step = steps Compact (λ command e. cc)

  pub crash_step : (turn : RaftTurn C) → step m n i s Crash ≡ Ok turn → is_leader turn.server.mode ≡ true → LeadsOn s turn.server
  crash_step = steps Crash (λ command e. cc)

  pub restart_step : (turn : RaftTurn C) → step m n i s Restart ≡ Ok turn → is_leader turn.server.mode ≡ true → LeadsOn s turn.server
  restart_step = steps Restart (λ command e. cc)
