-- A command that is proposed.
use Rattle.std.proofs.Common.{◌≡◌, ℕ, ◌≤◌, Bool, true, false, nat_lt, Option, Some, None, Result, Ok, Err, List, [], ◌∷◌, length, refl, sym, ap, subst, ◌∙◌, if◌then◌else◌}
use Rattle.std.proofs.lemmas.List.{take-append-le}
use Rattle.std.specs.Prelude.{IfSome, IfErr, OnOk, MatchOption}
use Rattle.rows.specs.declared.command.Command.{Command}
use Rattle.rows.specs.declared.refusal.Refusal.{Refusal}
use Rattle.rows.specs.declared.refusal.Refusal.TheVariants as refusals
use Rattle.raft_model.specs.Logs.{MAX, state_after}
use Rattle.raft_model.specs.Rafts.{Raft, RaftTurn, is_up, is_leader, silent, extended}
use Rattle.raft_model.specs.Steps as raft_steps
use Rattle.raft_core.specs.RaftView.{RaftView}
use Rattle.raft_core.specs.Steps.{RefinesRaft, Takes}
use Rattle.wire.specs.Frames.{Frame}
use Rattle.raft_core.specs.Inputs.{Own}
use Rattle.raft_core.specs.Refusals.{HidesNothing, IsRefused, refusal_by}
use Rattle.fsm_model.specs.Words.{State}
use Rattle.fsm_model.specs.ClusterMachine.{cluster_spec}
use Rattle.group_model.specs.Desks.{applied_state}
use Rattle.leader.specs.OpenDesks.{OpenDesk}
use Rattle.leader.specs.Staying.{IsOver}
use Rattle.server.specs.ServerViews.{ServerView, IsOfLeader}
use Rattle.server.specs.Inner.Acts.{EachServer, IsProposed, WhyNotProposed}
use Rattle.server.proofs.Servers.{up_of}

-- a leader's log is longer by a command that nothing refused
pub record IsAppended (s : Raft Command) (c : Command) (new : Raft Command) : Type 0 where
  pub leads : is_leader s.mode ≡ true
  pub admitted : raft_steps.admission_refusal cluster_spec s c ≡ None
  pub log : new ≡ extended s c

module _ (n me : ℕ) (s : Raft Command) (c : Command) (up : is_up s.mode ≡ true) where
  step_is : raft_steps.step cluster_spec n me s (raft_steps.Propose c) ≡ raft_steps.proposes cluster_spec s c
  step_is = ap (λ b. if b then raft_steps.proposes cluster_spec s c else Err refusals.Down) up

  taken_at : (leads : Bool) (a : Option Refusal) (turn : RaftTurn Command) → is_leader s.mode ≡ leads → raft_steps.admission_refusal cluster_spec s c ≡ a → (if leads then raft_steps.unless a (silent (extended s c)) else Err (refusals.NotLeader s.known)) ≡ Ok turn → IsAppended s c turn.server
  taken_at true None turn leads admitted h = record { leads = leads; admitted = admitted; log = sym (ap (λ (t : RaftTurn Command). t.server) (same h)) } where
    same : {a b : RaftTurn Command} → (let x : Result (RaftTurn Command) Refusal = Ok a in x ≡ Ok b) → a ≡ b
    same h = cc
  taken_at true (Some r) turn leads admitted h = absurd (cc)
  taken_at false a turn leads admitted h = absurd (cc)

  -- a proposal that is taken was admitted, and the log is longer by it
  pub proposed : (turn : RaftTurn Command) → raft_steps.step cluster_spec n me s (raft_steps.Propose c) ≡ Ok turn → IsAppended s c turn.server
  proposed turn h = taken_at (is_leader s.mode) (raft_steps.admission_refusal cluster_spec s c) turn refl refl (sym step_is ∙ h)

  why : (r : Result (RaftTurn Command) Refusal) (cause : Refusal) → refusal_by r ≡ Some cause → r ≡ Err cause
  why (Ok turn) cause h = absurd (cc)
  why (Err e) cause h = ap (λ x. Err x) (same h) where
    same : {a b : Refusal} → (let x : Option Refusal = Some a in x ≡ Some b) → a ≡ b
    same h = cc

  room_at : (index_left : Bool) (a : Option Refusal) (turn : RaftTurn Command) → (if index_left then None else refusal_by (raft_steps.unless (if index_left then a else Some refusals.Exhausted) turn)) ≡ None → index_left ≡ true
  room_at true a turn h = refl
  room_at false a turn h = absurd (cc)

  -- why it is not taken; memory is wanted only where there is room
  pub refused : (cause : Refusal) → IsRefused cluster_spec n me s (Own (raft_steps.Propose c)) cause → HidesNothing cluster_spec n me s (Own (raft_steps.Propose c)) cause → WhyNotProposed s c cause
  refused refusals.NoMemory leads none = record {
    leads = leads;
    index_left = room_at (nat_lt (length s.log) MAX) (cluster_spec.admission (state_after cluster_spec s.log) c) (silent (extended s c)) (rw (up, leads) at none);
  }
  refused cause h hidden = sym step_is ∙ why (raft_steps.step cluster_spec n me s (raft_steps.Propose c)) _ h

-- ---- the desk

-- what is applied stays
applied_stays : (s : Raft Command) (c : Command) → s.commit ≤ length s.log → applied_state (extended s c) ≡ applied_state s
applied_stays s c held = ap (state_after cluster_spec) (take-append-le s.commit s.log (record { term = s.term; command = c } ∷ []) held)

-- an open desk is still of the state that is applied
proposal_keeps : (s : Raft Command) (c : Command) (d : Option OpenDesk) → s.commit ≤ length s.log → IfSome d (IsOfLeader s) → IfSome d (IsOfLeader (extended s c))
proposal_keeps s c None held h = tt
proposal_keeps s c (Some o) held h = record { leads = h.leads; term = h.term; over = subst (λ x. IsOver x o) (sym (applied_stays s c held)) h.over }

-- ---- the call

abbrev Answer : Type 0
Answer = Result (Unit {0}) Refusal

held_by : (s : Raft Command) (r : Option ℕ) → is_up s.mode ≡ true → MatchOption r (is_up s.mode ≡ false) (λ n. (is_up s.mode ≡ true) × (n ≡ s.commit)) → IfSome r (λ n. n ≤ length s.log) → s.commit ≤ length s.log
held_by s None up value held = absurd (let q : true ≡ false = sym up ∙ value in cc)
held_by s (Some n) up value held = subst (λ (k : ℕ). k ≤ length s.log) value.1 held

module _ (old : ServerView) (new : RaftView State Command) (c : Command) (up : is_up old.raft.server.mode ≡ true) where
  pub propose_takes : (n : Option ℕ) → ((s : Raft Command) → RefinesRaft cluster_spec old.raft s → MatchOption n (is_up s.mode ≡ false) (λ k. (is_up s.mode ≡ true) × (k ≡ s.commit))) → ((s : Raft Command) → RefinesRaft cluster_spec old.raft s → IfSome n (λ k. k ≤ length s.log))
      → (r : Answer) → OnOk r ((s : Raft Command) (sent : List Frame) → RefinesRaft cluster_spec old.raft s → Takes cluster_spec old.raft s (Own (raft_steps.Propose c)) new sent sent)
      → OnOk r (EachServer old (λ s. IsProposed s c (record { raft = new; desk = old.desk })))
  propose_takes n value held (Err cause) taken = tt
  propose_takes n value held (Ok u) taken = λ s is.
      let up_at = up_of old s is up in
      let steps = taken s.raft [] is.raft (raft_steps.Propose c) refl in
      let p = proposed old.raft.size old.raft.me s.raft c up_at steps.turn steps.step in
      let within = held_by s.raft n up_at (value s.raft is.raft) (held s.raft is.raft) in
      record {
        leads = p.leads;
        admitted = p.admitted;
        server = record { raft = subst (λ (t : Raft Command). RefinesRaft cluster_spec new t) p.log steps.refines; desk = is.desk; led = proposal_keeps s.raft c old.desk within is.led };
      }

  pub propose_declines : (r : Answer) → IfErr r (λ cause. (s : Raft Command) → RefinesRaft cluster_spec old.raft s → IsRefused cluster_spec old.raft.size old.raft.me s (Own (raft_steps.Propose c)) cause) →
      IfErr r (λ cause. (s : Raft Command) → RefinesRaft cluster_spec old.raft s → HidesNothing cluster_spec old.raft.size old.raft.me s (Own (raft_steps.Propose c)) cause) → IfErr r (λ cause. EachServer old (λ s. WhyNotProposed s.raft c cause))
  propose_declines (Ok u) h hidden = tt
  propose_declines (Err cause) h hidden = λ s is. refused old.raft.size old.raft.me s.raft c (up_of old s is up) cause (h s.raft is.raft) (hidden s.raft is.raft)
