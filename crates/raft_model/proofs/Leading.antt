-- How a server that leads after a step came to it: each step that leaves a leader is one of four
-- kinds.
use Rattle.std.proofs.Common.{◌≡◌, ℕ, inl, inr, Bool, true, false, ◌&&◌, ◌==◌, nat_lt, nat_le, Option, Some, None, Ok, List, length, refl, ap, subst, sym, ◌∙◌, slice_set}
use Rattle.rows.specs.declared.refusal.Refusal.{Refusal}
use Rattle.machine_model.specs.MachineSpec.{MachineSpec}
use Rattle.raft_model.specs.Logs.{MAX}
use Rattle.raft_model.specs.Quorums.{is_quorum, marked}
use Rattle.raft_model.specs.Messages.{Body, VoteRequest, VoteReply, Append, AppendReply, Install, InstallReply}
use Rattle.raft_model.specs.Rafts.{Raft, RaftTurn, Mode, Down, Follower, Candidate, Leader, is_up, is_leader, silent, term_observed, grants, counted, is_held, won, is_chosen, greatest, advanced_in, after_append_ok, after_append_refusal, extended}
use Rattle.raft_model.specs.Steps.{Input, Arrives, Timeout, Beat, Propose, Compact, Crash, Restart, receives, times_out, proposes, acts, wakes, step, admission_refusal, unless}
use Rattle.raft_model.proofs.Cases.{bool_cases, same_ok}

module _ {S C : Type 0} (m : MachineSpec S C) (n i : ℕ) where
  -- Server i was s before the input, and leads as t after it.
  pub data Leading (s : Raft C) (input : Input C) (t : Raft C) : Type 0 where
    -- it goes on as it was
    goes_on : t.mode ≡ s.mode → t.term ≡ s.term → t.log ≡ s.log → t.commit ≡ s.commit → Leading s input t
    -- a reply moved next and match, and then the commit rule was applied
    hears : (r : Raft C) (next match : List ℕ) → is_leader s.mode ≡ true → r.mode ≡ Leader next match → r.term ≡ s.term → r.log ≡ s.log → r.commit ≡ s.commit →
        t ≡ record r { commit = greatest (is_chosen n i r match) r.commit (length r.log) } → Leading s input t
    -- it appended a proposal
    appends : (command : C) → is_leader s.mode ≡ true → input ≡ Propose command → t ≡ extended s command → Leading s input t
    -- it was a candidate, and a vote won
    wins : (votes : List Bool) → s.mode ≡ Candidate votes → t ≡ won m.noop n s → Leading s input t

module _ {S C : Type 0} (m : MachineSpec S C) (n i : ℕ) (s : Raft C) (input : Input C) where
  -- if it leads, it came to it so
  LeadingIn : Raft C → Type 0
  LeadingIn t = is_leader t.mode ≡ true → Leading m n i s input t

  -- nothing changed
  same : LeadingIn s
  unfolding LeadingIn
  same l = goes_on refl refl refl refl

  -- a vote
  request_leads : (from term index its_last : ℕ) → LeadingIn (receives m.noop n i s from term (VoteRequest index its_last)).server
  unfolding LeadingIn
  request_leads from term index its_last = elim (bool_cases (grants s from term index its_last)) [
    | inl e ↦ rw e (λ l. goes_on refl refl refl refl)
    | inr e ↦ rw e (λ l. goes_on refl refl refl refl)
  ]

  -- a vote that counts
  counted_leads : (from : ℕ) (mode : Mode) → s.mode ≡ mode → LeadingIn (counted m.noop n s from mode)
  unfolding LeadingIn
  counted_leads from Down e = same
  counted_leads from Follower e = same
  counted_leads from (Candidate votes) e = elim (bool_cases (is_quorum n (marked (slice_set votes from true)))) [
    | inl q ↦ rw q (λ l. wins votes e refl)
    | inr q ↦ rw q (λ l. absurd (cc))
  ]
  counted_leads from (Leader next match) e = same

  -- a reply to a request for votes
  vote_leads : (from term asked : ℕ) (granting : Bool) → LeadingIn (receives m.noop n i s from term (VoteReply asked granting)).server
  vote_leads from term asked granting = elim (bool_cases ((asked == s.term) && granting)) [
    | inl e ↦ rw e (counted_leads from s.mode refl)
    | inr e ↦ rw e same
  ]

  -- an Append
  append_leads : (from term prev prev_term commit : ℕ) (entries : List _) → LeadingIn (receives m.noop n i s from term (Append prev prev_term commit entries)).server
  unfolding LeadingIn
  append_leads from term prev prev_term commit entries = elim (bool_cases (nat_lt term s.term)) [
    | inl e ↦ rw e same
    | inr e ↦ rw e (elim (bool_cases (is_leader s.mode)) [
      | inl l ↦ rw l same
      | inr l ↦ rw l (elim (bool_cases (is_held s prev prev_term)) [
        | inl h ↦ rw h (λ q. absurd (cc))
        | inr h ↦ rw h (λ q. absurd (cc))
      ])
    ])
  ]

  -- an Install
  install_leads : (from term : ℕ) (P : List _) → LeadingIn (receives m.noop n i s from term (Install P)).server
  unfolding LeadingIn
  install_leads from term P = elim (bool_cases (nat_lt term s.term)) [
    | inl e ↦ rw e same
    | inr e ↦ rw e (elim (bool_cases (is_leader s.mode)) [
      | inl l ↦ rw l same
      | inr l ↦ rw l (elim (bool_cases (nat_le (length P) s.commit)) [
        | inl h ↦ rw h (λ q. absurd (cc))
        | inr h ↦ rw h (λ q. absurd (cc))
      ])
    ])
  ]

  -- the commit rule
  advance_leads : (mode : Mode) → s.mode ≡ mode → LeadingIn (advanced_in n i s mode)
  unfolding LeadingIn
  advance_leads Down e = same
  advance_leads Follower e = same
  advance_leads (Candidate votes) e = same
  advance_leads (Leader next match) e = λ l. hears s next match (ap is_leader e) e refl refl refl refl

  -- an ok
  ok_leads : (from at : ℕ) (mode : Mode) → s.mode ≡ mode → LeadingIn (after_append_ok n i s from at mode)
  unfolding LeadingIn
  ok_leads from at Down e = same
  ok_leads from at Follower e = same
  ok_leads from at (Candidate votes) e = same
  ok_leads from at (Leader next match) e = elim (bool_cases (nat_le at (length s.log))) [
    | inl q ↦ rw q (λ l. hears _ _ _ (ap is_leader e) refl refl refl refl refl)
    | inr q ↦ rw q (advance_leads s.mode refl)
  ]

  -- a refusal
  refusal_leads : (from at : ℕ) (mode : Mode) → s.mode ≡ mode → LeadingIn (after_append_refusal n i s from at mode)
  unfolding LeadingIn
  refusal_leads from at Down e = same
  refusal_leads from at Follower e = same
  refusal_leads from at (Candidate votes) e = same
  refusal_leads from at (Leader next match) e = λ l. hears _ _ _ (ap is_leader e) refl refl refl refl refl

  -- each message
  receives_leads : (from term : ℕ) (body : Body C) → LeadingIn (receives m.noop n i s from term body).server
  receives_leads from term (VoteRequest index its_last) = request_leads from term index its_last
  receives_leads from term (VoteReply asked granting) = vote_leads from term asked granting
  receives_leads from term (Append prev prev_term commit entries) = append_leads from term prev prev_term commit entries
  receives_leads from term (AppendReply asked true at) = elim (bool_cases (asked == s.term)) [
    | inl e ↦ rw e (ok_leads from at s.mode refl)
    | inr e ↦ rw e same
  ]
  receives_leads from term (AppendReply asked false at) = elim (bool_cases (asked == s.term)) [
    | inl e ↦ rw e (refusal_leads from at s.mode refl)
    | inr e ↦ rw e same
  ]
  receives_leads from term (Install P) = install_leads from term P
  receives_leads from term (InstallReply asked at) = elim (bool_cases (asked == s.term)) [
    | inl e ↦ rw e (ok_leads from at s.mode refl)
    | inr e ↦ rw e same
  ]

-- a follower that takes a message does not lead
followers_follow : {S C : Type 0} (m : MachineSpec S C) (n i : ℕ) (s : Raft C) (input : Input C) (t : Raft C) → s.mode ≡ Follower → is_leader t.mode ≡ true → Leading m n i s input t → ⊥
followers_follow m n i s input t e l (goes_on mode term log commit) = let q = ap is_leader (mode ∙ e) in cc
followers_follow m n i s input t e l (hears r next match leads mode term log commit is) = let q = ap is_leader e in cc
followers_follow m n i s input t e l (appends command leads its is) = let q = ap is_leader e in cc
followers_follow m n i s input t e l (wins votes mode is) = let q : Follower ≡ Candidate votes = sym e ∙ mode in cc

module _ {S C : Type 0} (m : MachineSpec S C) (n i : ℕ) (s : Raft C) where
  -- also one of a greater term
  met_leads : (from term : ℕ) (body : Body C) (input : Input C) → LeadingIn m n i s input (receives m.noop n i (term_observed term s) from term body).server
  unfolding LeadingIn
  met_leads from term body input = elim (bool_cases (nat_lt s.term term)) [
    | inl e ↦ rw e (λ l. let r : Raft C = record s { term = term; vote = None; known = None; mode = Follower } in
        absurd (followers_follow m n i r input _ refl l (receives_leads m n i r input from term body l)))
    | inr e ↦ rw e (receives_leads m n i s input from term body)
  ]

  -- a timeout
  timeout_leads : (turn : RaftTurn C) → times_out n i s ≡ Ok turn → LeadingIn m n i s Timeout turn.server
  unfolding LeadingIn
  timeout_leads turn h = elim (bool_cases (is_leader s.mode)) [
    | inl l ↦ subst (λ t. LeadingIn m n i s Timeout t.server) (same_ok _ _ (rw l at h)) (same m n i s Timeout)
    | inr l ↦ let h1 = rw l at h in elim (bool_cases (nat_lt s.term MAX && nat_lt (length s.log) MAX)) [
      | inl e ↦ subst (λ t. LeadingIn m n i s Timeout t.server) (same_ok _ _ (rw e at h1)) (λ q. absurd (cc))
      | inr e ↦ absurd (let h2 = rw e at h1 in cc)
    ]
  ]

  -- a proposal of a leader
  admitted_leads : (command : C) (r : Option Refusal) (turn : RaftTurn C) → is_leader s.mode ≡ true → unless r (silent (extended s command)) ≡ Ok turn → LeadingIn m n i s (Propose command) turn.server
  unfolding LeadingIn
  admitted_leads command None turn l h = subst (λ t. LeadingIn m n i s (Propose command) t.server) (same_ok _ _ h) (λ q. appends command l refl refl)
  admitted_leads command (Some r) turn l h = absurd (cc)

  -- a proposal
  propose_leads : (command : C) (turn : RaftTurn C) → proposes m s command ≡ Ok turn → LeadingIn m n i s (Propose command) turn.server
  propose_leads command turn h = elim (bool_cases (is_leader s.mode)) [
    | inl l ↦ admitted_leads command (admission_refusal m s command) turn l (rw l at h)
    | inr l ↦ absurd (let q = rw l at h in cc)
  ]

  -- each input of a server that is up
  acts_leads : (input : Input C) (turn : RaftTurn C) → acts m n i s input ≡ Ok turn → LeadingIn m n i s input turn.server
  unfolding LeadingIn
  acts_leads (Arrives x) turn h = elim (bool_cases (nat_lt x.from n)) [
    | inl e ↦ subst (λ t. LeadingIn m n i s (Arrives x) t.server) (same_ok _ _ (rw e at h)) (met_leads x.from x.term x.body (Arrives x))
    | inr e ↦ absurd (let q = rw e at h in cc)
  ]
  acts_leads Timeout turn h = timeout_leads turn h
  acts_leads Beat turn h = subst (λ t. LeadingIn m n i s Beat t.server) (same_ok _ _ h) (same m n i s Beat)
  acts_leads (Propose command) turn h = propose_leads command turn h
  acts_leads Compact turn h = subst (λ t. LeadingIn m n i s Compact t.server) (same_ok _ _ h) (λ l. goes_on refl refl refl refl)
  acts_leads Crash turn h = subst (λ t. LeadingIn m n i s Crash t.server) (same_ok _ _ h) (λ l. absurd (cc))
  acts_leads Restart turn h = absurd (cc)

  -- of one that is down
  wakes_leads : (input : Input C) (turn : RaftTurn C) → wakes s input ≡ Ok turn → LeadingIn m n i s input turn.server
  unfolding LeadingIn
  wakes_leads (Arrives x) turn h = absurd (cc)
  wakes_leads Timeout turn h = absurd (cc)
  wakes_leads Beat turn h = absurd (cc)
  wakes_leads (Propose command) turn h = absurd (cc)
  wakes_leads Compact turn h = absurd (cc)
  wakes_leads Crash turn h = absurd (cc)
  wakes_leads Restart turn h = subst (λ t. LeadingIn m n i s Restart t.server) (same_ok _ _ h) (λ l. absurd (cc))

  -- each step
  pub step_leads : (input : Input C) (turn : RaftTurn C) → step m n i s input ≡ Ok turn → is_leader turn.server.mode ≡ true → Leading m n i s input turn.server
  unfolding LeadingIn
  step_leads input turn h = elim (bool_cases (is_up s.mode)) [
    | inl e ↦ acts_leads input turn (rw e at h)
    | inr e ↦ wakes_leads input turn (rw e at h)
  ]
