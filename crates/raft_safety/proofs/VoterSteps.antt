-- Votes through small steps, and through a path of them.
use Rattle.std.proofs.Common.{◌≡◌, ℕ, suc, inl, inr, Bool, true, false, Option, Some, None, List, [], ◌∷◌, length, sym, ◌∙◌, subst, arith, slice_get, slice_set, nat_le}
use Rattle.std.proofs.lemmas.Bool.{eqb-true}
use Rattle.machine_model.specs.MachineSpec.{MachineSpec}
use Rattle.machine_model.specs.declared.entry.Entry.{Entry}
use Rattle.raft_model.specs.Quorums.{marked, is_quorum}
use Rattle.raft_model.specs.Messages.{Message, Body, VoteRequest, VoteReply, Append, AppendReply, Install, InstallReply}
use Rattle.raft_model.specs.Rafts.{Raft, Mode, Follower, Candidate, Leader, election_started, vote_request_to, is_free_for, installed, match_raised, beat_message, beat_body}
use Rattle.raft_model.proofs.Cases.{bool_cases}
use Rattle.raft_safety.specs.Inner.SmallSteps.{OwesNothing, KnowsNothing, WasSent, Small, raises, stands, grants_vote, refuses, counts, wins, extends, follows, takes_append, takes_install, acks, backs, advances, covers, beats_all, Path, still, only, after_one, Turns, walks, resets}
use Rattle.raft_safety.specs.Inner.Ballots.{Ballots, cast, is_for, Elected, VoterMode, Voter, VoteBody, BallotsGrow}
use Rattle.raft_safety.proofs.Quorums.{quorum_more, quorum_told}
use Rattle.raft_safety.proofs.Places.{marked_set, only_marked, to_others_is, get-one}
use Rattle.raft_safety.proofs.Voters.{for_is, grow_more, apart_more, body_on, mode_on, Votes, votes_same, votes_raise, votes_cast, idle_mode}

-- what a small step gives
pub record VotesKept {C : Type 0} (n : ℕ) (B : Ballots) (i : ℕ) (t : Raft C) (out : List (Message C)) : Type 0 where
  pub votes : Votes n B i t.term t.vote t.mode
  pub says : (k : ℕ) (x : Message C) → slice_get out k ≡ Some x → VoteBody votes.after x.from x.to x.body

-- all messages
abbrev pub VotesSent : {C : Type 0} → Ballots → List (Message C) → Type 0
VotesSent {C} B sent = (x : Message C) → WasSent sent x → VoteBody B x.from x.to x.body

-- a free vote goes to the one that has it
free_is : (vote : Option ℕ) (c d : ℕ) → is_free_for vote c ≡ true → vote ≡ Some d → c ≡ d
free_is None c d h e = absurd (cc)
free_is (Some v) c d h e = let q : v ≡ c = eqb-true v c h in cc

-- a refusal says nothing of votes
owes : {C : Type 0} (from to : ℕ) (body : Body C) → OwesNothing body → (D : Ballots) → VoteBody D from to body
unfolding VoteBody
owes from to (VoteRequest index its_last) h D = tt
owes from to (VoteReply asked true) h D = absurd h
owes from to (VoteReply asked false) h D = tt
owes from to (Append prev prev_term commit entries) h D = tt
owes from to (AppendReply asked ok at) h D = tt
owes from to (Install covered) h D = tt
owes from to (InstallReply asked at) h D = tt

module _ {C : Type 0} (n : ℕ) (B : Ballots) (i : ℕ) where
  -- nothing is said
  quiet : (t : Raft C) → Votes n B i t.term t.vote t.mode → VotesKept n B i t []
  quiet t v = record { votes = v; says = λ k x h. absurd (cc) }

  -- the same by an equation
  quiet_out : (t : Raft C) (out : List (Message C)) → out ≡ [] → Votes n B i t.term t.vote t.mode → VotesKept n B i t out
  quiet_out t out e v = record { votes = v; says = λ k x h. absurd (let q = rw e at h in cc) }

  -- one message
  says_one : (t : Raft C) (x : Message C) (v : Votes n B i t.term t.vote t.mode) → VoteBody v.after x.from x.to x.body → VotesKept n B i t (x ∷ [])
  says_one t x v h = record { votes = v; says = λ k y e. subst (λ z. VoteBody v.after z.from z.to z.body) (get-one x k y e) h }

-- a leader goes on
leads_on : (n : ℕ) (B : Ballots) (j t : ℕ) (mode : Mode) (next match next2 match2 : List ℕ) → mode ≡ Leader next match → VoterMode n B j t mode → VoterMode n B j t (Leader next2 match2)
unfolding VoterMode
leads_on n B j t mode next match next2 match2 e h = let a : VoterMode n B j t (Leader next match) = subst (λ x. VoterMode n B j t x) e h in a

-- a beat says nothing of votes
beat_says : {C : Type 0} (D : Ballots) (s : Raft C) (from to next : ℕ) → VoteBody D from to (beat_body s next)
unfolding VoteBody
beat_says D s from to next = elim (bool_cases (nat_le next s.covered)) [ inl e ↦ rw e tt | inr e ↦ rw e tt ]

module _ {S C : Type 0} (m : MachineSpec S C) (n : ℕ) (B : Ballots) (i : ℕ) (sent : List (Message C)) (s : Raft C)
    (v : Voter n B i s.term s.vote s.mode) (given : VotesSent B sent) where
  -- a new candidate votes for itself
  stands_votes : Votes n B i (suc s.term) (Some i) (election_started n i s).mode
  unfolding VoterMode
  stands_votes = votes_cast n B i s.term (suc s.term) i s.vote s.mode (election_started n i s).mode v (omega arith)
      (λ d h. absurd (let none = v.later (suc s.term) (omega arith) in cc))
      (λ g mine j less mark. subst (λ k. (cast B i (suc s.term) i).ballot (suc s.term) k ≡ Some i) (sym (only_marked n i j mark)) mine)

  -- a vote
  grants_votes : (c : ℕ) → is_free_for s.vote c ≡ true → Votes n B i s.term (Some c) s.mode
  grants_votes c free = votes_cast n B i s.term s.term c s.vote s.mode s.mode v (omega arith)
      (λ d h. free_is s.vote c d free (v.stored ∙ h))
      (λ g mine. mode_on n B (cast B i s.term c) i s.term s.mode g v.role)

  -- a vote counted
  counts_votes : (votes : List Bool) (from term : ℕ) → WasSent sent (record { from = from; to = i; term = term; body = VoteReply s.term true }) → s.mode ≡ Candidate votes →
      Votes n B i s.term s.vote (Candidate (slice_set votes from true))
  unfolding VoterMode VoteBody
  counts_votes votes from term came mode =
      let had : VoterMode n B i s.term (Candidate votes) = subst (λ x. VoterMode n B i s.term x) mode v.role in
      let gave : B.ballot s.term from ≡ Some i = given (record { from = from; to = i; term = term; body = VoteReply s.term true }) came in
      votes_same n B i s.term s.vote s.mode (Candidate (slice_set votes from true)) v
      (λ j less mark. elim (marked_set votes from j mark) [
        | inl e ↦ subst (λ k. B.ballot s.term k ≡ Some i) (sym e) gave
        | inr e ↦ had j less e
      ])

  -- a win: a quorum voted
  wins_votes : (votes : List Bool) (next match : List ℕ) → s.mode ≡ Candidate votes → is_quorum n (marked votes) ≡ true → Votes n B i s.term s.vote (Leader next match)
  unfolding VoterMode Elected
  wins_votes votes next match mode many =
      let had : VoterMode n B i s.term (Candidate votes) = subst (λ x. VoterMode n B i s.term x) mode v.role in
      votes_same n B i s.term s.vote s.mode (Leader next match) v
      (quorum_more n (marked votes) (λ j. is_for i (B.ballot s.term j)) (λ j less mark. for_is i (B.ballot s.term j) (had j less mark)) (quorum_told n (marked votes) many))

  -- a leader goes on
  leader_votes : (next match next2 match2 : List ℕ) → s.mode ≡ Leader next match → Votes n B i s.term s.vote (Leader next2 match2)
  leader_votes next match next2 match2 mode = votes_same n B i s.term s.vote s.mode (Leader next2 match2) v (leads_on n B i s.term s.mode next match next2 match2 mode v.role)

  -- nothing changes
  same_votes : Votes n B i s.term s.vote s.mode
  same_votes = votes_same n B i s.term s.vote s.mode s.mode v v.role

  -- who does nothing
  idle_votes : (mode : Mode) → KnowsNothing mode → Votes n B i s.term s.vote mode
  idle_votes mode h = votes_same n B i s.term s.vote s.mode mode v (idle_mode n B i s.term mode h)

  -- an Install
  installs_votes : (P : List (Entry C)) → Votes n B i (installed s P).term (installed s P).vote (installed s P).mode
  installs_votes P = elim (bool_cases (nat_le (length P) s.commit)) [ inl e ↦ rw e same_votes | inr e ↦ rw e same_votes ]

  -- an ok
  acks_votes : (next match : List ℕ) (j at : ℕ) → s.mode ≡ Leader next match →
      Votes n B i (match_raised s j at next match).term (match_raised s j at next match).vote (match_raised s j at next match).mode
  acks_votes next match j at mode = elim (bool_cases (nat_le at (length s.log))) [ inl e ↦ rw e (leader_votes next match _ _ mode) | inr e ↦ rw e same_votes ]

  -- each small step
  pub small_votes : (t : Raft C) (out : List (Message C)) → Small m n i sent s t out → VotesKept n B i t out
  unfolding VoteBody
  small_votes t out (raises x came less e o) = rw e (quiet_out n B i _ out o (votes_raise n B i s.term x.term s.vote s.mode v less))
  small_votes t out (stands term_fits index_fits e o) = rw (e, o) (record {
    votes = stands_votes;
    says = λ k x h. let r = to_others_is i (vote_request_to i (election_started n i s)) n k x h in rw r.3 tt;
  })
  small_votes t out (grants_vote from index its_last came free newer e o) =
      rw (e, o) (says_one n B i _ _ (grants_votes from free) (sym (grants_votes from free).own.stored))
  small_votes t out (refuses from term request answer came h e o) = rw (e, o) (says_one n B i s _ same_votes (owes i from answer h same_votes.after))
  small_votes t out (counts votes from term less came mode e o) = rw e (quiet_out n B i _ out o (counts_votes votes from term came mode))
  small_votes t out (wins votes mode many e o) = rw e (quiet_out n B i _ out o (wins_votes votes _ _ mode many))
  small_votes t out (extends next match command is mode none e o) = rw e (quiet_out n B i _ out o same_votes)
  small_votes t out (follows from e o) = rw e (quiet_out n B i _ out o (idle_votes Follower tt))
  small_votes t out (takes_append from prev prev_term commit entries came mode held e o) = rw (e, o) (says_one n B i _ _ same_votes tt)
  small_votes t out (takes_install from P came mode e o) = rw (e, o) (says_one n B i _ _ (installs_votes P) tt)
  small_votes t out (acks next match from term at body came ack mode e o) = rw e (quiet_out n B i _ out o (acks_votes next match from at mode))
  small_votes t out (backs next match from at mode e o) = rw e (quiet_out n B i _ out o (leader_votes next match _ _ mode))
  small_votes t out (advances next match mode e o) = rw e (quiet_out n B i _ out o same_votes)
  small_votes t out (covers e o) = rw e (quiet_out n B i _ out o same_votes)
  small_votes t out (beats_all next match mode e o) = rw (e, o) (record {
    votes = same_votes;
    says = λ k x h. let r = to_others_is i (beat_message i s next) n k x h in rw r.3 (beat_says same_votes.after s i r.0 _);
  })

  -- a crash or a restart
  pub reset_votes : (t : Raft C) (out : List (Message C)) (mode : Mode) → KnowsNothing mode → t ≡ record s { commit = s.covered; known = None; mode = mode } → out ≡ [] → VotesKept n B i t out
  reset_votes t out mode h e o = rw e (quiet_out n B i _ out o (idle_votes mode h))

  -- no step
  pub still_votes : (t : Raft C) (out : List (Message C)) → t ≡ s → out ≡ [] → VotesKept n B i t out
  still_votes t out e o = rw e (quiet_out n B i s out o same_votes)

-- messages stay true
pub sent_on : {C : Type 0} (B D : Ballots) (sent : List (Message C)) → BallotsGrow B D → VotesSent B sent → VotesSent D sent
sent_on B D sent g h x came = body_on B D x.from x.to x.body g (h x came)

-- one change after another
chained : {C : Type 0} (n : ℕ) (B : Ballots) (i term : ℕ) (vote : Option ℕ) (mode : Mode) (t : Raft C) (out : List (Message C)) (v : Votes n B i term vote mode) → VotesKept n v.after i t out → VotesKept n B i t out
chained n B i term vote mode t out v k = record {
  votes = record {
    after = k.votes.after;
    grow = grow_more B v.after k.votes.after v.grow k.votes.grow;
    apart = apart_more i B v.after k.votes.after v.apart k.votes.apart;
    own = k.votes.own;
  };
  says = k.says;
}

-- each path
pub path_votes : {S C : Type 0} (m : MachineSpec S C) (n i : ℕ) (sent : List (Message C)) (t : Raft C) (out : List (Message C)) (B : Ballots) (s : Raft C) →
    Voter n B i s.term s.vote s.mode → VotesSent B sent → Path m n i sent s t out → VotesKept n B i t out
path_votes m n i sent t out B s v given (still e o) = still_votes m n B i sent s v given t out e o
path_votes m n i sent t out B s v given (only x) = small_votes m n B i sent s v given t out x
path_votes m n i sent t out B s v given (after_one r x passes p) =
    let one = small_votes m n B i sent s v given r [] x in
    chained n B i r.term r.vote r.mode t out one.votes
    (path_votes m n i sent t out one.votes.after r one.votes.own (sent_on B one.votes.after sent one.votes.grow given) p)

-- each turn
pub turn_votes : {S C : Type 0} (m : MachineSpec S C) (n i : ℕ) (sent : List (Message C)) (t : Raft C) (out : List (Message C)) (B : Ballots) (s : Raft C) →
    Voter n B i s.term s.vote s.mode → VotesSent B sent → Turns m n i sent s t out → VotesKept n B i t out
turn_votes m n i sent t out B s v given (walks up p) = path_votes m n i sent t out B s v given p
turn_votes m n i sent t out B s v given (resets mode h down e o) = reset_votes m n B i sent s v given t out mode h e o
