-- Terms tell what of a server's log stays over one step that covers no more entries.
use Rattle.std.proofs.Common.{ℕ, suc, ◌+◌, ◌-◌, ◌≤◌, ◌≡◌, List, [], ◌∷◌, ◌++◌, length, refl, sym, ap, ◌∙◌, arith, subst, cond, Bool, true, false, ◌&&◌, ◌||◌, leb, ltb, eqb, Option, Some, None, Result, Ok, Err, max, min}
use Rattle.std.specs.Prelude.{◌==◌, slice_set}
use Rattle.std.proofs.lemmas.Bool.{leb-true, leb-false}
use Rattle.rows.specs.declared.refusal.Refusal.{Refusal}
use Rattle.rows.specs.declared.refusal.Refusal.TheVariants as refusals
use Rattle.machine_model.specs.MachineSpec.{MachineSpec}
use Rattle.machine_model.specs.declared.entry.Entry.{Entry}
use Rattle.raft_model.specs.Logs.{MAX, term_at, install}
use Rattle.raft_model.specs.Messages.{Message, Body, to_others, VoteRequest, VoteReply, Append, AppendReply, Install, InstallReply}
use Rattle.raft_model.specs.Quorums.{is_quorum, marked, index_at}
use Rattle.raft_model.specs.Rafts.{Raft, RaftTurn, Mode, Down, Follower, Candidate, Leader, is_up, is_leader, silent, reply, term_observed, election_started, grants, granted, counted, won, following, follows_append, appended, installed, after_append_ok, after_append_refusal, match_raised, backed_off, advanced, advanced_in, beats, vote_request_to, crashed, restarted, compacted, extended}
use Rattle.raft_model.specs.Steps.{Input, Arrives, Timeout, Beat, Propose, Compact, Crash, Restart, receives, admission_refusal, unless, acts, wakes, step}
use Rattle.raft_snapshot.specs.Changes.{TermsTell}
use Rattle.raft_snapshot.proofs.TermsOfMerges.{tells_same, tells_more, tells_merge}

-- from s to t, if the base stays, terms tell
abbrev Told : {C : Type 0} → Raft C → Raft C → Type 0
Told s t = t.covered ≡ s.covered → TermsTell s.commit s.log t.log

module _ {C : Type 0} where
  same_log : (s t : Raft C) → t.log ≡ s.log → Told s t
  same_log s t e is = subst (TermsTell s.commit s.log) (sym e) (tells_same s.commit s.log)

  one_more : (s t : Raft C) (e : Entry C) → t.log ≡ s.log ++ e ∷ [] → Told s t
  one_more s t e is _ = subst (TermsTell s.commit s.log) (sym is) (tells_more s.commit s.log (e ∷ []))

  -- the votes of a candidate
  votes_case : (noop : C) (n : ℕ) (s : Raft C) (votes : List Bool) (b : Bool) → Told s (cond b (won noop n s) (record s { mode = Candidate votes }))
  votes_case noop n s votes true = one_more s (won noop n s) (record { term = s.term; command = noop }) refl
  votes_case noop n s votes false = same_log s (record s { mode = Candidate votes }) refl

  raised : (b : Bool) (s t : Raft C) → Told s s → Told s t → Told s (cond b t s)
  raised true s t one two = two
  raised false s t one two = one

  -- of turns
  abbrev ToldTurn : Raft C → RaftTurn C → Type 0
  ToldTurn s turn = Told s turn.server

  either_turn : (b : Bool) (s : Raft C) (one two : RaftTurn C) → ToldTurn s one → ToldTurn s two → ToldTurn s (cond b one two)
  either_turn true s one two p q = p
  either_turn false s one two p q = q

  granted_case : (s : Raft C) (from : ℕ) (b : Bool) → Told s (granted s from b)
  granted_case s from true = same_log s (granted s from true) refl
  granted_case s from false = same_log s s refl

  counted_case : (noop : C) (n : ℕ) (s : Raft C) (from : ℕ) (mode : Mode) → Told s (counted noop n s from mode)
  counted_case noop n s from Down = same_log s s refl
  counted_case noop n s from Follower = same_log s s refl
  counted_case noop n s from (Candidate votes) = votes_case noop n s (slice_set votes from true) (is_quorum n (marked (slice_set votes from true)))
  counted_case noop n s from (Leader next match) = same_log s s refl

  advanced_log : (n me : ℕ) (s : Raft C) (mode : Mode) → (advanced_in n me s mode).log ≡ s.log
  advanced_log n me s Down = refl
  advanced_log n me s Follower = refl
  advanced_log n me s (Candidate votes) = refl
  advanced_log n me s (Leader next match) = refl

  raised_log : (b : Bool) (s t : Raft C) → t.log ≡ s.log → (cond b t s).log ≡ s.log
  raised_log true s t e = e
  raised_log false s t e = refl

  ok_case : (n me : ℕ) (s : Raft C) (j at : ℕ) (mode : Mode) → Told s (after_append_ok n me s j at mode)
  ok_case n me s j at Down = same_log s s refl
  ok_case n me s j at Follower = same_log s s refl
  ok_case n me s j at (Candidate votes) = same_log s s refl
  ok_case n me s j at (Leader next match) =
      let raised = match_raised s j at next match in
      same_log s (advanced n me raised) (advanced_log n me raised raised.mode ∙ raised_log (leb at (length s.log)) s (record s { mode = Leader (slice_set next j (suc (max (index_at match j) at))) (slice_set match j (max (index_at match j) at)) }) refl)

  refusal_case : (n me : ℕ) (s : Raft C) (j at : ℕ) (mode : Mode) → Told s (after_append_refusal n me s j at mode)
  refusal_case n me s j at Down = same_log s s refl
  refusal_case n me s j at Follower = same_log s s refl
  refusal_case n me s j at (Candidate votes) = same_log s s refl
  refusal_case n me s j at (Leader next match) =
      let lower = backed_off s j at next match in
      same_log s (advanced n me lower) (advanced_log n me lower lower.mode)

  module _ (s : Raft C) (reaches : s.commit ≤ length s.log) (within : s.covered ≤ s.commit) where
    held_case : (me from prev prev_term commit : ℕ) (entries : List (Entry C)) (x y z : Bool) (one two : RaftTurn C) → leb prev s.commit ≡ x → leb prev (length s.log) ≡ y
        → (prev ≤ length s.log → ToldTurn s one) → ToldTurn s two → ToldTurn s (cond (x || (y && z)) one two)
    held_case me from prev prev_term commit entries true y z one two hx hy p q = p (omega (arith, leb-true prev s.commit hx, reaches))
    held_case me from prev prev_term commit entries false true true one two hx hy p q = p (leb-true prev (length s.log) hy)
    held_case me from prev prev_term commit entries false true false one two hx hy p q = q
    held_case me from prev prev_term commit entries false false z one two hx hy p q = q

    follows_case : (me from prev prev_term commit : ℕ) (entries : List (Entry C)) → ToldTurn s (follows_append me (following s from) from prev prev_term commit entries)
    follows_case me from prev prev_term commit entries =
        held_case me from prev prev_term commit entries (leb prev s.commit) (leb prev (length s.log)) (eqb (term_at s.log prev) prev_term)
        (reply me (appended (following s from) prev commit entries) from (AppendReply s.term true (prev + length entries)))
        (reply me (following s from) from (AppendReply s.term false (min (prev - 1) (length s.log)))) refl refl
        (λ long _. tells_merge s.commit prev s.log entries reaches long)
        (same_log s (following s from) refl)

    installed_case : (b : Bool) (from : ℕ) (P : List (Entry C)) → leb (length P) s.commit ≡ b
        → Told s (cond b (following s from) (record (following s from) { log = install s.log P; covered = length P; commit = length P }))
    installed_case true from P is = same_log s (following s from) refl
    installed_case false from P is = λ stays. absurd (omega (arith, stays, within, leb-false (length P) s.commit is))

    received : (noop : C) (n me from term : ℕ) (body : Body C) → ToldTurn s (receives noop n me s from term body)
    received noop n me from term (VoteRequest index its_last) = granted_case s from (grants s from term index its_last)
    received noop n me from term (VoteReply asked granting) =
        raised ((asked == s.term) && granting) s (counted noop n s from s.mode) (same_log s s refl) (counted_case noop n s from s.mode)
    received noop n me from term (Append prev prev_term commit entries) =
        either_turn (ltb term s.term) s (reply me s from (AppendReply term false 0)) (cond (is_leader s.mode) (silent s) (follows_append me (following s from) from prev prev_term commit entries)) (same_log s s refl)
        (either_turn (is_leader s.mode) s (silent s) (follows_append me (following s from) from prev prev_term commit entries) (same_log s s refl) (follows_case me from prev prev_term commit entries))
    received noop n me from term (AppendReply asked true at) = raised (asked == s.term) s (after_append_ok n me s from at s.mode) (same_log s s refl) (ok_case n me s from at s.mode)
    received noop n me from term (AppendReply asked false at) = raised (asked == s.term) s (after_append_refusal n me s from at s.mode) (same_log s s refl) (refusal_case n me s from at s.mode)
    received noop n me from term (Install P) =
        either_turn (ltb term s.term) s (reply me s from (InstallReply term 0)) (cond (is_leader s.mode) (silent s) (reply me (installed (following s from) P) from (InstallReply term (length P)))) (same_log s s refl)
        (either_turn (is_leader s.mode) s (silent s) (reply me (installed (following s from) P) from (InstallReply term (length P))) (same_log s s refl) (installed_case (leb (length P) s.commit) from P refl))
    received noop n me from term (InstallReply asked at) = raised (asked == s.term) s (after_append_ok n me s from at s.mode) (same_log s s refl) (ok_case n me s from at s.mode)

  -- a server that met a term has the same log, base and commit
  met_case : (b : Bool) (s : Raft C) (t : Raft C) (more : Raft C → RaftTurn C) → t.log ≡ s.log → t.covered ≡ s.covered → t.commit ≡ s.commit → s.commit ≤ length s.log → s.covered ≤ s.commit
      → ((r : Raft C) → r.commit ≤ length r.log → r.covered ≤ r.commit → ToldTurn r (more r)) → ToldTurn s (more (cond b t s))
  met_case false s t more log covered commit reaches within told = told s reaches within
  met_case true s t more log covered commit reaches within told = λ stays.
      let own = told t (omega (arith, commit, reaches, ap length log)) (omega (arith, covered, commit, within)) (stays ∙ sym covered) in
      subst (λ c. TermsTell c s.log (more t).server.log) commit (subst (λ l. TermsTell t.commit l (more t).server.log) log own)

  ok_turn : (s : Raft C) (a turn : RaftTurn C) (r : Result (RaftTurn C) Refusal) → r ≡ Ok turn → r ≡ Ok a → ToldTurn s a → ToldTurn s turn
  ok_turn s a turn r e is told = let same : a ≡ turn = cc (sym is ∙ e) in subst (ToldTurn s) same told

  if_ok : (b : Bool) (s : Raft C) (a turn : RaftTurn C) (cause : Refusal) → cond b (Ok a) (Err cause) ≡ Ok turn → ToldTurn s a → ToldTurn s turn
  if_ok true s a turn cause e told = let same : a ≡ turn = cc e in subst (ToldTurn s) same told
  if_ok false s a turn cause e told = absurd cc

  stands_case : (b c : Bool) (n me : ℕ) (s : Raft C) (sent : List (Message C)) (turn : RaftTurn C)
      → cond b (Ok (silent s)) (cond c (Ok (record { server = election_started n me s; sent = sent })) (Err refusals.Exhausted)) ≡ Ok turn → ToldTurn s turn
  stands_case true c n me s sent turn e = let same : silent s ≡ turn = cc e in subst (ToldTurn s) same (same_log s s refl)
  stands_case false c n me s sent turn e = if_ok c s (record { server = election_started n me s; sent = sent }) turn refusals.Exhausted e (same_log s (election_started n me s) refl)

  unless_case : (r : Option Refusal) (s : Raft C) (a turn : RaftTurn C) → unless r a ≡ Ok turn → ToldTurn s a → ToldTurn s turn
  unless_case None s a turn e told = let same : a ≡ turn = cc e in subst (ToldTurn s) same told
  unless_case (Some cause) s a turn e told = absurd cc

module _ {S C : Type 0} (m : MachineSpec S C) (n me : ℕ) (s : Raft C) (reaches : s.commit ≤ length s.log) (within : s.covered ≤ s.commit) where
  proposed_case : (b : Bool) (command : C) (turn : RaftTurn C) → cond b (unless (admission_refusal m s command) (silent (extended s command))) (Err (refusals.NotLeader s.known)) ≡ Ok turn → ToldTurn s turn
  proposed_case true command turn e =
      unless_case (admission_refusal m s command) s (silent (extended s command)) turn e (one_more s (extended s command) (record { term = s.term; command = command }) refl)
  proposed_case false command turn e = absurd cc

  acted : (input : Input C) (turn : RaftTurn C) → acts m n me s input ≡ Ok turn → ToldTurn s turn
  acted (Arrives message) turn e =
      if_ok (ltb message.from n) s (receives m.noop n me (term_observed message.term s) message.from message.term message.body) turn refusals.OutOfRange e
      (met_case (ltb s.term message.term) s (record s { term = message.term; vote = None; known = None; mode = Follower })
      (λ r. receives m.noop n me r message.from message.term message.body) refl refl refl reaches within
      (λ r p q. received r p q m.noop n me message.from message.term message.body))
  acted Timeout turn e = stands_case (is_leader s.mode) (ltb s.term MAX && ltb (length s.log) MAX) n me s (to_others me (vote_request_to me (election_started n me s)) n) turn e
  acted Beat turn e = let same : record { server = s; sent = beats n me s s.mode } ≡ turn = cc e in subst (ToldTurn s) same (same_log s s refl)
  acted (Propose command) turn e = proposed_case (is_leader s.mode) command turn e
  acted Compact turn e = let same : silent (compacted s) ≡ turn = cc e in subst (ToldTurn s) same (same_log s (compacted s) refl)
  acted Crash turn e = let same : silent (crashed s) ≡ turn = cc e in subst (ToldTurn s) same (same_log s (crashed s) refl)
  acted Restart turn e = absurd cc

  woken : (input : Input C) (turn : RaftTurn C) → wakes s input ≡ Ok turn → ToldTurn s turn
  woken (Arrives message) turn e = absurd cc
  woken Timeout turn e = absurd cc
  woken Beat turn e = absurd cc
  woken (Propose command) turn e = absurd cc
  woken Compact turn e = absurd cc
  woken Crash turn e = absurd cc
  woken Restart turn e = let same : silent (restarted s) ≡ turn = cc e in subst (ToldTurn s) same (same_log s (restarted s) refl)

  up_or_down : (b : Bool) (input : Input C) (turn : RaftTurn C) → cond b (acts m n me s input) (wakes s input) ≡ Ok turn → ToldTurn s turn
  up_or_down true input turn e = acted input turn e
  up_or_down false input turn e = woken input turn e

  pub step_tells : (input : Input C) (turn : RaftTurn C) → step m n me s input ≡ Ok turn → turn.server.covered ≡ s.covered → TermsTell s.commit s.log turn.server.log
  step_tells input turn e = up_or_down (is_up s.mode) input turn e
