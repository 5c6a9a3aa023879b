-- One server stands or leads in the greatest term of a quorum that is up. What it sent is delivered
-- to a member, and that one's answer to it.
use Rattle.std.proofs.Common.{◌≡◌, ◌≢◌, ℕ, suc, ◌<◌, ◌≤◌, ◌⊎◌, inl, inr, Bool, true, false, ◌&&◌, ◌==◌, nat_lt, nat_le, Some, Ok, List, [], ◌∷◌, ◌++◌, length, refl, sym, ap, ◌∙◌, subst, arith, slice_get, slice_set, true≢false}
use Rattle.std.proofs.lemmas.Bool.Decides.{eqb_tells}
use Rattle.std.proofs.lemmas.Option.{same_Some}
use Rattle.machine_model.specs.MachineSpec.{MachineSpec, LawfulMachine}
use Rattle.machine_model.specs.declared.entry.Entry.{Entry}
use Rattle.raft_model.specs.Quorums.{is_quorum, marked}
use Rattle.raft_model.specs.Messages.{Message, Body, VoteRequest, VoteReply, Append, AppendReply, Install, InstallReply}
use Rattle.raft_model.specs.Rafts.{Raft, RaftTurn, Mode, Down, Follower, Candidate, Leader, is_up, is_leader, term_observed, following, is_held, counted, advanced_in, after_append_ok, after_append_refusal}
use Rattle.raft_model.specs.Steps.{receives}
use Rattle.raft_model.specs.Worlds.{World, Deliver, Leads, happens}
use Rattle.raft_model.proofs.Cases.{bool_cases}
use Rattle.raft_safety.specs.Claims.{Limits}
use Rattle.raft_safety.specs.Inner.SmallSteps.{KnowsNothing}
use Rattle.raft_safety.proofs.Places.{get-some, get-last, get-within}
use Rattle.raft_progress.specs.Campaign.{IsStanding, StandsIn}
use Rattle.raft_progress.specs.Peace.{Peace, leads_here, leads_on}
use Rattle.raft_progress.specs.Calm.{IsCalm, Calm, calm_here, calm_on}
use Rattle.raft_progress.proofs.Moves.{get_set-other, met_same, reached_size, reached_limits, came_turn, turned, turned_here, step_arrives}
use Rattle.raft_progress.proofs.Answering.{met_mode}
use Rattle.raft_progress.proofs.Leaders.{alone}
use Rattle.raft_progress.proofs.Onwards.{Since, later, idle, voted, elected, led, campaign_on}
use Rattle.raft_progress.proofs.CalmSteps.{Carries, IsReply, Heeds, heeds}
use Rattle.raft_progress.proofs.CalmRuns.{Member, Inv, Next, next_event, calm_on_inv}
use Rattle.recovery.specs.Runs.{up_there}
use Rattle.recovery.specs.Inner.Spreads.{SameUp, Once, OnceIn}

-- a request for a vote
abbrev pub IsVote : {C : Type 0} → Body C → Type 0
IsVote (VoteRequest index its_last) = Unit {0}
IsVote (VoteReply asked granted) = ⊥
IsVote (Append prev prev_term commit entries) = ⊥
IsVote (AppendReply asked ok at) = ⊥
IsVote (Install covered) = ⊥
IsVote (InstallReply asked at) = ⊥

module _ {S C : Type 0} (m : MachineSpec S C) (n : ℕ) where
  -- a server's turn leaves it up
  pub turned_up : (x : World C) (j : ℕ) (turn : RaftTurn C) (s : Raft C) → slice_get x.servers j ≡ Some s → is_up s.mode ≡ true → is_up turn.server.mode ≡ true → SameUp x (turned m n x j turn)
  turned_up x j turn s here was now k = elim (eqb_tells k j) [
    | inl e ↦ ap (λ z. up_there (slice_get (slice_set x.servers j turn.server) z)) e.1 ∙ (ap (λ z. up_there z) (turned_here m n x j turn s here) ∙ (now ∙ sym (ap (λ z. up_there (slice_get x.servers z)) e.1 ∙ (ap (λ z. up_there z) here ∙ was))))
    | inr e ↦ ap (λ z. up_there z) (get_set-other x.servers j turn.server k e.1)
  ]

  -- who is asked answers, unless it leads and is not asked for its vote
  pub not_silent : (k i : ℕ) (r : Raft C) (term : ℕ) (body : Body C) (L : List (Entry C)) → Carries body L → (is_leader r.mode ≡ true → IsVote body) → (receives m.noop n k r i term body).sent ≡ [] → ⊥
  unfolding Carries
  not_silent k i r term (VoteRequest index its_last) L c may none = let q : (receives m.noop n k r i term (VoteRequest index its_last)).sent ≡ [] = none in cc
  not_silent k i r term (VoteReply asked granted) L c may none = absurd c
  not_silent k i r term (AppendReply asked ok at) L c may none = absurd c
  not_silent k i r term (InstallReply asked at) L c may none = absurd c
  not_silent k i r term (Append prev prev_term commit entries) L c may none = elim (bool_cases (nat_lt term r.term)) [
    | inl b ↦ let q = rw b at none in cc
    | inr b ↦ elim (bool_cases (is_leader r.mode)) [
      | inl l ↦ may l
      | inr l ↦ let q = rw b at none in let q2 = rw l at q in elim (bool_cases (is_held (following r i) prev prev_term)) [
        | inl h ↦ let q3 = rw h at q2 in cc
        | inr h ↦ let q3 = rw h at q2 in cc
      ]
    ]
  ]
  not_silent k i r term (Install P) L c may none = elim (bool_cases (nat_lt term r.term)) [
    | inl b ↦ let q = rw b at none in cc
    | inr b ↦ elim (bool_cases (is_leader r.mode)) [
      | inl l ↦ may l
      | inr l ↦ let q = rw b at none in let q2 = rw l at q in cc
    ]
  ]

module _ {C : Type 0} where
  pub once_self : (s : Raft C) → Once s s
  once_self s = inl (refl, refl)

  pub once_on : (s t u : Raft C) → Once s t → Once t u → Once s u
  once_on s t u (inl a) (inl b) = inl (b.0 ∙ a.0, b.1 ∙ a.1)
  once_on s t u (inl a) (inr b) = inr (sym a.1 ∙ b.0, b.1, let e = b.2 in (e.0, e.1 ∙ ap (λ (l : List (Entry C)). l ++ e.0 ∷ []) a.0))
  once_on s t u (inr a) (inl b) = inr (a.0, b.1 ∙ a.1, let e = a.2 in (e.0, b.0 ∙ e.1))
  once_on s t u (inr a) (inr b) = absurd (true≢false (sym a.1 ∙ b.0))

  -- the same log, in a mode that leads as much
  alike : (s t : Raft C) → t.log ≡ s.log → is_leader t.mode ≡ is_leader s.mode → Once s t
  alike s t log leads = inl (log, leads)

module _ {S C : Type 0} (m : MachineSpec S C) (n i : ℕ) (r : Raft C) (k : ℕ) where
  counted_once : (mode : Mode) → r.mode ≡ mode → Once r (counted m.noop n r k mode)
  counted_once Down e = once_self r
  counted_once Follower e = once_self r
  counted_once (Leader next match) e = once_self r
  counted_once (Candidate votes) e = elim (bool_cases (is_quorum n (marked (slice_set votes k true)))) [
    | inl q ↦ rw q (inr (ap is_leader e, refl, (record { term = r.term; command = m.noop }, refl)))
    | inr q ↦ rw q (inl (refl, sym (ap is_leader e)))
  ]

  advanced_once : (mode : Mode) → r.mode ≡ mode → Once r (advanced_in n i r mode)
  advanced_once Down e = once_self r
  advanced_once Follower e = once_self r
  advanced_once (Candidate votes) e = once_self r
  advanced_once (Leader next match) e = inl (refl, refl)

  ok_once : (at : ℕ) (mode : Mode) → r.mode ≡ mode → Once r (after_append_ok n i r k at mode)
  ok_once at Down e = once_self r
  ok_once at Follower e = once_self r
  ok_once at (Candidate votes) e = once_self r
  ok_once at (Leader next match) e = elim (bool_cases (nat_le at (length r.log))) [
    | inl b ↦ rw b (inl (refl, sym (ap is_leader e)))
    | inr b ↦ rw b (advanced_once r.mode refl)
  ]

  refusal_once : (at : ℕ) (mode : Mode) → r.mode ≡ mode → Once r (after_append_refusal n i r k at mode)
  refusal_once at Down e = once_self r
  refusal_once at Follower e = once_self r
  refusal_once at (Candidate votes) e = once_self r
  refusal_once at (Leader next match) e = inl (refl, sym (ap is_leader e))

  -- an answer of the server's own term
  pub reply_once : (term : ℕ) (body : Body C) → IsReply body → Once r (receives m.noop n i r k term body).server
  unfolding IsReply
  reply_once term (VoteRequest index its_last) h = absurd h
  reply_once term (VoteReply asked granting) h = elim (bool_cases ((asked == r.term) && granting)) [ inl b ↦ rw b (counted_once r.mode refl) | inr b ↦ rw b (once_self r) ]
  reply_once term (Append prev prev_term commit entries) h = absurd h
  reply_once term (AppendReply asked true at) h = elim (bool_cases (asked == r.term)) [ inl b ↦ rw b (ok_once at r.mode refl) | inr b ↦ rw b (once_self r) ]
  reply_once term (AppendReply asked false at) h = elim (bool_cases (asked == r.term)) [ inl b ↦ rw b (refusal_once at r.mode refl) | inr b ↦ rw b (once_self r) ]
  reply_once term (Install P) h = absurd h
  reply_once term (InstallReply asked at) h = elim (bool_cases (asked == r.term)) [ inl b ↦ rw b (ok_once at r.mode refl) | inr b ↦ rw b (once_self r) ]

module _ {S C : Type 0} (m : MachineSpec S C) (law : LawfulMachine m) (n : ℕ) (Q : ℕ → Bool) (i : ℕ) (less_n : i < n) (member_i : Q i ≡ true) (since : ℕ) where
  -- server i stands or leads, in the greatest term of a member
  pub record Top (B : ℕ) (x : World C) : Type 0 where
    pub inv : Inv m law n Q i less_n member_i since B (suc B) x
    pub term : inv.me.term ≡ B
    pub role : IsStanding inv.me.mode

  -- also later in a calm part
  pub top_on : (B : ℕ) (x y : World C) → Top B x → Calm m Q i since x y → Top B y
  top_on B x y t c =
      let a = calm_on_inv m law n Q i less_n member_i since B (suc B) (omega arith) x y t.inv c in
      let r = t.inv in
      let k = campaign_on m law n i B x y r.reached (a.campaign t.term t.role) in
      let l : Member m law n Q i less_n member_i since B a.inv.me.log a.inv.me = a.inv.each i a.inv.me less_n member_i a.inv.here in
      record {
        inv = a.inv;
        term = omega (arith, a.term, t.term, l.low);
        role = subst (λ (z : Raft C). IsStanding z.mode) (same_Some k.stands.server a.inv.me (sym k.stands.here ∙ a.inv.here)) k.stands.role;
      }

  -- a leader leads on
  pub stays : (B : ℕ) (x u : World C) (t : Top B x) → is_leader t.inv.me.mode ≡ true → Calm m Q i since x u → Leads u i B
  stays B x u t leads c =
      let a = calm_on_inv m law n Q i less_n member_i since B (suc B) (omega arith) x u t.inv c in
      let r = t.inv in
      let k = campaign_on m law n i B x u r.reached (a.campaign t.term t.role) in
      by k.stands (k.since (record { server = t.inv.me; here = t.inv.here; term = t.term; role = t.role })) k.stands.role
    where
      both : (mode : Mode) → KnowsNothing mode → IsStanding mode → ⊥
      both Down h role = role
      both Follower h role = role
      both (Candidate votes) h role = h
      both (Leader next match) h role = h

      by : (z : StandsIn u i B) → Since n t.inv.me z.server → IsStanding z.server.mode → Leads u i B
      by z (later less) role = absurd (omega (arith, less, t.term, z.term))
      by z (idle h) role = absurd (both z.server.mode h role)
      by z (voted a b is at on) role = absurd (let q : true ≡ false = sym leads ∙ ap is_leader is in cc)
      by z (elected a is at) role = absurd (let q : true ≡ false = sym leads ∙ ap is_leader is in cc)
      by z (led next match next2 match2 is at o) role = record { server = z.server; next = next2; match = match2; here = z.here; mode = at; term = z.term }

  pub peaceful : (B : ℕ) (x u : World C) (t : Top B x) → is_leader t.inv.me.mode ≡ true → Calm m Q i since x u → Peace m i B x u
  peaceful B x u t leads calm_here = leads_here (stays B x u t leads calm_here)
  peaceful B x u t leads (calm_on {x = v} e w c is calm h) = leads_on e u (peaceful B x v t leads c) is h (stays B x u t leads (calm_on e u c is calm h))

  -- what a delivery and the delivery of its answer come to
  pub record Swap (place : ℕ) (x : World C) : Type 0 where
    pub first : World C
    pub second : World C
    pub delivered : happens m x (Deliver place) ≡ Ok first
    pub answer : Message C
    pub to_me : answer.to ≡ i
    pub answer_at : slice_get first.sent (length x.sent) ≡ Some answer
    pub heard : happens m first (Deliver (length x.sent)) ≡ Ok second
    pub to_first : Calm m Q i since x first
    pub to_second : Calm m Q i since first second
    pub up : SameUp x second
    pub once : OnceIn i x second

  module _ (B : ℕ) (x : World C) (t : Top B x) (place k : ℕ) (body : Body C) (new : since ≤ place) (at : slice_get x.sent place ≡ Some (record { from = i; to = k; term = B; body = body }))
      (less : k < n) (q : Q k ≡ true) (other : k ≢ i) (speaks : IsVote body ⊎ Leads x i B) where
    abbrev asks : Message C
    asks = record { from = i; to = k; term = B; body = body }

    s : Raft C
    s = (get-some x.servers k (omega (arith, less, let r = t.inv in reached_size m n x r.reached))).0

    here : slice_get x.servers k ≡ Some s
    unfolding s
    here = (get-some x.servers k (omega (arith, less, let r = t.inv in reached_size m n x r.reached))).1

    member : Member m law n Q i less_n member_i since B t.inv.me.log s
    member = let r = t.inv in r.each k s less q here

    carries : Carries body t.inv.me.log
    carries = let r = t.inv in let g = r.given place asks new at member_i in elim g.says [ inl z ↦ z.1 | inr z ↦ absurd (z.0 refl) ]

    turn : RaftTurn C
    turn = receives m.noop n k (term_observed B s) i B body

    hd : Heeds k i s B body turn
    unfolding turn
    hd = let r = t.inv in let its : Limits s = reached_limits m n law x r.reached k s here in heeds m n k i s member.up its.commit B r.me.log body carries

    -- it answers
    says : (b : Body C) × (turn.sent ≡ record { from = k; to = i; term = turn.server.term; body = b } ∷ []) × IsReply b
    unfolding turn
    says = elim hd.says [
      | inr one ↦ one
      | inl none ↦ absurd (not_silent m n k i (term_observed B s) B body t.inv.me.log carries (λ l. elim speaks [
        | inl v ↦ v
        | inr leads ↦ let r = t.inv in absurd (true≢false (sym l ∙ met_mode B s member.low (λ same. alone m n x r.reached i k leads.server s leads.next leads.match leads.here leads.mode here other (same ∙ sym leads.term))))
      ]) none)
    ]

    x1 : World C
    x1 = turned m n x k turn

    h1 : happens m x (Deliver place) ≡ Ok x1
    unfolding x1 turn
    h1 = let r = t.inv in came_turn m n x place i k B body s turn (reached_size m n x r.reached) at here (step_arrives m n k s asks member.up less_n)

    calm1 : IsCalm Q i since x (Deliver place)
    calm1 z there to = (new, ap (λ (u : Message C). Q u.from) (same_Some z asks (sym there ∙ at)) ∙ member_i)

    n1 : Next m law n Q i less_n member_i since B (suc B) x x1 t.inv
    n1 = next_event m law n Q i less_n member_i since B (suc B) x t.inv (omega arith) (Deliver place) x1 tt calm1 h1

    reply : Message C
    reply = record { from = k; to = i; term = turn.server.term; body = says.0 }

    at_reply : slice_get x1.sent (length x.sent) ≡ Some reply
    unfolding x1 reply
    at_reply = ap (λ (l : List (Message C)). slice_get (x.sent ++ l) (length x.sent)) says.1 ∙ get-last x.sent reply

    turn2 : RaftTurn C
    turn2 = receives m.noop n i (term_observed reply.term n1.inv.me) k reply.term reply.body

    x2 : World C
    x2 = turned m n x1 i turn2

    me1 : Member m law n Q i less_n member_i since B n1.inv.me.log n1.inv.me
    me1 = let r = n1.inv in r.each i r.me less_n member_i r.here

    h2 : happens m x1 (Deliver (length x.sent)) ≡ Ok x2
    unfolding x2 turn2 reply
    h2 = let r = n1.inv in came_turn m n x1 (length x.sent) k i reply.term reply.body r.me turn2 (reached_size m n x1 r.reached) at_reply r.here (step_arrives m n i r.me reply me1.up less)

    calm2 : IsCalm Q i since x1 (Deliver (length x.sent))
    unfolding reply
    calm2 z there to = (omega (arith, new, get-within x.sent place asks at), ap (λ (u : Message C). Q u.from) (same_Some z reply (sym there ∙ at_reply)) ∙ q)

    n2 : Next m law n Q i less_n member_i since B (suc B) x1 x2 n1.inv
    n2 = next_event m law n Q i less_n member_i since B (suc B) x1 n1.inv (omega arith) (Deliver (length x.sent)) x2 tt calm2 h2

    -- server i is as it was, and hears an answer of its own term
    same_me : n1.inv.me ≡ t.inv.me
    unfolding x1
    same_me = let r = n1.inv in let r0 = t.inv in same_Some r.me r0.me (sym r.here ∙ (get_set-other x.servers k turn.server i (λ e. other (sym e)) ∙ r0.here))

    its_term : reply.term ≡ B
    unfolding reply
    its_term = omega (arith, hd.term_is, member.low)

    hears_once : OnceIn i x x2
    unfolding x2 turn2 reply
    hears_once a b there then =
        let r0 = t.inv in
        let was : a ≡ n1.inv.me = same_Some a r0.me (sym there ∙ r0.here) ∙ sym same_me in
        let now : turn2.server ≡ b = let r = n1.inv in same_Some turn2.server b (sym (turned_here m n x1 i turn2 r.me r.here) ∙ then) in
        let met_it : term_observed reply.term n1.inv.me ≡ n1.inv.me = met_same reply.term n1.inv.me (ap (λ (z : Raft C). z.term) same_me ∙ (t.term ∙ sym its_term)) in
        let o : Once n1.inv.me (receives m.noop n i n1.inv.me k reply.term reply.body).server = reply_once m n i n1.inv.me k reply.term reply.body says.2 in
        subst (λ z. Once z b) (sym was) (subst (λ z. Once n1.inv.me z) now (subst (λ z. Once n1.inv.me (receives m.noop n i z k reply.term reply.body).server) (sym met_it) o))

    up_first : SameUp x x1
    unfolding x1
    up_first = turned_up m n x k turn s here member.up hd.up

    up_second : SameUp x1 x2
    unfolding x2
    up_second =
        let r = n1.inv in
        let r2 = n2.inv in
        let there = turned_here m n x1 i turn2 r.me r.here in
        let me2 : Member m law n Q i less_n member_i since B r2.me.log r2.me = r2.each i r2.me less_n member_i r2.here in
        turned_up m n x1 i turn2 r.me r.here me1.up (subst (λ (z : Raft C). is_up z.mode ≡ true) (same_Some r2.me turn2.server (sym r2.here ∙ there)) me2.up)

    pub swaps : Swap place x
    unfolding reply
    swaps = record {
      first = x1;
      second = x2;
      delivered = h1;
      answer = reply;
      to_me = refl;
      answer_at = at_reply;
      heard = h2;
      to_first = calm_on (Deliver place) x1 calm_here tt calm1 h1;
      to_second = calm_on (Deliver (length x.sent)) x2 calm_here tt calm2 h2;
      up = λ z. up_second z ∙ up_first z;
      once = hears_once;
    }
