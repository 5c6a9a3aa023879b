-- A leader asks a server that is not ahead of it, and the server answers.
use Rattle.std.proofs.Common.{◌≡◌, ◌≢◌, ℕ, suc, ◌<◌, ◌≤◌, inl, inr, Bool, true, false, Some, Ok, List, [], ◌∷◌, ◌++◌, length, refl, sym, ap, ◌∙◌, arith, slice_get}
use Rattle.machine_model.specs.MachineSpec.{MachineSpec, LawfulMachine}
use Rattle.machine_model.specs.declared.entry.Entry.{Entry}
use Rattle.raft_model.specs.Quorums.{index_at}
use Rattle.raft_model.specs.Messages.{Message, Body, AppendReply, to_others}
use Rattle.raft_model.specs.Rafts.{Raft, RaftTurn, is_up, silent, beat_body, beat_message}
use Rattle.raft_model.specs.Steps.{Arrives, Beat, step}
use Rattle.raft_model.specs.Worlds.{World, Deliver, Beats, Leads, happens}
use Rattle.raft_safety.specs.Claims.{Limits}
use Rattle.raft_safety.proofs.Places.{get-last, get-within}
use Rattle.raft_progress.specs.Recovery.{Recovery, a_delivery, a_beat}
use Rattle.raft_progress.specs.Peace.{leads_here, Answered}
use Rattle.raft_progress.proofs.Moves.{get-behind, sent_grows, recovery_sent, get_set-other, to_others_has, Reached, reached_next, reached_size, reached_limits, own_turn, came_turn, turned, turned_here, Members, members_turn}
use Rattle.raft_progress.proofs.Answering.{answer, answers, Heard, hears_accept, hears_refuse, beats_now}
use Rattle.raft_progress.proofs.Leaders.{leader_facts, leader_next, leader_match, alone}

module _ {S C : Type 0} (m : MachineSpec S C) (law : LawfulMachine m) (n : ℕ) (Q : ℕ → Bool) (i : ℕ) (less_n : i < n) (T : ℕ) (w0 : World C) where
  -- up, and not ahead
  abbrev pub Peer : ℕ → Raft C → Type 0
  Peer j s = (is_up s.mode ≡ true) × (s.term ≤ T)

  -- a recovery has come so far: server i leads its term with this log and snapshot
  pub record Leading (log : List (Entry C)) (covered t b : ℕ) (w : World C) : Type 0 where
    pub reached : Reached m n w
    pub recovery : Recovery m i w0 t b w
    pub leads : Leads w i T
    pub has : leads.server.log ≡ log
    pub base : leads.server.covered ≡ covered
    pub others : Members n Q i Peer w

  -- one exchange with server k
  pub record Exchanged (log : List (Entry C)) (covered t b k : ℕ) (w : World C) : Type 0 where
    pub world : World C
    pub state : Leading log covered t (suc b) world
    pub answered : Answered m i T k w world
    -- nobody else's turn, and server k as its answer left it
    pub rest : (j : ℕ) → j ≢ i → j ≢ k → slice_get world.servers j ≡ slice_get w.servers j
    pub left : slice_get world.servers k ≡ slice_get answered.after_request.servers k

  module _ (log : List (Entry C)) (covered t b k : ℕ) (w : World C) (st : Leading log covered t b w) (less : k < n) (q : Q k ≡ true) (other : k ≢ i) where
    abbrev me : Raft C
    me = st.leads.server

    abbrev μ : ℕ
    μ = index_at st.leads.match k

    abbrev ν : ℕ
    ν = index_at st.leads.next k

    abbrev out : List (Message C)
    out = to_others i (beat_message i st.leads.server st.leads.next) n

    peer : Raft C
    peer = (st.others k less q other).0

    peer_here : slice_get w.servers k ≡ Some peer
    unfolding peer
    peer_here = (st.others k less q other).1

    peer_up : is_up peer.mode ≡ true
    unfolding peer
    peer_up = (st.others k less q other).2.0

    peer_low : peer.term ≤ T
    unfolding peer
    peer_low = (st.others k less q other).2.1

    -- its answer, and what the leader makes of it
    record Reply : Type 0 where
      turn : RaftTurn C
      is : step m n k peer (Arrives (record { from = i; to = k; term = me.term; body = beat_body me ν })) ≡ Ok turn
      body : Body C
      says : turn.sent ≡ answer i me.term k body ∷ []
      up : is_up turn.server.mode ≡ true
      term : turn.server.term ≡ me.term
      new : Raft C
      hear : step m n i me (Arrives (answer i me.term k body)) ≡ Ok (silent new)
      next : List ℕ
      match : List ℕ
      heard : Heard me new next match

    reply_of : Reply
    reply_of =
        let l = st.leads in
        let limits : Limits l.server = reached_limits m n law w st.reached i l.server l.here in
        let f = leader_facts m n w st.reached i l.server l.next l.match l.here l.mode in
        let g = f.lists in
        let a = answers m n i k l.server peer (index_at l.match k) (index_at l.next k) (record {
          less_n = less_n;
          within = omega (arith, limits.covered, limits.commit);
          up = peer_up;
          low = omega (arith, peer_low, l.term);
          lone = λ same. alone m n w st.reached i k l.server peer l.next l.match l.here l.mode peer_here other same;
          gap = g.gap k less;
          fits = leader_next m law n w st.reached i l.server l.next l.match l.here l.mode k less other;
          held = leader_match m law n w st.reached i l.server l.next l.match l.here l.mode k peer less other peer_here (omega (arith, peer_low, l.term));
        }) in
        elim (a.2) [
          | inl c ↦
              let h = hears_accept m n i l.server l.next l.match l.mode k less c.body c.at c.ack c.within in
              record { turn = a.0; is = a.1; body = c.body; says = c.says; up = c.up; term = c.term; new = h.0; hear = h.1; next = _; match = _; heard = h.2 }
          | inr c ↦
              let h = hears_refuse m n i l.server l.next l.match l.mode k less c.at in
              record { turn = a.0; is = a.1; body = AppendReply l.server.term false c.at; says = c.says; up = c.up; term = c.term; new = h.0; hear = h.1; next = _; match = _; heard = h.2 }
        ]

    -- the beat
    w1 : World C
    w1 = turned m n w i (record { server = me; sent = out })

    h1 : happens m w (Beats i) ≡ Ok w1
    unfolding w1
    h1 = own_turn m n w i Beat me (record { server = me; sent = out }) (reached_size m n w st.reached) st.leads.here (beats_now m n i me st.leads.next st.leads.match st.leads.mode k less)

    r1 : Reached m n w1
    r1 = reached_next m n w (Beats i) w1 st.reached tt h1

    there : slice_get w1.servers k ≡ Some peer
    unfolding w1
    there = get_set-other w.servers i me k other ∙ peer_here

    me1 : slice_get w1.servers i ≡ Some me
    unfolding w1
    me1 = turned_here m n w i (record { server = me; sent = [] }) me st.leads.here

    -- the message to server k
    asked : (p : ℕ) × (slice_get w1.sent p ≡ Some (record { from = i; to = k; term = me.term; body = beat_body me ν })) × (length w.sent ≤ p)
    unfolding w1
    asked =
        let a = to_others_has i (beat_message i me st.leads.next) n k less other in
        get-behind w.sent out a.0 (beat_message i me st.leads.next k) a.1

    w2 : World C
    w2 = turned m n w1 k reply_of.turn

    h2 : happens m w1 (Deliver asked.0) ≡ Ok w2
    unfolding w2
    h2 = came_turn m n w1 asked.0 i k me.term (beat_body me ν) peer reply_of.turn (reached_size m n w1 r1) asked.1 there reply_of.is

    r2 : Reached m n w2
    r2 = reached_next m n w1 (Deliver asked.0) w2 r1 tt h2

    me2 : slice_get w2.servers i ≡ Some me
    unfolding w2
    me2 = get_set-other w1.servers k reply_of.turn.server i (λ e. other (sym e)) ∙ me1

    place : slice_get w2.sent (length w1.sent) ≡ Some (answer i me.term k reply_of.body)
    unfolding w2
    place = ap (λ (l : List (Message C)). slice_get (w1.sent ++ l) (length w1.sent)) reply_of.says ∙ get-last w1.sent (answer i me.term k reply_of.body)

    w3 : World C
    w3 = turned m n w2 i (silent reply_of.new)

    h3 : happens m w2 (Deliver (length w1.sent)) ≡ Ok w3
    unfolding w3
    h3 = came_turn m n w2 (length w1.sent) k i me.term reply_of.body me (silent reply_of.new) (reached_size m n w2 r2) place me2 reply_of.hear

    others3 : Members n Q i Peer w3
    unfolding w1 w2 w3
    others3 =
        let same = λ (j : ℕ) (s : Raft C) (apart : j ≢ i) (p : Peer j s). p in
        let x1 = members_turn n Q i Peer Peer w i (record { server = me; sent = out }) me st.leads.here (λ j s apart p. p) (λ e. absurd (e refl)) st.others in
        let x2 = members_turn n Q i Peer Peer w1 k reply_of.turn peer there (λ j s apart p. p) (λ e. (reply_of.up, omega (arith, reply_of.term, st.leads.term))) x1 in
        members_turn n Q i Peer Peer w2 i (silent reply_of.new) me me2 (λ j s apart p. p) (λ e. absurd (e refl)) x2

    -- it leads on
    leads1 : Leads w1 i T
    leads1 = record { server = me; next = st.leads.next; match = st.leads.match; here = me1; mode = st.leads.mode; term = st.leads.term }

    leads2 : Leads w2 i T
    leads2 = record { server = me; next = st.leads.next; match = st.leads.match; here = me2; mode = st.leads.mode; term = st.leads.term }

    here3 : slice_get w3.servers i ≡ Some reply_of.new
    unfolding w3
    here3 = turned_here m n w2 i (silent reply_of.new) me me2

    abbrev leads3 : Leads w3 i T
    leads3 = record { server = reply_of.new; next = reply_of.next; match = reply_of.match; here = here3; mode = reply_of.heard.mode; term = reply_of.heard.term ∙ st.leads.term }

    pub exchanges : Exchanged log covered t b k w
    unfolding w1 w2 w3
    exchanges = record {
      world = w3;
      state = record {
        reached = reached_next m n w2 (Deliver (length w1.sent)) w3 r2 tt h3;
        recovery =
            let since : length w0.sent ≤ length w.sent = recovery_sent m i w0 t b w st.recovery in
            let more1 : length w.sent ≤ length w1.sent = sent_grows m w (Beats i) w1 tt h1 in
            a_delivery (length w1.sent) w3 (a_delivery asked.0 w2 (a_beat w1 st.recovery h1) (omega (arith, since, asked.2)) h2) (omega (arith, since, more1)) h3;
        leads = leads3;
        has = reply_of.heard.log ∙ st.has;
        base = reply_of.heard.covered ∙ st.base;
        others = others3;
      };
      answered = record {
        at_beat = w;
        after_beat = w1;
        at_request = w1;
        after_request = w2;
        at_answer = w2;
        after_answer = w3;
        to_beat = leads_here st.leads;
        leader = st.leads;
        beat = h1;
        to_request = leads_here leads1;
        request = asked.0;
        request_is = asked.1;
        request_delivered = h2;
        to_answer = leads_here leads2;
        answer = length w1.sent;
        answer_new = omega arith;
        answer_sent = get-within w2.sent (length w1.sent) _ place;
        answer_delivered = h3;
        to_end = leads_here leads3;
      };
      rest = λ j apart away. get_set-other w2.servers i reply_of.new j apart ∙ (get_set-other w1.servers k reply_of.turn.server j away ∙ get_set-other w.servers i me j apart);
      left = get_set-other w2.servers i reply_of.new k other;
    }
