-- In a calm part of a run the one candidate leads after two goes.
use Rattle.std.proofs.Common.{◌≡◌, ◌≢◌, ℕ, suc, ◌<◌, ◌≤◌, ◌⊎◌, inl, inr, max, Bool, true, false, Some, Ok, List, [], ◌∷◌, ◌++◌, length, refl, sym, ap, ◌∙◌, subst, arith, slice_get}
use Rattle.std.proofs.lemmas.Bool.Decides.{eqb_tells, leb_tells}
use Rattle.std.proofs.lemmas.List.{length-append}
use Rattle.std.proofs.lemmas.Option.{same_Some}
use Rattle.machine_model.specs.MachineSpec.{MachineSpec, LawfulMachine}
use Rattle.raft_model.specs.Logs.{last_term}
use Rattle.raft_model.specs.Quorums.{Quorum}
use Rattle.raft_model.specs.Messages.{Message, Body, VoteRequest}
use Rattle.raft_model.specs.Rafts.{Raft, RaftTurn, Mode, Down, Follower, Candidate, Leader, is_leader, is_up_to_date, term_observed}
use Rattle.raft_model.specs.Steps.{Arrives, Timeout, receives, step}
use Rattle.raft_model.specs.Worlds.{World, Event, Run, Deliver, TimesOut, IsEvent, happens, Leads}
use Rattle.raft_model.proofs.Cases.{same_ok}
use Rattle.raft_safety.specs.Claims.{Limits}
use Rattle.raft_safety.specs.Inner.SmallSteps.{KnowsNothing}
use Rattle.raft_safety.specs.Inner.Invariants.{CandidateOk, MessageOk, RequestOk, BodyOk}
use Rattle.raft_safety.proofs.Places.{get-more, get-some, get-within}
use Rattle.raft_safety.proofs.Election.{event_moves}
use Rattle.raft_safety.proofs.QuietSteps.{as_candidate}
use Rattle.raft_safety.proofs.Stories.{story}
use Rattle.raft_progress.specs.Campaign.{IsStanding, StandsIn, Campaign, Granted}
use Rattle.raft_progress.specs.Calm.{IsCalm, Calm, calm_here, calm_on, Asked, Go, HasBestLog, NobodyAhead, StableLeader}
use Rattle.raft_progress.specs.Peace.{Peace, leads_here, leads_on, CommitsAll}
use Rattle.raft_progress.specs.Recovery.{AllUp}
use Rattle.raft_progress.proofs.Moves.{Reached, reached_next, reached_size, reached_limits, turned, turned_here, step_arrives}
use Rattle.raft_progress.proofs.Choosing.{no_older, told, pick, server_at, server_is}
use Rattle.raft_progress.proofs.Leaders.{leads_in}
use Rattle.raft_progress.proofs.Onwards.{Since, later, idle, voted, elected, led, campaign_on}
use Rattle.raft_progress.proofs.Rounds.{one_behind, leader_commits}
use Rattle.raft_progress.proofs.Campaigning.{campaign_wins}
use Rattle.raft_progress.proofs.CalmSteps.{Carries, IsReply, Free, Heeds, heeds}
use Rattle.raft_progress.proofs.CalmActs.{Acts, acts_reply, acts_timeout}
use Rattle.raft_progress.proofs.CalmRuns.{event_term, Taken, taken, delivered, Member, Inv, inv_acts, Next, next_event, Came, calm_on_inv}

module _ {S C : Type 0} (m : MachineSpec S C) (law : LawfulMachine m) (n : ℕ) (two : 2 ≤ n) (Q : ℕ → Bool) (quorum : Quorum n Q) (i : ℕ) (less_n : i < n) (member_i : Q i ≡ true) (since : ℕ) where
  abbrev pub Its : ℕ → ℕ → World C → Type 0
  Its B T x = Inv m law n Q i less_n member_i since B T x

  -- what was sent stays, and terms never fall
  pub calm_sent : (x y : World C) (p : ℕ) (z : Message C) → Calm m Q i since x y → slice_get x.sent p ≡ Some z → slice_get y.sent p ≡ Some z
  calm_sent x y p z calm_here h = h
  calm_sent x y p z (calm_on {x = v} e w c is calm g) h =
      let mv = event_moves m v y e is g in
      subst (λ s. slice_get s p ≡ Some z) (sym mv.sent) (get-more v.sent mv.out p z (calm_sent x v p z c h))

  calm_reached : (x y : World C) → Reached m n x → Calm m Q i since x y → Reached m n y
  calm_reached x y r calm_here = r
  calm_reached x y r (calm_on {x = v} e w c is calm g) = reached_next m n v e y (calm_reached x v r c) is g

  calm_term : (x y : World C) → Reached m n x → Calm m Q i since x y → (j : ℕ) (s t : Raft C) → j < n → slice_get x.servers j ≡ Some s → slice_get y.servers j ≡ Some t → s.term ≤ t.term
  calm_term x y r calm_here j s t less here there = omega (arith, ap (λ (z : Raft C). z.term) (same_Some s t (sym here ∙ there)))
  calm_term x y r (calm_on {x = v} e w c is calm g) j s t less here there =
      let rv = calm_reached x v r c in
      let mid = get-some v.servers j (omega (arith, less, reached_size m n v rv)) in
      omega (arith, calm_term x v r c j s mid.0 less here mid.1, event_term m n v y e rv is g j mid.0 t mid.1 there)

  -- a member was asked and answered
  module _ (B T : ℕ) (fits : B ≤ T) (x v : World C) (inv : Its B T x) (term k : ℕ) (less : k < n) (q : Q k ≡ true) (other : k ≢ i) (g : Asked m Q i since term k x v) where
    abbrev req : Message C
    req = record { from = i; to = k; term = term; body = VoteRequest g.index g.its_last }

    c1 : Came m law n Q i less_n member_i since B T x g.at_request inv
    c1 = calm_on_inv m law n Q i less_n member_i since B T fits x g.at_request inv g.to_request

    k1 : Taken m n g.at_request k (Arrives req) g.after_request
    k1 =
        let d = delivered m n g.at_request g.request g.after_request (reached_size m n g.at_request c1.inv.reached) g.request_delivered in
        subst (λ z. Taken m n g.at_request z.to (Arrives z) g.after_request) (same_Some d.message req (sym d.at ∙ g.request_is)) d.taken

    calm1 : IsCalm Q i since g.at_request (Deliver g.request)
    calm1 y at to = (g.request_since, ap (λ (z : Message C). Q z.from) (same_Some y req (sym at ∙ g.request_is)) ∙ member_i)

    n1 : Next m law n Q i less_n member_i since B T g.at_request g.after_request c1.inv
    n1 = next_event m law n Q i less_n member_i since B T g.at_request c1.inv fits (Deliver g.request) g.after_request tt calm1 g.request_delivered

    hd : Heeds k i k1.server term (VoteRequest g.index g.its_last) k1.turn
    unfolding Carries
    hd =
        let old = c1.inv.each k k1.server less q k1.here in
        let its : Limits k1.server = reached_limits m n law g.at_request c1.inv.reached k k1.server k1.here in
        subst (λ t. Heeds k i k1.server term (VoteRequest g.index g.its_last) t) (sym (same_ok _ _ (sym k1.step_is ∙ step_arrives m n k k1.server req old.up less_n)))
        (heeds m n k i k1.server old.up its.commit term c1.inv.me.log (VoteRequest g.index g.its_last) tt)

    -- its answer
    answer_at : (b : Body C) × (slice_get g.at_answer.sent g.answer ≡ Some (record { from = k; to = i; term = k1.turn.server.term; body = b })) × IsReply b
    answer_at =
        let sent : g.after_request.sent ≡ g.at_request.sent ++ k1.turn.sent = ap (λ (z : World C). z.sent) k1.is in
        elim hd.says [
          | inl none ↦ absurd (omega (arith, g.answer_new, g.answer_sent, ap length sent, length-append g.at_request.sent k1.turn.sent, ap length none))
          | inr one ↦
              let y : Message C = record { from = k; to = i; term = k1.turn.server.term; body = one.0 } in
              let all : g.after_request.sent ≡ g.at_request.sent ++ y ∷ [] = sent ∙ ap (λ (l : List (Message C)). g.at_request.sent ++ l) one.1 in (
                one.0,
                calm_sent g.after_request g.at_answer g.answer y g.to_answer
                    (ap (λ (l : List (Message C)). slice_get l g.answer) all ∙ one_behind g.at_request.sent y g.answer g.answer_new (omega (arith, g.answer_sent, ap length all))),
                one.2,
              )
        ]

    calm2 : IsCalm Q i since g.at_answer (Deliver g.answer)
    calm2 y at to = let a = answer_at in (omega (arith, g.answer_new, g.request_since, get-within g.at_request.sent g.request req g.request_is), ap (λ (z : Message C). Q z.from) (same_Some y _ (sym at ∙ a.1)) ∙ q)

    c2 : Came m law n Q i less_n member_i since B T g.after_request g.at_answer n1.inv
    c2 = calm_on_inv m law n Q i less_n member_i since B T fits g.after_request g.at_answer n1.inv g.to_answer

    n2 : Next m law n Q i less_n member_i since B T g.at_answer g.after_answer c2.inv
    n2 = next_event m law n Q i less_n member_i since B T g.at_answer c2.inv fits (Deliver g.answer) g.after_answer tt calm2 g.answer_delivered

    -- server i hears of its term
    hears_of : (me : Raft C) → slice_get v.servers i ≡ Some me → k1.server.term ≤ me.term
    hears_of me there =
        let a = answer_at in
        let y : Message C = record { from = k; to = i; term = k1.turn.server.term; body = a.0 } in
        let d = delivered m n g.at_answer g.answer g.after_answer (reached_size m n g.at_answer c2.inv.reached) g.answer_delivered in
        let k2 : Taken m n g.at_answer i (Arrives y) g.after_answer = subst (λ z. Taken m n g.at_answer z.to (Arrives z) g.after_answer) (same_Some d.message y (sym d.at ∙ a.1)) d.taken in
        let old = c2.inv.each i k2.server less_n member_i k2.here in
        let its : Limits k2.server = reached_limits m n law g.at_answer c2.inv.reached i k2.server k2.here in
        let z = acts_reply m n i k2.server old.up its k k1.turn.server.term a.0 a.2 in
        let is : k2.turn ≡ receives m.noop n i (term_observed k1.turn.server.term k2.server) k k1.turn.server.term a.0 = same_ok _ _ (sym k2.step_is ∙ step_arrives m n i k2.server y old.up less) in
        let now : slice_get g.after_answer.servers i ≡ Some k2.turn.server = ap (λ (w : World C). slice_get w.servers i) k2.is ∙ turned_here m n g.at_answer i k2.turn k2.server k2.here in
        let up = calm_term g.after_answer v n2.inv.reached g.to_end i k2.turn.server me less_n now there in
        omega (arith, up, z.1, hd.term_is, ap (λ (t : RaftTurn C). t.server.term) is)

  -- a request of a candidate has the end of its log
  request_end : (x : World C) → Reached m n x → (s : Raft C) (votes : List Bool) (to index its_last p : ℕ) → slice_get x.servers i ≡ Some s → s.mode ≡ Candidate votes →
      slice_get x.sent p ≡ Some (record { from = i; to = to; term = s.term; body = VoteRequest index its_last }) → (index ≡ length s.log) × (its_last ≡ last_term s.log)
  unfolding BodyOk
  request_end x r s votes to index its_last p here mode at =
      let st = story m law n r.events r.past x r.run in
      let c : CandidateOk n st.history i s.term s.log votes = as_candidate (λ L. Unit {0}) n st.history i s st.ok.ledgers (st.ok.each i s here) votes mode in
      let mo : MessageOk n st.history (record { from = i; to = to; term = s.term; body = VoteRequest index its_last }) = st.ok.given _ (p, at) in
      let rq : RequestOk n st.history i s.term index its_last = mo.body in
      let same : rq.log ≡ s.log = same_Some rq.log s.log (sym rq.stood ∙ c.stood) in
      (rq.index_is ∙ ap length same, rq.last_is ∙ ap last_term same)

  -- it stands in the greatest term
  pub record Top_in (T : ℕ) (x : World C) : Type 0 where
    pub inv : Its T T x
    pub term : inv.me.term ≡ T
    pub role : IsStanding inv.me.mode

  -- also after an event
  top_next : (T : ℕ) (y z : World C) (t : Top_in T y) (inv : Its T T y) (nx : Next m law n Q i less_n member_i since T T y z inv) (e : Event C) → IsEvent m e → happens m y e ≡ Ok z → Top_in T z
  top_next T y z t inv nx e is h =
      let mine : t.inv.me ≡ inv.me = same_Some t.inv.me inv.me (sym t.inv.here ∙ inv.here) in
      let l : Member m law n Q i less_n member_i since T nx.inv.me.log nx.inv.me = nx.inv.each i nx.inv.me less_n member_i nx.inv.here in
      let up = event_term m n y z e inv.reached is h i inv.me nx.inv.me inv.here nx.inv.here in
      let was : inv.me.term ≡ T = sym (ap (λ (s : Raft C). s.term) mine) ∙ t.term in
      let now : nx.inv.me.term ≡ T = omega (arith, was, up, l.low) in
      record { inv = nx.inv; term = now; role = nx.stands (now ∙ sym was) (subst (λ (s : Raft C). IsStanding s.mode) mine t.role) }

  -- who is a candidate in a term was one before
  was_candidate : (s t : Raft C) (votes : List Bool) → t.term ≡ s.term → t.mode ≡ Candidate votes → Since n s t → (a : List Bool) × (s.mode ≡ Candidate a)
  was_candidate s t votes term at (later less) = absurd (omega (arith, less, term))
  was_candidate s t votes term at (idle h) = absurd (subst (λ z. KnowsNothing z) at h)
  was_candidate s t votes term at (voted a b is at2 on) = (a, is)
  was_candidate s t votes term at (elected a is l) = (a, is)
  was_candidate s t votes term at (led next match next2 match2 is at2 o) = absurd (let q : Leader next2 match2 ≡ Candidate votes = sym at2 ∙ at in cc)

  pub calm_trans : (x y z : World C) → Calm m Q i since x y → Calm m Q i since y z → Calm m Q i since x z
  calm_trans x y z a calm_here = a
  calm_trans x y z a (calm_on {x = v} e w c is calm g) = calm_on e w (calm_trans x y v a c) is calm g

  module _ (T : ℕ) (x : World C) (top : Top_in T x) where
    -- later in the calm part
    pub top_calm : (y : World C) → Calm m Q i since x y → Top_in T y × Campaign m i T x y
    top_calm y c =
        let a = calm_on_inv m law n Q i less_n member_i since T T (omega arith) x y top.inv c in
        let w = a.campaign top.term top.role in
        let l : Member m law n Q i less_n member_i since T a.inv.me.log a.inv.me = a.inv.each i a.inv.me less_n member_i a.inv.here in
        let k = campaign_on m law n i T x y top.inv.reached w in
        (record { inv = a.inv; term = omega (arith, a.term, top.term, l.low); role = subst (λ (z : Raft C). IsStanding z.mode) (same_Some k.stands.server a.inv.me (sym k.stands.here ∙ a.inv.here)) k.stands.role }, w)

    since_then : (y : World C) → Calm m Q i since x y → (t : Raft C) → slice_get y.servers i ≡ Some t → Since n top.inv.me t
    since_then y c t there =
        let k = campaign_on m law n i T x y top.inv.reached ((top_calm y c).1) in
        subst (λ z. Since n top.inv.me z) (same_Some k.stands.server t (sym k.stands.here ∙ there)) (k.since (record { server = top.inv.me; here = top.inv.here; term = top.term; role = top.role }))

  -- server k grants its vote, if its log is no newer
  pub grants_from : (T : ℕ) (x v : World C) (top : Top_in T x) (k : ℕ) (less : k < n) (q : Q k ≡ true) (other : k ≢ i) (g : Asked m Q i since T k x v) →
      ((s : Raft C) → slice_get g.at_request.servers k ≡ Some s → is_up_to_date s.log g.index g.its_last ≡ true) → Granted m i T k x v
  grants_from T x v top k less q other g no_newer =
      let fits : T ≤ T = omega arith in
      let a1 = top_calm T x top g.at_request g.to_request in
      let t1 = a1.0 in
      let nx1 = n1 T T fits x v top.inv T k less q other g in
      let c1i = c1 T T fits x v top.inv T k less q other g in
      let t2 = top_next T g.at_request g.after_request t1 c1i.inv nx1 (Deliver g.request) tt g.request_delivered in
      let a3 = top_calm T g.after_request t2 g.at_answer g.to_answer in
      let c2i = c2 T T fits x v top.inv T k less q other g in
      let nx2 = n2 T T fits x v top.inv T k less q other g in
      let t4 = top_next T g.at_answer g.after_answer a3.0 c2i.inv nx2 (Deliver g.answer) tt g.answer_delivered in
      let a5 = top_calm T g.after_answer t4 v g.to_end in
      let voter = k1 T T fits x v top.inv T k less q other g in
      record {
        at_request = g.at_request;
        after_request = g.after_request;
        at_answer = g.at_answer;
        after_answer = g.after_answer;
        to_request = a1.1;
        request = g.request;
        index = g.index;
        its_last = g.its_last;
        request_is = g.request_is;
        voter = voter.server;
        voter_here = voter.here;
        free = t1.inv.free k voter.server less q other voter.here;
        no_newer = no_newer voter.server voter.here;
        request_delivered = g.request_delivered;
        to_answer = a3.1;
        answer = g.answer;
        answer_new = g.answer_new;
        answer_sent = g.answer_sent;
        answer_delivered = g.answer_delivered;
        to_end = a5.1;
      }

  -- as to who is a candidate to the end
  grants_it : (T : ℕ) (x v : World C) (top : Top_in T x) (me : Raft C) (votes : List Bool) → slice_get v.servers i ≡ Some me → me.term ≡ T → me.mode ≡ Candidate votes →
      (k : ℕ) → k < n → Q k ≡ true → k ≢ i → Asked m Q i since T k x v → Granted m i T k x v
  grants_it T x v top me votes there term mode k less q other g = grants_from T x v top k less q other g (λ s here.
      let a1 = top_calm T x top g.at_request g.to_request in
      let t1 = a1.0 in
      let rest : Calm m Q i since g.at_request v = calm_trans g.at_request g.after_answer v
      (calm_on (Deliver g.answer) g.after_answer (calm_trans g.at_request g.after_request g.at_answer (calm_on (Deliver g.request) g.after_request calm_here tt (calm1 T T (omega arith) x v top.inv T k less q other g) g.request_delivered) g.to_answer)
      tt (calm2 T T (omega arith) x v top.inv T k less q other g) g.answer_delivered) g.to_end in
      let was = was_candidate t1.inv.me me votes (term ∙ sym t1.term) mode (since_then T g.at_request t1 v rest me there) in
      let ends = request_end g.at_request t1.inv.reached t1.inv.me was.0 k g.index g.its_last g.request t1.inv.here was.1
      (subst (λ u. slice_get g.at_request.sent g.request ≡ Some (record { from = i; to = k; term = u; body = VoteRequest g.index g.its_last })) (sym t1.term) g.request_is) in
      let l = t1.inv.each k s less q here in
      subst (λ u. is_up_to_date s.log u g.its_last ≡ true) (sym ends.0) (subst (λ u. is_up_to_date s.log (length t1.inv.me.log) u ≡ true) (sym ends.1) (no_older s.log t1.inv.me.log l.ends)))

  -- so it leads in the end
  top_leads : (T : ℕ) (x v : World C) → Top_in T x → Calm m Q i since x v → ((k : ℕ) → k < n → Q k ≡ true → k ≢ i → Asked m Q i since T k x v) → Leads v i T
  top_leads T x v top c asked =
      let a = top_calm T x top v c in
      let t = a.0 in
      let r = top.inv.reached in
      by t t.inv.me.mode refl a.1
    where
      by : (t : Top_in T v) (mode : Mode) → t.inv.me.mode ≡ mode → Campaign m i T x v → Leads v i T
      by t Down e w = absurd (subst (λ z. IsStanding z) e t.role)
      by t Follower e w = absurd (subst (λ z. IsStanding z) e t.role)
      by t (Leader next match) e w = record { server = t.inv.me; next = next; match = match; here = t.inv.here; mode = e; term = t.term }
      by t (Candidate votes) e w =
          let r = top.inv.reached in
          campaign_wins m law n r.events r.past x r.run two Q quorum i T less_n v w (λ k less q other. grants_it T x v top t.inv.me votes t.inv.here t.term e k less q other (asked k less q other))

  -- a leader of the greatest term leads on
  leader_stays : (B T : ℕ) → B ≤ T → (x u : World C) (inv : Its B T x) → inv.me.term ≡ B → is_leader inv.me.mode ≡ true → Calm m Q i since x u → Leads u i B
  leader_stays B T fits x u inv term leads c =
      let a = calm_on_inv m law n Q i less_n member_i since B T fits x u inv c in
      let l = leads_in inv.me.mode leads in
      let role : IsStanding inv.me.mode = subst (λ z. IsStanding z) (sym l.2) tt in
      let k = campaign_on m law n i B x u inv.reached (a.campaign term role) in
      by k.stands (k.since (record { server = inv.me; here = inv.here; term = term; role = role })) k.stands.role
    where
      by : (t : StandsIn u i B) → Since n inv.me t.server → IsStanding t.server.mode → Leads u i B
      by t (later less) role = absurd (omega (arith, less, term, t.term))
      by t (idle h) role = absurd (both t.server.mode h role)
        where
          both : (mode : Mode) → KnowsNothing mode → IsStanding mode → ⊥
          both Down h role = role
          both Follower h role = role
          both (Candidate votes) h role = h
          both (Leader next match) h role = h
      by t (voted a b is at on) role = absurd (let q : true ≡ false = sym leads ∙ ap is_leader is in cc)
      by t (elected a is at) role = absurd (let q : true ≡ false = sym leads ∙ ap is_leader is in cc)
      by t (led next match next2 match2 is at o) role = record { server = t.server; next = next2; match = match2; here = t.here; mode = at; term = t.term }

  -- it leads, and nobody is ahead of it
  record Leader_in (T : ℕ) (u : World C) : Type 0 where
    bound : ℕ
    fits : T ≤ bound
    inv : Its T bound u
    leads : Leads u i T

  leader_peace : (T : ℕ) (u : World C) → Leader_in T u → (z : World C) → Calm m Q i since u z → Peace m i T u z
  leader_peace T u l z c =
      let its : l.inv.me ≡ l.leads.server = same_Some l.inv.me l.leads.server (sym l.inv.here ∙ l.leads.here) in
      by (ap (λ (s : Raft C). s.term) its ∙ l.leads.term) (ap (λ (s : Raft C). is_leader s.mode) its ∙ ap is_leader l.leads.mode) z c
    where
      by : l.inv.me.term ≡ T → is_leader l.inv.me.mode ≡ true → (z : World C) → Calm m Q i since u z → Peace m i T u z
      by term leads z calm_here = leads_here (leader_stays T l.bound l.fits u u l.inv term leads calm_here)
      by term leads z (calm_on {x = v} e w c is calm h) = leads_on e z (by term leads v c) is h (leader_stays T l.bound l.fits u z l.inv term leads (calm_on e z c is calm h))

  -- nobody is ahead of server i
  record Level (B : ℕ) (v : World C) : Type 0 where
    inv : Its B (suc B) v
    top : B ≤ inv.me.term

  -- its turn at a timeout
  pub record Timed (B : ℕ) (x y : World C) (v : Its B (suc B) x) : Type 0 where
    pub turn : RaftTurn C
    pub acts : Acts i v.me turn
    pub rises : v.me.term ≤ turn.server.term
    pub few : turn.server.term ≤ suc v.me.term
    pub cases : ((turn.server ≡ v.me) × (is_leader v.me.mode ≡ true)) ⊎ ((turn.server.term ≡ suc v.me.term) × IsStanding turn.server.mode)
    pub is : y ≡ turned m n x i turn
    pub here : slice_get y.servers i ≡ Some turn.server
    pub reached : Reached m n y

  pub times : (B : ℕ) (x y : World C) (v : Its B (suc B) x) → happens m x (TimesOut i) ≡ Ok y → Timed B x y v
  times B x y v h =
      let k = taken m n x i Timeout y (reached_size m n x v.reached) h in
      let mine : k.server ≡ v.me = same_Some k.server v.me (sym k.here ∙ v.here) in
      let l : Member m law n Q i less_n member_i since B v.me.log v.me = v.each i v.me less_n member_i v.here in
      let t = acts_timeout m n i v.me l.up (reached_limits m n law x v.reached i v.me v.here) k.turn (subst (λ z. step m n i z Timeout ≡ Ok k.turn) mine k.step_is) in
      record {
        turn = k.turn;
        acts = t.0;
        rises = t.1;
        few = t.2;
        cases = t.3;
        is = k.is;
        here = ap (λ (w : World C). slice_get w.servers i) k.is ∙ turned_here m n x i k.turn k.server k.here;
        reached = reached_next m n x (TimesOut i) y v.reached tt h;
      }

  -- the invariant behind it
  pub timed_inv : (B : ℕ) (x y : World C) (v : Its B (suc B) x) (t : Timed B x y v) (B2 T2 : ℕ) → B ≤ B2 → t.turn.server.term ≤ B2 → ((s : Raft C) → s.term ≤ B → Free i (suc B) s → Free i T2 s) → Its B2 T2 y
  timed_inv B x y v t B2 T2 le top freeing = subst (λ w. Its B2 T2 w) (sym t.is)
      (inv_acts m law n Q i less_n member_i since B (suc B) B2 T2 x v t.turn t.acts le top freeing (subst (λ w. Reached m n w) t.is t.reached))

  -- from there it leads after one go
  last_go : (B : ℕ) (v u : World C) → Level B v → Go m n Q i since v u → (T : ℕ) × Leader_in T u
  last_go B v u level g =
      let a = calm_on_inv m law n Q i less_n member_i since B (suc B) (omega arith) v g.at_timeout level.inv g.to_timeout in
      let x = a.inv in
      let t = times B g.at_timeout g.after_timeout x g.timeout in
      let l : Member m law n Q i less_n member_i since B x.me.log x.me = x.each i x.me less_n member_i x.here in
      let now : x.me.term ≡ B = omega (arith, level.top, a.term, l.low) in
      let its_term : g.candidate.term ≡ t.turn.server.term = ap (λ (z : Raft C). z.term) (same_Some g.candidate t.turn.server (sym g.here ∙ t.here)) in
      elim t.cases [
        | inl leads ↦
            let same : t.turn.server.term ≡ B = ap (λ (z : Raft C). z.term) leads.0 ∙ now in
            let inv = timed_inv B g.at_timeout g.after_timeout x t B (suc B) (omega arith) (omega (arith, same)) (λ s low f. f) in
            let me : inv.me ≡ t.turn.server = same_Some inv.me t.turn.server (sym inv.here ∙ t.here) in
            let after = calm_on_inv m law n Q i less_n member_i since B (suc B) (omega arith) g.after_timeout u inv g.to_end in (
              B,
              record {
                bound = suc B;
                fits = omega arith;
                inv = after.inv;
                leads = leader_stays B (suc B) (omega arith) g.after_timeout u inv (ap (λ (z : Raft C). z.term) me ∙ same) (ap (λ (z : Raft C). is_leader z.mode) me ∙ (ap (λ (z : Raft C). is_leader z.mode) leads.0 ∙ leads.1)) g.to_end;
              },
            )
        | inr stood ↦
            let T = t.turn.server.term in
            let inv = timed_inv B g.at_timeout g.after_timeout x t t.turn.server.term t.turn.server.term (omega (arith, t.rises, now)) (omega arith) (λ s low f. inl (omega (arith, low, stood.0, now))) in
            let me : inv.me ≡ t.turn.server = same_Some inv.me t.turn.server (sym inv.here ∙ t.here) in
            let top : Top_in t.turn.server.term g.after_timeout = record { inv = inv; term = ap (λ (z : Raft C). z.term) me; role = subst (λ (z : Raft C). IsStanding z.mode) (sym me) stood.1 } in
            let after = top_calm t.turn.server.term g.after_timeout top u g.to_end in (
              t.turn.server.term,
              record {
                bound = t.turn.server.term;
                fits = omega arith;
                inv = let a = after.0 in a.inv;
                leads = top_leads t.turn.server.term g.after_timeout u top g.to_end (λ j less q other. subst (λ z. Asked m Q i since z j g.after_timeout u) its_term (g.asked j less q other));
              },
            )
      ]

  -- after a first go nobody is ahead of it
  first_go : (B : ℕ) (w v : World C) → Its B (suc B) w → (k : ℕ) → k < n → Q k ≡ true → (s : Raft C) → slice_get w.servers k ≡ Some s → B ≤ s.term → Go m n Q i since w v → (B2 : ℕ) × Level B2 v
  first_go B w v inv k less q s here high g =
      let a = calm_on_inv m law n Q i less_n member_i since B (suc B) (omega arith) w g.at_timeout inv g.to_timeout in
      let x = a.inv in
      let t = times B g.at_timeout g.after_timeout x g.timeout in
      let B2 = max B t.turn.server.term in
      let y = timed_inv B g.at_timeout g.after_timeout x t (max B t.turn.server.term) (suc (max B t.turn.server.term)) (omega arith) (omega arith) (λ s low f. inl (omega (arith, low))) in
      let z = calm_on_inv m law n Q i less_n member_i since (max B t.turn.server.term) (suc (max B t.turn.server.term)) (omega arith) g.after_timeout v y g.to_end in
      let own : t.turn.server.term ≤ z.inv.me.term = omega (arith, z.term, ap (λ (r : Raft C). r.term) (same_Some y.me t.turn.server (sym y.here ∙ t.here))) in
      let heard : B ≤ z.inv.me.term = elim (eqb_tells k i) [
        | inl e ↦
            let its : inv.me ≡ s = same_Some inv.me s (sym inv.here ∙ (ap (slice_get w.servers) (sym e.1) ∙ here)) in
            omega (arith, high, ap (λ (r : Raft C). r.term) its, a.term, t.rises, own)
        | inr e ↦
            let h = g.asked k less q e.1 in
            let fits : (max B t.turn.server.term) ≤ suc (max B t.turn.server.term) = omega arith in
            let voter = k1 (max B t.turn.server.term) (suc (max B t.turn.server.term)) fits g.after_timeout v y g.candidate.term k less q e.1 h in
            let m1 = get-some g.at_timeout.servers k (omega (arith, less, reached_size m n g.at_timeout x.reached)) in
            let m2 = get-some g.after_timeout.servers k (omega (arith, less, reached_size m n g.after_timeout t.reached)) in
            omega (
              arith,
              high,
              calm_term w g.at_timeout inv.reached g.to_timeout k s m1.0 less here m1.1,
              event_term m n g.at_timeout g.after_timeout (TimesOut i) x.reached tt g.timeout k m1.0 m2.0 m1.1 m2.1,
              calm_term g.after_timeout h.at_request t.reached h.to_request k m2.0 voter.server less m2.1 voter.here,
              hears_of (max B t.turn.server.term) (suc (max B t.turn.server.term)) fits g.after_timeout v y g.candidate.term k less q e.1 h z.inv.me z.inv.here,
            )
      ] in
      (max B t.turn.server.term, record { inv = z.inv; top = omega (arith, own, heard) })

module _ {S C : Type 0} (m : MachineSpec S C) (law : LawfulMachine m) (n : ℕ) (events : List (Event C)) (past : List (World C)) (w : World C) (run : Run m n events past w) (two : 2 ≤ n) (Q : ℕ → Bool) (quorum : Quorum n Q) (up : AllUp n Q w)
    (i : ℕ) (less_n : i < n) (member_i : Q i ≡ true) (best : HasBestLog n Q i w) where
  from : Reached m n w
  from = record { events = events; past = past; run = run }

  abbrev since : ℕ
  since = length w.sent

  size : length w.servers ≡ n
  size = reached_size m n w from

  -- at first
  pub begins : (B : ℕ) → ((j : ℕ) (s : Raft C) → j < n → Q j ≡ true → slice_get w.servers j ≡ Some s → s.term ≤ B) → Inv m law n Q i less_n member_i (length w.sent) B (suc B) w
  begins B low =
      let me = get-some w.servers i (omega (arith, less_n, size)) in
      record {
        reached = from;
        me = me.0;
        here = me.1;
        each = λ j s less q there. record { up = up j s less q there; low = low j s less q there; ends = told s.log me.0.log (best j s me.0 less q there me.1) };
        free = λ j s less q other there. inl (omega (arith, low j s less q there));
        given = λ p y after there q. absurd (omega (arith, after, get-within w.sent p y there));
      }

  -- what it comes to
  commits : (T : ℕ) (v : World C) → Reached m n v → Leads v i T → CommitsAll m n Q i T v
  commits T v r l = record { leads = l; commits = λ rounds u rs many. leader_commits m law n r.events r.past v r.run two Q quorum i T less_n l rounds u rs many }

  -- a member in the greatest term
  pub record Highest : Type 0 where
    pub who : ℕ
    pub below : who < n
    pub member : Q who ≡ true
    pub server : Raft C
    pub at : slice_get w.servers who ≡ Some server
    pub low : (j : ℕ) (s : Raft C) → j < n → Q j ≡ true → slice_get w.servers j ≡ Some s → s.term ≤ server.term

  pub highest : Highest
  highest = elim (pick Q (λ a b. (server_at w a).term ≤ (server_at w b).term) (λ j. omega arith) (λ a b c x y. omega (arith, x, y)) (λ a b. terms_total (server_at w a).term (server_at w b).term) n) [
    | inl none ↦ absurd (none i less_n member_i)
    | inr top ↦
        let at : (j : ℕ) → j < n → slice_get w.servers j ≡ Some (server_at w j) = λ j less. server_is w j (omega (arith, less, size)) in
        record {
          who = top.top;
          below = top.below;
          member = top.member;
          server = server_at w top.top;
          at = at top.top top.below;
          low = λ j s less q there. omega (arith, top.all j less q, ap (λ (z : Raft C). z.term) (same_Some s (server_at w j) (sym there ∙ at j less)));
        }
  ]
    where
      terms_total : (a b : ℕ) → (a ≤ b) ⊎ (b ≤ a)
      terms_total a b = elim (leb_tells a b) [ inl e ↦ inl e.1 | inr e ↦ inr (omega (arith, e.1)) ]

  -- it is stable there
  stable : (T : ℕ) (v : World C) → Leader_in m law n two Q quorum i less_n member_i (length w.sent) T v → StableLeader m n Q i (length w.sent) v
  stable T v l = record {
    term = T;
    commits = let a = l.inv in commits T v a.reached l.leads;
    peace = leader_peace m law n two Q quorum i less_n member_i (length w.sent) T v l;
  }

  -- where nobody is ahead of it
  pub one_go : NobodyAhead n Q i w → (v : World C) → Go m n Q i (length w.sent) w v → StableLeader m n Q i (length w.sent) v
  one_go level v g =
      let me = get-some w.servers i (omega (arith, less_n, size)) in
      let inv = begins me.0.term (λ j s less q there. level j s me.0 less q there me.1) in
      let l = last_go m law n two Q quorum i less_n member_i (length w.sent) me.0.term w v (record { inv = inv; top = omega (arith, ap (λ (z : Raft C). z.term) (same_Some me.0 inv.me (sym me.1 ∙ inv.here))) }) g in
      stable l.0 v l.1

  -- from anywhere
  pub two_goes : (v : World C) → Go m n Q i (length w.sent) w v → (u : World C) → Go m n Q i (length w.sent) v u → StableLeader m n Q i (length w.sent) u
  two_goes v g u h =
      let z = highest in
      let first = first_go m law n two Q quorum i less_n member_i (length w.sent) z.server.term w v (begins z.server.term z.low) z.who z.below z.member z.server z.at (omega arith) g in
      let l = last_go m law n two Q quorum i less_n member_i (length w.sent) first.0 v u first.1 h in
      stable l.0 u l.1
