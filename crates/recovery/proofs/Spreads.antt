-- A round of server i: it stands or beats, and each message that it sent to a member is delivered,
-- and its answer.
use Rattle.std.proofs.Common.{◌≡◌, ◌≢◌, ℕ, suc, ◌<◌, ◌≤◌, ◌⊎◌, inl, inr, Bool, true, false, Some, Ok, List, ◌++◌, length, refl, sym, ap, ◌∙◌, subst, arith, slice_get, true≢false}
use Rattle.std.proofs.lemmas.Bool.Decides.{leb_tells}
use Rattle.std.proofs.lemmas.Option.{same_Some}
use Rattle.machine_model.specs.MachineSpec.{MachineSpec, LawfulMachine}
use Rattle.raft_model.specs.Logs.{last_term}
use Rattle.raft_model.specs.Quorums.{index_at}
use Rattle.raft_model.specs.Messages.{Message, Body, VoteRequest, to_others}
use Rattle.raft_model.specs.Rafts.{Raft, RaftTurn, Leader, is_up, is_leader, election_started, vote_request_to, beat_body, beat_message}
use Rattle.raft_model.specs.Steps.{Timeout, Beat}
use Rattle.raft_model.specs.Worlds.{World, Event, Deliver, TimesOut, Beats, Leads, happens}
use Rattle.raft_model.proofs.Cases.{same_ok}
use Rattle.raft_safety.proofs.Places.{get-some, get-within, get-split, to_others_is}
use Rattle.raft_safety.proofs.Quorums.{quorum_more}
use Rattle.raft_safety.proofs.Commits.{turn_commit}
use Rattle.raft_progress.specs.Recovery.{AllUp}
use Rattle.raft_progress.specs.Campaign.{IsStanding}
use Rattle.raft_progress.specs.Peace.{Peace, leads_here, Answered}
use Rattle.raft_progress.specs.Calm.{Calm, calm_here, calm_on}
use Rattle.raft_progress.proofs.Moves.{get-behind, to_others_has, Reached, reached_size, own_turn, turned, turned_here}
use Rattle.raft_progress.proofs.Asking.{stands_now}
use Rattle.raft_progress.proofs.Answering.{beats_now}
use Rattle.raft_progress.proofs.Changes.{event_before}
use Rattle.raft_progress.proofs.Choosing.{NoOlder, no_older}
use Rattle.raft_progress.proofs.Leaders.{leads_in}
use Rattle.raft_progress.proofs.CalmRuns.{Inv, Member}
use Rattle.raft_progress.proofs.Goes.{calm_sent, times, timed_inv, begins, one_go}
use Rattle.recovery.specs.Runs.{up_there, is_up_in}
use Rattle.recovery.specs.Inner.Spreads.{SameUp, Once, Swapped, Going, Ready, Rounded, Spread, HasBeatOrTimedOut, it_beats, it_stands, CanBeatOrTimeOut}
use Rattle.recovery.proofs.Swaps.{IsVote, turned_up, once_self, once_on, Top, top_on, stays, peaceful, Swap, swaps}

-- who is up where is_up_in says so
pub up_is : {C : Type 0} (w : World C) (j : ℕ) (s : Raft C) → slice_get w.servers j ≡ Some s → is_up_in w j ≡ true → is_up s.mode ≡ true
up_is w j s there q = sym (ap (λ z. up_there z) there) ∙ q

pub is_up_at : {C : Type 0} (w : World C) (j : ℕ) (s : Raft C) → slice_get w.servers j ≡ Some s → is_up s.mode ≡ true → is_up_in w j ≡ true
is_up_at w j s there q = ap (λ z. up_there z) there ∙ q

-- one calm part after another
pub calm_more : {S C : Type 0} (m : MachineSpec S C) (Q : ℕ → Bool) (i since : ℕ) (x y z : World C) → Calm m Q i since x y → Calm m Q i since y z → Calm m Q i since x z
calm_more m Q i since x y z a calm_here = a
calm_more m Q i since x y z a (calm_on {x = v} e w c is calm h) = calm_on e w (calm_more m Q i since x y v a c) is calm h

module _ {S C : Type 0} (m : MachineSpec S C) (law : LawfulMachine m) (n : ℕ) (two : 2 ≤ n) (i : ℕ) (w : World C) (r : Reached m n w) (ready : Ready n i w) where
  abbrev pub TopAt : ℕ → World C → Type 0
  TopAt B x = Top m law n (is_up_in w) i ready.less ready.up (length w.sent) B x

  abbrev pub CalmTo : World C → World C → Type 0
  CalmTo x y = Calm m (is_up_in w) i (length w.sent) x y

  pub all_up : AllUp n (is_up_in w) w
  all_up j s less q there = up_is w j s there q

  begun : (s : Raft C) → slice_get w.servers i ≡ Some s → Inv m law n (is_up_in w) i ready.less ready.up (length w.sent) s.term (suc s.term) w
  begun s here = begins m law n r.events r.past w r.run two (is_up_in w) ready.quorum all_up i ready.less ready.up ready.best s.term (λ j t less q there. ready.level j t s less q there here)

  -- a leader that beats
  pub record Beaten (y : World C) (bound : ℕ) (body_of : ℕ → Body C) : Type 0 where
    pub leads : Leads w i bound
    pub beat : happens m w (Beats i) ≡ Ok y
    pub body : (k : ℕ) → body_of k ≡ beat_body leads.server (index_at leads.next k)
    pub before : TopAt bound w
    pub leader : is_leader before.inv.me.mode ≡ true

  -- another that stands
  pub record Voted (y : World C) (now : Raft C) (body_of : ℕ → Body C) : Type 0 where
    pub timeout : happens m w (TimesOut i) ≡ Ok y
    pub not_yet : is_leader now.mode ≡ false
    pub body : (k : ℕ) → body_of k ≡ VoteRequest (length now.log) (last_term now.log)

  -- after that
  pub record Opened (y : World C) : Type 0 where
    pub now : Raft C
    pub here : slice_get y.servers i ≡ Some now
    pub bound : ℕ
    pub term : now.term ≡ bound
    pub body_of : ℕ → Body C
    pub sent : y.sent ≡ w.sent ++ to_others i (λ k. record { from = i; to = k; term = bound; body = body_of k }) n
    pub up : SameUp w y
    pub log : (s : Raft C) → slice_get w.servers i ≡ Some s → now.log ≡ s.log
    pub role : (s : Raft C) → slice_get w.servers i ≡ Some s → is_leader now.mode ≡ is_leader s.mode
    pub top : TopAt bound y
    pub kind : (Beaten y bound body_of × (is_leader now.mode ≡ true)) ⊎ Voted y now body_of

  pub can_beat : (s : Raft C) → slice_get w.servers i ≡ Some s → (next match : List ℕ) → s.mode ≡ Leader next match →
      happens m w (Beats i) ≡ Ok (turned m n w i (record { server = s; sent = to_others i (beat_message i s next) n }))
  can_beat s here next match mode = own_turn m n w i Beat s (record { server = s; sent = to_others i (beat_message i s next) n }) (reached_size m n w r) here (beats_now m n i s next match mode i ready.less)

  pub beat_opens : (s : Raft C) → slice_get w.servers i ≡ Some s → (next match : List ℕ) → s.mode ≡ Leader next match → (y : World C) → happens m w (Beats i) ≡ Ok y → Opened y
  beat_opens s here next match mode y h =
      let turn : RaftTurn C = record { server = s; sent = to_others i (beat_message i s next) n } in
      let is : y ≡ turned m n w i turn = same_ok _ _ (sym h ∙ can_beat s here next match mode) in
      let inv = begun s here in
      let own : inv.me ≡ s = same_Some inv.me s (sym inv.here ∙ here) in
      let before : TopAt s.term w = record { inv = inv; term = ap (λ (z : Raft C). z.term) own; role = subst (λ (z : Raft C). IsStanding z.mode) (sym own) (subst (λ z. IsStanding z) (sym mode) tt) } in
      let alive : is_up s.mode ≡ true = ap is_up mode in
      record {
        now = s;
        here = ap (λ (z : World C). slice_get z.servers i) is ∙ turned_here m n w i turn s here;
        bound = s.term;
        term = refl;
        body_of = λ k. beat_body s (index_at next k);
        sent = ap (λ (z : World C). z.sent) is;
        up = subst (λ z. SameUp w z) (sym is) (turned_up m n w i turn s here alive alive);
        log = λ a at. ap (λ (z : Raft C). z.log) (same_Some s a (sym here ∙ at));
        role = λ a at. ap (λ (z : Raft C). is_leader z.mode) (same_Some s a (sym here ∙ at));
        top = top_on m law n (is_up_in w) i ready.less ready.up (length w.sent) s.term w y before (calm_on (Beats i) y calm_here tt (λ q. refl) h);
        kind = inl (
          record {
            leads = record { server = s; next = next; match = match; here = here; mode = mode; term = refl };
            beat = h;
            body = λ k. refl;
            before = before;
            leader = ap (λ (z : Raft C). is_leader z.mode) own ∙ ap is_leader mode;
          },
          ap is_leader mode,
        );
      }

  pub can_stand : (s : Raft C) → slice_get w.servers i ≡ Some s → is_leader s.mode ≡ false →
      happens m w (TimesOut i) ≡ Ok (turned m n w i (record { server = election_started n i s; sent = to_others i (vote_request_to i (election_started n i s)) n }))
  can_stand s here not =
      let fits = ready.room s here not in
      own_turn m n w i Timeout s (record { server = election_started n i s; sent = to_others i (vote_request_to i (election_started n i s)) n }) (reached_size m n w r) here (stands_now m n i s (up_is w i s here ready.up) not fits.0 fits.1)

  pub timeout_opens : (s : Raft C) → slice_get w.servers i ≡ Some s → is_leader s.mode ≡ false → (y : World C) → happens m w (TimesOut i) ≡ Ok y → Opened y
  timeout_opens s here not y h =
      let c : Raft C = election_started n i s in
      let turn : RaftTurn C = record { server = c; sent = to_others i (vote_request_to i c) n } in
      let is : y ≡ turned m n w i turn = same_ok _ _ (sym h ∙ can_stand s here not) in
      let now : slice_get y.servers i ≡ Some c = ap (λ (z : World C). slice_get z.servers i) is ∙ turned_here m n w i turn s here in
      let inv = begun s here in
      let t = times m law n two (is_up_in w) ready.quorum i ready.less ready.up (length w.sent) s.term w y inv h in
      let its : t.turn.server ≡ c = same_Some t.turn.server c (sym t.here ∙ now) in
      let term : t.turn.server.term ≡ suc s.term = ap (λ (z : Raft C). z.term) its in
      let inv2 = timed_inv m law n two (is_up_in w) ready.quorum i ready.less ready.up (length w.sent) s.term w y inv t (suc s.term) (suc (suc s.term)) (omega arith) (omega (arith, term)) (λ z low f. inl (omega (arith, low))) in
      let own : inv2.me ≡ c = same_Some inv2.me c (sym inv2.here ∙ now) in
      record {
        now = c;
        here = now;
        bound = suc s.term;
        term = refl;
        body_of = λ k. VoteRequest (length s.log) (last_term s.log);
        sent = ap (λ (z : World C). z.sent) is;
        up = subst (λ z. SameUp w z) (sym is) (turned_up m n w i turn s here (up_is w i s here ready.up) refl);
        log = λ a at. ap (λ (z : Raft C). z.log) (same_Some s a (sym here ∙ at));
        role = λ a at. sym not ∙ ap (λ (z : Raft C). is_leader z.mode) (same_Some s a (sym here ∙ at));
        top = record { inv = inv2; term = ap (λ (z : Raft C). z.term) own; role = subst (λ (z : Raft C). IsStanding z.mode) (sym own) tt };
        kind = inr (record { timeout = h; not_yet = refl; body = λ k. refl });
      }

  module _ (y : World C) (o : Opened y) where
    abbrev asks : ℕ → Message C
    asks k = record { from = i; to = k; term = o.bound; body = o.body_of k }

    abbrev pub GoingTo : ℕ → World C → Type 0
    GoingTo p x = Going m (is_up_in w) i (length w.sent) y p x

    -- each message that was sent then is to another server
    pub asks_at : (p : ℕ) (z : Message C) → length w.sent ≤ p → slice_get y.sent p ≡ Some z → (k : ℕ) × (k < n) × (k ≢ i) × (z ≡ record { from = i; to = k; term = o.bound; body = o.body_of k })
    asks_at p z new at = elim (get-split w.sent (to_others i asks n) p z (subst (λ l. slice_get l p ≡ Some z) o.sent at)) [
      | inl q ↦ absurd (omega (arith, new, get-within w.sent p z q))
      | inr q ↦ to_others_is i asks n q.0 z q.1
    ]

    -- and each other has one
    asked : (k : ℕ) → k < n → k ≢ i → (p : ℕ) × (slice_get y.sent p ≡ Some (asks k)) × (length w.sent ≤ p)
    asked k less other =
        let a = to_others_has i asks n k less other in
        let b = get-behind w.sent (to_others i asks n) a.0 (asks k) a.1 in
        (b.0, subst (λ l. slice_get l b.0 ≡ Some (asks k)) (sym o.sent) b.1, b.2)

    pub going_start : GoingTo (length w.sent) y
    going_start = record {
      calm = calm_here;
      up = λ k. refl;
      once = λ a b there then. subst (λ z. Once a z) (same_Some a b (sym there ∙ then)) (once_self a);
      each = λ p z new low at q. absurd (omega (arith, new, low));
    }

    pub top_then : (p : ℕ) (x : World C) → GoingTo p x → TopAt o.bound x
    top_then p x g = top_on m law n (is_up_in w) i ready.less ready.up (length w.sent) o.bound y x o.top g.calm

    -- it is led by who beat
    leads_now : (p : ℕ) (x : World C) → GoingTo p x → is_leader o.now.mode ≡ true → Leads x i o.bound
    leads_now p x g l =
        let t = o.top in
        let v = t.inv in
        stays m law n (is_up_in w) i ready.less ready.up (length w.sent) o.bound y x o.top (ap (λ (z : Raft C). is_leader z.mode) (same_Some v.me o.now (sym v.here ∙ o.here)) ∙ l) g.calm

    swap_to : (p k : ℕ) (x : World C) → GoingTo p x → length w.sent ≤ p → slice_get y.sent p ≡ Some (asks k) → k < n → k ≢ i → is_up_in w k ≡ true → Swap m law n (is_up_in w) i ready.less ready.up (length w.sent) p x
    swap_to p k x g new at less other q =
        let there = calm_sent m law n two (is_up_in w) ready.quorum i ready.less ready.up (length w.sent) y x p (asks k) g.calm at in
        swaps m law n (is_up_in w) i ready.less ready.up (length w.sent) o.bound x (top_then p x g) p k (o.body_of k) new there less q other (elim o.kind [
          | inl b ↦ inr (leads_now p x g b.1)
          | inr v ↦ inl (subst (λ z. IsVote z) (sym (v.body k)) tt)
        ])

    -- the message at this place can be delivered, and its answer
    pub swap_at : (p : ℕ) (z : Message C) (x : World C) → GoingTo p x → length w.sent ≤ p → slice_get y.sent p ≡ Some z → is_up_in w z.to ≡ true → Swap m law n (is_up_in w) i ready.less ready.up (length w.sent) p x
    swap_at p z x g new at q =
        let a = asks_at p z new at in
        swap_to p a.0 x g new (at ∙ ap (λ u. Some u) a.3) a.1 a.2 (ap (λ (u : Message C). is_up_in w u.to) (sym a.3) ∙ q)

    longer : (p : ℕ) (x v : World C) → CalmTo x v → Swapped m (is_up_in w) i (length w.sent) p y x → Swapped m (is_up_in w) i (length w.sent) p y v
    longer p x v c s = record {
      at_request = s.at_request;
      after_request = s.after_request;
      at_answer = s.at_answer;
      after_answer = s.after_answer;
      to_request = s.to_request;
      request_delivered = s.request_delivered;
      to_answer = s.to_answer;
      answer = s.answer;
      answer_new = s.answer_new;
      answer_sent = s.answer_sent;
      answer_delivered = s.answer_delivered;
      to_end = calm_more m (is_up_in w) i (length w.sent) s.after_answer x v s.to_end c;
      through_request = s.through_request;
      through_answer = s.through_answer;
      since_request = calm_more m (is_up_in w) i (length w.sent) s.after_request x v s.since_request c;
    }

    swapped : (p : ℕ) (x : World C) (g : GoingTo p x) (s : Swap m law n (is_up_in w) i ready.less ready.up (length w.sent) p x) → GoingTo (suc p) s.second
    swapped p x g s =
        let on : CalmTo x s.second = calm_more m (is_up_in w) i (length w.sent) x s.first s.second s.to_first s.to_second in
        record {
          calm = calm_more m (is_up_in w) i (length w.sent) y x s.second g.calm on;
          up = λ k. s.up k ∙ g.up k;
          once = λ a b there then.
              let t = top_then p x g in
              let v = t.inv in
              once_on a v.me b (g.once a v.me there v.here) (s.once v.me b v.here then);
          each = λ q z new low at up. elim (leb_tells (suc q) p) [
            | inl e ↦ longer q x s.second on (g.each q z new e.1 at up)
            | inr e ↦
                let same : p ≡ q = omega (arith, low, e.1) in
                subst (λ u. Swapped m (is_up_in w) i (length w.sent) u y s.second) same (record {
                  at_request = x;
                  after_request = s.first;
                  at_answer = s.first;
                  after_answer = s.second;
                  to_request = g.calm;
                  request_delivered = s.delivered;
                  to_answer = calm_here;
                  answer = length x.sent;
                  answer_new = omega arith;
                  answer_sent = get-within s.first.sent (length x.sent) s.answer s.answer_at;
                  answer_delivered = s.heard;
                  to_end = calm_here;
                  through_request = calm_more m (is_up_in w) i (length w.sent) y x s.first g.calm s.to_first;
                  through_answer = calm_more m (is_up_in w) i (length w.sent) y x s.second g.calm on;
                  since_request = s.to_second;
                })
          ];
        }

    -- one place more
    pub going_swap : (p : ℕ) (z : Message C) (x x1 x2 : World C) → GoingTo p x → length w.sent ≤ p → slice_get y.sent p ≡ Some z → is_up_in w z.to ≡ true →
        happens m x (Deliver p) ≡ Ok x1 → happens m x1 (Deliver (length x.sent)) ≡ Ok x2 → GoingTo (suc p) x2
    going_swap p z x x1 x2 g new at q h1 h2 =
        let s = swap_at p z x g new at q in
        let one : s.first ≡ x1 = same_ok _ _ (sym s.delivered ∙ h1) in
        let end : s.second ≡ x2 = same_ok _ _ (sym s.heard ∙ (ap (λ v. happens m v (Deliver (length x.sent))) one ∙ h2)) in
        subst (λ v. GoingTo (suc p) v) end (swapped p x g s)

    -- a place that is none of a member's
    pub going_past : (p : ℕ) (x : World C) → GoingTo p x → ((z : Message C) → slice_get y.sent p ≡ Some z → is_up_in w z.to ≡ true → ⊥) → GoingTo (suc p) x
    going_past p x g none = record {
      calm = g.calm;
      up = g.up;
      once = g.once;
      each = λ q z new low at up. elim (leb_tells (suc q) p) [
        | inl e ↦ g.each q z new e.1 at up
        | inr e ↦ let same : q ≡ p = omega (arith, low, e.1) in absurd (none z (ap (slice_get y.sent) (sym same) ∙ at) up)
      ];
    }

    module _ (p : ℕ) (v : World C) (g : GoingTo p v) (all : length y.sent ≤ p) where
      -- each member was asked and answered
      each_one : (k : ℕ) → k < n → is_up_in w k ≡ true → k ≢ i → (q : ℕ) × (slice_get y.sent q ≡ Some (asks k)) × (length w.sent ≤ q) × Swapped m (is_up_in w) i (length w.sent) q y v
      each_one k less up other =
          let a = asked k less other in
          (a.0, a.1, a.2, g.each a.0 (asks k) a.2 (omega (arith, all, get-within y.sent a.0 (asks k) a.1)) a.1 up)

      -- who stood leads
      votes_lead : Voted y o.now o.body_of → (t : ℕ) × Leads v i t
      votes_lead b =
          let l = one_go m law n r.events r.past w r.run two (is_up_in w) ready.quorum all_up i ready.less ready.up ready.best ready.level v (record {
            at_timeout = w;
            after_timeout = y;
            to_timeout = calm_here;
            timeout = b.timeout;
            candidate = o.now;
            here = o.here;
            asked = λ k less up other.
                let a = each_one k less up other in
                let s = a.3 in
                record {
                  at_request = s.at_request;
                  after_request = s.after_request;
                  at_answer = s.at_answer;
                  after_answer = s.after_answer;
                  to_request = s.to_request;
                  request = a.0;
                  request_since = a.2;
                  index = length o.now.log;
                  its_last = last_term o.now.log;
                  request_is =
                      calm_sent m law n two (is_up_in w) ready.quorum i ready.less ready.up (length w.sent) y s.at_request a.0 _ s.to_request
                      (a.1 ∙ ap (λ (u : Body C). Some (record { from = i; to = k; term = o.bound; body = u })) (b.body k) ∙ ap (λ (u : ℕ). Some (record { from = i; to = k; term = u; body = VoteRequest (length o.now.log) (last_term o.now.log) })) (sym o.term));
                  request_delivered = s.request_delivered;
                  to_answer = s.to_answer;
                  answer = s.answer;
                  answer_new = s.answer_new;
                  answer_sent = s.answer_sent;
                  answer_delivered = s.answer_delivered;
                  to_end = s.to_end;
                };
            to_end = g.calm;
          }) in
          let c = l.commits in
          (l.term, c.leads)

      -- it leads in either case
      pub leads_then : (t : ℕ) × Leads v i t
      leads_then = elim o.kind [
        | inl b ↦ (o.bound, leads_now p v g b.1)
        | inr b ↦ votes_lead b
      ]

      -- and may go on
      pub ready_then : Ready n i v
      ready_then =
          let t = top_then p v g in
          let inv = t.inv in
          let same : SameUp w v = λ k. g.up k ∙ o.up k in
          let l = leads_then.1 in
          record {
            less = ready.less;
            up = same i ∙ ready.up;
            quorum = quorum_more n (is_up_in w) (is_up_in v) (λ j lo q. same j ∙ q) ready.quorum;
            best = λ j s me less q there here.
                let b : Member m law n (is_up_in w) i ready.less ready.up (length w.sent) o.bound inv.me.log s = inv.each j s less (sym (same j) ∙ q) there in
                let own : inv.me ≡ me = same_Some inv.me me (sym inv.here ∙ here) in
                subst (λ (z : Raft C). NoOlder s.log z.log) own (no_older s.log inv.me.log b.ends);
            level = λ j s me less q there here.
                let b : Member m law n (is_up_in w) i ready.less ready.up (length w.sent) o.bound inv.me.log s = inv.each j s less (sym (same j) ∙ q) there in
                let own : inv.me ≡ me = same_Some inv.me me (sym inv.here ∙ here) in
                omega (arith, b.low, t.term, ap (λ (z : Raft C). z.term) own);
            room = λ s here not. absurd (true≢false (sym (ap (λ (z : Raft C). is_leader z.mode) (same_Some s l.server (sym here ∙ l.here)) ∙ ap is_leader l.mode) ∙ not));
          }

  -- what a member has applied it keeps in a calm part
  commit_stays : (B : ℕ) (x v : World C) → TopAt B x → CalmTo x v → (k : ℕ) → k < n → is_up_in w k ≡ true → (s t : Raft C) → slice_get x.servers k ≡ Some s → slice_get v.servers k ≡ Some t → s.commit ≤ t.commit
  commit_stays B x v top calm_here k less q s t here there = omega (arith, ap (λ (z : Raft C). z.commit) (same_Some s t (sym here ∙ there)))
  commit_stays B x v top (calm_on {x = u} e z c is calm h) k less q s t here there =
      let tu = top_on m law n (is_up_in w) i ready.less ready.up (length w.sent) B x u top c in
      let tv = top_on m law n (is_up_in w) i ready.less ready.up (length w.sent) B x v top (calm_on e z c is calm h) in
      let iu = tu.inv in
      let iv = tv.inv in
      let b = event_before m n u e v (reached_size m n u iu.reached) is h k t there in
      let old = commit_stays B x u top c k less q s b.server here b.here in
      let mu : Member m law n (is_up_in w) i ready.less ready.up (length w.sent) B iu.me.log b.server = iu.each k b.server less q b.here in
      let mv : Member m law n (is_up_in w) i ready.less ready.up (length w.sent) B iv.me.log t = iv.each k t less q there in
      elim b.turn [
        | inl same ↦ omega (arith, old, ap (λ (z : Raft C). z.commit) same)
        | inr turn ↦ omega (arith, old, turn_commit m n k u.sent b.server t b.out turn mu.up mv.up)
      ]

  -- a round of a leader
  module _ (y : World C) (o : Opened y) (b : Beaten y o.bound o.body_of) (leads : is_leader o.now.mode ≡ true) (p : ℕ) (v : World C) (g : Going m (is_up_in w) i (length w.sent) y p v) (all : length y.sent ≤ p) where
    to_y : CalmTo w y
    to_y = calm_on (Beats i) y calm_here tt (λ q. refl) b.beat

    mine : (t : TopAt o.bound y) → is_leader t.inv.me.mode ≡ true
    mine t = let u = t.inv in ap (λ (z : Raft C). is_leader z.mode) (same_Some u.me o.now (sym u.here ∙ o.here)) ∙ leads

    -- it leads from there on
    from_y : (x z : World C) → CalmTo y x → CalmTo x z → Peace m i o.bound x z
    from_y x z c d =
        let t = top_on m law n (is_up_in w) i ready.less ready.up (length w.sent) o.bound y x o.top c in
        let u = t.inv in
        let l = stays m law n (is_up_in w) i ready.less ready.up (length w.sent) o.bound y x o.top (mine o.top) c in
        peaceful m law n (is_up_in w) i ready.less ready.up (length w.sent) o.bound x z t (ap (λ (a : Raft C). is_leader a.mode) (same_Some u.me l.server (sym u.here ∙ l.here)) ∙ ap is_leader l.mode) d

    answered : (k : ℕ) → k < n → is_up_in w k ≡ true → k ≢ i → Answered m i o.bound k w v
    answered k less up other =
        let a = each_one y o p v g all k less up other in
        let z = a.3 in
        let bl = b.leads in
        record {
          at_beat = w;
          after_beat = y;
          at_request = z.at_request;
          after_request = z.after_request;
          at_answer = z.at_answer;
          after_answer = z.after_answer;
          to_beat = leads_here bl;
          leader = bl;
          beat = b.beat;
          to_request = from_y y z.at_request calm_here z.to_request;
          request = a.0;
          request_is = calm_sent m law n two (is_up_in w) ready.quorum i ready.less ready.up (length w.sent) y z.at_request a.0 _ z.to_request
              (a.1 ∙ (ap (λ (u : Body C). Some (record { from = i; to = k; term = o.bound; body = u })) (b.body k) ∙ ap (λ (u : ℕ). Some (record { from = i; to = k; term = u; body = beat_body bl.server (index_at bl.next k) })) (sym bl.term)));
          request_delivered = z.request_delivered;
          to_answer = from_y z.after_request z.at_answer z.through_request z.to_answer;
          answer = z.answer;
          answer_new = z.answer_new;
          answer_sent = z.answer_sent;
          answer_delivered = z.answer_delivered;
          to_end = from_y z.after_answer v z.through_answer z.to_end;
        }

    rounded : Rounded m n i o.bound w v
    unfolding answered
    rounded = record {
      peace = peaceful m law n (is_up_in w) i ready.less ready.up (length w.sent) o.bound w v b.before b.leader (calm_more m (is_up_in w) i (length w.sent) w y v to_y g.calm);
      each = answered;
      kept = λ k less up other s t here there.
          let a = each_one y o p v g all k less up other in
          let z = a.3 in
          commit_stays o.bound z.after_request v (top_on m law n (is_up_in w) i ready.less ready.up (length w.sent) o.bound y z.after_request o.top z.through_request) z.since_request k less up s t here there;
    }

    rounded_at : (T : ℕ) → Leads w i T → Rounded m n i T w v
    rounded_at T l =
        let bl = b.leads in
        let term : o.bound ≡ T = sym bl.term ∙ (ap (λ (z : Raft C). z.term) (same_Some bl.server l.server (sym bl.here ∙ l.here)) ∙ l.term) in
        subst (λ t. Rounded m n i t w v) term rounded

  -- what the round came to
  pub spread : (y : World C) (o : Opened y) (p : ℕ) (v : World C) → Going m (is_up_in w) i (length w.sent) y p v → length y.sent ≤ p → Spread m n i w v
  spread y o p v g all =
      let l = leads_then y o p v g all in
      record {
        up = λ k. g.up k ∙ o.up k;
        ready = ready_then y o p v g all;
        once = λ a b there then. once_on a o.now b (inl (o.log a there, o.role a there)) (g.once o.now b o.here then);
        term = l.0;
        leads = l.1;
        round = λ T lw. elim o.kind [
          | inl b ↦ rounded_at y o b.0 b.1 p v g all T lw
          | inr b ↦ absurd (true≢false (sym (ap is_leader lw.mode) ∙ (sym (o.role lw.server lw.here) ∙ b.not_yet)))
        ];
      }

  -- who led or not
  pub opened : (es : List (Event C)) (t b : ℕ) (y : World C) → HasBeatOrTimedOut m i w es t b y → Opened y
  opened es t b y (it_beats s here leads h) = let l = leads_in s.mode leads in beat_opens s here l.0 l.1 l.2 y h
  opened es t b y (it_stands s here not h) = timeout_opens s here not y h

  pub may_act : CanBeatOrTimeOut m i w
  may_act =
      let s = get-some w.servers i (omega (arith, ready.less, reached_size m n w r)) in
      record {
        server = s.0;
        here = s.1;
        beats = λ leads. let l = leads_in (s.0).mode leads in (_, can_beat s.0 s.1 l.0 l.1 l.2);
        stands = λ not. (_, can_stand s.0 s.1 not);
      }
