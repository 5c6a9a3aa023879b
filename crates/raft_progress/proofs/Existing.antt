-- There are such goes and such rounds: the premises of the laws can be met.
use Rattle.std.proofs.Common.{◌≡◌, ◌≢◌, ℕ, zero, suc, ◌+◌, ◌<◌, ◌≤◌, inl, inr, max, Bool, true, false, Some, Ok, List, length, refl, sym, ap, ◌∙◌, subst, arith, slice_get, true≢false}
use Rattle.std.proofs.lemmas.Bool.Decides.{eqb_tells, leb_tells}
use Rattle.std.proofs.lemmas.Option.{same_Some}
use Rattle.machine_model.specs.MachineSpec.{MachineSpec, LawfulMachine}
use Rattle.raft_model.specs.Logs.{last_term}
use Rattle.raft_model.specs.Quorums.{Quorum}
use Rattle.raft_model.specs.Messages.{Message, VoteRequest, VoteReply, to_others}
use Rattle.raft_model.specs.Rafts.{Raft, RaftTurn, is_leader, is_up_to_date, term_observed, election_started, grants, vote_request_to}
use Rattle.raft_model.specs.Steps.{Timeout, receives}
use Rattle.raft_model.specs.Worlds.{World, Event, Run, Deliver, TimesOut, happens, Leads}
use Rattle.raft_model.proofs.Cases.{bool_cases}
use Rattle.raft_safety.proofs.Places.{get-some, get-last, get-within}
use Rattle.raft_progress.specs.Recovery.{AllUp, HasRoom, no_event}
use Rattle.raft_progress.specs.Peace.{Rounds}
use Rattle.raft_progress.specs.Campaign.{IsStanding, Campaign, Granted}
use Rattle.raft_progress.specs.Calm.{IsCalm, Calm, calm_here, calm_on, Asked, Go, HasBestLog, NobodyAhead}
use Rattle.raft_progress.proofs.Moves.{get-behind, get_set-other, to_others_has, Reached, reached_size, own_turn, came_turn, turned, turned_here, step_arrives}
use Rattle.raft_progress.proofs.Asking.{stands_now}
use Rattle.raft_progress.proofs.Playing.{plays}
use Rattle.raft_progress.proofs.CalmRuns.{Inv, Next, next_event}
use Rattle.raft_progress.proofs.Goes.{calm_sent, calm_trans, times, timed_inv, begins, highest, Top_in, top_calm, grants_from}

module _ {S C : Type 0} (m : MachineSpec S C) (law : LawfulMachine m) (n : ℕ) (two : 2 ≤ n) (Q : ℕ → Bool) (quorum : Quorum n Q) (i : ℕ) (less_n : i < n) (member_i : Q i ≡ true) (since B U : ℕ) (fits : B ≤ U) (T : ℕ) (L R : ℕ) (y : World C) where
  abbrev req : ℕ → Message C
  req k = record { from = i; to = k; term = T; body = VoteRequest L R }

  -- server j was asked as it was at first
  record Fresh (j : ℕ) (x : World C) : Type 0 where
    asked : Asked m Q i since T j y x
    index : asked.index ≡ L
    its_last : asked.its_last ≡ R
    same : slice_get asked.at_request.servers j ≡ slice_get y.servers j

  -- the first k were asked and have answered
  record Going (k : ℕ) (x : World C) : Type 0 where
    inv : Inv m law n Q i less_n member_i since B U x
    calm : Calm m Q i since y x
    asked : (j : ℕ) → j < k → j < n → Q j ≡ true → j ≢ i → Fresh j x
    -- who was not asked yet is as it was
    fresh : (j : ℕ) → k ≤ j → j ≢ i → slice_get x.servers j ≡ slice_get y.servers j
    requests : (j : ℕ) → j < n → j ≢ i → (p : ℕ) × (slice_get x.sent p ≡ Some (req j)) × (since ≤ p)

  module _ (k : ℕ) (x : World C) (g : Going k x) (less : k < n) (q : Q k ≡ true) (other : k ≢ i) where
    s : Raft C
    s = (get-some x.servers k (omega (arith, less, reached_size m n x g.inv.reached))).0

    here : slice_get x.servers k ≡ Some s
    unfolding s
    here = (get-some x.servers k (omega (arith, less, reached_size m n x g.inv.reached))).1

    place : (p : ℕ) × (slice_get x.sent p ≡ Some (req k)) × (since ≤ p)
    place = g.requests k less other

    turn : RaftTurn C
    turn = receives m.noop n k (term_observed T s) i T (VoteRequest L R)

    x1 : World C
    x1 = turned m n x k turn

    h1 : happens m x (Deliver place.0) ≡ Ok x1
    unfolding x1 turn
    h1 = let old = g.inv.each k s less q here in
        came_turn m n x place.0 i k T (VoteRequest L R) s turn (reached_size m n x g.inv.reached) place.1 here (step_arrives m n k s (req k) old.up less_n)

    calm1 : IsCalm Q i since x (Deliver place.0)
    calm1 z at to = (place.2, ap (λ (u : Message C). Q u.from) (same_Some z (req k) (sym at ∙ place.1)) ∙ member_i)

    n1 : Next m law n Q i less_n member_i since B U x x1 g.inv
    n1 = next_event m law n Q i less_n member_i since B U x g.inv fits (Deliver place.0) x1 tt calm1 h1

    reply : Message C
    reply = record { from = k; to = i; term = turn.server.term; body = VoteReply T (grants (term_observed T s) i T L R) }

    at_reply : slice_get x1.sent (length x.sent) ≡ Some reply
    unfolding x1 turn reply
    at_reply = get-last x.sent reply

    turn2 : RaftTurn C
    turn2 = receives m.noop n i (term_observed reply.term n1.inv.me) k reply.term reply.body

    x2 : World C
    x2 = turned m n x1 i turn2

    h2 : happens m x1 (Deliver (length x.sent)) ≡ Ok x2
    unfolding x2 turn2 reply
    h2 = let old = n1.inv.each i n1.inv.me less_n member_i n1.inv.here in
        came_turn m n x1 (length x.sent) k i reply.term reply.body n1.inv.me turn2 (reached_size m n x1 n1.inv.reached) at_reply n1.inv.here (step_arrives m n i n1.inv.me reply old.up less)

    calm2 : IsCalm Q i since x1 (Deliver (length x.sent))
    unfolding reply
    calm2 z at to = (omega (arith, place.2, within place.0 (req k) place.1), ap (λ (u : Message C). Q u.from) (same_Some z reply (sym at ∙ at_reply)) ∙ q)
      where
        within : (p : ℕ) (z : Message C) → slice_get x.sent p ≡ Some z → p < length x.sent
        within p z at = get-within x.sent p z at

    n2 : Next m law n Q i less_n member_i since B U x1 x2 n1.inv
    n2 = next_event m law n Q i less_n member_i since B U x1 n1.inv fits (Deliver (length x.sent)) x2 tt calm2 h2

    step1 : Calm m Q i since x x1
    step1 = calm_on (Deliver place.0) x1 calm_here tt calm1 h1

    step2 : Calm m Q i since x1 x2
    step2 = calm_on (Deliver (length x.sent)) x2 calm_here tt calm2 h2

    go_one : Going (suc k) x2
    unfolding x1 x2 turn
    go_one =
        let both = calm_trans m law n two Q quorum i less_n member_i since x x1 x2 step1 step2 in
        record {
          inv = n2.inv;
          calm = calm_trans m law n two Q quorum i less_n member_i since y x x2 g.calm both;
          asked = λ j lo hi p apart. elim (leb_tells (suc j) k) [
            | inl e ↦ let f = g.asked j e.1 hi p apart in let a = f.asked in record {
              index = f.index;
              its_last = f.its_last;
              same = f.same;
              asked = record {
                at_request = a.at_request;
                after_request = a.after_request;
                at_answer = a.at_answer;
                after_answer = a.after_answer;
                to_request = a.to_request;
                request = a.request;
                request_since = a.request_since;
                index = a.index;
                its_last = a.its_last;
                request_is = a.request_is;
                request_delivered = a.request_delivered;
                to_answer = a.to_answer;
                answer = a.answer;
                answer_new = a.answer_new;
                answer_sent = a.answer_sent;
                answer_delivered = a.answer_delivered;
                to_end = calm_trans m law n two Q quorum i less_n member_i since a.after_answer x x2 a.to_end both;
              };
            }
            | inr e ↦
                let same : k ≡ j = omega (arith, lo, e.1) in
                subst (λ z. Fresh z x2) same (record {
                  index = refl;
                  its_last = refl;
                  same = g.fresh k (omega arith) other;
                  asked = record {
                    at_request = x;
                    after_request = x1;
                    at_answer = x1;
                    after_answer = x2;
                    to_request = g.calm;
                    request = place.0;
                    request_since = place.2;
                    index = L;
                    its_last = R;
                    request_is = place.1;
                    request_delivered = h1;
                    to_answer = calm_here;
                    answer = length x.sent;
                    answer_new = omega arith;
                    answer_sent = get-within x1.sent (length x.sent) reply at_reply;
                    answer_delivered = h2;
                    to_end = calm_here;
                  };
                })
          ];
          fresh = λ j lo apart. get_set-other x1.servers i turn2.server j apart ∙ (get_set-other x.servers k turn.server j (λ e. omega (arith, lo, e)) ∙ g.fresh j (omega (arith, lo)) apart);
          requests = λ j hi apart. let r = g.requests j hi apart in (r.0, calm_sent m law n two Q quorum i less_n member_i since x x2 r.0 (req j) both r.1, r.2);
        }

  -- one server more
  goes_on : (k : ℕ) (x : World C) → Going k x → k < n → (z : World C) × Going (suc k) z
  goes_on k x g less = elim (bool_cases (Q k)) [
    | inr off ↦ (x, passes (λ q other. true≢false (sym q ∙ off)))
    | inl q ↦ elim (eqb_tells k i) [
      | inl e ↦ (x, passes (λ p other. other e.1))
      | inr e ↦ (x2 k x g less q e.1, go_one k x g less q e.1)
    ]
  ]
    where
      passes : (Q k ≡ true → k ≢ i → ⊥) → Going (suc k) x
      passes no_one = record {
        inv = g.inv;
        fresh = λ j lo apart. g.fresh j (omega (arith, lo)) apart;
        calm = g.calm;
        requests = g.requests;
        asked = λ j lo hi q other. elim (leb_tells (suc j) k) [
          | inl e ↦ g.asked j e.1 hi q other
          | inr e ↦ let same : j ≡ k = omega (arith, lo, e.1) in absurd (no_one (ap Q (sym same) ∙ q) (λ z. other (same ∙ z)))
        ];
      }

  goes_all : (left k : ℕ) (x : World C) → left + k ≡ n → Going k x → (z : World C) × Going n z
  goes_all zero k x sum g = (x, subst (λ z. Going z x) (let e : k ≡ n = omega (arith, sum) in e) g)
  goes_all (suc left) k x sum g = let one = goes_on k x g (omega (arith, sum)) in goes_all left (suc k) one.0 (omega (arith, sum)) one.1

module _ {S C : Type 0} (m : MachineSpec S C) (law : LawfulMachine m) (n : ℕ) (events : List (Event C)) (past : List (World C)) (w : World C) (run : Run m n events past w) (two : 2 ≤ n) (Q : ℕ → Bool) (quorum : Quorum n Q) (up : AllUp n Q w)
    (i : ℕ) (less_n : i < n) (member_i : Q i ≡ true) where
  from : Reached m n w
  from = record { events = events; past = past; run = run }

  -- a go
  pub go_exists : HasBestLog n Q i w → (me : Raft C) → slice_get w.servers i ≡ Some me → is_leader me.mode ≡ false → HasRoom n Q w → (v : World C) × Go m n Q i (length w.sent) w v
  go_exists best me here not room =
      let fits = room i me less_n member_i here in
      let c : Raft C = election_started n i me in
      let out = to_others i (vote_request_to i c) n in
      let first : RaftTurn C = record { server = c; sent = out } in
      let y : World C = turned m n w i first in
      let h : happens m w (TimesOut i) ≡ Ok y = own_turn m n w i Timeout me first (reached_size m n w from) here (stands_now m n i me (up i me less_n member_i here) not (omega (arith, fits.0)) (omega (arith, fits.1))) in
      let b = highest m law n events past w run two Q quorum up i less_n member_i best in
      let inv = begins m law n events past w run two Q quorum up i less_n member_i best b.server.term b.low in
      let t = times m law n two Q quorum i less_n member_i (length w.sent) b.server.term w y inv h in
      let B = max b.server.term t.turn.server.term in
      let inv2 = timed_inv m law n two Q quorum i less_n member_i (length w.sent) b.server.term w y inv t (max b.server.term t.turn.server.term) (suc (max b.server.term t.turn.server.term)) (omega arith) (omega arith) (λ s low f. inl (omega (arith, low))) in
      let all = goes_all m law n two Q quorum i less_n member_i (length w.sent) (max b.server.term t.turn.server.term) (suc (max b.server.term t.turn.server.term)) (omega arith) (suc me.term) (length me.log) (last_term me.log) y n 0 y (omega arith) (record {
        inv = inv2;
        fresh = λ j lo other. refl;
        calm = calm_here;
        asked = λ j lo hi q other. absurd (omega (arith, lo));
        requests = λ j lo other.
            let a = to_others_has i (vote_request_to i c) n j lo other in
            get-behind w.sent out a.0 (vote_request_to i c j) a.1;
      }) in
      let g = all.1 in (
        all.0,
        record {
          at_timeout = w;
          after_timeout = y;
          to_timeout = calm_here;
          timeout = h;
          candidate = c;
          here = turned_here m n w i first me here;
          asked = λ k less q other. let f = g.asked k less less q other in f.asked;
          to_end = g.calm;
        },
      )

  -- a campaign in which each grants its vote
  pub campaign_exists : HasBestLog n Q i w → NobodyAhead n Q i w → (me : Raft C) → slice_get w.servers i ≡ Some me → is_leader me.mode ≡ false → HasRoom n Q w →
      (x : World C) × (v : World C) × (happens m w (TimesOut i) ≡ Ok x) × Campaign m i (suc me.term) x v × ((k : ℕ) → k < n → Q k ≡ true → k ≢ i → Granted m i (suc me.term) k x v)
  campaign_exists best level me here not room =
      let fits = room i me less_n member_i here in
      let T = suc me.term in
      let c : Raft C = election_started n i me in
      let out = to_others i (vote_request_to i c) n in
      let first : RaftTurn C = record { server = c; sent = out } in
      let y : World C = turned m n w i first in
      let h : happens m w (TimesOut i) ≡ Ok y = own_turn m n w i Timeout me first (reached_size m n w from) here (stands_now m n i me (up i me less_n member_i here) not (omega (arith, fits.0)) (omega (arith, fits.1))) in
      let here_y : slice_get y.servers i ≡ Some c = turned_here m n w i first me here in
      let inv = begins m law n events past w run two Q quorum up i less_n member_i best me.term (λ j s less q there. level j s me less q there here) in
      let t = times m law n two Q quorum i less_n member_i (length w.sent) me.term w y inv h in
      let its : t.turn.server ≡ c = same_Some t.turn.server c (sym t.here ∙ here_y) in
      let term : t.turn.server.term ≡ suc me.term = ap (λ (z : Raft C). z.term) its in
      let inv2 = timed_inv m law n two Q quorum i less_n member_i (length w.sent) me.term w y inv t (suc me.term) (suc me.term) (omega arith) (omega (arith, term)) (λ s low f. inl (omega (arith, low))) in
      let mine : inv2.me ≡ c = same_Some inv2.me c (sym inv2.here ∙ here_y) in
      let top : Top_in m law n two Q quorum i less_n member_i (length w.sent) (suc me.term) y = record { inv = inv2; term = ap (λ (z : Raft C). z.term) mine; role = subst (λ (z : Raft C). IsStanding z.mode) (sym mine) tt } in
      let all = goes_all m law n two Q quorum i less_n member_i (length w.sent) (suc me.term) (suc me.term) (omega arith) (suc me.term) (length me.log) (last_term me.log) y n 0 y (omega arith) (record {
        inv = inv2;
        calm = calm_here;
        fresh = λ j lo other. refl;
        asked = λ j lo hi q other. absurd (omega (arith, lo));
        requests = λ j lo other.
            let a = to_others_has i (vote_request_to i c) n j lo other in
            get-behind w.sent out a.0 (vote_request_to i c j) a.1;
      }) in
      let g = all.1 in
      let way = top_calm m law n two Q quorum i less_n member_i (length w.sent) (suc me.term) y top all.0 g.calm in (
        y,
        all.0,
        h,
        way.1,
        λ k less q other.
            let f = g.asked k less less q other in
            grants_from m law n two Q quorum i less_n member_i (length w.sent) (suc me.term) y all.0 top k less q other f.asked (λ s at.
            let there : slice_get w.servers k ≡ Some s = sym (get_set-other w.servers i c k other) ∙ (sym f.same ∙ at) in
            subst (λ u. is_up_to_date s.log u f.asked.its_last ≡ true) (sym f.index) (subst (λ u. is_up_to_date s.log (length me.log) u ≡ true) (sym f.its_last) (best k s me less q there here))),
      )

  -- rounds
  pub rounds_exist : (T : ℕ) → Leads w i T → NobodyAhead n Q i w → (rounds : ℕ) → (v : World C) × Rounds m n Q i T w rounds v
  rounds_exist T l level rounds =
      let x = plays m law n Q i less_n T w l.server.log l.server.covered 0 rounds 0 w (record {
        reached = from;
        recovery = no_event;
        leads = l;
        has = refl;
        base = refl;
        others = λ j less q other.
            let s = get-some w.servers j (omega (arith, less, reached_size m n w from)) in
            (s.0, s.1, (up j s.0 less q s.1, omega (arith, level j s.0 l.server less q s.1 l.here, l.term)));
      }) in
      (x.world, x.played)
