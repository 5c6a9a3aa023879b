-- What stays so in a calm part of a run.
use Rattle.std.proofs.Common.{◌≡◌, ◌≢◌, ℕ, ◌<◌, ◌≤◌, ◌⊎◌, inl, inr, Bool, true, false, Option, Some, None, Result, Ok, Err, List, [], ◌∷◌, length, refl, sym, ap, ◌∙◌, subst, arith, slice_get, true≢false}
use Rattle.std.proofs.lemmas.Bool.Decides.{eqb_tells}
use Rattle.std.proofs.lemmas.Option.{same_Some}
use Rattle.rows.specs.declared.refusal.Refusal.{Refusal}
use Rattle.machine_model.specs.MachineSpec.{MachineSpec, LawfulMachine}
use Rattle.machine_model.specs.declared.entry.Entry.{Entry}
use Rattle.raft_model.specs.Logs.{last_term}
use Rattle.raft_model.specs.Messages.{Message, Body, VoteRequest, to_others}
use Rattle.raft_model.specs.Rafts.{Raft, RaftTurn, is_up, term_observed, vote_request_to, election_started, beat_message, beats, silent, compacted}
use Rattle.raft_model.specs.Steps.{Input, Arrives, Timeout, Beat, Propose, Compact, Crash, Restart, receives, step}
use Rattle.raft_model.specs.Worlds.{World, Event, Deliver, TimesOut, Beats, Proposes, Compacts, Crashes, Restarts, IsEvent, happens, takes, delivers, input_to, after_turn}
use Rattle.raft_model.proofs.Cases.{bool_cases, same_ok}
use Rattle.raft_safety.specs.Claims.{Limits, IsAmongMembers}
use Rattle.raft_safety.specs.Inner.SmallSteps.{Small, raises, stands, grants_vote, refuses, counts, wins, extends, follows, takes_append, takes_install, acks, backs, advances, covers, beats_all, Path, still, only, after_one, Turns, walks, resets}
use Rattle.raft_safety.proofs.Paths.{CameIn, step_path}
use Rattle.raft_safety.proofs.Places.{get-within, get_set-cases, get-split, get-one, to_others_is}
use Rattle.raft_safety.proofs.Limits.{Bounds, run_bounds}
use Rattle.raft_progress.specs.Campaign.{IsStanding, Campaign, stands_here, stands_on}
use Rattle.raft_progress.specs.Calm.{IsCalm, Calm, calm_here, calm_on}
use Rattle.raft_progress.proofs.Moves.{get_set-other, Reached, reached_next, reached_size, reached_limits, turned, turned_here, step_arrives}
use Rattle.raft_progress.proofs.Changes.{Kind, stays, falls, stands_up, counts_one, wins_now, appends_one, hears_one, turn_keeps, event_before}
use Rattle.raft_progress.proofs.Leaders.{leader_facts}
use Rattle.raft_progress.proofs.Choosing.{Ends}
use Rattle.raft_progress.proofs.CalmSteps.{Carries, IsReply, Free, Heeds, heeds}
use Rattle.raft_progress.proofs.CalmActs.{ends_grow, carries_grow, Acts, acts_reply, acts_beat, acts_compact, acts_propose}

-- terms never fall
kind_term : {S C : Type 0} (m : MachineSpec S C) (n i : ℕ) (s t : Raft C) → Kind m n i s t → s.term ≤ t.term
kind_term m n i s t (stays mode term log covered) = omega (arith, term)
kind_term m n i s t (falls h le) = le
kind_term m n i s t (stands_up less votes mode) = omega (arith, less)
kind_term m n i s t (counts_one votes from was mode term) = omega (arith, term)
kind_term m n i s t (wins_now votes was mode term log) = omega (arith, term)
kind_term m n i s t (appends_one next match command was mode term log covered) = omega (arith, term)
kind_term m n i s t (hears_one next match next2 match2 was mode term log covered lists) = omega (arith, term)

-- a server says only what is from it
module _ {S C : Type 0} (m : MachineSpec S C) (n i : ℕ) (sent : List (Message C)) where
  From : List (Message C) → Type 0
  From out = (p : ℕ) (y : Message C) → slice_get out p ≡ Some y → y.from ≡ i

  from_none : (out : List (Message C)) → out ≡ [] → From out
  unfolding From
  from_none out o p y h = absurd (let q = subst (λ l. slice_get l p ≡ Some y) o h in cc)

  from_one : (out : List (Message C)) (z : Message C) → out ≡ z ∷ [] → z.from ≡ i → From out
  unfolding From
  from_one out z o its p y h = ap (λ (x : Message C). x.from) (sym (get-one z p y (subst (λ l. slice_get l p ≡ Some y) o h))) ∙ its

  from_all : (out : List (Message C)) (message : ℕ → Message C) → out ≡ to_others i message n → ((k : ℕ) → (message k).from ≡ i) → From out
  unfolding From
  from_all out message o its p y h = let q = to_others_is i message n p y (subst (λ l. slice_get l p ≡ Some y) o h) in ap (λ (x : Message C). x.from) q.3 ∙ its q.0

  small_from : (s t : Raft C) (out : List (Message C)) → Small m n i sent s t out → From out
  small_from s t out (raises x came less e o) = from_none out o
  small_from s t out (stands term_fits index_fits e o) = from_all out (vote_request_to i (election_started n i s)) o (λ k. refl)
  small_from s t out (grants_vote from index its_last came free newer e o) = from_one out _ o refl
  small_from s t out (refuses from term request answer came h e o) = from_one out _ o refl
  small_from s t out (counts votes from term less came mode e o) = from_none out o
  small_from s t out (wins votes mode many e o) = from_none out o
  small_from s t out (extends next match command is mode none e o) = from_none out o
  small_from s t out (follows from e o) = from_none out o
  small_from s t out (takes_append from prev prev_term commit entries came mode held e o) = from_one out _ o refl
  small_from s t out (takes_install from P came mode e o) = from_one out _ o refl
  small_from s t out (acks next match from term at body came ack mode e o) = from_none out o
  small_from s t out (backs next match from at mode e o) = from_none out o
  small_from s t out (advances next match mode e o) = from_none out o
  small_from s t out (covers e o) = from_none out o
  small_from s t out (beats_all next match mode e o) = from_all out (beat_message i s next) o (λ k. refl)

  path_from : (t : Raft C) (out : List (Message C)) (s : Raft C) → Path m n i sent s t out → From out
  path_from t out s (still e o) = from_none out o
  path_from t out s (only x) = small_from s t out x
  path_from t out s (after_one r x passes p) = path_from t out r p

  pub turn_from : (s t : Raft C) (out : List (Message C)) → Turns m n i sent s t out → (p : ℕ) (y : Message C) → slice_get out p ≡ Some y → y.from ≡ i
  unfolding From
  turn_from s t out (walks up x) = path_from t out s x
  turn_from s t out (resets mode h up e o) = from_none out o

module _ {S C : Type 0} (m : MachineSpec S C) (n : ℕ) where
  -- who took an input, and what came of it
  pub record Taken (w : World C) (j : ℕ) (input : Input C) (y : World C) : Type 0 where
    pub server : Raft C
    pub here : slice_get w.servers j ≡ Some server
    pub turn : RaftTurn C
    pub step_is : step m n j server input ≡ Ok turn
    pub is : y ≡ turned m n w j turn

  pub taken : (w : World C) (j : ℕ) (input : Input C) (y : World C) → length w.servers ≡ n → takes m w j input ≡ Ok y → Taken w j input y
  taken w j input y size h = by (slice_get w.servers j) refl h
    where
      go : (s : Raft C) → slice_get w.servers j ≡ Some s → (r : Result (RaftTurn C) Refusal) → step m (length w.servers) j s input ≡ r → after_turn m w j r ≡ Ok y → Taken w j input y
      go s here (Ok turn) e h = record { server = s; here = here; turn = turn; step_is = subst (λ c. step m c j s input ≡ Ok turn) size e; is = sym (same_ok _ _ h) }
      go s here (Err r) e h = absurd (cc)

      by : (o : Option (Raft C)) → slice_get w.servers j ≡ o → input_to m w j input o ≡ Ok y → Taken w j input y
      by None e h = absurd (cc)
      by (Some s) e h = go s e (step m (length w.servers) j s input) refl h

  pub record Delivered (w : World C) (place : ℕ) (y : World C) : Type 0 where
    pub message : Message C
    pub at : slice_get w.sent place ≡ Some message
    pub taken : Taken w message.to (Arrives message) y

  pub delivered : (w : World C) (place : ℕ) (y : World C) → length w.servers ≡ n → happens m w (Deliver place) ≡ Ok y → Delivered w place y
  delivered w place y size h = by (slice_get w.sent place) refl h
    where
      by : (o : Option (Message C)) → slice_get w.sent place ≡ o → delivers m w o ≡ Ok y → Delivered w place y
      by None e h = absurd (cc)
      by (Some x) e h = record { message = x; at = e; taken = taken w x.to (Arrives x) y size h }

  pub event_term : (x y : World C) (e : Event C) → Reached m n x → IsEvent m e → happens m x e ≡ Ok y → (j : ℕ) (s t : Raft C) → slice_get x.servers j ≡ Some s → slice_get y.servers j ≡ Some t → s.term ≤ t.term
  event_term x y e r is h j s t here there =
      let b = event_before m n x e y (reached_size m n x r) is h j t there in
      let old : b.server ≡ s = same_Some b.server s (sym b.here ∙ here) in
      elim b.turn [
        | inl same ↦ omega (arith, ap (λ (z : Raft C). z.term) (same ∙ old))
        | inr turn ↦ turn_keeps m n j x.sent (λ z. s.term ≤ z.term) (λ a z c le. let k = c.kind in omega (arith, le, kind_term m n j a z k)) b.server t b.out turn (omega (arith, ap (λ (z : Raft C). z.term) old))
      ]

module _ {S C : Type 0} (m : MachineSpec S C) (law : LawfulMachine m) (n : ℕ) (Q : ℕ → Bool) (i : ℕ) (less_n : i < n) (member_i : Q i ≡ true) (since : ℕ) where
  -- a message of a member that was sent since: server i asks, and the others answer it
  pub record Given (B : ℕ) (L : List (Entry C)) (y : Message C) : Type 0 where
    pub term : y.term ≤ B
    pub says : ((y.from ≡ i) × Carries y.body L) ⊎ ((y.from ≢ i) × (y.to ≡ i) × IsReply y.body)

  -- a member
  pub record Member (B : ℕ) (L : List (Entry C)) (s : Raft C) : Type 0 where
    pub up : is_up s.mode ≡ true
    pub low : s.term ≤ B
    pub ends : Ends (length s.log) (last_term s.log) L

  pub record Inv (B T : ℕ) (x : World C) : Type 0 where
    pub reached : Reached m n x
    pub me : Raft C
    pub here : slice_get x.servers i ≡ Some me
    pub each : (j : ℕ) (s : Raft C) → j < n → Q j ≡ true → slice_get x.servers j ≡ Some s → Member B me.log s
    pub free : (j : ℕ) (s : Raft C) → j < n → Q j ≡ true → j ≢ i → slice_get x.servers j ≡ Some s → Free i T s
    pub given : (p : ℕ) (y : Message C) → since ≤ p → slice_get x.sent p ≡ Some y → Q y.from ≡ true → Given B me.log y

  -- server i's own turn
  pub inv_acts : (B T B2 T2 : ℕ) (x : World C) (v : Inv B T x) (turn : RaftTurn C) (a : Acts i v.me turn) → B ≤ B2 → turn.server.term ≤ B2 → ((s : Raft C) → s.term ≤ B → Free i T s → Free i T2 s) →
      Reached m n (turned m n x i turn) → Inv B2 T2 (turned m n x i turn)
  inv_acts B T B2 T2 x v turn a le top freeing r = record {
    reached = r;
    me = turn.server;
    here = turned_here m n x i turn v.me v.here;
    each = λ j s less q there. elim (get_set-cases x.servers i turn.server j s there) [
      | inl e ↦ subst (λ z. Member B2 turn.server.log z) e.1 (record { up = a.up; low = top; ends = inr (refl, omega arith) })
      | inr e ↦ let g = v.each j s less q e.1 in record { up = g.up; low = omega (arith, g.low, le); ends = ends_grow (length s.log) (last_term s.log) v.me.log turn.server.log a.log g.ends }
    ];
    free = λ j s less q other there. elim (get_set-cases x.servers i turn.server j s there) [
      | inl e ↦ absurd (other e.0)
      | inr e ↦ let g = v.each j s less q e.1 in freeing s g.low (v.free j s less q other e.1)
    ];
    given = λ p y from there q. elim (get-split x.sent turn.sent p y there) [
      | inl e ↦ let g = v.given p y from e q in record {
        term = omega (arith, g.term, le);
        says = elim g.says [ inl z ↦ inl (z.0, carries_grow v.me.log turn.server.log a.log y.body z.1) | inr z ↦ inr z ];
      }
      | inr e ↦ let g = a.says e.0 y e.1 in record { term = omega (arith, g.1, top); says = inl (g.0, g.2) }
    ];
  }

  -- the turn of another member, which server i asked
  inv_heeds : (B T : ℕ) (x : World C) (v : Inv B T x) (j term : ℕ) (body : Body C) (s : Raft C) (turn : RaftTurn C) → j < n → Q j ≡ true → j ≢ i → slice_get x.servers j ≡ Some s → term ≤ B → term ≤ T → Carries body v.me.log →
      Heeds j i s term body turn → Reached m n (turned m n x j turn) → Inv B T (turned m n x j turn)
  inv_heeds B T x v j term body s turn less_j q_j other there low fits c h r =
      let old = v.each j s less_j q_j there in
      let top : turn.server.term ≤ B = omega (arith, h.term_is, low, old.low) in
      record {
        reached = r;
        me = v.me;
        here = get_set-other x.servers j turn.server i (λ e. other (sym e)) ∙ v.here;
        each = λ k z less q at. elim (get_set-cases x.servers j turn.server k z at) [
          | inl e ↦ subst (λ y. Member B v.me.log y) e.1 (record { up = h.up; low = top; ends = h.log v.me.log old.ends c })
          | inr e ↦ v.each k z less q e.1
        ];
        free = λ k z less q apart at. elim (get_set-cases x.servers j turn.server k z at) [
          | inl e ↦ subst (λ y. Free i T y) e.1 (h.free T fits (v.free j s less_j q_j other there))
          | inr e ↦ v.free k z less q apart e.1
        ];
        given = λ p y from at q. elim (get-split x.sent turn.sent p y at) [
          | inl e ↦ v.given p y from e q
          | inr e ↦ elim h.says [
            | inl none ↦ absurd (let z = subst (λ l. slice_get l e.0 ≡ Some y) none e.1 in cc)
            | inr one ↦
                let is = get-one (record { from = j; to = i; term = turn.server.term; body = one.0 }) e.0 y (subst (λ l. slice_get l e.0 ≡ Some y) one.1 e.1) in
                subst (λ z. Given B v.me.log z) is (record { term = top; says = inr (other, refl, one.2) })
          ]
        ];
      }

  -- the turn of a server outside
  inv_outside : (B T : ℕ) (x : World C) (v : Inv B T x) (j : ℕ) (turn : RaftTurn C) → Q j ≡ false → ((p : ℕ) (y : Message C) → slice_get turn.sent p ≡ Some y → y.from ≡ j) → Reached m n (turned m n x j turn) → Inv B T (turned m n x j turn)
  inv_outside B T x v j turn out from r =
      let apart : (k : ℕ) → Q k ≡ true → k ≢ j = λ k q e. true≢false (sym q ∙ (ap Q e ∙ out)) in
      record {
        reached = r;
        me = v.me;
        here = get_set-other x.servers j turn.server i (apart i member_i) ∙ v.here;
        each = λ k z less q at. elim (get_set-cases x.servers j turn.server k z at) [ inl e ↦ absurd (apart k q e.0) | inr e ↦ v.each k z less q e.1 ];
        free = λ k z less q other at. elim (get_set-cases x.servers j turn.server k z at) [ inl e ↦ absurd (apart k q e.0) | inr e ↦ v.free k z less q other e.1 ];
        given = λ p y place at q. elim (get-split x.sent turn.sent p y at) [ inl e ↦ v.given p y place e q | inr e ↦ absurd (apart y.from q (from e.0 y e.1)) ];
      }

  -- after an event: server i still stands, if it is in the same term
  pub record Next (B T : ℕ) (x y : World C) (v : Inv B T x) : Type 0 where
    pub inv : Inv B T y
    pub stands : inv.me.term ≡ v.me.term → IsStanding v.me.mode → IsStanding inv.me.mode

  module _ (B T : ℕ) (x : World C) (v : Inv B T x) where
    -- by server i
    next_acts : (input : Input C) (y : World C) (k : Taken m n x i input y) → ((turn : RaftTurn C) → step m n i v.me input ≡ Ok turn → Acts i v.me turn × (turn.server.term ≤ B)) → Reached m n y → Next B T x y v
    unfolding inv_acts
    next_acts input y k acts r =
        let mine : k.server ≡ v.me = same_Some k.server v.me (sym k.here ∙ v.here) in
        let a = acts k.turn (subst (λ z. step m n i z input ≡ Ok k.turn) mine k.step_is) in
        subst (λ z. Next B T x z v) (sym k.is) (record {
          inv = inv_acts B T B T x v k.turn a.0 (omega arith) a.1 (λ s low f. f) (subst (λ z. Reached m n z) k.is r);
          stands = λ same role. let g = a.0 in g.stands same role;
        })

    -- by a server outside
    next_outside : (j : ℕ) (input : Input C) (y : World C) (k : Taken m n x j input y) → CameIn m x.sent j input → Q j ≡ false → Reached m n y → Next B T x y v
    unfolding inv_outside
    next_outside j input y k came out r = subst (λ z. Next B T x z v) (sym k.is) (record {
      inv = inv_outside B T x v j k.turn out (turn_from m n j x.sent k.server k.turn.server k.turn.sent (step_path m n j x.sent k.server input k.turn came k.step_is)) (subst (λ z. Reached m n z) k.is r);
      stands = λ same role. role;
    })

    limits : Limits v.me
    limits = reached_limits m n law x v.reached i v.me v.here

    mine : Member B v.me.log v.me
    mine = v.each i v.me less_n member_i v.here

    next_deliver : (fits : B ≤ T) (place : ℕ) (y : World C) → IsCalm Q i since x (Deliver place) → happens m x (Deliver place) ≡ Ok y → Next B T x y v
    unfolding inv_heeds
    next_deliver fits place y calm h =
        let r = reached_next m n x (Deliver place) y v.reached tt h in
        let size = reached_size m n x v.reached in
        let d = delivered m n x place y size h in
        let msg = d.message in
        let k = d.taken in
        elim (bool_cases (Q msg.to)) [
          | inr out ↦ next_outside msg.to (Arrives msg) y k ((place, d.at), refl) out r
          | inl q ↦
              let c = calm msg d.at q in
              let g = v.given place msg c.0 d.at c.1 in
              let bounds : Bounds n x = run_bounds m n v.reached.events v.reached.past x v.reached.run in
              let ok : IsAmongMembers n msg = bounds.given msg (place, d.at) in
              by y msg k q g ok r
        ]
      where
        by : (y : World C) (msg : Message C) (k : Taken m n x msg.to (Arrives msg) y) → Q msg.to ≡ true → Given B v.me.log msg → IsAmongMembers n msg → Reached m n y → Next B T x y v
        by y msg k q g ok r = elim g.says [
          | inl asks ↦
              let other : msg.to ≢ i = λ e. ok.apart (asks.0 ∙ sym e) in
              let old = v.each msg.to k.server ok.to q k.here in
              let its : Limits k.server = reached_limits m n law x v.reached msg.to k.server k.here in
              let is : k.turn ≡ receives m.noop n msg.to (term_observed msg.term k.server) msg.from msg.term msg.body = same_ok _ _ (sym k.step_is ∙ step_arrives m n msg.to k.server msg old.up ok.from) in
              let hd : Heeds msg.to i k.server msg.term msg.body k.turn = subst (λ t. Heeds msg.to i k.server msg.term msg.body t) (sym is)
              (subst (λ f. Heeds msg.to i k.server msg.term msg.body (receives m.noop n msg.to (term_observed msg.term k.server) f msg.term msg.body)) (sym asks.0)
              (heeds m n msg.to i k.server old.up its.commit msg.term v.me.log msg.body asks.1)) in
              subst (λ z. Next B T x z v) (sym k.is) (record {
                inv = inv_heeds B T x v msg.to msg.term msg.body k.server k.turn ok.to q other k.here g.term (omega (arith, g.term, fits)) asks.1 hd (subst (λ z. Reached m n z) k.is r);
                stands = λ same role. role;
              })
          | inr answers ↦
              let low = mine in
              next_acts (Arrives msg) y (subst (λ j. Taken m n x j (Arrives msg) y) answers.1 k) (λ turn is.
              let a = acts_reply m n i v.me low.up limits msg.from msg.term msg.body answers.2 in
              let e : receives m.noop n i (term_observed msg.term v.me) msg.from msg.term msg.body ≡ turn = same_ok _ _ (sym (step_arrives m n i v.me msg low.up ok.from) ∙ is) in
              subst (λ t. Acts i v.me t × (t.server.term ≤ B)) e (a.0, omega (arith, a.1, low.low, g.term))) r
        ]

    -- a compaction of another member
    next_compact : (j : ℕ) (y : World C) (k : Taken m n x j Compact y) → j < length x.servers → Q j ≡ true → j ≢ i → Reached m n y → Next B T x y v
    unfolding inv_heeds Carries
    next_compact j y k within q other r =
        let less : j < n = omega (arith, within, reached_size m n x v.reached) in
        let old = v.each j k.server less q k.here in
        let is : silent (compacted k.server) ≡ k.turn = same_ok _ _ (rw old.up at k.step_is) in
        let h : Heeds j i k.server 0 (VoteRequest 0 0) k.turn = subst (λ t. Heeds j i k.server 0 (VoteRequest 0 0) t) is (record {
          up = old.up;
          term_is = omega arith;
          log = λ L e c. e;
          says = inl refl;
          free = λ U le f. f;
        }) in
        subst (λ z. Next B T x z v) (sym k.is) (record {
          inv = inv_heeds B T x v j 0 (VoteRequest 0 0) k.server k.turn less q other k.here (omega arith) (omega arith) tt h (subst (λ z. Reached m n z) k.is r);
          stands = λ same role. role;
        })

    pub next_event : (fits : B ≤ T) (e : Event C) (y : World C) → IsEvent m e → IsCalm Q i since x e → happens m x e ≡ Ok y → Next B T x y v
    next_event fits (Deliver place) y is calm h = next_deliver fits place y calm h
    next_event fits (TimesOut j) y is calm h = next_outside j Timeout y (taken m n x j Timeout y (reached_size m n x v.reached) h) tt calm (reached_next m n x (TimesOut j) y v.reached tt h)
    next_event fits (Crashes j) y is calm h = next_outside j Crash y (taken m n x j Crash y (reached_size m n x v.reached) h) tt calm (reached_next m n x (Crashes j) y v.reached tt h)
    next_event fits (Restarts j) y is calm h = next_outside j Restart y (taken m n x j Restart y (reached_size m n x v.reached) h) tt calm (reached_next m n x (Restarts j) y v.reached tt h)
    next_event fits (Beats j) y is calm h =
        let k = taken m n x j Beat y (reached_size m n x v.reached) h in
        let r = reached_next m n x (Beats j) y v.reached tt h in
        elim (bool_cases (Q j)) [
          | inr out ↦ next_outside j Beat y k tt out r
          | inl q ↦ next_acts Beat y (subst (λ z. Taken m n x z Beat y) (calm q) k) (λ turn is.
              let low = mine in
              let e : record { server = v.me; sent = beats n i v.me v.me.mode } ≡ turn = same_ok _ _ (rw low.up at is) in
              subst (λ t. Acts i v.me t × (t.server.term ≤ B)) e
              (acts_beat m n i v.me low.up limits (λ next match mode. leader_facts m n x v.reached i v.me next match v.here mode), low.low)) r
        ]
    next_event fits (Compacts j) y is calm h =
        let k = taken m n x j Compact y (reached_size m n x v.reached) h in
        let r = reached_next m n x (Compacts j) y v.reached tt h in
        elim (bool_cases (Q j)) [
          | inr out ↦ next_outside j Compact y k tt out r
          | inl q ↦ elim (eqb_tells j i) [
            | inl e ↦ next_acts Compact y (subst (λ z. Taken m n x z Compact y) e.1 k) (λ turn is.
                let low = mine in
                subst (λ t. Acts i v.me t × (t.server.term ≤ B)) (same_ok _ _ (rw low.up at is)) (acts_compact m n i v.me low.up limits, low.low)) r
            | inr e ↦ next_compact j y k (get-within x.servers j k.server k.here) q e.1 r
          ]
        ]
    next_event fits (Proposes j command) y is calm h =
        let k = taken m n x j (Propose command) y (reached_size m n x v.reached) h in
        let r = reached_next m n x (Proposes j command) y v.reached is h in
        elim (bool_cases (Q j)) [
          | inr out ↦ next_outside j (Propose command) y k is out r
          | inl q ↦ next_acts (Propose command) y (subst (λ z. Taken m n x z (Propose command) y) (calm q) k) (λ turn s.
              let low = mine in
              let a = acts_propose m n i v.me low.up limits command turn s in
              (a.0, omega (arith, a.1, low.low))) r
        ]

  -- from one world of a calm part to another
  pub record Came (B T : ℕ) (x y : World C) (v : Inv B T x) : Type 0 where
    pub inv : Inv B T y
    pub term : v.me.term ≤ inv.me.term
    -- who stands in the greatest term stands on
    pub campaign : v.me.term ≡ B → IsStanding v.me.mode → Campaign m i B x y

  pub calm_on_inv : (B T : ℕ) → B ≤ T → (x y : World C) (v : Inv B T x) → Calm m Q i since x y → Came B T x y v
  calm_on_inv B T fits x y v calm_here = record {
    inv = v;
    term = omega arith;
    campaign = λ term role. stands_here (record { server = v.me; here = v.here; term = term; role = role });
  }
  calm_on_inv B T fits x y v (calm_on {x = z} e u c is calm h) =
      let old = calm_on_inv B T fits x z v c in
      let next = next_event B T z old.inv fits e y is calm h in
      let rises : old.inv.me.term ≤ next.inv.me.term = event_term m n z y e old.inv.reached is h i old.inv.me next.inv.me old.inv.here next.inv.here in
      let low : Member B next.inv.me.log next.inv.me = next.inv.each i next.inv.me less_n member_i next.inv.here in
      record {
        inv = next.inv;
        term = omega (arith, old.term, rises);
        campaign = λ term role.
            let same : old.inv.me.term ≡ B = let l : Member B old.inv.me.log old.inv.me = old.inv.each i old.inv.me less_n member_i old.inv.here in omega (arith, term, old.term, l.low) in
            let now : next.inv.me.term ≡ B = omega (arith, same, rises, low.low) in
            stands_on e y (old.campaign term role) is h (record {
              server = next.inv.me;
              here = next.inv.here;
              term = now;
              role = next.stands (omega (arith, now, same)) (stands_at z old.inv.me old.inv.here (old.campaign term role));
            });
      }
    where
      stands_at : (z : World C) (s : Raft C) → slice_get z.servers i ≡ Some s → Campaign m i B x z → IsStanding s.mode
      stands_at z s here (stands_here l) = subst (λ (a : Raft C). IsStanding a.mode) (same_Some l.server s (sym l.here ∙ here)) l.role
      stands_at z s here (stands_on e u p is h l) = subst (λ (a : Raft C). IsStanding a.mode) (same_Some l.server s (sym l.here ∙ here)) l.role
