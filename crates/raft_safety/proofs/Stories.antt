-- What the induction over a run carries: the history, the invariants by it, and the one list so
-- far.
use Rattle.std.proofs.Common.{◌≡◌, ℕ, suc, ◌<◌, ◌≤◌, ◌⊎◌, inl, inr, Some, None, List, [], ◌∷◌, ◌++◌, length, take, refl, sym, ap, ◌∙◌, subst, arith, slice_get, true, false, length-take-le}
use Rattle.std.proofs.lemmas.Bool.Decides.{leb_tells}
use Rattle.machine_model.specs.MachineSpec.{MachineSpec, LawfulMachine}
use Rattle.machine_model.specs.declared.entry.Entry.{Entry}
use Rattle.raft_model.specs.Rafts.{Raft, Leader, is_up, newcomer}
use Rattle.raft_model.specs.Worlds.{World, first, Event, Run, start, more, moment, Leads}
use Rattle.raft_model.specs.Chains.{Agree, At, WasCommitted}
use Rattle.raft_model.proofs.Cases.{bool_cases}
use Rattle.raft_safety.specs.Inner.Agreement.{Rooted}
use Rattle.raft_safety.specs.Inner.Ballots.{Voter}
use Rattle.raft_safety.specs.Inner.History.{History, Fixed, Ledgers}
use Rattle.raft_safety.specs.Inner.Invariants.{ModeOk, ServerOk}
use Rattle.raft_safety.proofs.Logs.{agree_none, agree_sym, agree_trans, agree_less, agree_take}
use Rattle.raft_safety.proofs.Completeness.{fixed_in, fixed_two}
use Rattle.raft_safety.proofs.Growth.{fixed_on}
use Rattle.raft_safety.proofs.Places.{get_set-cases, get-one, push_length, get-where, get-more, get-last, replicate-get}
use Rattle.raft_safety.proofs.Paths.{turns_down}
use Rattle.raft_safety.proofs.Frame.{agree_self, rooted_on, fixed_grow, leader_wrote, leader_leads}
use Rattle.raft_safety.proofs.Election.{Moves, event_moves, no_ballots, first_votes, replicate-length}
use Rattle.raft_safety.proofs.Origins.{Born, now_here, born_next}
use Rattle.raft_safety.proofs.Sound.{none_sound}
use Rattle.raft_safety.proofs.Steps.{WorldOk, WorldGoes, world_goes}

-- before the first event
no_history : {C : Type 0} → History C
no_history = record { ballots = no_ballots; stood = λ t c. None; leader = λ t. None; ledger = λ t. []; held = λ u i. 0 }

-- its ledgers are empty
first_ledgers : {C : Type 0} (n : ℕ) → let G : History C = no_history in Ledgers n G
unfolding no_history Rooted
first_ledgers n = record {
  terms = λ t p one le. absurd (omega (arith, one, le));
  rooted = λ t p one le. absurd (omega (arith, one, le));
  unled = λ t h. refl;
  led = λ t c h. absurd (cc);
  elected = λ t c h. absurd (cc);
  late = λ t c h. absurd (cc);
  carries = λ t u k some less one. absurd (omega (arith, some));
  reaches = λ u i. omega arith;
  stands = λ t c L h. absurd (cc);
}

-- each server is borne out by it
first_server : {C : Type 0} (n j : ℕ) → let s : Raft C = newcomer in let G : History C = no_history in Voter n no_ballots j s.term s.vote s.mode → ServerOk n G j s
unfolding no_history Rooted ModeOk
first_server {C = C} n j v = record {
  voter = v;
  unstood = λ t less. refl;
  unheld = λ t less. refl;
  log = record {
    terms = λ p one le. absurd (omega (arith, one, le));
    rooted = λ p one le. absurd (omega (arith, one, le));
    holds = λ u k one le. absurd (omega (arith, one, le));
    own = λ k le. subst (λ c. Agree {C = C} c [] []) (let e : 0 ≡ k = omega (arith, le) in e) (agree_none [] []);
    based = omega arith;
    within = omega arith;
    fixed = inl refl;
  };
  role = tt;
}

-- and the first world
first_ok : {S C : Type 0} (m : MachineSpec S C) (n : ℕ) → let w : World C = first n in let G : History C = no_history in WorldOk m n G w
unfolding no_history
first_ok {C = C} m n =
    let G : History C = no_history in
    let w : World C = first n in
    let start_votes = first_votes {C = C} n in
    record {
      size = replicate-length n _;
      ledgers = first_ledgers n;
      each = λ j s h. subst (λ x. ServerOk n G j x) (replicate-get n _ j s h)
          (first_server n j (start_votes.each j newcomer (h ∙ ap Some (sym (replicate-get n _ j s h)))));
      given = λ x came. absurd (let e = came.1 in cc);
      sound = λ u. none_sound m;
    }

-- an empty log is rooted in any ledgers
first_rooted : {C : Type 0} (log : List (Entry C)) → length log ≡ 0 → let G : History C = no_history in Rooted G.ledger log
unfolding Rooted
first_rooted log none p one le = absurd (omega (arith, none, one, le))

-- no entry wants an origin yet
first_born : {S C : Type 0} (m : MachineSpec S C) (n : ℕ) → let w : World C = first n in let G : History C = no_history in Born m [] [] w G
unfolding no_history
first_born m n = record { own = λ u p less. absurd (omega (arith, less)) }

-- what the induction over a run carries
pub record Story {S C : Type 0} (m : MachineSpec S C) (n : ℕ) (events : List (Event C)) (past : List (World C)) (w : World C) : Type 0 where
  pub even : length events ≡ length past
  pub history : History C
  pub ok : WorldOk m n history w
  pub born : Born m events past w history
  pub list : List (Entry C)
  pub term : ℕ
  pub fixed : Fixed n history term (length list) list
  -- all servers at all moments, by the newest history
  pub committed : (k i : ℕ) (s : Raft C) → At past w k i s → Fixed n history s.term s.commit s.log
  pub rooted : (k i : ℕ) (s : Raft C) → At past w k i s → Rooted history.ledger s.log
  pub agrees : (k i : ℕ) (s : Raft C) → At past w k i s → Agree s.commit s.log list
  pub longest : (list ≡ []) ⊎ WasCommitted past w (length list)
  pub complete : (k l i j t : ℕ) (s : Raft C) (x : World C) → k ≤ l → At past w k i s → s.term ≤ t → moment past w l ≡ Some x → (leads : Leads x j t) →
      Agree s.commit list leads.server.log

module _ {C : Type 0} where
  -- a moment is an old one, or the newest
  at_cases : (past : List (World C)) (w next : World C) (k i : ℕ) (s : Raft C) → At (past ++ w ∷ []) next k i s →
      ((k < length (past ++ w ∷ [])) × At past w k i s) ⊎ ((length (past ++ w ∷ []) ≤ k) × (slice_get next.servers i ≡ Some s))
  at_cases past w next k i s a = elim (get-where (past ++ w ∷ []) (next ∷ []) k a.world a.world_is) [
    | inl e ↦ inl (e.0, record { world = a.world; world_is = e.1; here = a.here })
    | inr e ↦ inr (e.0, subst (λ (x : World C). slice_get x.servers i ≡ Some s) (sym (get-one next e.1.0 a.world e.1.1)) a.here)
  ]

  -- what was reached stays so
  reached_on : (past : List (World C)) (w next : World C) (c : ℕ) → WasCommitted past w c → WasCommitted (past ++ w ∷ []) next c
  reached_on past w next c r = let a = r.at in record {
    moment = r.moment;
    who = r.who;
    server = r.server;
    commit = r.commit;
    up = r.up;
    at = record { world = a.world; world_is = get-more (past ++ w ∷ []) (next ∷ []) r.moment a.world a.world_is; here = a.here };
  }

  -- what is reached now
  reached_now : (past : List (World C)) (w : World C) (i : ℕ) (s : Raft C) → slice_get w.servers i ≡ Some s → is_up s.mode ≡ true → WasCommitted past w s.commit
  reached_now past w i s h up = record { up = up; moment = length past; who = i; server = s; commit = refl; at = record { world = w; world_is = get-last past w; here = h } }

-- a longer list, if a server has committed more
record Longer {C : Type 0} (n : ℕ) (H : History C) (past : List (World C)) (w : World C) (new : Raft C) (old : List (Entry C)) : Type 0 where
  list : List (Entry C)
  term : ℕ
  fixed : Fixed n H term (length list) list
  grows : Agree (length old) old list
  covers : new.commit ≤ length list
  longest : (list ≡ []) ⊎ WasCommitted past w (length list)

-- the list goes on where a server has committed more
longer : {C : Type 0} (n : ℕ) (H : History C) (past : List (World C)) (w : World C) (i v : ℕ) (new : Raft C) (old : List (Entry C)) → Ledgers n H → ServerOk n H i new →
    slice_get w.servers i ≡ Some new → Fixed n H v (length old) old → ((old ≡ []) ⊎ WasCommitted past w (length old)) → (is_up new.mode ≡ false → new.commit ≤ length old) → Longer n H past w new old
longer n H past w i v new old I ok here f top low = elim (leb_tells new.commit (length old)) [
  | inl a ↦ record { list = old; term = v; fixed = f; grows = agree_self old; covers = a.1; longest = top }
  | inr a ↦
      let c = new.commit in
      let size : length (take c new.log) ≡ c = length-take-le c new.log ok.log.within in
      let part : Agree c new.log (take c new.log) = agree_take c c new.log (omega arith) ok.log.within in
      record {
        list = take c new.log;
        term = new.term;
        fixed = subst (λ k. Fixed n H new.term k (take c new.log)) (sym size) (fixed_grow n H new.term c new.log (take c new.log) part ok.log.fixed);
        grows = agree_trans (fixed_two n H v new.term (length old) c (length old) old new.log I f ok.log.fixed (omega arith) (omega (arith, a.1))) (agree_less (length old) (omega (arith, a.1)) part);
        covers = omega (arith, size);
        longest = inr (subst (λ k. WasCommitted past w k) (sym size) (reached_now past w i new here (elim (bool_cases (is_up new.mode)) [ inl b ↦ b | inr b ↦ absurd (omega (arith, a.1, low b)) ])));
      }
]

module _ {S C : Type 0} (m : MachineSpec S C) (law : LawfulMachine m) (n : ℕ) (events : List (Event C)) (past : List (World C)) (w : World C) (event : Event C) (next : World C) (st : Story m n events past w) (x : Moves m w event next) where
  -- the history after the event
  g : WorldGoes m n st.history next x.new
  g = world_goes m law n st.history w event next st.ok x

  -- the server that took the event
  here : slice_get next.servers x.who ≡ Some x.new
  here = now_here m n events past w event next st.even st.history st.ok x g st.born

  -- the list after the event
  more_list : Longer n g.after (past ++ w ∷ []) next x.new st.list
  more_list = longer n g.after (past ++ w ∷ []) next x.who st.term x.new st.list g.ok.ledgers (g.ok.each x.who x.new here) here
      (fixed_on n st.history g.after st.term (length st.list) st.list g.extends st.fixed)
      (elim st.longest [ inl e ↦ inl e | inr r ↦ inr (reached_on past w next (length st.list) r) ])
      (λ down.
      let o = st.ok.each x.who x.old x.here in
      let a = st.agrees (length past) x.who x.old (record { world = w; world_is = get-last past w; here = x.here }) in
      omega (arith, turns_down m (length w.servers) x.who w.sent x.old x.new x.out o.log.based x.path down, a.right))

  -- what was committed is fixed by the newest history
  next_committed : (k i : ℕ) (s : Raft C) → At (past ++ w ∷ []) next k i s → Fixed n g.after s.term s.commit s.log
  next_committed k i s a = elim (at_cases past w next k i s a) [
    | inl e ↦ fixed_on n st.history g.after s.term s.commit s.log g.extends (st.committed k i s e.1)
    | inr e ↦ let o = g.ok.each i s e.1 in o.log.fixed
  ]

  -- all logs
  next_rooted : (k i : ℕ) (s : Raft C) → At (past ++ w ∷ []) next k i s → Rooted g.after.ledger s.log
  next_rooted k i s a = elim (at_cases past w next k i s a) [
    | inl e ↦ rooted_on st.history g.after s.log g.extends (st.rooted k i s e.1)
    | inr e ↦ let o = g.ok.each i s e.1 in o.log.rooted
  ]

  -- nobody has committed more than the list
  now_covers : (i : ℕ) (s : Raft C) → slice_get next.servers i ≡ Some s → s.commit ≤ length more_list.list
  now_covers i s h = elim (get_set-cases w.servers x.who x.new i s (subst (λ l. slice_get l i ≡ Some s) x.servers h)) [
    | inl e ↦ omega (arith, more_list.covers, ap (λ (y : Raft C). y.commit) e.1)
    | inr e ↦
        let a = st.agrees (length past) i s (record { world = w; world_is = get-last past w; here = e.1 }) in
        let b = more_list.grows in omega (arith, a.right, b.right)
  ]

  -- all have committed a first part of it
  next_agrees : (k i : ℕ) (s : Raft C) → At (past ++ w ∷ []) next k i s → Agree s.commit s.log more_list.list
  next_agrees k i s a = elim (at_cases past w next k i s a) [
    | inl e ↦ let b = st.agrees k i s e.1 in agree_trans b (agree_less s.commit b.right more_list.grows)
    | inr e ↦ let o = g.ok.each i s e.1 in
        fixed_two n g.after s.term more_list.term s.commit (length more_list.list) s.commit s.log more_list.list g.ok.ledgers o.log.fixed more_list.fixed (omega arith) (now_covers i s e.1)
  ]

  -- a leader's log is the ledger of its term
  leads_log : (j t : ℕ) (leads : Leads next j t) → (1 ≤ length (g.after.ledger t)) × (leads.server.log ≡ g.after.ledger t)
  leads_log j t leads =
      let o = g.ok.each j leads.server leads.here in
      let I = g.ok.ledgers in (
        subst (λ u. 1 ≤ length (g.after.ledger u)) leads.term (I.led leads.server.term j (leader_leads n g.after j leads.server (Leader leads.next leads.match) o leads.mode refl)),
        leader_wrote n g.after j leads.server (Leader leads.next leads.match) o leads.mode refl ∙ ap g.after.ledger leads.term,
      )

  -- a leader of the newest world
  last_complete : (k i j t : ℕ) (s : Raft C) (y : World C) → At (past ++ w ∷ []) next k i s → s.term ≤ t → next ≡ y → (leads : Leads y j t) →
      Agree s.commit more_list.list leads.server.log
  last_complete k i j t s y a low same leads =
      let f : (ls : Leads next j t) → Agree s.commit more_list.list ls.server.log = λ ls.
      let q = leads_log j t ls in
      subst (λ L. Agree s.commit more_list.list L) (sym q.1)
      (agree_trans (agree_sym (next_agrees k i s a)) (fixed_in n g.after s.term t s.commit s.log g.ok.ledgers (next_committed k i s a) low q.0)) in
      let h : (z : World C) → next ≡ z → (ls : Leads z j t) → Agree s.commit more_list.list ls.server.log = λ z q. subst (λ v. (ls : Leads v j t) → Agree s.commit more_list.list ls.server.log) q f in
      h y same leads

  -- each leader
  next_complete : (k l i j t : ℕ) (s : Raft C) (y : World C) → k ≤ l → At (past ++ w ∷ []) next k i s → s.term ≤ t → moment (past ++ w ∷ []) next l ≡ Some y → (leads : Leads y j t) →
      Agree s.commit more_list.list leads.server.log
  next_complete k l i j t s y le a low at leads = elim (get-where (past ++ w ∷ []) (next ∷ []) l y at) [
    | inl e ↦ elim (at_cases past w next k i s a) [
      | inl b ↦ let c = st.complete k l i j t s y le b.1 low e.1 leads in agree_trans (agree_sym (agree_less s.commit c.left more_list.grows)) c
      | inr b ↦ absurd (omega (arith, le, e.0, b.0))
    ]
    | inr e ↦
        let same : next ≡ y = get-one next e.1.0 y e.1.1 in
        last_complete k i j t s y a low same leads
  ]

  -- an event goes on with it
  pub next_story : Story m n (events ++ event ∷ []) (past ++ w ∷ []) next
  next_story = record {
    even = push_length events event ∙ (ap suc st.even ∙ sym (push_length past w));
    history = g.after;
    ok = g.ok;
    born = born_next m n events past w event next st.even st.history st.ok x g st.born;
    list = more_list.list;
    term = more_list.term;
    fixed = more_list.fixed;
    committed = next_committed;
    rooted = next_rooted;
    agrees = next_agrees;
    longest = more_list.longest;
    complete = next_complete;
  }

module _ {S C : Type 0} (m : MachineSpec S C) (law : LawfulMachine m) (n : ℕ) where
  -- the first world has newcomers alone
  first_server_is : (k i : ℕ) (s : Raft C) → At [] (first n) k i s → s ≡ newcomer
  first_server_is k i s a =
      let w : first n ≡ a.world = get-one (first n) k a.world a.world_is in
      sym (replicate-get n newcomer i s (ap (λ (x : World C). slice_get x.servers i) w ∙ a.here))

  -- who have committed nothing
  first_zero : (k i : ℕ) (s : Raft C) → At [] (first n) k i s → s.commit ≡ 0
  first_zero k i s a = ap (λ (x : Raft C). x.commit) (first_server_is k i s a)

  -- every run has a story
  pub story : (events : List (Event C)) (past : List (World C)) (w : World C) → Run m n events past w → Story m n events past w
  story events past w start = record {
    even = refl;
    history = no_history;
    ok = first_ok m n;
    born = first_born m n;
    list = [];
    term = 0;
    fixed = inl refl;
    committed = λ k i s a. inl (first_zero k i s a);
    rooted = λ k i s a. first_rooted s.log (ap (λ (x : Raft C). length x.log) (first_server_is k i s a));
    agrees = λ k i s a. subst (λ c. Agree c s.log []) (sym (first_zero k i s a)) (agree_none s.log []);
    longest = inl refl;
    complete = λ k l i j t s x le a low at leads. subst (λ c. Agree c [] leads.server.log) (sym (first_zero k i s a)) (agree_none [] leads.server.log);
  }
  story events past w (more {events = es} {past = before} {w = last} e next r is h) = next_story m law n es before last e w (story es before last r) (event_moves m last w e is h)
