-- The log's world carries its servers' processes.
use Rattle.std.proofs.Common.{◌≡◌, ◌≢◌, ℕ, ◌-◌, zero, suc, ◌⊎◌, ◌<◌, inl, inr, true, Some, Ok, List, [], ◌∷◌, ◌++◌, length, replicate, refl, sym, ap, ◌∙◌, subst, arith, slice_get, slice_set}
use Rattle.std.proofs.lemmas.Bool.Decides.{eqb_tells}
use Rattle.machine_model.specs.MachineSpec.{MachineSpec, LawfulMachine}
use Rattle.raft_model.specs.Messages.{Message}
use Rattle.raft_model.specs.Rafts.{Raft, Mode, Down, Follower, Candidate, Leader, newcomer, is_up, is_leader, crashed}
use Rattle.raft_model.specs.Steps.{Input, Arrives, Timeout, Beat, Propose, Compact, Crash, Restart, step}
use Rattle.raft_model.specs.Worlds.{World, Event, Deliver, TimesOut, Beats, Proposes, Compacts, Crashes, Restarts, Run, start, more, first, IsEvent, happens, takes, delivers, input_to, after_turn, Leads}
use Rattle.raft_model.specs.Chains.{At, Agree}
use Rattle.raft_safety.proofs.Places.{get_set-same, get-within}
use Rattle.raft_safety.proofs.Limits.{run_bounds}
use Rattle.raft_safety.proofs.Paths.{CameIn, step_path}
use Rattle.raft_safety.proofs.Election.{one_leader}
use Rattle.raft_safety.proofs.Chains.{st, chain, log_matching}
use Rattle.raft_safety.proofs.Settling.{settled as committed_settled}
use Rattle.raft_model.specs.Logs.{term_at}
use Rattle.processes.specs.Processes.{System, Execution}
use Rattle.processes.specs.Claims.{OccursIn, RefinesWorld}
use Rattle.processes.proofs.Simulated.{OneEvent, IsSimulated}
use Rattle.processes.specs.Claims as claims
use Rattle.processes.specs.Logs.{Persistent, persistent_of, started, stopped, IsOffered, log_actors, log_abstraction, KeepsOneList}
use Rattle.processes.proofs.Generic.{refines}
use Rattle.processes.proofs.Fine.{raft_fine}

-- what stands elsewhere stays
pub get_set-other : {A : Type 0} (xs : List A) (i : ℕ) (x : A) (j : ℕ) → j ≢ i → slice_get (slice_set xs i x) j ≡ slice_get xs j
get_set-other [] i x j h = refl
get_set-other (z ∷ zs) zero x zero h = absurd (h refl)
get_set-other (z ∷ zs) zero x (suc j) h = refl
get_set-other (z ∷ zs) (suc i) x zero h = refl
get_set-other (z ∷ zs) (suc i) x (suc j) h = get_set-other zs i x j (λ e. h (ap suc e))

module _ {S C : Type 0} (m : MachineSpec S C) (n : ℕ) where
  abbrev UpOrStopped : Raft C → Type 0
  UpOrStopped s = (is_up s.mode ≡ true) ⊎ (s ≡ stopped (persistent_of s))

  module _ (events : List (Event C)) (past : List (World C)) (w : World C) (reach : Run m n events past w) where
    abbrev One : ℕ → Raft C → List (Message C) → Type 0
    One i b out = OneEvent (log_actors m n) (log_abstraction m n) stopped events past w i b out

    -- one event at a server
    server_more : (i : ℕ) (s b : Raft C) (out : List (Message C)) (e : Event C) → slice_get w.servers i ≡ Some s → IsEvent m e →
        happens m w e ≡ Ok (record { servers = slice_set w.servers i b; sent = w.sent ++ out }) → One i b out
    server_more i s b out e here is h = record {
      event = e;
      next = record { servers = slice_set w.servers i b; sent = w.sent ++ out };
      reach = more e (record { servers = slice_set w.servers i b; sent = w.sent ++ out }) reach is h;
      here = get_set-same w.servers i b (get-within w.servers i s here);
      others = λ j other. get_set-other w.servers i b j other;
      sent_is = refl;
    }

    takes_is : (i : ℕ) (s b : Raft C) (input : Input C) (out : List (Message C)) → slice_get w.servers i ≡ Some s → step m n i s input ≡ Ok (record { server = b; sent = out }) →
        takes m w i input ≡ Ok (record { servers = slice_set w.servers i b; sent = w.sent ++ out })
    takes_is i s b input out here h =
        let size : length w.servers ≡ n = (run_bounds m n events past w reach).size in
        ap (input_to m w i input) here ∙ ap (after_turn m w i) (subst (λ k. step m k i s input ≡ Ok (record { server = b; sent = out })) (sym size) h)

    does_one : (i : ℕ) (s b : Raft C) (input : Input C) (out : List (Message C)) → slice_get w.servers i ≡ Some s → IsOffered m n w.sent i input → step m n i s input ≡ Ok (record { server = b; sent = out }) → One i b out
    does_one i s b (Arrives message) out here offered h = server_more i s b out (Deliver offered.0.0) here tt (ap (delivers m w) offered.0.1 ∙ (ap (λ k. takes m w k (Arrives message)) offered.1 ∙ takes_is i s b (Arrives message) out here h))
    does_one i s b Timeout out here offered h = server_more i s b out (TimesOut i) here tt (takes_is i s b Timeout out here h)
    does_one i s b Beat out here offered h = server_more i s b out (Beats i) here tt (takes_is i s b Beat out here h)
    does_one i s b (Propose command) out here offered h = server_more i s b out (Proposes i command) here offered (takes_is i s b (Propose command) out here h)
    does_one i s b Compact out here offered h = server_more i s b out (Compacts i) here tt (takes_is i s b Compact out here h)
    does_one i s b Crash out here offered h = absurd offered
    does_one i s b Restart out here offered h = absurd offered

    crashes : (i : ℕ) (s : Raft C) → slice_get w.servers i ≡ Some s → UpOrStopped s → (s ≡ stopped (persistent_of s)) ⊎ One i (stopped (persistent_of s)) []
    crashes i s here (inl up) = inr (server_more i s (crashed s) [] (Crashes i) here tt (takes_is i s (crashed s) Crash [] here (rw up refl)))
    crashes i s here (inr e) = inl e

    restarts : (i : ℕ) (p : Persistent C) → slice_get w.servers i ≡ Some (stopped p) → One i (started p) []
    restarts i p here = server_more i (stopped p) (started p) [] (Restarts i) here tt (takes_is i (stopped p) (started p) Restart [] here refl)

  grows : (left sent : List (Message C)) (i : ℕ) (input : Input C) → ((x : Message C) → OccursIn left x → OccursIn sent x) → IsOffered m n left i input → IsOffered m n sent i input
  grows left sent i (Arrives message) on offered = (on message offered.0, offered.1)
  grows left sent i Timeout on offered = tt
  grows left sent i Beat on offered = tt
  grows left sent i (Propose command) on offered = offered
  grows left sent i Compact on offered = tt
  grows left sent i Crash on offered = offered
  grows left sent i Restart on offered = offered

  came : (sent : List (Message C)) (i : ℕ) (input : Input C) → IsOffered m n sent i input → CameIn m sent i input
  came sent i (Arrives message) offered = offered
  came sent i Timeout offered = tt
  came sent i Beat offered = tt
  came sent i (Propose command) offered = offered
  came sent i Compact offered = tt
  came sent i Crash offered = tt
  came sent i Restart offered = tt

  newcomers : (k i : ℕ) → i < k → slice_get (replicate k newcomer) i ≡ Some (started (persistent_of {C = C} newcomer))
  newcomers zero i less = absurd (omega (arith, less))
  newcomers (suc k) zero less = refl
  newcomers (suc k) (suc i) less = newcomers k i (omega (arith, less))

  names : (j k : ℕ) → (j ≡ k) ⊎ (j ≢ k)
  names j k = elim (eqb_tells j k) [ inl e ↦ inl e.1 | inr e ↦ inr e.1 ]

  pub log_is_simulated : IsSimulated (log_actors m n) (log_abstraction m n) stopped UpOrStopped
  log_is_simulated = record {
    same_name = names;
    first = first n;
    begins = start;
    first_actor = λ i less. newcomers n i less;
    grows = λ left sent i a b input out on t. (grows left sent i input on t.0, t.1);
    does = λ events past w i a b input out reach here t. does_one events past w reach i a b input out here t.0 t.1;
    crashes = λ events past w i a reach here fine. crashes events past w reach i a here fine;
    restarts = λ events past w i p reach here. restarts events past w reach i p here;
    store_begin = λ p. refl;
    fine_begin = λ p. inl refl;
    fine_takes = λ sent i a b input out fine t. raft_fine m n i sent a b out (step_path m n i sent a input (record { server = b; sent = out }) (came sent i input t.0) t.1);
  }

-- a leader in a world
leads : {C : Type 0} (past : List (World C)) (w : World C) (k i : ℕ) (s : Raft C) (a : At past w k i s) (t : ℕ) → s.term ≡ t → (mode : Mode) → s.mode ≡ mode → is_leader mode ≡ true → Leads a.world i t
leads past w k i s a t term Down e h = absurd (cc)
leads past w k i s a t term Follower e h = absurd (cc)
leads past w k i s a t term (Candidate votes) e h = absurd (cc)
leads past w k i s a t term (Leader next match) e h = record { server = s; next = next; match = match; here = a.here; mode = e; term = term }

leads_server : {C : Type 0} (past : List (World C)) (w : World C) (k i : ℕ) (s : Raft C) (a : At past w k i s) (mode : Mode) (e : s.mode ≡ mode) (h : is_leader mode ≡ true) → (leads past w k i s a s.term refl mode e h).server ≡ s
unfolding leads
leads_server past w k i s a Down e h = absurd (cc)
leads_server past w k i s a Follower e h = absurd (cc)
leads_server past w k i s a (Candidate votes) e h = absurd (cc)
leads_server past w k i s a (Leader next match) e h = refl

module _ {S C : Type 0} (m : MachineSpec S C) (n : ℕ) (before : List (System (log_actors m n))) (g : System (log_actors m n)) (c : Execution (log_actors m n) before g) where
  pub log_world : RefinesWorld (log_actors m n) (log_abstraction m n) stopped before g
  log_world = refines (log_actors m n) (log_abstraction m n) stopped (UpOrStopped m n) (log_is_simulated m n) before g c

  at_of : (past : List (World C)) (w : World C) (l i : ℕ) (s : Raft C) → claims.WasAt (log_actors m n) (log_abstraction m n) stopped past w l i s → At past w l i s
  at_of past w l i s a = record { world = a.world; world_is = a.world_is; here = a.here }

  pub keeps_one_list : LawfulMachine m → KeepsOneList m n g
  keeps_one_list law =
      let W = log_world in
      let s = st m law n W.events W.past W.world W.reach in
      let ch = chain m law n W.events W.past W.world W.reach in
      record {
        list = s.list;
        agrees = λ k t at_k. let a = W.told k k t t (omega arith) at_k at_k in ch.agrees a.first t.who t.actor (at_of W.past W.world a.first t.who t.actor a.first_at);
        complete = λ k l t u le at_k at_l u_leads term.
            let a = W.told k l t u le at_k at_l in
            let x = at_of W.past W.world a.first t.who t.actor a.first_at in
            let y = at_of W.past W.world a.second u.who u.actor a.second_at in
            subst (λ (z : Raft C). Agree t.actor.commit s.list z.log)
            (leads_server W.past W.world a.second u.who u.actor y u.actor.mode refl u_leads)
            (ch.complete a.first a.second t.who u.who u.actor.term t.actor y.world a.order x term y.world_is
            (leads W.past W.world a.second u.who u.actor y u.actor.term refl u.actor.mode refl u_leads));
        leaders = λ k l t u at_k at_l t_leads u_leads term.
            let a = W.told k k t t (omega arith) at_k at_k in
            let b = W.told l l u u (omega arith) at_l at_l in
            let x = at_of W.past W.world a.first t.who t.actor a.first_at in
            let y = at_of W.past W.world b.first u.who u.actor b.first_at in
            one_leader m n W.events W.past W.world W.reach a.first b.first x.world y.world t.who u.who u.actor.term x.world_is y.world_is
            (leads W.past W.world a.first t.who t.actor x u.actor.term term t.actor.mode refl t_leads)
            (leads W.past W.world b.first u.who u.actor y u.actor.term refl u.actor.mode refl u_leads);
        settled = λ k l index t u command at_k at_l one within has.
            let a = W.told k k t t (omega arith) at_k at_k in
            let b = W.told l l u u (omega arith) at_l at_l in
            let x = at_of W.past W.world a.first t.who t.actor a.first_at in
            let y = at_of W.past W.world b.first u.who u.actor b.first_at in
            let q = committed_settled W.past W.world (log_matching m law n W.events W.past W.world W.reach) s.list ch a.first t.who index t.actor x one within in
            let e : command ≡ q.entry.command = q.settled.alone command (record { moment = b.first; who = u.who; server = u.actor; at = y; one = one; there = subst (λ z. slice_get u.actor.log (index - 1) ≡ Some (record { term = z; command = command })) (sym q.of) has }) in
            q.settled.there ∙ (ap (λ z. Some (record { term = z; command = q.entry.command })) q.of ∙ ap (λ z. Some (record { term = term_at t.actor.log index; command = z })) (sym e));
      }
