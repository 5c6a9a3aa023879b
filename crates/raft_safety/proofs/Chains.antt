-- The one list of a run, and what the story says of logs, states and origins.
use Rattle.std.proofs.Common.{◌≡◌, ℕ, suc, ◌<◌, ◌≤◌, inl, inr, Some, List, [], length, take, sym, ap, ◌∙◌, subst, arith, take_all}
use Rattle.std.proofs.lemmas.Bool.Decides.{leb_tells}
use Rattle.machine_model.specs.MachineSpec.{MachineSpec, LawfulMachine}
use Rattle.machine_model.specs.After.{Admitted}
use Rattle.machine_model.specs.declared.entry.Entry.{Entry}
use Rattle.raft_model.specs.Logs.{term_at, commands, state_after}
use Rattle.raft_model.specs.Rafts.{Raft}
use Rattle.raft_model.specs.Worlds.{World, Event, Run, moment}
use Rattle.raft_model.specs.Chains.{Agree, At, Chain}
use Rattle.raft_safety.specs.Inner.History.{Fixed}
use Rattle.raft_safety.specs.Inner.Invariants.{ServerOk}
use Rattle.raft_safety.specs.Claims.{LogMatching, IsGreatestCommit, Origin}
use Rattle.raft_safety.proofs.Logs.{agree_none, agree_sym, agree_trans, agree_less, agree_term, rooted_two, rooted_at}
use Rattle.raft_safety.proofs.Election.{one_leader}
use Rattle.raft_safety.proofs.WritingSteps.{log_sound, none_is}
use Rattle.raft_safety.proofs.Sound.{Sound, none_sound, first_sound, sound_safe, sound_admitted}
use Rattle.raft_safety.proofs.Origins.{origin_agree}
use Rattle.raft_safety.proofs.Moments.{front_get}
use Rattle.raft_safety.proofs.Runs.{run_front}
use Rattle.raft_safety.proofs.Stories.{Story, story}

module _ {C : Type 0} (past : List (World C)) (w : World C) where
  -- the list of a run ends where a server's commit index was
  chain_end : (A B : List (Entry C)) → Chain past w A → ((k i : ℕ) (s : Raft C) → At past w k i s → Agree s.commit s.log B) → Agree (length A) A B
  chain_end A B a b = elim a.longest [
    | inl e ↦ subst (λ X. Agree (length X) X B) (sym e) (agree_none [] B)
    | inr r ↦ subst (λ c. Agree c A B) r.commit (agree_trans (agree_sym (a.agrees r.moment r.who r.server r.at)) (b r.moment r.who r.server r.at))
  ]

  -- one run has one list
  pub chain_one : (A B : List (Entry C)) → Chain past w A → Chain past w B → A ≡ B
  chain_one A B a b =
      let x = chain_end A B a b.agrees in
      let y = chain_end B A b a.agrees in
      sym (take_all (length A) A (omega arith)) ∙ (x.same ∙ take_all (length A) B y.right)

  -- the list is as long as the greatest commit index of a server that was up
  pub chain_length : (A : List (Entry C)) → Chain past w A → IsGreatestCommit past w (length A)
  chain_length A a = record {
    bound = λ k i s at up. let g = a.agrees k i s at in g.right;
    reached = elim a.longest [ inl e ↦ inl (ap length e) | inr r ↦ inr r ];
  }

  -- two greatest ones are in order
  at_most : (c d : ℕ) → IsGreatestCommit past w c → IsGreatestCommit past w d → c ≤ d
  at_most c d a b = elim a.reached [
    | inl e ↦ omega (arith, e)
    | inr r ↦ omega (arith, r.commit, b.bound r.moment r.who r.server r.at r.up)
  ]

  -- and so there is one
  pub greatest_one : (c d : ℕ) → IsGreatestCommit past w c → IsGreatestCommit past w d → c ≡ d
  greatest_one c d a b = omega (arith, at_most c d a b, at_most d c b a)

module _ {C : Type 0} where
  -- a server at an earlier moment of a part of the run is one of the run
  at_front : (past : List (World C)) (w : World C) (l : ℕ) (x : World C) → moment past w l ≡ Some x → (k i : ℕ) (s : Raft C) → At (take l past) x k i s → At past w k i s
  at_front past w l x at k i s a = record { world = a.world; world_is = front_get past w l x at k a.world a.world_is; here = a.here }

  -- the list of a run begins with that of each first part of it
  pub chain_front : (past : List (World C)) (w : World C) (list : List (Entry C)) (l : ℕ) (x : World C) (short : List (Entry C)) → Chain past w list → moment past w l ≡ Some x →
      Chain (take l past) x short → Agree (length short) short list
  chain_front past w list l x short a at b = chain_end (take l past) x short list b (λ k i s h. a.agrees k i s (at_front past w l x at k i s h))

module _ {S C : Type 0} (m : MachineSpec S C) (law : LawfulMachine m) (n : ℕ) (events : List (Event C)) (past : List (World C)) (w : World C) (run : Run m n events past w) where
  -- the run's story
  pub st : Story m n events past w
  st = story m law n events past w run

  -- log matching
  pub log_matching : LogMatching past w
  log_matching k l i j p s t a b one le_s le_t same =
      rooted_two st.history.ledger s.log t.log p (st.rooted k i s a) (st.rooted l j t b) one le_s le_t same

  -- the list is the first part of a ledger
  pub list_fixed : (list : List (Entry C)) → Fixed n st.history st.term (length list) list → (1 ≤ length list) → (v : ℕ) × Agree (length list) list (st.history.ledger v)
  list_fixed list (inl z) some = absurd (omega (arith, z, some))
  list_fixed list (inr f) some = (f.term, f.agree)

  -- the list was admitted entry by entry
  pub list_sound : Sound m st.list
  list_sound = elim (leb_tells 1 (length st.list)) [
    | inl a ↦
        let f = list_fixed st.list st.fixed a.1 in
        subst (Sound m) (sym f.1.same ∙ take_all (length st.list) st.list (omega arith)) (first_sound m (length st.list) (st.history.ledger f.0) (st.ok.sound f.0))
    | inr a ↦ subst (Sound m) (sym (none_is st.list (omega (arith, a.1)))) (none_sound m)
  ]

  -- the story's list is the run's
  pub chain : Chain past w st.list
  chain = record { agrees = st.agrees; longest = st.longest; one_leader = one_leader m n events past w run; complete = st.complete }

  -- the state after each first part of the list is safe
  pub chain_safe : (list : List (Entry C)) → Chain past w list → (k : ℕ) → m.safe (state_after m (take k list))
  chain_safe list a k = sound_safe m law (take k list) (first_sound m k list (subst (Sound m) (chain_one past w st.list list chain a) list_sound))

  -- where the story's list comes from
  list_origin : (p : ℕ) → p < length st.list → Origin m events past w st.list p
  list_origin p less =
      let G = st.history in
      let f = list_fixed st.list st.fixed (omega (arith, less)) in
      let I = st.ok.ledgers in
      let at_v : Agree (suc p) st.list (G.ledger f.0) = agree_less (suc p) (omega (arith, less)) f.1 in
      let u = term_at (G.ledger f.0) (suc p) in
      let at_u : Agree (suc p) (G.ledger f.0) (G.ledger u) = rooted_at G.ledger (G.ledger f.0) (suc p) (I.rooted f.0) (omega arith) at_v.right in
      origin_agree m events past w (G.ledger u) st.list p (agree_sym (agree_trans at_v at_u))
      (st.born.own u p (omega (arith, at_u.right)) (sym (agree_term (suc p) (suc p) (G.ledger f.0) (G.ledger u) at_u (omega arith) (omega arith))))

  -- each of the list's entries was appended by its term's leader
  pub chain_origin : (list : List (Entry C)) → Chain past w list → (p : ℕ) → p < length list → Origin m events past w list p
  chain_origin list a p less =
      let same = chain_one past w st.list list chain a in
      subst (λ L. Origin m events past w L p) same (list_origin p (omega (arith, less, ap length same)))

-- what holds of a server at any moment
module _ {S C : Type 0} (m : MachineSpec S C) (law : LawfulMachine m) (n : ℕ) (events : List (Event C)) (past : List (World C)) (w : World C) (run : Run m n events past w)
    (k i : ℕ) (s : Raft C) (a : At past w k i s) where
  -- the story up to that moment
  pub at_story : Story m n (take k events) (take k past) a.world
  at_story = story m law n (take k events) (take k past) a.world (run_front m n events past w run k a.world a.world_is)

  -- the server is borne out by it
  pub server_ok : ServerOk n at_story.history i s
  server_ok = at_story.ok.each i s a.here

  -- its log was admitted entry by entry
  pub log_admitted : Sound m s.log
  log_admitted = log_sound (Sound m) n at_story.history i s at_story.ok.ledgers server_ok (none_sound m) (first_sound m) at_story.ok.sound

  -- in the words of the machine
  pub log_commands : Admitted m (commands s.log)
  log_commands = sound_admitted m s.log log_admitted

  -- the state after each first part of the server's log is safe
  pub log_safe : (p : ℕ) → m.safe (state_after m (take p s.log))
  log_safe p = sound_safe m law (take p s.log) (first_sound m p s.log log_admitted)
