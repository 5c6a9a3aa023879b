-- One event of the group is some actions of the specification.
use Rattle.std.proofs.Common.{◌≡◌, ℕ, zero, suc, ◌-◌, ◌≤◌, ◌<◌, ◌⊎◌, inl, inr, true, Option, Some, None, Ok, List, [], ◌∷◌, ◌++◌, length, map, take, drop, refl, sym, ap, ◌∙◌, subst, arith, slice_get, slice_set, length-take-le, take-take, if◌then◌else◌, filter, T, ◌&&◌, nat_eq}
use Rattle.std.proofs.lemmas.Bool.{and_parts, and_from, eqb-true, eq-eqb}
use Rattle.std.proofs.lemmas.Option.{same_Some}
use Rattle.rows.specs.declared.node.NodeSpec.{NodeSpec}
use Rattle.rows.specs.declared.evaluation.EvalId.{EvalId}
use Rattle.rows.specs.declared.evaluation.Evaluation.{Evaluation}
use Rattle.rows.specs.Versions.{newest}
use Rattle.rows.specs.States.{IsState}
use Rattle.rows.specs.Rising.{is_rising}
use Rattle.rows.specs.Keys.{eval_cmp, eval_id}
use Rattle.rows.proofs.KeyLaws.{eval_cmp_total}
use Rattle.fields_model.proofs.RangeLaws.{state_fits}
use Rattle.rows.specs.declared.allocation.AllocId.{AllocId}
use Rattle.rows.specs.declared.token.Token.{Token}
use Rattle.rows.specs.declared.command.AcceptedPlan.{AcceptedPlan}
use Rattle.rows.specs.declared.command.Command.{Command}
use Rattle.machine_model.specs.declared.entry.Entry.{Entry}
use Rattle.machine_model.specs.After.{after_from}
use Rattle.machine_model.proofs.Afters.{after_good}
use Rattle.raft_model.specs.Logs as logs_model
use Rattle.raft_model.specs.Logs.{term_at, last_term, state_after}
use Rattle.raft_model.specs.Messages.{Message}
use Rattle.raft_model.specs.Rafts.{Raft, Mode, Down, Follower, Candidate, Leader, is_up, is_leader}
use Rattle.raft_model.specs.Worlds as raft_worlds
use Rattle.raft_model.specs.Worlds.{Leads}
use Rattle.raft_model.specs.Chains.{Agree}
use Rattle.raft_model.proofs.Cases.{bool_cases}
use Rattle.raft_safety.specs.Claims.{LogMatching}
use Rattle.raft_safety.specs.Inner.SmallSteps.{Turns}
use Rattle.raft_safety.proofs.Places.{get-within, get-last, get-more, get-some, get_set-same, take_get}
use Rattle.raft_safety.proofs.Commits.{turn_commit}
use Rattle.raft_safety.proofs.Election as election
use Rattle.raft_safety.proofs.Sound.{Sound, first_sound, sound_admitted}
use Rattle.fsm_model.specs.Words.{State, no_rows, same_eval, is_pending}
use Rattle.fsm_model.specs.Effect.{applied}
use Rattle.fsm_model.specs.Admission.{admission}
use Rattle.fsm_model.specs.ClusterMachine.{cluster_spec}
use Rattle.fsm_model.proofs.ClusterMachine.{cluster_lawful}
use Rattle.group_model.specs.Brokers.{Free, Task, Key, task_id, task_of, task_key, eval_key, next_token}
use Rattle.group_model.specs.Desks.{Desk, applied_state}
use Rattle.group_model.proofs.KeptRows.{rising_kept, rising_back, all_found}
use Rattle.group_model.specs.Servers.{Server}
use Rattle.group_model.specs.Agents.{Agent}
use Rattle.group_model.specs.Worlds.{World, Event, Run, IsEvent, LogEventFits, happens, moment, raft_of, raft_part, raft_event}
use Rattle.group_safety.specs.Claims.{OneList, LogAt, logs}
use Rattle.group_safety.proofs.Chained as chained
use Rattle.group_safety.specs.Desks.{Mirrors, DeskIs}
use Rattle.group_safety.proofs.DeskRuns.{desks}
use Rattle.group_safety.proofs.Honesty.{all_get}
use Rattle.group_safety.proofs.TaskTokens.{passes_in}
use Rattle.group_safety.proofs.Lists.{get_map, map_get, map_set}
use Rattle.group_safety.proofs.Moments.{log_moment}
use Rattle.group_safety.proofs.Placings.{placed}
use Rattle.group_safety.proofs.WorldSteps as world_steps
use Rattle.spec.specs.Spec.{SpecState, state_from, state_of, MayFollow, ServerStep, applies, crashes, restarts, IsPlaced, Action, appends, commits, at_server, starts, IsPending, IsNewest, with_token, delivers, ends, Actions, none, more}
use Rattle.group_safety.specs.Deliveries.{deliveries, token_of_mark, token_of_task, token_at, token_in}
use Rattle.spec.specs.Refinement.{last_applied_by, started_by, Shows}
use Rattle.spec.proofs.Logs.{Rising, may_follow}
use Rattle.raft_safety.proofs.Reach.{far, far_bound, far_within, Newest, grew, just_now, had_all, reach_agree, by_then, then_bound, then_reached, then_rises}
use Rattle.spec.proofs.Outs.{desk_out, leader_out}
use Rattle.spec.proofs.Deliveries.{one_leads, AreMade, Delivers, nothing as no_delivery, delivery, event_delivers, at_leader}
use Rattle.spec.proofs.Starts.{Added, nothing, another, ClientsGo, event_clients}
use Rattle.spec.proofs.Born.{take_one, split_at, the_list_sound, the_list_rises, Born, born, PlanBorn, plan_born}

-- ---- actions

pub then_on : (f g h : SpecState) → Actions f g → Actions g h → Actions f h
then_on f g h a none = a
then_on f g h a (more b c) = more (then_on f g _ a b) c

pub acts_one : (g h : SpecState) → Action g h → Actions g h
acts_one g h a = more none a

-- the specification's states are the machine's
pub state_same : (s : State) (L : List (Entry Command)) → state_from s L ≡ after_from cluster_spec s (logs_model.commands L)
unfolding logs_model.commands
state_same s [] = refl
state_same s (e ∷ L) = state_same (applied s e.command) L

-- how many entries a server counts as committed
pub counted : Raft Command → ℕ
counted s = if is_up s.mode then s.commit else 0

pub counted_up : (s : Raft Command) → is_up s.mode ≡ true → counted s ≡ s.commit
unfolding counted
counted_up s e = rw e refl

pub counted_less : (s : Raft Command) → counted s ≤ s.commit
unfolding counted
counted_less s = elim (bool_cases (is_up s.mode)) [ inl e ↦ rw e (omega arith) | inr e ↦ rw e (omega arith) ]

seen : Raft Command → Option ℕ
seen s = if is_up s.mode then Some s.commit else None

seen_same : (xs : List Server) → map last_applied_by xs ≡ map seen (map raft_part xs)
unfolding seen
seen_same [] = refl
seen_same (x ∷ xs) = ap (λ l. last_applied_by x ∷ l) (seen_same xs)

set_like : (xs : List (Raft Command)) (i : ℕ) (x y : Raft Command) → slice_get xs i ≡ Some x → seen x ≡ seen y → map seen (slice_set xs i y) ≡ map seen xs
set_like [] i x y h e = absurd (cc)
set_like (z ∷ zs) zero x y h e = ap (λ v. v ∷ map seen zs) (sym (ap seen (same_Some z x h) ∙ e))
set_like (z ∷ zs) (suc i) x y h e = ap (λ l. seen z ∷ l) (set_like zs i x y h e)

-- ---- the servers' part

module _ (n i : ℕ) (sent : List (Message Command)) (s t : Raft Command) (out : List (Message Command)) (committed : ℕ) where
  turn_seen : Turns cluster_spec n i sent s t out → (is_up t.mode ≡ true → t.commit ≤ committed) → (seen s ≡ seen t) ⊎ ServerStep committed (seen s) (seen t)
  unfolding seen
  turn_seen turn fits = elim (bool_cases (is_up s.mode)) [
    | inl a ↦ elim (bool_cases (is_up t.mode)) [
      | inl b ↦ inr (rw a (rw b (applies s.commit t.commit (turn_commit cluster_spec n i sent s t out turn a b) (fits b))))
      | inr b ↦ inr (rw a (rw b (crashes s.commit)))
    ]
    | inr a ↦ elim (bool_cases (is_up t.mode)) [
      | inl b ↦ inr (rw a (rw b (restarts t.commit (fits b))))
      | inr b ↦ inl (rw a (rw b refl))
    ]
  ]

module _ (x y : World) (g : SpecState) (is : g.last_applied ≡ map last_applied_by x.servers) (fits : (i : ℕ) (s : Raft Command) → slice_get (raft_of y).servers i ≡ Some s → is_up s.mode ≡ true → s.commit ≤ g.committed) where
  -- the machine after them
  abbrev pub Served : Type 0
  Served = Actions g (record g { last_applied = map last_applied_by y.servers })

  same_served : map last_applied_by y.servers ≡ map last_applied_by x.servers → Served
  same_served e = subst (λ l. Actions g (record g { last_applied = l })) (is ∙ sym e) none

  moved_served : (f : raft_worlds.Event Command) → election.Moves cluster_spec (raft_of x) f (raft_of y) → Served
  moved_served f v =
      let here : slice_get (raft_of y).servers v.who ≡ Some v.new = subst (λ l. slice_get l v.who ≡ Some v.new) (sym v.servers) (get_set-same (raft_of x).servers v.who v.new (get-within (raft_of x).servers v.who v.old v.here)) in
      elim (turn_seen (length (raft_of x).servers) v.who (raft_of x).sent v.old v.new v.out g.committed v.path (fits v.who v.new here)) [
        | inl e ↦ same_served (seen_same y.servers ∙ (ap (map seen) v.servers ∙ (set_like (raft_of x).servers v.who v.old v.new v.here e ∙ sym (seen_same x.servers))))
        | inr r ↦
            let at : slice_get g.last_applied v.who ≡ Some (seen v.old) = ap (λ l. slice_get l v.who) (is ∙ seen_same x.servers) ∙ get_map seen (raft_of x).servers v.who v.old v.here in
            let q : slice_set g.last_applied v.who (seen v.new) ≡ map last_applied_by y.servers = ap (λ l. slice_set l v.who (seen v.new)) (is ∙ seen_same x.servers) ∙ (sym (map_set seen (raft_of x).servers v.who v.new) ∙ (ap (map seen) (sym v.servers) ∙ sym (seen_same y.servers))) in
            subst (λ l. Actions g (record g { last_applied = l })) q (acts_one g _ (at_server v.who (seen v.old) (seen v.new) at r))
      ]

  by_event : (o : Option (raft_worlds.Event Command)) → LogEventFits o → world_steps.Moves x y o → Served
  by_event None fit h = same_served (seen_same y.servers ∙ (ap (λ (v : raft_worlds.World Command). map seen v.servers) h ∙ sym (seen_same x.servers)))
  by_event (Some f) fit h = moved_served f (election.event_moves cluster_spec (raft_of x) (raft_of y) f fit h)

  pub served : (e : Event) → IsEvent x e → happens x e ≡ Ok y → Served
  served e fit h = by_event (raft_event x e) fit (world_steps.event_moves x y e h)

-- ---- the clients' part

set_set : {A : Type 0} (xs : List A) (i : ℕ) (x y : A) → slice_set (slice_set xs i x) i y ≡ slice_set xs i y
set_set [] i x y = refl
set_set (z ∷ zs) zero x y = refl
set_set (z ∷ zs) (suc i) x y = ap (λ l. z ∷ l) (set_set zs i x y)

set_back : {A : Type 0} (xs : List A) (i : ℕ) (x : A) → slice_get xs i ≡ Some x → slice_set xs i x ≡ xs
set_back [] i x h = absurd (cc)
set_back (y ∷ ys) zero x h = ap (λ z. z ∷ ys) (sym (same_Some y x h))
set_back (y ∷ ys) (suc i) x h = ap (λ l. y ∷ l) (set_back ys i x h)

added_in : (ids after : List AllocId) → Added ids after → (j : ℕ) (id : AllocId) → slice_get ids j ≡ Some id → (i : ℕ) × (slice_get after i ≡ Some id)
added_in ids after (nothing _) j id h = (j, h)
added_in ids after (another _ _ x new a) j id h = added_in (ids ++ x ∷ []) after a j id (get-more ids (x ∷ []) j id h)

module _ (g : SpecState) (c : ℕ) (after : List AllocId) (all : (j : ℕ) (id : AllocId) → slice_get after j ≡ Some id → IsPlaced g (suc c) id) where
  starts_on : (ids : List AllocId) → Added ids after → (cs : List (List AllocId)) → slice_get cs c ≡ Some ids → Actions (record g { started = cs }) (record g { started = slice_set cs c after })
  starts_on ids (nothing _) cs at = subst (λ l. Actions (record g { started = cs }) (record g { started = l })) (sym (set_back cs c ids at)) none
  starts_on ids (another _ _ id new a) cs at =
      let there = added_in (ids ++ id ∷ []) after a (length ids) id (get-last ids id) in
      let p = all there.0 id there.1 in
      let placed_now : IsPlaced (record g { started = cs }) (suc c) id = record {
        entry = p.entry;
        plan = p.plan;
        place = p.place;
        one = p.one;
        committed = p.committed;
        entry_is = p.entry_is;
        plan_is = p.plan_is;
        place_is = p.place_is;
        on = p.on;
      } in
      let next = slice_set cs c (ids ++ id ∷ []) in
      let rest = starts_on (ids ++ id ∷ []) a next (get_set-same cs c (ids ++ id ∷ []) (get-within cs c ids at)) in
      then_on _ _ _ (acts_one _ _ (starts c ids id at new placed_now)) (subst (λ l. Actions (record g { started = next }) (record g { started = l })) (set_set cs c (ids ++ id ∷ []) after) rest)

module _ (x y : World) (g : SpecState) (is : g.started ≡ map started_by x.clients) (all : (c : ℕ) (a : Agent) (j : ℕ) (id : AllocId) → slice_get y.clients c ≡ Some a → slice_get a.started j ≡ Some id → IsPlaced g (suc c) id) where
  pub clients_on : ClientsGo x y → Actions g (record g { started = map started_by y.clients })
  clients_on (inl e) = subst (λ l. Actions g (record g { started = l })) (is ∙ ap (map started_by) (sym e)) none
  clients_on (inr o) =
      let here : slice_get y.clients o.place ≡ Some o.new = subst (λ l. slice_get l o.place ≡ Some o.new) (sym o.clients) (get_set-same x.clients o.place o.new (get-within x.clients o.place o.old o.here)) in
      let at : slice_get g.started o.place ≡ Some o.old.started = ap (λ l. slice_get l o.place) is ∙ get_map started_by x.clients o.place o.old o.here in
      let q : slice_set g.started o.place o.new.started ≡ map started_by y.clients = ap (λ l. slice_set l o.place o.new.started) is ∙ (sym (map_set started_by x.clients o.place o.new) ∙ ap (map started_by) (sym o.clients)) in
      subst (λ l. Actions g (record g { started = l })) q (starts_on g o.place o.new.started (λ j id h. all o.place o.new j id here h) o.old.started o.added g.started at)

-- ---- one event

abbrev key_id : Key → EvalId
key_id key = key.id

pub same_itself : (id : EvalId) → same_eval id id ≡ true
same_itself id = and_from (nat_eq id.index id.index) (nat_eq id.slot id.slot) (eq-eqb id.index id.index refl) (eq-eqb id.slot id.slot refl)

pub same_ids : (a b : EvalId) → same_eval a b ≡ true → a ≡ b
same_ids a b h = let p = and_parts (nat_eq a.index b.index) (nat_eq a.slot b.slot) h in
    (λ j. record { index = eqb-true a.index b.index p.0 j; slot = eqb-true a.slot b.slot p.1 j })

none_some : {token : Token} → let none : Option Token = None in none ≡ Some token → ⊥
none_some h = cc

leader_up : (mode : Mode) → is_leader mode ≡ true → is_up mode ≡ true
leader_up Down h = absurd (cc)
leader_up Follower h = refl
leader_up (Candidate votes) h = refl
leader_up (Leader next match) h = refl

module _ (n : ℕ) (nodes : List NodeSpec) (events : List Event) (past : List World) (w : World) (run : Run n nodes events past w) (L : List (Entry Command)) (one : OneList past w L) where
  pub matched : LogMatching (logs past) (raft_of w)
  matched = chained.matched n nodes events past w run

  -- how long the list is by moment k, and how far committed
  unfoldable pub long : ℕ → ℕ
  long k = far (logs past) (raft_of w) L matched one k

  unfoldable pub done : ℕ → ℕ
  done k = by_then (logs past) (raft_of w) counted k

  unfoldable pub state : ℕ → World → SpecState
  state k x = record {
    log = take (long k) L;
    committed = done k;
    last_applied = map last_applied_by x.servers;
    started = map started_by x.clients;
    outstanding = token_in x.servers;
    delivered = deliveries x.sent;
  }

  at_log : (k : ℕ) (x : World) → moment past w k ≡ Some x → (i : ℕ) (s : Raft Command) → slice_get (raft_of x).servers i ≡ Some s → LogAt past w k i s
  at_log k x at i s here = record { world = raft_of x; world_is = log_moment past w k x at; here = here }

  long_list : (k : ℕ) → length (take (long k) L) ≡ long k
  unfolding long
  long_list k = length-take-le (long k) L (far_within (logs past) (raft_of w) L matched one k)

  done_within : (k : ℕ) → done k ≤ long k
  unfolding long done
  done_within k = elim (then_reached (logs past) (raft_of w) counted k) [
    | inl e ↦ omega (arith, e)
    | inr h ↦
        let less = counted_less h.server in
        omega (arith, h.is, less, far_bound (logs past) (raft_of w) L matched one h.when k h.who h.server.commit h.server h.at h.by (one.agrees h.when h.who h.server h.at))
  ]

  -- at a moment
  module _ (k : ℕ) (x : World) (at : moment past w k ≡ Some x) where
    done_by : (l : ℕ) → k ≤ l → (i : ℕ) (s : Raft Command) → slice_get (raft_of x).servers i ≡ Some s → is_up s.mode ≡ true → s.commit ≤ done l
    unfolding done
    done_by l le i s here up = omega (arith, counted_up s up, then_bound (logs past) (raft_of w) counted k l i s (at_log k x at i s here) le)

    done_bound : (i : ℕ) (s : Raft Command) → slice_get (raft_of x).servers i ≡ Some s → is_up s.mode ≡ true → s.commit ≤ done k
    done_bound i s here up = done_by k (omega arith) i s here up

    pub shown : Shows x (state k x)
    unfolding state long
    shown = record {
      servers = refl;
      entries = λ i s here.
          let a = at_log k x at i s.raft (get_map raft_part x.servers i s here) in
          let g = one.agrees k i s.raft a in
          let size = long_list k in
          let le = far_bound (logs past) (raft_of w) L matched one k k i s.raft.commit s.raft a (omega arith) g in
          record { left = g.left; right = omega (arith, le, size); same = g.same ∙ sym (take-take s.raft.commit (long k) L le) };
      clients = refl;
      outstanding = λ term eval. refl;
      delivered = refl;
    }

  -- between two
  module _ (k : ℕ) (x y : World) (at : moment past w k ≡ Some x) (next : moment past w (suc k) ≡ Some y) where
    -- a plan that is appended now is under its token
    under : (p : ℕ) (e : Entry Command) (plan : AcceptedPlan) → PlanBorn past w L k p e plan → long k < suc p → suc p ≤ length L → token_in x.servers e.term plan.eval ≡ Some plan.token
    unfolding long
    under p e plan b above fits =
        let now : b.when ≡ k = just_now (logs past) (raft_of w) L matched one k b.when b.who p b.after above fits b.by b.after_at b.has in
        let world : b.before_at.world ≡ x = same_Some b.before_at.world x (sym b.before_at.world_is ∙ (ap (moment past w) now ∙ at)) in
        let here : slice_get x.servers b.who ≡ Some b.before = subst (λ (v : World). slice_get v.servers b.who ≡ Some b.before) world b.before_at.here in
        leader_out x.servers e.term plan.eval b.who b.before here b.leads b.term
        (λ j t there its same. one_leads n nodes events past w run L one k k b.who j b.before t (record { world = x; world_is = at; here = here }) (record { world = x; world_is = at; here = there }) b.leads its (same ∙ sym b.term))
        ∙ (ap (token_at plan.eval) b.is_open ∙ desk_out plan.eval plan.token b.wait b.desk b.is_out)

    -- the list grows
    appended : Actions (state k x) (record (state k x) { log = take (long (suc k)) L })
    unfolding state long
    appended = elim (grew (logs past) (raft_of w) L matched one k) [
      | inl e ↦ subst (λ j. Actions (state k x) (record (state k x) { log = take j L })) (sym e) none
      | inr v ↦ by (long (suc k) - 1) v (let m = v.more in let q = v.most in omega (arith, m, q))
    ] where
      by : (p : ℕ) → Newest (logs past) (raft_of w) L matched one k → long (suc k) ≡ suc p → Actions (state k x) (record (state k x) { log = take (long (suc k)) L })
      by p v size =
          let agree = reach_agree (logs past) (raft_of w) L matched one (suc k) v.who v.server v.at in
          let g : Agree (suc p) v.server.log L = subst (λ j. Agree j v.server.log L) (v.most ∙ size) agree in
          let b : Born past w L k p = born n nodes events past w run L k y next v.who v.server v.at p g in
          let above : long k < suc p = (let m = v.more in let q = v.most in omega (arith, m, q, size)) in
          let now : b.when ≡ k = just_now (logs past) (raft_of w) L matched one k b.when b.who p b.after above g.right b.by b.after_at b.has in
          let all : p ≤ long k = had_all (logs past) (raft_of w) L matched one k b.who p b.before (omega (arith, g.right)) (subst (λ j. LogAt past w j b.who b.before) now b.before_at) b.had in
          let was : long k ≡ p = omega (arith, above, all) in
          let e = get-some L p (omega (arith, g.right)) in
          let whole = split_at p L e.0 e.1 in
          let f = may_follow cluster_spec (take p L) e.0 (drop (suc p) L) (subst (λ l. Sound cluster_spec l) (sym whole) (the_list_sound n nodes events past w run L one)) (subst (λ l. Rising l) (sym whole) (the_list_rises n nodes events past w run L one)) in
          let in_log : slice_get v.server.log p ≡ Some e.0 = sym (take_get (suc p) v.server.log p (omega arith)) ∙ (ap (λ l. slice_get l p) g.same ∙ (take_get (suc p) L p (omega arith) ∙ e.1)) in
          let follows : MayFollow (state k x) e.0 = record {
            term = subst (λ j. last_term (take j L) ≤ e.0.term) (sym was) f.term;
            admitted = subst (λ j. admission (state_of (take j L)) e.0.command ≡ None) (sym was) (ap (λ s. admission s e.0.command) (state_same no_rows (take p L)) ∙ f.admitted);
            token = λ plan is. under p e.0 plan (plan_born n nodes events past w run L k y next v.who v.server v.at p g e.0 plan in_log is) above g.right;
          } in
          let grown : take (long k) L ++ e.0 ∷ [] ≡ take (long (suc k)) L = ap (λ j. take j L ++ e.0 ∷ []) was ∙ (sym (take_one p L e.0 e.1) ∙ ap (λ j. take j L) (sym size)) in
          subst (λ l. Actions (state k x) (record (state k x) { log = l })) grown (acts_one _ _ (appends e.0 follows))

    -- what clients have started is placed
    all_placed : (c : ℕ) (a : Agent) (j : ℕ) (id : AllocId) → slice_get y.clients c ≡ Some a → slice_get a.started j ≡ Some id → IsPlaced (record { log = take (long (suc k)) L; committed = done (suc k); last_applied = map last_applied_by y.servers; started = map started_by x.clients; outstanding = token_in x.servers; delivered = deliveries x.sent }) (suc c) id
    unfolding done
    all_placed c a j id here there =
        let found = placed n nodes events past w run L one (suc k) (suc c) a j id (record { world = y; world_is = next; here = here }) there in
        let most = then_bound (logs past) (raft_of w) counted found.moment (suc k) found.who found.server found.at found.by_then in
        let early : id.index ≤ done (suc k) = omega (arith, found.applied, most, counted_up found.server found.up) in
        record {
          entry = found.entry;
          plan = found.plan;
          place = found.place;
          one = found.one;
          committed = early;
          entry_is = take_get (long (suc k)) L (id.index - 1) (omega (arith, early, done_within (suc k), found.one)) ∙ found.entry_is;
          plan_is = found.plan_is;
          place_is = found.place_is;
          on = found.on;
        }

    -- what is delivered, and what is outstanding no more
    module _ (made : AreMade n nodes events past w run L one k x) (g : SpecState) (log : g.log ≡ take (long (suc k)) L) (committed : g.committed ≡ done (suc k))
        (outstanding : g.outstanding ≡ token_in x.servers) (delivered : g.delivered ≡ deliveries x.sent) where
      abbrev After : Type 0
      After = Actions g (record g { outstanding = token_in y.servers; delivered = deliveries y.sent })

      module _ (i : ℕ) (s : Server) (d : Desk) (here : slice_get x.servers i ≡ Some s) (leads : is_leader s.raft.mode ≡ true) (is_open : s.desk ≡ Some d) where
        abbrev token : Token
        token = next_token s.raft.term d.broker

        applied_at : take s.raft.commit (take (long (suc k)) L) ≡ take s.raft.commit s.raft.log
        unfolding long
        applied_at =
            let a = at_log k x at i s.raft (get_map raft_part x.servers i s here) in
            let agree = one.agrees k i s.raft a in
            take-take s.raft.commit (long (suc k)) L (far_bound (logs past) (raft_of w) L matched one k (suc k) i s.raft.commit s.raft a (omega arith) agree) ∙ sym agree.same

        is_state : IsState (applied_state s.raft)
        is_state =
            let a = at_log k x at i s.raft (get_map raft_part x.servers i s here) in
            let agree = one.agrees k i s.raft a in
            let sound : Sound cluster_spec (take s.raft.commit s.raft.log) = subst (Sound cluster_spec) (sym agree.same) (first_sound cluster_spec s.raft.commit L (the_list_sound n nodes events past w run L one)) in
            let good = after_good cluster_spec cluster_lawful (logs_model.commands (take s.raft.commit s.raft.log)) (sound_admitted cluster_spec (take s.raft.commit s.raft.log) sound) in
            state_fits newest (applied_state s.raft) good.state

        mirrors : Mirrors s.raft.term (applied_state s.raft) d
        mirrors = by (desks n nodes events past w run k i s (record { world = x; world_is = at; here = here })) where
          by : DeskIs s → Mirrors s.raft.term (applied_state s.raft) d
          by (inl h) = absurd (let q = sym h.0 ∙ is_open in cc)
          by (inr h) = subst (Mirrors s.raft.term (applied_state s.raft)) (same_Some h.0 d (sym h.1 ∙ is_open)) h.3

        -- what is at the desk is pending, and is found under its id
        pending_at : (j : ℕ) (t : Task) → slice_get d.broker.tasks j ≡ Some t → IsPending (state_of (take s.raft.commit g.log)) t.id
        pending_at j t there =
            let evals = (applied_state s.raft).evals in
            let held : slice_get (map eval_key (filter (λ (e : Evaluation). is_pending e.status) evals)) j ≡ Some (task_key t) = ap (λ l. slice_get l j) (sym mirrors.tasks) ∙ get_map task_key d.broker.tasks j t there in
            let v = map_get eval_key (filter (λ (e : Evaluation). is_pending e.status) evals) j (task_key t) held in
            let p = passes_in (λ (e : Evaluation). is_pending e.status) evals j v.0 v.1 in
            let whole : applied_state s.raft ≡ state_of (take s.raft.commit g.log) = sym (state_same no_rows (take s.raft.commit s.raft.log)) ∙ ap state_of (sym (ap (take s.raft.commit) log ∙ applied_at)) in
            record { place = p.0; row = v.0; here = ap (λ (z : State). slice_get z.evals p.0) (sym whole) ∙ p.1; same = ap (λ (key : Key). key.id) v.2; pending = p.2 }

        found : (j : ℕ) (t : Task) → slice_get d.broker.tasks j ≡ Some t → task_of t.id d.broker.tasks ≡ Some t
        found j t there =
            let tables = is_state.tables in
            let rising : T (is_rising eval_cmp key_id (map eval_key (filter (λ (e : Evaluation). is_pending e.status) (applied_state s.raft).evals))) = rising_kept eval_cmp eval_id key_id eval_key (λ e. refl) (λ (e : Evaluation). is_pending e.status) (applied_state s.raft).evals tables.evals.rising in
            all_get (λ (z : Task). task_of z.id d.broker.tasks ≡ Some z) d.broker.tasks
            (all_found eval_cmp task_id eval_cmp_total d.broker.tasks (rising_back eval_cmp task_id key_id task_key (λ z. refl) d.broker.tasks (subst (λ l. T (is_rising eval_cmp key_id l)) (sym mirrors.tasks) rising))) j t there

        module _ (j : ℕ) (t : Task) (there : slice_get d.broker.tasks j ≡ Some t) (free : t.mark ≡ Free) where
          nobody : token_in x.servers s.raft.term t.id ≡ None
          nobody = at_leader n nodes events past w run L one k x y at next s.raft.term t.id i s here leads refl
              ∙ (ap (token_at t.id) is_open ∙ (ap token_of_task (found j t there) ∙ ap token_of_mark free))

          -- what is outstanding now is so after the delivery
          still : (term : ℕ) (eval : EvalId) (other : Token) → ((term ≡ s.raft.term) × (eval ≡ t.id) × (other ≡ token)) ⊎ (token_in x.servers term eval ≡ Some other) → with_token t.id token (token_in x.servers) term eval ≡ Some other
          still term eval other (inl q) =
              rw (and_from (nat_eq term token.term) (same_eval eval t.id) (eq-eqb term token.term q.0) (ap (λ (z : EvalId). same_eval eval z) (sym q.1) ∙ same_itself eval)) (ap Some (sym q.2))
          still term eval other (inr q) = elim (bool_cases (nat_eq term token.term && same_eval eval t.id)) [
            | inl b ↦
                let p = and_parts (nat_eq term token.term) (same_eval eval t.id) b in
                absurd (none_some (sym nobody ∙ ((λ i. token_in x.servers (sym (eqb-true term token.term p.0) i) (sym (same_ids eval t.id p.1) i)) ∙ q)))
            | inr b ↦ rw b q
          ]

          newest_token : IsNewest g token
          newest_token m old at_m of_term =
              let made_by = made m old (ap (λ l. slice_get l m) (sym delivered) ∙ at_m) in
              let u = made_by.used i s here leads (sym of_term) in
              omega (arith, u.2, ap (λ (z : Desk). z.broker.serial) (same_Some u.0 d (sym u.1 ∙ is_open)))

          one_more : deliveries y.sent ≡ deliveries x.sent ++ (t.id, token) ∷ [] →
              ((term : ℕ) (eval : EvalId) (other : Token) → token_in y.servers term eval ≡ Some other → ((term ≡ s.raft.term) × (eval ≡ t.id) × (other ≡ token)) ⊎ (token_in x.servers term eval ≡ Some other)) → After
          one_more sent outs =
              let up : is_up s.raft.mode ≡ true = leader_up s.raft.mode leads in
              let low : s.raft.commit ≤ g.committed = omega (arith, committed, done_by k x at (suc k) (omega arith) i s.raft (get_map raft_part x.servers i s here) up) in
              let nobody_has : g.outstanding token.term t.id ≡ None = ap (λ (f : ℕ → EvalId → Option Token). f token.term t.id) outstanding ∙ nobody in
              let h : SpecState = record g { outstanding = with_token t.id token g.outstanding; delivered = g.delivered ++ (t.id, token) ∷ [] } in
              let given : Action g h = delivers t.id token s.raft.commit low (pending_at j t there) nobody_has newest_token in
              let end : Action h (record h { outstanding = token_in y.servers }) = ends (token_in y.servers) (λ term eval other is.
              ap (λ (f : ℕ → EvalId → Option Token). with_token t.id token f term eval) outstanding ∙ still term eval other (outs term eval other is)) in
              subst (λ l. Actions g (record g { outstanding = token_in y.servers; delivered = l })) (ap (λ l. l ++ (t.id, token) ∷ []) delivered ∙ sym sent) (more (more none given) end)

      deliver_on : Delivers n nodes events past w run L one x y → After
      deliver_on (no_delivery sent outs) =
          subst (λ l. Actions g (record g { outstanding = token_in y.servers; delivered = l })) (delivered ∙ sym sent)
          (more none (ends (token_in y.servers) (λ term eval other is. ap (λ (f : ℕ → EvalId → Option Token). f term eval) outstanding ∙ outs term eval other is)))
      deliver_on (delivery i s d j t here leads is_open there free sent outs) = one_more i s d here leads is_open j t there free sent outs

    -- all of it
    pub stepped : AreMade n nodes events past w run L one k x → (e : Event) → IsEvent x e → happens x e ≡ Ok y → Actions (state k x) (state (suc k) y)
    unfolding state long done
    stepped made e fit h =
        let rise : done k ≤ done (suc k) = then_rises (logs past) (raft_of w) counted k in
        let le : done (suc k) ≤ length (take (long (suc k)) L) = omega (arith, done_within (suc k), long_list (suc k)) in
        let g1 : SpecState = record (state k x) { log = take (long (suc k)) L } in
        let g : SpecState = record g1 { committed = done (suc k) } in
        let committed : Actions g1 g = acts_one _ _ (commits (done (suc k)) rise le) in
        let servers_go = served x y g refl (λ i s here up. done_bound (suc k) y next i s here up) e fit h in
        let g2 : SpecState = record g { last_applied = map last_applied_by y.servers } in
        let clients_go = clients_on x y g2 refl all_placed (event_clients x y e h) in
        let g3 : SpecState = record g2 { started = map started_by y.clients } in
        let last : Actions g3 (state (suc k) y) = deliver_on made g3 refl refl refl refl (event_delivers n nodes events past w run L one k x y at next e h) in
        then_on _ _ _ (then_on _ _ _ (then_on _ _ _ (then_on _ _ _ appended committed) servers_go) clients_go) last
