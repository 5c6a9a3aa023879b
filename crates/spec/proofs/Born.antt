-- Where the entries of the one list come from.
use Rattle.std.proofs.Common.{◌≡◌, ℕ, zero, suc, ◌≤◌, true, Some, Ok, List, [], ◌∷◌, ◌++◌, length, take, drop, sym, ap, ◌∙◌, subst, arith, slice_get, length-take-le}
use Rattle.std.proofs.lemmas.Option.{same_Some}
use Rattle.rows.specs.declared.node.NodeSpec.{NodeSpec}
use Rattle.rows.specs.declared.command.AcceptedPlan.{AcceptedPlan}
use Rattle.rows.specs.declared.command.Command.{Command}
use Rattle.rows.specs.declared.command.Command.TheVariants as commands
use Rattle.machine_model.specs.declared.entry.Entry.{Entry}
use Rattle.raft_model.specs.Rafts.{Raft, is_leader}
use Rattle.raft_model.specs.Worlds as raft_worlds
use Rattle.raft_model.specs.Chains.{Agree}
use Rattle.raft_safety.specs.Claims.{Origin}
use Rattle.raft_safety.proofs.Places.{get-within, get-last, push_length}
use Rattle.raft_safety.proofs.Logs.{agree_less}
use Rattle.raft_safety.proofs.Moments.{front_get}
use Rattle.raft_safety.proofs.Sound.{Sound}
use Rattle.fsm_model.specs.ClusterMachine.{cluster_spec}
use Rattle.fsm_model.proofs.ClusterMachine.{cluster_lawful}
use Rattle.group_model.specs.Servers.{Server}
use Rattle.group_model.specs.Brokers.{outstanding}
use Rattle.group_model.specs.Desks.{Desk}
use Rattle.group_model.specs.Worlds.{World, Event, Run, moment, raft_of}
use Rattle.group_safety.specs.Claims.{Projection, Source, ServerAt, OneList, LogAt}
use Rattle.group_safety.proofs.Chained as chained
use Rattle.group_safety.proofs.Fresh.{term_get}
use Rattle.group_safety.proofs.Backings.{backed}
use Rattle.group_safety.proofs.DeskRuns.{desks, server_log}
use Rattle.group_safety.proofs.GroupRuns.{run_front}
use Rattle.group_safety.proofs.Moments.{log_moment, to_log}
use Rattle.spec.proofs.Logs.{list_sound, list_rises, Rising}
use Rattle.raft_safety.proofs.LogOrigins.{log_origin}

-- ---- lists

-- one entry more
pub take_one : {A : Type 0} (p : ℕ) (xs : List A) (x : A) → slice_get xs p ≡ Some x → take (suc p) xs ≡ take p xs ++ x ∷ []
take_one p [] x h = absurd (let q = get-within [] p x h in omega (arith, q))
take_one zero (y ∷ xs) x h = ap (λ z. z ∷ []) (same_Some y x h)
take_one (suc p) (y ∷ xs) x h = ap (λ l. y ∷ l) (take_one p xs x h)

pub split_at : {A : Type 0} (p : ℕ) (xs : List A) (x : A) → slice_get xs p ≡ Some x → take p xs ++ x ∷ drop (suc p) xs ≡ xs
split_at p [] x h = absurd (let q = get-within [] p x h in omega (arith, q))
split_at zero (y ∷ xs) x h = ap (λ z. z ∷ xs) (sym (same_Some y x h))
split_at (suc p) (y ∷ xs) x h = ap (λ l. y ∷ l) (split_at p xs x h)

-- ---- the list of a run

module _ (n : ℕ) (nodes : List NodeSpec) (events : List Event) (past : List World) (w : World) (run : Run n nodes events past w) (L : List (Entry Command)) (one : OneList past w L) where
  pub the_list_sound : Sound cluster_spec L
  the_list_sound = let s = chained.shadow n nodes events past w run in
      list_sound cluster_spec cluster_lawful n s.log_events s.log_past (raft_of w) s.run L (chained.in_log n nodes events past w run L one)

  pub the_list_rises : Rising L
  the_list_rises = let s = chained.shadow n nodes events past w run in
      list_rises cluster_spec cluster_lawful n s.log_events s.log_past (raft_of w) s.run L (chained.in_log n nodes events past w run L one)

-- ---- where an entry comes from

-- a leader has p entries of the list at some moment up to k, and one more at the next
pub record Born (past : List World) (w : World) (L : List (Entry Command)) (k p : ℕ) : Type 0 where
  pub when : ℕ
  pub who : ℕ
  pub before : Raft Command
  pub after : Raft Command
  pub by : when ≤ k
  pub before_at : LogAt past w when who before
  pub after_at : LogAt past w (suc when) who after
  pub had : before.log ≡ take p L
  pub has : after.log ≡ take (suc p) L

-- a leader of the plan's term has it out under its token then
pub record PlanBorn (past : List World) (w : World) (L : List (Entry Command)) (k p : ℕ) (e : Entry Command) (plan : AcceptedPlan) : Type 0 where
  pub when : ℕ
  pub who : ℕ
  pub before : Server
  pub after : Raft Command
  pub desk : Desk
  pub wait : ℕ
  pub by : when ≤ k
  pub before_at : ServerAt past w when who before
  pub after_at : LogAt past w (suc when) who after
  pub has : after.log ≡ take (suc p) L
  pub leads : is_leader before.raft.mode ≡ true
  pub term : before.raft.term ≡ e.term
  pub is_open : before.desk ≡ Some desk
  pub is_out : outstanding plan.eval plan.token desk.broker ≡ Ok wait

module _ (n : ℕ) (nodes : List NodeSpec) (events : List Event) (past : List World) (w : World) (run : Run n nodes events past w) (L : List (Entry Command))
    (k : ℕ) (y : World) (at_next : moment past w (suc k) ≡ Some y) (i : ℕ) (s : Raft Command) (a : LogAt past w (suc k) i s) (p : ℕ) (g : Agree (suc p) s.log L) where
  es : List Event
  es = take (suc k) events

  ws : List World
  ws = take (suc k) past

  front : Run n nodes es ws y
  unfolding es ws
  front = run_front n nodes events past w run (suc k) y at_next

  sh : Projection n es ws y
  sh = chained.shadow n nodes es ws y front

  here : slice_get (raft_of y).servers i ≡ Some s
  here = let q = same_Some a.world (raft_of y) (sym a.world_is ∙ log_moment past w (suc k) y at_next) in
      subst (λ (v : raft_worlds.World Command). slice_get v.servers i ≡ Some s) q a.here

  now : LogAt ws y (length ws) i s
  now = record { world = raft_of y; world_is = log_moment ws y (length ws) y (get-last ws y); here = here }

  o : Origin cluster_spec sh.log_events sh.log_past (raft_of y) s.log p
  o = log_origin cluster_spec cluster_lawful n sh.log_events sh.log_past (raft_of y) sh.run (sh.place (length ws)) i s (to_log n es ws y sh (length ws) i s now) p (omega (arith, g.left))

  src : Source es ws y sh.place o.moment o.event
  src = sh.sources o.moment o.event o.event_at

  all : (j : ℕ) (x : World) → moment ws y j ≡ Some x → moment past w j ≡ Some x
  unfolding ws
  all j x h = front_get past w (suc k) y at_next j x h

  before_world : o.before_at.world ≡ raft_of src.before
  before_world = same_Some _ _ (sym o.before_at.world_is ∙ (ap (raft_worlds.moment sh.log_past (raft_of y)) (sym src.here) ∙ sh.same src.when src.before src.before_is))

  after_world : o.after_at.world ≡ raft_of src.after
  after_world = same_Some _ _ (sym o.after_at.world_is ∙ (ap (raft_worlds.moment sh.log_past (raft_of y)) (sym src.next) ∙ sh.same (suc src.when) src.after src.after_is))

  early : (j : ℕ) (x : World) → moment ws y (suc j) ≡ Some x → j ≤ k
  unfolding ws
  early j x h =
      let q = get-within (take (suc k) past ++ y ∷ []) (suc j) x h in
      let r = get-within (past ++ w ∷ []) (suc k) y at_next in
      let size : length (take (suc k) past) ≡ suc k = length-take-le (suc k) past (omega (arith, r, push_length past w)) in
      omega (arith, q, size, push_length (take (suc k) past) y)

  same_first : take p s.log ≡ take p L
  same_first = let b = agree_less p (omega arith) g in b.same

  pub born : Born past w L k p
  born = record {
    when = src.when;
    who = o.who;
    before = o.before;
    after = o.after;
    by = early src.when src.after src.after_is;
    before_at = record { world = raft_of src.before; world_is = log_moment past w src.when src.before (all src.when src.before src.before_is); here = subst (λ (v : raft_worlds.World Command). slice_get v.servers o.who ≡ Some o.before) before_world o.before_at.here };
    after_at = record { world = raft_of src.after; world_is = log_moment past w (suc src.when) src.after (all (suc src.when) src.after src.after_is); here = subst (λ (v : raft_worlds.World Command). slice_get v.servers o.who ≡ Some o.after) after_world o.after_at.here };
    had = o.had ∙ same_first;
    has = o.has ∙ g.same;
  }

  -- a plan was under its token then
  pub plan_born : (e : Entry Command) (plan : AcceptedPlan) → slice_get s.log p ≡ Some e → e.command ≡ commands.Plan plan → PlanBorn past w L k p e plan
  unfolding es ws
  plan_born e plan there is =
      let b = backed n es ws y sh s.log p e plan there is o (desks n nodes es ws y front) in
      record {
        when = b.moment;
        who = b.who;
        before = b.before;
        after = b.after.raft;
        desk = b.desk;
        wait = b.wait;
        by = early b.moment b.after_at.world b.after_at.world_is;
        before_at = record { world = b.before_at.world; world_is = all b.moment b.before_at.world b.before_at.world_is; here = b.before_at.here };
        after_at = server_log past w (suc b.moment) b.who b.after (record { world = b.after_at.world; world_is = all (suc b.moment) b.after_at.world b.after_at.world_is; here = b.after_at.here });
        has = b.has ∙ g.same;
        leads = b.leads;
        term = b.term ∙ term_get s.log p e there;
        is_open = b.is_open;
        is_out = b.is_out;
      }
