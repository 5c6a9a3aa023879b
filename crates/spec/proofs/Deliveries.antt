-- What an event delivers, and what it leaves outstanding at leaders' desks.
use Rattle.std.proofs.Common.{◌≡◌, ◌≢◌, ℕ, suc, ◌≤◌, ◌⊎◌, inl, inr, Bool, true, false, cond, ◌&&◌, ◌==◌, Option, Some, None, Ok, List, [], ◌∷◌, ◌++◌, length, take, refl, sym, ap, ◌∙◌, subst, arith, slice_get, append-nil}
use Rattle.std.proofs.lemmas.Bool.{and_parts, eqb-true}
use Rattle.std.proofs.lemmas.Option.{same_Some}
use Rattle.rows.specs.declared.node.NodeSpec.{NodeSpec}
use Rattle.rows.specs.declared.evaluation.EvalId.{EvalId}
use Rattle.rows.specs.declared.token.Token.{Token}
use Rattle.rows.specs.declared.command.Command.{Command}
use Rattle.machine_model.specs.declared.entry.Entry.{Entry}
use Rattle.raft_model.specs.Rafts.{Raft, Mode, Down, Follower, Candidate, Leader, is_leader}
use Rattle.raft_model.proofs.Leading.{Leading, goes_on, hears, appends as proposes, wins, step_leads}
use Rattle.raft_model.proofs.Cases.{bool_cases}
use Rattle.raft_safety.proofs.Places.{get_set-same, get_set-cases, get-where, get-one, get-within}
use Rattle.fsm_model.specs.Words.{State}
use Rattle.fsm_model.specs.Effect.{applied}
use Rattle.fsm_model.specs.ClusterMachine.{cluster_spec}
use Rattle.group_model.specs.Brokers.{Free, Task, next_token}
use Rattle.group_model.specs.Desks.{Desk, opened, after_entry, after_entries, applied_state, newly}
use Rattle.group_model.specs.Servers.{Server}
use Rattle.group_model.specs.Worlds.{World, Event, Run, happens, moment, raft_of, raft_part}
use Rattle.group_safety.specs.Claims.{ServerAt, OneList}
use Rattle.group_safety.specs.Desks.{has_own, DeskIs}
use Rattle.group_safety.specs.Deliveries.{deliveries, token_among, token_at, token_in}
use Rattle.group_safety.proofs.Chained as chained
use Rattle.group_safety.proofs.DeskActs.{Like, Gave, gave_none, gave_one}
use Rattle.group_safety.proofs.DeskSteps as desk_steps
use Rattle.group_safety.proofs.DeskSteps.{Handled, quiet}
use Rattle.group_safety.proofs.DeskRuns.{OneSteps, event_servers, desks, server_log}
use Rattle.group_safety.proofs.LedTerms.{IsPast, past_later}
use Rattle.group_safety.proofs.Lists.{get_map}
use Rattle.group_safety.proofs.Moments.{log_moment, to_log}
use Rattle.group_safety.proofs.TaskTokens.{followed_token}
use Rattle.spec.proofs.Outs.{leader_out}

-- ---- a desk follows the log

-- what is outstanding was so, and serials stay; a desk that opens has nothing out
abbrev pub Follows : Option Desk → Option Desk → Type 0
Follows None None = Unit {0}
Follows None (Some e) = (eval : EvalId) (token : Token) → token_among eval e.broker.tasks ≡ Some token → ⊥
Follows (Some d) None = ⊥
Follows (Some d) (Some e) = (e.broker.serial ≡ d.broker.serial) × ((eval : EvalId) (token : Token) → token_among eval e.broker.tasks ≡ Some token → token_among eval d.broker.tasks ≡ Some token)

follows_itself : (o : Option Desk) → Follows o o
follows_itself None = tt
follows_itself (Some d) = (refl, λ eval token h. h)

entry_opens : (b : Bool) (s : State) → Follows None (cond b (Some (opened s)) None)
entry_opens true s = λ eval token h. by (followed_token [] eval token _ h) where
  by : {token : Token} → let none : Option Token = None in none ≡ Some token → ⊥
  by h = cc
entry_opens false s = tt

entry_follows : (term its : ℕ) (s : State) (o : Option Desk) → Follows o (after_entry term its s o)
entry_follows term its s None = entry_opens (its == term) s
entry_follows term its s (Some d) = (refl, λ eval token h. followed_token d.broker.tasks eval token _ h)

follows_both : (a b c : Option Desk) → Follows a b → Follows b c → Follows a c
follows_both None None c f g = g
follows_both None (Some e) None f g = absurd g
follows_both None (Some e) (Some x) f g = λ eval token h. f eval token (g.1 eval token h)
follows_both (Some d) None c f g = absurd f
follows_both (Some d) (Some e) None f g = absurd g
follows_both (Some d) (Some e) (Some x) f g = (g.0 ∙ f.0, λ eval token h. f.1 eval token (g.1 eval token h))

entries_follow : (term : ℕ) (es : List (Entry Command)) (s : State) (o : Option Desk) → Follows o (after_entries term s es o)
entries_follow term [] s o = follows_itself o
entries_follow term (e ∷ es) s o =
    let next : Option Desk = after_entry term e.term (applied s e.command) o in
    follows_both o next (after_entries term (applied s e.command) es next) (entry_follows term e.term (applied s e.command) o) (entries_follow term es (applied s e.command) next)

-- ---- a server's step

-- it led in this term, or it stood in it
abbrev pub Came : Server → Server → Type 0
Came s t = ((is_leader s.raft.mode ≡ true) ⊎ ((votes : List Bool) × (s.raft.mode ≡ Candidate votes))) × (t.raft.term ≡ s.raft.term)

-- its desk after what it made of its input, before the log took its part
pub record Handling (s t : Server) (given : List (EvalId × Token)) : Type 0 where
  pub act : Option Desk
  pub like : Like s.raft.term s.desk act given
  pub follows : is_leader t.raft.mode ≡ true → Follows act t.desk
  pub came : is_leader t.raft.mode ≡ true → Came s t

came_by : (n i : ℕ) (s t : Server) (input : _) → is_leader t.raft.mode ≡ true → Leading cluster_spec n i s.raft input t.raft → Came s t
came_by n i s t input is (goes_on mode term log commit) = (inl (sym (ap is_leader mode) ∙ is), term)
came_by n i s t input is (hears r next match before mode term log commit same) = (inl before, ap (λ (x : Raft Command). x.term) same ∙ term)
came_by n i s t input is (proposes command before asked same) = (inl before, ap (λ (x : Raft Command). x.term) same)
came_by n i s t input is (wins votes mode same) = (inr (votes, mode), ap (λ (x : Raft Command). x.term) same)

handling : (n i : ℕ) (s t : Server) (given : List (EvalId × Token)) → Handled n i s t given → Handling s t given
handling n i s t given (quiet l same) = record {
  act = t.desk;
  like = l;
  follows = λ leads. follows_itself t.desk;
  came = λ leads. (inl (ap (λ (x : Raft Command). is_leader x.mode) (sym same) ∙ leads), ap (λ (x : Raft Command). x.term) same);
}
handling n i s t given (desk_steps.logs input d out l step desk) = record {
  act = d;
  like = l;
  follows = λ leads. subst (Follows d) (sym (desk ∙ ap (λ b. cond b (after_entries t.raft.term (applied_state s.raft) (newly s.raft t.raft) d) None) leads)) (entries_follow t.raft.term (newly s.raft t.raft) (applied_state s.raft) d);
  came = λ leads. came_by n i s t input leads (step_leads cluster_spec n i s.raft input (record { server = t.raft; sent = out }) step leads);
}

-- who has an open desk leads
open_leads : (s : Server) (d : Desk) → DeskIs s → s.desk ≡ Some d → is_leader s.raft.mode ≡ true
open_leads s d (inl h) e = absurd (let q = sym h.0 ∙ e in cc)
open_leads s d (inr h) e = (and_parts (is_leader s.raft.mode) (has_own s.raft.term (take s.raft.commit s.raft.log)) h.2).0

-- ---- who has it

-- a leader of the term, at whose desk the evaluation is outstanding under this token
pub record Holder (servers : List Server) (term : ℕ) (eval : EvalId) (token : Token) : Type 0 where
  pub who : ℕ
  pub server : Server
  pub desk : Desk
  pub here : slice_get servers who ≡ Some server
  pub leads : is_leader server.raft.mode ≡ true
  pub its : server.raft.term ≡ term
  pub is_open : server.desk ≡ Some desk
  pub has : token_among eval desk.broker.tasks ≡ Some token

desk_has : (eval : EvalId) (token : Token) (o : Option Desk) → token_at eval o ≡ Some token → (d : Desk) × (o ≡ Some d) × (token_among eval d.broker.tasks ≡ Some token)
desk_has eval token None h = absurd (cc)
desk_has eval token (Some d) h = (d, refl, h)

holder : (servers : List Server) (term : ℕ) (eval : EvalId) (token : Token) → token_in servers term eval ≡ Some token → Holder servers term eval token
holder [] term eval token h = absurd (cc)
holder (s ∷ servers) term eval token h = elim (bool_cases (is_leader s.raft.mode && (s.raft.term == term))) [
  | inl b ↦
      let q = rw b at h in
      let p = and_parts (is_leader s.raft.mode) (s.raft.term == term) b in
      let f = desk_has eval token s.desk q in
      record { who = 0; server = s; desk = f.0; here = refl; leads = p.0; its = eqb-true s.raft.term term p.1; is_open = f.1; has = f.2 }
  | inr b ↦
      let q = rw b at h in
      let r = holder servers term eval token q in
      record { who = suc r.who; server = r.server; desk = r.desk; here = r.here; leads = r.leads; its = r.its; is_open = r.is_open; has = r.has }
]

leader_parts : {C : Type 0} (s : Raft C) → is_leader s.mode ≡ true → (next : List ℕ) × (match : List ℕ) × (s.mode ≡ Leader next match)
leader_parts s h = by s.mode refl h where
  by : (mode : Mode) → s.mode ≡ mode → is_leader mode ≡ true → (next : List ℕ) × (match : List ℕ) × (s.mode ≡ Leader next match)
  by Down e h = absurd (cc)
  by Follower e h = absurd (cc)
  by (Candidate votes) e h = absurd (cc)
  by (Leader next match) e h = (next, match, e)

module _ (n : ℕ) (nodes : List NodeSpec) (events : List Event) (past : List World) (w : World) (run : Run n nodes events past w) (L : List (Entry Command)) (one : OneList past w L) where
  -- whoever leads a term is its one leader
  pub one_leads : (k l i j : ℕ) (s t : Server) → ServerAt past w k i s → ServerAt past w l j t → is_leader s.raft.mode ≡ true → is_leader t.raft.mode ≡ true → t.raft.term ≡ s.raft.term → i ≡ j
  one_leads k l i j s t a b leads its same =
      let x = leader_parts s.raft leads in
      let y = leader_parts t.raft its in
      one.one_leader k l (raft_of a.world) (raft_of b.world) i j s.raft.term (log_moment past w k a.world a.world_is) (log_moment past w l b.world b.world_is)
      (record { server = s.raft; next = x.0; match = x.1; here = get_map raft_part a.world.servers i s a.here; mode = x.2; term = refl })
      (record { server = t.raft; next = y.0; match = y.1; here = get_map raft_part b.world.servers j t b.here; mode = y.2; term = same })

  -- some server led the term by moment k
  pub record WasLed (k term : ℕ) : Type 0 where
    pub when : ℕ
    pub who : ℕ
    pub server : Server
    pub at : ServerAt past w when who server
    pub by : when ≤ k
    pub leads : is_leader server.raft.mode ≡ true
    pub its : server.raft.term ≡ term

  -- A delivery was made by a leader of its term; and while its term is led, that leader's desk is open
  -- and has used its serial.
  pub record IsMade (k : ℕ) (x : World) (pair : EvalId × Token) : Type 0 where
    pub led : WasLed k pair.1.term
    pub used : (i : ℕ) (s : Server) → slice_get x.servers i ≡ Some s → is_leader s.raft.mode ≡ true → s.raft.term ≡ pair.1.term → (d : Desk) × (s.desk ≡ Some d) × (pair.1.serial ≤ d.broker.serial)

  abbrev pub AreMade : ℕ → World → Type 0
  AreMade k x = (j : ℕ) (pair : EvalId × Token) → slice_get (deliveries x.sent) j ≡ Some pair → IsMade k x pair

  -- What an event delivers: nothing, and whatever is outstanding was so; or one evaluation that was
  -- at the desk of a leader, where nobody had it.
  pub data Delivers (x y : World) : Type 0 where
    nothing : deliveries y.sent ≡ deliveries x.sent →
        ((term : ℕ) (eval : EvalId) (token : Token) → token_in y.servers term eval ≡ Some token → token_in x.servers term eval ≡ Some token) → Delivers x y
    delivery : (i : ℕ) (s : Server) (d : Desk) (j : ℕ) (t : Task) → slice_get x.servers i ≡ Some s → is_leader s.raft.mode ≡ true → s.desk ≡ Some d →
        slice_get d.broker.tasks j ≡ Some t → t.mark ≡ Free →
        deliveries y.sent ≡ deliveries x.sent ++ (t.id, next_token s.raft.term d.broker) ∷ [] →
        ((term : ℕ) (eval : EvalId) (token : Token) → token_in y.servers term eval ≡ Some token →
        ((term ≡ s.raft.term) × (eval ≡ t.id) × (token ≡ next_token s.raft.term d.broker)) ⊎ (token_in x.servers term eval ≡ Some token)) → Delivers x y

  module _ (k : ℕ) (x y : World) (at : moment past w k ≡ Some x) (next : moment past w (suc k) ≡ Some y) where
    old_at : (i : ℕ) (s : Server) → slice_get x.servers i ≡ Some s → ServerAt past w k i s
    old_at i s here = record { world = x; world_is = at; here = here }

    new_at : (i : ℕ) (s : Server) → slice_get y.servers i ≡ Some s → ServerAt past w (suc k) i s
    new_at i s here = record { world = y; world_is = next; here = here }

    -- what a leader's desk has is what the world has
    pub at_leader : (term : ℕ) (eval : EvalId) (i : ℕ) (s : Server) → slice_get x.servers i ≡ Some s → is_leader s.raft.mode ≡ true → s.raft.term ≡ term → token_in x.servers term eval ≡ token_at eval s.desk
    at_leader term eval i s here leads its = leader_out x.servers term eval i s here leads its
        (λ j t there too same. one_leads k k i j s t (old_at i s here) (old_at j t there) leads too (same ∙ sym its))

    held_by : (term : ℕ) (eval : EvalId) (token : Token) (i : ℕ) (s : Server) (d : Desk) → slice_get x.servers i ≡ Some s → is_leader s.raft.mode ≡ true → s.raft.term ≡ term → s.desk ≡ Some d → token_among eval d.broker.tasks ≡ Some token →
        token_in x.servers term eval ≡ Some token
    held_by term eval token i s d here leads its is_open has = at_leader term eval i s here leads its ∙ (ap (token_at eval) is_open ∙ has)

    module _ (o : OneSteps x y) where
      h : Handling o.old o.new o.given
      h = handling (length x.servers) o.place o.old o.new o.given o.handled

      desk_is : DeskIs o.old
      desk_is = desks n nodes events past w run k o.place o.old (old_at o.place o.old o.here)

      -- where a server stands now
      stands : (i : ℕ) (t : Server) → slice_get y.servers i ≡ Some t → ((i ≡ o.place) × (o.new ≡ t)) ⊎ ((i ≢ o.place) × (slice_get x.servers i ≡ Some t))
      stands i t here = get_set-cases x.servers o.place o.new i t (ap (λ l. slice_get l i) (sym o.servers) ∙ here)

      -- who has it now had it before the log took its part
      Acted : ℕ → EvalId → Token → Type 0
      Acted term eval token = ((d : Desk) × (h.act ≡ Some d) × (token_among eval d.broker.tasks ≡ Some token) × (o.old.raft.term ≡ term)) ⊎ (token_in x.servers term eval ≡ Some token)

      unfollow : (eval : EvalId) (token : Token) (act : Option Desk) (e : Desk) → Follows act (Some e) → token_among eval e.broker.tasks ≡ Some token → (d : Desk) × (act ≡ Some d) × (token_among eval d.broker.tasks ≡ Some token)
      unfollow eval token None e f has = absurd (f eval token has)
      unfollow eval token (Some d) e f has = (d, refl, f.1 eval token has)

      acted : (term : ℕ) (eval : EvalId) (token : Token) → token_in y.servers term eval ≡ Some token → Acted term eval token
      unfolding Acted
      acted term eval token is =
          let v = holder y.servers term eval token is in
          elim (stands v.who v.server v.here) [
            | inl q ↦
                let leads : is_leader o.new.raft.mode ≡ true = ap (λ (z : Server). is_leader z.raft.mode) q.1 ∙ v.leads in
                let c = h.came leads in
                let f = unfollow eval token h.act v.desk (subst (Follows h.act) (ap (λ (z : Server). z.desk) q.1 ∙ v.is_open) (h.follows leads)) v.has in
                inl (f.0, f.1, f.2, sym c.1 ∙ (ap (λ (z : Server). z.raft.term) q.1 ∙ v.its))
            | inr q ↦ inr (held_by term eval token v.who v.server v.desk q.1 v.leads v.its v.is_open v.has)
          ]

      -- by what was delivered
      by_gave : (d e : Desk) → o.old.desk ≡ Some d → h.act ≡ Some e → (given : List (EvalId × Token)) → o.given ≡ given → Gave o.old.raft.term d e given → Delivers x y
      unfolding Acted
      by_gave d e is_old is_act given same (gave_none serial stays) = nothing
          (o.sent ∙ (ap (λ l. deliveries x.sent ++ l) same ∙ append-nil (deliveries x.sent)))
          (λ term eval token is. elim (acted term eval token is) [
            | inl a ↦
                let now : a.0 ≡ e = same_Some a.0 e (sym a.1 ∙ is_act) in
                held_by term eval token o.place o.old d o.here (open_leads o.old d desk_is is_old) a.3 is_old (stays eval token (ap (λ (z : Desk). token_among eval z.broker.tasks) (sym now) ∙ a.2))
            | inr a ↦ a
          ])
      by_gave d e is_old is_act given same (gave_one j t there free serial stays) = delivery o.place o.old d j t o.here (open_leads o.old d desk_is is_old) is_old there free
          (o.sent ∙ ap (λ l. deliveries x.sent ++ l) same)
          (λ term eval token is. elim (acted term eval token is) [
            | inl a ↦
                let now : a.0 ≡ e = same_Some a.0 e (sym a.1 ∙ is_act) in
                elim (stays eval token (ap (λ (z : Desk). token_among eval z.broker.tasks) (sym now) ∙ a.2)) [
                  | inl c ↦ inl (sym a.3, c.0, c.1)
                  | inr c ↦ inr (held_by term eval token o.place o.old d o.here (open_leads o.old d desk_is is_old) a.3 is_old c)
                ]
            | inr a ↦ inr a
          ])

      by_like : (a b : Option Desk) → o.old.desk ≡ a → h.act ≡ b → Like o.old.raft.term a b o.given → Delivers x y
      unfolding Acted
      by_like None None is_old is_act l = nothing
          (o.sent ∙ (ap (λ g. deliveries x.sent ++ g) l ∙ append-nil (deliveries x.sent)))
          (λ term eval token is. elim (acted term eval token is) [
            | inl a ↦ absurd (let q = sym is_act ∙ a.1 in cc)
            | inr a ↦ a
          ])
      by_like None (Some e) is_old is_act l = absurd l
      by_like (Some d) None is_old is_act l = absurd l
      by_like (Some d) (Some e) is_old is_act l = by_gave d e is_old is_act o.given refl l.gave

      one_delivers : Delivers x y
      one_delivers = by_like o.old.desk h.act refl refl h.like

      -- ---- what was used stays so

      -- a desk that was open stays open, and its serials do not fall
      serial_rises : (term : ℕ) (d e : Desk) (given : List (EvalId × Token)) → Gave term d e given → d.broker.serial ≤ e.broker.serial
      serial_rises term d e given (gave_none serial stays) = omega (arith, serial)
      serial_rises term d e given (gave_one j t there free serial stays) = omega (arith, serial)

      stays_open : (m : ℕ) (a b c : Option Desk) (d : Desk) → a ≡ Some d → m ≤ d.broker.serial → Like o.old.raft.term a b o.given → Follows b c → (e : Desk) × (c ≡ Some e) × (m ≤ e.broker.serial)
      stays_open m None b c d is le l f = absurd (cc)
      stays_open m (Some v) None c d is le l f = absurd l
      stays_open m (Some v) (Some e) None d is le l f = absurd f
      stays_open m (Some v) (Some e) (Some z) d is le l f = (z, refl, omega (arith, le, serial_rises o.old.raft.term v e o.given l.gave, f.0, ap (λ (q : Desk). q.broker.serial) (same_Some v d is)))

      -- who led the term is no candidate of it now
      no_return : (term : ℕ) → WasLed k term → (votes : List Bool) → o.old.raft.mode ≡ Candidate votes → o.old.raft.term ≡ term → is_leader o.new.raft.mode ≡ true → o.new.raft.term ≡ term → ⊥
      no_return term led votes mode its leads now =
          let who : led.who ≡ o.place = one_leads led.when (suc k) led.who o.place led.server o.new led.at (new_at o.place o.new new_here) led.leads leads (now ∙ sym led.its) in
          let p = chained.shadow n nodes events past w run in
          let a = to_log n events past w p led.when o.place led.server.raft (server_log past w led.when o.place led.server (subst (λ i. ServerAt past w led.when i led.server) who led.at)) in
          let b = to_log n events past w p k o.place o.old.raft (server_log past w k o.place o.old (old_at o.place o.old o.here)) in
          let l = leader_parts led.server.raft led.leads in
          let q : IsPast term o.old.raft = past_later cluster_spec n p.log_events p.log_past (raft_of w) p.run term (p.place led.when) (p.place k) o.place led.server.raft o.old.raft (p.ordered led.when k led.by) a b
          (inr (led.its, λ v e. let z = sym l.2 ∙ e in cc)) in
          elim q [ inl less ↦ omega (arith, less, its) | inr g ↦ g.1 votes mode ]
        where
          new_here : slice_get y.servers o.place ≡ Some o.new
          new_here = ap (λ l. slice_get l o.place) o.servers ∙ get_set-same x.servers o.place o.new (get-within x.servers o.place o.old o.here)

      still_used : (pair : EvalId × Token) → IsMade k x pair → (i : ℕ) (t : Server) → slice_get y.servers i ≡ Some t → is_leader t.raft.mode ≡ true → t.raft.term ≡ pair.1.term → (d : Desk) × (t.desk ≡ Some d) × (pair.1.serial ≤ d.broker.serial)
      still_used pair made i t here leads its = elim (stands i t here) [
        | inr q ↦ made.used i t q.1 leads its
        | inl q ↦
            let now : is_leader o.new.raft.mode ≡ true = ap (λ (z : Server). is_leader z.raft.mode) q.1 ∙ leads in
            let term : o.new.raft.term ≡ pair.1.term = ap (λ (z : Server). z.raft.term) q.1 ∙ its in
            let c = h.came now in
            elim c.0 [
              | inl led ↦
                  let u = made.used o.place o.old o.here led (sym c.1 ∙ term) in
                  let r = stays_open pair.1.serial o.old.desk h.act o.new.desk u.0 u.1 u.2 h.like (h.follows now) in
                  (r.0, ap (λ (z : Server). z.desk) (sym q.1) ∙ r.1, r.2)
              | inr stood ↦ absurd (no_return pair.1.term made.led stood.0 stood.1 (sym c.1 ∙ term) now term)
            ]
      ]

      later_made : (pair : EvalId × Token) → IsMade k x pair → IsMade (suc k) y pair
      later_made pair made = let l = made.led in record {
        led = record { when = l.when; who = l.who; server = l.server; at = l.at; by = omega (arith, l.by); leads = l.leads; its = l.its };
        used = still_used pair made;
      }

      -- what is delivered now
      now_gave : (d e : Desk) → o.old.desk ≡ Some d → h.act ≡ Some e → (given : List (EvalId × Token)) → Gave o.old.raft.term d e given → (j : ℕ) (pair : EvalId × Token) → slice_get given j ≡ Some pair → IsMade (suc k) y pair
      now_gave d e is_old is_act given (gave_none serial stays) j pair there = absurd (cc)
      now_gave d e is_old is_act given (gave_one p t here free serial stays) j pair there = subst (IsMade (suc k) y) (get-one (t.id, next_token o.old.raft.term d.broker) j pair there) (record {
        led = record { when = k; who = o.place; server = o.old; at = old_at o.place o.old o.here; by = omega arith; leads = open_leads o.old d desk_is is_old; its = refl };
        used = λ i u at_u leads its. elim (stands i u at_u) [
          | inr q ↦ absurd (q.0 (sym (one_leads k k o.place i o.old u (old_at o.place o.old o.here) (old_at i u q.1) (open_leads o.old d desk_is is_old) leads its)))
          | inl q ↦
              let now : is_leader o.new.raft.mode ≡ true = ap (λ (z : Server). is_leader z.raft.mode) q.1 ∙ leads in
              let r = stays_at (suc d.broker.serial) h.act o.new.desk e is_act (omega (arith, serial)) (h.follows now) in
              (r.0, ap (λ (z : Server). z.desk) (sym q.1) ∙ r.1, r.2)
        ];
      }) where
        stays_at : (m : ℕ) (b c : Option Desk) (e : Desk) → b ≡ Some e → m ≤ e.broker.serial → Follows b c → (z : Desk) × (c ≡ Some z) × (m ≤ z.broker.serial)
        stays_at m None c e is le f = absurd (cc)
        stays_at m (Some v) None e is le f = absurd f
        stays_at m (Some v) (Some z) e is le f = (z, refl, omega (arith, le, f.0, ap (λ (q : Desk). q.broker.serial) (same_Some v e is)))

      now_like : (a b : Option Desk) → o.old.desk ≡ a → h.act ≡ b → Like o.old.raft.term a b o.given → (j : ℕ) (pair : EvalId × Token) → slice_get o.given j ≡ Some pair → IsMade (suc k) y pair
      now_like None None is_old is_act l j pair there = absurd (let q = ap (λ g. slice_get g j) (sym l) ∙ there in cc)
      now_like None (Some e) is_old is_act l j pair there = absurd l
      now_like (Some d) None is_old is_act l j pair there = absurd l
      now_like (Some d) (Some e) is_old is_act l j pair there = now_gave d e is_old is_act o.given l.gave j pair there

      one_made : AreMade k x → AreMade (suc k) y
      one_made made j pair there = elim (get-where (deliveries x.sent) o.given j pair (ap (λ l. slice_get l j) (sym o.sent) ∙ there)) [
        | inl q ↦ later_made pair (made j pair q.1)
        | inr q ↦ now_like o.old.desk h.act refl refl h.like q.1.0 pair q.1.1
      ]

    pub event_delivers : (e : Event) → happens x e ≡ Ok y → Delivers x y
    event_delivers e happened = elim (event_servers x y e happened) [
      | inl q ↦ nothing q.1 (λ term eval token is. ap (λ l. token_in l term eval) (sym q.0) ∙ is)
      | inr o ↦ one_delivers o
    ]

    pub event_made : (e : Event) → happens x e ≡ Ok y → AreMade k x → AreMade (suc k) y
    event_made e happened made = elim (event_servers x y e happened) [
      | inl q ↦ λ j pair there.
          let m = made j pair (ap (λ l. slice_get l j) (sym q.1) ∙ there) in
          let l = m.led in
          record {
            led = record { when = l.when; who = l.who; server = l.server; at = l.at; by = omega (arith, l.by); leads = l.leads; its = l.its };
            used = λ i s here. m.used i s (ap (λ v. slice_get v i) (sym q.0) ∙ here);
          }
      | inr o ↦ one_made o made
    ]
