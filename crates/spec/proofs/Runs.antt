-- Each run of the group is one of the specification.
use Rattle.std.proofs.Common.{◌≡◌, ℕ, zero, suc, ◌≤◌, inl, inr, Some, None, Ok, List, [], ◌∷◌, ◌++◌, length, map, take, replicate, refl, sym, ap, ◌∙◌, subst, arith, slice_get, take_all}
use Rattle.std.proofs.lemmas.Option.{same_Some}
use Rattle.rows.specs.declared.node.NodeSpec.{NodeSpec}
use Rattle.rows.specs.declared.evaluation.EvalId.{EvalId}
use Rattle.rows.specs.declared.command.Command.{Command}
use Rattle.machine_model.specs.declared.entry.Entry.{Entry}
use Rattle.raft_model.specs.Rafts.{Raft, newcomer}
use Rattle.raft_model.specs.Worlds as raft_worlds
use Rattle.raft_model.specs.Chains.{Agree}
use Rattle.raft_safety.proofs.Places.{get-within, get-last, get-where, get-some, push_length}
use Rattle.group_model.specs.Servers as servers
use Rattle.group_model.specs.Servers.{Server}
use Rattle.group_model.specs.Worlds.{World, Event, Run, start, more, first, happens, IsEvent, agents_from, moment, raft_of, raft_part}
use Rattle.group_safety.specs.Claims.{OneList, LogAt, logs}
use Rattle.group_safety.proofs.Chained as chained
use Rattle.group_safety.proofs.GroupRuns.{run_front, run_step}
use Rattle.group_safety.proofs.Lists.{get_map}
use Rattle.group_safety.proofs.Moments.{of_moment}
use Rattle.spec.specs.Spec.{SpecState, init, Actions}
use Rattle.group_safety.specs.Deliveries.{deliveries, token_in}
use Rattle.spec.specs.Refinement.{last_applied_by, started_by, Refines, begins, moves, Shows, RefinesSpec}
use Rattle.raft_safety.proofs.Reach.{far, far_bound, reach, reach_agree, then_bound, then_reached}
use Rattle.raft_safety.proofs.Logs.{agree_none}
use Rattle.spec.proofs.Born.{take_one}
use Rattle.spec.proofs.Deliveries.{AreMade, event_made}
use Rattle.spec.proofs.Steps.{state, stepped, shown, long, done, matched, counted, counted_less, counted_up}

-- ---- the first world

first_servers : (n : ℕ) → map last_applied_by (replicate n servers.newcomer) ≡ replicate n (Some 0)
first_servers zero = refl
first_servers (suc n) = ap (λ l. Some 0 ∷ l) (first_servers n)

first_clients : (k : ℕ) (nodes : List NodeSpec) → map started_by (agents_from k nodes) ≡ replicate (length nodes) []
first_clients k [] = refl
first_clients k (node ∷ nodes) = ap (λ l. [] ∷ l) (first_clients (suc k) nodes)

first_out : (n : ℕ) (term : ℕ) (eval : EvalId) → token_in (replicate n servers.newcomer) term eval ≡ None
first_out zero term eval = refl
first_out (suc n) term eval = first_out n term eval

first_raft : (n i : ℕ) (s : Raft Command) → slice_get (map raft_part (replicate n servers.newcomer)) i ≡ Some s → newcomer ≡ s
first_raft zero i s h = absurd (cc)
first_raft (suc n) zero s h = same_Some newcomer s h
first_raft (suc n) (suc i) s h = first_raft n i s h

none_is : (list : List (Entry Command)) → length list ≡ 0 → list ≡ []
none_is [] e = refl
none_is (x ∷ list) e = absurd (omega (arith, e))

run_first : (n : ℕ) (nodes : List NodeSpec) (events : List Event) (past : List World) (w : World) → Run n nodes events past w → length past ≡ 0 → w ≡ first n nodes
run_first n nodes events past w start e = refl
run_first n nodes events past w (more {past = before} {w = last} f next r is h) e = absurd (omega (arith, e, push_length before last))

module _ (n : ℕ) (nodes : List NodeSpec) (events : List Event) (past : List World) (w : World) (run : Run n nodes events past w) (L : List (Entry Command)) (one : OneList past w L) where
  St : ℕ → World → SpecState
  St k x = state n nodes events past w run L one k x

  begin_is : (x : World) → moment past w 0 ≡ Some x → x ≡ first n nodes
  begin_is x at = run_first n nodes (take 0 events) (take 0 past) x (run_front n nodes events past w run 0 x at) refl

  at_first : (x : World) → moment past w 0 ≡ Some x → (j i : ℕ) (s : Raft Command) → LogAt past w j i s → j ≤ 0 → newcomer ≡ s
  at_first x at j i s a le =
      let y = of_moment past w j a.world a.world_is in
      let now : j ≡ 0 = omega (arith, le) in
      let same : y.0 ≡ first n nodes = begin_is y.0 (ap (moment past w) (sym now) ∙ y.1) in
      first_raft n i s (ap (λ (v : World). slice_get (raft_of v).servers i) (sym same) ∙ (ap (λ (v : raft_worlds.World Command). slice_get v.servers i) y.2 ∙ a.here))

  none_long : (x : World) → moment past w 0 ≡ Some x → long n nodes events past w run L one 0 ≡ 0
  unfolding long far
  none_long x at = elim (then_reached (logs past) (raft_of w) (reach (logs past) (raft_of w) L) 0) [
    | inl e ↦ e
    | inr h ↦
        let new = at_first x at h.when h.who h.server h.at h.by in
        let g = reach_agree (logs past) (raft_of w) L (matched n nodes events past w run L one) one h.when h.who h.server h.at in
        omega (arith, h.is, g.left, ap (λ (v : Raft Command). length v.log) new)
  ]

  none_done : (x : World) → moment past w 0 ≡ Some x → done n nodes events past w run L one 0 ≡ 0
  unfolding done
  none_done x at = elim (then_reached (logs past) (raft_of w) counted 0) [
    | inl e ↦ e
    | inr h ↦
        let new = at_first x at h.when h.who h.server h.at h.by in
        omega (arith, h.is, counted_less h.server, ap (λ (v : Raft Command). v.commit) new)
  ]

  begin_state : (x : World) → moment past w 0 ≡ Some x → St 0 x ≡ init n (length nodes)
  unfolding St state
  begin_state x at =
      let same = begin_is x at in
      (λ j. record {
        log = ap (λ k. take k L) (none_long x at) j;
        committed = none_done x at j;
        last_applied = (ap (λ (v : World). map last_applied_by v.servers) same ∙ first_servers n) j;
        started = (ap (λ (v : World). map started_by v.clients) same ∙ first_clients 1 nodes) j;
        outstanding = λ term eval. (ap (λ (v : World). token_in v.servers term eval) same ∙ first_out n term eval) j;
        delivered = ap (λ (v : World). deliveries v.sent) same j;
      })

  begin_shows : Shows (first n nodes) (init n (length nodes))
  begin_shows = record {
    servers = first_servers n;
    entries = λ i s here. let q = get_map raft_part (replicate n servers.newcomer) i s here in let e = first_raft n i s.raft q in
        subst (λ (r : Raft Command). Agree r.commit r.log []) e (agree_none [] []);
    clients = first_clients 1 nodes;
    outstanding = first_out n;
    delivered = refl;
  }

  all_made : (k : ℕ) (x : World) → moment past w k ≡ Some x → AreMade n nodes events past w run L one k x
  all_made zero x at = λ j pair there. absurd (let q = ap (λ (v : World). slice_get (deliveries v.sent) j) (sym (begin_is x at)) ∙ there in cc)
  all_made (suc k) y next =
      let within = get-within (past ++ w ∷ []) (suc k) y next in
      let x = get-some (past ++ w ∷ []) k (omega (arith, within)) in
      let h = run_step n nodes events past w run k x.0 y x.1 next in
      event_made n nodes events past w run L one k x.0 y x.1 next h.event h.happens (all_made k x.0 x.1)

  comes : (k : ℕ) (x : World) → moment past w k ≡ Some x → Refines n nodes (take k past) x (St k x)
  unfolding St
  comes zero x at = subst (λ (g : SpecState). Refines n nodes [] x g) (sym (begin_state x at)) (subst (λ v. Refines n nodes [] v (init n (length nodes))) (sym (begin_is x at)) (begins begin_shows))
  comes (suc k) y next =
      let within = get-within (past ++ w ∷ []) (suc k) y next in
      let x = get-some (past ++ w ∷ []) k (omega (arith, within)) in
      let here : slice_get past k ≡ Some x.0 = elim (get-where past (w ∷ []) k x.0 x.1) [
        | inl q ↦ q.1
        | inr q ↦ absurd (omega (arith, q.0, within, push_length past w))
      ] in
      let h = run_step n nodes events past w run k x.0 y x.1 next in
      subst (λ ws. Refines n nodes ws y (St (suc k) y)) (sym (take_one k past x.0 here))
      (moves y (St (suc k) y) (comes k x.0 x.1) (goes_on k x.0 y x.1 next (all_made k x.0 x.1) h.event h.is h.happens) (shows_it (suc k) y next)) where
        goes_on : (k : ℕ) (x y : World) → moment past w k ≡ Some x → moment past w (suc k) ≡ Some y → AreMade n nodes events past w run L one k x → (e : Event) → IsEvent x e → happens x e ≡ Ok y → Actions (St k x) (St (suc k) y)
        goes_on k x y at next made e is h = stepped n nodes events past w run L one k x y at next made e is h

        shows_it : (k : ℕ) (x : World) → moment past w k ≡ Some x → Shows x (St k x)
        shows_it k x at = shown n nodes events past w run L one k x at

  all_long : take (long n nodes events past w run L one (length past)) L ≡ L
  unfolding long
  all_long = elim one.longest [
    | inl e ↦ subst (λ l. take (far (logs past) (raft_of w) L (matched n nodes events past w run L one) one (length past)) l ≡ l) (sym e) (take_nothing (far (logs past) (raft_of w) L (matched n nodes events past w run L one) one (length past)))
    | inr c ↦
        let whole : Agree (length L) c.server.log L = subst (λ j. Agree j c.server.log L) c.commit (one.agrees c.moment c.who c.server c.at) in
        let y = of_moment past w c.moment c.at.world c.at.world_is in
        let within = get-within (past ++ w ∷ []) c.moment y.0 y.1 in
        take_all _ L (far_bound (logs past) (raft_of w) L (matched n nodes events past w run L one) one c.moment (length past) c.who (length L) c.server c.at (omega (arith, within, push_length past w)) whole)
  ] where
    take_nothing : (k : ℕ) → let none : List (Entry Command) = [] in take k none ≡ none
    take_nothing zero = refl
    take_nothing (suc k) = refl

  all_done : done n nodes events past w run L one (length past) ≡ length L
  unfolding done
  all_done = elim one.longest [
    | inl e ↦ elim (then_reached (logs past) (raft_of w) counted (length past)) [
      | inl z ↦ z ∙ sym (ap length e)
      | inr h ↦ let a = one.agrees h.when h.who h.server h.at in omega (arith, h.is, counted_less h.server, a.right, ap length e)
    ]
    | inr c ↦
        let y = of_moment past w c.moment c.at.world c.at.world_is in
        let within = get-within (past ++ w ∷ []) c.moment y.0 y.1 in
        let low = then_bound (logs past) (raft_of w) counted c.moment (length past) c.who c.server c.at (omega (arith, within, push_length past w)) in
        elim (then_reached (logs past) (raft_of w) counted (length past)) [
          | inl z ↦ omega (arith, z, low, counted_up c.server c.up, c.commit)
          | inr h ↦ let a = one.agrees h.when h.who h.server h.at in omega (arith, h.is, counted_less h.server, a.right, low, counted_up c.server c.up, c.commit)
        ]
  ]

  pub refined : RefinesSpec n nodes past w
  unfolding St state
  refined = record {
    last = St (length past) w;
    refines = subst (λ ws. Refines n nodes ws w (St (length past) w)) (take_all (length past) past (omega arith)) (comes (length past) w (get-last past w));
    list = subst (λ l. OneList past w l) (sym all_long) one;
    committed = all_done ∙ sym (ap length all_long);
  }

pub every_run : (n : ℕ) (nodes : List NodeSpec) (events : List Event) (past : List World) (w : World) → Run n nodes events past w → RefinesSpec n nodes past w
every_run n nodes events past w run =
    let l = chained.one_list n nodes events past w run in
    refined n nodes events past w run l.0 l.1
