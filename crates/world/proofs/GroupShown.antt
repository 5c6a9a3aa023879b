-- What a group has shown.
use Rattle.std.proofs.Common.{◌≡◌, ℕ, inl, inr, Result, Ok, Err, IfOk, OnErr, Option, Some, None, List, [], ◌∷◌, ◌++◌, length, map, refl, sym, ap, ◌∙◌, subst, arith, slice_get}
use Rattle.std.proofs.lemmas.List.{length-append}
use Rattle.rows.specs.declared.node.NodeSpec.{NodeSpec}
use Rattle.rows.specs.declared.refusal.Refusal.{Refusal}
use Rattle.group_model.specs.Servers.{Server}
use Rattle.group_model.specs.Worlds.{World, Event, first, raft_part}
use Rattle.group_safety.specs.Claims.{EachRun}
use Rattle.group_safety.specs.Limits.{LimitedRun, LimitsAreKept, start, more}
use Rattle.group_safety.proofs.Lists.{get_map, map_append, map_length}
use Rattle.client_agent.specs.AgentView.{AgentView}
use Rattle.server.specs.ServerViews.{SameServer}
use Rattle.spec.specs.Visible.{Visible, Behavior}
use Rattle.spec.specs.Refinement.{started_by, state_shown, visible_in, ShowsSpec}
use Rattle.world.specs.declared.done.Done.{Done}
use Rattle.world.specs.declared.done.Done.TheVariants.{Taken, Crashed}
use Rattle.world.specs.GroupView.{GroupView, GroupRunsTo, GroupInvariant, nodes_of, node_in, client_in}
use Rattle.world.specs.GroupSteps.{GroupEventHappened, IsGroupDone, SameView, IsNewGroup}
use Rattle.world.specs.GroupClaims.{OneGroupList, state_of}
use Rattle.world.specs.GroupShown.{HasShown, ShownSoFar, ShownAfter, OfTheLast, seen_state, started_in, CarryDeliveries, ShownBySpec}
use Rattle.world.proofs.GroupReplays.{run_length}
use Rattle.world.proofs.GroupRuns.{group_run_is_one}
use Rattle.world.proofs.GroupStates.{get_map_none}
use Rattle.world.proofs.Runs.{ends_alike, no_end}
use Rattle.world.proofs.Zips.{zip_length}

-- ---- what was shown first

pub shown_first : (n : ℕ) (nodes : List NodeSpec) (view : GroupView) → IsNewGroup n nodes view → (now : Visible) × HasShown view (now ∷ [])
shown_first n nodes view new = (
  visible_in (first n (nodes_of view)),
  record {
    past = [];
    world = first n (nodes_of view);
    run = subst (λ l. LimitedRun (length view.servers) (nodes_of view) l [] (first n (nodes_of view))) (sym new.trace)
        (subst (λ m. LimitedRun m (nodes_of view) [] [] (first n (nodes_of view))) (sym new.count) start);
    is = refl;
  },
)

-- ---- and next

-- a run without its last event
before_last : (n : ℕ) (nodes : List NodeSpec) (all : List Event) (past : List World) (w : World) → LimitedRun n nodes all past w → (es : List Event) (e : Event) → all ≡ es ++ e ∷ [] →
    (before : List World) × (last : World) × (past ≡ before ++ last ∷ []) × LimitedRun n nodes es before last
before_last n nodes all past w start es e q = absurd (no_end es e (sym q))
before_last n nodes all past w (more {events = fs} {past = before} {w = last} f next run fits so) es e q =
    (before, last, refl, subst (λ l. LimitedRun n nodes l before last) (ends_alike fs es f e q).0 run)

module _ (old new : GroupView) (size : length new.servers ≡ length old.servers) (nodes : nodes_of new ≡ nodes_of old) where
  shown_next : (e : Event) → new.trace ≡ old.trace ++ e ∷ [] → (past : List World) (w : World) → GroupRunsTo new past w → (shown : List Visible) → HasShown old shown → (now : Visible) × HasShown new (shown ++ now ∷ [])
  shown_next e trace past w runs shown h =
      let b = before_last (length new.servers) (nodes_of new) new.trace past w runs.run old.trace e trace in
      let was = subst (λ m. LimitedRun m (nodes_of new) old.trace h.past h.world) (sym size) (subst (λ l. LimitedRun (length old.servers) l old.trace h.past h.world) (sym nodes) h.run) in
      let same = group_run_is_one (length new.servers) (nodes_of new) old.trace old.trace h.past b.0 h.world b.1 refl was b.3 in
      let all : h.past ++ h.world ∷ [] ≡ past = (λ i. same.0 i ++ same.1 i ∷ []) ∙ sym b.2 in (
        visible_in w,
        record {
          past = past;
          world = w;
          run = runs.run;
          is = ap (λ l. l ++ visible_in w ∷ []) (h.is ∙ ap (map visible_in) all) ∙ sym (map_append visible_in past (w ∷ []));
        },
      )

  shown_still : new.trace ≡ old.trace → (shown : List Visible) → HasShown old shown → HasShown new shown
  shown_still trace shown h = record {
    past = h.past;
    world = h.world;
    run = subst (λ l. LimitedRun (length new.servers) (nodes_of new) l h.past h.world) (sym trace)
        (subst (λ m. LimitedRun m (nodes_of new) old.trace h.past h.world) (sym size) (subst (λ l. LimitedRun (length old.servers) l old.trace h.past h.world) (sym nodes) h.run));
    is = h.is;
  }

-- a value that differs in what waits for workers alone
pub shown_fetched : (old new : GroupView) → new.servers ≡ old.servers → new.clients ≡ old.clients → new.trace ≡ old.trace → (shown : List Visible) → HasShown old shown → HasShown new shown
shown_fetched old new servers clients trace shown h = shown_still old new (ap length servers) (ap (map node_in) clients) trace shown h

shown_same : (old new : GroupView) → new ≡ old → (shown : List Visible) → HasShown old shown → HasShown new shown
shown_same old new same shown h = subst (λ (v : GroupView). HasShown v shown) (sym same) h

module _ (old new : GroupView) (e : Event) (l : OneGroupList new) (shown : List Visible) (h : HasShown old shown) where
  happened : (f : Event) → GroupEventHappened old f new → (now : Visible) × HasShown new (shown ++ now ∷ [])
  happened f q = shown_next old new q.size q.nodes f q.trace l.past l.world l.runs shown h

  done_shown : (done : Done) → IsGroupDone old e done new → ShownAfter (Ok done) new shown
  done_shown Taken q = happened e q
  done_shown Crashed (inl q) = inr (let c = q.crash in happened c q.happened)
  done_shown Crashed (inr q) = inl (shown_same old new q.same shown h)

  refused_shown : SameView old new → HasShown new shown
  refused_shown q = shown_still old new (sym (zip_length SameServer old.servers new.servers q.servers)) (ap (map node_in) q.clients) q.trace shown h

-- ---- what is shown last

module _ (view : GroupView) (past : List World) (w : World) (runs : GroupRunsTo view past w) (shown : List Visible) (now : Visible) (h : HasShown view (shown ++ now ∷ [])) where
  last_is : now ≡ visible_in w
  last_is =
      let same = group_run_is_one (length view.servers) (nodes_of view) view.trace view.trace h.past past h.world w refl h.run runs.run in
      let q = ends_alike shown (map visible_in h.past) now (visible_in h.world) (h.is ∙ map_append visible_in h.past (h.world ∷ [])) in
      q.1 ∙ ap visible_in same.1

  pub last_state : (i : ℕ) → seen_state now i ≡ state_of w i
  last_state i = ap (λ (v : Visible). seen_state v i) last_is ∙ by (slice_get w.servers i) refl where
    by : (o : Option Server) → slice_get w.servers i ≡ o → seen_state (visible_in w) i ≡ state_of w i
    by None at = rw (get_map_none state_shown w.servers i at, get_map_none raft_part w.servers i at) refl
    by (Some s) at = rw (get_map state_shown w.servers i s at, get_map raft_part w.servers i s at) refl

  pub last_started : now.started ≡ map started_in view.clients
  last_started =
      let st = runs.refines in
      ap (λ (v : Visible). v.started) last_is ∙ (ap (map started_by) (sym st.clients) ∙ mapped view.clients)
    where
      mapped : (clients : List AgentView) → map started_by (map client_in clients) ≡ map started_in clients
      mapped [] = refl
      mapped (c ∷ clients) = ap (λ l. started_in c ∷ l) (mapped clients)

  pub last_delivered : CarryDeliveries view.outbox.frames now
  last_delivered = let st = runs.refines in record {
    messages = w.sent;
    carried = st.sent;
    delivered = ap (λ (v : Visible). v.delivered) last_is;
  }

-- ---- all that was shown

pub shown_so_far : (view : GroupView) → GroupInvariant view → ShownSoFar view
shown_so_far view r =
    let q = r.runs in
    let moments = run_length (length view.servers) (nodes_of view) view.trace r.past r.world q.run in
    let all = length-append r.past (r.world ∷ []) in (
      map visible_in (r.past ++ r.world ∷ []),
      record { past = r.past; world = r.world; run = q.run; is = refl },
      map_length visible_in (r.past ++ r.world ∷ []) ∙ omega (arith, moments, all),
    )

pub shown_by_spec : (view : GroupView) → GroupInvariant view → LimitsAreKept → EachRun (λ n nodes events past w. ShowsSpec n nodes past w) → ShownBySpec view
shown_by_spec view r limits spec shown h =
    let run = limits (length view.servers) (nodes_of view) view.trace h.past h.world r.nodes h.run in
    let s = spec (length view.servers) (nodes_of view) view.trace h.past h.world run in
    let count : length (nodes_of view) ≡ length view.clients = map_length node_in view.clients in
    let n = length view.servers in
    (s.0, subst (λ l. Behavior n (length view.clients) l s.0) (sym h.is) (subst (λ c. Behavior n c (map visible_in (h.past ++ h.world ∷ [])) s.0) count s.1))

pub clients_shown : (view : GroupView) → GroupInvariant view → OfTheLast view (λ now. now.started ≡ map started_in view.clients)
clients_shown view r shown now h = last_started view r.past r.world r.runs shown now h

pub sent_shown : (view : GroupView) → GroupInvariant view → OfTheLast view (λ now. CarryDeliveries view.outbox.frames now)
sent_shown view r shown now h = last_delivered view r.past r.world r.runs shown now h

pub step_shown : (old new : GroupView) (e : Event) (result : Result Done Refusal) → IfOk result (λ done. IsGroupDone old e done new) → OnErr result (SameView old new) → OneGroupList new →
    (shown : List Visible) → HasShown old shown → ShownAfter result new shown
step_shown old new e (Ok done) ok err l shown h = done_shown old new e l shown h done ok
step_shown old new e (Err refusal) ok err l shown h = refused_shown old new e l shown h err
