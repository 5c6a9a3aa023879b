-- A group that plays the events of a run again is where the run leads.
use Rattle.std.proofs.Common.{◌≡◌, ℕ, Ok, Err, List, [], ◌∷◌, ◌++◌, sym, ◌∙◌, subst}
use Rattle.rows.specs.declared.node.NodeSpec.{NodeSpec}
use Rattle.rows.specs.declared.refusal.Refusal.{Refusal}
use Rattle.group_model.specs.Worlds.{World, Event, first, happens}
use Rattle.world.specs.GroupView.{GroupView, GroupRunsTo, nodes_of}
use Rattle.world.specs.GroupSteps.{IsNewGroup, GroupEventHappened, RefusesGroupEvent}
use Rattle.world.proofs.GroupBegins.{new_group_runs}
use Rattle.cluster.specs.Inner.Runs.{EventsLead, AllHappen, CanHappen, RunsToLast, IsReplayed}

-- an event that can happen is not refused
pub not_refused : (view : GroupView) (e : Event) (r : Refusal) → CanHappen view e →
    RefusesGroupEvent view e r → ⊥
not_refused view e r can refused =
    let same : Ok can.2 ≡ Err r = sym can.4 ∙ refused can.0 can.1 can.3 in
    cc

-- what leads on after an event leads on from the world after it
leads_after : (w next last : World) (e : Event) (es : List Event) → happens w e ≡ Ok next →
    EventsLead w (e ∷ es) last → EventsLead next es last
leads_after w next last e es goes leads =
    let same : Ok leads.0 ≡ Ok next = sym leads.1 ∙ goes in
    let is : leads.0 ≡ next = cc in
    subst (λ (u : World). EventsLead u es last) is leads.2

module _ (n : ℕ) (nodes : List NodeSpec) (all : List Event) where
  pub replay_begins : (view : GroupView) → IsNewGroup n nodes view → AllHappen n nodes all →
      IsReplayed n nodes all [] all view
  replay_begins view new happen =
      let from : (end : World) → EventsLead (first n _) all end →
      EventsLead (first n (nodes_of view)) all end =
      λ end. subst (λ (l : List NodeSpec). EventsLead (first n l) all end) (sym new.nodes_are) in
      record {
        count = new.count;
        nodes_are = new.nodes_are;
        trace = new.trace;
        past = [];
        world = first n (nodes_of view);
        runs = new_group_runs n nodes view new;
        last = happen.0;
        rest = from happen.0 happen.1;
        each = from;
      }

  pub replay_can : (done left rest : List Event) (e : Event) (view : GroupView) → left ≡ e ∷ rest →
      IsReplayed n nodes all done left view → CanHappen view e
  replay_can done left rest e view is r =
      let leads = subst (λ (l : List Event). EventsLead r.world l r.last) is r.rest in
      (r.past, r.world, leads.0, r.runs, leads.1)

  pub replay_next : (done left rest : List Event) (e : Event) (view new : GroupView) →
      left ≡ e ∷ rest → GroupEventHappened view e new → IsReplayed n nodes all done left view →
      IsReplayed n nodes all (done ++ e ∷ []) rest new
  replay_next done left rest e view new is h r =
      let q = h.runs r.past r.world r.runs in
      let on : (end : World) → EventsLead r.world left end → EventsLead q.0 rest end =
      λ end leads. leads_after r.world q.0 end e rest q.1
      (subst (λ (l : List Event). EventsLead r.world l end) is leads) in
      record {
        count = h.size ∙ r.count;
        nodes_are = h.nodes ∙ r.nodes_are;
        trace = h.trace ∙ (λ i. r.trace i ++ e ∷ []);
        past = r.past ++ r.world ∷ [];
        world = q.0;
        runs = q.2;
        last = r.last;
        rest = on r.last r.rest;
        each = λ end leads. on end (r.each end leads);
      }

  pub replay_ends : (done left : List Event) (view : GroupView) → left ≡ [] →
      IsReplayed n nodes all done left view → RunsToLast n nodes all view
  replay_ends done left view is r = λ end leads. (
    r.past,
    subst (λ (w : World). GroupRunsTo view r.past w)
        (subst (λ (l : List Event). EventsLead r.world l end) is (r.each end leads)) r.runs,
  )
