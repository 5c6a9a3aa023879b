-- What stands in the trace of a group: deliveries of what was sent, and inputs of the actors' own.
use Rattle.std.proofs.Common.{◌≡◌, ℕ, ◌<◌, ◌≤◌, Option, Some, None, Ok, List, [], ◌∷◌, ◌++◌, length, refl, sym, subst, arith, slice_get}
use Rattle.std.proofs.lemmas.Option.{slice_get_within}
use Rattle.std.specs.List.{AllByRecursion}
use Rattle.rows.specs.declared.node.NodeSpec.{NodeSpec}
use Rattle.fsm_model.specs.ClusterMachine.{cluster_spec}
use Rattle.group_model.specs.Messages.{GroupMessage}
use Rattle.group_model.specs.Inputs as inputs
use Rattle.group_model.specs.Agents as agents
use Rattle.group_model.specs.Worlds.{World, Event, Deliver, AtServer, AtClient, happens, delivers}
use Rattle.group_safety.specs.Limits.{LimitedRun, start, more}
use Rattle.group_safety.proofs.Showings.{event_goes}
use Rattle.group_frames.specs.GroupFrames.{CarriesGroup}
use Rattle.world.specs.GroupView.{GroupView, GroupInvariant, nodes_of}
use Rattle.world.specs.GroupClaims.{IsTraced}
use Rattle.world.proofs.Zips.{zip_length}

-- what was sent so far is still so when more was sent
still : (sent later : ℕ) (e : Event) → sent ≤ later → IsTraced sent e → IsTraced later e
still sent later (Deliver k) h t = omega (arith, h, t)
still sent later (AtServer i (inputs.Arrives message)) h t = absurd t
still sent later (AtServer i input) h t = tt
still sent later (AtClient c (agents.Arrives from response)) h t = absurd t
still sent later (AtClient c input) h t = tt

one_more : (sent later : ℕ) (events : List Event) (e : Event) → sent ≤ later → AllByRecursion (IsTraced sent) events → IsTraced sent e → AllByRecursion (IsTraced later) (events ++ e ∷ [])
one_more sent later [] e h all t = (still sent later e h t, tt)
one_more sent later (x ∷ events) e h all t = (still sent later x h all.0, one_more sent later events e h all.1 t)

delivered : (w next : World) (k : ℕ) (o : Option GroupMessage) → slice_get w.sent k ≡ o → delivers w o ≡ Ok next → k < length w.sent
delivered w next k None is h = absurd (cc)
delivered w next k (Some message) is h = slice_get_within w.sent k message is

happened : (w next : World) (e : Event) → happens w e ≡ Ok next → IsTraced (length w.sent) e
happened w next (Deliver k) h = delivered w next k (slice_get w.sent k) refl h
happened w next (AtServer i (inputs.Arrives message)) h = absurd (cc)
happened w next (AtServer i input) h = tt
happened w next (AtClient c (agents.Arrives from response)) h = absurd (cc)
happened w next (AtClient c input) h = tt

append_length : {A : Type 0} (xs ys : List A) → length xs ≤ length (xs ++ ys)
append_length [] ys = omega arith
append_length (x ∷ xs) ys = let h = append_length xs ys in omega (arith, h)

traced : (n : ℕ) (nodes : List NodeSpec) (events : List Event) (past : List World) (w : World) → LimitedRun n nodes events past w → AllByRecursion (IsTraced (length w.sent)) events
traced n nodes events past w start = tt
traced n nodes events past w (more {events = es} {past = before} {w = last} e next run fits so) =
    let g = event_goes last next e so in
    let grown : length last.sent ≤ length next.sent = subst (λ (l : List GroupMessage). length last.sent ≤ length l) (sym g.sent) (append_length last.sent g.more) in
    one_more (length last.sent) (length next.sent) es e grown (traced n nodes es before last run) (happened last next e so)

pub group_traced : (view : GroupView) → GroupInvariant view → AllByRecursion (IsTraced (length view.outbox.frames)) view.trace
group_traced view r =
    let q = r.runs in
    subst (λ (m : ℕ). AllByRecursion (IsTraced m) view.trace) (sym (zip_length (CarriesGroup cluster_spec) view.outbox.frames r.world.sent q.refines.sent))
    (traced (length view.servers) (nodes_of view) view.trace r.past r.world q.run)
