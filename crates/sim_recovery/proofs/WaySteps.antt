-- The events of a way back: each is one of four kinds, and has a line.
use Rattle.std.proofs.Common.{Err, IfOk, Ok, OnOk, Result, String, Vec, string_bytes, ◌≡◌, ◌∙◌, ◌+◌, ◌<◌, ◌^◌, ℕ, List, [], ◌∷◌, ◌++◌, ap, arith, cond, count_by, length, map, refl, subst, sym}
use Rattle.std.specs.List.{AllByRecursion}
use Rattle.std.proofs.lemmas.List.Sums.{sum_by-cons}
use Rattle.std.specs.declared.alloc.Global.{Global}
use Rattle.rows.specs.declared.refusal.NoMemory.{NoMemory}
use Rattle.group_inputs.specs.declared.event.Event.{Event as GroupEvent}
use Rattle.group_inputs.specs.Events.{group_events}
use Rattle.event_texts.specs.EventLines.{HasLine, event_line}
use Rattle.rows.specs.declared.node.NodeSpec.{NodeSpec}
use Rattle.sim_recovery.specs.declared.counts.Counts.{Counts}
use Rattle.sim_recovery.specs.declared.recovering.Back.{Back}
use Rattle.sim_recovery.specs.Inner.Backs.{IsBack}
use Rattle.sim_recovery.specs.Recoveries.{IsWayBack}
use Rattle.group_model.specs.Inputs as inputs
use Rattle.group_model.specs.Worlds.{World, Event, Deliver, AtServer, AtClient, raft_of}
use Rattle.group_progress.specs.GroupRecovery.{GroupRecovery, no_event, a_delivery, a_timeout, a_beat}
use Rattle.world.specs.GroupClaims.{IsTraced, OneGroupList}
use Rattle.world.specs.GroupView.{GroupView}
use Rattle.recovery.specs.GroupRestarting.{AreGroupSettled, GroupRecovers, restart_of}
use Rattle.recovery.specs.GroupSettling.{GroupSettles, IsGroupSettled, group_events_of}
use Rattle.recovery.specs.Restarting.{downs}
use Rattle.sim_recovery.specs.declared.counts.Kind.{Kind}
use Rattle.sim_recovery.specs.declared.counts.Kind.TheVariants as kinds
use Rattle.sim_recovery.specs.Steps.{AreCounts, is_of}
use Rattle.sim_recovery.specs.Inner.Steps.{IsStep, IsWayInput, IsWayStep}

-- ---- lists

pub all_append : {X : Type 0} (P : X → Type 0) (xs ys : List X) → AllByRecursion P xs → AllByRecursion P ys → AllByRecursion P (xs ++ ys)
all_append P [] ys first second = second
all_append P (x ∷ xs) ys first second = (first.0, all_append P xs ys first.1 second)

all_behind : {X : Type 0} (P : X → Type 0) (xs ys : List X) → AllByRecursion P (xs ++ ys) → AllByRecursion P ys
all_behind P [] ys all = all
all_behind P (x ∷ xs) ys all = all_behind P xs ys all.1

-- ---- the kinds

-- so it is with each event of a recovery
pub plain_recovery : (i : ℕ) (w : World) (t b : ℕ) (v : World) (r : GroupRecovery i w t b v) → AllByRecursion IsWayStep (group_events_of i w t b v r)
unfolding group_events_of
plain_recovery i w t b v no_event = tt
plain_recovery i w t b v (a_delivery {t = t1} {b = b1} {x = x} place y r new is h) =
    all_append IsWayStep (group_events_of i w t1 b1 x r) (Deliver place ∷ []) (plain_recovery i w t1 b1 x r) (tt, tt)
plain_recovery i w t b v (a_timeout {t = t1} {b = b1} {x = x} y r is h) =
    all_append IsWayStep (group_events_of i w t1 b1 x r) (AtServer i inputs.Timeout ∷ []) (plain_recovery i w t1 b1 x r) (tt, tt)
plain_recovery i w t b v (a_beat {t = t1} {b = b1} {x = x} y r is h) =
    all_append IsWayStep (group_events_of i w t1 b1 x r) (AtServer i inputs.Beat ∷ []) (plain_recovery i w t1 b1 x r) (tt, tt)

-- where a message that came was sent, it has a number
one_step : (sent : ℕ) (event : Event) → sent < 2 ^ 64 → IsTraced sent event → IsWayStep event → IsStep event
one_step sent (Deliver place) few is plain = omega (arith, few, is)
one_step sent (AtServer server input) few is plain = plain
one_step sent (AtClient client input) few is plain = plain

steps_of : (sent : ℕ) (events : List Event) → sent < 2 ^ 64 → AllByRecursion (IsTraced sent) events → AllByRecursion IsWayStep events → AllByRecursion IsStep events
steps_of sent [] few are plain = tt
steps_of sent (event ∷ events) few are plain = (one_step sent event few are.0 plain.0, steps_of sent events few are.1 plain.1)

-- of the events behind others in a trace
pub steps_behind : (sent : ℕ) (trace old taken : List Event) → sent < 2 ^ 64 → trace ≡ old ++ taken → AllByRecursion (IsTraced sent) trace → AllByRecursion IsWayStep taken → AllByRecursion IsStep taken
steps_behind sent trace old taken few is are plain =
    steps_of sent taken few (all_behind (IsTraced sent) old taken (subst (AllByRecursion (IsTraced sent)) is are)) plain

-- ---- how many there are

abbrev one_of : Kind → Event → ℕ
one_of kind event = cond (is_of kind event) 1 0

one_input : (s : ℕ) (input : inputs.Input) → IsWayInput input → let e = AtServer s input in
    ((one_of kinds.Restart e + one_of kinds.Timeout e) + one_of kinds.Beat e) + one_of kinds.Message e ≡ 1
one_input s (inputs.Arrives message) is = absurd is
one_input s inputs.Timeout is = refl
one_input s inputs.Beat is = refl
one_input s (inputs.Request request) is = absurd is
one_input s (inputs.TakeFrom to) is = absurd is
one_input s (inputs.SubmitTo to plan) is = absurd is
one_input s (inputs.FinishAt to eval token outcome) is = absurd is
one_input s (inputs.NackAt to eval token) is = absurd is
one_input s inputs.PlanTurn is = absurd is
one_input s (inputs.Lapse eval) is = absurd is
one_input s (inputs.Expire node beats) is = absurd is
one_input s (inputs.DrainTurn node) is = absurd is
one_input s inputs.FreeTurn is = absurd is
one_input s inputs.Reap is = absurd is
one_input s inputs.Compact is = absurd is
one_input s inputs.Crash is = absurd is
one_input s inputs.Restart is = refl

one_event : (e : Event) → IsWayStep e → ((one_of kinds.Restart e + one_of kinds.Timeout e) + one_of kinds.Beat e) + one_of kinds.Message e ≡ 1
one_event (Deliver place) is = refl
one_event (AtServer server input) is = one_input server input is
one_event (AtClient client input) is = absurd is

-- as many as of the four kinds together
pub all_counted : (events : List Event) → AllByRecursion IsWayStep events
    → length events ≡ ((count_by (is_of kinds.Restart) events + count_by (is_of kinds.Timeout) events) + count_by (is_of kinds.Beat) events) + count_by (is_of kinds.Message) events
all_counted [] are = refl
all_counted (e ∷ events) are =
    let one = one_event e are.0 in
    let rest = all_counted events are.1 in
    let a = sum_by-cons (one_of kinds.Restart) e events in
    let b = sum_by-cons (one_of kinds.Timeout) e events in
    let c = sum_by-cons (one_of kinds.Beat) e events in
    let d = sum_by-cons (one_of kinds.Message) e events in
    omega (arith, one, rest, a, b, c, d)

-- ---- of groups that are brought back

-- the events by which all servers settle
pub plain_recovers : (n who : ℕ) (taken : List Event) (w v : World) → GroupRecovers n who taken w v → AllByRecursion IsWayStep taken
plain_recovers n who taken w v is =
    let s = is.can.settles in
    let restarts = map restart_of (downs n (raft_of w)) in
    let later = group_events_of s.who is.can.world s.timeouts s.beats s.world s.recovery in
    subst (AllByRecursion IsWayStep) (sym is.taken_are)
    (all_append IsWayStep restarts later (plain_restarts (downs n (raft_of w))) (plain_recovery s.who is.can.world s.timeouts s.beats s.world s.recovery))
  where
    plain_restarts : (who : List ℕ) → AllByRecursion IsWayStep (map restart_of who)
    plain_restarts [] = tt
    plain_restarts (i ∷ is) = (tt, plain_restarts is)

-- those by which the servers that are up settle
pub plain_settles : (n who : ℕ) (taken : List Event) (w v : World) → GroupSettles n who taken w v → AllByRecursion IsWayStep taken
plain_settles n who taken w v is =
    subst (AllByRecursion IsWayStep) is.taken_are (plain_recovery is.can.who w is.can.timeouts is.can.beats is.can.world is.can.recovery)

-- the value has a run, of which this is so
pub plain_all : (old new : GroupView) (who : ℕ) → OneGroupList old → (settled : AreGroupSettled old new who) → AllByRecursion IsWayStep settled.went.0
plain_all old new who has settled =
    let goes = settled.went.1.runs has.past has.world has.runs in
    plain_recovers (length old.servers) who settled.went.0 has.world goes.1 goes.3

pub plain_up : (old new : GroupView) (who : ℕ) → OneGroupList old → (settled : IsGroupSettled old new who) → AllByRecursion IsWayStep settled.went.0
plain_up old new who has settled =
    let goes = settled.went.1.runs has.past has.world has.runs in
    plain_settles (length old.servers) who settled.went.0 has.world goes.1 goes.3

-- ---- their lines

-- of events that are these
pub lines_are : (r : Result (Vec (String Global) Global) NoMemory) (events : List GroupEvent) (taken : List Event) → group_events events ≡ taken
    → OnOk r (AllByRecursion HasLine (group_events events)) → IfOk r (λ lines. map string_bytes lines.items ≡ map event_line (group_events events))
    → IfOk r (λ lines. AllByRecursion HasLine taken × (map string_bytes lines.items ≡ map event_line taken))
lines_are (Ok lines) events taken same have are = (subst (AllByRecursion HasLine) same have, are ∙ ap (map event_line) same)
lines_are (Err e) events taken same have are = tt

-- ---- a way back, with its counts

pub way_of : (servers : ℕ) (nodes : List NodeSpec) (events : List Event) (b : Back) (counts : Counts) (back : IsBack servers nodes events b) → AreCounts back.taken counts
    → IsWayBack servers nodes events b.leader counts back.taken
way_of servers nodes events b counts back are =
    let sum = all_counted back.taken back.came.steps in
    let a = are.restarts in
    let t = are.timeouts in
    let e = are.beats in
    let m = are.messages in
    let all = are.events in
    record {
      group = back.group;
      moment = back.moment;
      brings = record { back = b.world; settled = back.settled; trace = back.trace };
      counted = are;
      all = omega (arith, sum, a, t, e, m, all);
    }
