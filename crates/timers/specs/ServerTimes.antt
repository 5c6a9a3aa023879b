-- What a server does by itself once so many milliseconds have passed.
use Rattle.std.specs.Prelude.{◌≡◌, ℕ, zero, ◌+◌, ◌==◌, ◌&&◌, ◌||◌, Bool, true, false, not, if◌then◌else◌, nat_lt, nat_le, List, [], ◌∷◌, ◌++◌, map, filter}
use Rattle.timers.specs.declared.settings.Settings.{Settings}
use Rattle.timers.specs.declared.period.Period.{Period}
use Rattle.timers.specs.declared.watch.Sighting.{Sighting}
use Rattle.timers.specs.declared.watch.Sighting.TheVariants as sightings
use Rattle.timers.specs.declared.watch.Watched.{Watched}
use Rattle.timers.specs.declared.due.Due.{Due}
use Rattle.timers.specs.declared.due.Due.TheVariants.{Timeout, Compact, Take, PlanTurn, FreeTurn, Reap, Lapse, Expire, DrainTurn}
use Rattle.timers.specs.declared.due.Seen.{Seen}
use Rattle.timers.specs.declared.due.Looked.{Looked}
use Rattle.timers.specs.Periods.{is_due, later}
use Rattle.timers.specs.Waits.{Waiting, first_wait, is_over, waited, waits_anew}
use Rattle.timers.specs.Watches.{is_long, watch_all}

-- how long a server has waited for each
pub record ServerTimes : Type 0 where
  pub settings : Settings
  pub election : Waiting
  pub beat : Period
  -- the last entry of its log at its last beat, as leader
  pub beaten : ℕ
  pub compact : Period
  pub take : Period
  pub plan : Period
  pub free : Period
  pub reap : Period
  -- how long ago it last looked, in which term that was, and what it saw
  pub looked : ℕ
  pub term : ℕ
  pub nodes : List Watched
  pub deliveries : List Watched

-- what is seen where it looks
pub record Sights : Type 0 where
  pub nodes : List Sighting
  pub deliveries : List Sighting
  pub drained : List ℕ

abbrev pub sights : Looked → Sights
sights l = record { nodes = l.nodes.now; deliveries = l.deliveries.now; drained = l.drained.now }

abbrev pub period : ℕ → Period
period every = record { every = every; passed = 0 }

-- nothing has passed
abbrev pub begun : Settings → ℕ → ServerTimes
begun s seed = record {
  settings = s;
  election = first_wait s seed;
  beat = period s.beat;
  beaten = 0;
  compact = period s.compact;
  take = period s.take;
  plan = period s.plan;
  free = period s.free;
  reap = period s.reap;
  looked = 0;
  term = 0;
  nodes = [];
  deliveries = [];
}

-- ---- where it looks

-- whether it looks once so many milliseconds have passed
abbrev pub looks : ℕ → ServerTimes → Bool
looks ms t = nat_le t.settings.look (t.looked + ms)

-- what was seen in this term
abbrev pub of_term : ℕ → ℕ → List Watched → List Watched
of_term term its before = if its == term then before else []

-- what becomes due of what is seen
abbrev pub due_of : Sighting → Due
due_of (sightings.Node node beats) = Expire node beats
due_of (sightings.Delivery eval token) = Lapse eval

abbrev pub too_long : ℕ → ℕ → List Watched → List Sighting → List Due
too_long grace ms before seen = map due_of (filter (is_long grace ms before) seen)

abbrev pub at_look : ℕ → ServerTimes → Seen → Sights → List Due
at_look ms t seen s =
    too_long t.settings.lapse (t.looked + ms) (of_term seen.term t.term t.deliveries) s.deliveries
    ++ (too_long t.settings.expire (t.looked + ms) (of_term seen.term t.term t.nodes) s.nodes
    ++ map DrainTurn s.drained)

-- ---- all that is due

-- this, if so
abbrev pub once : Bool → Due → List Due
once so due = if so then due ∷ [] else []

-- what a leader's desk does
abbrev pub of_leader : ℕ → ServerTimes → Seen → Sights → List Due
of_leader ms t seen s =
    once (is_due ms t.plan) PlanTurn
    ++ (once (is_due ms t.free) FreeTurn
    ++ (once (is_due ms t.reap) Reap
    ++ (if looks ms t then at_look ms t seen s else [])))

-- What is due of a server once so many milliseconds have passed: a Timeout where it does not lead
-- and its wait is over, a Compact and a Take in their turns, where it has idle workers; and what its
-- desk does where it leads.
abbrev pub due_after : ℕ → ServerTimes → Seen → Sights → List Due
due_after ms t seen s =
    once (not seen.leads && is_over ms t.election) Timeout
    ++ (once (is_due ms t.compact) Compact
    ++ (once (seen.idle && is_due ms t.take) Take
    ++ (if seen.leads then of_leader ms t seen s else [])))

-- ---- what is left of it

-- a leader waits for none
abbrev pub waits_on : ℕ → Bool → Waiting → Waiting
waits_on ms true w = waits_anew w
waits_on ms false w = waited ms w

-- what a leader watches from now on; nothing, where it does not lead
abbrev pub watches_on : ℕ → ℕ → List Watched → List Sighting → Bool → List Watched
watches_on grace ms before seen leads = if leads then watch_all grace ms before seen else []

abbrev pub looked_after : ℕ → ServerTimes → Seen → Sights → ServerTimes
looked_after ms t seen s = record t {
  looked = 0;
  term = seen.term;
  nodes = watches_on t.settings.expire (t.looked + ms) (of_term seen.term t.term t.nodes) s.nodes seen.leads;
  deliveries = watches_on t.settings.lapse (t.looked + ms) (of_term seen.term t.term t.deliveries) s.deliveries seen.leads;
}

abbrev pub turned : ℕ → Seen → ServerTimes → ServerTimes
turned ms seen t = record t {
  election = waits_on ms seen.leads t.election;
  compact = later ms t.compact;
  take = later ms t.take;
  plan = later ms t.plan;
  free = later ms t.free;
  reap = later ms t.reap;
}

-- once so many milliseconds have passed
abbrev pub times_after : ℕ → ServerTimes → Seen → Sights → ServerTimes
times_after ms t seen s = turned ms seen (if looks ms t then looked_after ms t seen s else record t { looked = t.looked + ms })

-- ---- beats

-- it has entries that it has not beaten yet, and all that it did beat are applied
abbrev pub is_eager : ℕ → ℕ → ℕ → Bool
is_eager beaten last applied = nat_lt beaten last && nat_le beaten applied

-- A leader beats in its turn, and where it is eager.
abbrev pub beats : ℕ → ServerTimes → Bool → ℕ → ℕ → Bool
beats ms t leads last applied = leads && (is_due ms t.beat || is_eager t.beaten last applied)

abbrev pub beaten_after : ServerTimes → Bool → Bool → ℕ → ℕ
beaten_after t true leads last = last
beaten_after t false true last = t.beaten
beaten_after t false false last = 0

abbrev pub beat_after : ℕ → ServerTimes → Bool → ℕ → ℕ → ServerTimes
beat_after ms t leads last applied = record t { beat = later ms t.beat; beaten = beaten_after t (beats ms t leads last applied) leads last }
